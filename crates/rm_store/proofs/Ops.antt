-- Lists of operations: what one more of them changes, and what their frames say of them.
use Rattle.rm_store.proofs.Common.{◌≡◌, ◌+◌, Bool, true, false, List, [], ◌∷◌, ◌++◌, length, fold, None, refl, arith, All, All-nil, All-cons, Op, IsOperation, Records, no_records, records, recorded, fits_records, stray, stray_from}
use Rattle.std.proofs.lemmas.List.Elements.{All-append}

-- the records of one operation more
recorded_more : (r : Records) (ops : List Op) (op : Op) → fold recorded r (ops ++ op ∷ []) ≡ recorded (fold recorded r ops) op
recorded_more r [] op = refl
recorded_more r (one ∷ ops) op = recorded_more (recorded r one) ops op

pub records_push : (ops : List Op) (op : Op) → records (ops ++ op ∷ []) ≡ recorded (records ops) op
records_push ops op = recorded_more no_records ops op

-- each operation is told
told_more : (r : Records) (ops : List Op) → (fold recorded r ops).applied ≡ r.applied + length ops
told_more r [] = omega arith
told_more r (op ∷ ops) = let h = told_more (recorded r op) ops in omega (arith, h)

pub told_count : (ops : List Op) → (records ops).applied ≡ length ops
told_count ops = let h = told_more no_records ops in omega (arith, h)

-- an operation that fits leaves none stray
fits_more : (r : Records) (ops : List Op) (op : Op) → stray_from r ops ≡ None → fits_records (fold recorded r ops) op ≡ true → stray_from r (ops ++ op ∷ []) ≡ None
fits_more r [] op s f = rw f refl
fits_more r (one ∷ ops) op s f = by (fits_records r one) refl (fits_more (recorded r one) ops op)
  where
    by : (b : Bool) → fits_records r one ≡ b → (stray_from (recorded r one) ops ≡ None → fits_records (fold recorded (recorded r one) ops) op ≡ true → stray_from (recorded r one) (ops ++ op ∷ []) ≡ None)
        → stray_from r ((one ∷ ops) ++ op ∷ []) ≡ None
    by true e more = let s' = rw e at s in rw e (more s' f)
    by false e more = absurd (let s' = rw e at s in cc)

pub stray_push : (ops : List Op) (op : Op) → stray ops ≡ None → fits_records (records ops) op ≡ true → stray (ops ++ op ∷ []) ≡ None
stray_push ops op s f = fits_more no_records ops op s f

-- where none is stray, each fits those before it
fits_before : (r : Records) (ops : List Op) (op : Op) (more : List Op) → stray_from r (ops ++ op ∷ more) ≡ None → fits_records (fold recorded r ops) op ≡ true
fits_before r [] op more s = by (fits_records r op) refl
  where
    by : (b : Bool) → fits_records r op ≡ b → fits_records r op ≡ true
    by true e = e
    by false e = absurd (let s' = rw e at s in cc)
fits_before r (one ∷ ops) op more s = by (fits_records r one) refl (fits_before (recorded r one) ops op more)
  where
    by : (b : Bool) → fits_records r one ≡ b → (stray_from (recorded r one) (ops ++ op ∷ more) ≡ None → fits_records (fold recorded (recorded r one) ops) op ≡ true)
        → fits_records (fold recorded (recorded r one) ops) op ≡ true
    by true e next = next (let s' = rw e at s in s')
    by false e next = absurd (let s' = rw e at s in cc)

pub fits_there : (ops : List Op) (op : Op) (more : List Op) → stray (ops ++ op ∷ more) ≡ None → fits_records (records ops) op ≡ true
fits_there ops op more s = fits_before no_records ops op more s

pub framed_push : (ops : List Op) (op : Op) → All IsOperation ops → IsOperation op → All IsOperation (ops ++ op ∷ [])
framed_push ops op all can = All-append IsOperation ops (op ∷ []) all (All-cons IsOperation op [] can (All-nil IsOperation))
