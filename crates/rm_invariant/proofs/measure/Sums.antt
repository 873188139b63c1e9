-- What is added to a queue, to what awaits or to the rows of applications adds its weight, and what is taken takes it away.
use Rattle.rm_invariant.proofs.Common.{◌≡◌, ℕ, ◌+◌, ◌≤◌, List, [], ◌∷◌, ◌++◌, Option, None, Some, drop, refl, ap, arith, map-append, sum_by-cons, sum_by-append, AppId, Op, is_app, MainEvent, SchedEvent, AppRow, row_in, row_of, slot_of, with_row, without_row}
use Rattle.std.proofs.Common.{sum_by}
use Rattle.std.specs.Map.{values_of}
use Rattle.std.proofs.lemmas.Map.Entries.{sum_by-set_value}
use Rattle.rm_invariant.specs.measure.Measure.{main_measure, op_measure, row_measure, rows_measure, sched_measure, slot_measure}

-- one more at the end
pub main_push : (most : ℕ) (xs : List MainEvent) (e : MainEvent) → sum_by (main_measure most) (xs ++ e ∷ []) ≡ sum_by (main_measure most) xs + main_measure most e
main_push most xs e = omega (arith, sum_by-append (main_measure most) xs (e ∷ []), sum_by-cons (main_measure most) e [])

pub sched_push : (xs : List SchedEvent) (e : SchedEvent) → sum_by sched_measure (xs ++ e ∷ []) ≡ sum_by sched_measure xs + sched_measure e
sched_push xs e = omega (arith, sum_by-append sched_measure xs (e ∷ []), sum_by-cons sched_measure e [])

pub op_push : (most : ℕ) (xs : List Op) (op : Op) → sum_by (op_measure most) (xs ++ op ∷ []) ≡ sum_by (op_measure most) xs + op_measure most op
op_push most xs op = omega (arith, sum_by-append (op_measure most) xs (op ∷ []), sum_by-cons (op_measure most) op [])

-- the first is taken
pub main_front : (most : ℕ) (xs : List MainEvent) (e : MainEvent) (rest : List MainEvent) → xs ≡ e ∷ rest → sum_by (main_measure most) xs ≡ main_measure most e + sum_by (main_measure most) (drop 1 xs)
main_front most xs e rest front = rw front (sum_by-cons (main_measure most) e rest)

pub sched_front : (xs : List SchedEvent) (e : SchedEvent) (rest : List SchedEvent) → xs ≡ e ∷ rest → sum_by sched_measure xs ≡ sched_measure e + sum_by sched_measure (drop 1 xs)
sched_front xs e rest front = rw front (sum_by-cons sched_measure e rest)

pub op_front : (most : ℕ) (xs : List Op) (op : Op) (rest : List Op) → xs ≡ op ∷ rest → sum_by (op_measure most) xs ≡ op_measure most op + sum_by (op_measure most) (drop 1 xs)
op_front most xs op rest front = rw front (sum_by-cons (op_measure most) op rest)

-- a row that is found stands in its slot
slot_found : (slot : Option (Option AppRow)) (row : AppRow) → row_in slot ≡ Some row → slot ≡ Some (Some row)
slot_found None row e = cc
slot_found (Some None) row e = cc
slot_found (Some (Some one)) row e = let same : one ≡ row = cc in ap (λ (r : AppRow). Some (Some r)) same

module _ (most : ℕ) where
  -- the row of an application changes
  pub row_changes : (change : AppRow → AppRow) (id : AppId) (rows : List (AppId × Option AppRow)) (row : AppRow) → row_of rows id ≡ Some row
      → rows_measure most (with_row change id rows) + row_measure most row ≡ rows_measure most rows + row_measure most (change row)
  row_changes change id rows row found =
      let slot : slot_of rows id ≡ Some (Some row) = slot_found (slot_of rows id) row found in
      rw slot (sum_by-set_value (slot_measure most) (is_app id) rows (Some row) (Some (change row)) slot)

  -- and where it isn't known, or weighs at most so much more
  pub row_rises : (more : ℕ) (change : AppRow → AppRow) (id : AppId) (rows : List (AppId × Option AppRow)) → ((row : AppRow) → row_measure most (change row) ≤ row_measure most row + more)
      → rows_measure most (with_row change id rows) ≤ rows_measure most rows + more
  row_rises more change id rows each = by (slot_of rows id) refl
    where
      by : (slot : Option (Option AppRow)) → slot_of rows id ≡ slot → rows_measure most (with_row change id rows) ≤ rows_measure most rows + more
      by None e = rw e (omega arith)
      by (Some None) e = rw e (let x = sum_by-set_value (slot_measure most) (is_app id) rows None None e in omega (arith, x))
      by (Some (Some row)) e = rw e (let x = sum_by-set_value (slot_measure most) (is_app id) rows (Some row) (Some (change row)) e in omega (arith, x, each row))

  -- the row of an application is removed
  pub row_removed : (id : AppId) (rows : List (AppId × Option AppRow)) → rows_measure most (without_row id rows) ≤ rows_measure most rows
  row_removed id rows = by (slot_of rows id) refl
    where
      by : (slot : Option (Option AppRow)) → slot_of rows id ≡ slot → rows_measure most (without_row id rows) ≤ rows_measure most rows
      by None e = rw e (omega arith)
      by (Some slot) e = rw e (let x = sum_by-set_value (slot_measure most) (is_app id) rows slot None e in omega (arith, x))

  -- one more row
  pub row_joins : (id : AppId) (row : AppRow) (rows : List (AppId × Option AppRow)) → rows_measure most (rows ++ (id, Some row) ∷ []) ≡ rows_measure most rows + row_measure most row
  row_joins id row rows =
      rw (map-append (λ (one : AppId × Option AppRow). one.1) rows ((id, Some row) ∷ []))
      (omega (arith, sum_by-append (slot_measure most) (values_of rows) (Some row ∷ []), sum_by-cons (slot_measure most) (Some row) []))
