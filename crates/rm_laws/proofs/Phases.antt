-- Each entry that is allowed leads from one phase of a life to one.
use Rattle.rm_laws.proofs.Common.{◌≡◌, ◌⊎◌, ℕ, ◌+◌, ◌≤◌, List, [], ◌∷◌, ◌++◌, Bool, true, false, ◌||◌, Option, None, Some, drop, refl, sym, ap, subst, arith, ◌∙◌, inl, inr, append-nil, slice_get, list_any-append, list_any, Op, Epoch, App, Attempt, AttemptEnd, AppEnd, Remove, LifeState, Manager, opening_state, is_epoch_op, MayOpen, life_keeps}
use Rattle.rm_model.specs.Changes.{kept_after_landing}
use Rattle.rm_laws.proofs.Stamps.{IsBetween, IsClosed, IsOpened, Phase, Sound, next-push, next_of, stored, stored-push}
use Rattle.rm_laws.proofs.Served.{Same, SameAll, plain}

-- the state with these parts
abbrev pub state : List Op → List Op → Bool → Option LifeState → Manager
state kept awaiting blew life = record { kept = kept; awaiting = awaiting; blew = blew; life = life }

pub phase_same : (kept awaiting : List Op) (old new : LifeState) → Same old new → Phase kept awaiting (Some old) → Phase kept awaiting (Some new)
phase_same kept awaiting old new e (inl c) =
    inl (record { closed = e.is_open ∙ c.closed; rises = rw e.stamp c.rises; follows = e.epoch ∙ c.follows; awaits = rw (e.epoch, e.stamp) c.awaits })
phase_same kept awaiting old new e (inr o) =
    inr (record { opened = e.is_open ∙ o.opened; stamped = o.stamped ∙ sym e.stamp; follows = rw e.epoch o.follows; awaits = o.awaits })

any-push : (p : Op → Bool) (ops : List Op) (op : Op) → list_any p ops ≡ false → p op ≡ false → list_any p (ops ++ op ∷ []) ≡ false
any-push p ops op a b = list_any-append p ops (op ∷ []) ∙ rw (a, b) refl

none_first : (p : Op → Bool) (op : Op) (ops : List Op) → list_any p (op ∷ ops) ≡ false → (p op ≡ false) × (list_any p ops ≡ false)
none_first p op ops h = go (p op) (list_any p ops) refl refl h
  where
    go : (a b : Bool) → p op ≡ a → list_any p ops ≡ b → (a || b) ≡ false → (p op ≡ false) × (list_any p ops ≡ false)
    go false false x y h = (x, y)
    go false true x y h = cc
    go true b x y h = cc

none_dropped : (p : Op → Bool) (ops : List Op) → list_any p ops ≡ false → list_any p (drop 1 ops) ≡ false
none_dropped p [] h = refl
none_dropped p (op ∷ ops) h = (none_first p op ops h).1

-- what isn't an Epoch records neither stamp nor epoch
pub stays : (kept : List Op) (op : Op) → is_epoch_op op ≡ false → (stored (kept ++ op ∷ []) ≡ stored kept) × (next_of (kept ++ op ∷ []) ≡ next_of kept)
stays kept (Epoch next stamp) h = cc
stays kept (App id submission) h = (stored-push kept (App id submission), next-push kept (App id submission))
stays kept (Attempt id master node) h = (stored-push kept (Attempt id master node), next-push kept (Attempt id master node))
stays kept (AttemptEnd id how text) h = (stored-push kept (AttemptEnd id how text), next-push kept (AttemptEnd id how text))
stays kept (AppEnd id how text) h = (stored-push kept (AppEnd id how text), next-push kept (AppEnd id how text))
stays kept (Remove id) h = (stored-push kept (Remove id), next-push kept (Remove id))

pub first_other : (op : Op) (awaiting : List Op) → slice_get awaiting 0 ≡ Some op → list_any is_epoch_op awaiting ≡ false → is_epoch_op op ≡ false
first_other op [] first none = cc
first_other op (x ∷ ops) first none =
    let same : x ≡ op = cc in
    subst (λ (one : Op). is_epoch_op one ≡ false) same (none_first is_epoch_op x ops none).0

-- the life after an operation is kept that isn't an Epoch
pub life_kept : (life : LifeState) (op : Op) → is_epoch_op op ≡ false → SameAll life (record (life_keeps life op) { handed = false })
life_kept life (Epoch next stamp) h = cc
life_kept life (App id submission) h = plain refl refl refl refl refl
life_kept life (Attempt id master node) h = plain refl refl refl refl refl
life_kept life (AttemptEnd id how text) h = plain refl refl refl refl refl
life_kept life (AppEnd id how text) h = plain refl refl refl refl refl
life_kept life (Remove id) h = plain refl refl refl refl refl

-- the numbers of a life, and what it gave, stay whatever is kept
pub life_keeps_all : (life : LifeState) (op : Op) → ((life_keeps life op).epoch ≡ life.epoch) × ((life_keeps life op).stamp ≡ life.stamp) × ((life_keeps life op).given ≡ life.given) × ((life_keeps life op).granted ≡ life.granted)
life_keeps_all life (Epoch next stamp) = (refl, refl, refl, refl)
life_keeps_all life (App id submission) = (refl, refl, refl, refl)
life_keeps_all life (Attempt id master node) = (refl, refl, refl, refl)
life_keeps_all life (AttemptEnd id how text) = (refl, refl, refl, refl)
life_keeps_all life (AppEnd id how text) = (refl, refl, refl, refl)
life_keeps_all life (Remove id) = (refl, refl, refl, refl)

-- a closed life's first awaiting operation is its Epoch
pub own_epoch : (kept awaiting : List Op) (life : LifeState) (op : Op) → IsClosed kept awaiting life → slice_get awaiting 0 ≡ Some op
    → (Epoch (life.epoch + 1) life.stamp ≡ op) × (drop 1 awaiting ≡ [])
own_epoch kept awaiting life op c first = go c.awaits
  where
    go : (awaiting ≡ []) ⊎ (awaiting ≡ Epoch (life.epoch + 1) life.stamp ∷ []) → (Epoch (life.epoch + 1) life.stamp ≡ op) × (drop 1 awaiting ≡ [])
    go (inl none) = absurd (let x : None ≡ Some op = ap (λ (ops : List Op). slice_get ops 0) (sym none) ∙ first in cc)
    go (inr one) =
        let x : Some (Epoch (life.epoch + 1) life.stamp) ≡ Some op = ap (λ (ops : List Op). slice_get ops 0) (sym one) ∙ first in
        (cc, ap (λ (ops : List Op). drop 1 ops) one)

between_none : (kept : List Op) → IsBetween kept []
between_none kept = record { stamp = rw (append-nil kept) (omega arith); epoch = rw (append-nil kept) (omega arith) }

-- before the first life
pub sound_opening : (opening : List Op) → Sound (opening_state opening)
sound_opening opening = between_none opening

between_epoch : (kept : List Op) (next stamp : ℕ) → next_of kept ≤ next → stored kept ≤ stamp → IsBetween kept (Epoch next stamp ∷ [])
between_epoch kept next stamp n t =
    record { stamp = rw (stored-push kept (Epoch next stamp)) t; epoch = rw (next-push kept (Epoch next stamp)) n }

between_others : (kept awaiting : List Op) → list_any is_epoch_op awaiting ≡ false → IsBetween kept awaiting
between_others kept [] none = between_none kept
between_others kept (op ∷ ops) none =
    let stay = stays kept op (none_first is_epoch_op op ops none).0 in
    record { stamp = rw stay.0 (omega arith); epoch = rw stay.1 (omega arith) }

module _ (kept awaiting : List Op) (blew : Bool) (life : LifeState) where
  -- an Epoch is issued
  pub epoch_issued : (next stamp : ℕ) → Phase kept awaiting (Some life) → life.is_open ≡ false → list_any is_epoch_op awaiting ≡ false → next ≡ life.epoch + 1 → stamp ≡ life.stamp
      → Phase kept (awaiting ++ Epoch next stamp ∷ []) (Some life)
  epoch_issued next stamp (inr o) closed once follows of_life = absurd (let x = o.opened in cc)
  epoch_issued next stamp (inl c) closed once follows of_life =
      inl (record { closed = closed; rises = c.rises; follows = c.follows; awaits = inr (first c.awaits) })
    where
      first : (awaiting ≡ []) ⊎ (awaiting ≡ Epoch (life.epoch + 1) life.stamp ∷ []) → awaiting ++ Epoch next stamp ∷ [] ≡ Epoch (life.epoch + 1) life.stamp ∷ []
      first (inl none) = rw (none, follows, of_life) refl
      first (inr one) = absurd (let x : true ≡ false = sym (ap (list_any is_epoch_op) one) ∙ once in cc)

  -- another operation is issued
  pub other_issued : (op : Op) → Phase kept awaiting (Some life) → life.is_open ≡ true → is_epoch_op op ≡ false → Phase kept (awaiting ++ op ∷ []) (Some life)
  other_issued op (inl c) opened other = absurd (let x = c.closed in cc)
  other_issued op (inr o) opened other =
      inr (record { opened = opened; stamped = o.stamped; follows = o.follows; awaits = any-push is_epoch_op awaiting op o.awaits other })

  -- an operation is kept
  pub op_kept : (op : Op) → Phase kept awaiting (Some life) → slice_get awaiting 0 ≡ Some op → Phase (kept ++ op ∷ []) (drop 1 awaiting) (Some (record (life_keeps life op) { handed = false }))
  op_kept op (inl c) first =
      let own = own_epoch kept awaiting life op c first in
      let opens : IsOpened (kept ++ Epoch (life.epoch + 1) life.stamp ∷ []) (drop 1 awaiting) (record (life_keeps life (Epoch (life.epoch + 1) life.stamp)) { handed = false }) =
      record {
        opened = refl;
        stamped = stored-push kept (Epoch (life.epoch + 1) life.stamp);
        follows = next-push kept (Epoch (life.epoch + 1) life.stamp);
        awaits = rw own.1 refl;
      } in
      inr (subst (λ (one : Op). IsOpened (kept ++ one ∷ []) (drop 1 awaiting) (record (life_keeps life one) { handed = false })) own.0 opens)
  op_kept op (inr o) first =
      let other = first_other op awaiting first o.awaits in
      let stay = stays kept op other in
      let moved : Phase (kept ++ op ∷ []) (drop 1 awaiting) (Some life) =
      inr (record { opened = o.opened; stamped = stay.0 ∙ o.stamped; follows = stay.1 ∙ o.follows; awaits = none_dropped is_epoch_op awaiting o.awaits }) in
      phase_same (kept ++ op ∷ []) (drop 1 awaiting) life (record (life_keeps life op) { handed = false }) (life_kept life op other).ids.same moved

  -- a life goes down
  pub goes_down : Phase kept awaiting (Some life) → IsBetween kept awaiting
  goes_down (inl c) = go c.awaits
    where
      go : (awaiting ≡ []) ⊎ (awaiting ≡ Epoch (life.epoch + 1) life.stamp ∷ []) → IsBetween kept awaiting
      go (inl none) = subst (IsBetween kept) (sym none) (between_none kept)
      go (inr one) = subst (IsBetween kept) (sym one) (between_epoch kept (life.epoch + 1) life.stamp (let x = c.follows in omega arith) (let x = c.rises in omega arith))
  goes_down (inr o) = between_others kept awaiting o.awaits

-- a life opens over what is kept and what landed
pub opens : (s : Manager) (landed epoch stamp : ℕ) → MayOpen s landed epoch stamp → (life : LifeState) → life.is_open ≡ false → life.epoch ≡ epoch → life.stamp ≡ stamp
    → Phase (kept_after_landing s landed) [] (Some life)
opens s landed epoch stamp may life closed e t =
    inl (record { closed = closed; rises = rw t may.rises; follows = e ∙ may.next; awaits = inl refl })
