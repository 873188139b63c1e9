-- What lives give by a number of their own, that rises from life to life: what may be given from a state on.
use Rattle.rm_laws.proofs.Common.{◌≡◌, ◌⊎◌, ℕ, ◌+◌, ◌<◌, ◌≤◌, List, [], ◌∷◌, ◌++◌, Bool, true, false, Option, None, Some, take, sym, subst, arith, ◌∙◌, inl, inr, append-nil, slice_get, Op, Epoch, LifeState, Manager, is_epoch_op, life_keeps}
use Rattle.rm_laws.proofs.Stamps.{IsBetween, IsClosed, IsOpened, Phase}
use Rattle.rm_laws.proofs.Phases.{first_other, own_epoch}

-- what holds over what is kept, and holds before an operation that isn't an Epoch, and before one that may land, where it holds
-- after it
pub record IsEarlier {X : Type 0} (Free : List Op → X → Type 0) : Type 0 where
  pub stays : (kept : List Op) (op : Op) → is_epoch_op op ≡ false → (x : X) → Free (kept ++ op ∷ []) x → Free kept x
  pub lands : (kept awaiting : List Op) → IsBetween kept awaiting → (x : X) → Free (kept ++ take 1 awaiting) x → Free kept x

-- a life begins
pub begins_earlier : {X : Type 0} (Free : List Op → X → Type 0) → IsEarlier Free → (kept awaiting : List Op) (blew : Bool) → IsBetween kept awaiting → (landed : ℕ) → (landed ≡ 0) ⊎ ((landed ≡ 1) × (blew ≡ true))
    → (x : X) → Free (kept ++ take landed awaiting) x → Free kept x
begins_earlier Free e kept awaiting blew b landed (inl none) x h =
    subst (λ (ops : List Op). Free ops x) (append-nil kept) (subst (λ (n : ℕ). Free (kept ++ take n awaiting) x) none h)
begins_earlier Free e kept awaiting blew b landed (inr one) x h = e.lands kept awaiting b x (subst (λ (n : ℕ). Free (kept ++ take n awaiting) x) one.0 h)

module _ {X : Type 0} (number : X → ℕ) (own : LifeState → ℕ) (Unused : LifeState → X → Type 0) (Free : List Op → X → Type 0) where
  -- an open life, and those after it, may give what has a higher number than its own, and of its own what it didn't use; a closed
  -- one what is free
  abbrev pub Above : List Op → LifeState → Bool → X → Type 0
  Above kept life false x = Free kept x
  Above kept life true x = (own life < number x) ⊎ ((own life ≡ number x) × Unused life x)

  abbrev pub BeyondIn : List Op → Option LifeState → X → Type 0
  BeyondIn kept None x = Free kept x
  BeyondIn kept (Some life) x = Above kept life life.is_open x

  abbrev pub Beyond : Manager → X → Type 0
  Beyond s x = BeyondIn s.kept s.life x

  -- a life's number is one that it takes when it begins and that is recorded when it opens
  pub record IsOwn : Type 0 where
    pub earlier : IsEarlier Free
    pub closed : (kept awaiting : List Op) (life : LifeState) → IsClosed kept awaiting life → (x : X) → own life ≤ number x → Free kept x
    pub opened : (kept awaiting : List Op) (life : LifeState) → IsOpened kept awaiting life → (x : X) → Free kept x → own life < number x
    pub keeps : (life : LifeState) (op : Op) → own (record (life_keeps life op) { handed = false }) ≡ own life
    pub uses : (life : LifeState) (op : Op) (x : X) → Unused (record (life_keeps life op) { handed = false }) x → Unused life x
    pub opens : (life : LifeState) (op : Op) → is_epoch_op op ≡ false → (record (life_keeps life op) { handed = false }).is_open ≡ life.is_open

  -- one life after another that has the same number and used no less
  pub lift : (kept later : List Op) (old new : LifeState) (x : X) → (Free later x → Free kept x) → own new ≡ own old → (Unused new x → Unused old x) → new.is_open ≡ old.is_open
      → Above later new new.is_open x → Above kept old old.is_open x
  lift kept later old new x free same used opens h = go old.is_open (subst (λ (b : Bool). Above later new b x) opens h)
    where
      go : (b : Bool) → Above later new b x → Above kept old b x
      go false a = free a
      go true (inl a) = inl (omega (arith, same, a))
      go true (inr a) = inr (sym same ∙ a.0, used a.1)

  module _ (is : IsOwn) (kept awaiting : List Op) (life : LifeState) where
    -- a life goes down
    pub goes_down : Phase kept awaiting (Some life) → (x : X) → Free kept x → Above kept life life.is_open x
    goes_down (inl c) x h = subst (λ (b : Bool). Above kept life b x) (sym c.closed) h
    goes_down (inr o) x h = subst (λ (b : Bool). Above kept life b x) (sym o.opened) (inl (is.opened kept awaiting life o x h))

    -- its Epoch is kept
    at_epoch : IsClosed kept awaiting life → (x : X) → Above (kept ++ Epoch (life.epoch + 1) life.stamp ∷ []) (record (life_keeps life (Epoch (life.epoch + 1) life.stamp)) { handed = false }) true x
        → Free kept x
    at_epoch c x (inl a) = let e = is.keeps life (Epoch (life.epoch + 1) life.stamp) in is.closed kept awaiting life c x (omega (arith, a, e))
    at_epoch c x (inr a) = let e = is.keeps life (Epoch (life.epoch + 1) life.stamp) in let s = a.0 in is.closed kept awaiting life c x (omega (arith, s, e))

    -- an operation is kept
    pub keeps : (op : Op) → slice_get awaiting 0 ≡ Some op → Phase kept awaiting (Some life) → (x : X)
        → BeyondIn (kept ++ op ∷ []) (Some (record (life_keeps life op) { handed = false })) x → Above kept life life.is_open x
    keeps op first (inl c) x h =
        subst (λ (b : Bool). Above kept life b x) (sym c.closed)
        (at_epoch c x (subst (λ (one : Op). BeyondIn (kept ++ one ∷ []) (Some (record (life_keeps life one) { handed = false })) x) (sym (own_epoch kept awaiting life op c first).0) h))
    keeps op first (inr o) x h =
        let other = first_other op awaiting first o.awaits in
        lift kept (kept ++ op ∷ []) life (record (life_keeps life op) { handed = false }) x (is.earlier.stays kept op other x) (is.keeps life op) (is.uses life op x) (is.opens life op other) h
