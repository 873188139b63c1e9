-- What holds along a whole log where each allowed entry keeps it; and that what entries give is in order, where each entry gives
-- what is beyond the state before it, what is beyond the state after it comes later in the order, and what is beyond a later
-- state is beyond a former one.
use Rattle.rm_laws.proofs.Common.{◌≡◌, ◌≢◌, List, [], ◌∷◌, ◌++◌, refl, flat_map, subst, sym, Entry, Op, Settings, Manager, opening_state, after, after_all, Allowed, AllAllowed}
use Rattle.rm_laws.proofs.Lists.{Each, Pairs, each-append, each-map, pairs-append}

-- a state after a beginning of a log
pub after-append : (s : Manager) (xs ys : List Entry) → after_all s (xs ++ ys) ≡ after_all (after_all s xs) ys
after-append s [] ys = refl
after-append s (e ∷ xs) ys = after-append (after s e) xs ys

module _ (settings : Settings) where
  -- the beginning of a log, and its rest
  pub front_allowed : (s : Manager) (xs ys : List Entry) → AllAllowed settings s (xs ++ ys) → AllAllowed settings s xs
  front_allowed s [] ys allowed = tt
  front_allowed s (e ∷ xs) ys allowed = (allowed.0, front_allowed (after s e) xs ys allowed.1)

  module _ (Sound : Manager → Type 0) (keeps : (s : Manager) (e : Entry) → Sound s → Allowed settings s e → Sound (after s e)) where
    -- what each allowed entry keeps holds after a beginning of a log, and the rest is allowed
    pub goes_on : (s : Manager) (before rest : List Entry) → Sound s → AllAllowed settings s (before ++ rest) → Sound (after_all s before) × AllAllowed settings (after_all s before) rest
    goes_on s [] rest sound allowed = (sound, allowed)
    goes_on s (e ∷ before) rest sound allowed = goes_on (after s e) before rest (keeps s e sound allowed.0) allowed.1

    -- of a log over an opening list
    pub walk : (opening : List Op) (log before rest : List Entry) → Sound (opening_state opening) → AllAllowed settings (opening_state opening) log → log ≡ before ++ rest
        → Sound (after_all (opening_state opening) before) × AllAllowed settings (after_all (opening_state opening) before) rest
    walk opening log before rest sound allowed whole = goes_on (opening_state opening) before rest sound (subst (AllAllowed settings (opening_state opening)) whole allowed)

module _ {X : Type 0} (given : Entry → List X) (Beyond : Manager → X → Type 0) (R : X → X → Type 0) (Sound : Manager → Type 0) where
  -- one entry, in a sound state
  pub record Step (s : Manager) (e : Entry) : Type 0 where
    pub sound : Sound (after s e)
    pub lifts : (x : X) → Beyond (after s e) x → Beyond s x
    pub gives : Each (Beyond s) (given e)
    pub apart : Pairs R (given e)
    pub past : Each (λ x. (y : X) → Beyond (after s e) y → R x y) (given e)

  module _ (settings : Settings) (steps : (s : Manager) (e : Entry) → Sound s → Allowed settings s e → Step s e) where
    pub beyond : (s : Manager) (log : List Entry) → Sound s → AllAllowed settings s log → Each (Beyond s) (flat_map given log)
    beyond s [] sound allowed = tt
    beyond s (e ∷ log) sound allowed =
        let step = steps s e sound allowed.0 in
        each-append (Beyond s) (given e) (flat_map given log) step.gives
        (each-map (Beyond (after s e)) (Beyond s) step.lifts (flat_map given log) (beyond (after s e) log step.sound allowed.1))

    pub in_order : (s : Manager) (log : List Entry) → Sound s → AllAllowed settings s log → Pairs R (flat_map given log)
    in_order s [] sound allowed = tt
    in_order s (e ∷ log) sound allowed =
        let step = steps s e sound allowed.0 in
        let later = beyond (after s e) log step.sound allowed.1 in
        pairs-append R (given e) (flat_map given log) step.apart (in_order (after s e) log step.sound allowed.1)
        (each-map (λ x. (y : X) → Beyond (after s e) y → R x y) (λ x. Each (R x) (flat_map given log)) (λ x past. each-map (Beyond (after s e)) (R x) past (flat_map given log) later) (given e) step.past)

-- what isn't beyond a state differs from what is
pub differs : {X : Type 0} (B : X → Type 0) (x : X) → (B x → ⊥) → (y : X) → B y → x ≢ y
differs B x past y beyond same = past (subst B (sym same) beyond)
