-- The judge's masters after one registers, and after one changes: that one is found so, and each other as it was.
use Rattle.rm_master.proofs.Common.{◌≡◌, ℕ, List, [], ◌∷◌, ◌++◌, Bool, true, false, None, Some, map, refl, ◌∙◌, if◌then◌else◌, option_map, false≢true, AttemptId, is_attempt, MasterState, session_of}
use Rattle.rm_types.proofs.IdLemmas.{attempt_itself}
use Rattle.rm_master.proofs.Asked.{not_both}

pub own_joined : (new : MasterState) (masters : List MasterState) → session_of masters new.attempt ≡ None → session_of (masters ++ new ∷ []) new.attempt ≡ Some new
own_joined new [] none = rw (attempt_itself new.attempt) refl
own_joined new (one ∷ masters) none = by (is_attempt one.attempt new.attempt) refl (own_joined new masters)
  where
    by : (b : Bool) → is_attempt one.attempt new.attempt ≡ b → (session_of masters new.attempt ≡ None → session_of (masters ++ new ∷ []) new.attempt ≡ Some new) → session_of ((one ∷ masters) ++ new ∷ []) new.attempt ≡ Some new
    by true e rest = let h : Some one ≡ None = rw e at none in cc
    by false e rest = rw e (rest (rw e at none))

pub other_joined : (new : MasterState) (q : AttemptId) (masters : List MasterState) → is_attempt new.attempt q ≡ false → session_of (masters ++ new ∷ []) q ≡ session_of masters q
other_joined new q [] apart = rw apart refl
other_joined new q (one ∷ masters) apart = by (is_attempt one.attempt q) refl (other_joined new q masters apart)
  where
    by : (b : Bool) → is_attempt one.attempt q ≡ b → session_of (masters ++ new ∷ []) q ≡ session_of masters q → session_of ((one ∷ masters) ++ new ∷ []) q ≡ session_of (one ∷ masters) q
    by true e rest = rw e refl
    by false e rest = rw e rest

module _ (change : MasterState → MasterState) (keeps : (one : MasterState) → (change one).attempt ≡ one.attempt) (attempt : AttemptId) where
  abbrev changed : MasterState → MasterState
  changed one = if is_attempt one.attempt attempt then change one else one

  pub own_changed : (masters : List MasterState) → session_of (map (λ one. if is_attempt one.attempt attempt then change one else one) masters) attempt ≡ option_map change (session_of masters attempt)
  own_changed [] = refl
  own_changed (one ∷ masters) = by (is_attempt one.attempt attempt) refl (own_changed masters)
    where
      by : (b : Bool) → is_attempt one.attempt attempt ≡ b → session_of (map changed masters) attempt ≡ option_map change (session_of masters attempt) → session_of (map changed (one ∷ masters)) attempt ≡ option_map change (session_of (one ∷ masters) attempt)
      by true e rest = rw (e, keeps one, e) refl
      by false e rest = rw (e, e) rest

  pub other_changed : (q : AttemptId) → is_attempt attempt q ≡ false → (masters : List MasterState) → session_of (map (λ one. if is_attempt one.attempt attempt then change one else one) masters) q ≡ session_of masters q
  other_changed q apart [] = refl
  other_changed q apart (one ∷ masters) = by (is_attempt one.attempt attempt) (is_attempt one.attempt q) refl refl (other_changed q apart masters)
    where
      by : (a b : Bool) → is_attempt one.attempt attempt ≡ a → is_attempt one.attempt q ≡ b → session_of (map changed masters) q ≡ session_of masters q → session_of (map changed (one ∷ masters)) q ≡ session_of (one ∷ masters) q
      by true true e f rest = absurd (not_both one.attempt attempt q e apart f)
      by true false e f rest = rw (e, keeps one, f) rest
      by false true e f rest = rw (e, f) refl
      by false false e f rest = rw (e, f) rest
