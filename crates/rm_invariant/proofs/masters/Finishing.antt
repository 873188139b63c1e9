-- Which attempts are finishing once a registered master said that it finishes.
use Rattle.rm_invariant.proofs.Common.{◌≡◌, ℕ, List, [], ◌∷◌, Bool, true, false, Option, None, Some, ◌++◌, find, map, refl, arith, if◌then◌else◌, nat_tests, AttemptId, is_attempt, MasterState, Reply}
use Rattle.std.proofs.Common.{is_some, option_and_then}
use Rattle.rm_invariant.specs.apps.View.{set_if}

-- a master with what it said as it finished
abbrev pub says_so : List ℕ → MasterState → MasterState
says_so text one = record one { finishing = Some text }

-- what the master of an attempt said
abbrev pub text_in : List MasterState → AttemptId → Option (List ℕ)
text_in masters q = option_and_then (λ one. one.finishing) (find (λ one. is_attempt one.attempt q) masters)

one_more : (text : List ℕ) (id q : AttemptId) (one : MasterState) (rest : List MasterState) (a b : Bool) → is_attempt one.attempt id ≡ a → is_attempt one.attempt q ≡ b → (is_attempt id q ≡ true → is_some (find (λ one. is_attempt one.attempt id) (one ∷ rest)) ≡ true)
    → ((is_attempt id q ≡ true → is_some (find (λ one. is_attempt one.attempt id) rest) ≡ true) → is_some (text_in (map (λ one. if is_attempt one.attempt id then says_so text one else one) rest) q) ≡ set_if (is_attempt id q) (is_some (text_in rest q)))
    → is_some (text_in (map (λ one. if is_attempt one.attempt id then says_so text one else one) (one ∷ rest)) q) ≡ set_if (is_attempt id q) (is_some (text_in (one ∷ rest) q))
one_more text id q one rest true true e f there h =
    let same : is_attempt id q ≡ true = grind (arith, nat_tests) in
    rw (e, f, same) refl
one_more text id q one rest true false e f there h =
    let other : is_attempt id q ≡ false = grind (arith, nat_tests) in
    rw (e, f, other) (let x = h (λ s. absurd (cc)) in let y = rw other at x in y)
one_more text id q one rest false true e f there h =
    let other : is_attempt id q ≡ false = grind (arith, nat_tests) in
    rw (e, f, other) refl
one_more text id q one rest false false e f there h = rw (e, f) (h (λ s. let x = there s in rw e at x))

-- whether an attempt is finishing, after a registered master said so
pub finishing_after : (text : List ℕ) (id q : AttemptId) (masters : List MasterState) → (is_attempt id q ≡ true → is_some (find (λ one. is_attempt one.attempt id) masters) ≡ true)
    → is_some (text_in (map (λ one. if is_attempt one.attempt id then says_so text one else one) masters) q) ≡ set_if (is_attempt id q) (is_some (text_in masters q))
finishing_after text id q [] there = by (is_attempt id q) there
  where
    by : (b : Bool) → (b ≡ true → false ≡ true) → false ≡ set_if b false
    by true n = absurd (let x = n refl in cc)
    by false n = refl
finishing_after text id q (one ∷ rest) there = one_more text id q one rest (is_attempt one.attempt id) (is_attempt one.attempt q) refl refl there (finishing_after text id q rest)

-- a master as it registers
abbrev pub new_master : AttemptId → Reply → MasterState
new_master id reply = record { attempt = id; last_id = 0; last_reply = reply; finishing = None }

-- no attempt comes to be finishing as a master registers
pub finishing_with_new : (id : AttemptId) (reply : Reply) (q : AttemptId) (masters : List MasterState) → is_some (text_in (masters ++ new_master id reply ∷ []) q) ≡ is_some (text_in masters q)
finishing_with_new id reply q [] = by (is_attempt id q) refl
  where
    by : (b : Bool) → is_attempt id q ≡ b → is_some (text_in (new_master id reply ∷ []) q) ≡ false
    by true e = rw e refl
    by false e = rw e refl
finishing_with_new id reply q (one ∷ rest) = by (is_attempt one.attempt q) refl (finishing_with_new id reply q rest)
  where
    by : (b : Bool) → is_attempt one.attempt q ≡ b → is_some (text_in (rest ++ new_master id reply ∷ []) q) ≡ is_some (text_in rest q) → is_some (text_in ((one ∷ rest) ++ new_master id reply ∷ []) q) ≡ is_some (text_in (one ∷ rest) q)
    by true e h = rw e refl
    by false e h = rw e h
