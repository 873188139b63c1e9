-- What is left of the asks for masters where those of an attempt go.
use Rattle.rm_invariant.proofs.Common.{◌≡◌, ℕ, List, [], ◌∷◌, Bool, true, false, refl, sym, ◌∙◌, ap, arith, nat_tests, AskOf, AttemptId, is_attempt, asks_without}
use Rattle.std.proofs.Common.{count_by}
use Rattle.rm_invariant.specs.apps.View.{is_ask, one_if}
use Rattle.rm_invariant.proofs.apps.Counts.{at_front}
use Rattle.rm_invariant.specs.apps.Ends.{none_if}

asks_more : (id q : AttemptId) (one : AskOf) (asks : List AskOf) (b c : Bool) → is_attempt one.attempt id ≡ b → is_ask q one ≡ c
    → count_by (is_ask q) (asks_without id asks) ≡ none_if (is_attempt id q) (count_by (is_ask q) asks)
    → count_by (is_ask q) (asks_without id (one ∷ asks)) ≡ none_if (is_attempt id q) (count_by (is_ask q) (one ∷ asks))
asks_more id q one asks true true e f h =
    let own : is_attempt id q ≡ true = grind (arith, nat_tests) in
    rw (e, own) (let i = rw own at h in i)
asks_more id q one asks true false e f h =
    let g : count_by (is_ask q) (one ∷ asks) ≡ count_by (is_ask q) asks = at_front (is_ask q) one asks ∙ rw f refl in
    rw (e, g) h
asks_more id q one asks false true e f h =
    let other : is_attempt id q ≡ false = grind (arith, nat_tests) in
    let i : count_by (is_ask q) (asks_without id asks) ≡ count_by (is_ask q) asks = rw other at h in
    let g = at_front (is_ask q) one asks in
    let k = at_front (is_ask q) one (asks_without id asks) in
    rw (e, other) (k ∙ ap (one_if (is_ask q one)) i ∙ sym g)
asks_more id q one asks false false e f h =
    let g : count_by (is_ask q) (one ∷ asks) ≡ count_by (is_ask q) asks = at_front (is_ask q) one asks ∙ rw f refl in
    let k : count_by (is_ask q) (one ∷ asks_without id asks) ≡ count_by (is_ask q) (asks_without id asks) = at_front (is_ask q) one (asks_without id asks) ∙ rw f refl in
    rw (e, g) (k ∙ h)

pub asks_gone : (id q : AttemptId) (asks : List AskOf) → count_by (is_ask q) (asks_without id asks) ≡ none_if (is_attempt id q) (count_by (is_ask q) asks)
asks_gone id q [] = by (is_attempt id q)
  where
    by : (b : Bool) → ◌≡◌ {A = ℕ} 0 (none_if b 0)
    by true = refl
    by false = refl
asks_gone id q (one ∷ asks) = asks_more id q one asks (is_attempt one.attempt id) (is_ask q one) refl refl (asks_gone id q asks)
