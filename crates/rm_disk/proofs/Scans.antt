-- What is seen of bytes a block at a time.
use Rattle.std.proofs.Common.{◌≡◌, inl, inr, ℕ, ◌+◌, ◌-◌, ◌≤◌, Bool, true, false, List, [], ◌∷◌, ◌++◌, length, take, drop, refl, sym, ◌∙◌, ap, subst, arith, length-drop, Option, Some, None}
use Rattle.std.specs.Prelude.{◌↔◌, All, min}
use Rattle.std.proofs.lemmas.List.{drop-append-le, drop_all, take_all}
use Rattle.std.proofs.lemmas.List.Elements.{All-nil, All-cons, All-head, All-tail, All-append}
use Rattle.std.proofs.lemmas.Bool.{cases_lt, false≢true}
use Rattle.std.proofs.Math.Seq.{drop-append-add}

-- what is left of two lists behind a place
pub drop-both : (n : ℕ) (a b : List ℕ) → drop n (a ++ b) ≡ drop n a ++ drop (n - length a) b
drop-both n a b =
    elim (cases_lt (length a) n) [
      | inl over ↦
          let k : n ≡ length a + (n - length a) = omega (arith, over) in
          ap (λ (i : ℕ). drop i (a ++ b)) k ∙ drop-append-add a b (n - length a)
          ∙ ap (λ (l : List ℕ). l ++ drop (n - length a) b) (sym (drop_all n a (omega (arith, over))))
      | inr within ↦
          let none : n - length a ≡ 0 = omega (arith, within) in
          drop-append-le n a b within ∙ ap (λ (i : ℕ). drop n a ++ drop i b) (sym none)
    ]

-- no more is left behind a place beyond the end than behind the end
pub drop-min : (n : ℕ) (b : List ℕ) → drop (min n (length b)) b ≡ drop n b
drop-min n b =
    elim (cases_lt (length b) n) [
      | inl over ↦
          let k : min n (length b) ≡ length b = omega (arith, over) in
          ap (λ (i : ℕ). drop i b) k ∙ drop_all (length b) b (omega arith) ∙ sym (drop_all n b (omega (arith, over)))
      | inr within ↦
          let k : min n (length b) ≡ n = omega (arith, within) in
          ap (λ (i : ℕ). drop i b) k
    ]

-- each of two lists' elements, and those of both together
pub all_both : (P : ℕ → Type 0) (a b : List ℕ) → All P (a ++ b) → All P a × All P b
all_both P [] b all = (All-nil P, all)
all_both P (x ∷ a) b all =
    let rest = all_both P a b (All-tail P x (a ++ b) all) in
    (All-cons P x a (All-head P x (a ++ b) all) rest.0, rest.1)

-- the zeros behind the front, once one block more is seen
pub more_clear : (n : ℕ) (bytes block : List ℕ) → All (λ b. b ≡ 0) (drop n bytes) → All (λ b. b ≡ 0) (drop (min (n - length bytes) (length block)) block) → All (λ b. b ≡ 0) (drop n (bytes ++ block))
more_clear n bytes block before now =
    subst (λ (l : List ℕ). All (λ b. b ≡ 0) l) (sym (drop-both n bytes block))
    (All-append (λ b. b ≡ 0) (drop n bytes) (drop (n - length bytes) block) before (subst (λ (l : List ℕ). All (λ b. b ≡ 0) l) (drop-min (n - length bytes) block) now))

pub was_clear : (n : ℕ) (bytes block : List ℕ) → All (λ b. b ≡ 0) (drop n (bytes ++ block)) → All (λ b. b ≡ 0) (drop n bytes) × All (λ b. b ≡ 0) (drop (min (n - length bytes) (length block)) block)
was_clear n bytes block all =
    let both = all_both (λ b. b ≡ 0) (drop n bytes) (drop (n - length bytes) block) (subst (λ (l : List ℕ). All (λ b. b ≡ 0) l) (drop-both n bytes block) all) in
    (both.0, subst (λ (l : List ℕ). All (λ b. b ≡ 0) l) (sym (drop-min (n - length bytes) block)) both.1)

-- whether all behind a place is clear, where all was and the next block is looked at
pub clear_after : (n front skipped : ℕ) (bytes block : List ℕ) (was now : Bool) → front ≡ n - length bytes → skipped ≡ min front (length block)
    → ((was ≡ true) ↔ All (λ b. b ≡ 0) (drop n bytes)) → was ≡ true → ((now ≡ true) ↔ All (λ b. b ≡ 0) (take (length block - skipped) (drop skipped block)))
    → (now ≡ true) ↔ All (λ b. b ≡ 0) (drop n (bytes ++ block))
clear_after n front skipped bytes block was now left least before so after = (
  λ yes. more_clear n bytes block (before.0 so) (subst (λ (l : List ℕ). All (λ b. b ≡ 0) l) tail (after.0 yes)),
  λ all. after.1 (subst (λ (l : List ℕ). All (λ b. b ≡ 0) l) (sym tail) (was_clear n bytes block all).1),
)
  where
    tail : take (length block - skipped) (drop skipped block) ≡ drop (min (n - length bytes) (length block)) block
    tail =
        take_all (length block - skipped) (drop skipped block) (omega (arith, length-drop skipped block))
        ∙ ap (λ (i : ℕ). drop i block) (least ∙ ap (λ (i : ℕ). min i (length block)) left)

-- and where it was not
pub unclear_after : (n : ℕ) (bytes block : List ℕ) (was now : Bool) → ((was ≡ true) ↔ All (λ b. b ≡ 0) (drop n bytes)) → was ≡ false → now ≡ false
    → (now ≡ true) ↔ All (λ b. b ≡ 0) (drop n (bytes ++ block))
unclear_after n bytes block was now before not not_now = (
  λ yes. absurd (false≢true (sym not_now ∙ yes)),
  λ all. absurd (false≢true (sym not ∙ before.1 (was_clear n bytes block all).0)),
)
