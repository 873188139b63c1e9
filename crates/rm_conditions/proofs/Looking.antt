-- Lists that are looked at one place after the other, and rows of which none is later.
use Rattle.std.proofs.Common.{◌≡◌, ℕ, zero, suc, ◌+◌, ◌==◌, nat_lt, Bool, true, false, not, ◌&&◌, ◌||◌, List, [], ◌∷◌, take, slice_get, refl, sym, true≢false, arith}
use Rattle.std.specs.List.{list_all, list_any}
use Rattle.std.proofs.lemmas.Bool.{and_from, and_parts}
use Rattle.std.proofs.lemmas.Bool.Decides.{nat_tests}
use Rattle.rm_types.specs.declared.containers.BookRow.{BookRow}
use Rattle.rm_types.specs.declared.ids.AttemptId.{AttemptId}
use Rattle.rm_types.specs.Ids.{is_attempt}
use Rattle.rm_types.proofs.TestLemmas.{and_false}
use Rattle.rm_book.specs.Books.{BookOf, capability_of, is_later}
use Rattle.rm_book.specs.declared.plain.NodeCapability.{NodeCapability}
use Rattle.rm_sched.specs.fit.Conditions.{is_past}
use Rattle.rm_conditions.specs.Passes.{offers_few, offers_few_at}

module _ (book : BookOf) where
  abbrev few : NodeCapability → Bool
  few one = offers_few (capability_of book one.node)

  -- one more offers few
  pub more_few : (nodes : List NodeCapability) (i : ℕ) → list_all (λ one. offers_few (capability_of book one.node)) (take i nodes) ≡ true → offers_few_at book (slice_get nodes i) ≡ true
      → list_all (λ one. offers_few (capability_of book one.node)) (take (suc i) nodes) ≡ true
  more_few [] i all one = refl
  more_few (x ∷ nodes) zero all one = and_from (few x) true one refl
  more_few (x ∷ nodes) (suc i) all one =
      let parts = and_parts (few x) (list_all few (take i nodes)) all in
      and_from (few x) (list_all few (take (suc i) nodes)) parts.0 (more_few nodes i parts.1 one)

  -- one offers more
  pub one_more : (nodes : List NodeCapability) (i : ℕ) → offers_few_at book (slice_get nodes i) ≡ false → false ≡ list_all (λ one. offers_few (capability_of book one.node)) nodes
  one_more [] zero one = absurd (true≢false one)
  one_more [] (suc i) one = absurd (true≢false one)
  one_more (x ∷ nodes) zero one = rw one refl
  one_more (x ∷ nodes) (suc i) one = rw (← one_more nodes i one) (sym (and_false (few x)))

later_past : (a b : Bool) (seq granted : ℕ) → not (a && (b && nat_lt granted seq)) ≡ (not (a && b) || nat_lt seq (granted + 1))
later_past true true seq granted = grind (arith, nat_tests)
later_past true false seq granted = refl
later_past false b seq granted = refl

both : (a b c d : Bool) → not a ≡ c → not b ≡ d → not (a || b) ≡ (c && d)
both true b c d e f = rw (← e) refl
both false b c d e f = rw (← e) f

-- no row is later exactly where each is past
pub none_later : (attempt : AttemptId) (epoch granted : ℕ) (rows : List BookRow)
    → not (list_any (is_later attempt epoch granted) rows) ≡ list_all (is_past epoch (record { attempt = attempt; next_seq = granted + 1 })) rows
none_later attempt epoch granted [] = refl
none_later attempt epoch granted (row ∷ rows) =
    both (is_later attempt epoch granted row) (list_any (is_later attempt epoch granted) rows) _ _
    (later_past (is_attempt row.id.attempt attempt) (row.id.epoch == epoch) row.id.seq granted) (none_later attempt epoch granted rows)
