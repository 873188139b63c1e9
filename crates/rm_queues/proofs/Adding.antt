-- A text more whose place is known.
use Rattle.std.proofs.Common.{◌≡◌, ℕ, ◌+◌, ◌<◌, ◌≤◌, Bool, true, false, not, cond, ltb, List, [], ◌∷◌, ◌++◌, take, length, get_or, Option, Some, None, position, refl, sym, ap, ◌∙◌, arith, ⊎_elim}
use Rattle.std.specs.Cmp.Lexicographic.{nat_list_eq_equiv}
use Rattle.std.specs.HashMap.{HashMap, get_by, UpdatesBy}
use Rattle.std.specs.List.{position_or_len}
use Rattle.std.specs.Map.{KeepsOthers, IsKeyTest, AreApart, lookup}
use Rattle.std.specs.Option.{option_or}
use Rattle.std.specs.Str.{bytes_eq}
use Rattle.std.proofs.lemmas.Bool.{cond-true, cond-false, cases_Bool, cases_lt, lt-ltb, le-ltb, eq-eqb, ne_eqb}
use Rattle.std.proofs.lemmas.List.{take_more, length_push, length-take-le}
use Rattle.std.proofs.lemmas.List.Folds.{position_or_len_push}
use Rattle.std.proofs.lemmas.List.Sums.{prefix_len-le-length}
use Rattle.std.proofs.lemmas.Slice.Eq.{bytes_eq-Decides}
use Rattle.rm_queues.specs.declared.places.Places.{Places}
use Rattle.rm_queues.specs.Places.{AddsPlace, AreFirstPlaces}

-- an `or` with nothing after it
option_or-none : {X : Type 0} (o : Option X) → option_or o None ≡ o
option_or-none None = refl
option_or-none (Some x) = refl

-- nothing is there
other_entries : {K X : Type 0} (eq : K → K → Bool) (test : K → Bool) (old new : List (K × X)) → KeepsOthers eq test old new → (other : K → Bool) → IsKeyTest eq other → AreApart test other → lookup other new ≡ lookup other old
unfolding KeepsOthers
other_entries eq test old new h = h

-- the test of a key by its bytes
abbrev is_at : {K : Type 0} → (K → List ℕ) → List ℕ → K → Bool
is_at bytes text key = bytes_eq text (bytes key)

-- a new key with its place is found, and the others stay
module _ {K S : Type 0} (bytes : K → List ℕ) where
  pub get_by-insert : (m n : HashMap K ℕ S) (text : List ℕ) (place : ℕ) → get_by (is_at bytes text) m ≡ None
      → UpdatesBy (λ x y. bytes_eq (bytes x) (bytes y)) (is_at bytes text) m n (Some place)
      → (other : List ℕ) → get_by (is_at bytes other) n ≡ option_or (get_by (is_at bytes other) m) (cond (bytes_eq text other) (Some place) None)
  get_by-insert m n text place absent updates other = ⊎_elim here apart (cases_Bool (bytes_eq text other))
    where
      here : bytes_eq text other ≡ true → get_by (is_at bytes other) n ≡ option_or (get_by (is_at bytes other) m) (cond (bytes_eq text other) (Some place) None)
      here is =
          let same : text ≡ other = (bytes_eq-Decides text other).0 is in
          ap (λ one. get_by (is_at bytes one) n) (sym same) ∙ updates.1
          ∙ sym (ap (λ o. option_or o (Some place)) (ap (λ one. get_by (is_at bytes one) m) (sym same) ∙ absent))
          ∙ ap (option_or (get_by (is_at bytes other) m)) (sym (cond-true _ (Some place) None is))

      apart : bytes_eq text other ≡ false → get_by (is_at bytes other) n ≡ option_or (get_by (is_at bytes other) m) (cond (bytes_eq text other) (Some place) None)
      apart is =
          other_entries _ (is_at bytes text) _ _ updates.3 (is_at bytes other) (λ x y. nat_list_eq_equiv.congr other (bytes x) (bytes y))
          (λ key at. nat_list_eq_equiv.symm other (bytes key) ∙ sym (nat_list_eq_equiv.congr text (bytes key) other at) ∙ is)
          ∙ sym (option_or-none (get_by (is_at bytes other) m))
          ∙ ap (option_or (get_by (is_at bytes other) m)) (sym (cond-false _ (Some place) None is))

-- the place in a list with one item more
position_push : {X : Type 0} (test : X → Bool) (xs : List X) (y : X) → position test (xs ++ y ∷ []) ≡ option_or (position test xs) (cond (test y) (Some (length xs)) None)
position_push test xs y = ⊎_elim within past (cases_lt (position_or_len test xs) (length xs))
  where
    longer : length (xs ++ y ∷ []) ≡ length xs + 1
    longer = length_push xs y

    within : position_or_len test xs < length xs → position test (xs ++ y ∷ []) ≡ option_or (position test xs) (cond (test y) (Some (length xs)) None)
    within below =
        let same : position_or_len test (xs ++ y ∷ []) ≡ position_or_len test xs
        = position_or_len_push test xs y ∙ cond-false _ (length xs + cond (test y) 0 1) (position_or_len test xs) (ne_eqb _ (length xs) (λ e. absurd (omega arith))) in
        cond-true _ (Some (position_or_len test (xs ++ y ∷ []))) None (lt-ltb _ (length (xs ++ y ∷ [])) (omega (arith, same, longer)))
        ∙ ap Some same
        ∙ sym (ap (λ o. option_or o (cond (test y) (Some (length xs)) None)) (cond-true _ (Some (position_or_len test xs)) None (lt-ltb _ (length xs) below)))

    at_end : length xs ≤ position_or_len test xs → position_or_len test (xs ++ y ∷ []) ≡ length xs + cond (test y) 0 1
    at_end past =
        position_or_len_push test xs y
        ∙ cond-true _ (length xs + cond (test y) 0 1) (position_or_len test xs) (eq-eqb _ (length xs) (omega (arith, prefix_len-le-length (λ x. not (test x)) xs)))

    by_test : (b : Bool) (place all : ℕ) → place ≡ length xs + cond b 0 1 → all ≡ length xs + 1 → cond (ltb place all) (Some place) None ≡ cond b (Some (length xs)) None
    by_test true place all is count = cond-true _ (Some place) None (lt-ltb place all (omega arith)) ∙ ap Some (omega arith)
    by_test false place all is count = cond-false _ (Some place) None (le-ltb place all (omega arith))

    past : length xs ≤ position_or_len test xs → position test (xs ++ y ∷ []) ≡ option_or (position test xs) (cond (test y) (Some (length xs)) None)
    past after =
        by_test (test y) (position_or_len test (xs ++ y ∷ [])) (length (xs ++ y ∷ [])) (at_end after) longer
        ∙ sym (ap (λ o. option_or o (cond (test y) (Some (length xs)) None)) (cond-false _ (Some (position_or_len test xs)) None (le-ltb _ (length xs) after)))

-- one item more
pub AreFirstPlaces-more : {X : Type 0} (text_of : X → List ℕ) (items : List X) (place : ℕ) (item : X) (text : List ℕ) (old new : Places)
    → place < length items → item ≡ get_or items place item → text ≡ text_of item → AreFirstPlaces text_of (take place items) old → AddsPlace old new text place → AreFirstPlaces text_of (take (place + 1) items) new
AreFirstPlaces-more text_of items place item text old new within is named known adds = λ other.
    let count : length (take place items) ≡ place = length-take-le place items (omega arith) in
    adds other
    ∙ ap (λ o. option_or o (cond (bytes_eq text other) (Some place) None)) (known other)
    ∙ ap (λ one. option_or (position (λ it. bytes_eq (text_of it) other) (take place items)) (cond (bytes_eq one other) (Some place) None)) named
    ∙ ap (λ n. option_or (position (λ it. bytes_eq (text_of it) other) (take place items)) (cond (bytes_eq (text_of item) other) (Some n) None)) (sym count)
    ∙ sym (position_push (λ it. bytes_eq (text_of it) other) (take place items) item)
    ∙ ap (λ one. position (λ it. bytes_eq (text_of it) other) (take place items ++ one ∷ [])) is
    ∙ sym (ap (position (λ it. bytes_eq (text_of it) other)) (take_more items place item within))
