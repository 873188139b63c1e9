-- The place of a queue by its name.
use Rattle.std.proofs.Common.{◌≡◌, ℕ, ◌+◌, ◌<◌, ◌≤◌, suc, Bool, true, false, not, ◌||◌, cond, List, [], ◌∷◌, length, get_or, Option, Some, None, find, position, option_and_then, refl, sym, ap, ◌∙◌, arith, ⊎_elim}
use Rattle.std.specs.List.{list_any, slice_get, position_or_len}
use Rattle.std.specs.Option.{option_or}
use Rattle.std.specs.Str.{bytes_eq}
use Rattle.std.proofs.lemmas.Bool.{false≢true, cond-true, cond-false, cases_Bool, lt-ltb, le-ltb}
use Rattle.std.proofs.lemmas.List.Folds.{find_at}
use Rattle.std.proofs.lemmas.List.Quantifiers.{position-Some}
use Rattle.std.proofs.lemmas.Option.{slice_get-get_or, none-some, same_Some}
use Rattle.std.proofs.lemmas.Slice.Eq.{bytes_eq-Decides}
use Rattle.rm_types.specs.declared.settings.QueueSpec.{QueueSpec}
use Rattle.rm_types.specs.Rights.{queue_of, is_queue}
use Rattle.rm_types.proofs.TestLemmas.{found_passes, find_none}
use Rattle.rm_queues.specs.Places.{first_known_place, AreFirstPlaces}
use Rattle.rm_queues.specs.declared.places.Places.{Places}
use Rattle.rm_queues.specs.Trees.{place_of, first_place}

-- a list with an item that passes has a first one
position_or_len-within : {X : Type 0} (test : X → Bool) (xs : List X) → list_any test xs ≡ true → position_or_len test xs < length xs
position_or_len-within test [] some = absurd (false≢true some)
position_or_len-within test (x ∷ xs) some =
    elim (test x) as (λ b. (b || list_any test xs) ≡ true → cond (not b) (1 + position_or_len test xs) 0 < suc (length xs)) [
      | true ↦ λ here. omega arith
      | false ↦ λ later. let rest = position_or_len-within test xs later in omega (arith, rest)
    ] some

-- a list with no such item has none
position_or_len-past : {X : Type 0} (test : X → Bool) (xs : List X) → list_any test xs ≡ false → length xs ≤ position_or_len test xs
position_or_len-past test [] none = omega arith
position_or_len-past test (x ∷ xs) none =
    elim (test x) as (λ b. (b || list_any test xs) ≡ false → suc (length xs) ≤ cond (not b) (1 + position_or_len test xs) 0) [
      | true ↦ λ never. absurd (false≢true (sym never))
      | false ↦ λ later. let rest = position_or_len-past test xs later in omega (arith, rest)
    ] none

-- the queue at a place is the first of its name
pub record IsFirstPlace (queues : List QueueSpec) (place : ℕ) (queue : QueueSpec) : Type 0 where
  pub at : slice_get queues place ≡ Some queue
  pub first : place_of queues queue.name ≡ Some place

-- the test of a queue's name
abbrev is_named : List ℕ → QueueSpec → Bool
is_named name queue = bytes_eq queue.name name

-- a name that is not in the tree has no place
pub place_of-none : (queues : List QueueSpec) (name : List ℕ) → is_queue queues name ≡ false → place_of queues name ≡ None
place_of-none queues name none = cond-false _ (Some (position_or_len (is_named name) queues)) None (le-ltb _ (length queues) (position_or_len-past (is_named name) queues none))

-- and no queue
pub queue_of-none : (queues : List QueueSpec) (name : List ℕ) → is_queue queues name ≡ false → queue_of queues name ≡ None
queue_of-none queues name none = find_none (is_named name) queues none

-- a name in the tree has a place
pub place_of-some : (queues : List QueueSpec) (name : List ℕ) → is_queue queues name ≡ true → place_of queues name ≡ Some (position_or_len (is_named name) queues)
place_of-some queues name some = cond-true _ (Some (position_or_len (is_named name) queues)) None (lt-ltb _ (length queues) (position_or_len-within (is_named name) queues some))

-- where a name has a place, the first queue of that name is there
pub IsFirstPlace-from_place : (queues : List QueueSpec) (name : List ℕ) (place : ℕ) → place_of queues name ≡ Some place
    → (queue : QueueSpec) × IsFirstPlace queues place queue × (queue.name ≡ name)
IsFirstPlace-from_place [] name place is = absurd (none-some place is)
IsFirstPlace-from_place (one ∷ queues) name place is =
    let found = position-Some (is_named name) (one ∷ queues) place one is in
    let queue : QueueSpec = get_or (one ∷ queues) place one in
    let named : queue.name ≡ name = (bytes_eq-Decides queue.name name).0 found.1 in
    (queue, record { at = slice_get-get_or (one ∷ queues) place one found.0; first = ap (place_of (one ∷ queues)) named ∙ is }, named)

-- what is found is what stands at the first place
pub find-at_place : {X : Type 0} (test : X → Bool) (xs : List X) (place : ℕ) (x : X) → position test xs ≡ Some place → slice_get xs place ≡ Some x → find test xs ≡ Some x
find-at_place test xs place x is at = find_at test xs ∙ ap (slice_get xs) (of_cond _ _ is) ∙ at
  where
    of_cond : (b : Bool) (found : ℕ) → cond b (Some found) None ≡ Some place → found ≡ place
    of_cond true found e = same_Some found place e
    of_cond false found e = absurd (none-some place e)

-- where there is no place, nothing is found
pub find-no_place : {X : Type 0} (test : X → Bool) (xs : List X) → position test xs ≡ None → find test xs ≡ None
find-no_place test xs is = ⊎_elim (λ some. absurd (none-some _ (sym is ∙ at_some some))) (find_none test xs) (cases_Bool (list_any test xs))
  where
    at_some : list_any test xs ≡ true → position test xs ≡ Some (position_or_len test xs)
    at_some some = cond-true _ (Some (position_or_len test xs)) None (lt-ltb _ (length xs) (position_or_len-within test xs some))

-- the queue of the name at a first place is the one there
pub queue_of-first : (queues : List QueueSpec) (place : ℕ) (queue : QueueSpec) → IsFirstPlace queues place queue → queue_of queues queue.name ≡ Some queue
queue_of-first queues place queue is = find-at_place (is_named queue.name) queues place queue is.first is.at

-- a name without a place is not in the tree
pub is_queue-none : (queues : List QueueSpec) (name : List ℕ) → place_of queues name ≡ None → is_queue queues name ≡ false
is_queue-none queues name is =
    ⊎_elim (λ some. absurd (none-some _ (sym is ∙ place_of-some queues name some))) (λ none. none) (cases_Bool (is_queue queues name))

-- and a name with a place is
pub is_queue-some : (queues : List QueueSpec) (name : List ℕ) (place : ℕ) → place_of queues name ≡ Some place → is_queue queues name ≡ true
is_queue-some queues name place is =
    ⊎_elim (λ some. some) (λ none. absurd (none-some place (sym (place_of-none queues name none) ∙ is))) (cases_Bool (is_queue queues name))

-- the places that are known are the first places
pub first_in-first_place : (queues : List QueueSpec) (places : Places) (names : List (List ℕ)) → AreFirstPlaces (λ queue. queue.name) queues places → first_known_place places names ≡ first_place queues names
first_in-first_place queues places [] are = refl
first_in-first_place queues places (name ∷ names) are =
    ap (λ o. option_or o (first_known_place places names)) (are name)
    ∙ ap (option_or (place_of queues name)) (first_in-first_place queues places names are)
    ∙ by_place (is_queue queues name) refl
  where
    by_place : (b : Bool) → is_queue queues name ≡ b → option_or (place_of queues name) (first_place queues names) ≡ first_place queues (name ∷ names)
    by_place true there =
        ap (λ o. option_or o (first_place queues names)) (place_of-some queues name there)
        ∙ sym (place_of-some queues name there)
        ∙ ap (option_and_then (place_of queues)) (sym (cond-true _ (Some name) (find (is_queue queues) names) there))
    by_place false none =
        ap (λ o. option_or o (first_place queues names)) (place_of-none queues name none)
        ∙ ap (option_and_then (place_of queues)) (sym (cond-false _ (Some name) (find (is_queue queues) names) none))

-- what is known where a list of names is sought in the tree
pub data Sought (queues : List QueueSpec) (names : List (List ℕ)) : Type 0 where
  NotThere : find (is_queue queues) names ≡ None → first_place queues names ≡ None → Sought queues names
  There : (place : ℕ) (queue : QueueSpec) → IsFirstPlace queues place queue → find (is_queue queues) names ≡ Some queue.name → first_place queues names ≡ Some place → Sought queues names

pub sought : (queues : List QueueSpec) (names : List (List ℕ)) → Sought queues names
sought queues names = by_find (find (is_queue queues) names) refl
  where
    by_find : (found : Option (List ℕ)) → find (is_queue queues) names ≡ found → Sought queues names
    by_find None is = NotThere is (ap (option_and_then (place_of queues)) is)
    by_find (Some name) is =
        let place = place_of-some queues name (found_passes (is_queue queues) names name is) in
        let first = IsFirstPlace-from_place queues name _ place in
        There (position_or_len (is_named name) queues) first.0 first.1 (is ∙ ap Some (sym first.2)) (ap (option_and_then (place_of queues)) is ∙ place)
