-- What stands in the book stays in its range, and so does what its nodes offer.
use Rattle.rm_invariant.proofs.Common.{◌≡◌, ℕ, ◌+◌, List, [], ◌∷◌, ◌++◌, Bool, true, false, not, ◌&&◌, Option, None, Some, filter, find, fold, map, refl, ◌∙◌, subst, if◌then◌else◌, list_any, bytes_eq, BookRow, ContainerState, Acquired, Running, Grant, Held, ContainerId, Resource, Node, is_container, IsContainerId, IsText, is_some_and, NodeCapability, BookOf, capability_of, entering, granted_rows, has_row, is_of, book_row_taken, taken_rows, with_grants, book_with_taken, without_rows, is_held, has_container, NodeRow, Tables, counted_in, tables_may_take, taken_in, was_first, tables_with_counted, row_of, acquired, acquired_row, beaten_book, is_row_on, is_untold_row, IsSize, IsList, IsHeld}
use Rattle.std.proofs.Common.{nat_lt, is_some}
use Rattle.std.specs.Prelude.{All as Every}
use Rattle.std.specs.List.{AllByRecursion}
use Rattle.std.proofs.lemmas.List.Elements.{recursion_from_All}
use Rattle.rm_book.specs.Books.{is_node, book_row as book_row_of, with_capability, with_state}
use Rattle.rm_tables.specs.Absorbing.{booked_at, reported_in}
use Rattle.rm_types.specs.Containers.{is_granted}
use Rattle.rm_types.specs.declared.replies.Reply.{Reply}
use Rattle.rm_types.specs.declared.replies.Reply.TheVariants.{Took}
use Rattle.rm_master.specs.Answers.{handed_by, handed_row, ids_granted}
use Rattle.rm_tracker.specs.Answers.{brought_all, brought_one}
use Rattle.rm_invariant.specs.nodes.Book.{All}
use Rattle.rm_invariant.proofs.nodes.Holds.{all_append, all_filter, all_map}
use Rattle.rm_invariant.specs.bounds.InBounds.{IsBooked, IsOffer}

-- what holds of each of a list
pub each_of : {X : Type 0} (P : X → Type 0) (xs : List X) → Every P xs → All P xs
each_of {X = X} P xs every = by xs (recursion_from_All P xs every)
  where
    by : (list : List X) → AllByRecursion P list → All P list
    by [] all = tt
    by (x ∷ list) all = (all.0, by list all.1)

-- what is found is one of them
pub found_one : {X : Type 0} (P : X → Type 0) (p : X → Bool) (xs : List X) (x : X) → All P xs → find p xs ≡ Some x → P x
found_one P p [] x all e = cc
found_one P p (y ∷ xs) x all e = by (p y) refl (found_one P p xs x all.1)
  where
    by : (b : Bool) → p y ≡ b → (find p xs ≡ Some x → P x) → P x
    by true f rest =
        let is : Some y ≡ Some x = rw f at e in
        let same : y ≡ x = cc in
        subst P same all.0
    by false f rest = rest (rw f at e)

-- CONTAINERS LEAVE, AND CHANGE THEIR STATES

pub booked_without : (book : BookOf) (ids : List ContainerId) → All IsBooked book.rows → All IsBooked (without_rows book ids).rows
booked_without book ids all = all_filter IsBooked (λ row. not (list_any (λ id. is_container id row.id) ids)) book.rows all

-- a row in another state
booked_state : (state : ContainerState) (row : BookRow) → IsBooked row → IsBooked (record row { state = state })
booked_state state row own = record { id = own.id; node = own.node; size = own.size }

pub booked_acquired : (told : List ContainerId) (book : BookOf) → All IsBooked book.rows → All IsBooked (acquired told book).rows
booked_acquired told book all = all_map IsBooked IsBooked (acquired_row told) (λ row own. booked_state (if has_container told row.id then Acquired else row.state) row own) book.rows all

pub booked_handed : (reply : Reply) (book : BookOf) → All IsBooked book.rows → All IsBooked (handed_by reply book).rows
booked_handed (Took kept) book all =
    all_map IsBooked IsBooked (handed_row (ids_granted kept)) (λ row own. booked_state (if has_container (ids_granted kept) row.id && is_granted row.state then Acquired else row.state) row own) book.rows all
booked_handed _ book all = all

booked_brought : (passes : BookRow → Bool) (state : ContainerState) (book : BookOf) (id : ContainerId) → All IsBooked book.rows → All IsBooked (brought_one passes state book id).rows
booked_brought passes state book id all = by (is_some_and passes (book_row_of book id))
  where
    one : (row : BookRow) → IsBooked row → (b : Bool) → IsBooked (if b then record row { state = state } else row)
    one row own true = booked_state state row own
    one row own false = own

    by : (b : Bool) → All IsBooked (if b then with_state book id state else book).rows
    by true = all_map IsBooked IsBooked (λ row. if is_of id row then record row { state = state } else row) (λ row own. one row own (is_of id row)) book.rows all
    by false = all

booked_all : (passes : BookRow → Bool) (state : ContainerState) (ids : List ContainerId) (book : BookOf) → All IsBooked book.rows → All IsBooked (brought_all passes state book ids).rows
booked_all passes state [] book all = all
booked_all passes state (id ∷ ids) book all = booked_all passes state ids (brought_one passes state book id) (booked_brought passes state book id all)

pub booked_beaten : (name : List ℕ) (running launched : List ContainerId) (book : BookOf) → All IsBooked book.rows → All IsBooked (beaten_book name running launched book).rows
booked_beaten name running launched book all =
    booked_all (is_row_on name) Running running (brought_all (is_untold_row name) Acquired book launched) (booked_all (is_untold_row name) Acquired launched book all)

-- nodes offer the same
offers_brought : (passes : BookRow → Bool) (state : ContainerState) (ids : List ContainerId) (book : BookOf) → All IsOffer book.nodes → All IsOffer (brought_all passes state book ids).nodes
offers_brought passes state [] book all = all
offers_brought passes state (id ∷ ids) book all = offers_brought passes state ids (brought_one passes state book id) (by (is_some_and passes (book_row_of book id)))
  where
    by : (b : Bool) → All IsOffer (if b then with_state book id state else book).nodes
    by true = all
    by false = all

pub offers_handed : (reply : Reply) (book : BookOf) → All IsOffer book.nodes → All IsOffer (handed_by reply book).nodes
offers_handed (Took kept) book all = all
offers_handed _ book all = all

pub offers_beaten : (name : List ℕ) (running launched : List ContainerId) (book : BookOf) → All IsOffer book.nodes → All IsOffer (beaten_book name running launched book).nodes
offers_beaten name running launched book all =
    offers_brought (is_row_on name) Running running (brought_all (is_untold_row name) Acquired book launched) (offers_brought (is_untold_row name) Acquired launched book all)

-- A REPORT IS ABSORBED

-- what is taken
held_counted : (t : Tables) (name : List ℕ) (held : Held) → All IsBooked t.book.rows → IsHeld held → (o : Option Held) → counted_in t name held ≡ o → (one : Held) → o ≡ Some one → IsHeld one
held_counted t name held booked own o e one is = by (is_some (capability_of t.book name)) (e ∙ is)
  where
    found : (r : Option BookRow) → book_row_of t.book held.id ≡ r → booked_at name r ≡ Some one → IsHeld one
    found None f g = cc
    found (Some row) f g = at (bytes_eq row.node name) g
      where
        at : (b : Bool) → (if b then Some (record { id = row.id; size = row.size }) else None) ≡ Some one → IsHeld one
        at false h = cc
        at true h =
            let there = found_one IsBooked (is_of held.id) t.book.rows row booked f in
            let same : ◌≡◌ {A = Held} (record { id = row.id; size = row.size }) one = cc in
            subst IsHeld same (record { id = there.id; size = there.size })

    reported : (b : Bool) → (if b then Some held else None) ≡ Some one → IsHeld one
    reported false h = cc
    reported true h = let same : held ≡ one = cc in subst IsHeld same own

    by : (b : Bool) → (if b then booked_at name (book_row_of t.book held.id) else reported_in t held) ≡ Some one → IsHeld one
    by true f = found (book_row_of t.book held.id) refl f
    by false f = reported (nat_lt held.id.epoch t.epoch && was_first held.id.attempt (row_of t.rows held.id.attempt.app)) f

pub held_taken : (t : Tables) (name : List ℕ) (row : NodeRow) → All IsBooked t.book.rows → IsList IsHeld row.running → All IsHeld (taken_in t name row)
held_taken t name row booked list = by row.running [] (each_of IsHeld row.running list.each) tt
  where
    more : (taken : List Held) (held : Held) → IsHeld held → All IsHeld taken → (o : Option Held) → counted_in t name held ≡ o → All IsHeld (tables_with_counted t name row.capability taken o)
    more taken held own all None e = all
    more taken held own all (Some one) e = at (tables_may_take t name row.capability taken one)
      where
        at : (b : Bool) → All IsHeld (if b then taken ++ one ∷ [] else taken)
        at true = all_append IsHeld taken (one ∷ []) all (held_counted t name held booked own (counted_in t name held) refl one e, tt)
        at false = all

    by : (report taken : List Held) → All IsHeld report → All IsHeld taken → All IsHeld (fold (λ so_far held. tables_with_counted t name row.capability so_far (counted_in t name held)) taken report)
    by [] taken report all = all
    by (held ∷ rest) taken report all = by rest (tables_with_counted t name row.capability taken (counted_in t name held)) report.1 (more taken held report.0 all (counted_in t name held) refl)

-- stands on the node
taken_booked : (added : ℕ) (name : List ℕ) (taken : List Held) → IsText Node name → All IsHeld taken → All IsBooked (taken_rows added name taken)
taken_booked added name [] is all = tt
taken_booked added name (held ∷ taken) is all = (record { id = all.0.id; node = is; size = all.0.size }, taken_booked (added + 1) name taken is all.1)

pub booked_taken : (book : BookOf) (name : List ℕ) (capability : Resource) (taken : List Held) (ended : List ContainerId) → IsText Node name → All IsHeld taken → All IsBooked book.rows
    → All IsBooked (book_with_taken book name capability taken ended).rows
booked_taken book name capability taken ended is held all =
    all_append IsBooked (map (book_row_taken taken) (filter (λ row. not (list_any (λ id. is_container id row.id) ended)) book.rows)) (taken_rows book.added name (entering book taken))
    (all_map IsBooked IsBooked (book_row_taken taken) (λ row own. one row own (is_held taken row.id)) (filter (λ row. not (list_any (λ id. is_container id row.id) ended)) book.rows)
    (all_filter IsBooked (λ row. not (list_any (λ id. is_container id row.id) ended)) book.rows all))
    (taken_booked book.added name (entering book taken) is (all_filter IsHeld (λ one. not (has_row book one.id)) taken held))
  where
    one : (row : BookRow) → IsBooked row → (b : Bool) → IsBooked (if b then record row { state = Running } else row)
    one row own true = booked_state Running row own
    one row own false = own

-- and the node offers something
pub offers_with : (name : List ℕ) (capability : Resource) (nodes : List NodeCapability) → IsText Node name → IsSize capability → All IsOffer nodes → All IsOffer (with_capability name capability nodes)
offers_with name capability [] is size all = (record { node = is; size = size }, tt)
offers_with name capability (one ∷ nodes) is size all = by (is_node name one) (offers_with name capability nodes is size all.1)
  where
    by : (b : Bool) → All IsOffer (with_capability name capability nodes) → All IsOffer (if b then record one { capability = capability } ∷ nodes else one ∷ with_capability name capability nodes)
    by true rest = (record { node = all.0.node; size = size }, all.1)
    by false rest = (all.0, rest)

-- CONTAINERS ARE GRANTED

-- a grant has its parts in their ranges
pub record IsGrant (grant : Grant) : Type 0 where
  pub id : IsContainerId grant.id
  pub node : IsText Node grant.node
  pub size : IsSize grant.size

grants_booked : (added : ℕ) (grants : List Grant) → All IsGrant grants → All IsBooked (granted_rows added grants)
grants_booked added [] all = tt
grants_booked added (grant ∷ grants) all = (record { id = all.0.id; node = all.0.node; size = all.0.size }, grants_booked (added + 1) grants all.1)

pub booked_granted : (book : BookOf) (grants : List Grant) → All IsGrant grants → All IsBooked book.rows → All IsBooked (with_grants book grants).rows
booked_granted book grants are all = all_append IsBooked book.rows (granted_rows book.added grants) all (grants_booked book.added grants are)
