-- What holds of an open life gives what the agreement rests on.
use Rattle.rm_invariant.proofs.Common.{◌≡◌, ℕ, List, [], ◌∷◌, Bool, true, false, ◌&&◌, Option, None, Some, find, refl, sym, ◌∙◌, ap, subst, list_any, bytes_eq, and_from, BookRow, AttemptId, ContainerId, Settings, is_container, is_some_and, same_text, BookOf, is_of, lives_on, Row, NodeRow, Tables, is_on, PlainNode, PlainRow, SameNodes, SameRows, bare_row, bare_node, plain_row, plain_node, History}
use Rattle.rm_book.specs.Books.{BookRowsAreApart as ApartRows}
use Rattle.rm_model.specs.Nodes.{judged_node as node_told}
use Rattle.rm_model.specs.State.{NodeState}
use Rattle.rm_refinement.proofs.Rows.{any_alike, first_alone}
use Rattle.rm_invariant.specs.Step.{AppsInvariant}
use Rattle.rm_invariant.specs.apps.Invariant.{RowInvariant}
use Rattle.rm_invariant.specs.apps.View.{view}
use Rattle.rm_invariant.specs.nodes.Book.{All, LivingRowsAreApart, AreLaunches}
use Rattle.rm_invariant.specs.events.Here.{LaunchesHere, RowsKnow, are_containers_on}

-- an application without a row has no record
pub rows_know : (settings : Settings) (h : History) (t : Tables) → AppsInvariant settings h t → RowsKnow t
rows_know settings h t k id none =
    let of_it : AttemptId = record { app = id; number = 0 } in
    let says : RowInvariant settings of_it None (view h t of_it) = rw none at (k.all of_it) in
    says.no_record

-- the rows of the tables are apart where the judge's are
pub rows_apart : (rows : List BookRow) (book : List Row) → SameRows rows book → LivingRowsAreApart book → ApartRows rows
rows_apart [] [] same apart = tt
rows_apart [] (one ∷ book) same apart = cc
rows_apart (row ∷ rows) [] same apart = cc
rows_apart (row ∷ rows) (one ∷ book) same apart =
    let first : bare_row row ≡ plain_row one = cc in
    let more : SameRows rows book = cc in
    let id : row.id ≡ one.id = ap (λ (x : PlainRow). x.id) first in
    let none : list_any (is_of row.id) rows ≡ false =
    any_alike (λ (x : PlainRow). is_container x.id row.id) rows book more ∙ ap (λ (c : ContainerId). list_any (λ (x : Row). is_container x.id c) book) id ∙ apart.0 in
    (none, rows_apart rows book more apart.1)

-- a container lives on a node where its row is on it
pub on_node : (rows : List BookRow) (book : List Row) (name : List ℕ) (id : ContainerId) → SameRows rows book → ApartRows rows → lives_on book name id ≡ is_on name (find (is_of id) rows)
on_node rows book name id same apart =
    sym (any_alike (λ (x : PlainRow). is_container x.id id && bytes_eq x.node name) rows book same)
    ∙ sym (first_alone (λ (x : BookRow). bytes_eq x.node name) id rows apart)
    ∙ by (find (is_of id) rows)
  where
    by : (o : Option BookRow) → is_some_and (λ x. bytes_eq x.node name) o ≡ is_on name o
    by None = refl
    by (Some row) = refl

-- the node that the judge finds under a name has it, and is one of its nodes
found_in : (P : NodeState → Type 0) (nodes : List NodeState) (name : List ℕ) (node : NodeState) → node_told nodes name ≡ Some node → All P nodes → P node × (node.name ≡ name)
found_in P [] name node found all = cc
found_in P (one ∷ nodes) name node found all = by (bytes_eq one.name name) refl (found_in P nodes name node)
  where
    by : (b : Bool) → bytes_eq one.name name ≡ b → (node_told nodes name ≡ Some node → All P nodes → P node × (node.name ≡ name)) → P node × (node.name ≡ name)
    by true e rest =
        let own : one ≡ node = let x = rw e at found in cc in
        (subst P own all.0, ap (λ (n : NodeState). n.name) (sym own) ∙ same_text one.name name e)
    by false e rest = rest (rw e at found) all.1

-- what is to be launched on a node stands there
pub launches_here : (book : BookOf) (told : List Row) (rows : List (List ℕ × NodeRow)) (nodes : List NodeState) → SameRows book.rows told → LivingRowsAreApart told → SameNodes book rows nodes
    → All (AreLaunches told) nodes → LaunchesHere book rows
launches_here book told rows nodes same apart alike launches name row found = by (node_told nodes name) refl
  where
    all_on : (ids : List ContainerId) → All (λ id. lives_on told name id ≡ true) ids → are_containers_on book name ids ≡ true
    all_on [] all = refl
    all_on (id ∷ ids) all =
        let on : is_on name (find (is_of id) book.rows) ≡ true = sym (on_node book.rows told name id same (rows_apart book.rows told same apart)) ∙ all.0 in
        and_from _ (are_containers_on book name ids) on (all_on ids all.1)

    by : (o : Option NodeState) → node_told nodes name ≡ o → are_containers_on book name row.launches ≡ true
    by None e = absurd (let x = alike name in let y = rw (found, e) at x in cc)
    by (Some node) e =
        let x : Some (bare_node book name row) ≡ Some (plain_node node) = let y = alike name in rw (found, e) at y in
        let is : bare_node book name row ≡ plain_node node = cc in
        let here = found_in (AreLaunches told) nodes name node e launches in
        let on : All (λ id. lives_on told name id ≡ true) node.launches = subst (λ (n : List ℕ). All (λ id. lives_on told n id ≡ true) node.launches) here.1 here.0 in
        subst (λ (ids : List ContainerId). are_containers_on book name ids ≡ true) (sym (ap (λ (x : PlainNode). x.launches) is)) (all_on node.launches on)
