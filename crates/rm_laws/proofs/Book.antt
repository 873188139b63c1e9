-- The rows of the book are those that the log says.
use Rattle.rm_laws.proofs.Common.{◌≡◌, ℕ, List, [], ◌∷◌, Bool, true, false, ◌||◌, ◌&&◌, not, if◌then◌else◌, Some, map, filter, refl, sym, ap, subst, ◌∙◌, bytes_eq, list_any-append, any-filter_same, and_parts, Grant, Held, ContainerId, is_container, same_text, same_container, NodeState, Row, Scene, Settings, has_container, ids_on, is_living, lives_elsewhere, lives_on, book_taken, row_absorbed, row_taken, taken_of, is_held, judged_node, row_granted}
use Rattle.std.proofs.lemmas.List.Sorted.{list_any-IsPermutation}
use Rattle.rm_types.specs.declared.containers.ContainerState.TheVariants.{Running}
use Rattle.rm_types.specs.Order.{Ascend}
use Rattle.rm_types.proofs.TestLemmas.{and_false}
use Rattle.rm_model.specs.Absorbing.{not_taken}
use Rattle.rm_laws.proofs.Lists.{Each}
use Rattle.rm_laws.proofs.Taken.{each_taken}

-- a test of a container answers alike for two that are the same
same_test : (a b : ContainerId) (test : ContainerId → Bool) → is_container a b ≡ true → test a ≡ test b
same_test a b test h = ap test (same_container a b h)

-- a row stands where this container does
abbrev pub is_at : List ℕ → ContainerId → Row → Bool
is_at name id row = is_container row.id id && bytes_eq row.node name

-- a change of rows that keeps where they stand
pub lives-map : (f : Row → Row) → ((row : Row) → ((f row).id ≡ row.id) × ((f row).node ≡ row.node)) → (book : List Row) (name : List ℕ) (id : ContainerId)
    → lives_on (map f book) name id ≡ lives_on book name id
lives-map f keeps [] name id = refl
lives-map f keeps (row ∷ book) name id =
    let k = keeps row in
    let same : is_at name id (f row) ≡ is_at name id row = ap (λ (x : ContainerId). is_container x id && bytes_eq (f row).node name) k.0 ∙ ap (λ (x : List ℕ). is_container row.id id && bytes_eq x name) k.1 in
    rw (same, lives-map f keeps book name id) refl

-- rows go
pub lives-filter : (list : List ContainerId) (book : List Row) (name : List ℕ) (id : ContainerId)
    → lives_on (filter (λ row. not (has_container list row.id)) book) name id ≡ (not (has_container list id) && lives_on book name id)
lives-filter list book name id =
    any-filter_same (is_at name id) (λ row. not (has_container list row.id)) (not (has_container list id))
    (λ row at. same_test row.id id (λ x. not (has_container list x)) (and_parts (is_container row.id id) (bytes_eq row.node name) at).0) book

pub is_living-filter : (list : List ContainerId) (book : List Row) (id : ContainerId)
    → is_living (filter (λ row. not (has_container list row.id)) book) id ≡ (not (has_container list id) && is_living book id)
is_living-filter list book id =
    any-filter_same (λ (row : Row). is_container row.id id) (λ row. not (has_container list row.id)) (not (has_container list id))
    (λ row at. same_test row.id id (λ x. not (has_container list x)) at) book

-- granted rows
swap_parts : (a b c : Bool) → ((a && b) || (b && c)) ≡ (b && (a || c))
swap_parts true true c = refl
swap_parts true false c = refl
swap_parts false true c = refl
swap_parts false false c = refl

pub lives-granted : (on name : List ℕ) (id : ContainerId) (grants : List Grant) → Each (λ (grant : Grant). grant.node ≡ on) grants
    → lives_on (map row_granted grants) name id ≡ (bytes_eq on name && has_container (map (λ (grant : Grant). grant.id) grants) id)
lives-granted on name id [] h = sym (and_false (bytes_eq on name))
lives-granted on name id (grant ∷ grants) h =
    rw (h.0, lives-granted on name id grants h.1) (swap_parts (is_container grant.id id) (bytes_eq on name) (has_container (map (λ (one : Grant). one.id) grants) id))

-- absorbed rows
pub lives-absorbed : (on name : List ℕ) (id : ContainerId) (taken : List Held)
    → lives_on (map (row_absorbed on) taken) name id ≡ (bytes_eq on name && is_held taken id)
lives-absorbed on name id [] = sym (and_false (bytes_eq on name))
lives-absorbed on name id (held ∷ taken) =
    rw (lives-absorbed on name id taken) (swap_parts (is_container held.id id) (bytes_eq on name) (is_held taken id))

held-filter : (book : List Row) (taken : List Held) (id : ContainerId)
    → is_held (filter (λ held. not (is_living book held.id)) taken) id ≡ (not (is_living book id) && is_held taken id)
held-filter book taken id =
    any-filter_same (λ (held : Held). is_container held.id id) (λ held. not (is_living book held.id)) (not (is_living book id))
    (λ held at. same_test held.id id (λ x. not (is_living book x)) at) taken

pub row_taken_stays : (taken : List Held) (row : Row) → ((row_taken taken row).id ≡ row.id) × ((row_taken taken row).node ≡ row.node) × ((row_taken taken row).size ≡ row.size)
row_taken_stays taken row = go (is_held taken row.id)
  where
    go : (b : Bool) → ((if b then record row { state = Running } else row).id ≡ row.id) × ((if b then record row { state = Running } else row).node ≡ row.node) × ((if b then record row { state = Running } else row).size ≡ row.size)
    go true = (refl, refl, refl)
    go false = (refl, refl, refl)

pub lives-taken : (on name : List ℕ) (id : ContainerId) (taken : List Held) (book : List Row)
    → lives_on (book_taken on taken book) name id ≡ (lives_on book name id || (bytes_eq on name && (not (is_living book id) && is_held taken id)))
lives-taken on name id taken book =
    list_any-append (is_at name id) (map (row_taken taken) book) (map (row_absorbed on) (filter (λ held. not (is_living book held.id)) taken))
    ∙ rw (lives-map (row_taken taken) (λ row. ((row_taken_stays taken row).0, (row_taken_stays taken row).1)) book name id, lives-absorbed on name id (filter (λ held. not (is_living book held.id)) taken), held-filter book taken id) refl

-- a list in ascending order has the containers that it is made of
pub has-ascend : (id : ContainerId) (ids list : List ContainerId) → Ascend ids list → has_container list id ≡ has_container ids id
has-ascend id ids list ascend = sym (list_any-IsPermutation (λ (x : ContainerId). is_container x id) ids list ascend.same)

-- what an absorption ends: what stood on the node and isn't taken
pub ended_test : (m : Scene) (node : NodeState) (taken : List Held) (ended : List ContainerId) (id : ContainerId) → Ascend (not_taken m node taken) ended
    → has_container ended id ≡ (not (is_held taken id) && has_container (ids_on m.life.book node.name) id)
ended_test m node taken ended id ascend =
    has-ascend id (not_taken m node taken) ended ascend
    ∙ any-filter_same (λ (x : ContainerId). is_container x id) (λ x. not (is_held taken x)) (not (is_held taken id)) (λ x at. same_test x id (λ y. not (is_held taken y)) at) (ids_on m.life.book node.name)

pub not_taken_apart : (m : Scene) (node : NodeState) (taken : List Held) (ended : List ContainerId) (id : ContainerId) → Ascend (not_taken m node taken) ended → is_held taken id ≡ true
    → has_container ended id ≡ false
not_taken_apart m node taken ended id ascend held = ended_test m node taken ended id ascend ∙ rw held refl

-- what is taken lives on no other node
pub taken_home : (settings : Settings) (m : Scene) (node : NodeState) → Each (λ held. lives_elsewhere m.life.book node.name held.id ≡ false) (taken_of settings m node)
taken_home settings m node = each_taken settings m node (λ held. lives_elsewhere m.life.book node.name held.id ≡ false) (λ taken one free. free.home)

pub each_held : (P : ContainerId → Type 0) (id : ContainerId) (taken : List Held) → Each (λ held. P held.id) taken → is_held taken id ≡ true → P id
each_held P id [] h is = cc
each_held P id (held ∷ taken) h is = go (each_held P id taken h.1) (is_container held.id id) refl is
  where
    go : (is_held taken id ≡ true → P id) → (b : Bool) → is_container held.id id ≡ b → (b || is_held taken id) ≡ true → P id
    go more true e x = subst P (same_container held.id id e) h.0
    go more false e x = more x

-- a container that lives, and on no other node, lives on this one
home_row : (row : Row) (book : List Row) (name : List ℕ) (id : ContainerId) → (a b : Bool) → (c d e : Bool)
    → ((a && not b) || c) ≡ false → (a || d) ≡ true → (c ≡ false → d ≡ true → e ≡ true) → ((a && b) || e) ≡ true
home_row row book name id true true c d e out in_ rest = refl
home_row row book name id true false c d e out in_ rest = cc
home_row row book name id false b c d e out in_ rest = rest out in_

pub lives_home : (book : List Row) (name : List ℕ) (id : ContainerId) → lives_elsewhere book name id ≡ false → is_living book id ≡ true → lives_on book name id ≡ true
lives_home [] name id out living = cc
lives_home (row ∷ book) name id out living =
    home_row row book name id (is_container row.id id) (bytes_eq row.node name) (lives_elsewhere book name id) (is_living book id) (lives_on book name id) out living (lives_home book name id)

-- the node that is found by a name has that name
pub found : (nodes : List NodeState) (at : List ℕ) (node : NodeState) → judged_node nodes at ≡ Some node → node.name ≡ at
found [] at node e = cc
found (one ∷ nodes) at node e = go (found nodes at node) (bytes_eq one.name at) refl e
  where
    go : (judged_node nodes at ≡ Some node → node.name ≡ at) → (b : Bool) → bytes_eq one.name at ≡ b → (if b then Some one else judged_node nodes at) ≡ Some node → node.name ≡ at
    go more true same e = let x : one ≡ node = cc in subst (λ (n : NodeState). n.name ≡ at) x (same_text one.name at same)
    go more false same e = more e

-- the book after an absorption
pub absorbed_by : (stood ended living home held here : Bool)
    → (held ≡ true → ended ≡ false) → (held ≡ true → here ≡ true → living ≡ true → stood ≡ true)
    → ((not ended && stood) || (here && (not (not ended && living) && held))) ≡ ((stood || (here && held)) && not ended)
absorbed_by true true living home true here a b = let x = a refl in cc
absorbed_by true true living home false true a b = rw (and_false (not (not true && living))) refl
absorbed_by true true living home false false a b = refl
absorbed_by true false living home held here a b = refl
absorbed_by false true living home true here a b = let x = a refl in cc
absorbed_by false true living home false true a b = rw (and_false (not (not true && living))) refl
absorbed_by false true living home false false a b = refl
absorbed_by false false true home true true a b = let x = b refl refl refl in cc
absorbed_by false false true home true false a b = refl
absorbed_by false false true home false true a b = refl
absorbed_by false false true home false false a b = refl
absorbed_by false false false home true true a b = refl
absorbed_by false false false home true false a b = refl
absorbed_by false false false home false true a b = refl
absorbed_by false false false home false false a b = refl
