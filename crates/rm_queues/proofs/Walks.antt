-- Along the path of a queue the nodes say what the settings' lists say.
use Rattle.std.proofs.Common.{◌≡◌, ℕ, ◌+◌, ◌<◌, zero, suc, Bool, true, false, ◌||◌, cond, List, [], ◌∷◌, length, Option, Some, None, find, option_and_then, option_map, refl, sym, ap, ◌∙◌, subst, arith, ◌⊎◌, inl, inr, ⊎_elim}
use Rattle.std.specs.Prelude.{codes}
use Rattle.std.specs.List.{list_any, slice_get}
use Rattle.std.specs.Str.{bytes_eq}
use Rattle.std.proofs.lemmas.Bool.{false≢true, or_left, cond-true, cond-false, cases_Bool, false_from_ne_true}
use Rattle.std.proofs.lemmas.Option.{none-some, same_Some}
use Rattle.std.proofs.lemmas.Slice.Eq.{bytes_eq-Decides}
use Rattle.rm_types.specs.declared.replies.AclOp.{AclOp}
use Rattle.rm_types.specs.declared.replies.AclOp.TheVariants.{Submit, Kill}
use Rattle.rm_types.specs.declared.settings.QueueSpec.{QueueSpec}
use Rattle.rm_types.specs.declared.settings.Settings.{Settings}
use Rattle.rm_types.specs.AclTexts.{admits, is_among}
use Rattle.rm_types.specs.Rights.{path_of, parents_of, queue_of, is_queue, root_name, acl_of, admits_at, admits_user, submit_list, groups_of_user}
use Rattle.rm_queues.specs.Paths.{IsParent}
use Rattle.rm_queues.specs.Rules.{KeepsRules}
use Rattle.rm_queues.specs.Trees.{place_of, first_place, queue_node, node_allows, path_admits}
use Rattle.rm_queues.proofs.Dots.{parent_cases}
use Rattle.rm_queues.proofs.Steps.{steps_left}
use Rattle.rm_queues.proofs.FirstPlaces.{Sought, NotThere, There, sought, IsFirstPlace, queue_of-none, queue_of-first}

-- no group is among none
none_among : (groups : List (List ℕ)) → list_any (λ group. is_among group []) groups ≡ false
none_among [] = refl
none_among (group ∷ groups) = none_among groups

-- the single space admits no one
admits-space : (user : List ℕ) (groups : List (List ℕ)) → admits (codes " ") user groups ≡ false
admits-space user groups = none_among groups

-- the root is in the tree
root_is_queue : (queues : List QueueSpec) → option_map (λ queue. queue.name) (slice_get queues 0) ≡ Some root_name → is_queue queues root_name ≡ true
root_is_queue [] first = absurd (none-some root_name first)
root_is_queue (queue ∷ queues) first = or_left _ _ ((bytes_eq-Decides queue.name root_name).1 (same_Some queue.name root_name first))

-- a name that is not in the tree is not the root's
not_root : (queues : List QueueSpec) (name : List ℕ) → is_queue queues root_name ≡ true → is_queue queues name ≡ false → bytes_eq name root_name ≡ false
not_root queues name root none =
    false_from_ne_true (bytes_eq name root_name) (λ same. false≢true (sym none ∙ ap (is_queue queues) ((bytes_eq-Decides name root_name).0 same) ∙ root))

-- at a name that is not in the tree no one is admitted
admits_at-none : (op : AclOp) (settings : Settings) (user name : List ℕ) → KeepsRules settings → is_queue settings.queues name ≡ false → admits_at op settings user name ≡ false
admits_at-none op settings user name rules none = at op
  where
    absent : queue_of settings.queues name ≡ None
    absent = queue_of-none settings.queues name none

    no_one : acl_of name None ≡ codes " "
    no_one = cond-false _ (codes "*") (codes " ") (not_root settings.queues name (root_is_queue settings.queues rules.first_is_root) none)

    of_list : (list : QueueSpec → Option (List ℕ)) → admits_user settings user (acl_of name (option_and_then list (queue_of settings.queues name))) ≡ false
    of_list list =
        ap (λ queue. admits_user settings user (acl_of name (option_and_then list queue))) absent
        ∙ ap (admits_user settings user) no_one
        ∙ admits-space user (groups_of_user settings.groups user)

    at : (one : AclOp) → admits_at one settings user name ≡ false
    at Submit = ap (λ b. b || admits_at Kill settings user name) (of_list (λ queue. queue.submit)) ∙ of_list (λ queue. queue.admin)
    at Kill = of_list (λ queue. queue.admin)

-- the lists at these names
abbrev pub admits_in : AclOp → Settings → List ℕ → List (List ℕ) → Bool
admits_in op settings user names = list_any (λ name. admits_at op settings user name) names

-- what the path of the queue at the first place along these names says
abbrev pub admits_from : AclOp → Settings → List ℕ → List (List ℕ) → Bool
admits_from op settings user names = path_admits op settings user (option_and_then (slice_get settings.queues) (first_place settings.queues names))

-- where these names have a first place, its queue's path says it
admits_from-there : (op : AclOp) (settings : Settings) (user : List ℕ) (names : List (List ℕ)) (place : ℕ) (queue : QueueSpec)
    → slice_get settings.queues place ≡ Some queue → first_place settings.queues names ≡ Some place
    → admits_from op settings user names ≡ admits_in op settings user (path_of queue.name)
admits_from-there op settings user names place queue at is =
    ap (path_admits op settings user) (ap (option_and_then (slice_get settings.queues)) is ∙ at)

-- a name in the tree is the first along its path
in_tree : (op : AclOp) (settings : Settings) (user name : List ℕ) (names : List (List ℕ)) → is_queue settings.queues name ≡ true
    → Sought settings.queues (name ∷ names) → admits_in op settings user (path_of name) ≡ admits_from op settings user (name ∷ names)
in_tree op settings user name names there (NotThere none place) =
    absurd (none-some name (sym none ∙ cond-true _ (Some name) (find (is_queue settings.queues) names) there))
in_tree op settings user name names there (There place queue first found at) =
    let same : name ≡ queue.name = same_Some name queue.name (sym (cond-true _ (Some name) (find (is_queue settings.queues) names) there) ∙ found) in
    ap (λ one. admits_in op settings user (path_of one)) same ∙ sym (admits_from-there op settings user (name ∷ names) place queue first.at at)

-- a name that is not in the tree may be left out
not_in_tree : (op : AclOp) (settings : Settings) (user name : List ℕ) (names : List (List ℕ)) → KeepsRules settings → is_queue settings.queues name ≡ false
    → admits_in op settings user names ≡ admits_from op settings user names → admits_in op settings user (name ∷ names) ≡ admits_from op settings user (name ∷ names)
not_in_tree op settings user name names rules none rest =
    ap (λ b. b || admits_in op settings user names) (admits_at-none op settings user name rules none)
    ∙ rest
    ∙ ap (λ found. path_admits op settings user (option_and_then (slice_get settings.queues) (option_and_then (place_of settings.queues) found)))
    (sym (cond-false _ (Some name) (find (is_queue settings.queues) names) none))

-- along the parents, nothing changes where they start at the first place in the tree, if that holds of the nearest
from_nearest : (op : AclOp) (settings : Settings) (user name : List ℕ)
    → ((parent : List ℕ) → length parent < length name → admits_in op settings user (path_of parent) ≡ admits_from op settings user (path_of parent))
    → admits_in op settings user (parents_of name) ≡ admits_from op settings user (parents_of name)
from_nearest op settings user name each = by_parent (parent_cases name)
  where
    by_parent : (parents_of name ≡ []) ⊎ ((parent : List ℕ) × IsParent name parent) → admits_in op settings user (parents_of name) ≡ admits_from op settings user (parents_of name)
    by_parent (inl none) = ap (admits_in op settings user) none ∙ sym (ap (admits_from op settings user) none)
    by_parent (inr parent) = ap (admits_in op settings user) parent.1.path ∙ each parent.0 parent.1.shorter ∙ sym (ap (admits_from op settings user) parent.1.path)

-- along a path of at most so many bytes, nothing changes where it starts at the first place in the tree
from_path_within : (fuel : ℕ) (op : AclOp) (settings : Settings) (user name : List ℕ) → KeepsRules settings → length name < fuel
    → admits_in op settings user (path_of name) ≡ admits_from op settings user (path_of name)
from_path_within zero op settings user name rules within = absurd (omega arith)
from_path_within (suc fuel) op settings user name rules within =
    ⊎_elim
    (λ there. in_tree op settings user name (parents_of name) there (sought settings.queues (path_of name)))
    (λ none. not_in_tree op settings user name (parents_of name) rules none
    (from_nearest op settings user name (λ parent shorter. from_path_within fuel op settings user parent rules (omega (arith, shorter)))))
    (cases_Bool (is_queue settings.queues name))

-- along a path nothing changes where it starts at the first place in the tree
pub from_path : (op : AclOp) (settings : Settings) (user name : List ℕ) → KeepsRules settings → admits_in op settings user (path_of name) ≡ admits_from op settings user (path_of name)
from_path op settings user name rules = from_path_within (suc (length name)) op settings user name rules (omega arith)

-- and so along the parents
pub from_parents : (op : AclOp) (settings : Settings) (user name : List ℕ) → KeepsRules settings → admits_in op settings user (parents_of name) ≡ admits_from op settings user (parents_of name)
from_parents op settings user name rules = from_nearest op settings user name (λ parent shorter. from_path op settings user parent rules)

-- a node says what the lists of its queue's name say
pub node_allows-at : (op : AclOp) (settings : Settings) (user : List ℕ) (place : ℕ) (queue : QueueSpec) → IsFirstPlace settings.queues place queue
    → node_allows op (queue_node settings.queues queue) user (groups_of_user settings.groups user) ≡ admits_at op settings user queue.name
node_allows-at op settings user place queue first = at op
  where
    of_list : (list : QueueSpec → Option (List ℕ)) → admits_user settings user (acl_of queue.name (list queue)) ≡ admits_user settings user (acl_of queue.name (option_and_then list (queue_of settings.queues queue.name)))
    of_list list = ap (λ one. admits_user settings user (acl_of queue.name (option_and_then list one))) (sym (queue_of-first settings.queues place queue first))

    at : (one : AclOp) → node_allows one (queue_node settings.queues queue) user (groups_of_user settings.groups user) ≡ admits_at one settings user queue.name
    at Submit = ap (λ b. b || admits_user settings user (acl_of queue.name queue.admin)) (of_list (λ one. one.submit)) ∙ ap (λ b. admits_user settings user (submit_list settings.queues queue.name) || b) (of_list (λ one. one.admin))
    at Kill = of_list (λ one. one.admin)

-- the path of a queue says what its node says, and then what the path from its nearest parent in the tree says
pub path_admits-step : (op : AclOp) (settings : Settings) (user : List ℕ) (place : ℕ) (queue : QueueSpec) → KeepsRules settings → IsFirstPlace settings.queues place queue
    → admits_in op settings user (path_of queue.name)
    ≡ (node_allows op (queue_node settings.queues queue) user (groups_of_user settings.groups user) || admits_from op settings user (parents_of queue.name))
path_admits-step op settings user place queue rules first =
    ap (λ b. b || admits_in op settings user (parents_of queue.name)) (sym (node_allows-at op settings user place queue first))
    ∙ ap (λ b. node_allows op (queue_node settings.queues queue) user (groups_of_user settings.groups user) || b) (from_parents op settings user queue.name rules)

-- a parent in the tree has a shorter name
shorter_within : (fuel : ℕ) (queues : List QueueSpec) (name found : List ℕ) → length name < fuel → find (is_queue queues) (parents_of name) ≡ Some found → length found < length name
shorter_within zero queues name found within is = absurd (omega arith)
shorter_within (suc fuel) queues name found within is =
    by_parent (parent_cases name) (λ parent shorter e. shorter_within fuel queues parent found (omega (arith, shorter)) e)
  where
    at_parent : (parent : List ℕ) → length parent < length name → (find (is_queue queues) (parents_of parent) ≡ Some found → length found < length parent)
        → (b : Bool) → cond b (Some parent) (find (is_queue queues) (parents_of parent)) ≡ Some found → length found < length name
    at_parent parent shorter further true e = omega (arith, shorter, ap length (same_Some parent found e))
    at_parent parent shorter further false e = omega (arith, shorter, further e)

    by_parent : (parents_of name ≡ []) ⊎ ((parent : List ℕ) × IsParent name parent)
        → ((parent : List ℕ) → length parent < length name → find (is_queue queues) (parents_of parent) ≡ Some found → length found < length parent)
        → length found < length name
    by_parent (inl none) further = absurd (none-some found (ap (find (is_queue queues)) (sym none) ∙ is))
    by_parent (inr parent) further =
        at_parent parent.0 parent.1.shorter (further parent.0 parent.1.shorter) (is_queue queues parent.0) (ap (find (is_queue queues)) (sym parent.1.path) ∙ is)

pub shorter_parent : (queues : List QueueSpec) (name found : List ℕ) → find (is_queue queues) (parents_of name) ≡ Some found → length found < length name
shorter_parent queues name found is = shorter_within (suc (length name)) queues name found (omega arith) is

-- there is no next place, or the first place of a queue is next
abbrev pub IsPlaceNext : List QueueSpec → Option ℕ → Type 0
IsPlaceNext queues None = Unit {0}
IsPlaceNext queues (Some place) = (queue : QueueSpec) × IsFirstPlace queues place queue

-- the first place along some names is one
pub IsPlaceNext-first : (queues : List QueueSpec) (names : List (List ℕ)) → IsPlaceNext queues (first_place queues names)
IsPlaceNext-first queues names = by (sought queues names)
  where
    by : Sought queues names → IsPlaceNext queues (first_place queues names)
    by (NotThere none is) = subst (IsPlaceNext queues) (sym is) tt
    by (There place queue first found is) = subst (IsPlaceNext queues) (sym is) (queue, first)

-- how many bytes and one the name of the next queue has
abbrev pub name_left : List QueueSpec → Option ℕ → ℕ
name_left queues next = steps_left (option_map (λ queue. queue.name) (option_and_then (slice_get queues) next))

-- the nearest parent in the tree has a shorter name
pub name_left-parent : (queues : List QueueSpec) (name : List ℕ) → name_left queues (first_place queues (parents_of name)) < 1 + length name
name_left-parent queues name = by (sought queues (parents_of name))
  where
    name_left-at : (next : Option ℕ) (queue : Option QueueSpec) → option_and_then (slice_get queues) next ≡ queue → name_left queues next ≡ steps_left (option_map (λ one. one.name) queue)
    name_left-at next queue e = ap (λ one. steps_left (option_map (λ it. it.name) one)) e

    by : Sought queues (parents_of name) → name_left queues (first_place queues (parents_of name)) < 1 + length name
    by (NotThere none is) = omega (arith, name_left-at (first_place queues (parents_of name)) None (ap (option_and_then (slice_get queues)) is))
    by (There place queue first found is) =
        omega (arith, name_left-at (first_place queues (parents_of name)) (Some queue) (ap (option_and_then (slice_get queues)) is ∙ first.at), shorter_parent queues name queue.name found)
