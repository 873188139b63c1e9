-- The queue and the node at a place.
use Rattle.std.proofs.Common.{◌≡◌, ℕ, ◌+◌, ◌<◌, true, false, ◌||◌, List, map, length, get_or, Option, Some, None, unwrap_or, option_map, option_and_then, refl, sym, ap, ◌∙◌, subst, arith}
use Rattle.std.specs.List.{slice_get}
use Rattle.std.proofs.lemmas.Option.{none-some, same_Some, slice_get-map, slice_get_within, get_or_from_slice_get}
use Rattle.rm_types.specs.declared.replies.AclOp.{AclOp}
use Rattle.rm_types.specs.declared.settings.QueueSpec.{QueueSpec}
use Rattle.rm_types.specs.declared.settings.Settings.{Settings}
use Rattle.rm_types.specs.Rights.{path_of, parents_of, home, root_name, groups_of_user}
use Rattle.rm_queues.specs.declared.nodes.Node.{Node}
use Rattle.rm_queues.specs.Rules.{KeepsRules}
use Rattle.rm_queues.specs.Trees.{first_place, queue_node, node_allows, path_admits}
use Rattle.rm_queues.proofs.FirstPlaces.{Sought, NotThere, There, sought, IsFirstPlace}
use Rattle.rm_queues.proofs.Steps.{steps_left}
use Rattle.rm_queues.proofs.Walks.{admits_in, admits_from, IsPlaceNext, IsPlaceNext-first, name_left, name_left-parent, path_admits-step}

-- the place that is taken for a queue's home
abbrev pub home_place : List QueueSpec → List ℕ → ℕ
home_place queues name = unwrap_or (first_place queues (path_of name)) 0

-- there is a queue at that place, and it is the home
pub home_is : (settings : Settings) (name : List ℕ) → KeepsRules settings
    → (queue : QueueSpec) × (slice_get settings.queues (home_place settings.queues name) ≡ Some queue) × (queue.name ≡ home settings.queues name)
home_is settings name rules = by (sought settings.queues (path_of name))
  where
    at_root : (first : Option QueueSpec) → option_map (λ queue. queue.name) first ≡ Some root_name → (queue : QueueSpec) × (first ≡ Some queue) × (queue.name ≡ root_name)
    at_root None is = absurd (none-some root_name is)
    at_root (Some queue) is = (queue, refl, same_Some queue.name root_name is)

    by : Sought settings.queues (path_of name) → (queue : QueueSpec) × (slice_get settings.queues (home_place settings.queues name) ≡ Some queue) × (queue.name ≡ home settings.queues name)
    by (NotThere none is) =
        let root = at_root (slice_get settings.queues 0) rules.first_is_root in
        (root.0, ap (slice_get settings.queues) (ap (λ o. unwrap_or o 0) is) ∙ root.1, root.2 ∙ sym (ap (λ o. unwrap_or o root_name) none))
    by (There place queue first found is) =
        (queue, ap (slice_get settings.queues) (ap (λ o. unwrap_or o 0) is) ∙ first.at, sym (ap (λ o. unwrap_or o root_name) found))

-- so the place is within the list
pub home_within : (settings : Settings) (name : List ℕ) (place : ℕ) → KeepsRules settings → place ≡ home_place settings.queues name → place < length settings.queues
home_within settings name place rules is =
    let queue = home_is settings name rules in
    slice_get_within settings.queues place queue.0 (ap (slice_get settings.queues) is ∙ queue.1)

-- and the queue there is the home
pub home_name : (settings : Settings) (name : List ℕ) (place : ℕ) (queue : QueueSpec) → KeepsRules settings → place ≡ home_place settings.queues name
    → slice_get settings.queues place ≡ Some queue → queue.name ≡ home settings.queues name
home_name settings name place queue rules is at =
    let one = home_is settings name rules in
    ap (λ it. it.name) (same_Some queue one.0 (sym at ∙ ap (slice_get settings.queues) is ∙ one.1)) ∙ one.2

-- the node at a place is that of the queue there
pub node_at : (queues : List QueueSpec) (nodes : List Node) (place : ℕ) (node : Node) (queue : QueueSpec) → nodes ≡ map (queue_node queues) queues
    → node ≡ get_or nodes place node → slice_get queues place ≡ Some queue → node ≡ queue_node queues queue
node_at queues nodes place node queue each is at =
    is ∙ get_or_from_slice_get nodes place (queue_node queues queue) node
    (ap (λ all. slice_get all place) each ∙ slice_get-map (queue_node queues) queues place ∙ ap (option_map (queue_node queues)) at)

-- a turn of the walk: at the place of a queue, whose path says what the whole path says
pub record IsTurn (op : AclOp) (settings : Settings) (user name : List ℕ) (place : ℕ) (node : Node) (queue : QueueSpec) : Type 0 where
  pub first : IsFirstPlace settings.queues place queue
  pub node_is : node ≡ queue_node settings.queues queue
  pub same : admits_in op settings user (path_of queue.name) ≡ admits_in op settings user (path_of name)

pub turn : (op : AclOp) (settings : Settings) (user name : List ℕ) (next : Option ℕ) (place : ℕ) (nodes : List Node) (node : Node)
    → next ≡ Some place → IsPlaceNext settings.queues next
    → path_admits op settings user (option_and_then (slice_get settings.queues) next) ≡ admits_in op settings user (path_of name)
    → nodes ≡ map (queue_node settings.queues) settings.queues → node ≡ get_or nodes place node
    → (queue : QueueSpec) × IsTurn op settings user name place node queue
turn op settings user name next place nodes node is next_is same each node_there =
    let here : IsPlaceNext settings.queues (Some place) = subst (IsPlaceNext settings.queues) is next_is in (
      here.0,
      record {
        first = here.1;
        node_is = node_at settings.queues nodes place node here.0 each node_there here.1.at;
        same = sym (ap (path_admits op settings user) (ap (option_and_then (slice_get settings.queues)) is ∙ here.1.at)) ∙ same;
      },
    )

-- where the node admits, so does the whole path
pub turn-admits : (op : AclOp) (settings : Settings) (user name : List ℕ) (place : ℕ) (node : Node) (queue : QueueSpec) → KeepsRules settings → IsTurn op settings user name place node queue
    → node_allows op node user (groups_of_user settings.groups user) ≡ true → true ≡ admits_in op settings user (path_of name)
turn-admits op settings user name place node queue rules is admits =
    sym (ap (λ b. b || admits_from op settings user (parents_of queue.name)) (ap (λ one. node_allows op one user (groups_of_user settings.groups user)) (sym is.node_is) ∙ admits))
    ∙ sym (path_admits-step op settings user place queue rules is.first)
    ∙ is.same

-- where it does not, the path from its parent on says what the whole path says
pub turn-goes_on : (op : AclOp) (settings : Settings) (user name : List ℕ) (place : ℕ) (node : Node) (queue : QueueSpec) → KeepsRules settings → IsTurn op settings user name place node queue
    → node_allows op node user (groups_of_user settings.groups user) ≡ false
    → path_admits op settings user (option_and_then (slice_get settings.queues) node.parent) ≡ admits_in op settings user (path_of name)
turn-goes_on op settings user name place node queue rules is refuses =
    ap (λ one. path_admits op settings user (option_and_then (slice_get settings.queues) one.parent)) is.node_is
    ∙ sym (ap (λ b. b || admits_from op settings user (parents_of queue.name)) (ap (λ one. node_allows op one user (groups_of_user settings.groups user)) (sym is.node_is) ∙ refuses))
    ∙ sym (path_admits-step op settings user place queue rules is.first)
    ∙ is.same

-- the next place is that of a queue
pub turn-next : (op : AclOp) (settings : Settings) (user name : List ℕ) (place : ℕ) (node : Node) (queue : QueueSpec) → IsTurn op settings user name place node queue → IsPlaceNext settings.queues node.parent
turn-next op settings user name place node queue is =
    subst (λ one. IsPlaceNext settings.queues one.parent) (sym is.node_is) (IsPlaceNext-first settings.queues (parents_of queue.name))

-- of a shorter name
pub turn-shorter : (op : AclOp) (settings : Settings) (user name : List ℕ) (next : Option ℕ) (place : ℕ) (node : Node) (queue : QueueSpec) → next ≡ Some place → IsTurn op settings user name place node queue
    → name_left settings.queues node.parent < name_left settings.queues next
turn-shorter op settings user name next place node queue next_is is =
    let here : name_left settings.queues next ≡ 1 + length queue.name
    = ap (λ one. steps_left (option_map (λ it. it.name) one)) (ap (option_and_then (slice_get settings.queues)) next_is ∙ is.first.at) in
    omega (arith, ap (λ one. name_left settings.queues one.parent) is.node_is, name_left-parent settings.queues queue.name, here)
