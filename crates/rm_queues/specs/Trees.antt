-- The nodes of a queue tree: for each queue, what a question needs of it.
use Rattle.std.specs.Prelude.{◌≡◌, ℕ, Bool, false, ◌||◌, not, List, ◌++◌, map, find, position, Option, Some, None, option_and_then}
use Rattle.std.specs.List.{list_any}
use Rattle.std.specs.Str.{bytes_eq}
use Rattle.rm_types.specs.declared.replies.AclOp.{AclOp}
use Rattle.rm_types.specs.declared.replies.AclOp.TheVariants.{Submit, Kill}
use Rattle.rm_types.specs.declared.replies.Denial.{Denial}
use Rattle.rm_types.specs.declared.settings.QueueSpec.{QueueSpec}
use Rattle.rm_types.specs.declared.settings.Settings.{Settings}
use Rattle.rm_types.specs.Rights.{path_of, parents_of, is_queue, is_below, last_consulted, acl_of, admits_at, admits_along}
use Rattle.rm_queues.specs.Acls.{AclMeaning, meaning_of, allows}
use Rattle.rm_queues.specs.Rules.{KeepsRules}
use Rattle.rm_queues.specs.Places.{AreFirstPlaces}
use Rattle.rm_queues.specs.declared.places.Places.{Places}
use Rattle.rm_queues.specs.declared.nodes.Node.{Node}

-- the place of the first queue of a name
abbrev pub place_of : List QueueSpec → List ℕ → Option ℕ
place_of queues name = position (λ queue. bytes_eq queue.name name) queues

-- the place of the first of these names that is in the tree
abbrev pub first_place : List QueueSpec → List (List ℕ) → Option ℕ
first_place queues names = option_and_then (place_of queues) (find (is_queue queues) names)

-- one of the queues is below a name
abbrev pub any_below : List QueueSpec → List ℕ → Bool
any_below queues name = list_any (λ queue. is_below queue.name name) queues

-- the node of a queue: its nearest parent in the tree, whether it is a leaf, and its lists as they count
abbrev pub queue_node : List QueueSpec → QueueSpec → Node
queue_node queues queue = record {
  parent = first_place queues (parents_of queue.name);
  is_leaf = not (any_below queues queue.name);
  submit = meaning_of (acl_of queue.name queue.submit);
  admin = meaning_of (acl_of queue.name queue.admin);
}

-- the lists at a node admit a user: its admin list, and for a submission also its submit list
abbrev pub node_allows : AclOp → Node → List ℕ → List (List ℕ) → Bool
node_allows Submit node user groups = allows node.submit user groups || allows node.admin user groups
node_allows Kill node user groups = allows node.admin user groups

-- the lists along the path of the queue at a place admit a user; none do where there is no queue
abbrev pub path_admits : AclOp → Settings → List ℕ → Option QueueSpec → Bool
path_admits op settings user None = false
path_admits op settings user (Some queue) = list_any (λ name. admits_at op settings user name) (path_of queue.name)

-- rights aren't checked, or a list along the queue's path or the admin list of all admits
abbrev pub is_user_allowed : AclOp → Settings → List ℕ → List ℕ → Bool
is_user_allowed op settings user queue = not settings.acl_enable || admits_along op settings user queue

-- what a refusal says, by the queue that was consulted first
abbrev pub denial_from : AclOp → List ℕ → Denial
denial_from op first = record { op = op; queue = first; lists = path_of first ++ last_consulted op }

-- the places, nodes and list are those of the settings
pub record IsTreeOf (settings : Settings) (places users : Places) (nodes : List Node) (admin : AclMeaning) : Type 0 where
  pub rules : KeepsRules settings
  pub by_name : AreFirstPlaces (λ queue. queue.name) settings.queues places
  pub by_user : AreFirstPlaces (λ one. one.user) settings.groups users
  pub each : nodes ≡ map (queue_node settings.queues) settings.queues
  pub all : admin ≡ meaning_of settings.admin_acl
