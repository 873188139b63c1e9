-- Who may submit, kill and administer, after YARN's documentation of queue ACLs: a right at a queue is one at all queues
-- below it, and who may administer a queue may also submit there. What a refusal names is this project's own. A queue's
-- parents are read off its name.
use Rattle.std.specs.Prelude.{ℕ, ◌==◌, Bool, ◌&&◌, ◌||◌, not, List, [], ◌∷◌, ◌++◌, map, filter, find, reverse, take, length, slice_index, codes, Option, Some, None, unwrap_or, option_map, option_and_then, if◌then◌else◌, nat_eq}
use Rattle.std.specs.List.{list_any, range_with_len, starts_with}
use Rattle.std.specs.Str.{bytes_eq}
use Rattle.rm_types.specs.declared.operations.Submission.{Submission}
use Rattle.rm_types.specs.declared.replies.AclOp.{AclOp}
use Rattle.rm_types.specs.declared.replies.AclOp.TheVariants.{Submit, Kill}
use Rattle.rm_types.specs.declared.replies.Denial.{Denial}
use Rattle.rm_types.specs.declared.settings.QueueSpec.{QueueSpec}
use Rattle.rm_types.specs.declared.settings.Settings.{Settings}
use Rattle.rm_types.specs.declared.settings.UserGroups.{UserGroups}
use Rattle.rm_types.specs.AclTexts.{admits}

-- where the dots (46) stand in a name, the last first
abbrev pub dots_of : List ℕ → List ℕ
dots_of name = filter (λ place. slice_index name place == 46) (reverse (range_with_len 0 (length name)))

-- the parents of a queue, the nearest first: the fronts of its name that end before a dot
abbrev pub parents_of : List ℕ → List (List ℕ)
parents_of name = map (λ place. take place name) (dots_of name)

-- a queue and its parents, the nearest first
abbrev pub path_of : List ℕ → List (List ℕ)
path_of name = name ∷ parents_of name

-- the queue of a name, if it is in the tree
abbrev pub queue_of : List QueueSpec → List ℕ → Option QueueSpec
queue_of queues name = find (λ queue. bytes_eq queue.name name) queues

-- a queue of the tree has this name
abbrev pub is_queue : List QueueSpec → List ℕ → Bool
is_queue queues name = list_any (λ queue. bytes_eq queue.name name) queues

-- a name is another, a dot and what follows it
abbrev pub is_below : List ℕ → List ℕ → Bool
is_below name other = starts_with nat_eq name other && (slice_index name (length other) == 46)

-- a queue of the tree without queues below it
abbrev pub is_leaf : List QueueSpec → List ℕ → Bool
is_leaf queues name = is_queue queues name && not (list_any (λ queue. is_below queue.name name) queues)

-- the root of the tree
abbrev pub root_name : List ℕ
root_name = codes "root"

-- where a queue's applications are at home, though the queue may have left the tree: the queue itself or its nearest
-- parent in the tree, and else the root; this project's own
abbrev pub home : List QueueSpec → List ℕ → List ℕ
home queues name = unwrap_or (find (is_queue queues) (path_of name)) root_name

-- the queue that is consulted first: the named one for a submission, and its home for a kill
abbrev pub first_consulted : AclOp → List QueueSpec → List ℕ → List ℕ
first_consulted Submit queues name = name
first_consulted Kill queues name = home queues name

-- what is consulted after the queues: the lists of those who administer all and, for a kill, may modify the application
abbrev pub last_consulted : AclOp → List (List ℕ)
last_consulted Submit = codes "admin" ∷ []
last_consulted Kill = codes "admin" ∷ codes "modify" ∷ []

-- all that is consulted, in order
abbrev pub consulted : AclOp → List QueueSpec → List ℕ → List (List ℕ)
consulted op queues name = path_of (first_consulted op queues name) ++ last_consulted op

-- what a refusal says: what was asked for, the queue that was consulted first, and all that was consulted
abbrev pub denial : AclOp → List QueueSpec → List ℕ → Denial
denial op queues name = record { op = op; queue = first_consulted op queues name; lists = consulted op queues name }

-- an ACL of a queue as it counts: where it is absent, the root's admits anyone and another's no one
abbrev pub acl_of : List ℕ → Option (List ℕ) → List ℕ
acl_of name None = if bytes_eq name root_name then codes "*" else codes " "
acl_of name (Some text) = text

-- who may submit at a queue
abbrev pub submit_list : List QueueSpec → List ℕ → List ℕ
submit_list queues name = acl_of name (option_and_then (λ queue. queue.submit) (queue_of queues name))

-- who may administer at a queue
abbrev pub admin_list : List QueueSpec → List ℕ → List ℕ
admin_list queues name = acl_of name (option_and_then (λ queue. queue.admin) (queue_of queues name))

-- the groups that a user is in
abbrev pub groups_of_user : List UserGroups → List ℕ → List (List ℕ)
groups_of_user groups user = unwrap_or (option_map (λ one. one.groups) (find (λ one. bytes_eq one.user user) groups)) []

-- an ACL admits a user, with the groups that the settings give
abbrev pub admits_user : Settings → List ℕ → List ℕ → Bool
admits_user settings user text = admits text user (groups_of_user settings.groups user)

-- the lists at one queue admit a user: its admin list, and for a submission also its submit list
abbrev pub admits_at : AclOp → Settings → List ℕ → List ℕ → Bool
admits_at Submit settings user name = admits_user settings user (submit_list settings.queues name) || admits_user settings user (admin_list settings.queues name)
admits_at Kill settings user name = admits_user settings user (admin_list settings.queues name)

-- the lists at a queue or a parent, or of those who administer all, admit a user
abbrev pub admits_along : AclOp → Settings → List ℕ → List ℕ → Bool
admits_along op settings user name = list_any (λ queue. admits_at op settings user queue) (path_of name) || admits_user settings user settings.admin_acl

-- a user may submit to a queue: rights aren't checked, or a submit or admin list along its path admits
abbrev pub may_submit : Settings → List ℕ → List ℕ → Bool
may_submit settings user queue = not settings.acl_enable || admits_along Submit settings user queue

-- a user may administer a queue: rights aren't checked, or an admin list along its path admits
abbrev pub may_administer : Settings → List ℕ → List ℕ → Bool
may_administer settings user queue = not settings.acl_enable || admits_along Kill settings user queue

-- a user may kill an application: it is the user's own, or the user may administer its home or may modify it
abbrev pub may_kill : Settings → List ℕ → Submission → Bool
may_kill settings user submission =
    bytes_eq user submission.user
    || may_administer settings user (home settings.queues submission.queue)
    || admits_user settings user submission.modify
