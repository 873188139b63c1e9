-- The queues of a cluster file: what each is read as, and which lists of them are a tree. This project's own.
use Rattle.std.specs.Prelude.{ℕ, ◌+◌, ◌==◌, List, [], ◌∷◌, ◌++◌, Bool, true, false, ◌&&◌, not, nat_le, drop, length, count_by, codes, Option, Some, None, option_map, option_and_then, if◌then◌else◌}
use Rattle.std.specs.List.{list_any}
use Rattle.std.specs.Str.{bytes_eq}
use Rattle.serde_json.specs.Data.{Data, Items, no_items, item}
use Rattle.serde_json.specs.Find.{get, as_array}
use Rattle.rm_types.specs.Lists.{is_nil}
use Rattle.rm_types.specs.Rights.{is_below, is_queue, root_name}
use Rattle.rm_types.specs.declared.settings.QueueSpec.{QueueSpec}
use Rattle.rm_types.specs.declared.texts.TextKind.TheVariants.{AclText, Queue}
use Rattle.rm_cluster.specs.Limits.{most_dots, most_queues}
use Rattle.rm_cluster.specs.Readings.{at_key, has_only, string_of}

-- the keys that may stand in a queue
abbrev pub queue_keys : List (List ℕ)
queue_keys = codes "name" ∷ codes "submit" ∷ codes "admin" ∷ []

-- the key is one of them
unfoldable pub is_queue_key : List ℕ → Bool
is_queue_key key = list_any (bytes_eq key) queue_keys

-- an object with keys of a queue alone
unfoldable pub has_queue_keys : Data → Bool
has_queue_keys = has_only is_queue_key

-- the name of a queue, which has to stand
unfoldable pub name_of : Data → Option (List ℕ)
name_of value = option_and_then (string_of Queue) (get (codes "name") value)

-- an access control list that may be there
unfoldable pub some_list_of : Data → Option (Option (List ℕ))
some_list_of value = option_map (λ text. Some text) (string_of AclText value)

-- a list of a queue at a key, where it stands
unfoldable pub list_at : List ℕ → Data → Option (Option (List ℕ))
list_at key = at_key key some_list_of None

-- a queue of this name, with the lists that it has
abbrev pub queue_with : List ℕ → Option (Option (List ℕ)) → Option (Option (List ℕ)) → Option QueueSpec
queue_with name submit admin = option_and_then (λ one. option_map (λ other. record { name = name; submit = one; admin = other }) admin) submit

-- an object with a name and, where they stand, two access control lists
unfoldable pub queue_of : Data → Option QueueSpec
queue_of value =
    if has_queue_keys value then option_and_then (λ name. queue_with name (list_at (codes "submit") value) (list_at (codes "admin") value)) (name_of value) else None

-- queues, one after another, where each value is one
abbrev pub queue_list_of : Items → Option (List QueueSpec)
queue_list_of no_items = Some []
queue_list_of (item value values) = option_and_then (λ queue. option_map (λ queues. queue ∷ queues) (queue_list_of values)) (queue_of value)

-- a part of a name: it isn't empty, and has no dot (46)
abbrev pub is_part : List ℕ → Bool
is_part bytes = not (is_nil bytes) && not (list_any (λ byte. byte == 46) bytes)

-- a name is that of its parent, a dot and one part
abbrev pub is_child : List ℕ → List ℕ → Bool
is_child name parent = is_below name parent && is_part (drop (length parent + 1) name)

-- a queue of this name may stand behind others: one of them is its parent, none has its name, and it has eight parts at most
abbrev pub may_follow : List QueueSpec → List ℕ → Bool
may_follow before name =
    list_any (λ queue. is_child name queue.name) before && (not (is_queue before name) && nat_le (count_by (λ byte. byte == 46) name) most_dots)

-- each of these queues may stand behind those before it
abbrev pub all_follow : List QueueSpec → List QueueSpec → Bool
all_follow before [] = true
all_follow before (queue ∷ more) = may_follow before queue.name && all_follow (before ++ queue ∷ []) more

-- the first queue is the root, and each other one may stand behind those before it
abbrev pub is_tree : List QueueSpec → Bool
is_tree [] = false
is_tree (first ∷ more) = bytes_eq first.name root_name && all_follow (first ∷ []) more

-- a list of queues that are a tree, and no more than may be
unfoldable pub queue_tree_of : Data → Option (List QueueSpec)
queue_tree_of value =
    option_and_then (λ queues. if nat_le (length queues) most_queues && is_tree queues then Some queues else None)
    (option_and_then queue_list_of (as_array value))
