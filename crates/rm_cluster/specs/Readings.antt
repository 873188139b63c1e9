-- What the values of the cluster file are read as, over the value that `serde_json` reads of the bytes. This project's own.
use Rattle.std.specs.Prelude.{ℕ, List, [], ◌∷◌, Bool, false, ◌&&◌, nat_le, Option, Some, None, is_some, option_map, option_and_then, if◌then◌else◌}
use Rattle.std.specs.List.{list_all}
use Rattle.std.specs.Option.{option_map_or}
use Rattle.serde_json.specs.Data.{Data, Items, no_items, item, Members, no_members, member}
use Rattle.serde_json.specs.Find.{get, as_number, as_str, as_array, as_object, as_u64}
use Rattle.rm_types.specs.Texts.{fault_of}
use Rattle.rm_types.specs.declared.settings.UserGroups.{UserGroups}
use Rattle.rm_types.specs.declared.texts.TextKind.{TextKind}
use Rattle.rm_types.specs.declared.texts.TextKind.TheVariants.{Name}

-- what stands at a key of the file, by a reading; where there is no such key, what stands for its absence
abbrev pub at_key : {A : Type 0} → List ℕ → (Data → Option A) → A → Data → Option A
at_key key reading absent file = option_map_or reading (get key file) (Some absent)

-- a whole number, as `as_u64` gives it, from the least to the greatest
unfoldable pub number_within : ℕ → ℕ → Data → Option ℕ
number_within least greatest value =
    option_and_then (λ number. if nat_le least number && nat_le number greatest then Some number else None)
    (option_and_then as_u64 (as_number value))

-- the bytes, where they are a text of the kind
unfoldable pub text_of : TextKind → List ℕ → Option (List ℕ)
text_of kind bytes = if is_some (fault_of kind bytes) then None else Some bytes

-- a string that is a text of the kind
unfoldable pub string_of : TextKind → Data → Option (List ℕ)
string_of kind value = option_and_then (text_of kind) (as_str value)

-- names, one after another, where each value is one
abbrev pub names_of : Items → Option (List (List ℕ))
names_of no_items = Some []
names_of (item value values) = option_and_then (λ name. option_map (λ names. name ∷ names) (names_of values)) (string_of Name value)

-- a list of names
unfoldable pub name_list_of : Data → Option (List (List ℕ))
name_list_of value = option_and_then names_of (as_array value)

-- a user, whose name is the key, and the groups that the value lists
unfoldable pub user_of : List ℕ → Data → Option UserGroups
user_of key value = option_and_then (λ user. option_map (λ groups. record { user = user; groups = groups }) (name_list_of value)) (text_of Name key)

-- a user for each key, in the object's order, where each member is one
abbrev pub users_read : Members → Option (List UserGroups)
users_read no_members = Some []
users_read (member key value members) = option_and_then (λ user. option_map (λ users. user ∷ users) (users_read members)) (user_of key value)

-- the groups of users: an object in which each key is a name and each value a list of names
unfoldable pub user_groups_of : Data → Option (List UserGroups)
user_groups_of value = option_and_then users_read (as_object value)

-- the keys of an object
abbrev pub keys_of : Members → List (List ℕ)
keys_of no_members = []
keys_of (member key value members) = key ∷ keys_of members

-- an object in which each key passes a test
abbrev pub has_only : (List ℕ → Bool) → Data → Bool
has_only passes value = option_map_or (λ members. list_all passes (keys_of members)) (as_object value) false
