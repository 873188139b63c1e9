-- Whom an access control list admits. After YARN's documentation of queue ACLs: `user1,user2 group1,group2`; `*` means
-- anyone, and a single space no one. That every other text has a meaning too is this project's own: the first space ends
-- the users, also where the text begins with it.
use Rattle.std.specs.Prelude.{ℕ, ◌-◌, ◌==◌, Bool, ◌||◌, not, List, map, filter, take, drop, length, codes}
use Rattle.std.specs.List.{list_any, prefix_len, suffix_len, before_first, after_first, slice_split}
use Rattle.std.specs.Str.{bytes_eq}
use Rattle.rm_types.specs.Lists.{is_nil}

-- the byte is a space
abbrev pub is_space : ℕ → Bool
is_space byte = byte == 32

-- the byte is a comma
abbrev pub is_comma : ℕ → Bool
is_comma byte = byte == 44

-- a text without the spaces at its start
abbrev pub without_first_spaces : List ℕ → List ℕ
without_first_spaces text = drop (prefix_len is_space text) text

-- a text without the spaces at its end
abbrev pub without_last_spaces : List ℕ → List ℕ
without_last_spaces text = take (length text - suffix_len is_space text) text

-- a text without its outer spaces
abbrev pub trimmed : List ℕ → List ℕ
trimmed text = without_last_spaces (without_first_spaces text)

-- the items of a part: what its commas separate, without outer spaces, where something is left
abbrev pub items_of : List ℕ → List (List ℕ)
items_of part = filter (λ item. not (is_nil item)) (map trimmed (slice_split is_comma part))

-- the users that an ACL names: the items before the first space
abbrev pub users_of : List ℕ → List (List ℕ)
users_of text = items_of (before_first is_space text)

-- the groups that an ACL names: the items after the first space
abbrev pub groups_of : List ℕ → List (List ℕ)
groups_of text = items_of (after_first is_space text)

-- a text is among others
abbrev pub is_among : List ℕ → List (List ℕ) → Bool
is_among text others = list_any (λ other. bytes_eq other text) others

-- an ACL admits a user in these groups: without outer spaces it is `*`, or it names the user or one of the groups
abbrev pub admits : List ℕ → List ℕ → List (List ℕ) → Bool
admits text user groups =
    bytes_eq (trimmed text) (codes "*")
    || is_among user (users_of text)
    || list_any (λ group. is_among group (groups_of text)) groups
