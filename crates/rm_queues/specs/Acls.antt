-- What an access control list says, once its text is read.
use Rattle.std.specs.Prelude.{◌≡◌, ℕ, Bool, ◌||◌, List, codes}
use Rattle.std.specs.List.{list_any}
use Rattle.std.specs.Str.{bytes_eq}
use Rattle.rm_types.specs.AclTexts.{trimmed, users_of, groups_of, is_among, admits}

-- whom an ACL names: everyone, and the users and groups of its text
pub record AclMeaning : Type 0 where
  pub everyone : Bool
  pub users : List (List ℕ)
  pub groups : List (List ℕ)

-- what a text means as an ACL
abbrev pub meaning_of : List ℕ → AclMeaning
meaning_of text = record { everyone = bytes_eq (trimmed text) (codes "*"); users = users_of text; groups = groups_of text }

-- what was read admits a user in these groups
abbrev pub allows : AclMeaning → List ℕ → List (List ℕ) → Bool
allows acl user groups = acl.everyone || is_among user acl.users || list_any (λ group. is_among group acl.groups) groups

-- what was read admits exactly the users whom the text admits
abbrev pub AdmitsAs : List ℕ → AclMeaning → Type 0
AdmitsAs text acl = (user : List ℕ) (groups : List (List ℕ)) → allows acl user groups ≡ admits text user groups
