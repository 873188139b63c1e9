-- The path of a name, taken a step at a time.
use Rattle.std.proofs.Common.{◌≡◌, ℕ, ◌+◌, ◌<◌, List, [], length, Option, Some, None, MatchOption, sym, arith}
use Rattle.std.specs.Option.{option_copied}
use denote.Ref.{Bor}
use Rattle.rm_types.specs.Rights.{parents_of, path_of}
use Rattle.rm_queues.specs.Paths.{IsParent}

-- the path from a name on, if there is one
abbrev pub path_from : Option (List ℕ) → List (List ℕ)
path_from None = []
path_from (Some name) = path_of name

-- how many steps are left at most
abbrev pub steps_left : Option (List ℕ) → ℕ
steps_left None = 0
steps_left (Some name) = 1 + length name

-- what is known of a name's parent, or of its want
abbrev pub ParentIs : List ℕ → Option (Bor (List ℕ)) → Type 0
ParentIs name parent = MatchOption parent (parents_of name ≡ []) (λ one. IsParent name one.now)
