-- How the lines of attempts are kept: by attempt, in the order of entering, and beside them the attempts that have some. This
-- project's own.
use Rattle.std.specs.Prelude.{◌≡◌, Bool, true, false, List, [], ◌∷◌, map, Option, None, Some, unwrap_or}
use Rattle.std.specs.List.{IsDistinct, list_any}
use Rattle.std.specs.Map.{keys_of, lookup}
use Rattle.rm_types.specs.declared.containers.AskLine.{AskLine}
use Rattle.rm_types.specs.declared.ids.AttemptId.{AttemptId}
use Rattle.rm_types.specs.Ids.{is_attempt}
use Rattle.rm_book.specs.AskLines.{AttemptAsks}

-- an attempt, and its lines
abbrev pub AskEntry : Type 0
AskEntry = AttemptId × List AskLine

-- the same as contracts see it
abbrev pub entry_of : AskEntry → AttemptAsks
entry_of entry = record { attempt = entry.0; lines = entry.1 }

-- the lines of attempts as contracts see them
abbrev pub entries_in : List AskEntry → List AttemptAsks
entries_in entries = map entry_of entries

-- the lines of an attempt; none where it has none
abbrev pub lines_at : List AskEntry → AttemptId → List AskLine
lines_at entries attempt = unwrap_or (lookup (is_attempt attempt) entries) []

-- an attempt whose lines these are has one at least
abbrev pub has_some : Option (List AskLine) → Bool
has_some None = false
has_some (Some []) = false
has_some (Some (line ∷ lines)) = true

-- no two entries are of one attempt, and those that wait are the attempts that have a line
pub record AreKept (entries : List AskEntry) (waiting : List AttemptId) : Type 0 where
  pub unique : IsDistinct is_attempt (keys_of entries)
  pub waits : (one : AttemptId) → list_any (is_attempt one) waiting ≡ has_some (lookup (is_attempt one) entries)
