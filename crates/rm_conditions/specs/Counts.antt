-- How many attempts are recorded. This project's own.
use Rattle.std.specs.Prelude.{◌≡◌, ℕ, ◌<◌, List, Some, length, slice_get}
use Rattle.rm_types.specs.declared.records.AppRecord.{AppRecord}

-- each of these records has fewer attempts than this
abbrev pub HaveFewer : ℕ → List AppRecord → Type 0
HaveFewer bound apps = (place : ℕ) (app : AppRecord) → slice_get apps place ≡ Some app → length app.attempts < bound
