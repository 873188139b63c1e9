-- What operations change of an application's record.
use Rattle.std.specs.Prelude.{◌≡◌, true, ℕ, ◌+◌, ◌==◌, List, [], ◌∷◌, ◌++◌, length, map, Bool, ◌&&◌, not, is_none, Some}
use Rattle.std.specs.List.{list_any}
use Rattle.rm_types.specs.declared.ids.AttemptId.{AttemptId}
use Rattle.rm_types.specs.declared.operations.How.{How}
use Rattle.rm_types.specs.declared.records.AppRecord.{AppRecord}
use Rattle.rm_types.specs.declared.records.AttemptRecord.{AttemptRecord}
use Rattle.rm_types.specs.Ids.{is_attempt}
use Rattle.rm_types.specs.declared.operations.Op.{Op}
use Rattle.rm_types.specs.Records.{Records, fits_records, with_end, last_attempt, is_some_and}

-- one more attempt
abbrev pub with_attempt : AttemptRecord → AppRecord → AppRecord
with_attempt attempt app = record app { attempts = app.attempts ++ attempt ∷ [] }

-- the end of an attempt
abbrev pub with_ended : AttemptId → How → List ℕ → AppRecord → AppRecord
with_ended id how text app = record app { attempts = map (with_end id how text) app.attempts }

-- an end
abbrev pub with_ending : How → List ℕ → ℕ → AppRecord → AppRecord
with_ending how text order app = record app { ending = Some (how, text); end_order = order }

-- the number is that of the next attempt
abbrev pub is_next : ℕ → AppRecord → Bool
is_next number app = number == length app.attempts + 1

-- the attempt is the last, and goes on
abbrev pub is_unended_last : AttemptId → AppRecord → Bool
is_unended_last id app = is_some_and (λ last. is_attempt last.id id && is_none last.ending) (last_attempt app.attempts)

-- the attempt is recorded, with its end: a record of it stands there, and none without an end
abbrev pub is_end_recorded : AttemptId → AppRecord → Bool
is_end_recorded id app = list_any (λ one. is_attempt one.id id) app.attempts && not (list_any (λ one. is_attempt one.id id && is_none one.ending) app.attempts)

-- the operation fits the applications' records, whatever the epoch and the stamp are
pub record FitsApps (apps : List AppRecord) (op : Op) : Type 0 where
  pub among : Records
  pub same : among.apps ≡ apps
  pub fits : fits_records among op ≡ true
