-- What holds of each tree's records: no two are of one application, and an application's attempts are numbered as they
-- stand, from 1. This project's own.
use Rattle.std.specs.Prelude.{◌≡◌, ℕ, suc, List, [], ◌∷◌, None}
use Rattle.rm_types.specs.declared.ids.AppId.{AppId}
use Rattle.rm_types.specs.declared.records.AppRecord.{AppRecord}
use Rattle.rm_types.specs.declared.records.AttemptRecord.{AttemptRecord}
use Rattle.rm_types.specs.Records.{record_of}

-- the attempts of an application that so many others stand before: each has the number of its place
abbrev pub AreAttemptsFrom : AppId → ℕ → List AttemptRecord → Type 0
AreAttemptsFrom id before [] = Unit
AreAttemptsFrom id before (attempt ∷ attempts) = (attempt.id ≡ record { app = id; number = suc before }) × AreAttemptsFrom id (suc before) attempts

-- the attempts of each record are numbered from 1
abbrev pub AreNumbered : List AppRecord → Type 0
AreNumbered [] = Unit
AreNumbered (app ∷ apps) = AreAttemptsFrom app.id 0 app.attempts × AreNumbered apps

-- no two records are of one application
abbrev pub AreApart : List AppRecord → Type 0
AreApart [] = Unit
AreApart (app ∷ apps) = (record_of apps app.id ≡ None) × AreApart apps
