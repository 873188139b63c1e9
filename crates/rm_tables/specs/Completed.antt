-- The recorded applications that have ended, in the order in which their ends were kept: the first of them is the first that goes, where
-- more are completed than are remembered. This project's own.
use Rattle.std.specs.Prelude.{List, [], ◌∷◌, nat_le, is_some, map, fold, if◌then◌else◌}
use Rattle.rm_types.specs.declared.ids.AppId.{AppId}
use Rattle.rm_types.specs.declared.records.AppRecord.{AppRecord}
use Rattle.rm_tables.specs.declared.completed.Completion.{Completion}

-- a completion among others: behind those that were not later
abbrev pub put_completion : Completion → List Completion → List Completion
put_completion one [] = one ∷ []
put_completion one (other ∷ more) = if nat_le other.order one.order then other ∷ put_completion one more else one ∷ other ∷ more

-- the completion of an application that has ended
abbrev pub completion_of : AppRecord → Completion
completion_of app = record { id = app.id; order = app.end_order }

-- completions with that of an application, if it has ended
abbrev pub with_completed : List Completion → AppRecord → List Completion
with_completed completions app = if is_some app.ending then put_completion (completion_of app) completions else completions

-- those of recorded applications
abbrev pub completions_in : List AppRecord → List Completion
completions_in apps = fold with_completed [] apps

-- the recorded applications that have ended, in the order of their ends
abbrev pub ended_in : List AppRecord → List AppId
ended_in apps = map (λ one. one.id) (completions_in apps)
