-- What holds of the tables until a life opens: they are those of the recorded applications, exactly.
use Rattle.std.specs.Prelude.{◌≡◌, ◌≤◌, ℕ, List, [], Bool, true, false, None, Some, is_some, count_by, length}
use Rattle.rm_types.specs.declared.ids.AppId.{AppId}
use Rattle.rm_types.specs.declared.operations.How.{How}
use Rattle.rm_types.specs.declared.records.AppRecord.{AppRecord}
use Rattle.rm_types.specs.declared.records.AttemptRecord.{AttemptRecord}
use Rattle.rm_types.specs.Ids.{is_app}
use Rattle.rm_types.specs.Records.{records, record_of, last_attempt, all_ended, is_some_and}
use Rattle.rm_tables.specs.declared.tables.Tables.{Tables}
use Rattle.rm_tables.specs.Opening.{recovered_rows}
use Rattle.rm_invariant.specs.apps.Invariant.{LastIsOpen}
use Rattle.rm_refinement.specs.History.{History, initial_history}
use Rattle.rm_invariant.specs.apps.View.{one_if}

-- how a life finds the record of an application: it has no attempt yet; all its attempts have ended; its last one goes on; or it has
-- ended itself
pub data Recoverable (id : AppId) (one : AppRecord) : Type 0 where
  fresh : one.ending ≡ None → one.attempts ≡ [] → Recoverable id one
  stopped : (last : AttemptRecord) → one.ending ≡ None → last_attempt one.attempts ≡ Some last → is_some last.ending ≡ true → all_ended one.attempts ≡ true
      → last.id.number ≡ length one.attempts → Recoverable id one
  lives : (last : AttemptRecord) → one.ending ≡ None → last_attempt one.attempts ≡ Some last → is_some last.ending ≡ false
      → LastIsOpen (Some one) (record { app = id; number = last.id.number }) → Recoverable id one
  over : (end : How × List ℕ) → one.ending ≡ Some end → one.attempts ≡ [] → Recoverable id one
  over_after : (end : How × List ℕ) (last : AttemptRecord) → one.ending ≡ Some end → last_attempt one.attempts ≡ Some last → is_some last.ending ≡ true
      → Recoverable id one

-- the end of a recorded application is kept
abbrev pub has_ended : AppRecord → Bool
has_ended one = is_some one.ending

-- the life's Epoch awaits, and nothing else has happened
pub record IsRecovered (h : History) (t : Tables) : Type 0 where
  pub new : h ≡ initial_history h.kept
  pub recorded : records h.kept ≡ t.tree
  pub rows : t.rows ≡ recovered_rows t.tree.apps
  pub once : (id : AppId) → count_by (λ app. is_app app.id id) t.tree.apps ≤ 1
  pub sound : (id : AppId) (one : AppRecord) → record_of t.tree.apps id ≡ Some one → Recoverable id one
  pub ended : (id : AppId) → count_by (λ one. is_app one id) t.ended ≡ one_if (is_some_and has_ended (record_of t.tree.apps id)) 0
  pub main : t.main ≡ []
  pub sched : t.sched ≡ []
