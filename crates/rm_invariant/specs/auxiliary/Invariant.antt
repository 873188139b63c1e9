-- What else holds of an open life, part by part. This project's own.
use Rattle.std.specs.Prelude.{◌≡◌, ℕ, List, Bool, true, false, ◌&&◌, ◌==◌, Option, None, Some, is_none}
use Rattle.std.specs.List.{list_any}
use Rattle.rm_types.specs.declared.ids.AppId.{AppId}
use Rattle.rm_types.specs.declared.ids.AttemptId.{AttemptId}
use Rattle.rm_types.specs.Records.{Records, record_of}
use Rattle.rm_book.specs.AskTables.{attempt_asks}
use Rattle.rm_model.specs.Facts.{has_app}
use Rattle.rm_model.specs.MasterReplies.{is_finished_op}
use Rattle.rm_states.specs.declared.attempt.states.AttemptState.{AttemptState}
use Rattle.rm_states.specs.declared.attempt.states.AttemptState.TheVariants as attempts
use Rattle.rm_tables.specs.declared.rows.AppRow.{AppRow}
use Rattle.rm_tables.specs.declared.rows.Current.{Current}
use Rattle.rm_tables.specs.declared.tables.Tables.{Tables}
use Rattle.rm_tables.specs.Rows.{is_retired, row_of}
use Rattle.rm_refinement.specs.Services.{finishes_by}
use Rattle.rm_invariant.specs.apps.Completed.{Completes}
use Rattle.rm_invariant.specs.apps.Submissions.{Lists}
use Rattle.rm_refinement.specs.History.{History, abstract_scene}
use Rattle.rm_invariant.specs.masters.Invariant.{MastersAreOwn}
use Rattle.rm_tracker.specs.Offers.{OnlyNodesOffer}
use Rattle.rm_invariant.specs.events.Asking.{asks_others}
use Rattle.rm_invariant.specs.events.Here.{AreServed, FirstsKnown, NoneAbsent}
use Rattle.rm_invariant.specs.events.MainFacts.{UnissuedSilent}
use Rattle.rm_invariant.specs.events.Masters.{are_single, goes_with}

-- the tables know which applications were removed in this life
abbrev pub RetiredKnown : List AppId → List (AppId × Option AppRow) → Type 0
RetiredKnown retired rows = (id : AppId) → is_retired rows id ≡ has_app retired id

-- an application without a row, which wasn't removed, was not recorded when the life began
abbrev pub NoneFirst : Records → List AppId → List (AppId × Option AppRow) → Type 0
NoneFirst first retired rows = (id : AppId) → row_of rows id ≡ None → has_app retired id ≡ false → record_of first.apps id ≡ None

-- the current attempt has this number, and it lives or its end is issued
abbrev pub goes_numbered : ℕ → Option Current → Bool
goes_numbered number None = false
goes_numbered number (Some current) = (current.number == number) && goes_with (Some current)

-- the current attempt of a row has this number, and it lives or its end is issued
abbrev pub goes_by : ℕ → Option AppRow → Bool
goes_by number None = false
goes_by number (Some row) = goes_numbered number row.current

-- an attempt that asks for something besides its master's container is the current one, and lives or ends
abbrev pub OthersGo : Tables → Type 0
OthersGo t = (attempt : AttemptId) → asks_others (attempt_asks t.asks attempt) ≡ true → goes_by attempt.number (row_of t.rows attempt.app) ≡ true

-- each ask for a master's container is for one
abbrev pub MastersSingle : Tables → Type 0
MastersSingle t = (attempt : AttemptId) → are_single (attempt_asks t.asks attempt) ≡ true

-- the end of an attempt awaits as FINISHED exactly where its row says so
abbrev pub FinishesKnown : Tables → Type 0
FinishesKnown t = (attempt : AttemptId) → list_any (is_finished_op attempt) t.awaiting ≡ finishes_by attempt (row_of t.rows attempt.app)

-- the end of an attempt is issued, or kept
abbrev pub end_is_issued : AttemptState → Bool
end_is_issued attempts.Scheduled = false
end_is_issued attempts.Granted = false
end_is_issued attempts.Saving = false
end_is_issued attempts.Live = false
end_is_issued attempts.Registered = false
end_is_issued attempts.Finishing = false
end_is_issued attempts.Ending = true
end_is_issued attempts.Ended = true
end_is_issued attempts.Dropped = false

-- an attempt of which no end is issued didn't finish
abbrev pub HasNotFinished : Option Current → Type 0
HasNotFinished None = Unit {0}
HasNotFinished (Some current) = end_is_issued current.state ≡ false → current.finished ≡ false

-- in no row did an attempt finish of which no end is issued
abbrev pub AreUnfinished : List (AppId × Option AppRow) → Type 0
AreUnfinished rows = (id : AppId) (row : AppRow) → row_of rows id ≡ Some row → HasNotFinished row.current

-- the life began over an application without an end exactly where the tables wait for nodes
abbrev pub WaitsKnown : Records → Tables → Type 0
WaitsKnown first t = t.waits ≡ list_any (λ app. is_none app.ending) first.apps

-- all of it
pub record AuxInvariant (h : History) (t : Tables) : Type 0 where
  pub completes : Completes t
  pub apt : MastersAreOwn t.tree.apps
  pub silent : UnissuedSilent t
  pub firsts : FirstsKnown (abstract_scene h t) t.rows
  pub none_first : NoneFirst h.first h.apps.retired t.rows
  pub present : NoneAbsent t.nodes
  pub others : OthersGo t
  pub single : MastersSingle t
  pub waits : WaitsKnown h.first t
  pub served : AreServed h.endings.releases t.sched
  pub offers : OnlyNodesOffer t
  pub lists : Lists h t
  pub finishes : FinishesKnown t
  pub unfinished : AreUnfinished t.rows
  pub retired : RetiredKnown h.apps.retired t.rows
