-- What holds of an application and its attempt of a number, by the state of the application's row and that of its current attempt:
-- one line for each state, of what is recorded, how much of it is on its way, and what the judge remembers. Of the attempt that has the
-- current number more is said than of one that hasn't. It is said of every attempt id there may be. This project's own.
use Rattle.std.specs.Prelude.{◌≡◌, ◌≤◌, ◌<◌, ℕ, ◌+◌, ◌⊎◌, [], Bool, true, false, ◌&&◌, ◌||◌, not, ◌==◌, Option, None, Some, is_some, is_none, option_map, option_and_then, find, length}
use Rattle.std.specs.List.{list_all}
use Rattle.rm_types.specs.declared.ids.AttemptId.{AttemptId}
use Rattle.rm_types.specs.declared.operations.How.{How}
use Rattle.rm_types.specs.declared.operations.How.TheVariants as ways
use Rattle.rm_types.specs.declared.records.AppRecord.{AppRecord}
use Rattle.rm_types.specs.declared.records.AttemptRecord.{AttemptRecord}
use Rattle.rm_types.specs.declared.settings.Settings.{Settings}
use Rattle.rm_types.specs.Ids.{is_attempt}
use Rattle.rm_types.specs.Lists.{is_nil}
use Rattle.rm_types.specs.Records.{all_ended, last_attempt, is_some_and}
use Rattle.rm_model.specs.Attempts.{has_failed}
use Rattle.rm_model.specs.Facts.{attempts_in, end_in, reaches_bound}
use Rattle.rm_states.specs.declared.app.states.AppState.{AppState}
use Rattle.rm_states.specs.declared.app.states.AppState.TheVariants as apps
use Rattle.rm_states.specs.declared.attempt.states.AttemptState.{AttemptState}
use Rattle.rm_states.specs.declared.attempt.states.AttemptState.TheVariants as attempts
use Rattle.rm_tables.specs.declared.rows.AppRow.{AppRow}
use Rattle.rm_tables.specs.declared.rows.Current.{Current}
use Rattle.rm_tables.specs.declared.tables.Tables.{Tables}
use Rattle.rm_tables.specs.Rows.{row_of}
use Rattle.rm_refinement.specs.History.{History}
use Rattle.rm_invariant.specs.apps.View.{Counts, View, view}

-- how many operations of an application await, and how many events are on its way to being accepted
abbrev pub ops_of : Counts → ℕ
ops_of c = c.apps + (c.attempts + (c.attempt_ends + (c.app_ends + c.removes)))

-- how many events are on its way to being accepted
abbrev pub way : Counts → ℕ
way c = c.saves + (c.adds + c.accepts)

-- an application goes on, and each of its attempts has ended
abbrev pub AllHaveEnded : Option AppRecord → Type 0
AllHaveEnded found = (is_some found ≡ true) × (end_in found ≡ None) × (all_ended (attempts_in found) ≡ true)

-- the attempt is this one, and has no end
abbrev pub is_open_one : AttemptId → AttemptRecord → Bool
is_open_one id last = is_attempt last.id id && is_none last.ending

-- the attempt has an end, or is this one
abbrev pub has_ended_or_is : AttemptId → AttemptRecord → Bool
has_ended_or_is id one = is_some one.ending || is_attempt one.id id

-- an application goes on, and its last attempt is this one and has no end
abbrev pub LastIsOpen : Option AppRecord → AttemptId → Type 0
LastIsOpen found id =
    (is_some found ≡ true) × (end_in found ≡ None) × (is_some_and (is_open_one id) (last_attempt (attempts_in found)) ≡ true)
    × (id.number ≡ length (attempts_in found)) × (list_all (has_ended_or_is id) (attempts_in found) ≡ true)
    × (is_some (option_and_then (λ one. one.ending) (find (λ one. is_attempt one.id id) (attempts_in found))) ≡ false)

-- an attempt that isn't kept may follow: it is the first of an accepted application, or the last one has failed and the bound isn't
-- reached
abbrev pub MayFollowInView : Settings → ℕ → View → Type 0
MayFollowInView settings number v =
    (number ≡ length (attempts_in v.found) + 1)
    × (((number ≡ 1) × (v.accepted ≡ true))
    ⊎ ((is_some_and has_failed (last_attempt (attempts_in v.found)) ≡ true) × (reaches_bound settings v.found ≡ false)))

-- of an attempt, which is the current one or isn't: its asks, its events and its own operation
abbrev pub AttemptCounts : ℕ → Bool → AttemptState → Bool → View → Type 0
AttemptCounts number false state wish v =
    (v.count.queueings + (v.count.asks + v.count.own_ops) ≡ 0) × (length (attempts_in v.found) < number → v.held ≡ false)
AttemptCounts number true attempts.Scheduled wish v = (v.count.queueings + v.count.asks ≡ 1) × (v.count.own_ops ≡ 0) × (v.held ≡ false)
AttemptCounts number true attempts.Granted wish v = (v.count.queueings + (v.count.asks + v.count.own_ops) ≡ 0) × (1 ≤ v.count.grants)
AttemptCounts number true attempts.Saving wish v = (v.count.queueings + v.count.asks ≡ 0) × (v.count.own_ops ≡ 1)
AttemptCounts number true attempts.Live wish v =
    (v.count.queueings + (v.count.asks + v.count.own_ops) ≡ 0) × (wish ≡ true → 1 ≤ v.count.kills + v.count.launches)
AttemptCounts number true attempts.Registered wish v =
    (v.count.queueings + (v.count.asks + v.count.own_ops) ≡ 0) × (wish ≡ true → 1 ≤ v.count.kills + v.count.launches)
AttemptCounts number true attempts.Finishing wish v =
    (v.count.queueings + (v.count.asks + v.count.own_ops) ≡ 0) × (wish ≡ true → 1 ≤ v.count.kills + v.count.launches)
AttemptCounts number true attempts.Ending wish v = (v.count.queueings + v.count.asks ≡ 0) × (v.count.own_ops ≡ 1)
AttemptCounts number true attempts.Ended wish v = v.count.queueings + (v.count.asks + v.count.own_ops) ≡ 0
AttemptCounts number true attempts.Dropped wish v = v.count.asks ≡ 0

-- an application is accepted, runs or is being killed
abbrev pub is_active : AppState → Bool
is_active apps.New = false
is_active apps.NewSaving = false
is_active apps.Submitted = false
is_active apps.Accepted = true
is_active apps.Running = true
is_active apps.Killing = true
is_active apps.FinalSaving = false
is_active apps.Finished = false
is_active apps.Failed = false
is_active apps.Killed = false

-- the current attempt of such an application, by its state
abbrev pub CurrentInvariant : Settings → AttemptState → AttemptId → Bool → View → Type 0
CurrentInvariant settings attempts.Scheduled id wish v =
    AllHaveEnded v.found × MayFollowInView settings id.number v × (ops_of v.count ≡ 0) × (wish ≡ true → 1 ≤ v.count.kills)
CurrentInvariant settings attempts.Granted id wish v =
    AllHaveEnded v.found × MayFollowInView settings id.number v × (ops_of v.count ≡ 0) × (wish ≡ true → 1 ≤ v.count.kills)
CurrentInvariant settings attempts.Saving id wish v =
    AllHaveEnded v.found × MayFollowInView settings id.number v × (v.count.attempts ≡ 1) × (ops_of v.count ≡ 1)
CurrentInvariant settings attempts.Live id wish v = LastIsOpen v.found id × (ops_of v.count ≡ 0)
CurrentInvariant settings attempts.Registered id wish v = LastIsOpen v.found id × (ops_of v.count ≡ 0)
CurrentInvariant settings attempts.Finishing id wish v = LastIsOpen v.found id × (ops_of v.count ≡ 0)
CurrentInvariant settings attempts.Ending id wish v = LastIsOpen v.found id × (v.count.attempt_ends ≡ 1) × (ops_of v.count ≡ 1)
CurrentInvariant settings attempts.Ended id wish v =
    AllHaveEnded v.found × (id.number ≡ length (attempts_in v.found)) × (1 ≤ id.number) × (ops_of v.count ≡ 0) × (1 ≤ v.count.dones)
CurrentInvariant settings attempts.Dropped id wish v = ⊥

-- such an application has a current attempt
abbrev pub ActiveInvariant : Settings → AttemptId → Option Current → Bool → View → Type 0
ActiveInvariant settings q None wish v = ⊥
ActiveInvariant settings q (Some current) wish v =
    CurrentInvariant settings current.state (record { app = q.app; number = current.number }) wish v
    × AttemptCounts q.number (current.number == q.number) current.state wish v

-- an application was accepted in this life, or has a kept attempt
abbrev pub has_tried : View → Bool
has_tried v = v.accepted || not (is_nil (attempts_in v.found))

-- after an end is issued there is no attempt, or it has ended or was dropped
abbrev pub EndIssuedInvariant : Option Current → View → Type 0
EndIssuedInvariant None v = (v.count.asks ≡ 0) × (has_tried v ≡ false)
EndIssuedInvariant (Some current) v =
    ((current.state ≡ attempts.Ended) ⊎ (current.state ≡ attempts.Dropped)) × (v.count.asks ≡ 0) × (has_tried v ≡ true)

-- before an application is kept: it has no record, waits, and nothing else of it is there
pub record IsUnsavedApp (row : AppRow) (v : View) : Type 0 where
  pub no_record : v.found ≡ None
  pub some_waits : is_some row.pending ≡ true
  pub none_on_its_way : way v.count ≡ 0
  pub not_accepted : v.accepted ≡ false
  pub no_attempt : row.current ≡ None
  pub none_queued : v.count.queueings + (v.count.asks + v.count.own_ops) ≡ 0
  pub not_completed : v.count.completed ≡ 0
  pub not_held : v.held ≡ false

-- once an application's end is kept: it is completed, or its Remove awaits
abbrev pub EndKeptInvariant : How → AppRow → View → Type 0
EndKeptInvariant how row v =
    (option_map (λ e. e.0) (end_in v.found) ≡ Some how) × (row.pending ≡ None) × (v.count.starts ≡ 0) × (ops_of v.count ≡ v.count.removes)
    × (v.count.removes + v.count.completed ≡ 1) × EndIssuedInvariant row.current v

-- an application by the state of its row
abbrev pub StateInvariant : Settings → AttemptId → AppState → AppRow → View → Type 0
StateInvariant settings q apps.New row v = IsUnsavedApp row v × (v.count.starts ≡ 1) × (ops_of v.count ≡ 0)
StateInvariant settings q apps.NewSaving row v = IsUnsavedApp row v × (v.count.starts ≡ 0) × (v.count.apps ≡ 1) × (ops_of v.count ≡ 1)
StateInvariant settings q apps.Submitted row v =
    AllHaveEnded v.found × (attempts_in v.found ≡ []) × (row.pending ≡ None) × (row.current ≡ None) × (v.accepted ≡ false)
    × (v.count.starts ≡ 0) × (ops_of v.count ≡ 0) × (v.count.completed ≡ 0) × (way v.count ≡ 1)
    × (v.count.queueings + (v.count.asks + v.count.own_ops) ≡ 0) × (row.wish ≡ true → 1 ≤ v.count.saves + v.count.kills) × (v.held ≡ false)
StateInvariant settings q apps.Accepted row v =
    (v.count.starts ≡ 0) × (v.count.completed ≡ 0) × (row.pending ≡ None) × ActiveInvariant settings q row.current row.wish v
StateInvariant settings q apps.Running row v =
    (v.count.starts ≡ 0) × (v.count.completed ≡ 0) × (row.pending ≡ None) × ActiveInvariant settings q row.current row.wish v
StateInvariant settings q apps.Killing row v =
    (v.count.starts ≡ 0) × (v.count.completed ≡ 0) × (row.pending ≡ None) × (row.wish ≡ true) × (v.count.kills ≡ 0)
    × ActiveInvariant settings q row.current row.wish v
StateInvariant settings q apps.FinalSaving row v =
    AllHaveEnded v.found × (row.pending ≡ None) × (v.count.starts ≡ 0) × (v.count.app_ends ≡ 1) × (ops_of v.count ≡ 1) × (v.count.completed ≡ 0)
    × EndIssuedInvariant row.current v
StateInvariant settings q apps.Finished row v = EndKeptInvariant ways.Finished row v
StateInvariant settings q apps.Failed row v = EndKeptInvariant ways.Failed row v
StateInvariant settings q apps.Killed row v = EndKeptInvariant ways.Killed row v

-- of each application that is known: the row tells the judge's wish and what waits
pub record IsKnown (row : AppRow) (v : View) : Type 0 where
  pub wish : v.wished ≡ row.wish
  pub pending : v.waiting ≡ row.pending
  pub stays : v.retired ≡ false
  pub one_kill : v.count.kills ≤ 1
  pub killed : 1 ≤ v.count.kills → row.wish ≡ true

-- of one that isn't known: it was retired in this life, or was never known in it
abbrev pub NeverKnownInvariant : Bool → View → Type 0
NeverKnownInvariant true v = Unit {0}
NeverKnownInvariant false v =
    (way v.count ≡ 0) × (v.count.kills ≡ 0) × (v.count.queueings ≡ 0) × (v.count.own_ops ≡ 0) × (v.accepted ≡ false) × (v.wished ≡ false)
    × (v.held ≡ false)

-- of one that isn't known
pub record IsUnknown (v : View) : Type 0 where
  pub no_record : v.found ≡ None
  pub none_waits : v.waiting ≡ None
  pub none_start : v.count.starts ≡ 0
  pub none_await : ops_of v.count ≡ 0
  pub none_ask : v.count.asks ≡ 0
  pub not_completed : v.count.completed ≡ 0
  pub never : NeverKnownInvariant v.retired v

-- what holds of an attempt, by the row of its application
abbrev pub RowInvariant : Settings → AttemptId → Option AppRow → View → Type 0
RowInvariant settings q None v = IsUnknown v
RowInvariant settings q (Some row) v = IsKnown row v × StateInvariant settings q row.state row v

-- what holds of every attempt
abbrev pub AttemptsInvariant : Settings → History → Tables → Type 0
AttemptsInvariant settings h t = (q : AttemptId) → RowInvariant settings q (row_of t.rows q.app) (view h t q)
