-- What one attempt of one application looks like from the tables and the history, beside its row: its record, how much of it is on its
-- way, and what the judge remembers of it. It is a view of numbers and tests: a step's effect on it is linear.
use Rattle.std.specs.Prelude.{ℕ, suc, Bool, true, false, ◌&&◌, ◌||◌, ◌==◌, Option, None, Some, option_map, count_by}
use Rattle.std.specs.List.{list_any}
use Rattle.rm_types.specs.declared.containers.AskOf.{AskOf}
use Rattle.rm_types.specs.declared.ids.AppId.{AppId}
use Rattle.rm_types.specs.declared.ids.AttemptId.{AttemptId}
use Rattle.rm_types.specs.declared.operations.Op.{Op}
use Rattle.rm_types.specs.declared.operations.Op.TheVariants as ops
use Rattle.rm_types.specs.declared.operations.Submission.{Submission}
use Rattle.rm_types.specs.declared.records.AppRecord.{AppRecord}
use Rattle.rm_types.specs.Ids.{is_app, is_attempt}
use Rattle.rm_types.specs.Records.{record_of}
use Rattle.rm_model.specs.Facts.{has_app, waiting_submission, is_app_op, is_attempt_op, is_attempt_end_op, is_app_end_op, is_remove_op}
use Rattle.rm_refinement.specs.History.{History}
use Rattle.rm_tables.specs.declared.events.MainEvent.{MainEvent}
use Rattle.rm_tables.specs.declared.events.MainEvent.TheVariants as mains
use Rattle.rm_tables.specs.declared.events.SchedEvent.{SchedEvent}
use Rattle.rm_tables.specs.declared.events.SchedEvent.TheVariants as scheds
use Rattle.rm_tables.specs.declared.tables.Tables.{Tables}

-- how many events, operations and asks of an application, or of its attempt of a number, there are
pub record Counts : Type 0 where
  -- its AppStart, AppSaved, AppAdded, AppAccepted, AppKill and AttemptDone
  pub starts : ℕ
  pub saves : ℕ
  pub adds : ℕ
  pub accepts : ℕ
  pub kills : ℕ
  pub dones : ℕ
  -- of the attempt: its MasterGranted, AttemptSaved and AttemptAdded, and its asks for its master
  pub grants : ℕ
  pub launches : ℕ
  pub queueings : ℕ
  pub asks : ℕ
  -- and its Attempt or AttemptEnd that awaits
  pub own_ops : ℕ
  -- the operations of the application that await, kind by kind
  pub apps : ℕ
  pub attempts : ℕ
  pub attempt_ends : ℕ
  pub app_ends : ℕ
  pub removes : ℕ
  -- how often it stands among the completed
  pub completed : ℕ

-- an application and its attempt of a number
pub record View : Type 0 where
  pub found : Option AppRecord
  pub count : Counts
  -- what the judge remembers: a submission that waits, a kill wish, that it was accepted and that it is retired
  pub waiting : Option Submission
  pub wished : Bool
  pub accepted : Bool
  pub retired : Bool
  -- the attempt has a container in the book
  pub held : Bool

-- the tests that are counted: an event is of this kind, and of the application or the attempt
abbrev pub is_start : AppId → MainEvent → Bool
is_start q (mains.AppStart id) = is_app id q
is_start q _ = false

-- the application was saved
abbrev pub is_save : AppId → MainEvent → Bool
is_save q (mains.AppSaved id) = is_app id q
is_save q _ = false

-- the application was accepted by the scheduler
abbrev pub is_accept : AppId → MainEvent → Bool
is_accept q (mains.AppAccepted id) = is_app id q
is_accept q _ = false

-- a client wishes the application killed
abbrev pub is_kill : AppId → MainEvent → Bool
is_kill q (mains.AppKill id) = is_app id q
is_kill q _ = false

-- an attempt of the application has ended
abbrev pub is_done : AppId → MainEvent → Bool
is_done q (mains.AttemptDone id) = is_app id.app q
is_done q _ = false

-- the attempt's master was granted its container
abbrev pub is_grant : AttemptId → MainEvent → Bool
is_grant q (mains.MasterGranted master) = is_attempt master.attempt q
is_grant q _ = false

-- the attempt was saved, and its master is to be launched
abbrev pub is_launch : AttemptId → MainEvent → Bool
is_launch q (mains.AttemptSaved id) = is_attempt id q
is_launch q _ = false

-- the application is new to the scheduler
abbrev pub is_add : AppId → SchedEvent → Bool
is_add q (scheds.AppAdded id) = is_app id q
is_add q _ = false

-- the attempt is to be queued by the scheduler
abbrev pub is_queueing : AttemptId → SchedEvent → Bool
is_queueing q (scheds.AttemptAdded id) = is_attempt id q
is_queueing q _ = false

-- the ask is one for the master of the attempt
abbrev pub is_ask : AttemptId → AskOf → Bool
is_ask q one = is_attempt one.attempt q && (one.ask.priority == 0)

-- the operation is an Attempt of the application, an AttemptEnd of it, one of the two of the attempt
abbrev pub is_attempt_op_of : AppId → Op → Bool
is_attempt_op_of q (ops.Attempt id master node) = is_app id.app q
is_attempt_op_of q _ = false

-- the operation is an AttemptEnd of the application
abbrev pub is_attempt_end_op_of : AppId → Op → Bool
is_attempt_end_op_of q (ops.AttemptEnd id how text) = is_app id.app q
is_attempt_end_op_of q _ = false

-- the operation is the Attempt or the AttemptEnd of the attempt
abbrev pub is_own_op : AttemptId → Op → Bool
is_own_op q op = is_attempt_op q op || is_attempt_end_op q op

-- what the tables and the history count
abbrev pub counts : History → Tables → AttemptId → Counts
counts h t q =
    record {
      starts = count_by (is_start q.app) t.main;
      saves = count_by (is_save q.app) t.main;
      adds = count_by (is_add q.app) t.sched;
      accepts = count_by (is_accept q.app) t.main;
      kills = count_by (is_kill q.app) t.main;
      dones = count_by (is_done q.app) t.main;
      grants = count_by (is_grant q) t.main;
      launches = count_by (is_launch q) t.main;
      queueings = count_by (is_queueing q) t.sched;
      asks = count_by (is_ask q) h.asks;
      own_ops = count_by (is_own_op q) t.awaiting;
      apps = count_by (is_app_op q.app) t.awaiting;
      attempts = count_by (is_attempt_op_of q.app) t.awaiting;
      attempt_ends = count_by (is_attempt_end_op_of q.app) t.awaiting;
      app_ends = count_by (is_app_end_op q.app) t.awaiting;
      removes = count_by (is_remove_op q.app) t.awaiting;
      completed = count_by (λ id. is_app id q.app) t.ended;
    }

-- what the tables and the history show of an attempt
abbrev pub view : History → Tables → AttemptId → View
view h t q =
    record {
      found = record_of t.tree.apps q.app;
      count = counts h t q;
      waiting = waiting_submission h.apps.submitted q.app;
      wished = has_app h.apps.wishes q.app;
      accepted = has_app h.apps.accepted q.app;
      retired = has_app h.apps.retired q.app;
      held = list_any (λ row. is_attempt row.id.attempt q) h.book;
    }

-- one more, where a test passes
abbrev pub one_if : Bool → ℕ → ℕ
one_if true n = suc n
one_if false n = n

-- the counts with one more event of the main queue, of the scheduler's, and with one more awaiting operation
abbrev pub main_more : AttemptId → MainEvent → Counts → Counts
main_more q e c =
    record c {
      starts = one_if (is_start q.app e) c.starts;
      saves = one_if (is_save q.app e) c.saves;
      accepts = one_if (is_accept q.app e) c.accepts;
      kills = one_if (is_kill q.app e) c.kills;
      dones = one_if (is_done q.app e) c.dones;
      grants = one_if (is_grant q e) c.grants;
      launches = one_if (is_launch q e) c.launches;
    }

-- the counts with one more event of the scheduler's queue
abbrev pub sched_more : AttemptId → SchedEvent → Counts → Counts
sched_more q e c = record c { adds = one_if (is_add q.app e) c.adds; queueings = one_if (is_queueing q e) c.queueings }

-- the counts with one more awaiting operation
abbrev pub op_more : AttemptId → Op → Counts → Counts
op_more q op c =
    record c {
      apps = one_if (is_app_op q.app op) c.apps;
      attempts = one_if (is_attempt_op_of q.app op) c.attempts;
      attempt_ends = one_if (is_attempt_end_op_of q.app op) c.attempt_ends;
      own_ops = one_if (is_own_op q op) c.own_ops;
      app_ends = one_if (is_app_end_op q.app op) c.app_ends;
      removes = one_if (is_remove_op q.app op) c.removes;
    }

-- the view with one more of each
abbrev pub main_view : AttemptId → MainEvent → View → View
main_view q e v = record v { count = main_more q e v.count }

-- the view with one more event of the scheduler's queue
abbrev pub sched_view : AttemptId → SchedEvent → View → View
sched_view q e v = record v { count = sched_more q e v.count }

-- the view with one more awaiting operation
abbrev pub op_view : AttemptId → Op → View → View
op_view q op v = record v { count = op_more q op v.count }

-- what is found, where this or another application was changed, was put, or went
abbrev pub changed_if : {X : Type 0} → Bool → (X → X) → Option X → Option X
changed_if true change found = option_map change found
changed_if false change found = found

-- what is found, where this application, or another one, was put
abbrev pub put_if : {X : Type 0} → Bool → X → Option X → Option X
put_if true one None = Some one
put_if true one (Some found) = Some found
put_if false one found = found

-- what is found, where this application, or another one, went
abbrev pub gone_if : {X : Type 0} → Bool → Option X → Option X
gone_if true found = None
gone_if false found = found

-- a test that passes from now on, where it is of this one
abbrev pub set_if : Bool → Bool → Bool
set_if true b = true
set_if false b = b
