-- What one container looks like from the tables and the history, beside the row of its application: how much of it and of its attempt is
-- on its way, and what the judge remembers of both. It is a view of numbers and tests: a step's effect on it is linear.
use Rattle.std.specs.Prelude.{ℕ, Bool, false, Option, is_some, count_by}
use Rattle.rm_types.specs.declared.ids.ContainerId.{ContainerId}
use Rattle.rm_types.specs.declared.operations.Op.{Op}
use Rattle.rm_types.specs.declared.operations.Op.TheVariants as ops
use Rattle.rm_types.specs.declared.records.AppRecord.{AppRecord}
use Rattle.rm_types.specs.Ids.{is_attempt, is_container, is_app}
use Rattle.rm_types.specs.Records.{record_of}
use Rattle.rm_model.specs.Facts.{has_app, has_container}
use Rattle.rm_model.specs.Attempts.{attempt_was_first, finishing_text, has_expired}
use Rattle.rm_model.specs.Containers.{is_living}
use Rattle.rm_tables.specs.declared.events.MainEvent.{MainEvent}
use Rattle.rm_tables.specs.declared.events.MainEvent.TheVariants as mains
use Rattle.rm_tables.specs.declared.events.SchedEvent.{SchedEvent}
use Rattle.rm_tables.specs.declared.events.SchedEvent.TheVariants as scheds
use Rattle.rm_tables.specs.declared.tables.Tables.{Tables}
use Rattle.rm_refinement.specs.History.{History, abstract_scene}
use Rattle.rm_invariant.specs.apps.View.{one_if, is_launch}

-- a container of an attempt
pub record ContainerView : Type 0 where
  -- the record of its application
  pub found : Option AppRecord
  -- of the container: its MasterGranted, its MasterLost, and the Attempt with it that awaits
  pub grants : ℕ
  pub losses : ℕ
  pub savings : ℕ
  -- of its attempt: the AttemptSaved, AttemptExpired and AttemptFinish; and of its application: the AttemptRemoved
  pub launches : ℕ
  pub expiries : ℕ
  pub finishes : ℕ
  pub removals : ℕ
  -- the container is in the book, left it, and was ordered
  pub living : Bool
  pub left : Bool
  pub ordered : Bool
  -- its attempt was kept when the life began, its master's lease ran out, and its master said that it finishes
  pub first : Bool
  pub expired : Bool
  pub finishing : Bool
  -- its application was removed
  pub retired : Bool

-- the tests that are counted: an event or an operation is of this kind, and of the container, its attempt or its application
abbrev pub is_granting : ContainerId → MainEvent → Bool
is_granting c (mains.MasterGranted master) = is_container master c
is_granting c _ = false

-- the container was a master's, and is lost
abbrev pub is_losing : ContainerId → MainEvent → Bool
is_losing c (mains.MasterLost master) = is_container master c
is_losing c _ = false

-- the lease of the attempt's master ran out
abbrev pub is_expiry : ContainerId → MainEvent → Bool
is_expiry c (mains.AttemptExpired id) = is_attempt id c.attempt
is_expiry c _ = false

-- the attempt's master finished
abbrev pub is_finish : ContainerId → MainEvent → Bool
is_finish c (mains.AttemptFinish id) = is_attempt id c.attempt
is_finish c _ = false

-- what is stale of its application is to end
abbrev pub is_attempt_removal : ContainerId → SchedEvent → Bool
is_attempt_removal c (scheds.AttemptRemoved id) = is_app id.app c.attempt.app
is_attempt_removal c _ = false

-- the operation is the Attempt of which the container is the master's
abbrev pub is_saving : ContainerId → Op → Bool
is_saving c (ops.Attempt id master node) = is_container master c
is_saving c _ = false

-- what the tables and the history show of a container
abbrev pub container_view : History → Tables → ContainerId → ContainerView
container_view h t c =
    record {
      found = record_of t.tree.apps c.attempt.app;
      grants = count_by (is_granting c) t.main;
      losses = count_by (is_losing c) t.main;
      savings = count_by (is_saving c) t.awaiting;
      launches = count_by (is_launch c.attempt) t.main;
      expiries = count_by (is_expiry c) t.main;
      finishes = count_by (is_finish c) t.main;
      removals = count_by (is_attempt_removal c) t.sched;
      living = is_living h.book c;
      left = has_container h.endings.left c;
      ordered = has_container h.masters.ordered c;
      first = attempt_was_first (abstract_scene h t) c.attempt;
      expired = has_expired (abstract_scene h t) c.attempt;
      finishing = is_some (finishing_text (abstract_scene h t) c.attempt);
      retired = has_app h.apps.retired c.attempt.app;
    }

-- the marks with one more event of the main queue, of the scheduler's, and with one more awaiting operation
abbrev pub container_view_main : ContainerId → MainEvent → ContainerView → ContainerView
container_view_main c e v =
    record v {
      grants = one_if (is_granting c e) v.grants;
      losses = one_if (is_losing c e) v.losses;
      launches = one_if (is_launch c.attempt e) v.launches;
      expiries = one_if (is_expiry c e) v.expiries;
      finishes = one_if (is_finish c e) v.finishes;
    }

-- the view with one more event of the scheduler's queue
abbrev pub container_view_sched : ContainerId → SchedEvent → ContainerView → ContainerView
container_view_sched c e v = record v { removals = one_if (is_attempt_removal c e) v.removals }

-- the view with one more awaiting operation
abbrev pub container_view_op : ContainerId → Op → ContainerView → ContainerView
container_view_op c op v = record v { savings = one_if (is_saving c op) v.savings }
