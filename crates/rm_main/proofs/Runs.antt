-- What a run comes to, by its outcome.
use Rattle.std.proofs.Common.{Result}
use Rattle.std.specs.declared.alloc.Global.{Global}
use Rattle.rm_types.specs.declared.outcomes.Outcome.{Outcome}
use Rattle.rm_types.specs.declared.scripts.Script.{Script}
use Rattle.rm_types.specs.declared.settings.Settings.{Settings}
use Rattle.rm_disk.specs.Disk.{DiskView}
use Rattle.rm_core.specs.Words.{new_manager}
use Rattle.rm_lives.specs.declared.halts.Stop.{Stop}
use Rattle.rm_lives.specs.Order.{Order}
use Rattle.rm_lives.specs.Stops.{IsDue}
use Rattle.rm_lives.specs.Whole.{HasRun}
use Rattle.rm_lives.proofs.Moving.{ok_holds}
use Rattle.rm_main.specs.Made.{LeavesDevice, Made}
use Rattle.rm_main.specs.Runs.{RanBy}
use Rattle.rm_main.specs.Ways.{IsOfWriting, outcome_of}
use Rattle.rm_main.proofs.Laws.{meets_laws}
use Rattle.rm_main.proofs.Outcomes.{caused, done_ended}

module _ {D : Type 0} (view : D → DiskView) (order : Order) (alloc : Global) (settings : Settings) (script : Script) (made : Made D) (ended : Result (Unit {0}) Stop)
    (run : HasRun order view (new_manager alloc settings) settings script made.before made.after made.opening made.log ended) where
  pub ran_by : (written : Outcome) → IsOfWriting written → RanBy view order alloc settings script made (outcome_of ended written)
  ran_by written of_writing =
      record {
        lawful = run.lawful;
        laws = meets_laws settings script made.opening made.log run.lawful run.read_back;
        moves = run.moves;
        used_up = λ is. ok_holds ended (done_ended ended written is) run.used_up;
        downs = run.downs;
        fallen = run.falls;
        done = λ is. run.done (done_ended ended written is);
        caused = caused view (IsDue script made.opening made.log) (order.stops (new_manager alloc settings) script made.opening made.log) made ended written of_writing run.stopped;
        idle = λ none. let i = run.idle none in (i.0, i.1);
      }

  pub leaves_device : LeavesDevice view made
  leaves_device =
      record { stays = run.stays; unarmed = run.unarmed; unblown = run.unblown; opening = run.opened; held = run.found; quiet = run.quiet; images = run.images; images_now = run.images_now }
