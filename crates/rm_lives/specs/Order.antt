-- In which order the lanes of a run move.
use Rattle.std.specs.Prelude.{◌≡◌, ℕ, List, [], ◌∷◌, ◌++◌, true, false}
use Rattle.rm_types.specs.declared.entries.Entry.{Entry}
use Rattle.rm_types.specs.declared.messages.Lane.{Lane}
use Rattle.rm_types.specs.declared.messages.Lane.TheVariants.{End}
use Rattle.rm_types.specs.declared.operations.Op.{Op}
use Rattle.rm_types.specs.declared.scripts.Script.{Script}
use Rattle.rm_types.specs.Lanes.{lane_of_entry}
use Rattle.rm_core.specs.Seen.{Seen}
use Rattle.rm_model.specs.Lawful.{place_after}
use Rattle.rm_core.specs.Words.{as_new, is_blown, manager_after}
use Rattle.rm_desk.specs.Lanes.{HasNoWork, is_ready_at}
use Rattle.rm_desk.specs.Runs.{IsScriptRun as GoesAlong}
use Rattle.rm_desk.specs.View.{DeskView}
use Rattle.rm_lives.specs.declared.halts.Halt.{Halt}
use Rattle.rm_lives.specs.declared.halts.Halt.TheVariants.{Schedule}

-- the run after a log: where a new manager comes to by its own way, and what is left of the script
abbrev pub run_after : Seen → Script → List Op → List Entry → DeskView
run_after new script opening log = record { core = manager_after new opening log; place = place_after script log }

-- an order of moves, told of a manager, its script, its opening list and its log: what holds of the entries, whether a life of which no operation was
-- refused goes down only at rest, at which place a run is stopped, and after which logs nothing is left of the order
pub record Order : Type 1 where
  pub keeps : Seen → Script → List Op → List Entry → Type 0
  pub rests : Type 0
  pub stops : Seen → Script → List Op → List Entry → ℕ → Type 0
  pub ends : List Entry → Type 0

-- the order lets this lane move next
pub record May (order : Order) (lane : Lane) (d : DeskView) : Type 0 where
  pub keeps : (opening : List Op) (script : Script) (e : Entry) → GoesAlong opening script d → lane_of_entry e ≡ lane → order.keeps (as_new d.core) script opening d.core.log
      → order.keeps (as_new d.core) script opening (d.core.log ++ e ∷ [])
  pub rests : order.rests → lane ≡ End → is_blown d.core ≡ false → HasNoWork d

-- the order stops a run here, at this place
abbrev pub StopsHere : Order → DeskView → ℕ → Type 0
StopsHere order d place = (opening : List Op) (script : Script) → GoesAlong opening script d → order.stops (as_new d.core) script opening d.core.log place

-- and so halts a life
abbrev pub HaltsHere : Order → DeskView → Halt → Type 0
HaltsHere order d (Schedule place) = StopsHere order d place
HaltsHere order d halt = ⊥

-- each entry of the log is of a lane that was ready after the entries before it
abbrev pub AllReady : Seen → Script → List Op → List Entry → Type 0
AllReady new script opening log =
    (past : List Entry) (e : Entry) (more : List Entry) → log ≡ past ++ e ∷ more
    → is_ready_at (run_after new script opening past) (lane_of_entry e) ≡ true
