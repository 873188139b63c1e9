-- What a part of a run does to the desk.
use Rattle.std.specs.Prelude.{◌≡◌, ◌≢◌, ◌≤◌, length, List, [], ◌++◌}
use Rattle.rm_types.specs.declared.operations.Op.{Op}
use Rattle.rm_types.specs.declared.scripts.Script.{Script}
use Rattle.rm_disk.specs.declared.fallen.Fallen.{Fallen}
use Rattle.rm_model.specs.State.{opening_state}
use Rattle.rm_model.specs.Downs.{AllGoDownAtRest}
use Rattle.rm_model.specs.Lawful.{IsAtRest, state_after}
use Rattle.rm_core.specs.Seen.{StandsFor}
use Rattle.rm_core.specs.Words.{as_new}
use Rattle.rm_desk.specs.View.{DeskView}
use Rattle.rm_desk.specs.Runs.{IsScriptRun as GoesAlong}
use Rattle.rm_lives.specs.Falls.{falls_of}
use Rattle.rm_lives.specs.Order.{Order}

-- over a store that held the opening list, the log is lawful along the script, lives went down at rest where the order says so, the falls
-- are these, and the lanes moved in this order
pub record IsRun (order : Order) (opening : List Op) (script : Script) (fallen : List Fallen) (d : DeskView) : Type 0 where
  pub goes : GoesAlong opening script d
  pub downs : order.rests → AllGoDownAtRest d.core.settings (opening_state opening) d.core.log
  pub falls : falls_of script opening d.core.log ≡ fallen
  pub moves : order.keeps (as_new d.core) script opening d.core.log

-- a part of a run, with these falls: whatever the run before it was, with it there is a longer one, over each opening list
-- for which this holds
pub record ExtendsRunOver (order : Order) (over : List Op → Type 0) (more : List Fallen) (old new : DeskView) : Type 0 where
  pub settings : new.core.settings ≡ old.core.settings
  pub began : as_new new.core ≡ as_new old.core
  pub lives : length new.place.lives ≤ length old.place.lives
  pub some : old.core.log ≢ [] → new.core.log ≢ []
  pub lawful : (opening : List Op) → over opening → StandsFor opening old.core → StandsFor opening new.core
  pub run : (opening : List Op) (script : Script) (fallen : List Fallen) → over opening → IsRun order opening script fallen old → IsRun order opening script (fallen ++ more) new

-- the same over each opening list
abbrev pub ExtendsRun : Order → List Fallen → DeskView → DeskView → Type 0
ExtendsRun order more old new = ExtendsRunOver order (λ opening. Unit {0}) more old new

-- the run is at its end: nothing is left of the script, and where a life stands nothing awaits and nothing is owed
pub record IsOver (d : DeskView) : Type 0 where
  pub lives : d.place.lives ≡ []
  pub segments : d.place.segments ≡ []
  pub rest : (opening : List Op) → StandsFor opening d.core → IsAtRest d.core.settings (state_after opening d.core.log) (state_after opening d.core.log).life
