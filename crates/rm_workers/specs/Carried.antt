-- What contracts see of the value that the workers hand on. This project's own.
use Rattle.std.specs.Prelude.{List, Option}
use Rattle.rm_baton.specs.declared.carries.Known.{Known}
use Rattle.rm_types.specs.declared.entries.Entry.{Entry}
use Rattle.rm_desk.specs.View.{DeskView}
use Rattle.rm_lives.specs.declared.halts.Halt.{Halt}

-- the desk, and the first halt of a worker
pub record HeldView : Type 0 where
  pub desk : DeskView
  pub halt : Option Halt

-- the log of the desk
abbrev pub log_of : HeldView → List Entry
log_of held = held.desk.core.log

-- there is one run for all
abbrev pub run_of : HeldView → Unit {0}
run_of held = tt

-- what a worker's pass knows
abbrev pub PassView : Type 0
PassView = Known (Unit {0}) HeldView
