-- What the first event of the scheduler's queue needs. This project's own.
use Rattle.std.specs.Prelude.{Bool, true, false}
use Rattle.rm_tables.specs.declared.events.SchedEvent.{SchedEvent}
use Rattle.rm_tables.specs.declared.events.SchedEvent.TheVariants.{AppAdded, AttemptRecovered, AttemptAdded, AttemptRemoved, Release, NodeAdded, NodeDone, NodeUpdate, NodeLost}

-- an event makes a pass
abbrev pub makes_pass : SchedEvent → Bool
makes_pass (AppAdded id) = false
makes_pass (AttemptRecovered id) = false
makes_pass (AttemptAdded id) = false
makes_pass (AttemptRemoved id) = false
makes_pass (Release attempt list) = false
makes_pass (NodeAdded node turn) = false
makes_pass (NodeDone node list) = false
makes_pass (NodeUpdate node) = true
makes_pass (NodeLost node) = false
