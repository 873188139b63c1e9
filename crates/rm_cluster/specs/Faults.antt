-- What is told of a refused cluster file.
use Rattle.std.specs.Prelude.{Option, Some, None}
use Rattle.rm_cluster.specs.declared.faults.ClusterFault.{ClusterFault}
use Rattle.rm_cluster.specs.declared.faults.ClusterFault.TheVariants.{TooLong, Json}

-- the fault is that the bytes hold no JSON value
abbrev pub IsJson : ClusterFault → Type 0
IsJson (Json error) = Unit {0}
IsJson fault = ⊥

-- the fault is one of the value that the bytes hold
abbrev pub IsValueFault : ClusterFault → Type 0
IsValueFault TooLong = ⊥
IsValueFault (Json error) = ⊥
IsValueFault fault = Unit {0}

-- and so it is where there is one
abbrev pub IsOfValue : Option ClusterFault → Type 0
IsOfValue None = Unit {0}
IsOfValue (Some fault) = IsValueFault fault
