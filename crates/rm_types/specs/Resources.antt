-- Resources: memory in megabytes and virtual cores. All rules go by part.
use Rattle.std.specs.Prelude.{◌+◌, ◌-◌, ◌^◌, ◌<◌, ◌≤◌, Bool, ◌&&◌, nat_le}
use Rattle.rm_types.specs.declared.resources.Resource.{Resource}

-- a resource fits another where both parts are at most the other's
abbrev pub Fits : Resource → Resource → Type 0
Fits a b = (a.memory_mb ≤ b.memory_mb) × (a.vcores ≤ b.vcores)

-- the same as a test
abbrev pub fits : Resource → Resource → Bool
fits a b = nat_le a.memory_mb b.memory_mb && nat_le a.vcores b.vcores

-- both parts are 32-bit numbers
abbrev pub IsInRange : Resource → Type 0
IsInRange a = (a.memory_mb < 2 ^ 32) × (a.vcores < 2 ^ 32)

-- the sum of two resources
abbrev pub sum_of : Resource → Resource → Resource
sum_of a b = record { memory_mb = a.memory_mb + b.memory_mb; vcores = a.vcores + b.vcores }

-- what is left of a resource when another that fits it is taken away
abbrev pub difference_of : Resource → Resource → Resource
difference_of a b = record { memory_mb = a.memory_mb - b.memory_mb; vcores = a.vcores - b.vcores }
