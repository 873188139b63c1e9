use Rattle.std.proofs.Common.{◌≡◌, slice_get, drop}
use Rattle.std.specs.Map.{values_of}
use Rattle.rm_keyed.specs.Slots.{live}
use Rattle.rm_keyed.proofs.keyed.nth_value.Given as goal

-- the value that is sought stands behind so many of those that are left
abbrev pub invariant-slots : goal.invariant-slots
invariant-slots g l = slice_get (values_of (live l.slots.entries)) l.place ≡ slice_get (values_of (live (drop l.index l.slots.entries))) l.before
