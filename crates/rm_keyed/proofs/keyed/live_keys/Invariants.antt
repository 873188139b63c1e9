use Rattle.std.proofs.Common.{◌≡◌, ◌++◌}
use Rattle.std.specs.Map.{keys_of}
use Rattle.rm_keyed.specs.Slots.{live}
use Rattle.rm_keyed.proofs.keyed.live_keys.Given as goal

-- the keys so far, and behind them those of the slots that are left, are the keys
abbrev pub invariant-slots : goal.invariant-slots
invariant-slots g l = l.keys ++ keys_of (live l.key-iterator) ≡ keys_of (live l.slots.entries)
