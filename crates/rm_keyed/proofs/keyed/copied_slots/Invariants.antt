use Rattle.std.proofs.Common.{◌≡◌, ◌++◌}
use Rattle.rm_keyed.proofs.keyed.copied_slots.Given as goal

-- the copies, and behind them the slots that are left, are the slots
abbrev pub invariant-slots : goal.invariant-slots
invariant-slots g l = l.copied.entries ++ l.key-iterator ≡ l.slots.entries
