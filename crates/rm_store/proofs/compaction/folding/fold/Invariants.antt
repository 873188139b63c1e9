use Rattle.rm_store.proofs.Common.{◌≡◌, ◌-◌, length, drop, folded}
use Rattle.std.proofs.Common.{reverse}
use Rattle.rm_store.specs.compaction.Later.{IsLater}
use Rattle.rm_store.proofs.compaction.folding.fold.Given as goal

-- of the operations behind those that were not looked at yet it is noted what they say, and what is left of them, last first
abbrev pub invariant-ops : goal.invariant-ops
invariant-ops l = IsLater l.later (drop (length l.ops - l.done) l.ops) × (reverse l.left.items ≡ folded (drop (length l.ops - l.done) l.ops))
