use Rattle.std.proofs.Common.{◌≡◌, ◌≤◌, take, count_by}
use Rattle.rm_soak.specs.Lines.{keeps_op}
use Rattle.rm_soak.proofs.lines.kept_in.Given as goal

abbrev pub invariant-kept : goal.invariant-kept
invariant-kept l = record { few : l.kept ≤ l.entry-index; counted : l.kept ≡ count_by keeps_op (take l.entry-index l.entries) }
