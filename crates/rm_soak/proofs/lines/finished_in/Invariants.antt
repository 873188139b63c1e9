use Rattle.std.proofs.Common.{◌≡◌, ◌≤◌, take, count_by}
use Rattle.rm_soak.specs.Lines.{keeps_finished}
use Rattle.rm_soak.proofs.lines.finished_in.Given as goal

abbrev pub invariant-finished : goal.invariant-finished
invariant-finished l = record { few : l.finished ≤ l.entry-index; counted : l.finished ≡ count_by keeps_finished (take l.entry-index l.entries) }
