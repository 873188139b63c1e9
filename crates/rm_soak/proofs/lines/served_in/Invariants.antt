use Rattle.std.proofs.Common.{◌≡◌, ◌≤◌, take, count_by}
use Rattle.rm_soak.specs.Lines.{is_served}
use Rattle.rm_soak.proofs.lines.served_in.Given as goal

abbrev pub invariant-served : goal.invariant-served
invariant-served l = record { few : l.served ≤ l.entry-index; counted : l.served ≡ count_by is_served (take l.entry-index l.entries) }
