use Rattle.std.proofs.Common.{◌≡◌, ◌*◌, ◌^◌, ◌≤◌, take}
use Rattle.std.specs.Prelude.{sum_by}
use Rattle.rm_types.specs.Entries.{granted_count}
use Rattle.rm_soak.proofs.lines.grants_in.Given as goal

abbrev pub invariant-granted : goal.invariant-granted
invariant-granted l = record { few : l.granted ≤ l.entry-index * 2 ^ 64; counted : l.granted ≡ sum_by granted_count (take l.entry-index l.entries) }
