use Rattle.std.proofs.Common.{◌≡◌, ◌≤◌, take}
use Rattle.rm_tables.specs.Opening.{going_in}
use Rattle.rm_tables.proofs.opening.going_in.Given as goal

abbrev pub invariant-records : goal.invariant-records
invariant-records l = record { few : l.going ≤ l.place; counted : l.going ≡ going_in (take l.place l.tree.apps) }
