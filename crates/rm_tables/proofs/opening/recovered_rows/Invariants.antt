use Rattle.std.proofs.Common.{◌≡◌, take}
use Rattle.rm_tables.specs.Opening.{recovered_rows}
use Rattle.rm_tables.proofs.opening.recovered_rows.Given as goal

abbrev pub invariant-records : goal.invariant-records
invariant-records l = l.rows ≡ recovered_rows (take l.place l.tree.apps)
