use Rattle.std.proofs.Common.{◌≡◌, take}
use Rattle.rm_tables.specs.Passing.{masters_granted}
use Rattle.rm_sched.proofs.passing.masters_granted.Given as goal

abbrev pub invariant-grants : goal.invariant-grants
invariant-grants l = l.events ≡ masters_granted l.rows (take l.grant-index l.grants)
