use Rattle.std.proofs.Common.{◌≡◌, take, fold}
use Rattle.rm_tables.specs.Passing.{rows_after_grant, table_without_granted}
use Rattle.rm_sched.proofs.passing.take_grants.Given as goal

abbrev pub invariant-grants : goal.invariant-grants
invariant-grants l = record {
  asks : l.asks ≡ fold table_without_granted l.initial.asks (take l.grant-index l.grants);
  rows : l.rows ≡ fold rows_after_grant l.initial.rows (take l.grant-index l.grants);
}
