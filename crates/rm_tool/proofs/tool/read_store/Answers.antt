use Rattle.std.proofs.Common.{arith}
use Rattle.rm_tool.proofs.tool.read_store.Goals as goal

pub returns-then-len-clause-errors : goal.returns-then-len-clause-errors
returns-then-len-clause-errors g c = record {
  bytes = c.in_ok-bytes.bytes.items;
  read = c.in_ok-bytes.ensures.bytes;
  long = (let b = c.len-length.ensures in let ok = c.in_ok-bytes.bytes.ok.0 in omega (arith, b, ok));
  other = λ e. c.if-len.true (let a = c.len.ensures in let b = c.len-length.ensures in omega (arith, a, b, e));
}
