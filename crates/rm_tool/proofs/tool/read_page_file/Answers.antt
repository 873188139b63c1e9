use Rattle.std.proofs.Common.{arith}
use Rattle.rm_tool.proofs.tool.read_page_file.Goals as goal

pub returns-else-len-lt-MOST_READ-clause-errors : goal.returns-else-len-lt-MOST_READ-clause-errors
returns-else-len-lt-MOST_READ-clause-errors g c = record {
  bytes = c.in_ok-bytes.bytes.items;
  read = c.in_ok-bytes.ensures.bytes;
  long = (let a = c.len.ensures in let n = c.if-len-lt-MOST_READ.false in let ok = c.in_ok-bytes.bytes.ok.0 in omega (arith, a, n, ok));
}
