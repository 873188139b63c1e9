use Rattle.std.proofs.Common.{arith}
use Rattle.rm_formats.proofs.ids.Refusals.{no_end}
use Rattle.rm_formats.proofs.ids.steps.end_at.Goals as goal

pub returns-else-is_empty : goal.returns-else-is_empty
returns-else-is_empty c = no_end c.args.bytes.now (search arith)
