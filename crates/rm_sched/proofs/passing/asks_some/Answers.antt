use Rattle.std.proofs.Common.{◌∙◌}
use Rattle.rm_book.specs.AskTables.{attempt_asks}
use Rattle.rm_sched.proofs.Granting.{asked_is}
use Rattle.rm_sched.proofs.passing.asks_some.Goals as goal

pub returns : goal.returns
returns c = c.is_some.ensures ∙ asked_is c.of.result (attempt_asks c.args.asks.now c.args.id) c.of.ensures
