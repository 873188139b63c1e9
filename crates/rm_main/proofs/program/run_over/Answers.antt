use Rattle.std.proofs.Common.{◌∙◌}
use Rattle.rm_words.specs.Words.{asked}
use Rattle.rm_main.proofs.Calls.{ran_along}
use Rattle.rm_main.proofs.program.run_over.Goals as goal

pub returns-clause-ran : goal.returns-clause-ran
returns-clause-ran g c = ran_along g.D.Disk.view (asked c.args.line.mode) _ _ _ _ _ (c.new-watched.ensures ∙ c.new-ahead.ensures) (c.inner-device.ensures ∙ c.inner-ahead.ensures) c.call_over-call.ensures.ran
