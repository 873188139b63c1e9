use Rattle.std.proofs.Common.{◌∙◌, sym}
use Rattle.std.proofs.lemmas.Bool.{false≢true}
use Rattle.rm_conditions.proofs.Few.{less, less_true}
use Rattle.rm_conditions.proofs.counts.can_decide.Goals as goal

pub returns-then-few : goal.returns-then-few
returns-then-few c = (
  λ yes. (less c.args.t.now.epoch 4294967295 yes, c.has_few-few.ensures.0 c.if-few.true),
  λ both. less_true c.args.t.now.epoch 4294967295 both.0,
)

pub returns-else-few : goal.returns-else-few
returns-else-few c = (
  λ yes. absurd (false≢true (sym c.if-few.false ∙ yes)),
  λ both. c.has_few-few.ensures.1 both.1,
)
