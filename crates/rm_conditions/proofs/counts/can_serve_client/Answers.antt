use Rattle.std.proofs.Common.{◌∙◌, sym}
use Rattle.std.proofs.lemmas.Bool.{false≢true}
use Rattle.rm_conditions.proofs.counts.can_serve_client.Goals as goal

pub returns-then-few : goal.returns-then-few
returns-then-few c = (
  λ yes. let two = c.can_count_more.ensures.0 yes in (two.0, two.1, c.has_countable-few.ensures.0 c.if-few.true),
  λ all. c.can_count_more.ensures.1 (all.0, all.1),
)

pub returns-else-few : goal.returns-else-few
returns-else-few c = (
  λ yes. absurd (false≢true (sym c.if-few.false ∙ yes)),
  λ all. c.has_countable-few.ensures.1 all.2,
)
