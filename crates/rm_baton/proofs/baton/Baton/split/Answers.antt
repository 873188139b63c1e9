-- A split keeps the rule.
use Rattle.rm_baton.proofs.Steps.{forks}
use Rattle.rm_baton.proofs.baton.Baton.split.Goals as goal

pub another-requires-clause-rule : goal.another-requires-clause-rule
another-requires-clause-rule g c = forks g.T.Carries.run g.T.Carries.log _ _ c.requires.stands
