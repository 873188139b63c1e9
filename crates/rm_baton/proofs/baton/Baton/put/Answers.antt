-- A put keeps the rule.
use Rattle.rm_baton.proofs.Steps.{puts}
use Rattle.rm_baton.proofs.baton.Baton.put.Goals as goal

pub push_as-requires-clause-rule : goal.push_as-requires-clause-rule
push_as-requires-clause-rule g c = puts g.T.Carries.run g.T.Carries.log _ _ _ _ c.requires.may
