-- A join keeps the rule.
use Rattle.rm_baton.proofs.Steps.{merges}
use Rattle.rm_baton.proofs.baton.Baton.join.Goals as goal

pub absorb-requires-clause-rule : goal.absorb-requires-clause-rule
absorb-requires-clause-rule g c = merges g.T.Carries.run g.T.Carries.log _ _ _ _ c.requires.idle.0 c.requires.idle.1
