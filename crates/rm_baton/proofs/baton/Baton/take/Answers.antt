-- A take keeps the rule, and tells what the rule says of the value.
use Rattle.rm_baton.proofs.Steps.{takes}
use Rattle.rm_baton.proofs.baton.Baton.take.Goals as goal

pub pop_as-requires-clause-rule : goal.pop_as-requires-clause-rule
pop_as-requires-clause-rule g c = takes g.T.Carries.run g.T.Carries.log _ _ c.requires.idle
