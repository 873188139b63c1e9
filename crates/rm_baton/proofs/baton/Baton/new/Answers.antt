-- The first put begins the run.
use Rattle.std.proofs.Common.{rules}
use Rattle.rm_baton.proofs.Steps.{starts}
use Rattle.rm_baton.proofs.baton.Baton.new.Goals as goal

pub try_push_as-requires-clause-rule : goal.try_push_as-requires-clause-rule
try_push_as-requires-clause-rule g c = starts g.T.Carries.run g.T.Carries.log _ _ _ _ (search rules)
