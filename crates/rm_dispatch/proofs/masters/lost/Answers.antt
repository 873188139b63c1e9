use Rattle.std.proofs.Common.{sym, ap, ◌∙◌}
use Rattle.std.specs.Option.{option_copied}
use Rattle.rm_dispatch.proofs.masters.lost.Goals as goal

pub returns-clause-ok : goal.returns-clause-ok
returns-clause-ok c = let found = sym c.find.ensures ∙ ap option_copied c.in-Some.is in rw found c.lose_current.ensures.ok
