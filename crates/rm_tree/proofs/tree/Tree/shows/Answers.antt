use Rattle.std.proofs.Common.{◌∙◌}
use Rattle.rm_tree.proofs.Shows.{shows_not, shows_then}
use Rattle.rm_tree.proofs.tree.Tree.shows.Goals as goal

pub returns-clause-before : goal.returns-clause-before
returns-clause-before c = λ fits. c.tells.ensures ∙ shows_not c.args.self.now c.args.op.now fits

pub returns-clause-after : goal.returns-clause-after
returns-clause-after c = λ r fits is. c.tells.ensures ∙ rw is (shows_then r c.args.op.now fits)
