use Rattle.rm_queues.proofs.Dots.{parents_of-none, IsParent-from_last_dot}
use Rattle.rm_queues.proofs.paths.parent_of.Goals as goal

pub returns-in-Some : goal.returns-in-Some
returns-in-Some c = IsParent-from_last_dot c.args.name.now c.in-Some.dot c.in-Some.ensures.0 c.in-Some.ensures.1 c.in-Some.ensures.2

pub returns-in-None : goal.returns-in-None
returns-in-None c = parents_of-none c.args.name.now c.in-None.ensures
