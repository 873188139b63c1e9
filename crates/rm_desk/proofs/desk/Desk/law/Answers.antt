use Rattle.rm_desk.specs.Feeds.{at}
use Rattle.rm_desk.proofs.Resting.{dead_ready, no_work_rests}
use Rattle.rm_desk.proofs.desk.Desk.law.Goals as goal

pub returns-clause-dead : goal.returns-clause-dead
returns-clause-dead c = rw (← c.self.view_is) (dead_ready (at c.self.inside.core c.self.inside.feeds) c.self.invariant.0 c.rest.ensures)

pub returns-clause-idle : goal.returns-clause-idle
returns-clause-idle c = rw (← c.self.view_is) (no_work_rests (at c.self.inside.core c.self.inside.feeds) c.rest.ensures)
