-- The life ends as a life on one thread does.
use Rattle.rm_workers.proofs.LifeEndLemmas.{ended_ends, ended_fuse, ended_halts}
use Rattle.rm_workers.proofs.lives.run_life.Goals as goal

pub returns-clause-ends : goal.returns-clause-ends
returns-clause-ends g c = ended_ends g.D.Disk.view c.args.desk c.live.result.0 c.args.store c.live.result.1 c.live.result.2 c.live.ensures.ended

pub returns-clause-fuse : goal.returns-clause-fuse
returns-clause-fuse g c = ended_fuse g.D.Disk.view c.args.desk c.live.result.0 c.args.store c.live.result.1 c.live.result.2 c.live.ensures.ended

pub returns-clause-halts : goal.returns-clause-halts
returns-clause-halts g c = ended_halts g.D.Disk.view c.args.desk c.live.result.0 c.args.store c.live.result.1 c.live.result.2 c.live.ensures.ended
