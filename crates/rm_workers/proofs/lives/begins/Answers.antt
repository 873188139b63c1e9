-- What is known of the desk is known of the log.
use Rattle.rm_workers.proofs.LifeEndLemmas.{begins_serving}
use Rattle.rm_workers.proofs.lives.begins.Goals as goal

pub returns : goal.returns
returns g c = record { serving = begins_serving g.D.Disk.view c.args.desk.now c.args.store.now c.requires.stands c.requires.serves }
