use Rattle.rm_main.proofs.Rooted.{rooted}
use Rattle.run_tests.proofs.feeding_tests.settings_of.Goals as goal

pub returns-clause-queues : goal.returns-clause-queues
returns-clause-queues g c = rooted c.expect.result (rw c.expect.ensures at c.read_cluster.ensures.in_range)
