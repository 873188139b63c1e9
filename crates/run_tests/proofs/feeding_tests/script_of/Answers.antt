use Rattle.rm_main.proofs.Scripts.{can_run}
use Rattle.run_tests.proofs.feeding_tests.script_of.Goals as goal

pub returns : goal.returns
returns g c = can_run _ c.expect.result (rw c.expect.ensures at c.read_script.ensures.read)
