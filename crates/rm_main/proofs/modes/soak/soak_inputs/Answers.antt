use Rattle.rm_main.proofs.Scripts.{can_be_run}
use Rattle.rm_main.proofs.modes.soak.soak_inputs.Goals as goal

pub returns-clause-can_run : goal.returns-clause-can_run
returns-clause-can_run c = can_be_run _ c.in_ok-soak_script.ensures.told
