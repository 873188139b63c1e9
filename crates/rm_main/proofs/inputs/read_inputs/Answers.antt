use Rattle.rm_main.proofs.inputs.read_inputs.Goals as goal

pub returns-clause-script : goal.returns-clause-script
returns-clause-script g c = rw c.in_ok-settings.ensures.told at c.in_ok-script.ensures.read
