use Rattle.rm_states.proofs.container.Rows.{runs_and_ends}
use Rattle.rm_states.proofs.container.laws.a_container_runs_and_ends_once.Goals as goal

pub returns : goal.returns
returns c = runs_and_ends
