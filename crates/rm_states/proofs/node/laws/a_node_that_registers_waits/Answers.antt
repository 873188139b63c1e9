use Rattle.rm_states.proofs.node.Rows.{registered_wait}
use Rattle.rm_states.proofs.node.laws.a_node_that_registers_waits.Goals as goal

pub returns : goal.returns
returns c = registered_wait
