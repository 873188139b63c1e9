use Rattle.rm_main.proofs.Calls.{is_new}
use Rattle.rm_main.proofs.program.new_device.Goals as goal

pub returns : goal.returns
returns c = is_new _ _ _ c.new.ensures c.new-2.ensures
