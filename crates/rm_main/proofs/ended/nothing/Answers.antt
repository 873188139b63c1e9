use Rattle.rm_main.proofs.Devices.{left_as_it_was}
use Rattle.rm_main.proofs.ended.nothing.Goals as goal

pub returns-clause-device : goal.returns-clause-device
returns-clause-device g c = rw (c.new.ensures, c.new-2.ensures) (left_as_it_was g.D.Disk.view c.args.disk c.requires)
