use Rattle.rm_lives.proofs.Onward.{is_first, refused_first}
use Rattle.rm_lives.proofs.starts.open_first.Goals as goal

pub returns-in-Ok-can_begin-clause-first : goal.returns-in-Ok-can_begin-clause-first
returns-in-Ok-can_begin-clause-first g c =
    let can = c.in-Ok-can_begin.ensures in
    is_first g.D.Disk.view c.args.disk c.in-Ok.opened.0 c.in-Ok.opened.1 c.in-Ok.opened.2 c.in-Ok.ensures.opened can.epoch can.stamp

pub returns-in-Ok-can_begin-clause-read_back : goal.returns-in-Ok-can_begin-clause-read_back
returns-in-Ok-can_begin-clause-read_back g c = c.in-Ok.ensures.opened.read.none_stray

pub returns-in-Err-can_begin-clause-why : goal.returns-in-Err-can_begin-clause-why
returns-in-Err-can_begin-clause-why g c =
    rw c.close.ensures (refused_first g.D.Disk.view c.args.disk c.in-Ok.opened.0 c.in-Ok.opened.1 c.in-Ok.opened.2 c.in-Ok.ensures.opened c.in-Err-can_begin.why c.in-Err-can_begin.ensures.refused)
