use Rattle.rm_lives.proofs.Onward.{again_to, stopped_before}
use Rattle.rm_plain.proofs.runs.next_life.Goals as goal

pub returns-in-Ok-clause-later : goal.returns-in-Ok-clause-later
returns-in-Ok-clause-later g c =
    again_to _ g.D.Disk.view c.args.d.now c.live.new.d c.args.disk c.live.result.disk c.in-Ok.store c.in-Ok.tree c.in-Ok.ensures.again c.live.result.ended c.live.ensures.lived

pub returns-in-Err-clause-later : goal.returns-in-Err-clause-later
returns-in-Err-clause-later g c =
    stopped_before _ g.D.Disk.view c.args.d.now c.args.disk c.in-Err.field-0.disk c.in-Err.field-0.why c.requires.dead c.requires.lives c.in-Err.ensures.given_back c.in-Err.ensures.why

pub live-requires-clause-own : goal.live-requires-clause-own
live-requires-clause-own g c = c.in-Ok.ensures.again.own
