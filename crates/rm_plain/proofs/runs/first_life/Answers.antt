use Rattle.rm_lives.proofs.Onward.{first_to, own_first, unfounded_stops}
use Rattle.rm_plain.proofs.runs.first_life.Goals as goal

pub returns-in-Ok-clause-first : goal.returns-in-Ok-clause-first
returns-in-Ok-clause-first g c =
    first_to _ g.D.Disk.view c.args.d.now c.live-disk.new.d c.args.disk c.live-disk.result.disk c.in-Ok.store c.in-Ok.tree c.in-Ok.opening c.in-Ok.ensures.first c.requires.empty c.requires.dead
    c.live-disk.result.ended c.live-disk.ensures.lived

pub returns-in-Err-clause-first : goal.returns-in-Err-clause-first
returns-in-Err-clause-first g c =
    let none = c.in-Err.ensures in
    unfounded_stops _ g.D.Disk.view c.args.d.now c.args.disk c.in-Err.field-0.disk c.in-Err.field-0.opening c.in-Err.field-0.why c.requires.dead c.requires.lives c.requires.empty none.given_back none.found none.why

pub live-disk-requires-clause-own : goal.live-disk-requires-clause-own
live-disk-requires-clause-own g c = own_first c.args.d.now.core c.in-Ok.tree c.requires.empty
