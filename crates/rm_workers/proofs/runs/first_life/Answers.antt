use Rattle.rm_lives.proofs.Finishing.{none_stands, some_left}
use Rattle.rm_lives.proofs.Onward.{first_to, own_first, unfounded_stops}
use Rattle.rm_workers.specs.AnyOrder.{any_order}
use Rattle.rm_workers.proofs.runs.first_life.Goals as goal

pub returns-in-Ok-clause-first : goal.returns-in-Ok-clause-first
returns-in-Ok-clause-first g c =
    first_to any_order g.D.Disk.view c.args.d c.live-desk.result.desk c.args.disk c.live-desk.result.disk c.in-Ok.store c.in-Ok.tree c.in-Ok.opening c.in-Ok.ensures.first c.requires.empty (none_stands c.args.d c.requires.ready)
    c.live-desk.result.ended c.live-desk.ensures.lived

pub returns-in-Err-clause-first : goal.returns-in-Err-clause-first
returns-in-Err-clause-first g c =
    let none = c.in-Err.ensures in
    unfounded_stops any_order g.D.Disk.view c.args.d c.args.disk c.in-Err.field-0.disk c.in-Err.field-0.opening c.in-Err.field-0.why (none_stands c.args.d c.requires.ready) (some_left c.args.d c.requires.ready) c.requires.empty none.given_back none.found
    none.why

pub live-desk-requires-clause-own : goal.live-desk-requires-clause-own
live-desk-requires-clause-own g c = λ κs lives. own_first c.args.d.core c.in-Ok.tree c.requires.empty
