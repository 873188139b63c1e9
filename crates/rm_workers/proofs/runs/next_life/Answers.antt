use Rattle.rm_lives.proofs.Finishing.{none_stands, some_left}
use Rattle.rm_lives.proofs.Onward.{again_to, stopped_before}
use Rattle.rm_workers.specs.AnyOrder.{any_order}
use Rattle.rm_workers.proofs.runs.next_life.Goals as goal

pub open_again-requires-clause-dead : goal.open_again-requires-clause-dead
open_again-requires-clause-dead g c = none_stands c.args.d c.requires.ready

pub returns-in-Ok-clause-later : goal.returns-in-Ok-clause-later
returns-in-Ok-clause-later g c =
    again_to any_order g.D.Disk.view c.args.d c.live.result.desk c.args.disk c.live.result.disk c.in-Ok.store c.in-Ok.tree c.in-Ok.ensures.again c.live.result.ended c.live.ensures.lived

pub returns-in-Err-clause-later : goal.returns-in-Err-clause-later
returns-in-Err-clause-later g c =
    stopped_before any_order g.D.Disk.view c.args.d c.args.disk c.in-Err.field-0.disk c.in-Err.field-0.why (none_stands c.args.d c.requires.ready) (some_left c.args.d c.requires.ready) c.in-Err.ensures.given_back c.in-Err.ensures.why
