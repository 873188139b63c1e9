use Rattle.std.proofs.Common.{refl, subst}
use Rattle.rm_desk.specs.Feeds.{at}
use Rattle.rm_model.specs.Place.{BySegment}
use Rattle.rm_desk.specs.Effects.{Grows}
use Rattle.rm_desk.specs.View.{DeskView}
use Rattle.rm_desk.proofs.Growing.{script_grows}
use Rattle.rm_desk.proofs.desk.Desk.add_segment.Goals as goal

pub returns : goal.returns
returns c =
    let d = at c.self.inside.core c.self.inside.feeds in
    let next = at c.self.inside.core c.add_segment.new.self in
    subst (λ (v : DeskView). Grows (BySegment c.args.segment) v next) c.self.view_is (script_grows (BySegment c.args.segment) d next refl c.add_segment.ensures.place)
