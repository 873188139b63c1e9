use Rattle.std.proofs.Common.{[], refl, subst}
use Rattle.rm_types.proofs.TestLemmas.{on_ok_map}
use Rattle.rm_types.specs.declared.scripts.Life.{Life}
use Rattle.rm_desk.specs.Feeds.{at}
use Rattle.rm_model.specs.Place.{ByLife}
use Rattle.rm_desk.specs.Effects.{Grows}
use Rattle.rm_desk.specs.View.{DeskView}
use Rattle.rm_desk.proofs.Growing.{script_grows}
use Rattle.rm_desk.proofs.desk.Desk.add_life.Goals as goal

pub returns-clause-grows : goal.returns-clause-grows
returns-clause-grows c =
    let life : Life = record { stamp = c.args.stamp; segments = [] } in
    let d = at c.self.inside.core c.self.inside.feeds in
    let next = at c.self.inside.core c.add_life.new.self in
    on_ok_map c.add_life.result
    (λ place. subst (λ (v : DeskView). Grows (ByLife life) v next) c.self.view_is (script_grows (ByLife life) d next refl place))
    (rw c.new.ensures at c.add_life.ensures.place)
