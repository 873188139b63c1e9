-- Where there is no segment to close, no lane of the store's worker may move.
use Rattle.std.proofs.Common.{true≢false, sym, ap, refl, ◌∙◌}
use Rattle.rm_model.specs.Place.{close_left}
use Rattle.rm_desk.specs.Lanes.{may_close}
use Rattle.rm_desk.specs.View.{DeskView}
use Rattle.rm_workers.proofs.HoldLemmas.{none_may}
use Rattle.rm_workers.proofs.moves.close.Goals as goal

pub returns-in-None-clause-makes : goal.returns-in-None-clause-makes
returns-in-None-clause-makes g c =
    let d = c.args.held.now.desk in
    let none = ap (λ (x : DeskView). close_left x.place.segments) (sym c.desk-2.ensures.desk) ∙ sym c.close_of.ensures ∙ c.in-None.is in
    (refl, none_may d c.requires.hand (λ ready rests. true≢false (sym ready ∙ ap (may_close d) none)))
