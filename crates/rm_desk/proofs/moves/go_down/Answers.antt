use Rattle.std.proofs.Common.{◌∷◌, ◌++◌, [], ◌∙◌, ap, refl}
use Rattle.rm_types.specs.declared.entries.Entry.{Entry}
use Rattle.rm_desk.proofs.Moving.{down_does}
use Rattle.rm_desk.proofs.moves.go_down.Goals as goal

pub returns-clause-does : goal.returns-clause-does
returns-clause-does c =
    let core = c.args.core.now in
    let f = c.args.feeds.now in
    let step = c.in_ok-step.ensures.does in
    down_does core c.step.new.self f c.requires.sound c.requires.entered step.settings step.began (λ ops k. step.lawful ops k tt) c.enter.new.self f.close refl c.requires.crashes c.requires.ready
    (step.added.added ∙ ap (λ (e : Entry). core.log ++ e ∷ []) step.added.of_move) step.weighs step.stands step.blown c.enter.ensures.place
