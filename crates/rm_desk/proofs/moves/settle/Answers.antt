use Rattle.std.proofs.Common.{◌≡◌, ◌&&◌, true, ◌∷◌, ◌++◌, [], ◌∙◌, ap}
use Rattle.std.proofs.lemmas.Bool.{and_parts}
use Rattle.rm_types.specs.declared.entries.Entry.{Entry}
use Rattle.rm_types.specs.declared.messages.Lane.TheVariants.{End}
use Rattle.rm_types.specs.Lists.{is_nil}
use Rattle.rm_types.proofs.TestLemmas.{nil_is}
use Rattle.rm_core.specs.Words.{ready_at}
use Rattle.rm_desk.proofs.Moving.{settle_does}
use Rattle.rm_desk.proofs.Words.{end_rests, rest_stays}
use Rattle.rm_desk.proofs.moves.settle.Goals as goal

pub returns-clause-does : goal.returns-clause-does
returns-clause-does c =
    let core = c.args.core.now in
    let f = c.args.feeds.now in
    let step = c.in_ok-step.ensures.does in
    let ready : (ready_at core End && is_nil f.feed) ≡ true = rw c.requires.settles at c.requires.ready in
    let parts = and_parts (ready_at core End) (is_nil f.feed) ready in
    settle_does core c.step.new.self f c.requires.sound c.requires.entered step.settings step.began (λ ops k. step.lawful ops k tt) c.enter.new.self c.requires.settles (nil_is f.feed parts.1)
    (step.added.added ∙ ap (λ (e : Entry). core.log ++ e ∷ []) step.added.of_move) step.weighs step.stands step.served step.blown c.enter.ensures.place
    (rest_stays core c.step.new.self step.tables (end_rests core parts.0 c.rest.ensures))
