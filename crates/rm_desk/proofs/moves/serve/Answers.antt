use Rattle.std.proofs.Common.{◌≡◌, ◌<◌, ◌∷◌, ◌++◌, [], Some, is_some, refl, sym, ◌∙◌, ap, subst}
use Rattle.std.proofs.lemmas.Bool.{and_parts}
use Rattle.rm_types.specs.declared.entries.Entry.{Entry}
use Rattle.rm_types.specs.declared.messages.Message.{Message}
use Rattle.rm_types.specs.Lanes.{feed_lane}
use Rattle.rm_model.specs.Place.{first_from, messages_left}
use Rattle.rm_types.specs.Limits.{most_served}
use Rattle.rm_core.specs.Words.{IsServable, ready_at, served_in}
use Rattle.rm_desk.specs.Feeds.{feeds_place}
use Rattle.rm_desk.proofs.Feeding.{feed_ready}
use Rattle.rm_desk.proofs.Moving.{fed_in, first_served, found_some, serve_does}
use Rattle.rm_desk.proofs.Words.{client_stands}
use Rattle.rm_desk.proofs.moves.serve.Goals as goal

pub step-requires : goal.step-requires
step-requires c =
    let core = c.args.core.now in
    let f = c.args.feeds.now in
    let sender = c.args.sender in
    let m = c.in-Some.message.now in
    let first = sym c.in-Some.ensures in
    let close = fed_in f c.requires.entered (found_some sender f.feed m first) f.close refl in
    let ready = and_parts (ready_at core (feed_lane sender)) (is_some (first_from sender (messages_left (feeds_place f).segments))) c.requires.ready in
    subst (λ (one : Message). IsServable one × (served_in core < most_served)) (sym c.in_ok-message.ensures)
    (first_served f close.0 close.1 sender m first core c.requires.sound (client_stands core (sym (feed_ready sender core) ∙ ready.0)))

pub returns-clause-does : goal.returns-clause-does
returns-clause-does c =
    let core = c.args.core.now in
    let f = c.args.feeds.now in
    let sender = c.args.sender in
    let m = c.in_ok-message.message in
    let first : first_from sender f.feed ≡ Some m = rw c.in_ok-message.ensures (sym c.in-Some.ensures) in
    let close = fed_in f c.requires.entered (found_some sender f.feed m first) f.close refl in
    let step = c.in_ok-step.ensures.does in
    serve_does core c.step.new.self f c.requires.sound c.requires.entered step.settings step.began (λ ops k. step.lawful ops k tt) close.0 close.1 sender m first
    step.added.of_move.0 (step.added.added ∙ ap (λ (e : Entry). core.log ++ e ∷ []) step.added.of_move.1) step.weighs step.stands step.served step.blown
    c.take.new.self c.take.ensures
