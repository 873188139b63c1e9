use Rattle.std.proofs.Common.{◌∷◌, ◌++◌, [], ◌∙◌, ap, not, refl, sym}
use Rattle.std.proofs.lemmas.Bool.{and_parts, not-true}
use Rattle.rm_types.specs.declared.entries.Entry.{Entry}
use Rattle.rm_types.specs.Lists.{is_nil}
use Rattle.rm_types.proofs.TestLemmas.{first_of}
use Rattle.rm_core.specs.Words.{stands}
use Rattle.rm_desk.specs.Feeds.{at, feeds_place}
use Rattle.rm_desk.proofs.Beginning.{begin_does, next_stamp}
use Rattle.rm_desk.proofs.moves.begin.Goals as goal

pub step-requires : goal.step-requires
step-requires c =
    let stamp = next_stamp (at c.args.core.now c.args.feeds.now) c.requires.sound c.args.feeds.now.lives refl c.in-Some.life.now (sym c.in-Some.ensures.first) in
    (c.requires.over, c.requires.own, stamp.0, stamp.1)

pub returns-clause-begins : goal.returns-clause-begins
returns-clause-begins c =
    let core = c.args.core.now in
    let f = c.args.feeds.now in
    let step = c.in_ok-step.ensures.does in
    let ready = and_parts (not (stands core)) (not (is_nil f.lives)) c.requires.ready in
    let life = c.in-Some.life.now in
    let first = first_of f.lives life (sym c.in-Some.ensures.first) in
    begin_does (at core f) c.step.new.self (feeds_place c.enter_life.new.self) c.requires.sound c.args.tree step.settings step.began step.lawful c.requires.own (not-true (stands core) ready.0) step.stands.1 step.served step.blown life
    (step.added.added ∙ ap (λ (e : Entry). core.log ++ e ∷ []) step.added.of_move) first.0 first.1 c.enter_life.ensures.place
