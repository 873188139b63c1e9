use Rattle.std.proofs.Common.{◌≡◌, refl, subst, sym}
use Rattle.rm_types.specs.declared.entries.Entry.{Entry}
use Rattle.rm_types.specs.declared.entries.Entry.TheVariants.{Blown as BlownEntry}
use Rattle.rm_core.specs.declared.manager.Move.TheVariants.{Blown}
use Rattle.rm_types.specs.declared.messages.Lane.TheVariants as lanes
use Rattle.rm_desk.specs.Feeds.{at, feeds_place}
use Rattle.rm_desk.specs.Runs.{IsLast}
use Rattle.rm_desk.proofs.Moving.{blown_entry, silent_does}
use Rattle.rm_desk.proofs.moves.blown.Goals as goal

pub returns-clause-does : goal.returns-clause-does
returns-clause-does c =
    let d = at c.args.core.now c.args.feeds.now in
    let crash = c.requires.crashes in
    silent_does lanes.Write c.args.core.now c.step.new.self (feeds_place c.args.feeds.now) c.requires.sound (Blown c.args.passed) (λ (e : Entry). e ≡ BlownEntry c.args.passed) (blown_entry d c.args.passed crash.0 crash.1) (λ ops. tt) c.step.result
    tt refl c.requires.ready c.step.ensures.does (λ less. less) (λ lives. lives) refl (λ alive blown. subst IsLast (sym crash.1) tt)
