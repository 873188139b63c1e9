use Rattle.std.proofs.Common.{refl}
use Rattle.rm_core.specs.declared.manager.Move.TheVariants.{Main}
use Rattle.rm_types.specs.declared.messages.Lane.TheVariants as lanes
use Rattle.rm_desk.specs.Effects.{IsEntryOf}
use Rattle.rm_desk.specs.Feeds.{at, feeds_place}
use Rattle.rm_desk.proofs.Moving.{main_entry, silent_does}
use Rattle.rm_desk.proofs.moves.work_main.Goals as goal

pub returns-clause-does : goal.returns-clause-does
returns-clause-does c =
    silent_does lanes.Main c.args.core.now c.step.new.self (feeds_place c.args.feeds.now) c.requires.sound Main (IsEntryOf lanes.Main (at c.args.core.now c.args.feeds.now)) (main_entry (at c.args.core.now c.args.feeds.now)) (λ ops. tt) c.step.result
    tt refl c.requires.ready c.step.ensures.does (λ less. less) (λ lives. lives) refl c.requires.sound.blown
