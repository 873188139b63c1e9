-- A store that serves the life may halt it at any time.
use Rattle.rm_baton.specs.Views.{view}
use Rattle.rm_lives.specs.declared.halts.Halt.TheVariants.{Memory}
use Rattle.rm_workers.specs.Work.{Halting, Serving}
use Rattle.rm_workers.proofs.PassLemmas.{knows_then}
use Rattle.rm_workers.proofs.TurnLemmas.{serving_halts}
use Rattle.rm_workers.proofs.holds.hold_unstarted.Goals as goal

pub hold_halt-requires-clause-knows : goal.hold_halt-requires-clause-knows
hold_halt-requires-clause-knows g c =
    knows_then (Serving g.D.Disk.view g.S.Since.began c.args.store.now) (Halting g.D.Disk.view g.S.Since.began c.args.store.now Memory) (serving_halts g.D.Disk.view g.S.Since.began c.args.store.now) (view c.args.pass) c.requires.knows
