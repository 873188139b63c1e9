-- The halt stands, and the log is what it was.
use Rattle.std.proofs.Common.{inl, ap}
use Rattle.rm_types.specs.declared.messages.Lane.TheVariants.{Hand}
use Rattle.rm_baton.specs.Views.{view}
use Rattle.rm_desk.specs.View.{DeskView}
use Rattle.rm_workers.specs.Holds.{MayTell, MovesOnce}
use Rattle.rm_workers.specs.Work.{Halting}
use Rattle.rm_workers.proofs.PassLemmas.{knows_put, puts_any, still}
use Rattle.rm_workers.proofs.FactLemmas.{halting_lasts}
use Rattle.rm_workers.proofs.HoldLemmas.{holds, none_told, stops_once, told_by}
use Rattle.rm_workers.proofs.holds.hold_halt.Goals as goal

pub give-requires-clause-may : goal.give-requires-clause-may
give-requires-clause-may g c =
    puts_any (Halting g.D.Disk.view g.S.Since.began c.args.store.now c.args.halt) (view c.args.pass) (view c.wait_for-pass.result.0) c.wait_for-pass.result.1 c.stop.new.self c.requires.knows c.wait_for-pass.ensures.took
    c.wait_for-pass.ensures.meets (inl (ap (λ (d : DeskView). d.core.log) c.stop.ensures.desk))

pub give-requires-clause-lane : goal.give-requires-clause-lane
give-requires-clause-lane g c =
    told_by Hand Hand _ _ (view c.args.pass) (view c.wait_for-pass.result.0) c.wait_for-pass.result.1 _ c.of_store-notice.ensures.own c.of_store-notice.ensures.lane c.wait_for-pass.ensures.took
    (none_told Hand c.wait_for-pass.result.1.desk c.stop.new.self.desk c.stop.ensures.desk)

pub returns-clause-knows : goal.returns-clause-knows
returns-clause-knows g c =
    knows_put (Halting g.D.Disk.view g.S.Since.began c.args.store.now c.args.halt) (Halting g.D.Disk.view g.S.Since.began c.args.store.now c.args.halt) (view c.args.pass) (view c.wait_for-pass.result.0) (view c.give.new.pass)
    c.wait_for-pass.result.1 c.stop.new.self c.requires.knows c.wait_for-pass.ensures.took c.give.ensures.gave
    (rw c.stop.ensures.desk
    (still (Halting g.D.Disk.view g.S.Since.began c.args.store.now c.args.halt) (halting_lasts g.D.Disk.view g.S.Since.began c.args.store.now c.args.halt) (view c.args.pass) c.wait_for-pass.result.1 c.requires.knows
    c.wait_for-pass.ensures.meets))

pub returns-clause-hold : goal.returns-clause-hold
returns-clause-hold g c =
    holds (MovesOnce MayTell) (view c.args.pass) (view c.wait_for-pass.result.0) (view c.give.new.pass) c.wait_for-pass.result.1 c.stop.new.self c.wait_for-pass.ensures.took c.give.ensures.gave
    (stops_once c.wait_for-pass.result.1 c.stop.new.self c.stop.ensures.desk c.stop.ensures.halt)
