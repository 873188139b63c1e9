-- The segment settled, and the fuse is armed as the next one says, or no memory was found for that.
use Rattle.std.proofs.Common.{Err, ap, sym, true≢false, ◌∙◌}
use Rattle.rm_model.specs.Place.{close_left}
use Rattle.rm_lives.specs.Keeping.{armed_by}
use Rattle.rm_desk.specs.View.{DeskView}
use Rattle.rm_tables.specs.declared.events.Refused.{Refused}
use Rattle.rm_workers.specs.Carried.{HeldView}
use Rattle.rm_workers.proofs.HoldLemmas.{none_may}
use Rattle.rm_workers.proofs.TurnLemmas.{arms_unarmed, arms_unblown, settled_halts, settled_on}
use Rattle.rm_workers.proofs.moves.settle.Goals as goal

pub arm-requires-clause-unarmed : goal.arm-requires-clause-unarmed
arm-requires-clause-unarmed g c = arms_unarmed g.D.Disk.view g.S.Since.began c.args.held.now.desk c.step.new.self.desk c.args.store.now c.requires.serving c.in-Ok.ensures.moves c.requires.rests c.requires.settles

pub arm-requires-clause-unblown : goal.arm-requires-clause-unblown
arm-requires-clause-unblown g c = arms_unblown g.D.Disk.view g.S.Since.began c.args.held.now.desk c.step.new.self.desk c.args.store.now c.requires.serving c.in-Ok.ensures.moves c.requires.rests c.requires.settles

pub returns-in-Ok-arm-clause-turn : goal.returns-in-Ok-arm-clause-turn
returns-in-Ok-arm-clause-turn g c =
    let armed = c.in-Ok-arm.ensures.armed ∙ ap (λ (d : DeskView). armed_by (close_left d.place.segments)) c.desk.ensures.desk in
    settled_on g.D.Disk.view g.S.Since.began c.args.held.now.desk c.step.new.self.desk c.args.store.now c.requires.serving c.in-Ok.ensures.moves c.requires.rests c.requires.settles c.arm.new.store c.arm.ensures.inner c.arm.ensures.refused
    c.arm.ensures.falls c.arm.ensures.unarmed_falls c.in-Ok-arm.ensures.sound armed c.in-Ok-arm.ensures.unblown c.arm.ensures.broken c.in-Ok-arm.ensures.within

pub returns-in-Err-clause-turn : goal.returns-in-Err-clause-turn
returns-in-Err-clause-turn g c =
    rw c.stop.ensures.desk
    (settled_halts g.D.Disk.view g.S.Since.began c.args.held.now.desk c.step.new.self.desk c.args.store.now c.requires.serving c.in-Ok.ensures.moves c.requires.rests c.requires.settles c.arm.new.store c.arm.ensures.inner
    c.arm.ensures.refused c.arm.ensures.falls c.arm.ensures.unarmed_falls)

pub returns-in-Ok-arm-clause-makes : goal.returns-in-Ok-arm-clause-makes
returns-in-Ok-arm-clause-makes g c = ((c.in-Ok.ensures.ready, c.requires.rests), c.in-Ok.ensures.moves.does)

pub returns-in-Err-clause-makes : goal.returns-in-Err-clause-makes
returns-in-Err-clause-makes g c = rw c.stop.ensures.desk ((c.in-Ok.ensures.ready, c.requires.rests), c.in-Ok.ensures.moves.does)

pub returns-in-Err-NotReady-clause-makes : goal.returns-in-Err-NotReady-clause-makes
returns-in-Err-NotReady-clause-makes g c = (ap (λ (h : HeldView). h.desk) c.in-Err-NotReady.ensures.err, none_may c.args.held.now.desk c.requires.hand (λ ready rests. true≢false (sym ready ∙ c.in-Err-NotReady.ensures.not_ready (ap (λ (e : Refused). Err e) c.in-Err-NotReady.field-0-is))))
