-- The life went down at rest, or blown.
use Rattle.std.proofs.Common.{Err, ◌∙◌, true≢false, sym, ap}
use Rattle.rm_tables.specs.declared.events.Refused.{Refused}
use Rattle.rm_workers.specs.Carried.{HeldView}
use Rattle.rm_workers.proofs.HoldLemmas.{none_may}
use Rattle.rm_workers.proofs.TurnLemmas.{sunk_on}
use Rattle.rm_workers.proofs.moves.go_down.Goals as goal

pub returns-in-Ok-clause-turn : goal.returns-in-Ok-clause-turn
returns-in-Ok-clause-turn g c =
    sunk_on g.D.Disk.view g.S.Since.began c.args.held.now.desk c.step.new.self.desk c.args.store.now c.requires.serving c.in-Ok.ensures.moves c.requires.rests c.requires.crashes.0 c.args.image c.requires.crashes.1

pub returns-in-Ok-clause-makes : goal.returns-in-Ok-clause-makes
returns-in-Ok-clause-makes g c = ((c.in-Ok.ensures.ready, c.requires.rests), c.in-Ok.ensures.moves.does)

pub returns-in-Ok-clause-cause : goal.returns-in-Ok-clause-cause
returns-in-Ok-clause-cause g c =
    let sunk = sunk_on g.D.Disk.view g.S.Since.began c.args.held.now.desk c.step.new.self.desk c.args.store.now c.requires.serving c.in-Ok.ensures.moves c.requires.rests c.requires.crashes.0 c.args.image c.requires.crashes.1 in
    c.in-Ok.ensures.moves.further.standing ∙ sunk.down

pub returns-in-Err-NotReady-clause-makes : goal.returns-in-Err-NotReady-clause-makes
returns-in-Err-NotReady-clause-makes g c = (ap (λ (h : HeldView). h.desk) c.in-Err-NotReady.ensures.err, none_may c.args.held.now.desk c.requires.hand (λ ready rests. true≢false (sym ready ∙ c.in-Err-NotReady.ensures.not_ready (ap (λ (e : Refused). Err e) c.in-Err-NotReady.field-0-is))))
