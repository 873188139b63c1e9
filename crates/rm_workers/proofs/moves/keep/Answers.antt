-- The manager learned that the operation is kept, or found no memory for that.
use Rattle.std.proofs.Common.{◌∙◌, ap}
use Rattle.rm_workers.specs.Carried.{HeldView}
use Rattle.rm_workers.proofs.HoldLemmas.{effect_one}
use Rattle.rm_workers.proofs.TurnLemmas.{tried_halts, wrote_on}
use Rattle.rm_workers.proofs.moves.keep.Goals as goal

pub returns-in-Ok-clause-told : goal.returns-in-Ok-clause-told
returns-in-Ok-clause-told g c =
    wrote_on g.D.Disk.view g.S.Since.began c.args.held.now.desk c.kept.new.self.desk c.args.store.now c.args.op.now c.in-Ok.ensures.went.0 c.in-Ok.ensures.went.1 c.requires.wrote c.in-Ok.ensures.does c.in-Ok.ensures.kept

pub returns-in-Ok-clause-learns : goal.returns-in-Ok-clause-learns
returns-in-Ok-clause-learns g c = (c.in-Ok.ensures.ready, effect_one _ c.args.held.now.desk c.kept.new.self.desk c.in-Ok.ensures.does)

pub returns-in-Err-Memory-clause-told : goal.returns-in-Err-Memory-clause-told
returns-in-Err-Memory-clause-told g c = rw (c.stop.ensures.desk, c.in-Err-Memory.ensures.err) (tried_halts g.D.Disk.view g.S.Since.began c.args.store.now c.args.op.now c.args.held.now.desk.core.log c.requires.wrote.tried)

pub returns-in-Err-Memory-clause-learns : goal.returns-in-Err-Memory-clause-learns
returns-in-Err-Memory-clause-learns g c = (c.stop.ensures.desk ∙ ap (λ (h : HeldView). h.desk) c.in-Err-Memory.ensures.err, c.stop.ensures.halt)
