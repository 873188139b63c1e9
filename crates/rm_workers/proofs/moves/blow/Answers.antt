-- The manager learned that the fuse refused the operation, or found no memory for that.
use Rattle.std.proofs.Common.{◌∙◌, ap}
use Rattle.rm_workers.specs.Carried.{HeldView}
use Rattle.rm_workers.proofs.HoldLemmas.{effect_one}
use Rattle.rm_workers.proofs.TurnLemmas.{refused_closes, refused_on, tried_halts}
use Rattle.rm_workers.proofs.moves.blow.Goals as goal

pub blown-requires : goal.blown-requires
blown-requires g c = record { closes = refused_closes g.D.Disk.view g.S.Since.began c.args.store.now c.args.passed c.args.held.now.desk.core.log c.requires.refused }

pub returns-in-Ok-clause-told : goal.returns-in-Ok-clause-told
returns-in-Ok-clause-told g c =
    refused_on g.D.Disk.view g.S.Since.began c.args.held.now.desk c.blown.new.self.desk c.args.store.now c.args.passed c.in-Ok.ensures.went.0 c.in-Ok.ensures.went.1 c.requires.refused c.in-Ok.ensures.does

pub returns-in-Ok-clause-learns : goal.returns-in-Ok-clause-learns
returns-in-Ok-clause-learns g c = (c.in-Ok.ensures.ready, effect_one _ c.args.held.now.desk c.blown.new.self.desk c.in-Ok.ensures.does)

pub returns-in-Err-Memory-clause-told : goal.returns-in-Err-Memory-clause-told
returns-in-Err-Memory-clause-told g c =
    rw (c.stop.ensures.desk, c.in-Err-Memory.ensures.err) (tried_halts g.D.Disk.view g.S.Since.began c.args.store.now c.requires.refused.op c.args.held.now.desk.core.log c.requires.refused.tried)

pub returns-in-Err-Memory-clause-learns : goal.returns-in-Err-Memory-clause-learns
returns-in-Err-Memory-clause-learns g c = (c.stop.ensures.desk ∙ ap (λ (h : HeldView). h.desk) c.in-Err-Memory.ensures.err, c.stop.ensures.halt)
