-- The first operation that awaits was handed.
use Rattle.rm_workers.proofs.EffectLemmas.{handed_makes}
use Rattle.rm_workers.proofs.TurnLemmas.{handed_on}
use Rattle.rm_workers.proofs.moves.turn.Goals as goal

pub write_next-requires : goal.write_next-requires
write_next-requires g c = record { serving = handed_on g.D.Disk.view g.S.Since.began c.args.held.now.desk c.step.new.self.desk c.args.store.now c.requires.serving c.in-Ok.ensures.moves }

pub returns-in-Ok-clause-makes : goal.returns-in-Ok-clause-makes
returns-in-Ok-clause-makes g c =
    handed_makes c.write_next.result c.args.held.now.desk c.write_next.new.held.desk c.write_next.ensures.handed
    (rw c.write_next.ensures.same (c.in-Ok.ensures.ready, c.in-Ok.ensures.moves.does))
