-- The operation that the desk tells of is with the store.
use Rattle.rm_workers.proofs.TurnLemmas.{owing_by}
use Rattle.rm_workers.proofs.moves.write_next.Goals as goal

pub returns-in-Ok-clause-turn : goal.returns-in-Ok-clause-turn
returns-in-Ok-clause-turn g c =
    owing_by g.D.Disk.view g.S.Since.began c.args.held.now.desk c.desk-desk.result.now c.args.store.now c.in-Some.op.now c.in-Ok.op c.desk-desk.ensures.desk c.in-Ok.ensures c.desk-desk.ensures.went c.requires.serving c.law.ensures.tells
    c.in-Some.ensures.unblown c.in-Some.ensures.next c.in-Some.ensures.handed
