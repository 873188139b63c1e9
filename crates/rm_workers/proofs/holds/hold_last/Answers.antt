-- What the store's worker knew when it ended is still so.
use Rattle.std.proofs.Common.{inl, refl}
use Rattle.rm_types.specs.declared.messages.Lane.TheVariants.{Hand}
use Rattle.rm_baton.specs.Views.{view}
use Rattle.rm_workers.specs.Turns.{EndFact}
use Rattle.rm_workers.proofs.PassLemmas.{knows_put, puts_any, still}
use Rattle.rm_workers.proofs.FactLemmas.{end_lasts}
use Rattle.rm_workers.proofs.HoldLemmas.{none_told, told_by}
use Rattle.rm_workers.proofs.holds.hold_last.Goals as goal

pub returns-then-is_over-clause-ended : goal.returns-then-is_over-clause-ended
returns-then-is_over-clause-ended g c =
    still (EndFact g.D.Disk.view g.S.Since.began c.args.store.now c.args.end) (end_lasts g.D.Disk.view g.S.Since.began c.args.store.now c.args.end) (view c.holds.mine) c.wait_for-next.result.1 c.holds.invariant.1
    c.wait_for-next.ensures.meets

pub give-requires-clause-may : goal.give-requires-clause-may
give-requires-clause-may g c =
    puts_any (EndFact g.D.Disk.view g.S.Since.began c.args.store.now c.args.end) (view c.holds.mine) (view c.wait_for-next.result.0) c.wait_for-next.result.1 c.wait_for-next.result.1 c.holds.invariant.1 c.wait_for-next.ensures.took
    c.wait_for-next.ensures.meets (inl refl)

pub give-requires-clause-lane : goal.give-requires-clause-lane
give-requires-clause-lane g c =
    told_by Hand Hand _ _ (view c.holds.mine) (view c.wait_for-next.result.0) c.wait_for-next.result.1 _ c.of_store-notice.ensures.own c.of_store-notice.ensures.lane c.wait_for-next.ensures.took
    (none_told Hand c.wait_for-next.result.1.desk c.wait_for-next.result.1.desk refl)

pub holds-preserved : goal.holds-preserved
holds-preserved g c = (
  c.give.ensures.of,
  knows_put (EndFact g.D.Disk.view g.S.Since.began c.args.store.now c.args.end) (EndFact g.D.Disk.view g.S.Since.began c.args.store.now c.args.end) (view c.holds.mine) (view c.wait_for-next.result.0) (view c.give.new.pass)
      c.wait_for-next.result.1 c.wait_for-next.result.1 c.holds.invariant.1 c.wait_for-next.ensures.took c.give.ensures.gave
      (still (EndFact g.D.Disk.view g.S.Since.began c.args.store.now c.args.end) (end_lasts g.D.Disk.view g.S.Since.began c.args.store.now c.args.end) (view c.holds.mine) c.wait_for-next.result.1 c.holds.invariant.1
      c.wait_for-next.ensures.meets),
)
