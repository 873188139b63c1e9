-- What was written is still with the store, through what others added.
use Rattle.std.proofs.Common.{◌∙◌}
use Rattle.rm_types.specs.declared.messages.Lane.TheVariants.{Hand}
use Rattle.rm_baton.specs.Views.{view}
use Rattle.rm_workers.specs.Holds.{MayTell, MovesOnce}
use Rattle.rm_workers.specs.Turns.{ToldFact, lane_of_told}
use Rattle.rm_workers.specs.Work.{Wrote}
use Rattle.rm_workers.proofs.PassLemmas.{knows_put, puts_any, still}
use Rattle.rm_workers.proofs.FactLemmas.{wrote_lasts}
use Rattle.rm_workers.proofs.HoldLemmas.{holds, learns_once, learns_told, told_by, told_one}
use Rattle.rm_workers.proofs.holds.hold_kept.Goals as goal

pub keep-told-requires : goal.keep-told-requires
keep-told-requires g c = record {
  wrote = still (Wrote g.D.Disk.view g.S.Since.began c.args.store.now c.args.op.now) (wrote_lasts g.D.Disk.view g.S.Since.began c.args.store.now c.args.op.now) (view c.args.pass) c.wait_for-pass.result.1 c.requires.knows c.wait_for-pass.ensures.meets;
}

pub give-requires-clause-may : goal.give-requires-clause-may
give-requires-clause-may g c =
    let told = c.keep-told.result in
    puts_any (Wrote g.D.Disk.view g.S.Since.began c.args.store.now c.args.op.now) (view c.args.pass) (view c.wait_for-pass.result.0) c.wait_for-pass.result.1 c.keep-told.new.held c.requires.knows c.wait_for-pass.ensures.took c.wait_for-pass.ensures.meets
    (told_one Hand (lane_of_told told) _ _ (learns_told told c.wait_for-pass.result.1 c.keep-told.new.held c.keep-told.ensures.learns))

pub give-requires-clause-lane : goal.give-requires-clause-lane
give-requires-clause-lane g c =
    let told = c.keep-told.result in
    told_by Hand (lane_of_told told) _ _ (view c.args.pass) (view c.wait_for-pass.result.0) c.wait_for-pass.result.1 _ c.of_store-notice.ensures.own (c.of_store-notice.ensures.lane ∙ c.lane.ensures) c.wait_for-pass.ensures.took
    (learns_told told c.wait_for-pass.result.1 c.keep-told.new.held c.keep-told.ensures.learns)

pub returns-clause-knows : goal.returns-clause-knows
returns-clause-knows g c =
    knows_put (Wrote g.D.Disk.view g.S.Since.began c.args.store.now c.args.op.now) (ToldFact g.D.Disk.view g.S.Since.began c.args.store.now (Wrote g.D.Disk.view g.S.Since.began c.args.store.now c.args.op.now) c.keep-told.result)
    (view c.args.pass) (view c.wait_for-pass.result.0) (view c.give.new.pass) c.wait_for-pass.result.1 c.keep-told.new.held c.requires.knows c.wait_for-pass.ensures.took c.give.ensures.gave c.keep-told.ensures.told

pub returns-clause-hold : goal.returns-clause-hold
returns-clause-hold g c =
    holds (MovesOnce MayTell) (view c.args.pass) (view c.wait_for-pass.result.0) (view c.give.new.pass) c.wait_for-pass.result.1 c.keep-told.new.held c.wait_for-pass.ensures.took c.give.ensures.gave
    (learns_once c.keep-told.result c.wait_for-pass.result.1 c.keep-told.new.held c.keep-told.ensures.learns)
