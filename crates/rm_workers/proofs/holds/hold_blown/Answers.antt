-- What was refused is still with the store, through what others added.
use Rattle.std.proofs.Common.{◌∙◌}
use Rattle.rm_types.specs.declared.messages.Lane.TheVariants.{Hand}
use Rattle.rm_baton.specs.Views.{view}
use Rattle.rm_workers.specs.Holds.{MayTell, MovesOnce}
use Rattle.rm_workers.specs.Turns.{ToldFact, lane_of_told}
use Rattle.rm_workers.specs.Work.{Refused}
use Rattle.rm_workers.proofs.PassLemmas.{knows_put, puts_any, still}
use Rattle.rm_workers.proofs.FactLemmas.{refused_lasts}
use Rattle.rm_workers.proofs.HoldLemmas.{holds, learns_once, learns_told, told_by, told_one}
use Rattle.rm_workers.proofs.holds.hold_blown.Goals as goal

pub blow-told-requires : goal.blow-told-requires
blow-told-requires g c = record {
  refused = still (Refused g.D.Disk.view g.S.Since.began c.args.store.now c.args.passed) (refused_lasts g.D.Disk.view g.S.Since.began c.args.store.now c.args.passed) (view c.args.pass) c.wait_for-pass.result.1 c.requires.knows c.wait_for-pass.ensures.meets;
}

pub give-requires-clause-may : goal.give-requires-clause-may
give-requires-clause-may g c =
    let told = c.blow-told.result in
    puts_any (Refused g.D.Disk.view g.S.Since.began c.args.store.now c.args.passed) (view c.args.pass) (view c.wait_for-pass.result.0) c.wait_for-pass.result.1 c.blow-told.new.held c.requires.knows c.wait_for-pass.ensures.took c.wait_for-pass.ensures.meets
    (told_one Hand (lane_of_told told) _ _ (learns_told told c.wait_for-pass.result.1 c.blow-told.new.held c.blow-told.ensures.learns))

pub give-requires-clause-lane : goal.give-requires-clause-lane
give-requires-clause-lane g c =
    let told = c.blow-told.result in
    told_by Hand (lane_of_told told) _ _ (view c.args.pass) (view c.wait_for-pass.result.0) c.wait_for-pass.result.1 _ c.of_store-notice.ensures.own (c.of_store-notice.ensures.lane ∙ c.lane.ensures) c.wait_for-pass.ensures.took
    (learns_told told c.wait_for-pass.result.1 c.blow-told.new.held c.blow-told.ensures.learns)

pub returns-clause-knows : goal.returns-clause-knows
returns-clause-knows g c =
    knows_put (Refused g.D.Disk.view g.S.Since.began c.args.store.now c.args.passed) (ToldFact g.D.Disk.view g.S.Since.began c.args.store.now (Refused g.D.Disk.view g.S.Since.began c.args.store.now c.args.passed) c.blow-told.result)
    (view c.args.pass) (view c.wait_for-pass.result.0) (view c.give.new.pass) c.wait_for-pass.result.1 c.blow-told.new.held c.requires.knows c.wait_for-pass.ensures.took c.give.ensures.gave c.blow-told.ensures.told

pub returns-clause-hold : goal.returns-clause-hold
returns-clause-hold g c =
    holds (MovesOnce MayTell) (view c.args.pass) (view c.wait_for-pass.result.0) (view c.give.new.pass) c.wait_for-pass.result.1 c.blow-told.new.held c.wait_for-pass.ensures.took c.give.ensures.gave
    (learns_once c.blow-told.result c.wait_for-pass.result.1 c.blow-told.new.held c.blow-told.ensures.learns)
