-- The store still serves the life, through what others added, and its worker's turn is one move, or none.
use Rattle.std.proofs.Common.{◌∙◌}
use Rattle.rm_types.specs.declared.messages.Lane.TheVariants.{Hand}
use Rattle.rm_baton.specs.Views.{view}
use Rattle.rm_workers.specs.Turns.{lane_of_turn}
use Rattle.rm_workers.specs.Work.{Serving}
use Rattle.rm_workers.proofs.PassLemmas.{puts_any, still}
use Rattle.rm_workers.proofs.FactLemmas.{serving_lasts}
use Rattle.rm_workers.proofs.HoldLemmas.{told_by, told_one, turn_holds, turn_told}
use Rattle.rm_workers.proofs.holds.hold_turn.Goals as goal

pub turn-turn-requires : goal.turn-turn-requires
turn-turn-requires g c = record {
  serving = still (Serving g.D.Disk.view g.S.Since.began c.args.store.now) (serving_lasts g.D.Disk.view g.S.Since.began c.args.store.now) (view c.args.pass.now) c.in-Some.held c.requires.knows c.in-Some.ensures.meets;
}

pub give-requires-clause-may : goal.give-requires-clause-may
give-requires-clause-may g c =
    let turn = c.turn-turn.result in
    puts_any (Serving g.D.Disk.view g.S.Since.began c.args.store.now) (view c.args.pass.now) (view c.take.new.pass) c.in-Some.held c.turn-turn.new.held c.requires.knows c.in-Some.ensures.took c.in-Some.ensures.meets
    (told_one Hand (lane_of_turn turn) _ _ (turn_told turn c.in-Some.held.desk c.turn-turn.new.held.desk c.turn-turn.ensures.makes))

pub give-requires-clause-lane : goal.give-requires-clause-lane
give-requires-clause-lane g c =
    let turn = c.turn-turn.result in
    told_by Hand (lane_of_turn turn) _ _ (view c.args.pass.now) (view c.take.new.pass) c.in-Some.held _ c.of_store-notice.ensures.own (c.of_store-notice.ensures.lane ∙ c.lane.ensures) c.in-Some.ensures.took
    (turn_told turn c.in-Some.held.desk c.turn-turn.new.held.desk c.turn-turn.ensures.makes)

pub returns-clause-hold : goal.returns-clause-hold
returns-clause-hold g c =
    turn_holds c.turn-turn.result (view c.args.pass.now) (view c.take.new.pass) (view c.give.new.pass) c.in-Some.held c.turn-turn.new.held c.in-Some.ensures.took c.give.ensures.gave c.turn-turn.ensures.makes c.turn-turn.ensures.cause
