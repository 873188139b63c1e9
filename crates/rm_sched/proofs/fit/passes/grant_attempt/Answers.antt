use Rattle.std.proofs.Common.{ap, ◌∙◌}
use Rattle.rm_types.specs.Passes.{by_priority}
use Rattle.rm_book.specs.AskTables.{attempt_asks}
use Rattle.rm_sched.specs.fit.Conditions.{is_some_size}
use Rattle.rm_sched.specs.fit.Turns.{asks_by}
use Rattle.rm_book.proofs.LineOrders.{all_by_priority}
use Rattle.rm_sched.proofs.fit.Fitting.{found_asks, found_sizes}
use Rattle.rm_sched.proofs.fit.Passing.{turn_within}
use Rattle.rm_sched.proofs.fit.passes.grant_attempt.Goals as goal

pub grant_turn-requires-clause-sizes : goal.grant_turn-requires-clause-sizes
grant_turn-requires-clause-sizes c = rw c.as_slice.ensures (found_sizes (attempt_asks c.args.asks.now c.args.turn.attempt) _ c.in-Some.ensures ∙ c.requires.sizes)

pub returns-in-Some-clause-grants : goal.returns-in-Some-clause-grants
returns-in-Some-clause-grants c =
    let same = ap asks_by c.as_slice.ensures ∙ found_asks (attempt_asks c.args.asks.now c.args.turn.attempt) _ c.in-Some.ensures in
    rw same at c.grant_turn.ensures.grants

pub returns-in-Some-clause-left : goal.returns-in-Some-clause-left
returns-in-Some-clause-left c =
    let same = ap asks_by c.as_slice.ensures ∙ found_asks (attempt_asks c.args.asks.now c.args.turn.attempt) _ c.in-Some.ensures in
    rw same at c.grant_turn.ensures.left

pub returns-in-Some-clause-few : goal.returns-in-Some-clause-few
returns-in-Some-clause-few c =
    let same = ap asks_by c.as_slice.ensures ∙ found_asks (attempt_asks c.args.asks.now c.args.turn.attempt) _ c.in-Some.ensures in
    turn_within c.grant_turn.result _ c.args.left c.args.turn.next_seq (by_priority (attempt_asks c.args.asks.now c.args.turn.attempt)) c.args.grants.now c.grant_turn.new.grants
    (all_by_priority (λ ask. is_some_size ask.size) (attempt_asks c.args.asks.now c.args.turn.attempt) ∙ c.requires.sizes)
    (rw same at c.grant_turn.ensures.grants) (rw same at c.grant_turn.ensures.left)
