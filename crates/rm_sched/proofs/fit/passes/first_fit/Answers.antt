use Rattle.std.proofs.Common.{◌≡◌, Option, Some, option_map, sym, ap, ◌∙◌}
use Rattle.std.proofs.lemmas.Option.{same_Some}
use Rattle.rm_types.specs.declared.resources.Resource.{Resource}
use Rattle.rm_types.specs.Resources.{difference_of}
use Rattle.rm_book.specs.AskTables.{attempt_asks}
use Rattle.rm_book.specs.Books.{sizes_on, total_on}
use Rattle.rm_sched.proofs.fit.Fitting.{pass_fits, pass_new, pass_on}
use Rattle.rm_sched.proofs.fit.Passing.{pass_grants, pass_end, pass_whole}
use Rattle.rm_sched.proofs.fit.passes.first_fit.Goals as goal

pub returns-clause-pass : goal.returns-clause-pass
returns-clause-pass c = λ capability known.
    let rest : Resource → Resource = λ r. difference_of r (total_on c.args.node.now c.args.book.now.rows) in
    let first : ◌≡◌ {A = Option Resource} (Some c.unwrap-left.result) (Some (rest capability)) = sym c.unwrap-left.ensures ∙ c.free_of.ensures ∙ ap (option_map rest) known in
    pass_end c.args.node.now c.args.epoch (attempt_asks c.args.asks.now) c.unwrap-left.result c.turns.left c.args.order.now c.turns.grants c.turns.turn-index
    (rw c.as_slice-turn-items.ensures at c.turns-test.false) c.turns.invariant.grants
    ∙ ap (λ (r : Resource). pass_grants c.args.node.now c.args.epoch (attempt_asks c.args.asks.now) r c.args.order.now) (same_Some c.unwrap-left.result (rest capability) first)
    ∙ sym (pass_whole (record { node = c.args.node.now; capability = capability; sizes = sizes_on c.args.node.now c.args.book.now.rows; epoch = c.args.epoch })
    (attempt_asks c.args.asks.now) c.args.order.now c.requires.attempts)

pub returns-clause-on : goal.returns-clause-on
returns-clause-on c =
    let whole = pass_end c.args.node.now c.args.epoch (attempt_asks c.args.asks.now) c.unwrap-left.result c.turns.left c.args.order.now c.turns.grants c.turns.turn-index
    (rw c.as_slice-turn-items.ensures at c.turns-test.false) c.turns.invariant.grants in
    rw whole (pass_on c.args.node.now c.args.epoch (attempt_asks c.args.asks.now) c.unwrap-left.result c.args.order.now)

pub returns-clause-new : goal.returns-clause-new
returns-clause-new c = λ past.
    let whole = pass_end c.args.node.now c.args.epoch (attempt_asks c.args.asks.now) c.unwrap-left.result c.turns.left c.args.order.now c.turns.grants c.turns.turn-index
    (rw c.as_slice-turn-items.ensures at c.turns-test.false) c.turns.invariant.grants in
    rw whole (pass_new c.args.book.now.rows c.args.node.now c.args.epoch (attempt_asks c.args.asks.now) c.unwrap-left.result c.args.order.now c.requires.attempts past)

pub returns-clause-fit : goal.returns-clause-fit
returns-clause-fit c =
    let whole = pass_end c.args.node.now c.args.epoch (attempt_asks c.args.asks.now) c.unwrap-left.result c.turns.left c.args.order.now c.turns.grants c.turns.turn-index
    (rw c.as_slice-turn-items.ensures at c.turns-test.false) c.turns.invariant.grants in
    rw (whole, sym c.free_of.ensures ∙ c.unwrap-left.ensures) (pass_fits c.args.node.now c.args.epoch (attempt_asks c.args.asks.now) c.unwrap-left.result c.args.order.now)
