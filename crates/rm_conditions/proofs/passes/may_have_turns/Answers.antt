use Rattle.std.proofs.Common.{◌≡◌, true, refl, sym, ◌∙◌, arith}
use Rattle.rm_model.specs.Attempts.{attempt_at}
use Rattle.rm_conditions.specs.Passes.{may_have_turn}
use Rattle.rm_conditions.proofs.Passable.{all_below, one_below}
use Rattle.rm_conditions.proofs.passes.may_have_turns.Goals as goal

pub records-preserved : goal.records-preserved
records-preserved c =
    let may : may_have_turn c.args.t.now (attempt_at c.at.result.now) ≡ true = sym c.may_be_next.ensures ∙ c.if-not-may_be_next.false in
    one_below c.args.t.now c.records.place c.at.result.now c.records.invariant c.at.ensures may

pub returns : goal.returns
returns c = (λ yes. all_below c.args.t.now c.records.place c.records.invariant (omega (arith, c.len-place-end.ensures.length, c.records-test.false)), λ all. refl)
