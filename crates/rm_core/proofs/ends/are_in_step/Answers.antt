use Rattle.std.proofs.Common.{◌≡◌, ℕ, ◌+◌, ◌-◌, get_or, rules, subst, arith}
use Rattle.rm_core.specs.declared.ends.EndNumbers.{EndNumbers}
use Rattle.rm_core.specs.Ends.{IsUp}
use Rattle.rm_core.proofs.EndOrder.{step_of_up, up_of_step}
use Rattle.rm_core.proofs.ends.are_in_step.Goals as goal

pub returns-then-not-is_up : goal.returns-then-not-is_up
returns-then-not-is_up c = (
  λ no. cc,
  λ step.
      let ends = c.args.ends.now in
      let none : EndNumbers = record { one = 0; other = 0 } in
      let at_ : (c.ends.place - 1) + 1 ≡ c.ends.place = omega arith in
      let up : IsUp (get_or ends (c.ends.place - 1) none) (get_or ends ((c.ends.place - 1) + 1) none) = up_of_step ends step c.requires (c.ends.place - 1) none (omega arith) in
      let is = c.is_up.ensures.1 (subst (λ (n : ℕ). IsUp (get_or ends (c.ends.place - 1) none) (get_or ends n none)) at_ up) in
      let no = c.if-not-is_up.true in cc,
)

pub returns : goal.returns
returns c = (λ yes_. step_of_up c.args.ends.now (λ k d under. c.ends.invariant k d (omega (arith, under, c.ends-test.false))), λ step. search rules)
