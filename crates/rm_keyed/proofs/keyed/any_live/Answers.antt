use Rattle.std.proofs.Common.{refl, sym, ap, ◌∙◌}
use Rattle.std.specs.List.{list_any}
use Rattle.std.specs.Map.{keys_of}
use Rattle.rm_keyed.specs.Slots.{live}
use Rattle.rm_keyed.proofs.Slots.{no_value_here, passes_here, passes_later}
use Rattle.rm_keyed.proofs.keyed.any_live.Goals.{else-is_some-via-then-is_some+else-test, else-is_some-via-else-is_some}
use Rattle.rm_keyed.proofs.keyed.any_live.Goals as goal

pub returns-then-test : goal.returns-then-test
returns-then-test g c = λ p says.
    let passes = sym (says c.in-Some.key.now c.test.result (record { shown = c.in-Some.key; shows = refl; says = record { met = c.test.ensures } })) ∙ c.if-test.true in
    sym (c.slots.invariant p says ∙ ap (λ slots. list_any p (keys_of (live slots))) c.in-Some.ensures.steps
    ∙ passes_here p c.in-Some.key.now c.in-Some.slot.now c.next.new.self (sym c.is_some.ensures ∙ c.if-is_some.true) passes)

pub slots-preserved : goal.slots-preserved
slots-preserved g c = λ p says.
    let so_far = c.slots.invariant p says ∙ ap (λ slots. list_any p (keys_of (live slots))) c.in-Some.ensures.steps in
    elim c.else-is_some.branch [
      | else-is_some-via-then-is_some+else-test w ↦
          let fails = sym (says c.in-Some.key.now w.test.result (record { shown = c.in-Some.key; shows = refl; says = record { met = w.test.ensures } })) ∙ w.if-test.false in
          so_far ∙ passes_later p c.in-Some.key.now c.in-Some.slot.now c.next.new.self fails
      | else-is_some-via-else-is_some w ↦ so_far ∙ no_value_here p c.in-Some.key.now c.in-Some.slot.now c.next.new.self (sym c.is_some.ensures ∙ w.if-is_some.false)
    ]
