use Rattle.std.proofs.Common.{◌≡◌, ◌+◌, ◌≤◌, suc, drop, sym, ◌∙◌, arith}
use Rattle.std.specs.Map.{values_of}
use Rattle.rm_keyed.specs.Slots.{live}
use Rattle.rm_keyed.proofs.Slots.{at_value, at_gap, next_place}
use Rattle.rm_keyed.proofs.keyed.nth_value.Goals.{in-Some+else-before-eq0, in_default}
use Rattle.rm_keyed.proofs.keyed.nth_value.Goals as goal

pub returns-then-before-eq0 : goal.returns-then-before-eq0
returns-then-before-eq0 g c =
    let value = rw c.in-Some.is at c.slot_at.ensures in
    let e = at_value c.args.slots.now.entries c.slots.index c.in-Some.value.now (sym value) in
    let i = rw (c.if-before-eq0.true, e) at c.slots.invariant in
    sym i

pub slots-preserved : goal.slots-preserved
slots-preserved g c =
    let n : c.slots.index + 1 ≡ suc c.slots.index = omega arith in
    elim c.match-slot_at.branch [
      | in-Some+else-before-eq0 w ↦
          let value = rw w.in-Some.is at c.slot_at.ensures in
          let e = at_value c.args.slots.now.entries c.slots.index w.in-Some.value.now (sym value) in
          let i = rw e at c.slots.invariant in
          let one : 1 ≤ c.slots.before = omega (arith, w.if-before-eq0.false) in
          rw (n, w.before-is) (i ∙ next_place w.in-Some.value.now (values_of (live (drop (suc c.slots.index) c.args.slots.now.entries))) c.slots.before one)
      | in_default w ↦
          let value = rw w.in_default.is at c.slot_at.ensures in
          let e = at_gap c.args.slots.now.entries c.slots.index (sym value) in
          let i = rw e at c.slots.invariant in
          rw (n, w.before-is) i
    ]
