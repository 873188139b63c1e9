use Rattle.std.proofs.Common.{◌≡◌, ◌+◌, ◌*◌, ◌%◌, ℕ, false, List, length, get_or, take, subst, sym, ◌∙◌, ap, arith}
use Rattle.std.proofs.lemmas.List.{take_all}
use Rattle.rm_disk.specs.declared.calls.Call.{Call}
use Rattle.rm_disk.specs.declared.calls.Call.TheVariants.{Write}
use Rattle.rm_disk.specs.Memory.{is_written, renewed}
use Rattle.rm_disk.proofs.Renewed.{length-renewed, renewed_same}
use Rattle.rm_disk.proofs.Written.{written_more, none_more, writes_none, fit_at}
use Rattle.rm_disk.proofs.memory.scribble_written.Goals as goal
use Rattle.rm_disk.proofs.memory.scribble_written.Goals.{in-Write, in_default}

pub calls-init : goal.calls-init
calls-init c = sym (renewed_same (λ _. false) (λ place. (167 * c.args.image + place) % 256) c.args.into.now.items (λ place _ never. absurd (cc never)))

pub scribble_range-requires-clause-inside : goal.scribble_range-requires-clause-inside
scribble_range-requires-clause-inside c =
    let byte : ℕ → ℕ = (λ place. (167 * c.args.image + place) % 256) in
    let old = c.args.into.now.items in
    let size : length c.calls.into.items ≡ length old = ap length c.calls.invariant ∙ length-renewed (is_written (take c.calls.call-index c.args.calls.now)) byte old in
    let fit = fit_at (length old) c.calls.call-index c.args.calls.now c.call-item.result c.in-Write.at c.in-Write.bytes c.requires c.calls-test.true c.call-item.is c.in-Write.is in
    omega (arith, fit, size, c.len.ensures)

pub calls-preserved : goal.calls-preserved
calls-preserved c =
    let byte : ℕ → ℕ = (λ place. (167 * c.args.image + place) % 256) in
    let old = c.args.into.now.items in
    elim c.match-call.branch [
      | in-Write w ↦
          let call = Write w.in-Write.at w.in-Write.bytes in
          let is : call ≡ get_or c.args.calls.now c.calls.call-index call = subst (λ (x : Call). x ≡ get_or c.args.calls.now c.calls.call-index x) w.in-Write.is c.call-item.is in
          rw (w.into-is, w.scribble_range.ensures, w.len.ensures, c.calls.invariant) (written_more c.args.calls.now c.calls.call-index call byte old c.calls-test.true is)
      | in_default w ↦
          rw (w.into-is, c.calls.invariant) (none_more c.args.calls.now c.calls.call-index c.call-item.result byte old c.calls-test.true c.call-item.is (writes_none c.call-item.result w.in_default.not-Write))
    ]

pub returns : goal.returns
returns c = c.calls.invariant ∙ ap (λ (l : List Call). renewed (is_written l) (λ place. (167 * c.args.image + place) % 256) c.args.into.now.items) (take_all c.calls.call-index c.args.calls.now (omega arith))
