use Rattle.std.proofs.Common.{ℕ, take, sym, ap, ◌∙◌}
use Rattle.rm_book.proofs.GroupSteps.{at_err}
use Rattle.rm_sched.proofs.Noted.{forgotten}
use Rattle.rm_sched.proofs.absorbing.take_in.Goals as goal

pub returns-then-is_err-clause-err : goal.returns-then-is_err-clause-err
returns-then-is_err-clause-err c =
    let same = at_err c.absorb-done.result (sym c.is_err.ensures.value ∙ c.if-is_err.true) c.absorb-done.ensures.err in
    forgotten c.args.t.now c.note_departing.new.t c.args.ended.now c.truncate.new.self c.absorb-done.new.self c.absorb-done.new.queue c.in_ok-noted.ensures.ok
    (c.truncate.ensures ∙ ap (λ (n : ℕ). take n c.note_departing.new.t.departed) c.in_ok-noted.ensures.before)
    same.0 same.1
