use Rattle.std.proofs.Common.{ℕ, take, refl, sym, ap, ◌∙◌}
use Rattle.rm_book.proofs.GroupSteps.{at_err}
use Rattle.rm_sched.proofs.Noted.{forgotten}
use Rattle.rm_sched.proofs.leaving.tell_all.Goals as goal

pub returns-then-is_err-clause-err : goal.returns-then-is_err-clause-err
returns-then-is_err-clause-err c =
    forgotten c.args.t.now c.note_departing.new.t c.args.ids.now c.truncate.new.self c.note_departing.new.t.book c.push_all.new.self c.in_ok-noted.ensures.ok
    (c.truncate.ensures ∙ ap (λ (n : ℕ). take n c.note_departing.new.t.departed) c.in_ok-noted.ensures.before)
    refl (at_err c.push_all.result (sym c.is_err.ensures.value ∙ c.if-is_err.true) c.push_all.ensures.err)
