use Rattle.std.proofs.Common.{ℕ, take, ap, ◌∙◌}
use Rattle.rm_tables.specs.Missing.{astray_released}
use Rattle.rm_master.proofs.Pended.{unpended}
use Rattle.rm_master.proofs.allocating.take_release.Goals as goal

pub returns-then-is_err-clause-err : goal.returns-then-is_err-clause-err
returns-then-is_err-clause-err c =
    unpended c.take_asks-taken.result c.args.t.now c.pend.new.t c.take_asks-taken.new.t (astray_released c.args.t.now c.args.attempt c.args.release.now) c.truncate.new.self c.in_ok-pend.ensures.ok
    c.take_asks-taken.ensures.err (c.truncate.ensures ∙ ap (λ (n : ℕ). take n c.take_asks-taken.new.t.pending) c.len-pended.ensures)
