use Rattle.std.proofs.Common.{ℕ, ◌+◌, not, ap, ◌∙◌}
use Rattle.std.specs.List.{list_all}
use Rattle.rm_sched.specs.fit.Conditions.{is_past}
use Rattle.rm_conditions.proofs.Looking.{none_later}
use Rattle.rm_conditions.proofs.passes.is_new_to.Goals as goal

pub returns : goal.returns
returns c =
    ap not c.has_later.ensures ∙ none_later c.args.attempt c.args.t.now.epoch c.granted_to.result c.args.t.now.book.rows
    ∙ ap (λ (granted : ℕ). list_all (is_past c.args.t.now.epoch (record { attempt = c.args.attempt; next_seq = granted + 1 })) c.args.t.now.book.rows) c.granted_to.ensures
