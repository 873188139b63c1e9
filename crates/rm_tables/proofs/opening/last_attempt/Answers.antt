use Rattle.std.proofs.Common.{sym, ◌∙◌}
use Rattle.rm_types.proofs.EndLemmas.{last_is}
use Rattle.rm_tables.proofs.opening.last_attempt.Goals as goal

pub returns : goal.returns
returns c =
    let value = rw c.as_slice.ensures at c.last.ensures.value in
    value ∙ sym (last_is c.args.app.now.attempts)
