use Rattle.rm_book.proofs.Common.{ap, ◌∙◌}
use Rattle.rm_book.specs.AskEntries.{entries_in}
use Rattle.rm_book.proofs.AskEntries.{gone, kept_removed}
use Rattle.rm_book.proofs.attempts.Attempts.clear.Goals as goal

pub invariant_of-self : goal.invariant_of-self
invariant_of-self c =
    kept_removed c.args.attempt c.self.inside.lines c.remove.new.self c.self.inside.waiting.keys c.swap_remove.new.self.keys c.self.invariant c.remove.ensures.rest c.swap_remove.ensures.updates.0

pub returns : goal.returns
returns c = rw (← c.self.view_is) (ap entries_in c.remove.ensures.rest ∙ gone c.args.attempt c.self.inside.lines c.remove.ensures.unique)
