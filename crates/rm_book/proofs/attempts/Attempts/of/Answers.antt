use Rattle.rm_book.proofs.Common.{[], sym, ap, ◌∙◌, unwrap_or}
use Rattle.rm_book.proofs.AskEntries.{lines_are}
use Rattle.rm_book.proofs.attempts.Attempts.of.Goals as goal

pub returns : goal.returns
returns c = rw (← c.self.view_is) (ap (λ found. unwrap_or found []) c.get.ensures.value ∙ sym (lines_are c.args.attempt c.self.inside.lines))
