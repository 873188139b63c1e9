use Rattle.rm_book.proofs.Common.{◌∙◌}
use Rattle.rm_book.proofs.attempts.Attempts.lines_of.Goals as goal

pub returns-in-Some : goal.returns-in-Some
returns-in-Some c = c.as_slice.ensures ∙ c.in-Some.ensures

pub returns-in-None : goal.returns-in-None
returns-in-None c = c.in-None.ensures
