use Rattle.std.proofs.Common.{subst}
use Rattle.std.specs.Option.{option_copied}
use Rattle.rm_page_reader.specs.Answers.{AreLetters}
use Rattle.rm_page_reader.proofs.Paging.{fits_letters}
use Rattle.rm_page_reader.proofs.pages.logged.Goals as goal

pub returns-in-Err-clause-want : goal.returns-in-Err-clause-want
returns-in-Err-clause-want c = λ log moves all e.
    let read = c.in_ok-lines.ensures.heard log moves all e in
    let found = subst (λ letters. AreLetters (option_copied letters) log moves) c.in-Some.is read.1 in
    rw (c.at.ensures, c.in-Err.ensures.only (fits_letters log c.in_ok-lines.lines.heard c.in-Some.letters.now all read.0.moves found.1)) tt
