use Rattle.rm_page.proofs.ReadEntries.{lines_show}
use Rattle.rm_page.proofs.ReadPages.{pages_show, moves_show}
use Rattle.rm_page.proofs.laws.lines_tell_entries.Goals as goal

pub returns-clause-lines : goal.returns-clause-lines
returns-clause-lines c = lines_show

pub returns-clause-pages : goal.returns-clause-pages
returns-clause-pages c = pages_show

pub returns-clause-moves : goal.returns-clause-moves
returns-clause-moves c = moves_show
