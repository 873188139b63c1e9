use Rattle.rm_page_reader.proofs.Joined.{closing_found, no_closing}
use Rattle.rm_page_reader.proofs.lists.WholeReadingClosing.read.Goals as goal

pub returns-in-Some : goal.returns-in-Some
returns-in-Some c = closing_found c.args.bytes.now c.in-Some.id.now c.in-Some.why.now c.closing.result c.in-Some.ensures.halves c.closing.ensures

pub returns-in-None : goal.returns-in-None
returns-in-None c = λ closing of. no_closing c.args.bytes.now (c.halves.ensures.none c.in-None.is) closing of
