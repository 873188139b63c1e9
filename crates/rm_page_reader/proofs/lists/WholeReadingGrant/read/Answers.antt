use Rattle.rm_page_reader.proofs.Joined.{grant_found, no_grant}
use Rattle.rm_page_reader.proofs.lists.WholeReadingGrant.read.Goals as goal

pub returns-in-Some : goal.returns-in-Some
returns-in-Some c = grant_found c.args.bytes.now c.in-Some.id.now c.in-Some.node.now c.grant.result c.in-Some.ensures.halves c.grant.ensures

pub returns-in-None : goal.returns-in-None
returns-in-None c = λ grant of. no_grant c.args.bytes.now (c.halves.ensures.none c.in-None.is) grant of
