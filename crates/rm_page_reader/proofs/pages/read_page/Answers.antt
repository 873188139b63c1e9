use Rattle.rm_page_reader.proofs.Paging.{soak_refused, log_refused}
use Rattle.rm_page_reader.proofs.pages.read_page.Goals as goal

pub returns-then-is_soak-clause-not_a_page : goal.returns-then-is_soak-clause-not_a_page
returns-then-is_soak-clause-not_a_page c = λ line e. soak_refused c.read_soak.result c.args.bytes.now line e c.read_soak.ensures.only (c.is_soak.ensures.soak c.if-is_soak.true)

pub returns-else-is_soak-clause-not_a_page : goal.returns-else-is_soak-clause-not_a_page
returns-else-is_soak-clause-not_a_page c = λ line e. log_refused c.read_log.result c.args.bytes.now line e c.read_log.ensures.only (c.is_soak.ensures.none c.if-is_soak.false)
