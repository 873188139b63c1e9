use Rattle.rm_page.proofs.ReadMessages.{messages_apart}
use Rattle.rm_page.proofs.ReadReplies.{replies_show}
use Rattle.rm_page.proofs.ReadOperations.{ops_apart}
use Rattle.rm_page.proofs.laws.texts_are_apart.Goals as goal

pub returns-clause-operations : goal.returns-clause-operations
returns-clause-operations c = ops_apart

pub returns-clause-messages : goal.returns-clause-messages
returns-clause-messages c = messages_apart

pub returns-clause-replies : goal.returns-clause-replies
returns-clause-replies c = replies_show
