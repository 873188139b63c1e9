use Rattle.rm_master.proofs.Acquired.{none_told}
use Rattle.rm_master.proofs.allocating.acquire_told.Goals as goal

pub returns-in_default : goal.returns-in_default
returns-in_default c = none_told c.args.attempt c.args.reply.now c.args.book.now c.in_default.not-Allocated
