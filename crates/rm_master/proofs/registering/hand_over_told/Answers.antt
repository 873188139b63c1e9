use Rattle.rm_master.proofs.HandedOver.{none_kept}
use Rattle.rm_master.proofs.registering.hand_over_told.Goals as goal

pub returns-in_default : goal.returns-in_default
returns-in_default c = none_kept c.args.reply.now c.args.book.now c.in_default.not-Took
