use Rattle.std.proofs.Common.{◌∙◌}
use Rattle.rm_disk.proofs.Renewed.{put_range}
use Rattle.rm_disk.proofs.memory.copy_range.Goals as goal

pub returns : goal.returns
returns c =
    c.put_bytes.ensures
    ∙ put_range c.args.first c.args.end c.args.from.now c.args.into.now.items c.requires.size c.requires.order c.requires.inside
