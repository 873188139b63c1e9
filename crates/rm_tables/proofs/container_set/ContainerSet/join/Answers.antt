use Rattle.std.proofs.Common.{take, ap, ◌∙◌}
use Rattle.rm_tables.proofs.ContainerSets.{joined_front}
use Rattle.rm_tables.proofs.container_set.ContainerSet.join.Goals as goal

pub returns-clause-err : goal.returns-clause-err
returns-clause-err c =
    c.truncate.ensures.keys
    ∙ ap (take c.len-before.result) c.join_each.ensures.keys
    ∙ rw c.len-before.ensures.len (joined_front c.self.inside.set.keys (take c.join_each.result c.args.ids.now))
    ∙ c.self.view_is
