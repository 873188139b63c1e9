use Rattle.std.proofs.Common.{List, ap, ◌∙◌}
use Rattle.rm_types.specs.declared.ids.ContainerId.{ContainerId}
use Rattle.rm_model.specs.Facts.{has_container}
use Rattle.rm_tables.proofs.ContainerSets.{among_back}
use Rattle.rm_tables.proofs.container_set.ContainerSet.has.Goals as goal

pub returns : goal.returns
returns c = c.contains.ensures ∙ among_back c.self.inside.set.keys c.args.id ∙ ap (λ (set : List ContainerId). has_container set c.args.id) c.self.view_is
