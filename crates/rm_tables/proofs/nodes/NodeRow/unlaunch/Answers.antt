use Rattle.std.proofs.Common.{not, refl, rules}
use Rattle.std.proofs.lemmas.Fn.{filter_same}
use Rattle.rm_types.specs.Ids.{is_container}
use Rattle.rm_tables.proofs.nodes.NodeRow.unlaunch.Goals as goal

pub returns : goal.returns
returns c = rw (filter_same _ (λ one. not (is_container one c.args.container)) _ (λ x b q t. search rules) _ _ c.retain.ensures) refl
