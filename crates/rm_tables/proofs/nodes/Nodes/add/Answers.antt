use Rattle.std.proofs.Common.{◌∙◌}
use Rattle.std.specs.Str.{bytes_eq}
use Rattle.indexmap.proofs.CallerLemmas.{insert_entry-new}
use Rattle.rm_tables.proofs.nodes.Nodes.add.Goals as goal

pub returns-clause-ok : goal.returns-clause-ok
returns-clause-ok c =
    let none = rw (← c.self.view_is) at c.requires in
    rw (← c.self.view_is) (c.in_ok-insert.ensures.entries ∙ insert_entry-new bytes_eq c.self.inside.map c.args.name c.args.row none)
