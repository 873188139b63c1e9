use Rattle.std.proofs.Common.{◌∙◌}
use Rattle.indexmap.proofs.CallerLemmas.{insert_entry-new}
use Rattle.rm_types.specs.Ids.{is_app}
use Rattle.rm_sched.proofs.closing_lists.ClosingLists.add.Goals as goal

pub returns : goal.returns
returns c =
    let none = rw (← c.self.view_is) at c.requires in
    rw (← c.self.view_is) (c.in_ok-insert.ensures.entries ∙ insert_entry-new is_app c.self.inside.map c.args.id c.args.list none)
