use Rattle.rm_book.proofs.Common.{sym, ap, ◌∙◌}
use Rattle.rm_book.specs.Kept.{nodes_shown}
use Rattle.rm_book.proofs.Loads.{shown_offer}
use Rattle.rm_book.proofs.node_table.NodeTable.set.Goals as goal

pub returns-in-Some-clause-shown : goal.returns-in-Some-clause-shown
returns-in-Some-clause-shown c =
    let value = rw c.in-Some.is at c.get_mut.ensures.value in
    ap nodes_shown (c.get_mut.follows.holds (record { capability = c.args.capability; used = c.raise_load.new.load.used })).0
    ∙ shown_offer c.args.node c.args.self.now.map.entries c.in-Some.load.now (record { capability = c.args.capability; used = c.raise_load.new.load.used }) (sym value)
