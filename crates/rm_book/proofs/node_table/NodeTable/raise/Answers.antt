use Rattle.rm_book.proofs.Common.{sym, ap, ◌∙◌}
use Rattle.rm_book.specs.Kept.{nodes_shown}
use Rattle.rm_book.proofs.Loads.{shown_set}
use Rattle.rm_book.proofs.node_table.NodeTable.raise.Goals as goal

pub returns-in-Some-clause-shown : goal.returns-in-Some-clause-shown
returns-in-Some-clause-shown c =
    let value = rw c.in-Some.is at c.get_mut.ensures.value in
    ap nodes_shown (c.get_mut.follows.holds c.raise_load.new.load).0
    ∙ shown_set c.args.node.now c.args.self.now.map.entries c.in-Some.load.now c.raise_load.new.load (sym value) (ap (λ load. load.capability) c.raise_load.ensures)
