use Rattle.rm_book.proofs.Common.{sym, ap, ◌∙◌, bytes_eq}
use Rattle.indexmap.proofs.CallerLemmas.{insert_entry-new}
use Rattle.rm_book.specs.declared.node_table.NodeLoad.{NodeLoad}
use Rattle.rm_book.specs.Kept.{nodes_shown}
use Rattle.rm_book.proofs.GroupSteps.{at_ok}
use Rattle.rm_book.proofs.Loads.{shown_enter}
use Rattle.rm_book.proofs.node_table.NodeTable.enter.Goals as goal

pub returns-clause-shown : goal.returns-clause-shown
returns-clause-shown c =
    let load : NodeLoad = record { capability = c.args.capability; used = record { memory_mb = c.from.result; vcores = c.from-2.result } } in
    ap nodes_shown (at_ok c.insert.result (sym c.is_err.ensures.value ∙ c.if-is_err.false) c.insert.ensures.entries
    ∙ insert_entry-new bytes_eq c.args.self.now.map c.args.node load c.requires.none)
    ∙ shown_enter c.args.node c.args.self.now.map.entries load c.requires.none
