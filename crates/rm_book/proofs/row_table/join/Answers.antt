use Rattle.rm_book.proofs.Common.{sym, ◌∙◌, bytes_eq, same_text}
use Rattle.rm_book.proofs.GroupSteps.{at_err}
use Rattle.rm_book.proofs.Kept.{added_undone, none_under}
use Rattle.rm_book.proofs.row_table.join.Goals as goal

pub returns-then-is_err-clause-same_nodes : goal.returns-then-is_err-clause-same_nodes
returns-then-is_err-clause-same_nodes c =
    let nodes = c.args.nodes.now.map.entries in
    added_undone bytes_eq (bytes_eq c.args.node.now) c.args.id nodes c.add.new.self.map.entries c.remove.new.self.map.entries
    (none_under bytes_eq same_text c.args.node.now c.args.id nodes c.requires.new_on) c.in_ok-add.ensures.ok c.remove.ensures

pub returns-then-is_err-clause-same_apps : goal.returns-then-is_err-clause-same_apps
returns-then-is_err-clause-same_apps c = at_err c.add-2.result (sym c.is_err.ensures.value ∙ c.if-is_err.true) c.add-2.ensures.err
