use Rattle.rm_book.proofs.Common.{sym, ap, ◌∙◌, option_map}
use Rattle.rm_book.proofs.Loads.{capability_shown}
use Rattle.rm_book.proofs.book.Book.capability_of.Goals as goal

pub returns-in_err-get : goal.returns-in_err-get
returns-in_err-get c =
    let value = rw c.in_err-get.was at c.get.ensures in
    rw (c.from_residual.ensures, ← c.self.view_is) (sym (capability_shown c.args.node.now c.self.inside.nodes.map.entries ∙ ap (option_map (λ load. load.capability)) (sym value)))

pub returns : goal.returns
returns c =
    let value = rw c.in_ok-get.was at c.get.ensures in
    rw (← c.self.view_is) (sym (capability_shown c.args.node.now c.self.inside.nodes.map.entries ∙ ap (option_map (λ load. load.capability)) (sym value)))
