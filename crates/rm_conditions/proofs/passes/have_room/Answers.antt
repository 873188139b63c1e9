use Rattle.std.proofs.Common.{◌≡◌, ◌+◌, suc, sym, ◌∙◌, arith}
use Rattle.rm_conditions.proofs.Looking.{more_few, one_more}
use Rattle.rm_conditions.proofs.passes.have_room.Goals as goal

pub returns-then-not-offers_few_at : goal.returns-then-not-offers_few_at
returns-then-not-offers_few_at c = one_more c.args.book.now c.args.book.now.nodes c.nodes.place (sym c.offers_few_at.ensures ∙ c.if-not-offers_few_at.true)

pub nodes-preserved : goal.nodes-preserved
nodes-preserved c =
    let next : c.nodes.place + 1 ≡ suc c.nodes.place = omega arith in
    rw next (more_few c.args.book.now c.args.book.now.nodes c.nodes.place c.nodes.invariant (sym c.offers_few_at.ensures ∙ c.if-not-offers_few_at.false))
