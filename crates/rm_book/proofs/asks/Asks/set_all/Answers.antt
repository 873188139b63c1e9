use Rattle.rm_book.proofs.Common.{sym, ◌∙◌, ap, map, length, arith, AskLine}
use Rattle.rm_book.specs.AskLines.{asks_of_entry}
use Rattle.rm_book.proofs.ManyAsks.{after_leaves, all_view, are_few, are_many, count_after, few_enough, no_asks, some_asks_left}
use Rattle.rm_book.proofs.asks.Asks.set_all.Goals as goal

pub returns-then-is_empty-clause-few : goal.returns-then-is_empty-clause-few
returns-then-is_empty-clause-few c =
    let none = no_asks c.args.asks.now (sym c.if-is_empty.ensures) in
    let count = rw none at (count_after c.self.inside.asked c.args.attempt c.args.asks.now c.self.inside.attempts c.self.invariant) in
    rw (c.lines_of-lines.ensures, ← c.self.view_is, none, count) (few_enough _ c.args.most)

pub returns-then-len-most-clause-few : goal.returns-then-len-most-clause-few
returns-then-len-most-clause-few c =
    let after = rw c.lines_of-lines.ensures at c.in_ok-after.ensures in
    let long = ap (length {A = AskLine}) after ∙ count_after c.self.inside.asked c.args.attempt c.args.asks.now c.self.inside.attempts c.self.invariant in
    rw (← c.self.view_is) (are_many _ c.len.result c.args.most (omega (arith, long, c.len.ensures, c.in_ok-after.after.ok.0)) c.if-len-most.true)

pub returns-clause-few : goal.returns-clause-few
returns-clause-few c =
    let after = rw c.lines_of-lines.ensures at c.in_ok-after.ensures in
    let long = ap (length {A = AskLine}) after ∙ count_after c.self.inside.asked c.args.attempt c.args.asks.now c.self.inside.attempts c.self.invariant in
    rw (← c.self.view_is) (are_few _ c.len.result c.args.most (omega (arith, long, c.len.ensures, c.in_ok-after.after.ok.0)) c.if-len-most.false)

pub invariant_of-self-2 : goal.invariant_of-self-2
invariant_of-self-2 c =
    let after = rw c.lines_of-lines.ensures at c.in_ok-after.ensures in
    let set = rw (c.from_vec.ensures, after) at c.in_ok-put.ensures.ok in
    rw c.in-Some.ensures.1
    (after_leaves c.self.inside.asked c.self.inside.attempts c.put.new.self c.args.attempt c.args.asks.now set c.self.invariant).lawful

pub returns-clause-ok : goal.returns-clause-ok
returns-clause-ok c =
    let after = rw c.lines_of-lines.ensures at c.in_ok-after.ensures in
    let set = rw (c.from_vec.ensures, after) at c.in_ok-put.ensures.ok in
    rw (← c.self.view_is)
    (ap (map asks_of_entry) set ∙ all_view c.self.inside.asked c.args.attempt c.args.asks.now c.self.inside.attempts c.self.invariant (some_asks_left c.args.asks.now (sym c.if-is_empty.ensures)))
