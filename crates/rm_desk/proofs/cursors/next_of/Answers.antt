-- Where the message is of the sender, none stands before it; where it isn't, one more is passed.
use Rattle.std.proofs.Common.{◌≡◌, ◌+◌, drop, sym, ◌∙◌, arith}
use Rattle.rm_desk.specs.Left.{steps_to}
use Rattle.rm_desk.proofs.Firsts.{steps_here, steps_on}
use Rattle.rm_desk.proofs.Takes.{drop_got}
use Rattle.rm_desk.proofs.cursors.next_of.Goals as goal

pub returns-then-is_of : goal.returns-then-is_of
returns-then-is_of c =
    let split = drop_got c.args.messages.now c.messages.place c.at.result.now c.at.ensures in
    let here = steps_here c.args.sender c.at.result.now (drop (c.messages.place + 1) c.args.messages.now) (sym c.is_of.ensures ∙ c.if-is_of.true) in
    let none : steps_to c.args.sender (drop c.messages.place c.args.messages.now) ≡ 0 = rw split here in
    omega (arith, none, c.messages.invariant)

pub messages-preserved : goal.messages-preserved
messages-preserved c =
    let split = drop_got c.args.messages.now c.messages.place c.at.result.now c.at.ensures in
    let on = steps_on c.args.sender c.at.result.now (drop (c.messages.place + 1) c.args.messages.now) (sym c.is_of.ensures ∙ c.if-is_of.false) in
    let more : steps_to c.args.sender (drop c.messages.place c.args.messages.now) ≡ steps_to c.args.sender (drop (c.messages.place + 1) c.args.messages.now) + 1 = rw split on in
    omega (arith, more, c.messages.invariant)
