use Rattle.std.proofs.Common.{◌≡◌, ◌+◌, drop}
use Rattle.rm_desk.specs.Left.{steps_to}
use Rattle.rm_desk.proofs.cursors.next_of.Given as goal

abbrev pub invariant-messages : goal.invariant-messages
invariant-messages l = l.place + steps_to l.sender (drop l.place l.messages) ≡ l.start + steps_to l.sender (drop l.start l.messages)
