-- The cursor of the sender moves from its first message to the next, or stays at the end.
use Rattle.std.proofs.Common.{◌<◌, ◌≤◌, length, sym, arith}
use Rattle.rm_desk.specs.Left.{cursor_of}
use Rattle.rm_desk.proofs.Takes.{taken, points_next, none_to_take}
use Rattle.rm_desk.proofs.feed.Feed.take.Goals as goal

pub invariant_of-self : goal.invariant_of-self
invariant_of-self c =
    let within : cursor_of c.self.inside.cursors c.args.sender < length c.self.inside.messages = omega arith in
    let to = rw c.of-place.ensures at c.next_of-next.ensures in
    rw c.set.ensures (points_next c.args.sender c.next_of-next.result c.self.inside.cursors c.self.inside.messages c.self.invariant within to)

pub returns-then-place-len : goal.returns-then-place-len
returns-then-place-len c =
    let within : cursor_of c.self.inside.cursors c.args.sender < length c.self.inside.messages = omega arith in
    let to = rw c.of-place.ensures at c.next_of-next.ensures in
    let old = c.self.view_is in
    rw (← old, c.set.ensures) (taken c.args.sender c.next_of-next.result c.self.inside.cursors c.self.inside.messages c.self.invariant within to)

pub returns-else-place-len : goal.returns-else-place-len
returns-else-place-len c =
    let past : length c.self.inside.messages ≤ cursor_of c.self.inside.cursors c.args.sender = omega arith in
    let old = c.self.view_is in
    rw (← old) (sym (none_to_take c.args.sender c.self.inside.cursors c.self.inside.messages c.self.invariant past))
