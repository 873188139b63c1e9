-- The first message of the sender is the one at its cursor, and there is none where that is at the end.
use Rattle.std.proofs.Common.{◌≤◌, length, sym, arith}
use Rattle.std.proofs.lemmas.Option.{slice_get_past}
use Rattle.rm_desk.specs.Left.{cursor_of}
use Rattle.rm_desk.proofs.Firsts.{first_left}
use Rattle.rm_desk.proofs.feed.Feed.first.Goals as goal

pub returns-then-place-len : goal.returns-then-place-len
returns-then-place-len c =
    let at = first_left c.args.sender c.self.inside.cursors c.self.inside.messages c.self.invariant in
    let here = rw c.of-place.ensures at c.at.ensures in
    rw (← c.self.view_is, at) (sym here)

pub returns-else-place-len : goal.returns-else-place-len
returns-else-place-len c =
    let at = first_left c.args.sender c.self.inside.cursors c.self.inside.messages c.self.invariant in
    let past : length c.self.inside.messages ≤ cursor_of c.self.inside.cursors c.args.sender = omega arith in
    rw (← c.self.view_is, at) (sym (slice_get_past c.self.inside.messages (cursor_of c.self.inside.cursors c.args.sender) past))
