-- A message of the sender is left where its cursor is below the length.
use Rattle.std.proofs.Common.{refl}
use Rattle.rm_desk.specs.Left.{cursor_of}
use Rattle.rm_desk.proofs.Firsts.{first_left, some_within}
use Rattle.rm_desk.proofs.feed.Feed.has.Goals as goal

pub returns : goal.returns
returns c =
    let at = first_left c.args.sender c.self.inside.cursors c.self.inside.messages c.self.invariant in
    let some = some_within c.self.inside.messages (cursor_of c.self.inside.cursors c.args.sender) in
    rw (← c.self.view_is, at, some, c.of.ensures, c.len.ensures) refl
