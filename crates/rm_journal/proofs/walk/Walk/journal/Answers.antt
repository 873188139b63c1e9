use Rattle.std.proofs.Common.{◌≡◌, false, ap, ◌∙◌}
use Rattle.rm_journal.specs.Walk.{WalkAt}
use Rattle.rm_journal.proofs.Walks.{walked_opened}
use Rattle.rm_journal.proofs.walk.Walk.journal.Goals as goal

pub returns : goal.returns
returns g c =
    let v = g.D.Disk.view c.args.disk.now in
    let k = c.args.self in
    let is : c.standing.result ≡ record { from = k.from; end = k.end; gate = k.gate; cursor = k.from; is_broken = false } =
    c.standing.ensures ∙ ap (λ (q : WalkAt). record { from = q.from; end = q.end; gate = q.gate; cursor = q.from; is_broken = false }) c.self.view_is in
    walked_opened v k c.standing.result c.requires.walking c.requires.done is
