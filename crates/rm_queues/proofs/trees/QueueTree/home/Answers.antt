use Rattle.std.proofs.Common.{unwrap_or, ap, ◌∙◌}
use Rattle.rm_types.specs.Rights.{path_of}
use Rattle.rm_queues.proofs.FirstPlaces.{first_in-first_place}
use Rattle.rm_queues.proofs.Homes.{home_within, home_name}
use Rattle.rm_queues.proofs.trees.QueueTree.home.Goals as goal

pub at-requires : goal.at-requires
at-requires c =
    let place = c.unwrap_or-place.ensures ∙ ap (λ one. unwrap_or one 0) (c.nearest.ensures ∙ first_in-first_place c.self.inside.settings.queues c.self.inside.places (path_of c.args.queue.now) c.self.invariant.by_name) in
    home_within c.self.inside.settings c.args.queue.now c.unwrap_or-place.result c.self.invariant.rules place

pub returns : goal.returns
returns c =
    let tree = rw c.self.view_is at c.self.invariant in
    let at = rw c.self.view_is at c.at.ensures in
    let place = c.unwrap_or-place.ensures ∙ ap (λ one. unwrap_or one 0) (c.nearest.ensures ∙ first_in-first_place c.args.self.now.queues c.self.inside.places (path_of c.args.queue.now) tree.by_name) in
    c.bytes.ensures ∙ home_name c.args.self.now c.args.queue.now c.unwrap_or-place.result c.at.result.now tree.rules place at
