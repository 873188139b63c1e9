use Rattle.std.proofs.Common.{◌≡◌, rules, tests}
use Rattle.std.specs.Prelude.{position}
use Rattle.std.specs.List.{filter_map}
use Rattle.std.specs.Map.{keys_of}
use Rattle.std.proofs.lemmas.Iterator.{items_from_collect, YieldsList-from_slice}
use Rattle.std.proofs.lemmas.Iterator.Consumers.{YieldsList-from_filter_map}
use Rattle.std.proofs.lemmas.Result.{IfOk-at_ok}
use Rattle.rm_keyed.proofs.Places.{in_places}
use Rattle.rm_keyed.proofs.keyed.places_of.Goals as goal

pub returns : goal.returns
returns g c =
    let found =
    IfOk-at_ok (λ w. w.items ≡ filter_map (λ key. position (g.K.PartialEq.eq key) (keys_of c.args.slots.now.entries)) c.args.keys.now) c.in_ok-places.was
    (items_from_collect _ c.collect.ensures.ran
    (YieldsList-from_filter_map _ (λ key. position (g.K.PartialEq.eq key) (keys_of c.args.slots.now.entries)) (YieldsList-from_slice c.args.keys.now cc) c.filter_map.ensures.closure (λ x r q k. search (rules, tests)))) in
    in_places g.met.K.Eq.laws c.args.keys.now (keys_of c.args.slots.now.entries) _ _ _ c.requires found c.sort_unstable.ensures.permutation c.sort_unstable.ensures.sorted c.dedup.ensures.filtered
