use Rattle.std.proofs.Common.{◌≡◌, rules, tests, ◌∙◌}
use Rattle.std.specs.List.{filter_map}
use Rattle.std.proofs.lemmas.Iterator.{items_from_collect, YieldsList-from_slice}
use Rattle.std.proofs.lemmas.Iterator.Consumers.{YieldsList-from_filter_map}
use Rattle.std.proofs.lemmas.Result.{IfOk-at_ok}
use Rattle.rm_keyed.specs.Slots.{key_at}
use Rattle.rm_keyed.proofs.keyed.keys_at.Goals as goal

pub returns : goal.returns
returns g c =
    c.from_vec.ensures
    ∙ IfOk-at_ok (λ w. w.items ≡ filter_map (key_at c.args.slots.now.entries) c.args.places.now) c.in_ok-keys.was
    (items_from_collect _ c.collect.ensures.ran
    (YieldsList-from_filter_map _ (key_at c.args.slots.now.entries) (YieldsList-from_slice c.args.places.now cc) c.filter_map.ensures.closure (λ x r q k. search (rules, tests))))
