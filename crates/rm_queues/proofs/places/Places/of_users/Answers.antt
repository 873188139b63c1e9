use Rattle.rm_queues.proofs.Adding.{AreFirstPlaces-more}
use Rattle.rm_queues.proofs.places.Places.of_users.Goals as goal

pub loop-place-preserved : goal.loop-place-preserved
loop-place-preserved c =
    AreFirstPlaces-more (λ one. one.user) c.args.groups.now c.loop-place.place c.index-groups-place.result c.bytes.result.now c.loop-place.places c.add.new.self c.loop-place-test.true c.index-groups-place.is c.bytes.ensures c.loop-place.invariant c.in_ok-add.ensures
