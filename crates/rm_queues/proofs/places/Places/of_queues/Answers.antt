use Rattle.rm_queues.proofs.Adding.{AreFirstPlaces-more}
use Rattle.rm_queues.proofs.places.Places.of_queues.Goals as goal

pub loop-place-preserved : goal.loop-place-preserved
loop-place-preserved c =
    AreFirstPlaces-more (λ queue. queue.name) c.args.queues.now c.loop-place.place c.index-queues-place.result c.bytes.result.now c.loop-place.places c.add.new.self c.loop-place-test.true c.index-queues-place.is c.bytes.ensures c.loop-place.invariant c.in_ok-add.ensures
