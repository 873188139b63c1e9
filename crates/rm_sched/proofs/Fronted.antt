-- The first event of a queue.
use Rattle.std.proofs.Common.{◌≡◌, List, [], ◌∷◌, Some, drop, slice_get, refl, sym, ◌∙◌}
use Rattle.rm_tables.specs.declared.events.SchedEvent.{SchedEvent}

-- a queue whose first event, once copied, is this one
pub front_is : (queue : List SchedEvent) (first event : SchedEvent) {copy : SchedEvent} → Some first ≡ slice_get queue 0 → copy ≡ first → copy ≡ event → queue ≡ event ∷ drop 1 queue
front_is [] first event e same is = cc
front_is (one ∷ queue) first event {copy = copy} e same is =
    let front : first ≡ one = cc in
    let own : one ≡ event = sym front ∙ sym same ∙ is in
    rw own refl
