-- What the first event of a queue needs, by whether it makes a pass.
use Rattle.std.proofs.Common.{◌≡◌, ℕ, List, [], ◌∷◌, true, Some, slice_get, refl, ◌∙◌, ap}
use Rattle.std.proofs.lemmas.Bool.{false≢true}
use Rattle.rm_tables.specs.declared.events.SchedEvent.{SchedEvent}
use Rattle.rm_tables.specs.declared.events.SchedEvent.TheVariants.{AppAdded, AttemptRecovered, AttemptAdded, AttemptRemoved, Release, NodeAdded, NodeDone, NodeUpdate, NodeLost}
use Rattle.rm_conditions.specs.Events.{makes_pass}

-- an event that makes a pass is a beat's
update_of : (event : SchedEvent) → makes_pass event ≡ true → (name : List ℕ) × (event ≡ NodeUpdate name)
update_of (AppAdded id) e = absurd (false≢true e)
update_of (AttemptRecovered id) e = absurd (false≢true e)
update_of (AttemptAdded id) e = absurd (false≢true e)
update_of (AttemptRemoved id) e = absurd (false≢true e)
update_of (Release attempt list) e = absurd (false≢true e)
update_of (NodeAdded node turn) e = absurd (false≢true e)
update_of (NodeDone node list) e = absurd (false≢true e)
update_of (NodeUpdate node) e = (node, refl)
update_of (NodeLost node) e = absurd (false≢true e)

-- a queue whose first event makes a pass
pub first_update : (queue : List SchedEvent) (event : SchedEvent) → Some event ≡ slice_get queue 0 → makes_pass event ≡ true → (name : List ℕ) × (rest : List SchedEvent) × (queue ≡ NodeUpdate name ∷ rest)
first_update [] event is e = cc
first_update (one ∷ rest) event is e =
    let update = update_of event e in
    let same : one ≡ NodeUpdate update.0 = let first : one ≡ event = cc in first ∙ update.1 in
    (update.0, rest, ap (λ (x : SchedEvent). x ∷ rest) same)
