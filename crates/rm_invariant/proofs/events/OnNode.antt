-- What a pass grants, grant by grant: each is for an ask of its turn, stands on the node of the pass and has the epoch of the life.
use Rattle.rm_invariant.proofs.Common.{◌≡◌, ℕ, zero, suc, ◌+◌, List, [], ◌∷◌, Bool, true, false, ◌&&◌, not, Option, None, Some, fold, map, refl, if◌then◌else◌, range_with_len, Ask, Grant, Turn, AttemptId, Resource, PassNode, by_priority, fitting, turn_grant, left_of, seq_after, with_granted, with_turn, attempt_asks, capability_of, sizes_on, NodeRow, Tables, is_ready_row, fitted_on, grants_on, still_waits, turns_in}
use Rattle.rm_invariant.specs.nodes.Book.{All}
use Rattle.rm_invariant.proofs.nodes.Entries.{AllOn}
use Rattle.rm_invariant.proofs.nodes.Holds.{all_append}

module _ (P : Grant → Type 0) (pass : PassNode) where
  -- what holds of each grant for these asks of a turn
  abbrev pub EachAsk : Turn → List Ask → Type 0
  EachAsk turn asks = All (λ ask. (seq : ℕ) → P (turn_grant pass turn ask.size seq)) asks

  run_each : (turn : Turn) (size : Resource) → ((seq : ℕ) → P (turn_grant pass turn size seq)) → (count seq : ℕ) → All P (map (turn_grant pass turn size) (range_with_len seq count))
  run_each turn size each zero seq = tt
  run_each turn size each (suc count) seq = (each seq, run_each turn size each count (seq + 1))

  asks_each : (turn : Turn) (asks : List Ask) → EachAsk turn asks → (grants : List Grant) → All P grants → All P (fold (with_granted pass turn) grants asks)
  asks_each turn [] each grants so_far = so_far
  asks_each turn (ask ∷ asks) each grants so_far =
      let count : ℕ = fitting ask.count ask.size (left_of pass grants) in
      let seq : ℕ = seq_after turn grants in
      asks_each turn asks each.1 (with_granted pass turn grants ask) (all_append P grants (map (turn_grant pass turn ask.size) (range_with_len seq count)) so_far (run_each turn ask.size each.0 count seq))

  -- holds of all that is granted
  pub turns_each : (asks : AttemptId → List Ask) (turns : List Turn) → All (λ turn. EachAsk turn (by_priority (asks turn.attempt))) turns → (grants : List Grant) → All P grants
      → All P (fold (with_turn pass asks) grants turns)
  turns_each asks [] each grants so_far = so_far
  turns_each asks (turn ∷ turns) each grants so_far =
      turns_each asks turns each.1 (with_turn pass asks grants turn) (asks_each turn (by_priority (asks turn.attempt)) each.0 grants so_far)

-- what holds of each of a list
pub all_each : {X : Type 0} (P : X → Type 0) → ((x : X) → P x) → (xs : List X) → All P xs
all_each P each [] = tt
all_each P each (x ∷ xs) = (each x, all_each P each xs)

module _ (t : Tables) (name : List ℕ) (row : NodeRow) where
  -- what a pass goes over
  abbrev pub pass_at : Resource → PassNode
  pass_at capability = record { node = name; capability = capability; sizes = sizes_on name t.book.rows; epoch = t.epoch }

  -- what holds of each grant that its turn may get holds of those that the tables make
  pub grants_each : (P : Grant → Type 0) → ((capability : Resource) → All (λ turn. EachAsk P (pass_at capability) turn (by_priority (attempt_asks t.asks turn.attempt))) (turns_in t)) → All P (grants_on name row t)
  grants_each P each = by (is_ready_row row.state && not (still_waits t)) (capability_of t.book name)
    where
      by : (b : Bool) (capability : Option Resource) → All P (if b then fitted_on name capability t else [])
      by true None = tt
      by true (Some capability) = turns_each P (pass_at capability) (attempt_asks t.asks) (turns_in t) (each capability) [] tt
      by false capability = tt

  -- and so what holds of any
  pub grants_any : (P : Grant → Type 0) → ((capability : Resource) (turn : Turn) (size : Resource) (seq : ℕ) → P (turn_grant (pass_at capability) turn size seq)) → All P (grants_on name row t)
  grants_any P each =
      grants_each P (λ capability. all_each (λ turn. EachAsk P (pass_at capability) turn (by_priority (attempt_asks t.asks turn.attempt)))
      (λ turn. all_each (λ ask. (seq : ℕ) → P (turn_grant (pass_at capability) turn ask.size seq)) (λ ask seq. each capability turn ask.size seq) (by_priority (attempt_asks t.asks turn.attempt))) (turns_in t))

  -- each is on the node
  pub all_on : AllOn name (grants_on name row t)
  all_on = on (grants_on name row t) (grants_any (λ grant. grant.node ≡ name) (λ capability turn size seq. refl))
    where
      on : (grants : List Grant) → All (λ grant. grant.node ≡ name) grants → AllOn name grants
      on [] each = tt
      on (grant ∷ grants) each = (each.0, on grants each.1)

  -- and has the life's epoch
  pub all_now : All (λ grant. grant.id.epoch ≡ t.epoch) (grants_on name row t)
  all_now = grants_any (λ grant. grant.id.epoch ≡ t.epoch) (λ capability turn size seq. refl)
