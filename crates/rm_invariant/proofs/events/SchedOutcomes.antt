-- Each event of the scheduler's queue comes to one of the things that may happen.
use Rattle.rm_invariant.proofs.Common.{◌≡◌, ℕ, List, [], ◌∷◌, Bool, true, false, ◌&&◌, Option, None, Some, filter, inl, inr, refl, sym, ◌∙◌, ap, Cause, AttemptId, ContainerId, AttemptState, SchedEvent, NodeRow, AppRow, Current, Tables, absorbed_by, absorbed_if, ended_by, is_waiting_row, node_row, updated_by, row_of, is_on, is_released, once, queued_at, queued_by, queued_with, sched_step}
use Rattle.std.proofs.Common.{◌==◌}
use Rattle.rm_types.specs.declared.containers.Cause.TheVariants as causes
use Rattle.rm_book.specs.Books.{book_row as book_row_of}
use Rattle.rm_states.specs.declared.attempt.states.AttemptState.TheVariants as attempts
use Rattle.rm_tables.specs.declared.events.SchedEvent.TheVariants as scheds
use Rattle.rm_invariant.specs.events.SchedOutcomes.{HasNothingToDo, NoneEnds, SchedOutcome, leaving_by}
use Rattle.rm_invariant.specs.events.SchedOutcomes as outcomes
use Rattle.rm_tables.specs.SchedEvents.{ends_as_done}

-- which containers end
abbrev pub ids_in : Option (Cause × List ContainerId) → List ContainerId
ids_in None = []
ids_in (Some ending) = ending.1

module _ (t : Tables) (list : List ContainerId) where
  -- containers end, if there are any
  ended : (e : SchedEvent) (cause : Cause) (ids : List ContainerId) → leaving_by e list t ≡ Some (cause, ids) → (NoneEnds e list t → HasNothingToDo e list t) → SchedOutcome t list e (ended_by cause ids t)
  ended e cause [] is nothing = outcomes.idles e (nothing (λ one more other. sym (ap ids_in other) ∙ ap ids_in is))
  ended e cause (id ∷ ids) is nothing = outcomes.ends e cause id ids is

  -- AttemptAdded
  queued : (id : AttemptId) (o : Option AppRow) → row_of t.rows id.app ≡ o → SchedOutcome t list (scheds.AttemptAdded id) (queued_by o id t)
  queued id None found = outcomes.idles (scheds.AttemptAdded id) (λ row there. cc)
  queued id (Some row) found = with_current row.current refl
    where
      nothing : (o : Option Current) → row.current ≡ o → outcomes.IsNotScheduled id.number o → HasNothingToDo (scheds.AttemptAdded id) list t
      nothing o is not one there = let same : row ≡ one = cc in rw (← same) (rw is not)

      at_state : (current : Current) → row.current ≡ Some current → (s : AttemptState) → current.state ≡ s → (b : Bool) → (current.number == id.number) ≡ b → SchedOutcome t list (scheds.AttemptAdded id) (queued_at s b id t)
      at_state current is attempts.Scheduled s true n = outcomes.asks id row current (record { found = found; is = is }) s n
      at_state current is attempts.Scheduled s false n = outcomes.idles (scheds.AttemptAdded id) (nothing (Some current) is (inr n))
      at_state current is _ s b n = outcomes.idles (scheds.AttemptAdded id) (nothing (Some current) is (inl (λ u. cc)))

      with_current : (o : Option Current) → row.current ≡ o → SchedOutcome t list (scheds.AttemptAdded id) (queued_with o id t)
      with_current None is = outcomes.idles (scheds.AttemptAdded id) (nothing None is tt)
      with_current (Some current) is = at_state current is current.state refl (current.number == id.number) refl

  -- NodeAdded
  absorbed : (name : List ℕ) (turn : ℕ) (o : Option NodeRow) → node_row t.nodes name ≡ o → SchedOutcome t list (scheds.NodeAdded name turn) (absorbed_by o name turn list t)
  absorbed name turn None found = outcomes.idles (scheds.NodeAdded name turn) (λ cause ids e. cc)
  absorbed name turn (Some row) found = by (is_waiting_row row.state && (row.turn == turn)) refl
    where
      by : (b : Bool) → (is_waiting_row row.state && (row.turn == turn)) ≡ b → SchedOutcome t list (scheds.NodeAdded name turn) (absorbed_if b name row list t)
      by true waits = outcomes.absorbs name turn row found waits
      by false waits = outcomes.idles (scheds.NodeAdded name turn) (λ cause ids e. cc)

  -- NodeUpdate
  updated : (name : List ℕ) (o : Option NodeRow) → node_row t.nodes name ≡ o → SchedOutcome t list (scheds.NodeUpdate name) (updated_by o name t)
  updated name None found = outcomes.idles (scheds.NodeUpdate name) (λ cause ids e. cc)
  updated name (Some row) found = outcomes.grants name row found

  -- each event
  pub sched_outcome : (e : SchedEvent) → SchedOutcome t list e (sched_step e list t)
  sched_outcome (scheds.AppAdded id) = outcomes.posts id
  sched_outcome (scheds.AttemptRecovered id) = outcomes.idles (scheds.AttemptRecovered id) (λ cause ids e. cc)
  sched_outcome (scheds.AttemptAdded id) = queued id (row_of t.rows id.app) refl
  sched_outcome (scheds.AttemptRemoved id) = ended (scheds.AttemptRemoved id) causes.Attempt list refl (λ none. none)
  sched_outcome (scheds.Release attempt released) = let all : List ContainerId = once (filter (is_released attempt t) released) in ended (scheds.Release attempt released) causes.Released all refl (λ none. none)
  sched_outcome (scheds.NodeAdded node turn) = absorbed node turn (node_row t.nodes node) refl
  sched_outcome (scheds.NodeDone node done) = let all : List ContainerId = once (filter (ends_as_done node t) done) in ended (scheds.NodeDone node done) causes.Done all refl (λ none. none)
  sched_outcome (scheds.NodeUpdate node) = updated node (node_row t.nodes node) refl
  sched_outcome (scheds.NodeLost node) = ended (scheds.NodeLost node) causes.Node list refl (λ none. none)
