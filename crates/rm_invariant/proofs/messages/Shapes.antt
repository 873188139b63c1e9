-- What each event of the main queue may change: the row of one application, by a change, or none; the scheduler's queue, by one event more or
-- none; neither what is recorded nor the judge's book.
use Rattle.rm_invariant.proofs.Common.{◌≡◌, ◌⊎◌, inl, inr, List, [], ◌∷◌, ◌++◌, Option, Some, refl, Entry, AppId, RowChange, AppRow, Tables, next_in, with_row, SchedEvent, changed, after, LifeState, Manager, Row, History, live_state}
use Rattle.std.proofs.Common.{option_map}
use Rattle.rm_tables.specs.declared.changes.AttemptChange.TheVariants as of_attempt
use Rattle.rm_tables.specs.declared.changes.RowChange.TheVariants as of_app
use Rattle.rm_tables.specs.declared.events.SchedEvent.TheVariants as scheds
use Rattle.rm_invariant.specs.events.Outcomes.{Outcome, accepts, adds, delays, ends, ends_one, follows, issues, kills, loses, requeues, saves}

-- the judge's book, where a life stands
abbrev pub book_of : Manager → Option (List Row)
book_of s = option_map (λ (life : LifeState). life.book) s.life

-- rows of which none changed, or one did
abbrev pub RowsBy : List (AppId × Option AppRow) → List (AppId × Option AppRow) → Type 0
RowsBy rows next = (next ≡ rows) ⊎ ((id : AppId) × (change : RowChange) × (next ≡ with_row (changed change) id rows))

-- a queue with no event more, or one
abbrev pub QueueBy : List SchedEvent → List SchedEvent → Type 0
QueueBy sched next = (next ≡ sched) ⊎ ((e : SchedEvent) × (next ≡ sched ++ e ∷ []))

-- what an event of the main queue did
pub record Shape (h : History) (t : Tables) (done : Entry × Tables) : Type 0 where
  pub rows : RowsBy t.rows done.1.rows
  pub sched : QueueBy t.sched done.1.sched
  pub tree : done.1.tree ≡ t.tree
  pub book : book_of (after (live_state h t) done.0) ≡ Some h.book

-- of each thing that an event of the main queue may come to
pub main_shape : (h : History) (t : Tables) (done : Entry × Tables) → Outcome t done → Shape h t done
main_shape h t done (saves id row submission rest found waits front) = record { rows = inr (id, of_app.Issue, refl); sched = inl refl; tree = refl; book = refl }
main_shape h t done (adds id row behind found state at_front) = record { rows = inl refl; sched = inr (scheds.AppAdded id, refl); tree = refl; book = refl }
main_shape h t done (accepts id row found state) = record { rows = inr (id, of_app.Schedule 1, refl); sched = inr (scheds.AttemptAdded (record { app = id; number = 1 }), refl); tree = refl; book = refl }
main_shape h t done (ends id row how text found stopped said) = record { rows = inr (id, of_app.End, refl); sched = inl refl; tree = refl; book = refl }
main_shape h t done (kills id row current is number alive goes) = record { rows = inr (id.app, of_app.Kill, refl); sched = inl refl; tree = refl; book = refl }
main_shape h t done (delays id row current is waits goes) = record { rows = inr (id, of_app.Kill, refl); sched = inl refl; tree = refl; book = refl }
main_shape h t done (issues container node row current is state number mine on) = record { rows = inr (container.attempt.app, of_app.OfAttempt of_attempt.Issue, refl); sched = inl refl; tree = refl; book = refl }
main_shape h t done (requeues container row current behind is state number mine on at_front) = record { rows = inr (container.attempt.app, of_app.OfAttempt of_attempt.Requeue, refl); sched = inr (scheds.AttemptAdded container.attempt, refl); tree = refl; book = refl }
main_shape h t done (ends_one id row current how text is number alive said) = record { rows = inr (id.app, of_app.OfAttempt (of_attempt.End how), refl); sched = inl refl; tree = refl; book = refl }
main_shape h t done (loses container row current is state number mine) = record { rows = inr (container.attempt.app, of_app.OfAttempt of_attempt.Lose, refl); sched = inl refl; tree = refl; book = refl }
main_shape h t done (follows id row current is goes state none) = record { rows = inr (id, of_app.Schedule (next_in t id).number, refl); sched = inr (scheds.AttemptAdded (next_in t id), refl); tree = refl; book = refl }
main_shape h t done _ = record { rows = inl refl; sched = inl refl; tree = refl; book = refl }
