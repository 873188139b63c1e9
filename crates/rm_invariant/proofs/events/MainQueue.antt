-- Each event of the main queue but EpochStart, as a whole step that keeps all that holds of an open life.
use Rattle.rm_invariant.proofs.Common.{◌≡◌, List, [], ◌∷◌, ◌++◌, None, Some, sym, ◌∙◌, ap, Entry, refl, Settings, MainEvent, Tables, main_worked, main_step, History, Quiet, drop, abstract_life, AttemptId, Accepted, row_of, AppRow, killed_text, next_in, Issued, main_popped}
use Rattle.std.proofs.Common.{◌≢◌}
use Rattle.rm_tables.specs.declared.events.MainEvent.TheVariants as mains
use Rattle.rm_invariant.specs.events.MainFacts.{MainFacts}
use Rattle.rm_invariant.specs.Core.{CoreInvariant, PreservesCore}
use Rattle.rm_types.specs.declared.messages.Lane.TheVariants as lanes
use Rattle.rm_types.specs.declared.operations.How.TheVariants as ways
use Rattle.rm_types.specs.declared.operations.Op.TheVariants as ops
use Rattle.rm_tables.specs.declared.changes.AttemptChange.TheVariants as of_attempt
use Rattle.rm_tables.specs.declared.changes.RowChange.TheVariants as of_app
use Rattle.rm_tables.specs.declared.events.SchedEvent.TheVariants as scheds
use Rattle.rm_invariant.specs.apps.View.{view}
use Rattle.rm_invariant.specs.events.MainFacts.{UnissuedSilent}
use Rattle.rm_invariant.specs.events.Outcomes.{Outcome, accepts, adds, delays, ends, ends_one, follows, idles, issues, kills, loses, orders, removes, requeues, saves}
use Rattle.rm_invariant.specs.masters.Preserves.{PreservesContainersTo}
use Rattle.rm_invariant.proofs.events.Outcomes.{main_outcome}
use Rattle.rm_invariant.proofs.events.AppMoves.{later, none_submitted, retired_joins, same_row, start_joins}
use Rattle.rm_invariant.proofs.events.MasterMoves.{requeued_whole}
use Rattle.rm_invariant.proofs.events.Ordering.{ordered_whole}
use Rattle.rm_invariant.proofs.events.Leaving.{queues_agree}
use Rattle.rm_invariant.proofs.events.Moving.{changed_whole, ends_whole, issued_whole, posted_still, quiet_whole, same_whole, scheduled_whole}
use Rattle.rm_invariant.proofs.masters.Agreeing.{finishing_agrees}
use Rattle.rm_invariant.proofs.masters.AppEvents.{accepted_joins, done_joins, kill_joins, saved_joins}
use Rattle.rm_invariant.proofs.masters.Expired.{expired_joins, finished_joins}
use Rattle.rm_invariant.proofs.masters.Granted.{granted_joins}
use Rattle.rm_invariant.proofs.masters.Launched.{launched_joins}
use Rattle.rm_invariant.proofs.masters.Lost.{lost_joins}

module _ (settings : Settings) (h : History) (t : Tables) (w : CoreInvariant settings h t) (silent : UnissuedSilent t) where
  -- what an event comes to, where the applications and masters allow it
  comes_whole : (done : Entry × Tables) → Outcome t done → PreservesContainersTo settings h t (main_worked done) → PreservesCore settings h t (main_worked done)
  comes_whole done idles joins = quiet_whole settings h t w joins
  comes_whole done (saves id row submission rest found waits front) joins = issued_whole settings h t w (ops.App id submission) id of_app.Issue refl refl joins
  comes_whole done (adds id row rest found state front) joins =
      same_whole settings h t w (Quiet lanes.Main) (record t { main = drop 1 t.main; sched = t.sched ++ scheds.AppAdded id ∷ [] }) h.asks h.apps refl refl joins refl refl
      (queues_agree (abstract_life h t) t (drop 1 t.main) (t.sched ++ scheds.AppAdded id ∷ []) w.agrees) (λ q. posted_still q t.sched (scheds.AppAdded id) refl)
  comes_whole done (accepts id row found state) joins =
      let zero : AttemptId = record { app = id; number = 0 } in
      let alone : row.current ≡ None = none_submitted settings zero row (view h t zero) state (rw found at (w.keeps.all zero)) in
      scheduled_whole settings h t w (Accepted id) (record { app = id; number = 1 }) (h.apps.accepted ++ id ∷ []) refl refl refl
      (λ one current there is. absurd (let same = same_row (row_of t.rows id) one row there found in let x : None ≡ Some current = sym alone ∙ ap (λ (r : AppRow). r.current) (sym same) ∙ is in cc)) joins
  comes_whole done (ends id row how text found stopped said) joins = ends_whole settings h t w id how text joins
  comes_whole done (kills id row current is number alive goes) joins = issued_whole settings h t w (ops.AttemptEnd id ways.Killed killed_text) id.app of_app.Kill refl refl joins
  comes_whole done (delays id row current is waits goes) joins = changed_whole settings h t w id of_app.Kill refl joins
  comes_whole done (issues container node row current is state number mine on) joins =
      issued_whole settings h t w (ops.Attempt container.attempt container node) container.attempt.app (of_app.OfAttempt of_attempt.Issue) refl refl joins
  comes_whole done (requeues container row current rest is state number mine gone front) joins = requeued_whole settings h t w silent container row is.found current is.is state joins
  comes_whole done (orders id container node row current is number alive master on) joins = ordered_whole settings h t w container node on joins
  comes_whole done (ends_one id row current how text is number alive said) joins = issued_whole settings h t w (ops.AttemptEnd id how text) id.app (of_app.OfAttempt (of_attempt.End how)) refl refl joins
  comes_whole done (loses container row current is state number mine) joins = changed_whole settings h t w container.attempt.app (of_app.OfAttempt of_attempt.Lose) refl joins
  comes_whole done (follows id row current is active state none) joins =
      scheduled_whole settings h t w (Quiet lanes.Main) (next_in t id) h.apps.accepted refl refl refl
      (λ one other there here.
      let same : one ≡ row = same_row (row_of t.rows id) one row there is.found in
      let x : Some other ≡ Some current = sym here ∙ ap (λ (r : AppRow). r.current) same ∙ is.is in
      let y : other ≡ current = cc in
      rw y (later settings h t w (record { app = id; number = current.number }) row is.found current is.is active state)) joins
  comes_whole done (removes id more first many) joins =
      same_whole settings h t w (Issued (ops.Remove id)) (main_popped (record t { ended = more; awaiting = t.awaiting ++ ops.Remove id ∷ []; main = t.main ++ mains.Retire ∷ [] })) h.asks h.apps refl refl joins refl refl
      (record { rows = w.agrees.rows; nodes = w.agrees.nodes; asks = w.agrees.asks; closings = w.agrees.closings; masters = w.agrees.masters }) (λ q. refl)

-- the applications and masters allow each event
main_joins : (settings : Settings) (h : History) (t : Tables) → CoreInvariant settings h t → MainFacts settings h t → (e : MainEvent) (rest : List MainEvent) → t.main ≡ e ∷ rest → e ≢ mains.EpochStart
    → PreservesContainersTo settings h t (main_worked (main_step e t))
main_joins settings h t w facts mains.EpochStart rest front some = absurd (some refl)
main_joins settings h t w facts (mains.AppStart id) rest front some = start_joins settings h t w id rest front (λ row s found waits. facts.starts id rest row s front found waits)
main_joins settings h t w facts (mains.AppSaved id) rest front some = saved_joins settings h t w.keeps w.marks id rest front
main_joins settings h t w facts (mains.AppAccepted id) rest front some = accepted_joins settings h t w.keeps w.marks id rest front
main_joins settings h t w facts (mains.AppKill id) rest front some = kill_joins settings h t w.keeps w.marks id rest front
main_joins settings h t w facts (mains.MasterGranted container) rest front some = granted_joins settings h t w.keeps w.marks w.agrees.rows container rest front
main_joins settings h t w facts (mains.AttemptSaved id) rest front some = launched_joins settings h t w.keeps w.marks facts.apt w.agrees.rows id rest front
main_joins settings h t w facts (mains.MasterLost container) rest front some = lost_joins settings h t w.keeps w.marks container rest front
main_joins settings h t w facts (mains.AttemptExpired id) rest front some = expired_joins settings h t w.keeps w.marks id rest front
main_joins settings h t w facts (mains.AttemptFinish id) rest front some = finished_joins settings h t w.keeps w.marks id rest front (finishing_agrees h t id (w.agrees.masters id))
main_joins settings h t w facts (mains.AttemptDone id) rest front some = done_joins settings h t w.keeps w.marks facts.set id rest front
main_joins settings h t w facts mains.Retire rest front some = retired_joins settings h t w facts.set facts.completes rest front

-- an event of an open life that stands first in the main queue
pub main_whole : (settings : Settings) (h : History) (t : Tables) → CoreInvariant settings h t → MainFacts settings h t → (e : MainEvent) (rest : List MainEvent) → t.main ≡ e ∷ rest → e ≢ mains.EpochStart
    → PreservesCore settings h t (main_worked (main_step e t))
main_whole settings h t w facts e rest front some = comes_whole settings h t w facts.silent (main_step e t) (main_outcome t e rest front some) (main_joins settings h t w facts e rest front some)
