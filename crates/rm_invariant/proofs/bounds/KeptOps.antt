-- Each operation that is kept keeps what is in its range, and so does the store's part of a life.
use Rattle.rm_invariant.proofs.Common.{◌≡◌, ◌-◌, ℕ, List, [], ◌∷◌, ◌++◌, Bool, true, false, Option, None, Some, drop, refl, sym, subst, arith, if◌then◌else◌, AppId, AttemptId, How, Op, AppRecord, AttemptRecord, IsAppId, IsOperation, last_attempt, AttemptState, AsksOf, without_asks_of, MainEvent, SchedEvent, AppRow, Current, Tables, changed, removed_at, removed_by, removed_of, kept, handed_out, opening_main, opening_sched, sched_by, sched_of, row_of, with_row, without_row, removed_if, ◌&&◌, not, found_in}
use Rattle.std.proofs.Common.{count_by, is_some}
use Rattle.rm_types.specs.declared.operations.Op.TheVariants as ops
use Rattle.rm_states.specs.declared.attempt.states.AttemptState.TheVariants as attempts
use Rattle.rm_tables.specs.declared.changes.AttemptChange.TheVariants as of_attempt
use Rattle.rm_tables.specs.declared.changes.RowChange.TheVariants as of_app
use Rattle.rm_tables.specs.declared.events.MainEvent.TheVariants as mains
use Rattle.rm_tables.specs.declared.events.SchedEvent.TheVariants as scheds
use Rattle.rm_tables.specs.KeptOps.{taken_up}
use Rattle.rm_invariant.proofs.apps.Counts.{count_append, none_among}
use Rattle.rm_invariant.specs.nodes.Book.{All}
use Rattle.rm_invariant.proofs.nodes.Holds.{all_append}
use Rattle.rm_invariant.specs.bounds.InBounds.{AreAsked, AreGrants, AreRows, InBounds, is_update}
use Rattle.rm_invariant.proofs.bounds.AskRanges.{asked_without}
use Rattle.rm_invariant.proofs.bounds.RowRanges.{NoMoreGranted, grants_changed, grants_gone, grants_less, rows_changed, rows_gone}
use Rattle.rm_invariant.proofs.bounds.TreeRanges.{records_after}
use Rattle.rm_model.specs.Facts.{keeps}

-- more events that make no pass
pub more_events : (rows now : List (AppId × Option AppRow)) (sched more : List SchedEvent) (served : ℕ) → count_by is_update more ≡ 0 → NoMoreGranted rows now → AreGrants rows sched served → AreGrants now (sched ++ more) served
more_events rows now sched more served none less are =
    let both = count_append is_update sched more in
    grants_less rows now sched (sched ++ more) served served less (omega (arith, both, none)) (omega arith) are

-- an AppEnd posts no pass, nor does a life that opens
none_removed : (o : Option AppRow) (keep : Bool) (id : AppId) → count_by is_update (removed_by o keep id) ≡ 0
none_removed None keep id = refl
none_removed (Some row) keep id = by row.current
  where
    if_so : (b : Bool) (one : AttemptId) → count_by is_update (removed_if b one) ≡ 0
    if_so true one = refl
    if_so false one = refl

    at : (s : AttemptState) (one : AttemptId) → count_by is_update (removed_at s keep one) ≡ 0
    at attempts.Ended one = if_so keep one
    at s one = grind arith

    by : (o : Option Current) → count_by is_update (removed_of o keep id) ≡ 0
    by None = refl
    by (Some current) = at current.state (record { app = id; number = current.number })

none_opens : (apps : List AppRecord) → count_by is_update (opening_sched apps) ≡ 0
none_opens apps = none_among sched_of is_update (λ one. by one.ending (last_attempt one.attempts) one.submission.keep one.id) apps
  where
    at : (b : Bool) (id : AttemptId) → count_by is_update (if b then [] else scheds.AttemptRecovered id ∷ []) ≡ 0
    at true id = refl
    at false id = refl

    by : (end : Option (How × List ℕ)) (last : Option AttemptRecord) (keep : Bool) (id : AppId) → count_by is_update (sched_by end last keep id) ≡ 0
    by (Some end) last keep id = refl
    by None None keep id = refl
    by None (Some last) keep id = at (is_some last.ending && not keep) (record { app = id; number = last.id.number })

module _ (t : Tables) (r : InBounds t) (op : Op) (rest : List Op) (front : t.awaiting ≡ op ∷ rest) where
  awaited : All IsOperation (op ∷ rest)
  awaited = subst (λ (l : List Op). All IsOperation l) front r.awaiting

  left : All IsOperation (drop 1 t.awaiting)
  left = subst (λ (l : List Op). All IsOperation (drop 1 l)) (sym front) awaited.1

  -- the tables after the operation is recorded, where these parts of them may have changed
  parts : (rows : List (AppId × Option AppRow)) (asks : List AsksOf) (ended : List AppId) (going : ℕ) (main : List MainEvent) (sched : List SchedEvent) → AreRows rows → AreGrants rows sched t.served → AreAsked asks
      → All IsAppId ended → InBounds (record (taken_up op t) { rows = rows; asks = asks; ended = ended; going = going; main = main; sched = sched })
  parts rows asks ended going main sched are grants asked ids =
      record {
        tree = records_after t.tree.apps t.tree.applied op awaited.0 r.tree;
        awaiting = left;
        ended = ids;
        rows = are;
        grants = grants;
        asks = asked;
        book = r.book;
        offers = r.offers;
        nodes = r.nodes;
        counts = record { epoch = r.counts.epoch; served = r.counts.served; given = r.counts.given; clock = r.counts.clock };
      }

  opened : InBounds (record (taken_up op t) { is_open = true; clock = 0; main = opening_main (taken_up op t).tree.apps; sched = opening_sched (taken_up op t).tree.apps })
  opened =
      record {
        tree = records_after t.tree.apps t.tree.applied op awaited.0 r.tree;
        awaiting = left;
        ended = r.ended;
        rows = r.rows;
        grants = record { each = λ q. let all = r.grants.each q in let none = none_opens (taken_up op t).tree.apps in omega (arith, all, none) };
        asks = r.asks;
        book = r.book;
        offers = r.offers;
        nodes = r.nodes;
        counts = record { epoch = r.counts.epoch; served = r.counts.served; given = r.counts.given; clock = omega arith };
      }

-- the operation that awaits first
pub first_awaiting : (t : Tables) → InBounds t → (op : Op) (rest : List Op) → t.awaiting ≡ op ∷ rest → IsOperation op
first_awaiting t r op rest front = (awaited t r op rest front).0

-- an operation that is kept
pub kept_ranged : (t : Tables) → InBounds t → (op : Op) (rest : List Op) → t.awaiting ≡ op ∷ rest → InBounds (kept op t)
kept_ranged t r (ops.Epoch next stamp) rest front = opened t r (ops.Epoch next stamp) rest front
kept_ranged t r (ops.App id submission) rest front =
    parts t r (ops.App id submission) rest front (with_row (changed of_app.Keep) id t.rows) t.asks t.ended t.going (t.main ++ mains.AppSaved id ∷ []) t.sched (rows_changed of_app.Keep id t.rows tt r.rows)
    (grants_less t.rows (with_row (changed of_app.Keep) id t.rows) t.sched t.sched t.served t.served (grants_changed of_app.Keep id t.rows refl) (omega arith) (omega arith) r.grants) r.asks r.ended
kept_ranged t r (ops.Attempt id master node) rest front =
    parts t r (ops.Attempt id master node) rest front (with_row (changed (of_app.OfAttempt of_attempt.Keep)) id.app t.rows) t.asks t.ended t.going (t.main ++ mains.AttemptSaved id ∷ []) t.sched
    (rows_changed (of_app.OfAttempt of_attempt.Keep) id.app t.rows tt r.rows)
    (grants_less t.rows (with_row (changed (of_app.OfAttempt of_attempt.Keep)) id.app t.rows) t.sched t.sched t.served t.served (grants_changed (of_app.OfAttempt of_attempt.Keep) id.app t.rows refl) (omega arith) (omega arith) r.grants) r.asks r.ended
kept_ranged t r (ops.AttemptEnd id how text) rest front =
    parts t r (ops.AttemptEnd id how text) rest front (with_row (changed (of_app.OfAttempt (of_attempt.KeepEnd how))) id.app t.rows) (without_asks_of id t.asks) t.ended t.going (t.main ++ mains.AttemptDone id ∷ [])
    (t.sched ++ scheds.AttemptRemoved id ∷ []) (rows_changed (of_app.OfAttempt (of_attempt.KeepEnd how)) id.app t.rows tt r.rows)
    (more_events t.rows (with_row (changed (of_app.OfAttempt (of_attempt.KeepEnd how))) id.app t.rows) t.sched (scheds.AttemptRemoved id ∷ []) t.served refl (grants_changed (of_app.OfAttempt (of_attempt.KeepEnd how)) id.app t.rows refl) r.grants)
    (asked_without id t.asks r.asks) r.ended
kept_ranged t r (ops.AppEnd id how text) rest front =
    let is = awaited t r (ops.AppEnd id how text) rest front in
    parts t r (ops.AppEnd id how text) rest front (with_row (changed (of_app.KeepEnd how)) id t.rows) t.asks (t.ended ++ id ∷ []) (t.going - 1) (t.main ++ mains.Retire ∷ []) (t.sched ++ removed_by (row_of t.rows id) (keeps (found_in (kept (ops.AppEnd id how text) t) id)) id)
    (rows_changed (of_app.KeepEnd how) id t.rows tt r.rows)
    (more_events t.rows (with_row (changed (of_app.KeepEnd how)) id t.rows) t.sched (removed_by (row_of t.rows id) (keeps (found_in (kept (ops.AppEnd id how text) t) id)) id) t.served (none_removed (row_of t.rows id) (keeps (found_in (kept (ops.AppEnd id how text) t) id)) id) (grants_changed (of_app.KeepEnd how) id t.rows refl) r.grants) r.asks
    (all_append IsAppId t.ended (id ∷ []) r.ended (is.0.0, tt))
kept_ranged t r (ops.Remove id) rest front =
    parts t r (ops.Remove id) rest front (without_row id t.rows) t.asks t.ended t.going t.main t.sched (rows_gone id t.rows r.rows)
    (grants_less t.rows (without_row id t.rows) t.sched t.sched t.served t.served (grants_gone id t.rows) (omega arith) (omega arith) r.grants) r.asks r.ended

-- what is with the store
pub with_store : (t : Tables) → InBounds t → (handed blown : Bool) → InBounds (record t { handed = handed; blown = blown })
with_store t r handed blown =
    record {
      tree = r.tree;
      awaiting = r.awaiting;
      ended = r.ended;
      rows = r.rows;
      grants = r.grants;
      asks = r.asks;
      book = r.book;
      offers = r.offers;
      nodes = r.nodes;
      counts = record { epoch = r.counts.epoch; served = r.counts.served; given = r.counts.given; clock = r.counts.clock };
    }

-- the first awaiting operation goes to the store
pub handed_ranged : (t : Tables) → InBounds t → InBounds (handed_out t)
handed_ranged t r = with_store t r true t.blown
