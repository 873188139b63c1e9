-- What each move of an open life leaves as it is.
use Rattle.rm_invariant.proofs.Common.{◌≡◌, ℕ, ◌||◌, List, [], ◌∷◌, ◌++◌, Bool, true, false, drop, map, refl, sym, ◌∙◌, list_any, list_any-append, Entry, ContainerId, Op, Reply, is_epoch_op, MainEvent, SchedEvent, Tables, main_popped, main_worked, sched_popped, sched_worked, kept, sched_step, ap, Message}
use Rattle.rm_types.specs.declared.operations.Op.TheVariants as ops
use Rattle.rm_types.proofs.TestLemmas.{never_nil}
use Rattle.rm_tables.specs.declared.events.MainEvent.TheVariants as mains
use Rattle.rm_invariant.specs.events.Outcomes.{Outcome, ends, ends_one, idles, issues, kills, orders, removes, saves}
use Rattle.rm_invariant.specs.Preserves.{KeepsFixed}
use Rattle.rm_invariant.specs.Invariant.{NoneOpens, is_epoch_start}
use Rattle.rm_invariant.proofs.events.SchedShapes.{SchedShape, sched_shape}
use Rattle.rm_invariant.proofs.messages.MessageShapes.{MessageShape, message_shape}
use Rattle.rm_invariant.specs.messages.Outcomes.{after_message}

-- none passes of two lists, of a list without its first, and of what is made so
pub none_more : {X : Type 0} (p : X → Bool) (xs ys : List X) → list_any p xs ≡ false → list_any p ys ≡ false → list_any p (xs ++ ys) ≡ false
none_more p xs ys one other = list_any-append p xs ys ∙ rw (one, other) refl

none_less : {X : Type 0} (p : X → Bool) (xs : List X) → list_any p xs ≡ false → list_any p (drop 1 xs) ≡ false
none_less p [] e = refl
none_less p (x ∷ xs) e = rest (p x) e
  where
    rest : (b : Bool) → (b || list_any p xs) ≡ false → list_any p xs ≡ false
    rest true f = cc
    rest false f = f

none_made : {X Y : Type 0} (p : Y → Bool) (make : X → Y) → ((x : X) → p (make x) ≡ false) → (xs : List X) → list_any p (map make xs) ≡ false
none_made p make none [] = refl
none_made p make none (x ∷ xs) = let here = none x in rw here (none_made p make none xs)

-- without the first event of a queue
main_popped_stays : (t next : Tables) → KeepsFixed t next → KeepsFixed t (main_popped next)
main_popped_stays t next s =
    record {
      settings = s.settings;
      alloc = s.alloc;
      alive = s.alive;
      epoch = s.epoch;
      blown = s.blown;
      calm = s.calm;
      handed = s.handed;
      begun = λ b. let after = s.begun b in record { main = none_less is_epoch_start next.main after.main; awaiting = after.awaiting };
    }

sched_popped_stays : (t next : Tables) → KeepsFixed t next → KeepsFixed t (sched_popped next)
sched_popped_stays t next s =
    record { settings = s.settings; alloc = s.alloc; alive = s.alive; epoch = s.epoch; blown = s.blown; calm = s.calm; handed = s.handed; begun = λ b. let after = s.begun b in record { main = after.main; awaiting = after.awaiting } }

module _ (t : Tables) where
  -- neither queue changes so that something begins
  nothing_begins : NoneOpens t → NoneOpens t
  nothing_begins b = b

  -- one more operation awaits
  op_begins : (op : Op) → is_epoch_op op ≡ false → NoneOpens t → list_any is_epoch_op (t.awaiting ++ op ∷ []) ≡ false
  op_begins op e b = none_more is_epoch_op t.awaiting (op ∷ []) b.awaiting (rw e refl)

  -- more events wait
  events_begin : (events : List MainEvent) → list_any is_epoch_start events ≡ false → NoneOpens t → list_any is_epoch_start (t.main ++ events) ≡ false
  events_begin events e b = none_more is_epoch_start t.main events b.main e

  -- what an event of the main queue comes to
  outcome_stays : (done : Entry × Tables) → Outcome t done → KeepsFixed t done.1
  outcome_stays done idles = record { settings = refl; alloc = refl; alive = refl; epoch = refl; blown = refl; calm = λ c. c; handed = λ before. before; begun = nothing_begins }
  outcome_stays done (saves id row submission rest found waits front) =
      record { settings = refl; alloc = refl; alive = refl; epoch = refl; blown = refl; calm = λ c. c; handed = λ before is. never_nil t.awaiting (ops.App id submission); begun = λ b. record { main = b.main; awaiting = op_begins (ops.App id submission) refl b } }
  outcome_stays done (ends id row how text found stopped is) =
      record { settings = refl; alloc = refl; alive = refl; epoch = refl; blown = refl; calm = λ c. c; handed = λ before is. never_nil t.awaiting (ops.AppEnd id how text); begun = λ b. record { main = b.main; awaiting = op_begins (ops.AppEnd id how text) refl b } }
  outcome_stays done (kills id row current at_ number alive going) =
      record { settings = refl; alloc = refl; alive = refl; epoch = refl; blown = refl; calm = λ c. c; handed = λ before is. never_nil t.awaiting _; begun = λ b. record { main = b.main; awaiting = op_begins _ refl b } }
  outcome_stays done (issues container node row current at_ st number mine place) =
      record { settings = refl; alloc = refl; alive = refl; epoch = refl; blown = refl; calm = λ c. c; handed = λ before is. never_nil t.awaiting _; begun = λ b. record { main = b.main; awaiting = op_begins _ refl b } }
  outcome_stays done (orders id container node row current at_ number alive master place) =
      record { settings = refl; alloc = refl; alive = refl; epoch = refl; blown = refl; calm = λ c. c; handed = λ before. before; begun = λ b. record { main = b.main; awaiting = b.awaiting } }
  outcome_stays done (ends_one id row current how text at_ number alive is) =
      record { settings = refl; alloc = refl; alive = refl; epoch = refl; blown = refl; calm = λ c. c; handed = λ before is. never_nil t.awaiting (ops.AttemptEnd id how text); begun = λ b. record { main = b.main; awaiting = op_begins (ops.AttemptEnd id how text) refl b } }
  outcome_stays done (removes id more first many) =
      record {
        settings = refl;
        alloc = refl;
        alive = refl;
        epoch = refl;
        blown = refl;
        calm = λ c. c;
        handed = λ before is. never_nil t.awaiting (ops.Remove id);
        begun = λ b. record { main = events_begin (mains.Retire ∷ []) refl b; awaiting = op_begins (ops.Remove id) refl b };
      }
  outcome_stays done _ = record { settings = refl; alloc = refl; alive = refl; epoch = refl; blown = refl; calm = λ c. c; handed = λ before. before; begun = λ b. record { main = b.main; awaiting = b.awaiting } }

  pub main_stays : (done : Entry × Tables) → Outcome t done → KeepsFixed t (main_worked done).1
  main_stays done outcome = main_popped_stays t done.1 (outcome_stays done outcome)

  -- it gives no id and serves no message
  pub main_numbers : (done : Entry × Tables) → Outcome t done → ((main_worked done).1.given ≡ t.given) × ((main_worked done).1.served ≡ t.served)
  main_numbers done idles = (refl, refl)
  main_numbers done _ = (refl, refl)

-- A STEP OF THE SCHEDULER

-- it leaves these
pub record SchedStays (t next : Tables) : Type 0 where
  pub stays : KeepsFixed t next
  pub given : next.given ≡ t.given
  pub served : next.served ≡ t.served

module _ (t : Tables) where
  -- these events are posted to the main queue
  posting : (next : Tables) (events : List MainEvent) → list_any is_epoch_start events ≡ false → next.main ≡ t.main ++ events → next.awaiting ≡ t.awaiting → next.handed ≡ t.handed → next.settings ≡ t.settings → next.alloc ≡ t.alloc
      → next.alive ≡ t.alive → next.epoch ≡ t.epoch → next.blown ≡ t.blown → KeepsFixed t next
  posting next events none main awaiting handed settings alloc alive epoch blown =
      record {
        settings = settings;
        alloc = alloc;
        alive = alive;
        epoch = epoch;
        blown = blown;
        calm = λ c b. handed ∙ c (sym blown ∙ b);
        handed = rw (handed, awaiting) (λ before. before);
        begun = λ b. let one = events_begin t events none b in let other = b.awaiting in record { main = rw main one; awaiting = rw awaiting other };
      }

  pub sched_stays : (e : SchedEvent) (list : List ContainerId) → SchedStays t (sched_worked (sched_step e list t)).1
  sched_stays e list = record { stays = sched_popped_stays t next (posting next shape.more shape.quiet.begins shape.main (by (λ one. one.awaiting)) (by (λ one. one.handed)) (by (λ one. one.settings)) (by (λ one. one.alloc)) (by (λ one. one.alive)) (by (λ one. one.epoch)) (by (λ one. one.blown))); given = by (λ one. one.given); served = by (λ one. one.served) }
    where
      next : Tables
      next = (sched_step e list t).1

      shape : SchedShape t (sched_step e list t)
      shape = sched_shape t list e

      by : {X : Type 0} (part : Tables → X) → part next ≡ part (record t { rows = next.rows; nodes = next.nodes; book = next.book; main = next.main; asks = next.asks; departed = next.departed })
      by part = ap part shape.rest

  -- WHAT IS KEPT

  -- the first awaiting operation is kept, which begins nothing
  taken : (next : Tables) (events : List MainEvent) → list_any is_epoch_start events ≡ false → next.main ≡ t.main ++ events → next.awaiting ≡ drop 1 t.awaiting → next.handed ≡ false → next.settings ≡ t.settings → next.alloc ≡ t.alloc
      → next.alive ≡ t.alive → next.epoch ≡ t.epoch → next.blown ≡ t.blown → next.given ≡ t.given → next.served ≡ t.served → SchedStays t next
  taken next events none main awaiting handed settings alloc alive epoch blown given served =
      record {
        stays = record {
          settings = settings;
          alloc = alloc;
          alive = alive;
          epoch = epoch;
          blown = blown;
          calm = λ c b. handed;
          handed = rw handed (λ before is. cc);
          begun = λ b. let one = events_begin t events none b in let other = none_less is_epoch_op t.awaiting b.awaiting in record { main = rw main one; awaiting = rw awaiting other };
        };
        given = given;
        served = served;
      }

  pub kept_stays : (op : Op) → is_epoch_op op ≡ false → SchedStays t (kept op t)
  kept_stays (ops.Epoch next stamp) e = cc
  kept_stays (ops.App id submission) e = taken _ (mains.AppSaved id ∷ []) refl refl refl refl refl refl refl refl refl refl refl
  kept_stays (ops.Attempt id master node) e = taken _ (mains.AttemptSaved id ∷ []) refl refl refl refl refl refl refl refl refl refl refl
  kept_stays (ops.AttemptEnd id how text) e = taken _ (mains.AttemptDone id ∷ []) refl refl refl refl refl refl refl refl refl refl refl
  kept_stays (ops.AppEnd id how text) e = taken _ (mains.Retire ∷ []) refl refl refl refl refl refl refl refl refl refl refl
  kept_stays (ops.Remove id) e =
      record {
        stays = record {
          settings = refl;
          alloc = refl;
          alive = refl;
          epoch = refl;
          blown = refl;
          calm = λ c b. refl;
          handed = λ before is. cc;
          begun = λ b. record { main = b.main; awaiting = none_less is_epoch_op t.awaiting b.awaiting };
        };
        given = refl;
        served = refl;
      }

  -- MESSAGES

  -- a message is counted
  pub counted_stays : (next : Tables) (served : ℕ) → KeepsFixed t next → KeepsFixed t (record next { served = served })
  counted_stays next served s =
      record { settings = s.settings; alloc = s.alloc; alive = s.alive; epoch = s.epoch; blown = s.blown; calm = s.calm; handed = s.handed; begun = λ b. let after = s.begun b in record { main = after.main; awaiting = after.awaiting } }

  pub message_stays : (message : Message) (reply : Reply) → KeepsFixed t (after_message message reply t)
  message_stays message reply = posting next shape.more shape.begins shape.main (by (λ one. one.awaiting)) (by (λ one. one.handed)) (by (λ one. one.settings)) (by (λ one. one.alloc)) (by (λ one. one.alive)) (by (λ one. one.epoch)) (by (λ one. one.blown))
    where
      next : Tables
      next = after_message message reply t

      shape : MessageShape t message next
      shape = message_shape t message reply

      by : {X : Type 0} (part : Tables → X)
          → part next ≡ part (record t { rows = next.rows; nodes = next.nodes; book = next.book; asks = next.asks; going = next.going; given = next.given; clock = next.clock; main = next.main; sched = next.sched; pending = next.pending })
      by part = ap part shape.rest
