-- The Epoch of a life is kept: over recovered tables there holds all that holds of an open life.
use Rattle.rm_invariant.proofs.Common.{◌≡◌, ◌≤◌, inl, ℕ, ◌+◌, ◌&&◌, suc, List, [], ◌∷◌, ◌++◌, Bool, true, false, not, Option, None, Some, is_none, length, refl, sym, ◌∙◌, ap, subst, arith, if◌then◌else◌, flat_map, nat_tests, AppId, AttemptId, How, Op, AppRecord, AttemptRecord, Settings, is_app, is_nil, Records, recorded, no_records, all_ended, is_some_and, last_attempt, record_of, AppState, MainEvent, SchedEvent, AppRow, Current, Tables, kept, recovered_row, recovered_rows, recovered_attempt, main_by, main_of, sched_by, sched_of, opening_main, opening_sched, slot_of, row_in, row_of, is_empty_slot, is_retired, History}
use Rattle.std.proofs.Common.{◌==◌, is_some, option_map, count_by}
use Rattle.std.proofs.lemmas.List.Sums.{fold_push}
use Rattle.rm_types.specs.declared.entries.Entry.TheVariants.{Kept as KeptEntry}
use Rattle.rm_types.specs.declared.operations.How.TheVariants as ways
use Rattle.rm_types.specs.declared.operations.Op.TheVariants as ops
use Rattle.rm_states.specs.declared.app.states.AppState.TheVariants as apps
use Rattle.rm_states.specs.app.Table.{end_state}
use Rattle.rm_states.specs.declared.attempt.states.AttemptState.TheVariants as attempts
use Rattle.rm_tables.specs.declared.events.MainEvent.TheVariants as mains
use Rattle.rm_tables.specs.declared.events.SchedEvent.TheVariants as scheds
use Rattle.rm_tables.specs.Opening.{recovered_state}
use Rattle.rm_invariant.specs.apps.View.{View, view, one_if, is_start, is_save, is_accept, is_kill, is_done, is_grant, is_launch, is_add, is_queueing}
use Rattle.rm_invariant.specs.apps.Invariant.{RowInvariant, IsKnown, StateInvariant, ActiveInvariant, AttemptCounts, EndIssuedInvariant, LastIsOpen, has_tried}
use Rattle.rm_invariant.specs.Step.{Step}
use Rattle.rm_invariant.specs.apps.Recovered.{Recoverable, IsRecovered, has_ended, fresh, stopped, lives, over, over_after}
use Rattle.rm_invariant.specs.apps.Submissions.{starting}
use Rattle.rm_invariant.proofs.apps.Counts.{at_front, at_end, count_append, none_among}

abbrev pub AtMostOnce : AppId → List AppRecord → Type 0
AtMostOnce q apps = count_by (λ app. is_app app.id q) apps ≤ 1

-- events that an application posts once where its record passes a test: none are there without it, and one where it is found and passes
module _ {X : Type 0} (events : AppRecord → List X) (p : X → Bool) (q : AppId) (test : AppRecord → Bool)
    (each : (app : AppRecord) → count_by p (events app) ≡ one_if (is_app app.id q && test app) 0) where
  none_here : (apps : List AppRecord) → count_by (λ app. is_app app.id q) apps ≡ 0 → count_by p (flat_map events apps) ≡ 0
  none_here [] n = refl
  none_here (app ∷ apps) n = by (is_app app.id q) refl (none_here apps)
    where
      by : (b : Bool) → is_app app.id q ≡ b → (count_by (λ app. is_app app.id q) apps ≡ 0 → count_by p (flat_map events apps) ≡ 0) → count_by p (flat_map events (app ∷ apps)) ≡ 0
      by true e more =
          let g : count_by (λ (app : AppRecord). is_app app.id q) (app ∷ apps) ≡ suc (count_by (λ app. is_app app.id q) apps) = at_front (λ (app : AppRecord). is_app app.id q) app apps ∙ rw e refl in
          absurd (omega (arith, g, n))
      by false e more =
          let g : count_by (λ (app : AppRecord). is_app app.id q) (app ∷ apps) ≡ count_by (λ app. is_app app.id q) apps = at_front (λ (app : AppRecord). is_app app.id q) app apps ∙ rw e refl in
          let none : count_by p (events app) ≡ 0 = each app ∙ rw e refl in
          let left = more (sym g ∙ n) in
          let all = count_append p (events app) (flat_map events apps) in
          omega (arith, none, left, all)

  pub posted : (apps : List AppRecord) → AtMostOnce q apps → count_by p (flat_map events apps) ≡ one_if (is_some_and test (record_of apps q)) 0
  posted [] n = refl
  posted (app ∷ apps) n = by (is_app app.id q) refl (posted apps)
    where
      by : (b : Bool) → is_app app.id q ≡ b → (AtMostOnce q apps → count_by p (flat_map events apps) ≡ one_if (is_some_and test (record_of apps q)) 0)
          → count_by p (flat_map events (app ∷ apps)) ≡ one_if (is_some_and test (record_of (app ∷ apps) q)) 0
      by true e more =
          let g : count_by (λ (app : AppRecord). is_app app.id q) (app ∷ apps) ≡ suc (count_by (λ app. is_app app.id q) apps) = at_front (λ (app : AppRecord). is_app app.id q) app apps ∙ rw e refl in
          let rest = none_here apps (omega (arith, g, n)) in
          let own : count_by p (events app) ≡ one_if (test app) 0 = each app ∙ rw e refl in
          let all = count_append p (events app) (flat_map events apps) in
          let sum : count_by p (flat_map events (app ∷ apps)) ≡ one_if (test app) 0 = omega (arith, rest, own, all) in
          rw e sum
      by false e more =
          let g : count_by (λ (app : AppRecord). is_app app.id q) (app ∷ apps) ≡ count_by (λ app. is_app app.id q) apps = at_front (λ (app : AppRecord). is_app app.id q) app apps ∙ rw e refl in
          let rest = more (omega (arith, g, n)) in
          let own : count_by p (events app) ≡ 0 = each app ∙ rw e refl in
          let all = count_append p (events app) (flat_map events apps) in
          let sum : count_by p (flat_map events (app ∷ apps)) ≡ count_by p (flat_map events apps) = omega (arith, own, all) in
          rw e (sum ∙ rest)

-- the slot of a recovered application holds its record's row
abbrev slot_over : AppRecord → Option AppRow
slot_over one = Some (recovered_row one)

slot_more : (app : AppRecord) (apps : List AppRecord) (q : AppId) (b : Bool) → is_app app.id q ≡ b → slot_of (recovered_rows apps) q ≡ option_map slot_over (record_of apps q)
    → slot_of (recovered_rows (app ∷ apps)) q ≡ option_map slot_over (record_of (app ∷ apps) q)
slot_more app apps q true e h = let f : is_app q app.id ≡ true = grind (arith, nat_tests) in rw (e, f) refl
slot_more app apps q false e h = let f : is_app q app.id ≡ false = grind (arith, nat_tests) in rw (e, f) h

recovered_slot : (apps : List AppRecord) (q : AppId) → slot_of (recovered_rows apps) q ≡ option_map slot_over (record_of apps q)
recovered_slot [] q = refl
recovered_slot (app ∷ apps) q = slot_more app apps q (is_app app.id q) refl (recovered_slot apps q)

-- the row of a recovered application is its record's
pub recovered_found : (apps : List AppRecord) (q : AppId) → row_of (recovered_rows apps) q ≡ option_map recovered_row (record_of apps q)
recovered_found apps q = ap row_in (recovered_slot apps q) ∙ by (record_of apps q)
  where
    by : (o : Option AppRecord) → row_in (option_map slot_over o) ≡ option_map recovered_row o
    by None = refl
    by (Some one) = refl

-- no recorded application was removed
pub none_retired : (apps : List AppRecord) (id : AppId) → is_retired (recovered_rows apps) id ≡ false
none_retired apps id = ap is_empty_slot (recovered_slot apps id) ∙ full (record_of apps id)
  where
    full : (o : Option AppRecord) → is_empty_slot (option_map slot_over o) ≡ false
    full None = refl
    full (Some one) = refl

-- no event with which a life opens is to issue an App
pub opening_starts_none : (apps : List AppRecord) → flat_map starting (opening_main apps) ≡ []
opening_starts_none [] = refl
opening_starts_none (app ∷ apps) = by app.ending (last_attempt app.attempts) (opening_starts_none apps)
  where
    by_last : (last : AttemptRecord) (b : Bool) → is_some last.ending ≡ b → flat_map starting (opening_main apps) ≡ []
        → flat_map starting ((main_by None (Some last) app.id ++ flat_map main_of apps) ++ mains.Retire ∷ []) ≡ []
    by_last last true e none = rw e none
    by_last last false e none = rw e none

    by : (end : Option (How × List ℕ)) (last : Option AttemptRecord) → flat_map starting (opening_main apps) ≡ []
        → flat_map starting ((main_by end last app.id ++ flat_map main_of apps) ++ mains.Retire ∷ []) ≡ []
    by (Some end) last none = none
    by None None none = none
    by None (Some last) none = by_last last (is_some last.ending) refl none

-- an application goes on, and has no attempt; or its last attempt has ended
abbrev is_fresh : AppRecord → Bool
is_fresh one = is_none one.ending && is_none (last_attempt one.attempts)

abbrev is_stopped : AppRecord → Bool
is_stopped one = is_none one.ending && is_some_and (λ last. is_some last.ending) (last_attempt one.attempts)

if_false : (b : Bool) → ◌≡◌ {A = ℕ} 0 (one_if (b && false) 0)
if_false true = refl
if_false false = refl

pub if_true : (b : Bool) → one_if b 0 ≡ one_if (b && true) 0
if_true true = refl
if_true false = refl

abbrev EndOf : Type 0
EndOf = Option (How × List ℕ)

abbrev has_ended_last : Option AttemptRecord → Bool
has_ended_last last = is_some_and (λ last. is_some last.ending) last

-- what an application posts: an AppSaved, an AttemptDone
module _ (id : AppId) where
  saves_by : (q : AppId) (end : EndOf) (last : Option AttemptRecord) (b : Bool) → has_ended_last last ≡ b → count_by (is_save q) (main_by end last id) ≡ one_if (is_app id q && (is_none end && is_none last)) 0
  saves_by q (Some end) last b e = if_false (is_app id q)
  saves_by q None (Some last) true e = rw e (if_false (is_app id q))
  saves_by q None (Some last) false e = rw e (if_false (is_app id q))
  saves_by q None None b e = at_front (is_save q) (mains.AppSaved id) [] ∙ if_true (is_app id q)

  dones_by : (q : AppId) (end : EndOf) (last : Option AttemptRecord) (b : Bool) → has_ended_last last ≡ b
      → count_by (is_done q) (main_by end last id) ≡ one_if (is_app id q && (is_none end && has_ended_last last)) 0
  dones_by q (Some end) last b e = if_false (is_app id q)
  dones_by q None (Some last) true e = rw e (at_front (is_done q) (mains.AttemptDone (record { app = id; number = last.id.number })) [] ∙ if_true (is_app id q))
  dones_by q None (Some last) false e = rw e (if_false (is_app id q))
  dones_by q None None b e = if_false (is_app id q)

  -- and nothing else
  none_by_main : (p : MainEvent → Bool) → p (mains.AppSaved id) ≡ false → ((a : AttemptId) → p (mains.AttemptDone a) ≡ false) → (end : EndOf) (last : Option AttemptRecord) (b : Bool)
      → has_ended_last last ≡ b → count_by p (main_by end last id) ≡ 0
  none_by_main p f g (Some end) last b e = refl
  none_by_main p f g None (Some last) true e = rw e (at_front p (mains.AttemptDone (record { app = id; number = last.id.number })) [] ∙ rw (g (record { app = id; number = last.id.number })) refl)
  none_by_main p f g None (Some last) false e = rw e refl
  none_by_main p f g None None b e = at_front p (mains.AppSaved id) [] ∙ rw f refl

  none_by_sched : (p : SchedEvent → Bool) → ((a : AttemptId) → p (scheds.AttemptRecovered a) ≡ false) → (end : EndOf) (last : Option AttemptRecord) (keep b : Bool)
      → (has_ended_last last && not keep) ≡ b → count_by p (sched_by end last keep id) ≡ 0
  none_by_sched p f (Some end) last keep b e = refl
  none_by_sched p f None (Some last) keep true e = rw e refl
  none_by_sched p f None (Some last) keep false e = rw e (at_front p (scheds.AttemptRecovered (record { app = id; number = last.id.number })) [] ∙ rw (f (record { app = id; number = last.id.number })) refl)
  none_by_sched p f None None keep b e = refl

-- what is counted over the main queue as a life opens, and over the scheduler's
module _ (apps : List AppRecord) where
  quiet_main : (p : MainEvent → Bool) → p mains.Retire ≡ false → ((id : AppId) → p (mains.AppSaved id) ≡ false) → ((a : AttemptId) → p (mains.AttemptDone a) ≡ false) → count_by p (opening_main apps) ≡ 0
  quiet_main p r f g =
      at_end p (flat_map main_of apps) mains.Retire ∙ ap (λ b. one_if b (count_by p (flat_map main_of apps))) r
      ∙ none_among main_of p (λ app. none_by_main app.id p (f app.id) g app.ending (last_attempt app.attempts) (has_ended_last (last_attempt app.attempts)) refl) apps

  quiet_sched : (p : SchedEvent → Bool) → ((a : AttemptId) → p (scheds.AttemptRecovered a) ≡ false) → count_by p (opening_sched apps) ≡ 0
  quiet_sched p f = none_among sched_of p (λ app. none_by_sched app.id p f app.ending (last_attempt app.attempts) app.submission.keep (has_ended_last (last_attempt app.attempts) && not app.submission.keep) refl) apps

  saves_main : (q : AppId) → AtMostOnce q apps → count_by (is_save q) (opening_main apps) ≡ one_if (is_some_and is_fresh (record_of apps q)) 0
  saves_main q once =
      at_end (is_save q) (flat_map main_of apps) mains.Retire
      ∙ posted main_of (is_save q) q is_fresh (λ app. saves_by app.id q app.ending (last_attempt app.attempts) (has_ended_last (last_attempt app.attempts)) refl) apps once

  dones_main : (q : AppId) → AtMostOnce q apps → count_by (is_done q) (opening_main apps) ≡ one_if (is_some_and is_stopped (record_of apps q)) 0
  dones_main q once =
      at_end (is_done q) (flat_map main_of apps) mains.Retire
      ∙ posted main_of (is_done q) q is_stopped (λ app. dones_by app.id q app.ending (last_attempt app.attempts) (has_ended_last (last_attempt app.attempts)) refl) apps once

-- what a view is as a life opens: of its record, and whether that is fresh, has stopped, has ended
abbrev opening_with : Option AppRecord → Bool → Bool → Bool → View
opening_with found a b c =
    record {
      found = found;
      count = record {
        starts = 0;
        saves = one_if a 0;
        adds = 0;
        accepts = 0;
        kills = 0;
        dones = one_if b 0;
        grants = 0;
        launches = 0;
        queueings = 0;
        asks = 0;
        own_ops = 0;
        apps = 0;
        attempts = 0;
        attempt_ends = 0;
        app_ends = 0;
        removes = 0;
        completed = one_if c 0;
      };
      waiting = None;
      wished = false;
      accepted = false;
      retired = false;
      held = false;
    }

abbrev opening_view : Option AppRecord → View
opening_view found = opening_with found (is_some_and is_fresh found) (is_some_and is_stopped found) (is_some_and has_ended found)

some_last : (attempts : List AttemptRecord) (last : AttemptRecord) → last_attempt attempts ≡ Some last → 1 ≤ length attempts
some_last [] last e = cc
some_last (one ∷ more) last e = omega arith

not_nil : (attempts : List AttemptRecord) (last : AttemptRecord) → last_attempt attempts ≡ Some last → not (is_nil attempts) ≡ true
not_nil [] last e = cc
not_nil (one ∷ more) last e = refl

module _ (settings : Settings) (q : AttemptId) where
  -- the current attempt of one that has stopped, and of one that lives
  at_ended : (n : ℕ) (b : Bool) (v : View) → v.count.queueings + (v.count.asks + v.count.own_ops) ≡ 0 → v.held ≡ false → AttemptCounts n b attempts.Ended false v
  at_ended number true v n h = n
  at_ended number false v n h = (n, λ l. h)

  at_live : (n : ℕ) (b : Bool) (v : View) → v.count.queueings + (v.count.asks + v.count.own_ops) ≡ 0 → v.held ≡ false → AttemptCounts n b attempts.Live false v
  at_live number true v n h = (n, λ w. cc)
  at_live number false v n h = (n, λ l. h)

  stopped_says : (one : AppRecord) (last : AttemptRecord) → one.ending ≡ None → is_some last.ending ≡ true → all_ended one.attempts ≡ true → last.id.number ≡ length one.attempts → 1 ≤ last.id.number
      → ActiveInvariant settings q (Some (recovered_attempt last)) false (opening_with (Some one) false true false)
  stopped_says one last unended e all number some =
      subst (λ (b : Bool). ActiveInvariant settings q (Some (record { number = last.id.number; state = if b then attempts.Ended else attempts.Live; master = Some last.master; registered = false; lost = false; granted = 0; finished = false })) false (opening_with (Some one) false true false)) (sym e)
      (((refl, unended, all), number, some, refl, omega arith), at_ended q.number (last.id.number == q.number) (opening_with (Some one) false true false) refl refl)

  lives_says : (one : AppRecord) (last : AttemptRecord) → is_some last.ending ≡ false → LastIsOpen (Some one) (record { app = q.app; number = last.id.number })
      → ActiveInvariant settings q (Some (recovered_attempt last)) false (opening_with (Some one) false false false)
  lives_says one last e goes =
      subst (λ (b : Bool). ActiveInvariant settings q (Some (record { number = last.id.number; state = if b then attempts.Ended else attempts.Live; master = Some last.master; registered = false; lost = false; granted = 0; finished = false })) false (opening_with (Some one) false false false)) (sym e)
      ((goes, refl), at_live q.number (last.id.number == q.number) (opening_with (Some one) false false false) refl refl)

  opening_none : RowInvariant settings q None (opening_view None)
  opening_none = grind arith

  abbrev row_with : ℕ → AppState → Option Current → AppRow
  row_with first s c = record { state = s; wish = false; pending = None; current = c; first = first; dialogue = None; closings = [] }

  known_with : (first : ℕ) (found : Option AppRecord) (s : AppState) (c : Option Current) (a b e : Bool) → IsKnown (row_with first s c) (opening_with found a b e)
  known_with first found s c a b e = record { wish = refl; pending = refl; stays = refl; one_kill = omega arith; killed = λ n. absurd (omega (arith, n)) }

  case_says : (one : AppRecord) (s : AppState) (c : Option Current) (a b e : Bool) → recovered_state one.ending (last_attempt one.attempts) ≡ s → option_map recovered_attempt (last_attempt one.attempts) ≡ c
      → is_fresh one ≡ a → is_stopped one ≡ b → has_ended one ≡ e → StateInvariant settings q s (row_with (length one.attempts) s c) (opening_with (Some one) a b e)
      → RowInvariant settings q (Some (recovered_row one)) (opening_view (Some one))
  case_says one s c a b e state current f g h says = rw (f, g, h, state, current) (known_with (length one.attempts) (Some one) s c a b e, says)

  ended_says : (one : AppRecord) (how : How) (c : Option Current) → option_map (λ e. e.0) one.ending ≡ Some how → EndIssuedInvariant c (opening_with (Some one) false false true)
      → StateInvariant settings q (end_state how) (row_with (length one.attempts) (end_state how) c) (opening_with (Some one) false false true)
  ended_says one ways.Finished c is o = (is, refl, refl, refl, refl, o)
  ended_says one _ c is o = (is, refl, refl, refl, refl, o)

  opening_some : (one : AppRecord) → Recoverable q.app one → RowInvariant settings q (Some (recovered_row one)) (opening_view (Some one))
  opening_some one (fresh unended none) =
      let last : last_attempt one.attempts ≡ None = rw none refl in
      let all : all_ended one.attempts ≡ true = rw none refl in
      case_says one apps.Submitted None true false false (rw (unended, last) refl) (rw last refl) (rw (unended, last) refl) (rw (unended, last) refl) (rw unended refl)
      ((refl, unended, all), none, refl, refl, refl, refl, refl, refl, refl, refl, (λ w. cc), refl)
  opening_some one (stopped last unended is e all number) =
      let some : 1 ≤ last.id.number = let n = some_last one.attempts last is in omega (arith, n, number) in
      case_says one apps.Accepted (Some (recovered_attempt last)) false true false (rw (unended, is) refl) (rw is refl) (rw (unended, is) refl) (rw (unended, is, e) refl) (rw unended refl)
      (refl, refl, refl, stopped_says one last unended e all number some)
  opening_some one (lives last unended is e goes) =
      case_says one apps.Accepted (Some (recovered_attempt last)) false false false (rw (unended, is) refl) (rw is refl) (rw (unended, is) refl) (rw (unended, is, e) refl) (rw unended refl)
      (refl, refl, refl, lives_says one last e goes)
  opening_some one (over end ended none) =
      let last : last_attempt one.attempts ≡ None = rw none refl in
      let untried : has_tried (opening_with (Some one) false false true) ≡ false = rw none refl in
      case_says one (end_state end.0) None false false true (rw ended refl) (rw last refl) (rw ended refl) (rw ended refl) (rw ended refl)
      (ended_says one end.0 None (rw ended refl) (refl, untried))
  opening_some one (over_after end last ended is e) =
      case_says one (end_state end.0) (Some (recovered_attempt last)) false false true (rw ended refl) (rw is refl) (rw ended refl) (rw ended refl) (rw ended refl)
      (ended_says one end.0 (Some (recovered_attempt last)) (rw ended refl) (inl (rw e refl), refl, not_nil one.attempts last is))

-- what is seen of an attempt once the Epoch is kept, and what holds of it
module _ (h : History) (t : Tables) (next stamp : ℕ) (r : IsRecovered h t) (front : t.awaiting ≡ ops.Epoch next stamp ∷ []) where
  abbrev opening : History
  opening = record h { kept = h.kept ++ ops.Epoch next stamp ∷ [] }

  open_counts : (q : AttemptId) → view opening (kept (ops.Epoch next stamp) t) q ≡ opening_view (record_of t.tree.apps q.app)
  open_counts q =
      let submitted : h.apps.submitted ≡ [] = ap (λ (g : History). g.apps.submitted) r.new in
      let wishes : h.apps.wishes ≡ [] = ap (λ (g : History). g.apps.wishes) r.new in
      let accepted : h.apps.accepted ≡ [] = ap (λ (g : History). g.apps.accepted) r.new in
      let retired : h.apps.retired ≡ [] = ap (λ (g : History). g.apps.retired) r.new in
      let book : h.book ≡ [] = ap (λ (g : History). g.book) r.new in
      let asks : h.asks ≡ [] = ap (λ (g : History). g.asks) r.new in
      rw (
        quiet_main t.tree.apps (is_start q.app) refl (λ id. refl) (λ a. refl),
        saves_main t.tree.apps q.app (r.once q.app),
        quiet_sched t.tree.apps (is_add q.app) (λ a. refl),
        quiet_main t.tree.apps (is_accept q.app) refl (λ id. refl) (λ a. refl),
        quiet_main t.tree.apps (is_kill q.app) refl (λ id. refl) (λ a. refl),
        dones_main t.tree.apps q.app (r.once q.app),
        quiet_main t.tree.apps (is_grant q) refl (λ id. refl) (λ a. refl),
        quiet_main t.tree.apps (is_launch q) refl (λ id. refl) (λ a. refl),
        quiet_sched t.tree.apps (is_queueing q) (λ a. refl),
        asks,
        r.ended q.app,
        front,
        submitted,
        wishes,
        accepted,
        retired,
        book,
      ) refl

  open_says : (settings : Settings) (q : AttemptId) → RowInvariant settings q (row_of t.rows q.app) (view opening (kept (ops.Epoch next stamp) t) q)
  open_says settings q =
      let row : row_of t.rows q.app ≡ option_map recovered_row (record_of t.tree.apps q.app) = ap (λ (rows : List (AppId × Option AppRow)). row_of rows q.app) r.rows ∙ recovered_found t.tree.apps q.app in
      subst (λ (v : View). RowInvariant settings q (row_of t.rows q.app) v) (sym (open_counts q))
      (subst (λ (row : Option AppRow). RowInvariant settings q row (opening_view (record_of t.tree.apps q.app))) (sym row) (by (record_of t.tree.apps q.app) refl))
    where
      by : (found : Option AppRecord) → record_of t.tree.apps q.app ≡ found → RowInvariant settings q (option_map recovered_row found) (opening_view found)
      by None is = opening_none settings q
      by (Some one) is = opening_some settings q one (r.sound q.app one is)

-- the tables after the Epoch is kept: the life opens over recovered tables, and all that holds of an open life holds
pub opening_step : (settings : Settings) (h : History) (t : Tables) (next stamp : ℕ) (rest : List Op) → IsRecovered h t → t.awaiting ≡ ops.Epoch next stamp ∷ rest → rest ≡ [] → t.handed ≡ true
    → Step settings h t (KeptEntry (ops.Epoch next stamp)) (record h { kept = h.kept ++ ops.Epoch next stamp ∷ [] }) (kept (ops.Epoch next stamp) t)
opening_step settings h t next stamp rest r front alone handed =
    record {
      lawful = record { handed = handed; first = rw front refl };
      same = refl;
      keeps = record {
        is_open = refl;
        recorded = fold_push recorded no_records h.kept (ops.Epoch next stamp) ∙ ap (λ (one : Records). recorded one (ops.Epoch next stamp)) r.recorded;
        all = open_says h t next stamp r (front ∙ ap (λ (more : List Op). ops.Epoch next stamp ∷ more) alone) settings;
      };
    }
