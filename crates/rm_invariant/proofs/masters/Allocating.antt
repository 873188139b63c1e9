-- A master allocates, as a whole step: it asks for containers, releases some, and is told of some and of endings. It has no say over its own
-- container: priority 0 is the manager's.
use Rattle.rm_invariant.proofs.Common.{◌≡◌, ℕ, ◌+◌, ◌||◌, not, List, [], ◌∷◌, ◌++◌, Bool, true, false, Option, None, Some, filter, map, refl, sym, ◌∙◌, ap, subst, arith, if◌then◌else◌, list_any, nat_tests, Ask, AskOf, Served, Closing, Grant, AppId, AttemptId, ContainerId, Allocate, Reply, Settings, is_app, is_attempt, is_container, and_false, released_by, is_new_to_master, row_allocated, reply_to, LifeState, MasterState, Row, SchedEvent, AppRow, Dialogue, Tables, row_of, with_row, History, abstract_scene}
use Rattle.std.proofs.Common.{◌==◌, count_by}
use Rattle.rm_types.specs.declared.containers.ClosingOf.{ClosingOf}
use Rattle.rm_types.specs.declared.replies.Reply.TheVariants.{Allocated}
use Rattle.rm_types.specs.declared.messages.Message.TheVariants as messages
use Rattle.rm_types.specs.declared.messages.Sender.TheVariants as senders
use Rattle.rm_model.specs.MasterReplies.{allocates, is_line_of, with_ask, with_asks, late_rows, new_grants}
use Rattle.rm_tables.specs.declared.events.SchedEvent.TheVariants as scheds
use Rattle.rm_invariant.specs.apps.View.{is_ask, View, changed_if, is_add, is_queueing, one_if, view}
use Rattle.rm_invariant.specs.Step.{AppsInvariant}
use Rattle.rm_invariant.specs.apps.Invariant.{RowInvariant}
use Rattle.rm_invariant.proofs.apps.Counts.{at_end, at_front, count_append}
use Rattle.rm_invariant.proofs.apps.Keeping.{in_scene}
use Rattle.rm_invariant.proofs.apps.Found.{row_changed}
use Rattle.rm_invariant.specs.masters.Invariant.{ContainersInvariant, ContainerInvariant, RemovalInvariant}
use Rattle.rm_invariant.specs.masters.Preserves.{PreservesContainers}
use Rattle.rm_invariant.specs.masters.View.{ContainerView, is_attempt_removal, container_view}
use Rattle.rm_invariant.proofs.masters.Talking.{IsTalking, marks_talking, same_talking, says_talking, talking}
use Rattle.rm_invariant.proofs.masters.Finishing.{text_in}

-- none of these asks is for a master
abbrev pub AllOrdinary : List Ask → Type 0
AllOrdinary [] = Unit {0}
AllOrdinary (ask ∷ more) = ((ask.priority == 0) ≡ false) × AllOrdinary more

-- a line that such an ask speaks of is for none either
line_ordinary : (q attempt : AttemptId) (ask : Ask) (line : AskOf) → (ask.priority == 0) ≡ false → is_line_of attempt ask line ≡ true → is_ask q line ≡ false
line_ordinary q attempt ask line o e = grind (arith, nat_tests)

new_ordinary : (q attempt : AttemptId) (ask : Ask) → (ask.priority == 0) ≡ false → is_ask q (record { attempt = attempt; ask = ask }) ≡ false
new_ordinary q attempt ask o = rw o (and_false (is_attempt attempt q))

module _ (q attempt : AttemptId) (ask : Ask) (o : (ask.priority == 0) ≡ false) where
  lines_dropped : (lines : List AskOf) → count_by (is_ask q) (filter (λ line. not (is_line_of attempt ask line)) lines) ≡ count_by (is_ask q) lines
  lines_dropped [] = refl
  lines_dropped (line ∷ lines) = by (is_line_of attempt ask line) refl (lines_dropped lines)
    where
      by : (b : Bool) → is_line_of attempt ask line ≡ b → count_by (is_ask q) (filter (λ line. not (is_line_of attempt ask line)) lines) ≡ count_by (is_ask q) lines
          → count_by (is_ask q) (filter (λ line. not (is_line_of attempt ask line)) (line ∷ lines)) ≡ count_by (is_ask q) (line ∷ lines)
      by true e h =
          let none = line_ordinary q attempt ask line o e in
          let g : count_by (is_ask q) (line ∷ lines) ≡ count_by (is_ask q) lines = at_front (is_ask q) line lines ∙ rw none refl in
          rw (e, g) h
      by false e h = rw e (at_front (is_ask q) line (filter (λ line. not (is_line_of attempt ask line)) lines) ∙ ap (one_if (is_ask q line)) h ∙ sym (at_front (is_ask q) line lines))

  abbrev set_line : AskOf → AskOf
  set_line line = if is_line_of attempt ask line then record line { ask = ask } else line

  set_same : (line : AskOf) → is_ask q (set_line line) ≡ is_ask q line
  set_same line = by (is_line_of attempt ask line) refl
    where
      by : (b : Bool) → is_line_of attempt ask line ≡ b → is_ask q (set_line line) ≡ is_ask q line
      by true e =
          let none = line_ordinary q attempt ask line o e in
          let new : is_ask q (record line { ask = ask }) ≡ false = rw o (and_false (is_attempt line.attempt q)) in
          rw e (new ∙ sym none)
      by false e = rw e refl

  lines_set : (lines : List AskOf) → count_by (is_ask q) (map set_line lines) ≡ count_by (is_ask q) lines
  lines_set [] = refl
  lines_set (line ∷ lines) =
      at_front (is_ask q) (set_line line) (map set_line lines) ∙ ap (λ b. one_if b (count_by (is_ask q) (map set_line lines))) (set_same line) ∙ ap (one_if (is_ask q line)) (lines_set lines) ∙ sym (at_front (is_ask q) line lines)

  ask_kept : (lines : List AskOf) → count_by (is_ask q) (with_ask attempt lines ask) ≡ count_by (is_ask q) lines
  ask_kept lines = by (ask.count == 0) refl (list_any (is_line_of attempt ask) lines) refl
    where
      by : (b : Bool) → (ask.count == 0) ≡ b → (c : Bool) → list_any (is_line_of attempt ask) lines ≡ c → count_by (is_ask q) (with_ask attempt lines ask) ≡ count_by (is_ask q) lines
      by true e c f = rw e (lines_dropped lines)
      by false e true f = rw (e, f) (lines_set lines)
      by false e false f =
          let none = new_ordinary q attempt ask o in
          rw (e, f) (at_end (is_ask q) lines (record { attempt = attempt; ask = ask }) ∙ rw none refl)

-- the asks for masters stay
pub asks_kept : (q attempt : AttemptId) (lines : List AskOf) (asks : List Ask) → AllOrdinary asks → count_by (is_ask q) (with_asks attempt lines asks) ≡ count_by (is_ask q) lines
asks_kept q attempt lines [] all = refl
asks_kept q attempt lines (ask ∷ more) all = asks_kept q attempt (with_ask attempt lines ask) more all.1 ∙ ask_kept q attempt ask all.0 lines

-- the same containers are in the book
allocated_any : (test : ContainerId → Bool) (told late released : List ContainerId) (book : List Row) → list_any (λ row. test row.id) (map (row_allocated told late released) book) ≡ list_any (λ row. test row.id) book
allocated_any test told late released [] = refl
allocated_any test told late released (row ∷ book) = let more = allocated_any test told late released book in rw more refl

-- the same attempts are finishing
module _ (id : AttemptId) (last_reply : Reply) where
  abbrev answered : MasterState → MasterState
  answered one = record one { last_id = one.last_id + 1; last_reply = last_reply }

  same_texts : (q : AttemptId) (masters : List MasterState) → text_in (map (λ one. if is_attempt one.attempt id then answered one else one) masters) q ≡ text_in masters q
  same_texts q [] = refl
  same_texts q (one ∷ rest) = by (is_attempt one.attempt id) (is_attempt one.attempt q) refl refl (same_texts q rest)
    where
      by : (a b : Bool) → is_attempt one.attempt id ≡ a → is_attempt one.attempt q ≡ b → text_in (map (λ one. if is_attempt one.attempt id then answered one else one) rest) q ≡ text_in rest q
          → text_in (map (λ one. if is_attempt one.attempt id then answered one else one) (one ∷ rest)) q ≡ text_in (one ∷ rest) q
      by true true e f h = rw (e, f) refl
      by true false e f h = rw (e, f) h
      by false true e f h = rw (e, f) refl
      by false false e f h = rw (e, f) h

-- the scheduler is told of no more than releases
abbrev pub AllReleases : List SchedEvent → Type 0
AllReleases [] = Unit {0}
AllReleases (scheds.Release attempt list ∷ more) = AllReleases more
AllReleases (_ ∷ more) = ⊥

releases_none : (p : SchedEvent → Bool) → ((attempt : AttemptId) (list : List ContainerId) → p (scheds.Release attempt list) ≡ false) → (events : List SchedEvent) → AllReleases events → count_by p events ≡ 0
releases_none p never [] all = refl
releases_none p never (scheds.Release attempt list ∷ more) all = let none = never attempt list in at_front p (scheds.Release attempt list) more ∙ rw none (releases_none p never more all)
releases_none p never _ all = absurd all

releases_more : (p : SchedEvent → Bool) → ((attempt : AttemptId) (list : List ContainerId) → p (scheds.Release attempt list) ≡ false) → (sched events : List SchedEvent) → AllReleases events → count_by p (sched ++ events) ≡ count_by p sched
releases_more p never sched events all = let e = count_append p sched events in let n = releases_none p never events all in omega (arith, e, n)

-- what a master is told changes its row in nothing that is spoken of
abbrev pub told_row : (Option Dialogue → Option Dialogue) → (List ClosingOf → List ClosingOf) → AppRow → AppRow
told_row talk tell row = talking (talk row.dialogue) (tell row.closings) row

told_one : (talk : Option Dialogue → Option Dialogue) (tell : List ClosingOf → List ClosingOf) (b : Bool) (o : Option AppRow) → IsTalking o (changed_if b (told_row talk tell) o)
told_one talk tell true None = record { dialogue = None; closings = []; is = refl }
told_one talk tell true (Some row) = record { dialogue = talk row.dialogue; closings = tell row.closings; is = refl }
told_one talk tell false o = same_talking o

module _ (settings : Settings) (h : History) (t : Tables) (k : AppsInvariant settings h t) (all : ContainersInvariant h t) (id : AttemptId) (last : ℕ) (asks : List Ask) (release : List ContainerId) (ordinary : AllOrdinary asks)
    (next : ℕ) (grants : List Grant) (ended : List Closing) (talk : Option Dialogue → Option Dialogue) (tell : List ClosingOf → List ClosingOf) (events : List SchedEvent) (releases : AllReleases events) where
  abbrev life_after : LifeState
  life_after = allocates (abstract_scene h t) id asks release (Allocated next grants ended)

  -- the history after it
  abbrev pub allocating : History
  allocating = record h { masters = life_after.masters; asks = life_after.asks; book = life_after.book; endings = life_after.endings }

  -- and the tables
  abbrev pub allocated : Tables
  allocated = record t { rows = with_row (told_row talk tell) id.app t.rows; sched = t.sched ++ events }

  rows_are : (q : AppId) → IsTalking (row_of t.rows q) (row_of allocated.rows q)
  rows_are q = subst (λ (o : Option AppRow). IsTalking (row_of t.rows q) o) (sym (row_changed (told_row talk tell) id.app q t.rows)) (told_one talk tell (is_app id.app q) (row_of t.rows q))

  seen : (q : AttemptId) → view allocating allocated q ≡ view h t q
  seen q =
      let kept_asks = asks_kept q id h.asks asks ordinary in
      let adds = releases_more (is_add q.app) (λ a l. refl) t.sched events releases in
      let queueings = releases_more (is_queueing q) (λ a l. refl) t.sched events releases in
      let held = allocated_any (λ c. is_attempt c.attempt q) (map (λ row. row.id) (new_grants (abstract_scene h t) id)) (map (λ row. row.id) (late_rows (abstract_scene h t) id)) (released_by (abstract_scene h t) (record { attempt = id; list = release })) h.book in
      rw (kept_asks, adds, queueings, held) refl

  marked : (c : ContainerId) → container_view allocating allocated c ≡ container_view h t c
  marked c =
      let removals = releases_more (is_attempt_removal c) (λ a l. refl) t.sched events releases in
      let living = allocated_any (λ d. is_container d c) (map (λ row. row.id) (new_grants (abstract_scene h t) id)) (map (λ row. row.id) (late_rows (abstract_scene h t) id)) (released_by (abstract_scene h t) (record { attempt = id; list = release })) h.book in
      let texts = same_texts id (Allocated next grants ended) c.attempt h.masters.registered in
      rw (removals, living, texts) refl

  -- the allocation is new: its reply is the one that it is answered
  pub allocated_joins : Allocated next grants ended ≡ reply_to settings (abstract_scene h t) (messages.Master id (Allocate last asks release)) → is_new_to_master (abstract_scene h t) id last ≡ true
      → PreservesContainers settings h t (Served senders.Master (messages.Master id (Allocate last asks release)) (Allocated next grants ended)) allocating allocated
  allocated_joins reply new =
      record {
        step =
            record {
              lawful =
                  in_scene settings h t k (Served senders.Master (messages.Master id (Allocate last asks release)) (Allocated next grants ended))
                  (record { serving = ap (λ b. b || t.blown) k.is_open; of_sender = refl; answers = reply });
              same = rw (k.recorded, new) refl;
              keeps =
                  record {
                    is_open = k.is_open;
                    recorded = k.recorded;
                    all = λ q. says_talking settings q (row_of t.rows q.app) (row_of allocated.rows q.app) (view allocating allocated q) (rows_are q.app)
                        (subst (λ (v : View). RowInvariant settings q (row_of t.rows q.app) v) (sym (seen q)) (k.all q));
                  };
            };
        marks = λ c. (
          marks_talking c (row_of t.rows c.attempt.app) (row_of allocated.rows c.attempt.app) (container_view allocating allocated c) (rows_are c.attempt.app)
              (subst (λ (v : ContainerView). ContainerInvariant c (row_of t.rows c.attempt.app) v) (sym (marked c)) (all c).0),
          subst (λ (v : ContainerView). RemovalInvariant c v) (sym (marked c)) (all c).1,
        );
      }
