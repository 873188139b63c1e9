-- A message of a node or of the clock as a whole step: the rows of applications stay and nothing that is counted changes, so all that holds of
-- an open life is kept where the tables agree, the nodes are good and the book holds.
use Rattle.rm_invariant.proofs.Common.{◌≡◌, ℕ, List, ◌++◌, Bool, true, false, ◌||◌, refl, sym, ◌∙◌, ap, subst, arith, if◌then◌else◌, list_any, Served, AttemptId, ContainerId, Message, Reply, Settings, is_attempt, Records, BookOf, after, is_living, life_after, AllowedIn, LifeState, Row, SchedEvent, NodeRow, Tables, row_of, SameNodes, SameRows, History, abstract_life, abstract_scene, live_state}
use Rattle.std.proofs.Common.{count_by}
use Rattle.rm_types.specs.Lanes.{sender_of}
use Rattle.rm_model.specs.Changes.{in_life}
use Rattle.rm_model.specs.Replies.{open_reply}
use Rattle.rm_model.specs.State.{NodeState}
use Rattle.rm_invariant.specs.apps.Invariant.{RowInvariant}
use Rattle.rm_invariant.specs.Step.{AppsInvariant, Step}
use Rattle.rm_invariant.specs.apps.View.{View, is_add, is_queueing, view}
use Rattle.rm_invariant.proofs.apps.Counts.{count_append}
use Rattle.rm_invariant.proofs.apps.Keeping.{in_scene}
use Rattle.rm_invariant.specs.nodes.Invariant.{NodesInvariant}
use Rattle.rm_invariant.specs.nodes.Book.{BookInvariant}
use Rattle.rm_invariant.specs.masters.View.{is_attempt_removal, container_view}
use Rattle.rm_invariant.specs.masters.Invariant.{ContainersInvariant}
use Rattle.rm_invariant.specs.masters.Sound.{RecordsAreSound}
use Rattle.rm_invariant.proofs.masters.Stepping.{marks_stay}
use Rattle.rm_invariant.specs.events.Refines.{Refines}
use Rattle.rm_invariant.specs.Core.{Nothing, CoreInvariant, PreservesCore}
use Rattle.rm_invariant.specs.events.Here.{astray_at}
use Rattle.rm_invariant.proofs.nodes.Astray.{none_strays}
use Rattle.rm_invariant.proofs.nodes.Moved.{fewer_astray}

-- the answer of an open life, where it is open
pub if_open : (b : Bool) (answer refusal : Reply) → b ≡ true → (if b then answer else refusal) ≡ answer
if_open true answer refusal e = refl
if_open false answer refusal e = cc

-- events that are of no application, and that no attempt counts
pub record OfNodes (events : List SchedEvent) : Type 0 where
  pub adds : (q : AttemptId) → count_by (is_add q.app) events ≡ 0
  pub queueings : (q : AttemptId) → count_by (is_queueing q) events ≡ 0
  pub removals : (c : ContainerId) → count_by (is_attempt_removal c) events ≡ 0

-- the same containers are held and live
pub record SameHeld (before after : List Row) : Type 0 where
  pub held : (q : AttemptId) → list_any (λ row. is_attempt row.id.attempt q) after ≡ list_any (λ row. is_attempt row.id.attempt q) before
  pub living : (c : ContainerId) → is_living after c ≡ is_living before c

-- a count with none more
none_more : (p : SchedEvent → Bool) (sched events : List SchedEvent) → count_by p events ≡ 0 → count_by p (sched ++ events) ≡ count_by p sched
none_more p sched events none = let e = count_append p sched events in omega (arith, e, none)

module _ (settings : Settings) (h : History) (t : Tables) (w : CoreInvariant settings h t) (message : Message) (reply : Reply) (is : reply ≡ open_reply settings (abstract_scene h t) message) where
  -- the message may be served
  pub may_serve : AllowedIn settings (abstract_scene h t) (Served (sender_of message) message reply)
  may_serve =
      record {
        serving = ap (λ b. b || t.blown) w.keeps.is_open;
        of_sender = refl;
        answers = is ∙ sym (if_open t.is_open (open_reply settings (abstract_scene h t) message) _ w.keeps.is_open);
      }

  -- the state after it
  served_state : (g : History) (next : Tables) → g.kept ≡ h.kept → next.awaiting ≡ t.awaiting → life_after (abstract_scene h t) message reply ≡ abstract_life g next
      → after (live_state h t) (Served (sender_of message) message reply) ≡ live_state g next
  served_state g next kept awaiting life =
      ap (λ (r : Records). in_life (live_state h t) (life_after (record { records = r; awaiting = t.awaiting; life = abstract_life h t }) message reply)) w.keeps.recorded
      ∙ ap (λ (l : LifeState). in_life (live_state h t) l) life
      ∙ rw (kept, awaiting) refl

  -- a message after which all of it holds again, by this history
  pub served_whole : (g : History) (next : Tables) → g.kept ≡ h.kept → next.awaiting ≡ t.awaiting → life_after (abstract_scene h t) message reply ≡ abstract_life g next → AppsInvariant settings g next → ContainersInvariant g next
      → RecordsAreSound next.tree.apps → Refines (abstract_life g next) next → NodesInvariant (astray_at settings h t) g.nodes g.book next.sched → BookInvariant (abstract_life g next) Nothing → PreservesCore settings h t (Served (sender_of message) message reply, next)
  served_whole g next kept awaiting life keeps all sound agrees nodes book =
      let step : Step settings h t (Served (sender_of message) message reply) g next =
      record { lawful = in_scene settings h t w.keeps (Served (sender_of message) message reply) may_serve; same = served_state g next kept awaiting life; keeps = keeps } in
      let fewer = none_strays settings h t w.keeps (Served (sender_of message) message reply) g next step refl refl in
      record {
        next = g;
        step = step;
        whole = record { keeps = keeps; marks = all; sound = sound; agrees = agrees; nodes = fewer_astray (astray_at settings h t) (astray_at settings g next) fewer g.nodes g.book next.sched nodes; book = book };
      }

  -- more ids were given
  pub given_whole : (given : ℕ) → life_after (abstract_scene h t) message reply ≡ abstract_life h (record t { given = given }) → PreservesCore settings h t (Served (sender_of message) message reply, record t { given = given })
  given_whole given life =
      served_whole h (record t { given = given }) refl refl life (record { is_open = w.keeps.is_open; recorded = w.keeps.recorded; all = w.keeps.all }) w.marks w.sound
      (record { rows = w.agrees.rows; nodes = w.agrees.nodes; asks = w.agrees.asks; closings = w.agrees.closings; masters = w.agrees.masters }) w.nodes
      (record { apart = w.book.apart; rows = w.book.rows; left = w.book.left; launches = w.book.launches })

  -- the life after it is one in which the containers' states and the nodes changed
  module _ (rows : List Row) (nodes : List NodeState) (book : BookOf) (in_nodes : List (List ℕ × NodeRow)) (events : List SchedEvent) where
    abbrev pub changed_history : History
    changed_history = record h { book = rows; nodes = nodes }

    abbrev pub changed_tables : Tables
    changed_tables = record t { book = book; nodes = in_nodes; sched = t.sched ++ events }

    views_stay : OfNodes events → SameHeld h.book rows → (q : AttemptId) → view changed_history changed_tables q ≡ view h t q
    views_stay none same q =
        let adds = none_more (is_add q.app) t.sched events (none.adds q) in
        let queueings = none_more (is_queueing q) t.sched events (none.queueings q) in
        let held = same.held q in
        rw (adds, queueings, held) refl

    counts_stay : OfNodes events → SameHeld h.book rows → (c : ContainerId) → container_view changed_history changed_tables c ≡ container_view h t c
    counts_stay none same c =
        let removals = none_more (is_attempt_removal c) t.sched events (none.removals c) in
        let living = same.living c in
        rw (removals, living) refl

    pub changed_whole : life_after (abstract_scene h t) message reply ≡ abstract_life changed_history changed_tables → OfNodes events → SameHeld h.book rows
        → SameRows book.rows rows → SameNodes book in_nodes nodes → NodesInvariant (astray_at settings h t) nodes rows (t.sched ++ events) → BookInvariant (abstract_life changed_history changed_tables) Nothing
        → PreservesCore settings h t (Served (sender_of message) message reply, changed_tables)
    changed_whole life none same same_rows same_nodes good holds =
        record {
          next = changed_history;
          step = step;
          whole =
              record {
                keeps = keeps;
                marks = marks_stay h changed_history t changed_tables refl (counts_stay none same) w.marks;
                sound = w.sound;
                agrees = record { rows = same_rows; nodes = same_nodes; asks = w.agrees.asks; closings = w.agrees.closings; masters = w.agrees.masters };
                nodes = fewer_astray (astray_at settings h t) (astray_at settings changed_history changed_tables) fewer nodes rows (t.sched ++ events) good;
                book = holds;
              };
        }
      where
        keeps : AppsInvariant settings changed_history changed_tables
        keeps =
            record {
              is_open = w.keeps.is_open;
              recorded = w.keeps.recorded;
              all = λ q. subst (λ (v : View). RowInvariant settings q (row_of t.rows q.app) v) (sym (views_stay none same q)) (w.keeps.all q);
            }

        step : Step settings h t (Served (sender_of message) message reply) changed_history changed_tables
        step = record { lawful = in_scene settings h t w.keeps (Served (sender_of message) message reply) may_serve; same = served_state changed_history changed_tables refl refl life; keeps = keeps }

        fewer : (c : ContainerId) → astray_at settings changed_history changed_tables c ≡ true → astray_at settings h t c ≡ true
        fewer = none_strays settings h t w.keeps (Served (sender_of message) message reply) changed_history changed_tables step refl refl

  -- a message after which nothing changed
  pub still_whole : life_after (abstract_scene h t) message reply ≡ abstract_life h t → PreservesCore settings h t (Served (sender_of message) message reply, t)
  still_whole life =
      record {
        next = h;
        step =
            record {
              lawful = in_scene settings h t w.keeps (Served (sender_of message) message reply) may_serve;
              same = served_state h t refl refl life;
              keeps = w.keeps;
            };
        whole = w;
      }

  -- the time went on
  pub later_whole : (time : ℕ) → life_after (abstract_scene h t) message reply ≡ abstract_life h (record t { clock = time }) → PreservesCore settings h t (Served (sender_of message) message reply, record t { clock = time })
  later_whole time life =
      record {
        next = h;
        step =
            record {
              lawful = in_scene settings h t w.keeps (Served (sender_of message) message reply) may_serve;
              same = served_state h (record t { clock = time }) refl refl life;
              keeps = record { is_open = w.keeps.is_open; recorded = w.keeps.recorded; all = w.keeps.all };
            };
        whole =
            record {
              keeps = record { is_open = w.keeps.is_open; recorded = w.keeps.recorded; all = w.keeps.all };
              marks = w.marks;
              sound = w.sound;
              agrees = record { rows = w.agrees.rows; nodes = w.agrees.nodes; asks = w.agrees.asks; closings = w.agrees.closings; masters = w.agrees.masters };
              nodes = w.nodes;
              book = record { apart = w.book.apart; rows = w.book.rows; left = w.book.left; launches = w.book.launches };
            };
      }
