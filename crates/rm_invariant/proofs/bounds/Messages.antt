-- Each message whose parts are in their ranges keeps what is in its range, as long as fewer than 2^31 are served.
use Rattle.rm_invariant.proofs.Common.{◌≡◌, ◌≤◌, ◌<◌, ℕ, ◌+◌, List, [], ◌∷◌, ◌++◌, Option, Some, refl, sym, subst, arith, Ask, AppId, AttemptId, ContainerId, ClientAsk, Reply, Settings, AsksOf, BookOf, all_asked, client_reply, reported, MainEvent, SchedEvent, Lose, NodeRow, AppRow, Tables, changed, beaten_row, changed_row, new_node_row, with_node, with_row, dialogue_begun, registered_row, said_row, told_row, with_answer, with_text, without_closings, after_client, acquired, release_events, beat_events, beaten_book, History, abstract_scene, IsAsk, Message}
use Rattle.std.proofs.Common.{count_by}
use Rattle.rm_types.specs.declared.messages.ClientAsk.TheVariants as clients
use Rattle.rm_types.specs.declared.replies.Reply.TheVariants as replies
use Rattle.rm_types.specs.Limits.{most_served}
use Rattle.rm_tables.specs.declared.changes.RowChange.TheVariants as of_app
use Rattle.rm_tables.specs.declared.events.MainEvent.TheVariants as mains
use Rattle.rm_tables.specs.declared.events.SchedEvent.TheVariants as scheds
use Rattle.rm_tables.specs.Nodes.{registered_node_row as node_registered}
use Rattle.rm_client.specs.Answers.{submitted_row as row_new}
use Rattle.rm_tables.specs.ContainerSets.{with_containers}
use Rattle.rm_tables.specs.Missing.{astray_released}
use Rattle.rm_master.specs.Answers.{containers_told, handed_by}
use Rattle.rm_tracker.specs.Answers.{launched_by}
use Rattle.rm_invariant.proofs.apps.Counts.{count_append}
use Rattle.rm_invariant.specs.nodes.Book.{All}
use Rattle.rm_invariant.specs.messages.Ranges.{IsClientAsk, IsMessage}
use Rattle.rm_invariant.specs.bounds.InBounds.{AreAsked, AreGrants, AreNodes, AreRows, IsAsked, IsBooked, IsOffer, InBounds, is_update}
use Rattle.rm_invariant.proofs.bounds.AskRanges.{asked_all}
use Rattle.rm_invariant.proofs.bounds.BookRanges.{booked_acquired, booked_beaten, booked_handed, offers_handed, each_of, offers_beaten}
use Rattle.rm_invariant.proofs.bounds.NodeRanges.{nodes_beaten, nodes_changed, nodes_put, nodes_registered}
use Rattle.rm_invariant.proofs.bounds.RowRanges.{NoMoreGranted, grants_answered, grants_changed, grants_less, grants_put, grants_registered, grants_said, rows_answered, rows_changed, rows_put, rows_registered, rows_said}
use Rattle.rm_types.specs.declared.messages.Message.TheVariants as messages
use Rattle.rm_invariant.specs.messages.Outcomes.{MessageOutcome, after_message}
use Rattle.rm_invariant.specs.messages.Outcomes as comes
use Rattle.rm_invariant.proofs.messages.Outcomes.{message_outcome}

-- the tables after one more message was served
abbrev pub served_after : Tables → Tables → Tables
served_after t next = record next { served = t.served + 1 }

module _ (t : Tables) (r : InBounds t) (few : t.served < most_served) where
  -- where these parts of them may have changed
  served_parts : (rows : List (AppId × Option AppRow)) (asks : List AsksOf) (book : BookOf) (nodes : List (List ℕ × NodeRow)) (going given clock : ℕ) (main : List MainEvent) (sched : List SchedEvent) (pending : List ContainerId) → AreRows rows
      → AreGrants rows sched (t.served + 1) → AreAsked asks → All IsBooked book.rows → All IsOffer book.nodes → AreNodes nodes → given ≤ t.served + 1 → clock ≤ t.clock + 1000000000
      → InBounds (served_after t (record t { rows = rows; asks = asks; book = book; nodes = nodes; going = going; given = given; clock = clock; main = main; sched = sched; pending = pending }))
  served_parts rows asks book nodes going given clock main sched pending are grants asked booked offers told ids time =
      record {
        tree = r.tree;
        awaiting = r.awaiting;
        ended = r.ended;
        rows = are;
        grants = grants;
        asks = asked;
        book = booked;
        offers = offers;
        nodes = told;
        counts =
            record {
              epoch = r.counts.epoch;
              served = omega (arith, few);
              given = ids;
              clock = let old = r.counts.clock in omega (arith, old, time);
            };
      }

  given_less : t.given ≤ t.served + 1
  given_less = let old = r.counts.given in omega (arith, old)

  -- nothing more is granted, and at most one pass more is to be made
  more_grants : (now : List (AppId × Option AppRow)) (more : List SchedEvent) → count_by is_update more ≤ 1 → NoMoreGranted t.rows now → AreGrants now (t.sched ++ more) (t.served + 1)
  more_grants now more one less =
      let both = count_append is_update t.sched more in
      grants_less t.rows now t.sched (t.sched ++ more) t.served (t.served + 1) less (omega (arith, both, one)) (omega arith) r.grants

  same_grants : (now : List (AppId × Option AppRow)) → NoMoreGranted t.rows now → AreGrants now t.sched (t.served + 1)
  same_grants now less = grants_less t.rows now t.sched t.sched t.served (t.served + 1) less (omega arith) (omega arith) r.grants

  -- nothing changes
  served_same : InBounds (served_after t t)
  served_same =
      served_parts t.rows t.asks t.book t.nodes t.going t.given t.clock t.main t.sched t.pending r.rows (same_grants t.rows (λ q. omega arith)) r.asks r.book r.offers r.nodes given_less (omega arith)

  -- the rows of applications change, and events are posted
  served_rows : (rows : List (AppId × Option AppRow)) (going : ℕ) (main : List MainEvent) → AreRows rows → NoMoreGranted t.rows rows → InBounds (served_after t (record t { rows = rows; going = going; main = main }))
  served_rows rows going main are less = served_parts rows t.asks t.book t.nodes going t.given t.clock main t.sched t.pending are (same_grants rows less) r.asks r.book r.offers r.nodes given_less (omega arith)

  -- CLIENTS

  -- an id that is given is the next one at most
  abbrev pub GivesNext : Reply → Type 0
  GivesNext (replies.New id) = id.number ≤ t.served + 1
  GivesNext _ = Unit {0}

  -- MASTERS

  few_releases : (attempt : AttemptId) (list : List ContainerId) → count_by is_update (release_events attempt list) ≤ 1
  few_releases attempt [] = omega arith
  few_releases attempt (id ∷ list) = omega arith

  asked_sizes : (asks : List Ask) → All IsAsk asks → All IsAsked asks
  asked_sizes [] all = tt
  asked_sizes (ask ∷ asks) all = (all.0.size, asked_sizes asks all.1)

  -- NODES

  few_updates : (name : List ℕ) (done : List ContainerId) → count_by is_update (beat_events name done) ≤ 1
  few_updates name [] = omega arith
  few_updates name (id ∷ done) = omega arith

  -- EACH MESSAGE

  -- the parts of a message are in their ranges, and an id that is given is the next one
  abbrev pub IsRanged : Message → Reply → Type 0
  IsRanged (messages.Client user clients.New) reply = GivesNext reply
  IsRanged message reply = IsMessage message

  ranged_so : (message : Message) (reply : Reply) (next : Tables) → IsRanged message reply → MessageOutcome t message reply next → InBounds (served_after t next)
  ranged_so message reply next is (comes.idles one other) = served_same
  ranged_so message reply next is (comes.gives user id) =
      served_parts t.rows t.asks t.book t.nodes t.going id.number t.clock t.main t.sched t.pending r.rows (same_grants t.rows (λ q. omega arith)) r.asks r.book r.offers r.nodes is (omega arith)
  ranged_so message reply next is (comes.joins user id submission found) =
      served_rows (t.rows ++ (id, Some (row_new submission)) ∷ []) (t.going + 1) (t.main ++ mains.AppStart id ∷ [])
      (rows_put id (row_new submission) t.rows (record { named = is.0; pending = is.1; current = tt; said = tt }) r.rows) (grants_put id (row_new submission) t.rows refl)
  ranged_so message reply next is (comes.wishes user id row found new) =
      served_rows (with_row (changed of_app.Wish) id t.rows) t.going (t.main ++ mains.AppKill id ∷ []) (rows_changed of_app.Wish id t.rows tt r.rows) (grants_changed of_app.Wish id t.rows refl)
  ranged_so message reply next is (comes.registers attempt answer so) =
      let rows = with_row (registered_row (dialogue_begun answer t.book.added)) attempt.app t.rows in
      served_parts rows t.asks (handed_by answer t.book) t.nodes t.going t.given t.clock t.main t.sched t.pending (rows_registered answer t.book.added attempt.app t.rows r.rows)
      (same_grants rows (grants_registered answer t.book.added attempt.app t.rows)) r.asks (booked_handed answer t.book r.book) (offers_handed answer t.book r.offers) r.nodes given_less (omega arith)
  ranged_so message reply next is (comes.finishes attempt text goes) =
      served_rows (with_row (said_row (with_text text)) attempt.app t.rows) t.going (t.main ++ mains.AttemptFinish attempt ∷ []) (rows_said text is attempt.app t.rows r.rows) (grants_said text attempt.app t.rows)
  ranged_so message _ next is (comes.allocates attempt id asks release reply so new) =
      let rows = with_row (told_row (with_answer (id + 1) reply t.book.added) (without_closings attempt)) attempt.app t.rows in
      served_parts rows (all_asked attempt t.asks asks) (acquired (containers_told attempt reply) t.book) t.nodes t.going t.given t.clock t.main (t.sched ++ release_events attempt release) (with_containers t.pending (astray_released t attempt release))
      (rows_answered attempt (id + 1) reply t.book.added attempt.app t.rows r.rows) (more_grants rows (release_events attempt release) (few_releases attempt release) (grants_answered attempt (id + 1) reply t.book.added attempt.app t.rows))
      (asked_all attempt asks t.asks (asked_sizes asks (each_of IsAsk asks is.1.each)) r.asks) (booked_acquired (containers_told attempt reply) t.book r.book) r.offers r.nodes given_less (omega arith)
  ranged_so message reply next is (comes.appears name turn capability running one found) =
      served_parts t.rows t.asks t.book (t.nodes ++ (name, new_node_row turn capability running one) ∷ []) t.going t.given t.clock t.main (t.sched ++ scheds.NodeAdded name turn ∷ []) t.pending r.rows
      (more_grants t.rows (scheds.NodeAdded name turn ∷ []) (omega arith) (λ q. omega arith)) r.asks r.book r.offers
      (nodes_put name (new_node_row turn capability running one) t.nodes (record { named = is.0; size = is.1.0; running = is.1.1 }) r.nodes) given_less (omega arith)
  ranged_so message reply next is (comes.returns name turn capability running one row found later) =
      served_parts t.rows t.asks t.book (with_node (node_registered turn capability running one) name t.nodes) t.going t.given t.clock t.main (t.sched ++ scheds.NodeAdded name turn ∷ []) t.pending r.rows
      (more_grants t.rows (scheds.NodeAdded name turn ∷ []) (omega arith) (λ q. omega arith)) r.asks r.book r.offers (nodes_registered turn capability running one name t.nodes is.1.0 is.1.1 r.nodes) given_less (omega arith)
  ranged_so message _ next is (comes.beats name id running done reply so new) =
      served_parts t.rows t.asks (beaten_book name (reported running) (launched_by reply) t.book) (with_node (beaten_row (id + 1) reply) name t.nodes) t.going t.given t.clock t.main (t.sched ++ beat_events name done) t.pending r.rows
      (more_grants t.rows (beat_events name done) (few_updates name done) (λ q. omega arith)) r.asks (booked_beaten name (reported running) (launched_by reply) t.book r.book)
      (offers_beaten name (reported running) (launched_by reply) t.book r.offers) (nodes_beaten (id + 1) reply name t.nodes r.nodes) given_less (omega arith)
  ranged_so message reply next is (comes.ticks time) =
      served_parts t.rows t.asks t.book t.nodes t.going t.given (t.clock + time) t.main t.sched t.pending r.rows (same_grants t.rows (λ q. omega arith)) r.asks r.book r.offers r.nodes given_less (omega (arith, is))
  ranged_so message reply next is (comes.loses name) =
      served_parts t.rows t.asks t.book (with_node (changed_row Lose) name t.nodes) t.going t.given t.clock t.main (t.sched ++ scheds.NodeLost name ∷ []) t.pending r.rows
      (more_grants t.rows (scheds.NodeLost name ∷ []) (omega arith) (λ q. omega arith)) r.asks r.book r.offers (nodes_changed Lose name t.nodes r.nodes) given_less (omega arith)
  ranged_so message reply next is (comes.expires attempt) = served_rows t.rows t.going (t.main ++ mains.AttemptExpired attempt ∷ []) r.rows (λ q. omega arith)

  pub message_ranged : (message : Message) (reply : Reply) → IsRanged message reply → InBounds (served_after t (after_message message reply t))
  message_ranged message reply is = ranged_so message reply (after_message message reply t) is (message_outcome t message reply)

-- a client is answered as the judge says
pub client_judged : (settings : Settings) (h : History) (t : Tables) → InBounds t → t.served < most_served → (user : List ℕ) (ask : ClientAsk) (reply : Reply) → IsClientAsk ask → reply ≡ client_reply settings (abstract_scene h t) user ask
    → InBounds (served_after t (after_client ask reply t))
client_judged settings h t r few user ask reply is judged = message_ranged t r few (messages.Client user ask) reply (by ask is judged)
  where
    by : (ask : ClientAsk) → IsClientAsk ask → reply ≡ client_reply settings (abstract_scene h t) user ask → IsRanged t r few (messages.Client user ask) reply
    by clients.New is gives = subst (GivesNext t r few) (sym gives) (let given = r.counts.given in omega (arith, given))
    by _ is judged = is
