-- Each message keeps what else holds of an open life; each that is served is counted.
use Rattle.rm_invariant.proofs.Common.{◌≡◌, ◌≤◌, inl, inr, ℕ, ◌+◌, List, [], ◌∷◌, ◌++◌, Bool, true, false, not, ◌&&◌, nat_le, Option, None, Some, filter, length, map, refl, sym, ◌∙◌, ap, subst, arith, if◌then◌else◌, flat_map, list_any, false≢true, and_parts, nat_tests, map-append, flat_map-append, Ask, Served, AppId, AttemptId, ContainerId, ClientAsk, ClockAsk, MasterAsk, Register, Finish, Allocate, NodeAsk, Submission, Reply, is_app, is_attempt, record_of, AsksOf, attempt_asks, asks_set, is_for, renewed_ask, all_asked, after, has_app, is_known, Scene, is_alive, MainEvent, SchedEvent, AppRow, Current, Dialogue, Tables, changed, going_in, is_retired, row_of, with_row, was_first, attempt_was_first, dialogue_begun, registered_row, said_row, told_row, with_answer, with_text, without_closings, finishes_by, lives_by, after_client, submitted_row, after_master, allocated_with, is_new_to, release_events, spoken_by, after_clock, after_node, beat_events, OnlyNodesOffer, History, abstract_life, abstract_scene, live_state, scene, is_some_and, same_attempt, same_app, is_live, client_reply, is_new_to_master, life_after_master, master_reply, register_reply, MasterState, CurrentAgrees, NumberAgrees, PlainDialogue, RowAgrees, bare_dialogue, session_of, plain_dialogue, IsAsk, Message, life_after, BookOf}
use Rattle.std.proofs.Common.{◌==◌, nat_lt, count_by, length-append, is_some, option_map}
use Rattle.std.proofs.lemmas.List.{append_assoc, append-nil}
use Rattle.rm_types.specs.declared.messages.ClientAsk.TheVariants as clients
use Rattle.rm_types.specs.declared.messages.Sender.{Sender}
use Rattle.rm_types.specs.declared.messages.Message.TheVariants as messages
use Rattle.rm_types.specs.declared.messages.Sender.TheVariants as senders
use Rattle.rm_types.specs.declared.replies.Reply.TheVariants as replies
use Rattle.rm_book.specs.ManyAsks.{asks_after, one_asked}
use Rattle.rm_model.specs.State.{Release}
use Rattle.rm_states.specs.declared.attempt.states.AttemptEvent.TheVariants as attempt_events
use Rattle.rm_states.specs.attempt.Table.{next_attempt_state as next_attempt_state}
use Rattle.rm_tables.specs.declared.changes.RowChange.TheVariants as of_app
use Rattle.rm_tables.specs.declared.events.MainEvent.TheVariants as mains
use Rattle.rm_tables.specs.declared.events.SchedEvent.TheVariants as scheds
use Rattle.rm_refinement.specs.Services.{lives_with}
use Rattle.rm_client.specs.Answers.{with_submission}
use Rattle.rm_master.specs.Told.{goes_on as talks_on}
use Rattle.rm_tracker.proofs.Offered.{clock_offers, node_offers}
use Rattle.rm_invariant.specs.apps.Completed.{is_retire}
use Rattle.rm_invariant.specs.apps.Submissions.{Lists, saving, starting, submitted_ids}
use Rattle.rm_invariant.specs.apps.View.{put_if}
use Rattle.rm_invariant.proofs.apps.Completing.{completes_still}
use Rattle.rm_invariant.proofs.apps.Counts.{count_append}
use Rattle.rm_invariant.proofs.apps.Found.{retired_put, row_put}
use Rattle.rm_invariant.proofs.masters.Allocating.{AllOrdinary}
use Rattle.rm_invariant.specs.events.Asking.{asks_others}
use Rattle.rm_invariant.specs.events.Here.{AreServed, FirstsKnown, IsServedRelease, NoneAbsent}
use Rattle.rm_invariant.specs.events.MainFacts.{IsSilent}
use Rattle.rm_invariant.specs.events.Masters.{are_single, is_single}
use Rattle.rm_invariant.specs.Core.{CoreInvariant, PreservesCore}
use Rattle.rm_invariant.proofs.events.Answered.{other_asks, own_asks}
use Rattle.rm_invariant.proofs.messages.Present.{message_present}
use Rattle.std.specs.Prelude.{All}
use Rattle.std.specs.List.{AllByRecursion}
use Rattle.std.proofs.lemmas.List.Elements.{recursion_from_All}
use Rattle.rm_model.specs.ClientReplies.{is_given}
use Rattle.rm_invariant.specs.messages.Ranges.{IsMasterAsk}
use Rattle.rm_invariant.specs.auxiliary.Parts.{FixedParts, life_parts, fixed_parts, parts_in}
use Rattle.rm_invariant.specs.auxiliary.Invariant.{FinishesKnown, HasNotFinished, MastersSingle, NoneFirst, OthersGo, AuxInvariant, goes_by, goes_numbered}
use Rattle.rm_invariant.proofs.auxiliary.KeptOps.{finishes_stays, goes_stays}
use Rattle.rm_invariant.proofs.auxiliary.MainEvents.{alive_not, alive_over, finishes_none}
use Rattle.rm_invariant.proofs.auxiliary.Parts.{parts_after}
use Rattle.rm_invariant.proofs.auxiliary.Rows.{register_lives, finish_lives, alive_issued, finishes_with_row, goes_on, goes_with_row, same_with, served_append}
use Rattle.rm_invariant.proofs.auxiliary.Together.{RowStays, aux_of, parts_changed, parts_with, rows_of}
use Rattle.rm_invariant.specs.messages.Outcomes.{MessageOutcome}
use Rattle.rm_invariant.specs.messages.Outcomes as comes
use Rattle.rm_model.specs.State.{LifeState}
use Rattle.rm_invariant.specs.messages.LifeOutcomes.{LifeOutcome}
use Rattle.rm_invariant.specs.messages.LifeOutcomes as lives
use Rattle.rm_invariant.proofs.messages.LifeOutcomes.{life_outcome}
use Rattle.rm_invariant.proofs.messages.Outcomes.{message_outcome, registers_live}
use Rattle.rm_master.specs.Answers.{handed_by}

-- WHERE THE ROWS AND WHAT IS ASKED FOR STAY

-- the tables have the same rows, records and asks, and only more events
record Same (t next : Tables) : Type 0 where
  rest : next ≡ record t { nodes = next.nodes; book = next.book; given = next.given; clock = next.clock; main = next.main; sched = next.sched; served = next.served }
  more : List MainEvent
  main : next.main ≡ t.main ++ more
  starts : flat_map starting more ≡ []
  events : List SchedEvent
  sched : next.sched ≡ t.sched ++ events
  quiet : (releases : List Release) → AreServed releases events

more_main : (h : History) (t next : Tables) (more : List MainEvent) → next.main ≡ t.main ++ more → flat_map starting more ≡ [] → next.awaiting ≡ t.awaiting → Lists h t
    → submitted_ids h.apps.submitted ≡ flat_map saving next.awaiting ++ flat_map starting next.main
more_main h t next more main none awaiting lists =
    let behind : flat_map starting (t.main ++ more) ≡ flat_map starting t.main = simp flat_map-append (rw none (append-nil (flat_map starting t.main))) in
    rw (awaiting, main, behind) lists.order

retire_more : (t next : Tables) (more : List MainEvent) → next.main ≡ t.main ++ more → 1 ≤ count_by is_retire t.main → 1 ≤ count_by is_retire next.main
retire_more t next more main some = rw main (let all = count_append is_retire t.main more in omega (arith, all, some))

same_sides : (h g : History) (t next : Tables) → AuxInvariant h t → fixed_parts g ≡ fixed_parts h → Same t next → NoneAbsent next.nodes → OnlyNodesOffer next → AuxInvariant g next
same_sides h g t next sides same places present offers =
    let rows : next.rows ≡ t.rows = ap (λ (one : Tables). one.rows) places.rest in
    let asks : next.asks ≡ t.asks = ap (λ (one : Tables). one.asks) places.rest in
    let tree : next.tree ≡ t.tree = ap (λ (one : Tables). one.tree) places.rest in
    let ended : next.ended ≡ t.ended = ap (λ (one : Tables). one.ended) places.rest in
    let settings : next.settings ≡ t.settings = ap (λ (one : Tables). one.settings) places.rest in
    let waits : next.waits ≡ t.waits = ap (λ (one : Tables). one.waits) places.rest in
    let awaiting : next.awaiting ≡ t.awaiting = ap (λ (one : Tables). one.awaiting) places.rest in
    let going : next.going ≡ t.going = ap (λ (one : Tables). one.going) places.rest in
    let sched : next.sched ≡ t.sched ++ places.events = places.sched in
    aux_of h g t next h.apps.retired h.apps.submitted h.endings.releases same
    (record {
      rows = rw rows (rows_of h t sides);
      completes = completes_still t next sides.completes tree ended settings (retire_more t next places.more places.main);
      apt = rw tree sides.apt;
      present = present;
      others = rw (asks, rows) sides.others;
      single = rw asks sides.single;
      waits = rw waits sides.waits;
      served = rw sched (served_append h.endings.releases t.sched places.events sides.served (places.quiet h.endings.releases));
      offers = offers;
      order = more_main h t next places.more places.main places.starts awaiting sides.lists;
      going = rw (going, tree) sides.lists.going;
      finishes = rw (awaiting, rows) sides.finishes;
    })

module _ (h : History) (t : Tables) (sides : AuxInvariant h t) (n : ℕ) where
  -- nothing changes but how many were served, and may be how many ids were given and what time it is
  idle_same : (given time : ℕ) → Same t (record t { given = given; clock = time; served = n })
  idle_same given time = record { rest = refl; more = []; main = sym (append-nil t.main); starts = refl; events = []; sched = sym (append-nil t.sched); quiet = λ r. tt }

  idle_sides : (g : History) → fixed_parts g ≡ fixed_parts h → (given time : ℕ) → AuxInvariant g (record t { given = given; clock = time; served = n })
  idle_sides g same given time = same_sides h g t (record t { given = given; clock = time; served = n }) sides same (idle_same given time) sides.present sides.offers

  -- A NODE

  beat_quiet : (name : List ℕ) (done : List ContainerId) (releases : List Release) → AreServed releases (beat_events name done)
  beat_quiet name [] releases = tt
  beat_quiet name (id ∷ done) releases = tt

  -- events are posted to the scheduler
  posted_same : (next : Tables) (events : List SchedEvent) → next.sched ≡ t.sched ++ events → ((releases : List Release) → AreServed releases events) → next.main ≡ t.main
      → next ≡ record t { nodes = next.nodes; book = next.book; given = next.given; clock = next.clock; main = next.main; sched = next.sched; served = next.served } → Same t (record next { served = n })
  posted_same next events sched quiet main rest =
      record { rest = ap (λ (one : Tables). record one { served = n }) rest; more = []; main = main ∙ sym (append-nil t.main); starts = refl; events = events; sched = sched; quiet = quiet }

  node_same : (name : List ℕ) (ask : NodeAsk) (reply : Reply) (next : Tables) → MessageOutcome t (messages.Node name ask) reply next → Same t (record next { served = n })
  node_same name ask reply next (comes.idles message one) = idle_same t.given t.clock
  node_same name ask reply next (comes.appears node turn capability running one found) = posted_same next (scheds.NodeAdded node turn ∷ []) refl (λ r. tt) refl refl
  node_same name ask reply next (comes.returns node turn capability running one row found later) = posted_same next (scheds.NodeAdded node turn ∷ []) refl (λ r. tt) refl refl
  node_same name ask reply next (comes.beats node id running done answer so new) = posted_same next (beat_events node done) refl (beat_quiet node done) refl refl

  -- what the life remembers stays, unless a submission joins or an allocation is served
  abbrev LeavesParts : Message → Type 0
  LeavesParts (messages.Client user (clients.Submit id submission)) = ⊥
  LeavesParts (messages.Master attempt (Allocate id asks release)) = ⊥
  LeavesParts _ = Unit {0}

  parts_stay : (m : Scene) (message : Message) (reply : Reply) (life : LifeState) → LeavesParts message → LifeOutcome m message reply life → life_parts life ≡ life_parts m.life
  parts_stay m message reply life leaves (lives.joins user id submission one unknown) = absurd leaves
  parts_stay m message reply life leaves (lives.allocates attempt id asks release one so new) = absurd leaves
  parts_stay m message reply life leaves _ = refl

  -- so they are the same after such a message
  same_parts : (sender : Sender) (message : Message) (reply : Reply) (next : Tables) → LeavesParts message → (s : PreservesCore t.settings h t (Served sender message reply, next)) → fixed_parts s.next ≡ fixed_parts h
  same_parts sender message reply next leaves s =
      let m : Scene = scene (live_state h t) (abstract_life h t) in
      parts_after s.next next (after (live_state h t) (Served sender message reply)) (fixed_parts h) s.step.same (ap Some (parts_stay m message reply (life_after m message reply) leaves (life_outcome m message reply)))

  pub node_sides : (name : List ℕ) (ask : NodeAsk) (reply : Reply) (s : PreservesCore t.settings h t (Served senders.Node (messages.Node name ask) reply, after_node name ask reply t))
      → AuxInvariant s.next (record (after_node name ask reply t) { served = n })
  node_sides name ask reply s =
      let same : fixed_parts s.next ≡ fixed_parts h = same_parts senders.Node (messages.Node name ask) reply (after_node name ask reply t) tt s in
      same_sides h s.next t (record (after_node name ask reply t) { served = n }) sides same (node_same name ask reply (after_node name ask reply t) (message_outcome t (messages.Node name ask) reply)) (message_present (messages.Node name ask) reply t sides.present) (node_offers name ask reply t sides.offers)

  -- THE CLOCK

  clock_same : (ask : ClockAsk) (reply : Reply) (next : Tables) → MessageOutcome t (messages.Clock ask) reply next → Same t (record next { served = n })
  clock_same ask reply next (comes.idles message one) = idle_same t.given t.clock
  clock_same ask reply next (comes.ticks time) = idle_same t.given (t.clock + time)
  clock_same ask reply next (comes.loses name) = posted_same next (scheds.NodeLost name ∷ []) refl (λ r. tt) refl refl
  clock_same ask reply next (comes.expires attempt) = record { rest = refl; more = mains.AttemptExpired attempt ∷ []; main = refl; starts = refl; events = []; sched = sym (append-nil t.sched); quiet = λ r. tt }

  pub clock_sides : (ask : ClockAsk) (reply : Reply) (s : PreservesCore t.settings h t (Served senders.Clock (messages.Clock ask) reply, after_clock ask reply t)) → AuxInvariant s.next (record (after_clock ask reply t) { served = n })
  clock_sides ask reply s =
      let same : fixed_parts s.next ≡ fixed_parts h = same_parts senders.Clock (messages.Clock ask) reply (after_clock ask reply t) tt s in
      same_sides h s.next t (record (after_clock ask reply t) { served = n }) sides same (clock_same ask reply (after_clock ask reply t) (message_outcome t (messages.Clock ask) reply)) (message_present (messages.Clock ask) reply t sides.present) (clock_offers ask reply t sides.offers)

  -- A CLIENT

  -- a submission joins: its application has no row and wasn't removed
  module _ (id : AppId) (submission : Submission) (found : row_of t.rows id ≡ None) (unretired : has_app h.apps.retired id ≡ false) where
    abbrev joined_now : Tables
    joined_now = record (with_submission id submission t) { served = n }

    fresh : is_retired t.rows id ≡ false
    fresh = sides.retired id ∙ unretired

    abbrev rows_now : List (AppId × Option AppRow)
    rows_now = t.rows ++ (id, Some (submitted_row submission)) ∷ []

    row_now : (q : AppId) → row_of rows_now q ≡ put_if (is_app id q) (submitted_row submission) (row_of t.rows q)
    row_now q = row_put id q (submitted_row submission) t.rows fresh

    -- where the application is this one, there was no row
    was_none : (q : AppId) → is_app id q ≡ true → row_of t.rows q ≡ None
    was_none q e = subst (λ (a : AppId). row_of t.rows a ≡ None) (same_app id q e) found

    -- what holds of the new row holds of each
    each_put : (P : AppId → AppRow → Type 0) → ((q : AppId) → is_app id q ≡ true → P q (submitted_row submission)) → ((q : AppId) (row : AppRow) → row_of t.rows q ≡ Some row → P q row) → (q : AppId) (row : AppRow) → row_of rows_now q ≡ Some row → P q row
    each_put P new before q row there = by (is_app id q) refl (row_of t.rows q) refl (sym (row_now q) ∙ there)
      where
        by : (b : Bool) → is_app id q ≡ b → (o : Option AppRow) → row_of t.rows q ≡ o → put_if b (submitted_row submission) o ≡ Some row → P q row
        by true e None is x = let same : submitted_row submission ≡ row = cc in subst (P q) same (new q e)
        by true e (Some one) is x = let y : None ≡ Some one = sym (was_none q e) ∙ is in cc
        by false e o is x = before q row (is ∙ x)

    join_firsts : FirstsKnown (abstract_scene h t) rows_now
    join_firsts q row there = by (is_app id q.app) refl (row_of t.rows q.app) refl (sym (row_now q.app) ∙ there)
      where
        no_core : (b : Bool) → (b && nat_le q.number 0) ≡ false → (b && nat_le q.number 0) ≡ false
        no_core b e = e

        none_first : nat_lt 0 q.number ≡ true → nat_le q.number 0 ≡ false
        none_first e = grind (arith, nat_tests)

        tests : (b : Bool) → nat_lt 0 q.number ≡ b → (b && nat_le q.number 0) ≡ false
        tests true e = none_first e
        tests false e = refl

        by : (b : Bool) → is_app id q.app ≡ b → (o : Option AppRow) → row_of t.rows q.app ≡ o → put_if b (submitted_row submission) o ≡ Some row → attempt_was_first (abstract_scene h t) q ≡ was_first q (Some row)
        by true e None is x =
            let same : submitted_row submission ≡ row = cc in
            let out : has_app h.apps.retired q.app ≡ false = subst (λ (a : AppId). has_app h.apps.retired a ≡ false) (same_app id q.app e) unretired in
            let unrecorded = sides.none_first q.app (was_none q.app e) out in
            subst (λ (r : AppRow). attempt_was_first (abstract_scene h t) q ≡ was_first q (Some r)) same (rw unrecorded (sym (tests (nat_lt 0 q.number) refl)))
        by true e (Some one) is x = let y : None ≡ Some one = sym (was_none q.app e) ∙ is in cc
        by false e o is x = sides.firsts q row (is ∙ x)

    join_others : OthersGo joined_now
    join_others q some = ap (goes_by q.number) (row_now q.app) ∙ by (is_app id q.app) refl (row_of t.rows q.app) refl (sides.others q some)
      where
        by : (b : Bool) → is_app id q.app ≡ b → (o : Option AppRow) → row_of t.rows q.app ≡ o → goes_by q.number o ≡ true → goes_by q.number (put_if b (submitted_row submission) o) ≡ true
        by true e None is g = cc
        by true e (Some one) is g = let y : None ≡ Some one = sym (was_none q.app e) ∙ is in cc
        by false e o is g = g

    join_finishes : FinishesKnown joined_now
    join_finishes q = sides.finishes q ∙ sym (ap (finishes_by q) (row_now q.app) ∙ by (is_app id q.app) refl (row_of t.rows q.app) refl)
      where
        by : (b : Bool) → is_app id q.app ≡ b → (o : Option AppRow) → row_of t.rows q.app ≡ o → finishes_by q (put_if b (submitted_row submission) o) ≡ finishes_by q o
        by true e None is = refl
        by true e (Some one) is = refl
        by false e o is = refl

    join_none : NoneFirst h.first h.apps.retired rows_now
    join_none q none out = by (is_app id q) (row_of t.rows q) refl (sym (row_now q) ∙ none)
      where
        by : (b : Bool) (o : Option AppRow) → row_of t.rows q ≡ o → put_if b (submitted_row submission) o ≡ None → record_of h.first.apps q ≡ None
        by true None is x = cc
        by true (Some one) is x = cc
        by false o is x = sides.none_first q (is ∙ x) out

    join_order : submitted_ids (h.apps.submitted ++ record { id = id; submission = submission } ∷ []) ≡ flat_map saving t.awaiting ++ flat_map starting (t.main ++ mains.AppStart id ∷ [])
    join_order = simp (map-append, flat_map-append, append_assoc) (ap (λ xs. xs ++ id ∷ []) sides.lists.order ∙ simp append_assoc refl)

    join_going : t.going + 1 ≡ length (h.apps.submitted ++ record { id = id; submission = submission } ∷ []) + going_in t.tree.apps
    join_going =
        let before = sides.lists.going in
        let more = length-append h.apps.submitted (record { id = id; submission = submission } ∷ []) in
        omega (arith, before, more)

    joined_sides : (g : History) → fixed_parts g ≡ record (fixed_parts h) { submitted = h.apps.submitted ++ record { id = id; submission = submission } ∷ [] } → AuxInvariant g joined_now
    joined_sides g same =
        aux_of h g t joined_now h.apps.retired (h.apps.submitted ++ record { id = id; submission = submission } ∷ []) h.endings.releases same
        (record {
          rows = record {
            silent = each_put (λ q row. IsSilent row.current row.dialogue) (λ q e. tt) sides.silent;
            firsts = join_firsts;
            none_first = join_none;
            unfinished = each_put (λ q row. HasNotFinished row.current) (λ q e. tt) sides.unfinished;
            known = λ q. retired_put id q (submitted_row submission) t.rows ∙ sides.retired q;
          };
          completes = completes_still t joined_now sides.completes refl refl refl (retire_more t joined_now (mains.AppStart id ∷ []) refl);
          apt = sides.apt;
          present = sides.present;
          others = join_others;
          single = sides.single;
          waits = sides.waits;
          served = sides.served;
          offers = sides.offers;
          order = join_order;
          going = join_going;
          finishes = join_finishes;
        })

  -- a kill is wished for the first time
  module _ (id : AppId) where
    abbrev wished_now : Tables
    wished_now = record t { rows = with_row (changed of_app.Wish) id t.rows; main = t.main ++ mains.AppKill id ∷ []; served = n }

    wished_sides : (g : History) → fixed_parts g ≡ fixed_parts h → AuxInvariant g wished_now
    wished_sides g same =
        aux_of h g t wished_now h.apps.retired h.apps.submitted h.endings.releases same
        (record {
          rows = parts_changed of_app.Wish id t.rows (λ row found. tt) (rows_of h t sides);
          completes = completes_still t wished_now sides.completes refl refl refl (retire_more t wished_now (mains.AppKill id ∷ []) refl);
          apt = sides.apt;
          present = sides.present;
          others = λ q some. same_with (goes_by q.number) (changed of_app.Wish) id q.app t.rows (goes_stays of_app.Wish refl (λ c. refl) q.number) ∙ sides.others q some;
          single = sides.single;
          waits = sides.waits;
          served = sides.served;
          offers = sides.offers;
          order = more_main h t wished_now (mains.AppKill id ∷ []) refl refl refl sides.lists;
          going = sides.lists.going;
          finishes = λ q. sides.finishes q ∙ sym (same_with (finishes_by q) (changed of_app.Wish) id q.app t.rows (finishes_stays of_app.Wish refl (λ c. refl) q));
        })

  -- a submission is taken only where its application wasn't removed
  not_retired : (given retired : Bool) (reply : Reply) → replies.Submitted ≡ (if not given then replies.BadId else (if retired then replies.Retired else reply)) → retired ≡ false
  not_retired true true reply e = cc
  not_retired true false reply e = refl
  not_retired false retired reply e = cc

  module _ (w : CoreInvariant t.settings h t) (known : (id : AppId) → is_known (abstract_scene h t) id ≡ is_some (row_of t.rows id)) (user : List ℕ) where
    -- what the judge remembers of applications, told over the kept operations
    known_there : (id : AppId) → is_known (scene (live_state h t) (abstract_life h t)) id ≡ is_some (row_of t.rows id)
    known_there id = let same = w.keeps.recorded in rw same (known id)

    abbrev ClientSides : ClientAsk → Reply → Type 0
    ClientSides ask reply = (s : PreservesCore t.settings h t (Served senders.Client (messages.Client user ask) reply, after_client ask reply t)) → AuxInvariant s.next (record (after_client ask reply t) { served = n })

    -- nothing changes but what was given
    quiet_client : (ask : ClientAsk) (reply : Reply) (given : ℕ) → record t { given = given; served = n } ≡ record (after_client ask reply t) { served = n }
        → parts_in (after (live_state h t) (Served senders.Client (messages.Client user ask) reply)) ≡ Some (fixed_parts h) → ClientSides ask reply
    quiet_client ask reply given own is s =
        let same : fixed_parts s.next ≡ fixed_parts h = parts_after s.next (after_client ask reply t) (after (live_state h t) (Served senders.Client (messages.Client user ask) reply)) (fixed_parts h) s.step.same is in
        subst (AuxInvariant s.next) own (idle_sides s.next same given t.clock)

    submit_client : (id : AppId) (submission : Submission) (reply : Reply) → reply ≡ client_reply t.settings (abstract_scene h t) user (clients.Submit id submission) → ClientSides (clients.Submit id submission) reply
    submit_client id submission replies.Submitted is = by (row_of t.rows id) refl (known_there id)
      where
        by : (o : Option AppRow) → row_of t.rows id ≡ o → is_known (scene (live_state h t) (abstract_life h t)) id ≡ is_some (row_of t.rows id) → ClientSides (clients.Submit id submission) replies.Submitted
        by None found there =
            let unknown : is_known (scene (live_state h t) (abstract_life h t)) id ≡ false = there ∙ ap is_some found in
            let out = not_retired (is_given (abstract_scene h t) id) (has_app h.apps.retired id) _ is in
            λ s.
            let same : fixed_parts s.next ≡ record (fixed_parts h) { submitted = h.apps.submitted ++ record { id = id; submission = submission } ∷ [] } =
            parts_after s.next (after_client (clients.Submit id submission) replies.Submitted t) (after (live_state h t) (Served senders.Client (messages.Client user (clients.Submit id submission)) replies.Submitted))
            (record (fixed_parts h) { submitted = h.apps.submitted ++ record { id = id; submission = submission } ∷ [] }) s.step.same (rw unknown refl) in
            subst (AuxInvariant s.next) (rw found refl) (joined_sides id submission found out s.next same)
        by (Some row) found there =
            let there_ : is_known (scene (live_state h t) (abstract_life h t)) id ≡ true = there ∙ ap is_some found in
            quiet_client (clients.Submit id submission) replies.Submitted t.given (rw found refl) (rw there_ refl)
    submit_client id submission reply is = quiet_client (clients.Submit id submission) reply t.given refl refl

    client_comes : (ask : ClientAsk) (reply : Reply) (next : Tables) → LeavesParts (messages.Client user ask) → MessageOutcome t (messages.Client user ask) reply next → (g : History) → fixed_parts g ≡ fixed_parts h → AuxInvariant g (record next { served = n })
    client_comes ask reply next leaves (comes.idles message one) g same = idle_sides g same t.given t.clock
    client_comes ask reply next leaves (comes.gives one id) g same = idle_sides g same id.number t.clock
    client_comes ask reply next leaves (comes.joins one id submission found) g same = absurd leaves
    client_comes ask reply next leaves (comes.wishes one id row found new) g same = wished_sides id g same

    other_client : (ask : ClientAsk) (reply : Reply) → LeavesParts (messages.Client user ask) → ClientSides ask reply
    other_client ask reply leaves s =
        client_comes ask reply (after_client ask reply t) leaves (message_outcome t (messages.Client user ask) reply) s.next (same_parts senders.Client (messages.Client user ask) reply (after_client ask reply t) leaves s)

    pub client_sides : (ask : ClientAsk) (reply : Reply) → reply ≡ client_reply t.settings (abstract_scene h t) user ask → ClientSides ask reply
    client_sides (clients.Submit id submission) reply is = submit_client id submission reply is
    client_sides clients.New reply is = other_client clients.New reply tt
    client_sides (clients.Report id) reply is = other_client (clients.Report id) reply tt
    client_sides (clients.Kill id) reply is = other_client (clients.Kill id) reply tt

  -- A MASTER

  -- an attempt lives, by the row of its application
  record Lives (attempt : AttemptId) : Type 0 where
    row : AppRow
    found : row_of t.rows attempt.app ≡ Some row
    current : Current
    is : row.current ≡ Some current
    number : (current.number == attempt.number) ≡ true
    alive : is_alive current.state ≡ true

  lives_found : (attempt : AttemptId) (o : Option AppRow) → row_of t.rows attempt.app ≡ o → lives_by attempt o ≡ true → Lives attempt
  lives_found attempt None found e = cc
  lives_found attempt (Some row) found e = by row.current refl e
    where
      by : (c : Option Current) → row.current ≡ c → lives_with attempt c ≡ true → Lives attempt
      by None is e = cc
      by (Some current) is e = let x = and_parts (current.number == attempt.number) (is_alive current.state) e in record { row = row; found = found; current = current; is = is; number = x.0; alive = x.1 }

  -- one with whose master something was said lives
  spoken_lives : (attempt : AttemptId) (test : Option Dialogue → Bool) → test None ≡ false → test (spoken_by attempt (row_of t.rows attempt.app)) ≡ true → Lives attempt
  spoken_lives attempt test none e = by (row_of t.rows attempt.app) refl e
    where
      by : (o : Option AppRow) → row_of t.rows attempt.app ≡ o → test (spoken_by attempt o) ≡ true → Lives attempt
      by None found e = absurd (false≢true (sym none ∙ e))
      by (Some row) found e = at_test (lives_with attempt row.current) refl e
        where
          at_test : (b : Bool) → lives_with attempt row.current ≡ b → test (spoken_by attempt (Some row)) ≡ true → Lives attempt
          at_test true lives e = lives_found attempt (Some row) found lives
          at_test false lives e = absurd (false≢true (sym none ∙ (let x = rw lives at e in x)))

  -- what is handed over stands where it stood
  handed_nodes : (reply : Reply) (book : BookOf) → (handed_by reply book).nodes ≡ book.nodes
  handed_nodes (replies.Took kept) book = refl
  handed_nodes _ book = refl

  -- a change of the row of an attempt that lives, after which it lives too
  module _ (attempt : AttemptId) (lives : Lives attempt) (f : AppRow → AppRow) (first : (row : AppRow) → (f row).first ≡ row.first) (d : Current) (now : (f lives.row).current ≡ Some d)
      (number : d.number ≡ lives.current.number) (alive : is_alive d.state ≡ true) (flag : d.finished ≡ lives.current.finished) (silent : IsSilent (f lives.row).current (f lives.row).dialogue) where
    talked_goes : (n : ℕ) → goes_by n (Some lives.row) ≡ true → goes_by n (Some (f lives.row)) ≡ true
    talked_goes n e =
        let c = lives.is in
        let x : goes_numbered n (Some lives.current) ≡ true = rw c at e in
        rw now (goes_on n lives.current d number (λ y. rw alive refl) x)

    talked_finishes : (q : AttemptId) → finishes_by q (Some (f lives.row)) ≡ finishes_by q (Some lives.row)
    talked_finishes q = finishes_none t q (f lives.row) d now (alive_not t d.state alive) ∙ sym (finishes_none t q lives.row lives.current lives.is (alive_not t lives.current.state lives.alive))

    talked_stays : (row : AppRow) → row_of t.rows attempt.app ≡ Some row → RowStays row (f row)
    talked_stays row found =
        let c = lives.is in
        let own : lives.row ≡ row = (let x : Some lives.row ≡ Some row = sym lives.found ∙ found in cc) in
        subst (λ (one : AppRow). RowStays one (f one)) own
        (record { silent = λ s. silent; unfinished = λ u. (let early = rw c at u in rw now (λ o. flag ∙ early (alive_over t lives.current.state lives.alive))) })

    talked_sides : (g : History) (next : Tables) → next.rows ≡ with_row f attempt.app t.rows → fixed_parts g ≡ fixed_parts h → (more : List MainEvent) → next.main ≡ t.main ++ more → flat_map starting more ≡ []
        → next.book.nodes ≡ t.book.nodes → next ≡ record t { rows = next.rows; main = next.main; served = next.served; book = next.book } → AuxInvariant g next
    talked_sides g next rows same more main starts offer rest =
        subst (AuxInvariant g) (sym rest)
        (aux_of h g t (record t { rows = next.rows; main = next.main; served = next.served; book = next.book }) h.apps.retired h.apps.submitted h.endings.releases same
        (record {
          rows = rw rows (parts_with f attempt.app t.rows first talked_stays (rows_of h t sides));
          completes = completes_still t (record t { rows = next.rows; main = next.main; served = next.served; book = next.book }) sides.completes refl refl refl (retire_more t (record t { rows = next.rows; main = next.main; served = next.served; book = next.book }) more main);
          apt = sides.apt;
          present = sides.present;
          others = rw rows (λ q some. goes_with_row f attempt.app t.rows lives.row lives.found q.number q.app (talked_goes q.number) (sides.others q some));
          single = sides.single;
          waits = sides.waits;
          served = sides.served;
          offers = rw offer sides.offers;
          order = more_main h t (record t { rows = next.rows; main = next.main; served = next.served; book = next.book }) more main starts refl sides.lists;
          going = sides.lists.going;
          finishes = rw rows (λ q. sides.finishes q ∙ sym (finishes_with_row f attempt.app t.rows lives.row lives.found q (λ e. talked_finishes q)));
        }))

  -- what an attempt asks for after many asks, and what others do
  other_many : (attempt q : AttemptId) → is_attempt attempt q ≡ false → (new : List Ask) (table : List AsksOf) → attempt_asks (all_asked attempt table new) q ≡ attempt_asks table q
  other_many attempt q apart [] table = refl
  other_many attempt q apart (ask ∷ new) table = other_many attempt q apart new (one_asked attempt table ask) ∙ other_asks attempt q apart (asks_set ask (attempt_asks table attempt)) table

  own_many : (attempt : AttemptId) (new : List Ask) (table : List AsksOf) → attempt_asks (all_asked attempt table new) attempt ≡ asks_after (attempt_asks table attempt) new
  own_many attempt [] table = refl
  own_many attempt (ask ∷ new) table = own_many attempt new (one_asked attempt table ask) ∙ ap (λ (asks : List Ask). asks_after asks new) (own_asks attempt (asks_set ask (attempt_asks table attempt)) table)

  -- an ask that isn't for a master leaves each of those for one
  filter_single : (p : Ask → Bool) (asks : List Ask) → are_single asks ≡ true → are_single (filter p asks) ≡ true
  filter_single p [] e = refl
  filter_single p (one ∷ asks) e = by (p one) refl (and_parts (is_single one) (are_single asks) e) (filter_single p asks)
    where
      by : (b : Bool) → p one ≡ b → (is_single one ≡ true) × (are_single asks ≡ true) → (are_single asks ≡ true → are_single (filter p asks) ≡ true) → are_single (filter p (one ∷ asks)) ≡ true
      by true f x rest = let here = x.0 in rw f (rw here (rest x.1))
      by false f x rest = rw f (rest x.1)

  ordinary_single : (ask : Ask) → (ask.priority == 0) ≡ false → is_single ask ≡ true
  ordinary_single ask o = rw o refl

  renewed_single : (ask : Ask) → (ask.priority == 0) ≡ false → (asks : List Ask) → are_single asks ≡ true → are_single (map (renewed_ask ask) asks) ≡ true
  renewed_single ask o [] e = refl
  renewed_single ask o (one ∷ asks) e = by (is_for ask.priority ask.size one) refl (and_parts (is_single one) (are_single asks) e) (renewed_single ask o asks)
    where
      by : (b : Bool) → is_for ask.priority ask.size one ≡ b → (is_single one ≡ true) × (are_single asks ≡ true) → (are_single asks ≡ true → are_single (map (renewed_ask ask) asks) ≡ true) → are_single (map (renewed_ask ask) (one ∷ asks)) ≡ true
      by true f x rest = let own = ordinary_single ask o in rw (f, own) (rest x.1)
      by false f x rest = let here = x.0 in rw (f, here) (rest x.1)

  added_single : (ask : Ask) → (ask.priority == 0) ≡ false → (asks : List Ask) → are_single asks ≡ true → are_single (asks ++ ask ∷ []) ≡ true
  added_single ask o [] e = let own = ordinary_single ask o in rw own refl
  added_single ask o (one ∷ asks) e = let x = and_parts (is_single one) (are_single asks) e in let here = x.0 in rw here (added_single ask o asks x.1)

  set_single : (ask : Ask) → (ask.priority == 0) ≡ false → (asks : List Ask) → are_single asks ≡ true → are_single (asks_set ask asks) ≡ true
  set_single ask o asks e = by (ask.count == 0) (list_any (is_for ask.priority ask.size) asks)
    where
      by : (b c : Bool) → are_single (if b then filter (λ one. not (is_for ask.priority ask.size one)) asks else (if c then map (renewed_ask ask) asks else asks ++ ask ∷ [])) ≡ true
      by true c = filter_single (λ one. not (is_for ask.priority ask.size one)) asks e
      by false true = renewed_single ask o asks e
      by false false = added_single ask o asks e

  after_single : (new : List Ask) → AllOrdinary new → (asks : List Ask) → are_single asks ≡ true → are_single (asks_after asks new) ≡ true
  after_single [] all asks e = e
  after_single (ask ∷ new) all asks e = after_single new all.1 (asks_set ask asks) (set_single ask all.0 asks e)

  -- what was served stays served where more is
  served_more : (releases : List Release) (one : Release) (xs : List SchedEvent) → AreServed releases xs → AreServed (releases ++ one ∷ []) xs
  served_more releases one [] e = tt
  served_more releases one (scheds.Release attempt list ∷ xs) e = (is_more releases e.0, served_more releases one xs e.1)
    where
      is_more : (releases : List Release) → IsServedRelease (record { attempt = attempt; list = list }) releases → IsServedRelease (record { attempt = attempt; list = list }) (releases ++ one ∷ [])
      is_more [] e = absurd e
      is_more (x ∷ releases) (inl e) = inl e
      is_more (x ∷ releases) (inr e) = inr (is_more releases e)
  served_more releases one (_ ∷ xs) e = served_more releases one xs e

  served_last : (one : Release) (releases : List Release) → IsServedRelease one (releases ++ one ∷ [])
  served_last one [] = inl refl
  served_last one (x ∷ releases) = inr (served_last one releases)

  release_served : (attempt : AttemptId) (release : List ContainerId) → AreServed (h.endings.releases ++ record { attempt = attempt; list = release } ∷ []) (release_events attempt release)
  release_served attempt [] = tt
  release_served attempt (id ∷ ids) = (served_last (record { attempt = attempt; list = id ∷ ids }) h.endings.releases, tt)

  -- a new allocation
  module _ (attempt : AttemptId) (id : ℕ) (asks : List Ask) (release : List ContainerId) (reply : Reply) (ordinary : AllOrdinary asks) (lives : Lives attempt) where
    abbrev told_so : AppRow → AppRow
    told_so = told_row (with_answer (id + 1) reply t.book.added) (without_closings attempt)

    abbrev allocated_now : Tables
    allocated_now = record (allocated_with attempt id asks release reply t) { served = n }

    allocated_stays : (row : AppRow) → RowStays row (told_so row)
    allocated_stays row = record { silent = by row.current; unfinished = λ u. u }
      where
        by : (o : Option Current) → IsSilent o row.dialogue → IsSilent o (with_answer (id + 1) reply t.book.added row.dialogue)
        by None e = tt
        by (Some c) e = λ u. let none = e u in rw none refl

    allocated_others : OthersGo allocated_now
    allocated_others q some = by (is_attempt attempt q) refl
      where
        own_row : goes_by attempt.number (row_of t.rows attempt.app) ≡ true
        own_row = let found = lives.found in let c = lives.is in let number = lives.number in let alive = lives.alive in rw (found, c, number, alive) refl

        stays : (a : AttemptId) → goes_by a.number (row_of t.rows a.app) ≡ true → goes_by a.number (row_of (with_row told_so attempt.app t.rows) a.app) ≡ true
        stays a e = same_with (goes_by a.number) told_so attempt.app a.app t.rows (λ row. refl) ∙ e

        by : (b : Bool) → is_attempt attempt q ≡ b → goes_by q.number (row_of (with_row told_so attempt.app t.rows) q.app) ≡ true
        by true same = subst (λ (a : AttemptId). goes_by a.number (row_of (with_row told_so attempt.app t.rows) a.app) ≡ true) (same_attempt attempt q same) (stays attempt own_row)
        by false apart = stays q (sides.others q (sym (ap asks_others (other_many attempt q apart asks t.asks)) ∙ some))

    allocated_single : MastersSingle allocated_now
    allocated_single q = by (is_attempt attempt q) refl
      where
        by : (b : Bool) → is_attempt attempt q ≡ b → are_single (attempt_asks (all_asked attempt t.asks asks) q) ≡ true
        by true same =
            subst (λ (a : AttemptId). are_single (attempt_asks (all_asked attempt t.asks asks) a) ≡ true) (same_attempt attempt q same)
            (ap are_single (own_many attempt asks t.asks) ∙ after_single asks ordinary (attempt_asks t.asks attempt) (sides.single attempt))
        by false apart = ap are_single (other_many attempt q apart asks t.asks) ∙ sides.single q

    allocated_sides : (g : History) → fixed_parts g ≡ record (fixed_parts h) { releases = h.endings.releases ++ record { attempt = attempt; list = release } ∷ [] } → AuxInvariant g allocated_now
    allocated_sides g same =
        aux_of h g t allocated_now h.apps.retired h.apps.submitted (h.endings.releases ++ record { attempt = attempt; list = release } ∷ []) same
        (record {
          rows = parts_with told_so attempt.app t.rows (λ r. refl) (λ row found. allocated_stays row) (rows_of h t sides);
          completes = completes_still t allocated_now sides.completes refl refl refl (λ some. some);
          apt = sides.apt;
          present = sides.present;
          others = allocated_others;
          single = allocated_single;
          waits = sides.waits;
          served = served_append (h.endings.releases ++ record { attempt = attempt; list = release } ∷ []) t.sched (release_events attempt release)
              (served_more h.endings.releases (record { attempt = attempt; list = release }) t.sched sides.served) (release_served attempt release);
          offers = sides.offers;
          order = sides.lists.order;
          going = sides.lists.going;
          finishes = λ q. sides.finishes q ∙ sym (same_with (finishes_by q) told_so attempt.app q.app t.rows (λ row. refl));
        })

  -- more was released, by an allocation that was answered before
  released_sides : (g : History) (one : Release) → fixed_parts g ≡ record (fixed_parts h) { releases = h.endings.releases ++ one ∷ [] } → AuxInvariant g (record t { served = n })
  released_sides g one same =
      aux_of h g t (record t { served = n }) h.apps.retired h.apps.submitted (h.endings.releases ++ one ∷ []) same
      (record {
        rows = rows_of h t sides;
        completes = completes_still t (record t { served = n }) sides.completes refl refl refl (λ some. some);
        apt = sides.apt;
        present = sides.present;
        others = sides.others;
        single = sides.single;
        waits = sides.waits;
        served = served_more h.endings.releases one t.sched sides.served;
        offers = sides.offers;
        order = sides.lists.order;
        going = sides.lists.going;
        finishes = sides.finishes;
      })

  -- what a master is answered
  module _ (w : CoreInvariant t.settings h t) (live : (attempt : AttemptId) → is_live (abstract_scene h t) attempt ≡ lives_by attempt (row_of t.rows attempt.app)) (attempt : AttemptId) where
    abbrev MasterSides : MasterAsk → Reply → Type 0
    MasterSides ask reply = (s : PreservesCore t.settings h t (Served senders.Master (messages.Master attempt ask) reply, after_master attempt ask reply t)) → AuxInvariant s.next (record (after_master attempt ask reply t) { served = n })

    abbrev now_scene : Scene
    now_scene = scene (live_state h t) (abstract_life h t)

    -- the parts after it
    parts_of : (ask : MasterAsk) (reply : Reply) (p : FixedParts) → life_parts (life_after_master now_scene attempt ask reply) ≡ p
        → (s : PreservesCore t.settings h t (Served senders.Master (messages.Master attempt ask) reply, after_master attempt ask reply t)) → fixed_parts s.next ≡ p
    parts_of ask reply p is s =
        parts_after s.next (after_master attempt ask reply t) (after (live_state h t) (Served senders.Master (messages.Master attempt ask) reply)) p s.step.same (ap Some is)

    quiet_master : (ask : MasterAsk) (reply : Reply) → t ≡ after_master attempt ask reply t → life_parts (life_after_master now_scene attempt ask reply) ≡ fixed_parts h → MasterSides ask reply
    quiet_master ask reply own is s =
        subst (λ (next : Tables). AuxInvariant s.next (record next { served = n })) own (idle_sides s.next (parts_of ask reply (fixed_parts h) is s) t.given t.clock)

    register_comes : (reply : Reply) (next : Tables) → MessageOutcome t (messages.Master attempt Register) reply next → reply ≡ register_reply (abstract_scene h t) attempt → (g : History) → fixed_parts g ≡ fixed_parts h → AuxInvariant g (record next { served = n })
    register_comes reply next (comes.idles message one) is g same = idle_sides g same t.given t.clock
    register_comes reply next (comes.registers one answer so) is g same =
        let lives = lives_found attempt (row_of t.rows attempt.app) refl (sym (live attempt) ∙ registers_live (abstract_scene h t) attempt answer so is) in
        let c = lives.is in
        let alive_now = register_lives lives.current.state lives.alive in
        let issued = alive_issued (next_attempt_state lives.current.state attempt_events.Register) alive_now in
        let d : Current = record lives.current { state = next_attempt_state lives.current.state attempt_events.Register; registered = true } in
        talked_sides attempt lives (registered_row (dialogue_begun answer t.book.added)) (λ r. refl) d (rw c refl) refl alive_now refl (rw c (λ e. absurd (let x = rw issued at e in cc))) g
        (record next { served = n }) refl same [] (sym (append-nil t.main)) refl (handed_nodes answer t.book) refl

    finish_comes : (text : List ℕ) (reply : Reply) (next : Tables) → MessageOutcome t (messages.Master attempt (Finish text)) reply next → (g : History) → fixed_parts g ≡ fixed_parts h → AuxInvariant g (record next { served = n })
    finish_comes text reply next (comes.idles message one) g same = idle_sides g same t.given t.clock
    finish_comes text reply next (comes.finishes one words goes) g same =
        let lives = spoken_lives attempt talks_on refl goes in
        let c = lives.is in
        let alive_now = finish_lives lives.current.state lives.alive in
        let issued = alive_issued (next_attempt_state lives.current.state attempt_events.Finish) alive_now in
        let d : Current = record lives.current { state = next_attempt_state lives.current.state attempt_events.Finish } in
        talked_sides attempt lives (said_row (with_text text)) (λ r. refl) d (rw c refl) refl alive_now refl (rw c (λ u. absurd (let x = rw issued at u in cc))) g
        (record next { served = n }) refl same (mains.AttemptFinish attempt ∷ []) refl refl refl refl

    -- where the tables have it that an allocation is new, so has the judge
    dialogue_new : (id : ℕ) (o : Option Dialogue) (p : Option MasterState) → option_map bare_dialogue o ≡ option_map plain_dialogue p → is_new_to id o ≡ true → is_some_and (λ (master : MasterState). id == master.last_id) p ≡ true
    dialogue_new id None p same e = cc
    dialogue_new id (Some one) None same e = cc
    dialogue_new id (Some one) (Some master) same e =
        let alike : bare_dialogue one ≡ plain_dialogue master = cc in
        ap (λ (x : PlainDialogue). id == x.last_id) (sym alike) ∙ e

    new_told : (id : ℕ) → is_new_to id (spoken_by attempt (row_of t.rows attempt.app)) ≡ true → is_new_to_master now_scene attempt id ≡ true
    new_told id e =
        let lives = spoken_lives attempt (is_new_to id) refl e in
        let found = lives.found in
        let c = lives.is in
        let number = lives.number in
        let alive = lives.alive in
        let spoken : is_new_to id lives.row.dialogue ≡ true = rw (found, c, number, alive) at e in
        let agrees : RowAgrees h.masters.registered h.granted (has_app h.apps.retired attempt.app) attempt (Some lives.row) = rw found at (w.agrees.masters attempt) in
        let current : NumberAgrees (lives.current.number == attempt.number) (nat_lt lives.current.number attempt.number) h.masters.registered h.granted attempt lives.row lives.current = rw c at agrees in
        let own : CurrentAgrees h.masters.registered h.granted attempt lives.row lives.current = rw number at current in
        dialogue_new id lives.row.dialogue (session_of h.masters.registered attempt) own.0 spoken

    -- the parts with one more release
    abbrev more_parts : List ContainerId → FixedParts
    more_parts release = record (fixed_parts h) { releases = h.endings.releases ++ record { attempt = attempt; list = release } ∷ [] }

    allocate_master : (id : ℕ) (asks : List Ask) (release : List ContainerId) (reply : Reply) → AllOrdinary asks → MasterSides (Allocate id asks release) reply
    allocate_master id asks release (replies.Allocated next grants ended) ordinary = by (is_new_to id (spoken_by attempt (row_of t.rows attempt.app))) refl
      where
        by : (b : Bool) → is_new_to id (spoken_by attempt (row_of t.rows attempt.app)) ≡ b → MasterSides (Allocate id asks release) (replies.Allocated next grants ended)
        by true e = λ s.
            let lives = spoken_lives attempt (is_new_to id) refl e in
            let told = new_told id e in
            let same : fixed_parts s.next ≡ (more_parts release) = parts_of (Allocate id asks release) (replies.Allocated next grants ended) (more_parts release) (rw told refl) s in
            rw e (allocated_sides attempt id asks release (replies.Allocated next grants ended) ordinary lives s.next same)
        by false e = λ s. rw e (at_judge s (is_new_to_master now_scene attempt id) refl)
          where
            at_judge : (s : PreservesCore t.settings h t (Served senders.Master (messages.Master attempt (Allocate id asks release)) (replies.Allocated next grants ended), after_master attempt (Allocate id asks release) (replies.Allocated next grants ended) t)) (c : Bool)
                → is_new_to_master now_scene attempt id ≡ c → AuxInvariant s.next (record t { served = n })
            at_judge s true told = released_sides s.next (record { attempt = attempt; list = release }) (parts_of (Allocate id asks release) (replies.Allocated next grants ended) (more_parts release) (rw told refl) s)
            at_judge s false told = idle_sides s.next (parts_of (Allocate id asks release) (replies.Allocated next grants ended) (fixed_parts h) (rw told refl) s) t.given t.clock
    allocate_master id asks release reply ordinary = quiet_master (Allocate id asks release) reply refl refl

    -- each ask of a list in its range is for no master
    pub ordinary_asks : (asks : List Ask) → All IsAsk asks → AllOrdinary asks
    ordinary_asks asks all = by asks (recursion_from_All IsAsk asks all)
      where
        by : (asks : List Ask) → AllByRecursion IsAsk asks → AllOrdinary asks
        by [] all = tt
        by (ask ∷ asks) all = (let one = all.0.priority.0 in grind (arith, nat_tests), by asks all.1)

    pub master_sides : (ask : MasterAsk) (reply : Reply) → IsMasterAsk ask → reply ≡ master_reply t.settings (abstract_scene h t) attempt ask → MasterSides ask reply
    master_sides Register reply in_range is = λ s.
        register_comes reply (after_master attempt Register reply t) (message_outcome t (messages.Master attempt Register) reply) is s.next (same_parts senders.Master (messages.Master attempt Register) reply (after_master attempt Register reply t) tt s)
    master_sides (Finish text) reply in_range is = λ s.
        finish_comes text reply (after_master attempt (Finish text) reply t) (message_outcome t (messages.Master attempt (Finish text)) reply) s.next (same_parts senders.Master (messages.Master attempt (Finish text)) reply (after_master attempt (Finish text) reply t) tt s)
    master_sides (Allocate id asks release) reply in_range is = allocate_master id asks release reply (ordinary_asks asks in_range.1.each)
