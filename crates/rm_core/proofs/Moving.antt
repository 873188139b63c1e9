-- Each move, whether it was made or refused, keeps what holds, and does what it says.
use Rattle.std.proofs.Common.{◌∙◌, ◌≡◌, ◌≢◌, ℕ, ◌+◌, ◌*◌, ◌<◌, ◌≤◌, ◌^◌, max, List, [], ◌∷◌, ◌++◌, Bool, true, false, not, ◌&&◌, ◌||◌, Option, None, Some, Ok, Err, Result, length, refl, sym, ap, subst, arith}
use Rattle.std.specs.Prelude.{OnOk, OnErr, slice_get}
use Rattle.std.proofs.lemmas.Bool.{and_parts, not-true}
use Rattle.rm_types.specs.declared.entries.Entry.{Entry}
use Rattle.rm_types.specs.declared.entries.Entry.TheVariants.{Blown as BlownEntry, Down as DownEntry, Handed, Kept as KeptEntry, Opened, Served, Settled}
use Rattle.rm_types.specs.declared.ids.AppId.{AppId}
use Rattle.rm_types.specs.declared.ids.ContainerId.{ContainerId}
use Rattle.rm_types.specs.declared.messages.Lane.TheVariants.{Client, End, Hand as HandLane, Main as MainLane, Write}
use Rattle.rm_types.specs.declared.messages.Message.{Message}
use Rattle.rm_types.specs.declared.messages.Message.TheVariants as messages
use Rattle.rm_types.specs.declared.operations.Op.{Op}
use Rattle.rm_types.specs.declared.settings.Settings.{Settings}
use Rattle.rm_types.specs.declared.replies.Reply.{Reply}
use Rattle.rm_types.specs.declared.replies.Reply.TheVariants.{NotOpen}
use Rattle.rm_types.specs.Lanes.{feed_lane, sender_of}
use Rattle.rm_types.specs.Lists.{is_nil}
use Rattle.rm_types.specs.Ranges.{IsOperation}
use Rattle.rm_types.specs.Records.{Records, fits_records, records}
use Rattle.rm_types.specs.Limits.{greatest_stamp, most_served}
use Rattle.rm_types.proofs.TestLemmas.{not_nil, nil_is}
use Rattle.rm_queues.specs.Rules.{KeepsRules}
use Rattle.rm_model.specs.Facts.{attempts_in}
use Rattle.rm_model.specs.State.{Manager}
use Rattle.rm_tables.specs.declared.events.MainEvent.{MainEvent}
use Rattle.rm_tables.specs.declared.events.SchedEvent.{SchedEvent}
use Rattle.rm_tables.specs.declared.events.Refused.{Refused}
use Rattle.rm_tables.specs.declared.tables.Tables.{Tables}
use Rattle.rm_tables.specs.Actions.{found_in, main_worked, sched_worked}
use Rattle.rm_tables.specs.KeptOps.{kept}
use Rattle.rm_tables.specs.Lives.{begun, tables_gone_down, handed_out, is_ready_lane, may_go_down, refused as refused_by}
use Rattle.rm_tables.specs.MainEvents.{main_step}
use Rattle.rm_tables.specs.SchedEvents.{EndsByEvent, sched_step}
use Rattle.rm_refinement.specs.History.{History}
use Rattle.rm_invariant.specs.messages.Ranges.{IsMessage, KeepsLimits}
use Rattle.rm_invariant.proofs.measure.Lives.{begin_weighs, blow_lighter, down_weighs}
use Rattle.rm_invariant.specs.Phases.{Simulates}
use Rattle.rm_invariant.specs.Invariant.{LifeInvariant}
use Rattle.rm_invariant.proofs.Phases.{blow_leads, down_leads, fits_in, framed_in, goes_leads, hand_leads, handed_awaits, keep_leads, main_called, main_leads, recorded_of, sched_leads, serving_open, serving_shut, shut_serves, unblown_of}
use Rattle.rm_book.specs.Books.{IsBook}
use Rattle.rm_invariant.specs.Transitions.{BookFollowsTable, NodesFollowTable, RowsFollowTables}
use Rattle.rm_invariant.proofs.ContainerTransitions.{book_stays, client_containers, clock_containers, kept_containers, main_event_containers, node_containers, sched_containers, served_containers}
use Rattle.rm_invariant.proofs.Transitions.{client_goes, clock_goes, kept_goes, main_goes, master_goes, node_goes, rows_stay, sched_goes}
use Rattle.rm_invariant.proofs.NodeTransitions.{client_nodes, clock_nodes, kept_nodes, main_event_nodes, master_nodes, node_nodes, nodes_stay, sched_nodes}
use Rattle.rm_invariant.proofs.Settling.{settle_leads}
use Rattle.rm_core.specs.declared.manager.Move.{Move}
use Rattle.rm_core.specs.declared.manager.Move.TheVariants.{Begin, Blown, Down, Hand, Kept, Main, Sched, Serve, Settle}
use Rattle.rm_core.specs.Moves.{CanBeginOver, MoveEffect, LifeAround, StatesFollowTables}
use Rattle.rm_core.specs.Invariant.{HasPhase, IsSoundCore, LogInvariant}
use Rattle.rm_core.specs.Queues.{after_answer, answered_where, landed_in, own_tree, served_moved}
use Rattle.rm_core.specs.Seen.{IsToBeKept, Seen, handed_op}
use Rattle.rm_core.specs.Serving.{IsReply, IsReplyWhere, IsServed}
use Rattle.rm_core.specs.Words.{new_manager}
use Rattle.rm_core.proofs.Lives.{begin_keeps, begin_sound}
use Rattle.rm_types.specs.Alike.{IsAlike}
use Rattle.rm_core.proofs.Alike.{like_length}
use Rattle.rm_invariant.specs.measure.Measure.{begin_measure, untried_measure, measure}
use Rattle.rm_core.proofs.Queued.{main_told, sched_told}
use Rattle.rm_core.proofs.Refusing.{main_framed, open_framed, sched_framed, unblown_framed}
use Rattle.rm_core.proofs.Serving.{serve_goes, serve_weighs}
use Rattle.rm_core.proofs.Standing.{keeps_more, sound_after, sound_with}
use Rattle.rm_core.proofs.Stores.{main_none, sched_none, tree_with}

abbrev pub seen_of : Tables → List Entry → Seen
seen_of t log = record { settings = t.settings; tables = t; log = log }

-- the manager before its first life is the same after a move
began_on : {h : History} {t next : Tables} {e : Entry} → Simulates h t e next → new_manager next.alloc next.settings ≡ new_manager t.alloc t.settings
began_on leads = rw (leads.alloc, leads.settings) refl

-- what a move comes to, made or refused
pub record Done (m : Move) (t next : Tables) (log longer : List Entry) (r : Result (Unit {0}) Refused) : Type 0 where
  pub sound : HasPhase next
  pub settings : next.settings ≡ t.settings
  pub does : OnOk r (MoveEffect m (seen_of t log) (seen_of next longer))

-- a move of a life that stands leaves the manager with its queues
pub core_sound : (queues : Option Settings) (m : Move) (t next : Tables) (log longer : List Entry) (r : Result (Unit {0}) Refused) → IsSoundCore queues t → OnErr r ((next ≡ t) × (longer ≡ log))
    → (LifeAround m t.alive next.alive → t.alive ≡ true) → Done m t next log longer r → IsSoundCore queues next
core_sound queues m t next log longer (Err e) s err stood done = rw err.0 s
core_sound None m t next log longer (Ok x) s err stood done = absurd (let lives = stood done.does.stands in let dead = s.queues_are in let no = sym lives ∙ dead in cc)
core_sound (Some queues) m t next log longer (Ok x) s err stood done = record { rules = rw done.settings s.rules; limits = rw done.settings s.limits; queues_are = s.queues_are ∙ sym done.settings; sound = done.sound }

-- and one that begins a life has them
pub begun_sound : (queues : Settings) (m : Move) (t next : Tables) (log longer : List Entry) (r : Result (Unit {0}) Refused) → KeepsRules t.settings → KeepsLimits t.settings → queues ≡ t.settings → Done m t next log longer r → IsSoundCore (Some queues) next
begun_sound queues m t next log longer r rules limits are done = record { rules = rw done.settings rules; limits = rw done.settings limits; queues_are = are ∙ sym done.settings; sound = done.sound }

refused : (m : Move) (t next : Tables) (log longer : List Entry) (e : Refused) → HasPhase t → next ≡ t → Done m t next log longer (Err e)
refused m t next log longer e s same = record { sound = rw same s; settings = rw same refl; does = tt }

module _ (t : Tables) (log : List Entry) (s : HasPhase t) where
  -- the first event of the main queue
  main_made : (event : MainEvent) (rest : List MainEvent) → t.main ≡ event ∷ rest → (x : Unit {0}) → Done Main t (main_worked (main_step event t)).1 log (log ++ (main_worked (main_step event t)).0 ∷ []) (Ok x)
  main_made event rest front x =
      let own = main_leads s.history t event rest s.phase front in
      let told = main_told t rest event front in
      record {
        sound = sound_after t s (main_worked (main_step event t)).0 (main_worked (main_step event t)).1 own.leads own.stood (main_none (main_worked (main_step event t)).0 told.lane) (main_framed s.history t event rest s.phase front);
        settings = own.leads.settings;
        does = record {
          added = record { entry = (main_worked (main_step event t)).0; of_move = told.lane; added = refl };
          lawful = λ opening k from.
              keeps_more opening log t (main_worked (main_step event t)).1 (main_worked (main_step event t)).0 k own.stood (record { leads = (main_leads k.history t event rest k.phase front).leads; own = told.own });
          ready = rw front refl;
          weighs = own.decreases;
          stands = (own.stood, own.stands);
          served = own.served;
          blown = own.blown;
          tables = tt;
          states = (main_goes s.history t event rest s.phase front, main_event_nodes t event rest front, main_event_containers t event rest front);
          settings = own.leads.settings;
          began = began_on own.leads;
        };
      }

  -- where its lane is ready, the epoch and the attempts of each application leave room for one more
  pub main_room : is_ready_lane t MainLane ≡ true → (t.epoch + 1 < 2 ^ 32) × ((id : AppId) → length (attempts_in (found_in t id)) + 1 < 2 ^ 32)
  main_room ready = by t.main refl
    where
      by : (main : List MainEvent) → t.main ≡ main → (t.epoch + 1 < 2 ^ 32) × ((id : AppId) → length (attempts_in (found_in t id)) + 1 < 2 ^ 32)
      by [] front = absurd (let x = rw front at ready in cc)
      by (event ∷ rest) front = main_called s.history t event rest s.phase front

  pub main_done : (next : Tables) (longer : List Entry) (r : Result (Unit {0}) Refused)
      → OnOk r ((event : MainEvent) (rest : List MainEvent) → t.main ≡ event ∷ rest → (next ≡ (main_worked (main_step event t)).1) × (longer ≡ log ++ (main_worked (main_step event t)).0 ∷ []))
      → OnOk r (t.main ≢ []) → OnErr r ((next ≡ t) × (longer ≡ log)) → Done Main t next log longer r
  main_done next longer (Err e) ok some err = refused Main t next log longer e s err.0
  main_done next longer (Ok x) ok some err = by t.main refl
    where
      by : (main : List MainEvent) → t.main ≡ main → Done Main t next log longer (Ok x)
      by [] front = absurd (some front)
      by (event ∷ rest) front = let is = ok event rest front in rw (is.0, is.1) (main_made event rest front x)

  -- the first event of the scheduler's queue
  sched_made : IsBook t.book → (event : SchedEvent) (list : List ContainerId) (rest : List SchedEvent) → t.sched ≡ event ∷ rest → EndsByEvent event t list → (x : Unit {0}) → Done Sched t (sched_worked (sched_step event list t)).1 log (log ++ (sched_worked (sched_step event list t)).0 ∷ []) (Ok x)
  sched_made lawful event list rest front ends x =
      let own = sched_leads s.history t event list rest s.phase front ends in
      let told = sched_told t rest event front list in
      record {
        sound = sound_after t s (sched_worked (sched_step event list t)).0 (sched_worked (sched_step event list t)).1 own.leads own.stood (sched_none (sched_worked (sched_step event list t)).0 told.lane) (sched_framed s.history t event list rest s.phase front ends);
        settings = own.leads.settings;
        does = record {
          added = record { entry = (sched_worked (sched_step event list t)).0; of_move = told.lane; added = refl };
          lawful = λ opening k from.
              keeps_more opening log t (sched_worked (sched_step event list t)).1 (sched_worked (sched_step event list t)).0 k own.stood (record { leads = (sched_leads k.history t event list rest k.phase front ends).leads; own = told.own });
          ready = rw front refl;
          weighs = own.decreases;
          stands = (own.stood, own.stands);
          served = own.served;
          blown = own.blown;
          tables = tt;
          states = (sched_goes t event list, sched_nodes t event list, sched_containers t lawful event list);
          settings = own.leads.settings;
          began = began_on own.leads;
        };
      }

  pub sched_done : IsBook t.book → (next : Tables) (longer : List Entry) (r : Result (Unit {0}) Refused)
      → OnOk r ((event : SchedEvent) (rest : List SchedEvent) → t.sched ≡ event ∷ rest → (list : List ContainerId) × EndsByEvent event t list × (next ≡ (sched_worked (sched_step event list t)).1) × (longer ≡ log ++ (sched_worked (sched_step event list t)).0 ∷ []))
      → OnOk r (t.sched ≢ []) → OnErr r ((next ≡ t) × (longer ≡ log)) → Done Sched t next log longer r
  sched_done lawful next longer (Err e) ok some err = refused Sched t next log longer e s err.0
  sched_done lawful next longer (Ok x) ok some err = by t.sched refl
    where
      by : (sched : List SchedEvent) → t.sched ≡ sched → Done Sched t next log longer (Ok x)
      by [] front = absurd (some front)
      by (event ∷ rest) front = let is = ok event rest front in rw (is.2, is.3) (sched_made lawful event is.0 rest front is.1 x)

  -- the first awaiting operation is handed
  pub hand_done : (next : Tables) (longer : List Entry) (r : Result (Unit {0}) Refused) → OnOk r ((next ≡ handed_out t) × (longer ≡ log ++ Handed ∷ [])) → OnOk r (is_ready_lane t HandLane ≡ true)
      → OnErr r ((next ≡ t) × (longer ≡ log)) → Done Hand t next log longer r
  hand_done next longer (Err e) ok ready err = refused Hand t next log longer e s err.0
  hand_done next longer (Ok x) ok ready err =
      let first = and_parts t.alive (not (is_nil t.awaiting) && (not t.handed && not t.blown)) ready in
      let second = and_parts (not (is_nil t.awaiting)) (not t.handed && not t.blown) first.1 in
      let free = not-true t.handed (and_parts (not t.handed) (not t.blown) second.1).0 in
      let some = not_nil t.awaiting second.0 in
      let unblown = not-true t.blown (and_parts (not t.handed) (not t.blown) second.1).1 in
      let own = hand_leads s.history t s.phase first.0 some free unblown in
      rw (ok.0, ok.1) (record {
        sound = sound_after t s Handed (handed_out t) own.leads own.stood (λ h x. refl) s.framed;
        settings = refl;
        does = record {
          added = record { entry = Handed; of_move = refl; added = refl };
          lawful = λ opening k from. keeps_more opening log t (handed_out t) Handed k own.stood (record { leads = (hand_leads k.history t k.phase first.0 some free unblown).leads; own = refl });
          ready = ready;
          weighs = own.decreases;
          stands = (own.stood, own.stands);
          served = refl;
          blown = refl;
          tables = tt;
          states = (rows_stay t.rows, nodes_stay t.nodes, book_stays t.book);
          settings = refl;
          began = refl;
        };
      })

  -- the operation that is with the store is the first awaiting one
  handed_first : (op : Op) (rest : List Op) → t.awaiting ≡ op ∷ rest → t.alive ≡ true → t.handed ≡ true → handed_op t ≡ Some op
  handed_first op rest m alive hd = rw (alive, hd, m) refl

  -- and is kept
  keep_made : (op : Op) (rest : List Op) → t.awaiting ≡ op ∷ rest → t.alive ≡ true → t.handed ≡ true → (x : Unit {0}) → Done Kept t (kept op t) log (log ++ KeptEntry op ∷ []) (Ok x)
  keep_made op rest front a hd x =
      let own = keep_leads s.history t op rest s.phase a hd front in
      record {
        sound = sound_with t s (KeptEntry op) (kept op t) op own.leads (framed_in s.history t op rest s.phase a hd front) (fits_in s.history t op rest s.phase a hd front) (tree_with s.history t op (kept op t) s.phase own.leads a) (unblown_framed (kept op t) (own.blown ∙ unblown_of s.history t s.phase a hd));
        settings = own.leads.settings;
        does = record {
          added = record { entry = KeptEntry op; of_move = (op, handed_first op rest front a hd, refl); added = refl };
          lawful = λ opening k from. keeps_more opening log t (kept op t) (KeptEntry op) k own.stood (record { leads = (keep_leads k.history t op rest k.phase a hd front).leads; own = refl });
          ready = rw (a, hd) refl;
          weighs = own.decreases;
          stands = (own.stood, own.stands);
          served = own.served;
          blown = own.blown;
          tables = tt;
          states = (kept_goes op t, kept_nodes t op, kept_containers t op);
          settings = own.leads.settings;
          began = began_on own.leads;
        };
      }

  pub keep_done : (next : Tables) (longer : List Entry) (r : Result (Unit {0}) Refused)
      → OnOk r ((op : Op) (rest : List Op) → t.awaiting ≡ op ∷ rest → (next ≡ kept op t) × (longer ≡ log ++ KeptEntry op ∷ [])) → OnOk r (is_ready_lane t Write ≡ true)
      → OnErr r ((next ≡ t) × (longer ≡ log)) → Done Kept t next log longer r
  keep_done next longer (Err e) ok ready err = refused Kept t next log longer e s err.0
  keep_done next longer (Ok x) ok ready err = by t.awaiting refl
    where
      by : (awaiting : List Op) → t.awaiting ≡ awaiting → Done Kept t next log longer (Ok x)
      by [] front = let lives = and_parts t.alive t.handed ready in absurd (handed_awaits s.history t s.phase lives.0 lives.1 front)
      by (op ∷ rest) front = let lives = and_parts t.alive t.handed ready in let is = ok op rest front in rw (is.0, is.1) (keep_made op rest front lives.0 lives.1 x)

  -- or refused
  pub blow_done : (passed : ℕ) (next : Tables) (longer : List Entry) (r : Result (Unit {0}) Refused) → OnOk r ((next ≡ refused_by t) × (longer ≡ log ++ BlownEntry passed ∷ [])) → OnOk r (is_ready_lane t Write ≡ true)
      → OnErr r ((next ≡ t) × (longer ≡ log)) → Done (Blown passed) t next log longer r
  blow_done passed next longer (Err e) ok ready err = refused (Blown passed) t next log longer e s err.0
  blow_done passed next longer (Ok x) ok ready err =
      let lives = and_parts t.alive t.handed ready in
      let leads = blow_leads s.history t passed s.phase lives.0 lives.1 in
      rw (ok.0, ok.1) (record {
        sound = sound_after t s (BlownEntry passed) (refused_by t) leads lives.0 (λ h x. refl) (λ blew op rest front. framed_in s.history t op rest s.phase lives.0 lives.1 front);
        settings = refl;
        does = record {
          added = record { entry = BlownEntry passed; of_move = refl; added = refl };
          lawful = λ opening k from. keeps_more opening log t (refused_by t) (BlownEntry passed) k lives.0 (record { leads = blow_leads k.history t passed k.phase lives.0 lives.1; own = refl });
          ready = ready;
          weighs = blow_lighter t lives.1 (unblown_of s.history t s.phase lives.0 lives.1);
          stands = (lives.0, lives.0);
          served = refl;
          blown = refl;
          tables = tt;
          states = (rows_stay t.rows, nodes_stay t.nodes, book_stays t.book);
          settings = refl;
          began = refl;
        };
      })

  -- what awaits while an operation is with the store, and that it fits
  pub write_awaits : is_ready_lane t Write ≡ true → t.awaiting ≢ []
  write_awaits ready = let lives = and_parts t.alive t.handed ready in handed_awaits s.history t s.phase lives.0 lives.1

  pub write_fits : is_ready_lane t Write ≡ true → (op : Op) (rest : List Op) → t.awaiting ≡ op ∷ rest → fits_records t.tree op ≡ true
  write_fits ready op rest front = let lives = and_parts t.alive t.handed ready in fits_in s.history t op rest s.phase lives.0 lives.1 front

  -- the segment settles
  pub settle_done : (longer : List Entry) (r : Result (Unit {0}) Refused) → OnOk r (longer ≡ log ++ Settled ∷ []) → OnOk r (is_ready_lane t End ≡ true) → OnErr r (longer ≡ log) → Done Settle t t log longer r
  settle_done longer (Err e) ok ready err = refused Settle t t log longer e s refl
  settle_done longer (Ok x) ok ready err =
      let first = and_parts t.alive (is_nil t.main && (is_nil t.sched && is_nil t.awaiting)) ready in
      let second = and_parts (is_nil t.main) (is_nil t.sched && is_nil t.awaiting) first.1 in
      let third = and_parts (is_nil t.sched) (is_nil t.awaiting) second.1 in
      let m = nil_is t.main second.0 in
      let n = nil_is t.sched third.0 in
      let w = nil_is t.awaiting third.1 in
      rw ok (record {
        sound = s;
        settings = refl;
        does = record {
          added = record { entry = Settled; of_move = refl; added = refl };
          lawful = λ opening k from. keeps_more opening log t t Settled k first.0 (record { leads = settle_leads k.history t k.phase first.0 m n w; own = refl });
          ready = ready;
          weighs = omega arith;
          stands = (first.0, first.0);
          served = refl;
          blown = refl;
          tables = refl;
          states = (rows_stay t.rows, nodes_stay t.nodes, book_stays t.book);
          settings = refl;
          began = refl;
        };
      })

  -- the life goes down
  pub down_done : (next : Tables) (longer : List Entry) (r : Result (Unit {0}) Refused) → OnOk r ((next ≡ tables_gone_down t) × (longer ≡ log ++ DownEntry ∷ [])) → OnOk r (may_go_down t ≡ true)
      → OnErr r ((next ≡ t) × (longer ≡ log)) → Done Down t next log longer r
  down_done next longer (Err e) ok ready err = refused Down t next log longer e s err.0
  down_done next longer (Ok x) ok ready err =
      let lives = and_parts t.alive (not t.handed) ready in
      let free = not-true t.handed lives.1 in
      let leads = down_leads s.history t s.phase lives.0 free in
      rw (ok.0, ok.1) (record {
        sound = sound_after t s DownEntry (tables_gone_down t) leads lives.0 (λ h x. refl) s.framed;
        settings = refl;
        does = record {
          added = record { entry = DownEntry; of_move = refl; added = refl };
          lawful = λ opening k from. keeps_more opening log t (tables_gone_down t) DownEntry k lives.0 (record { leads = down_leads k.history t k.phase lives.0 free; own = refl });
          ready = ready;
          weighs = down_weighs t free;
          stands = (lives.0, refl);
          served = refl;
          blown = refl;
          tables = tt;
          states = tt;
          settings = refl;
          began = refl;
        };
      })

  -- a life begins
  pub begin_done : KeepsLimits t.settings → (tree own : Records) (handed : ℕ) → t.alive ≡ false → CanBeginOver own → own ≡ own_tree log t tree → IsAlike own tree → handed ≤ greatest_stamp → (next : Tables) (longer : List Entry) (r : Result (Unit {0}) Refused)
      → OnOk r ((next ≡ begun own (max handed (own.stamp + 1)) t) × (longer ≡ log ++ Opened (landed_in t tree) own.next_epoch (max handed (own.stamp + 1)) ∷ []))
      → OnErr r ((next ≡ t) × (longer ≡ log)) → Done (Begin tree handed) t next log longer r
  begin_done limits tree own handed a over is_own like high next longer (Err e) ok err = refused (Begin tree handed) t next log longer e s err.0
  begin_done limits tree own handed a over is_own like high next longer (Ok x) ok err =
      let above : own.stamp < max handed (own.stamp + 1) = omega arith in
      let fits = over.stamp in
      let within : max handed (own.stamp + 1) < 2 ^ 63 = omega arith in
      let few = like_length own tree like in
      let weight_ : measure (begun own (max handed (own.stamp + 1)) t) ≤ begin_measure t.settings tree = subst (λ (n : ℕ). measure (begun own (max handed (own.stamp + 1)) t) ≤ 7 + (10 + untried_measure t.settings.max_attempts) * n) few (begin_weighs own (max handed (own.stamp + 1)) t) in
      rw (ok.0, ok.1) (record {
        sound = begin_sound t tree own (max handed (own.stamp + 1)) limits over above within;
        settings = refl;
        does = record {
          added = record { entry = Opened (landed_in t tree) own.next_epoch (max handed (own.stamp + 1)); of_move = rw (like.epoch, like.stamp) refl; added = refl };
          lawful = λ opening k from. begin_keeps t tree own (max handed (own.stamp + 1)) limits over above within opening log k a is_own from.first;
          ready = rw a refl;
          weighs = weight_;
          stands = (a, refl);
          served = refl;
          blown = refl;
          tables = tt;
          states = tt;
          settings = refl;
          began = refl;
        };
      })

  -- the lanes of all senders are ready alike
  feed_ready : (message : Message) → is_ready_lane t (feed_lane (sender_of message)) ≡ is_ready_lane t Client
  feed_ready (messages.Client user ask) = refl
  feed_ready (messages.Master attempt ask) = refl
  feed_ready (messages.Node name ask) = refl
  feed_ready (messages.Clock ask) = refl

  -- a life that is open
  pub serving_runs : is_ready_lane t Client ≡ true → t.is_open ≡ true → LifeInvariant s.history t
  serving_runs ready open_ = serving_open s.history t s.phase (and_parts t.alive (t.is_open || t.blown) ready).0 open_

  -- what a message of an open life does to the rows
  serve_rows : IsBook t.book → LifeInvariant s.history t → (message : Message) (reply : Reply) → t.is_open ≡ true → IsReply t message reply → StatesFollowTables (Serve message) t (served_moved message reply t)
  serve_rows lawful r message reply open_ answers =
      subst (λ (b : Bool). RowsFollowTables t.rows (answered_where b message reply t).rows × NodesFollowTable t.nodes (answered_where b message reply t).nodes × BookFollowsTable t.book (answered_where b message reply t).book) (sym open_)
      (by message (subst (λ (b : Bool). IsReplyWhere b t message reply) open_ answers))
    where
      by : (message : Message) → IsReplyWhere true t message reply → RowsFollowTables t.rows (after_answer message reply t).rows × NodesFollowTable t.nodes (after_answer message reply t).nodes × BookFollowsTable t.book (after_answer message reply t).book
      by (messages.Client user ask) answers = (client_goes t ask reply, client_nodes t ask reply, client_containers t lawful ask reply)
      by (messages.Master attempt ask) answers = (master_goes t attempt ask reply, master_nodes t attempt ask reply, served_containers s.history t r lawful attempt ask reply answers)
      by (messages.Node name ask) answers = (node_goes t name ask reply, node_nodes t name ask reply, node_containers t lawful name ask reply)
      by (messages.Clock ask) answers = (clock_goes t ask reply, clock_nodes t ask reply, clock_containers t lawful ask reply)

  -- a message of an open life is answered
  open_made : IsBook t.book → (message : Message) → IsMessage message → t.served < most_served → is_ready_lane t Client ≡ true → t.is_open ≡ true → (reply : Reply) → IsReply t message reply → (x : Unit {0})
      → Done (Serve message) t (served_moved message reply t) log (log ++ Served (sender_of message) message reply ∷ []) (Ok x)
  open_made lawful message in_range few ready open_ reply answers x =
      let lives = and_parts t.alive (t.is_open || t.blown) ready in
      let r = serving_runs ready open_ in
      let goes = serve_goes s.history t r few message reply in_range answers in
      let leads = goes_leads s.history t (Served (sender_of message) message reply) (served_moved message reply t) lives.0 goes in
      record {
        sound = sound_after t s (Served (sender_of message) message reply) (served_moved message reply t) leads lives.0 (λ h x. refl) (open_framed goes.history (served_moved message reply t) goes.runs);
        settings = leads.settings;
        does = record {
          added = record { entry = Served (sender_of message) message reply; of_move = (reply, refl); added = refl };
          lawful = λ opening k from.
              let run = serving_open k.history t k.phase lives.0 open_ in
              keeps_more opening log t (served_moved message reply t) (Served (sender_of message) message reply) k lives.0
              (record { leads = goes_leads k.history t (Served (sender_of message) message reply) (served_moved message reply t) lives.0 (serve_goes k.history t run few message reply in_range answers); own = refl });
          ready = feed_ready message ∙ ready;
          weighs = serve_weighs s.history t r message reply in_range;
          stands = (lives.0, goes.stays.alive ∙ lives.0);
          served = refl;
          blown = goes.stays.blown;
          tables = tt;
          states = serve_rows lawful r message reply open_ answers;
          settings = leads.settings;
          began = began_on leads;
        };
      }

  -- one of a life that blew before it was open
  shut_made : (message : Message) → is_ready_lane t Client ≡ true → t.is_open ≡ false → (x : Unit {0})
      → Done (Serve message) t (record t { served = t.served + 1 }) log (log ++ Served (sender_of message) message NotOpen ∷ []) (Ok x)
  shut_made message ready closed x =
      let lives = and_parts t.alive (t.is_open || t.blown) ready in
      let blew : t.blown ≡ true = let b = lives.1 in rw closed at b in
      let leads = shut_serves s.history t message (serving_shut s.history t s.phase lives.0 closed blew) in
      record {
        sound = sound_after t s (Served (sender_of message) message NotOpen) (record t { served = t.served + 1 }) leads lives.0 (λ h x. refl) s.framed;
        settings = refl;
        does = record {
          added = record { entry = Served (sender_of message) message NotOpen; of_move = (NotOpen, refl); added = refl };
          lawful = λ opening k from.
              keeps_more opening log t (record t { served = t.served + 1 }) (Served (sender_of message) message NotOpen) k lives.0
              (record { leads = shut_serves k.history t message (serving_shut k.history t k.phase lives.0 closed blew); own = rw closed refl });
          ready = feed_ready message ∙ ready;
          weighs = omega arith;
          stands = (lives.0, lives.0);
          served = refl;
          blown = refl;
          tables = tt;
          states = (rows_stay t.rows, nodes_stay t.nodes, book_stays t.book);
          settings = refl;
          began = refl;
        };
      }

  -- a message is answered
  serve_made : IsBook t.book → (message : Message) → IsMessage message → t.served < most_served → is_ready_lane t Client ≡ true → (b : Bool) → t.is_open ≡ b → (reply : Reply) → IsReply t message reply → (x : Unit {0})
      → Done (Serve message) t (served_moved message reply t) log (log ++ Served (sender_of message) message reply ∷ []) (Ok x)
  serve_made lawful message in_range few ready true open_ reply answers x = open_made lawful message in_range few ready open_ reply answers x
  serve_made lawful message in_range few ready false closed reply answers x =
      let is : reply ≡ NotOpen = subst (λ (b : Bool). IsReplyWhere b t message reply) closed answers in
      let same : served_moved message reply t ≡ record t { served = t.served + 1 } = ap (λ (b : Bool). record (answered_where b message reply t) { served = t.served + 1 }) closed in
      subst (λ (next : Tables). Done (Serve message) t next log (log ++ Served (sender_of message) message reply ∷ []) (Ok x)) (sym same)
      (subst (λ (r : Reply). Done (Serve message) t (record t { served = t.served + 1 }) log (log ++ Served (sender_of message) message r ∷ []) (Ok x)) (sym is) (shut_made message ready closed x))

  pub serve_done : IsBook t.book → (message : Message) → IsMessage message → t.served < most_served → (next : Tables) (longer : List Entry) (r : Result (Unit {0}) Refused)
      → OnOk r (IsServed t next log longer message) → OnOk r (is_ready_lane t Client ≡ true) → OnErr r ((next ≡ t) × (longer ≡ log)) → Done (Serve message) t next log longer r
  serve_done lawful message in_range few next longer (Err e) ok ready err = refused (Serve message) t next log longer e s err.0
  serve_done lawful message in_range few next longer (Ok x) ok ready err = rw (ok.2, ok.3) (serve_made lawful message in_range few ready t.is_open refl ok.0 ok.1 x)

  -- a message is refused where its lane isn't ready
  pub serve_unready : (message : Message) → is_ready_lane t Client ≡ false → is_ready_lane t (feed_lane (sender_of message)) ≡ false
  serve_unready message unready = feed_ready message ∙ unready

-- what is with the store is the first awaiting operation of a life that stands
handed_front : (t : Tables) (op : Op) → handed_op t ≡ Some op → (a b : Bool) → t.alive ≡ a → t.handed ≡ b → (ops : List Op) → t.awaiting ≡ ops → (t.alive ≡ true) × ((t.handed ≡ true) × ((rest : List Op) × (t.awaiting ≡ op ∷ rest)))
handed_front t op h true true a b [] w = absurd (let x = rw (a, b, w) at h in cc)
handed_front t op h true true a b (first ∷ rest) w = let x = rw (a, b, w) at h in let same : first ≡ op = cc in (a, (b, (rest, w ∙ ap (λ (o : Op). o ∷ rest) same)))
handed_front t op h true false a b ops w = absurd (let x = rw (a, b) at h in cc)
handed_front t op h false b a c ops w = absurd (let x = rw a at h in cc)

-- it can be framed
pub handed_framed : (t : Tables) → HasPhase t → (op : Op) → handed_op t ≡ Some op → IsOperation op
handed_framed t s op h = let is = handed_front t op h t.alive t.handed refl refl t.awaiting refl in framed_in s.history t op is.1.1.0 s.phase is.0 is.1.0 is.1.1.1

-- and fits what is kept
pub handed_next : (t : Tables) (op : Op) → handed_op t ≡ Some op → (opening : List Op) (log : List Entry) → LogInvariant opening log t → IsToBeKept opening (seen_of t log) op
handed_next t op h opening log k =
    let is = handed_front t op h t.alive t.handed refl refl t.awaiting refl in
    let front = is.1.1.1 in
    let recorded = recorded_of k.history t k.phase is.0 in
    let fits : fits_records (records k.history.kept) op ≡ true = rw recorded (fits_in k.history t op is.1.1.0 k.phase is.0 is.1.0 front) in
    record {
      first = ap (λ (m : Manager). slice_get m.awaiting 0) k.same ∙ rw front refl;
      fits = subst (λ (m : Manager). fits_records (records m.kept) op ≡ true) (sym k.same) fits;
    }

-- no store's lane is ready where nothing is with the store
pub none_handed : (t : Tables) → HasPhase t → (a h : Bool) → t.alive ≡ a → t.handed ≡ h → handed_op t ≡ None → is_ready_lane t Write ≡ false
none_handed t s true false a h n = rw (a, h) refl
none_handed t s false h a e n = rw a refl
none_handed t s true true a h n = by t.awaiting refl
  where
    by : (ops : List Op) → t.awaiting ≡ ops → is_ready_lane t Write ≡ false
    by [] w = absurd (handed_awaits s.history t s.phase a h w)
    by (op ∷ rest) w = absurd (let x = rw (a, h, w) at n in cc)
