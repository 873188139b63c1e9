-- A master is answered, as whole steps that keep all that holds of an open life: it registers, it says that it finishes, it allocates.
use Rattle.rm_invariant.proofs.Common.{◌≡◌, ℕ, suc, ◌+◌, List, [], ◌∷◌, ◌++◌, Bool, true, false, ◌&&◌, ◌||◌, not, Option, None, Some, is_none, map, refl, sym, ◌∙◌, ap, subst, arith, if◌then◌else◌, list_any, nat_tests, Ask, Grant, Served, AttemptId, ContainerId, MasterAsk, Register, Finish, Allocate, Reply, Settings, has_registered, is_live, is_registered, released_by, is_new_to_master, life_after_master, master_reply, register_reply, row_allocated, untold_rows, judged_node, LifeState, MasterState, Row, Scene, Dialogue, Tables, row_of, dialogue_begun, with_answer, with_text, without_closings, PlainDialogue, bare_dialogue, plain_dialogue, RefinesLife, lives_by, after_master, allocated_with, is_new_to, registered, release_events, said, goes_on, spoken_by, IsAsk, History, abstract_life, abstract_scene, Closing}
use Rattle.std.proofs.Common.{is_some}
use Rattle.std.specs.Prelude.{option_map, ◌==◌, All}
use Rattle.std.proofs.lemmas.Bool.{eqb-true}
use Rattle.rm_types.specs.declared.messages.Message.TheVariants as messages
use Rattle.rm_types.specs.declared.messages.Sender.TheVariants as senders
use Rattle.rm_types.specs.declared.replies.Reply.TheVariants.{MasterRegistered, Took, Already, Gone, Resync, TooLarge, Full, Allocated, NotRegistered, Finishing, Finished}
use Rattle.rm_types.specs.Resources.{fits}
use Rattle.rm_model.specs.Attempts.{is_finishing, is_last, master_of}
use Rattle.rm_model.specs.Facts.{keeps, kept_end, kept_record}
use Rattle.rm_model.specs.MasterReplies.{allocate_reply, allocated_reply, allocates, earlier_rows, finish_reply, finished_issued, grant_of, has_too_many, late_rows, new_grants, outbox_of, registers, row_kept, takes_over, with_asks}
use Rattle.rm_master.proofs.Replies.{Lives, lives_here, none_lives, row_lives}
use Rattle.rm_master.proofs.Same.{goes_alike, master_same}
use Rattle.rm_invariant.specs.messages.Ranges.{IsMasterAsk}
use Rattle.rm_invariant.specs.nodes.Invariant.{NodesInvariant, NodeInvariant, events_of}
use Rattle.rm_invariant.specs.nodes.Book.{BookInvariant}
use Rattle.rm_invariant.specs.masters.Preserves.{PreservesContainersTo}
use Rattle.rm_invariant.proofs.masters.Allocating.{AllOrdinary, AllReleases, allocated_joins, allocating}
use Rattle.rm_invariant.proofs.masters.ServingLive.{finish_live_joins, register_live_joins}
use Rattle.rm_invariant.specs.events.Refines.{Refines}
use Rattle.rm_invariant.specs.Core.{Nothing, CoreInvariant, PreservesCore}
use Rattle.rm_invariant.proofs.events.KeptMoves.{posted_good}
use Rattle.rm_invariant.proofs.events.Leaving.{stepped_whole}
use Rattle.rm_refinement.specs.Services.{AgreesAround}
use Rattle.rm_invariant.specs.messages.Clients.{FinishesRefine}
use Rattle.rm_invariant.proofs.messages.Answered.{if_open, still_whole}
use Rattle.rm_invariant.proofs.messages.Changes.{any_changed, rows_hold, same_on}
use Rattle.rm_invariant.proofs.messages.Life.{shows_life}
use Rattle.rm_invariant.specs.events.Here.{astray_at}

-- no ask in its range is for a master's container
ordinary : (asks : List Ask) → All IsAsk asks → AllOrdinary asks
ordinary [] each = tt
ordinary (ask ∷ asks) each = ((let least = (each 0 ask (omega arith)).priority.0 in grind (arith, nat_tests)), ordinary asks (λ k d below. each (suc k) d (omega arith)))

-- a release is posted as such, to no node
releases : (attempt : AttemptId) (release : List ContainerId) → AllReleases (release_events attempt release)
releases attempt [] = tt
releases attempt (id ∷ ids) = tt

of_no_node : (attempt : AttemptId) (release : List ContainerId) (q : List ℕ) → events_of q (release_events attempt release) ≡ []
of_no_node attempt [] q = refl
of_no_node attempt (id ∷ ids) q = refl

-- one that is registered has registered
has_by : (m : Scene) (attempt : AttemptId) → is_registered m attempt ≡ true → has_registered m attempt ≡ true
has_by m attempt registered = by (is_live m attempt) (has_registered m attempt) _ registered
  where
    by : (a b c : Bool) → (a && (b && c)) ≡ true → b ≡ true
    by true true c e = refl
    by true false c e = cc
    by false b c e = cc

-- and is live
live_by : (m : Scene) (attempt : AttemptId) → is_registered m attempt ≡ true → is_live m attempt ≡ true
live_by m attempt registered = by (is_live m attempt) _ registered
  where
    by : (a b : Bool) → (a && b) ≡ true → a ≡ true
    by true b e = refl
    by false b e = cc

-- an allocation of an attempt that isn't live is refused
not_live : (settings : Settings) (m : Scene) (attempt : AttemptId) (id : ℕ) (asks : List Ask) (reply : Reply) (o : Option MasterState) → is_live m attempt ≡ false → reply ≡ allocate_reply settings m attempt id asks o → reply ≡ Resync
not_live settings m attempt id asks reply None live is = is
not_live settings m attempt id asks reply (Some master) live is = rw live at is

module _ (settings : Settings) (h : History) (t : Tables) (w : CoreInvariant settings h t) (set : settings ≡ t.settings) (finishes : FinishesRefine h t) (around : AgreesAround (abstract_scene h t) t) (attempt : AttemptId) where
  abbrev now : Scene
  now = abstract_scene h t

  shows : RefinesLife now t
  shows = shows_life settings h t w finishes around

  -- what a master's message comes to
  abbrev Comes : MasterAsk → Reply → Type 0
  Comes ask reply = PreservesCore settings h t (Served senders.Master (messages.Master attempt ask) reply, after_master attempt ask reply t)

  -- by a reply that is another one
  comes_by : (ask : MasterAsk) (reply other : Reply) → reply ≡ other → Comes ask other → Comes ask reply
  comes_by ask reply other is comes = subst (λ (one : Reply). Comes ask one) (sym is) comes

  -- nothing changes
  quiet : (ask : MasterAsk) (reply : Reply) → reply ≡ master_reply settings now attempt ask → after_master attempt ask reply t ≡ t → life_after_master now attempt ask reply ≡ abstract_life h t → Comes ask reply
  quiet ask reply is tables life =
      subst (λ (next : Tables). PreservesCore settings h t (Served senders.Master (messages.Master attempt ask) reply, next)) (sym tables) (still_whole settings h t w (messages.Master attempt ask) reply is life)

  -- the tables agree with the life after a message
  agrees_after : (ask : MasterAsk) (reply : Reply) → reply ≡ master_reply settings now attempt ask → Refines (life_after_master now attempt ask reply) (after_master attempt ask reply t)
  agrees_after ask reply is =
      let s = master_same now t attempt ask reply shows (subst (λ (one : Settings). reply ≡ master_reply one now attempt ask) set is) in
      record { rows = s.rows; nodes = s.nodes; asks = s.asks; closings = s.closings; masters = s.masters }

  -- A MASTER REGISTERS

  joins : is_live now attempt ≡ true → MasterRegistered ≡ register_reply now attempt → Comes Register MasterRegistered
  joins live is =
      stepped_whole settings h t (Served senders.Master (messages.Master attempt Register) MasterRegistered) (registered attempt MasterRegistered t) (registers now attempt MasterRegistered) w.keeps refl refl
      (record { next = _; joins = register_live_joins settings h t w.keeps w.marks w.sound attempt live (dialogue_begun MasterRegistered t.book.added) MasterRegistered h.book (is ∙ sym (if_open t.is_open (register_reply now attempt) _ w.keeps.is_open)) refl (λ test. refl) }) refl w.sound
      (agrees_after Register MasterRegistered is) w.nodes (record { apart = w.book.apart; rows = w.book.rows; left = w.book.left; launches = w.book.launches })

  -- and has containers from earlier attempts
  module _ (kept : List Grant) where
    abbrev change : Row → Row
    change = row_kept (map (λ one. one.id) kept)

    any_same : (test : ContainerId → Bool) → list_any (λ row. test row.id) (map change h.book) ≡ list_any (λ row. test row.id) h.book
    any_same test = any_changed change (λ row. refl) (λ row. refl) (λ id node. test id) h.book

    some_joins : is_live now attempt ≡ true → Took kept ≡ register_reply now attempt → PreservesContainersTo settings h t (Served senders.Master (messages.Master attempt Register) (Took kept), registered attempt (Took kept) t)
    some_joins live is =
        let j = register_live_joins settings h t w.keeps w.marks w.sound attempt live (dialogue_begun (Took kept) t.book.added) (Took kept) (map change h.book) (is ∙ sym (if_open t.is_open (register_reply now attempt) _ w.keeps.is_open)) refl any_same in
        record {
          next = record h { masters = record h.masters { registered = h.masters.registered ++ record { attempt = attempt; last_id = 0; last_reply = Took kept; finishing = None } ∷ [] }; book = map change h.book };
          joins =
              record {
                step = record { lawful = j.step.lawful; same = j.step.same; keeps = record { is_open = j.step.keeps.is_open; recorded = j.step.keeps.recorded; all = j.step.keeps.all } };
                marks = j.marks;
              };
        }

    hands_over : is_live now attempt ≡ true → Took kept ≡ register_reply now attempt → Comes Register (Took kept)
    hands_over live is =
        stepped_whole settings h t (Served senders.Master (messages.Master attempt Register) (Took kept)) (registered attempt (Took kept) t) (takes_over now attempt kept) w.keeps refl refl (some_joins live is) refl w.sound
        (agrees_after Register (Took kept) is)
        (λ q. subst (λ (on : List ContainerId). NodeInvariant (astray_at settings h t) (judged_node h.nodes q) (events_of q t.sched) on) (sym (same_on change (λ row. refl) (λ row. refl) h.book q)) (w.nodes q))
        (let holds = rows_hold change (λ row. refl) (λ row. refl) (abstract_life h t) Nothing w.book in record { apart = holds.apart; rows = holds.rows; left = holds.left; launches = holds.launches })

  register_by : (reply : Reply) → reply ≡ register_reply now attempt → (b : Bool) → is_live now attempt ≡ b → (c : Bool) → has_registered now attempt ≡ c → Comes Register reply
  register_by reply is false live c has = comes_by Register reply Gone (rw live at is) (quiet Register Gone (rw live refl) refl refl)
  register_by reply is true live true has = comes_by Register reply Already (rw (live, has) at is) (quiet Register Already (rw (live, has) refl) refl refl)
  register_by reply is true live false has = by_keep (keeps (kept_record now attempt.app)) refl (rw (live, has) at is)
    where
      by_keep : (k : Bool) → keeps (kept_record now attempt.app) ≡ k → reply ≡ (if k then Took (map grant_of (earlier_rows now attempt)) else MasterRegistered) → Comes Register reply
      by_keep true e so = comes_by Register reply (Took (map grant_of (earlier_rows now attempt))) so (hands_over (map grant_of (earlier_rows now attempt)) live (rw (live, has, e) refl))
      by_keep false e so = comes_by Register reply MasterRegistered so (joins live (rw (live, has, e) refl))

  -- A MASTER FINISHES

  module _ (text : List ℕ) where
    says : is_registered now attempt ≡ true → Finishing ≡ finish_reply now attempt → goes_on (spoken_by attempt (row_of t.rows attempt.app)) ≡ true → Comes (Finish text) Finishing
    says registers_so is goes =
        let live : is_live now attempt ≡ true = live_by now attempt registers_so in
        let agrees = agrees_after (Finish text) Finishing is in
        subst (λ (next : Tables). PreservesCore settings h t (Served senders.Master (messages.Master attempt (Finish text)) Finishing, next)) (rw goes refl)
        (stepped_whole settings h t (Served senders.Master (messages.Master attempt (Finish text)) Finishing) (said attempt text t) (life_after_master now attempt (Finish text) Finishing) w.keeps refl refl
        (record { next = _; joins = finish_live_joins settings h t w.keeps w.marks w.sound attempt live (with_text text) text (is ∙ sym (if_open t.is_open (finish_reply now attempt) _ w.keeps.is_open)) registers_so (has_by now attempt registers_so) }) (rw w.keeps.recorded refl) w.sound
        (subst (λ (next : Tables). Refines (life_after_master now attempt (Finish text) Finishing) next) (rw goes refl) agrees) (rw registers_so w.nodes) (rw registers_so (record { apart = w.book.apart; rows = w.book.rows; left = w.book.left; launches = w.book.launches })))

    not_said : is_registered now attempt ≡ false → Finishing ≡ finish_reply now attempt → goes_on (spoken_by attempt (row_of t.rows attempt.app)) ≡ false → Comes (Finish text) Finishing
    not_said registers_so is goes = quiet (Finish text) Finishing is (rw goes refl) (rw registers_so refl)

    finishes_by : Finishing ≡ finish_reply now attempt → (b : Bool) → lives_by attempt (row_of t.rows attempt.app) ≡ b → Comes (Finish text) Finishing
    finishes_by is false lives =
        let live : is_live now attempt ≡ false = shows.live attempt ∙ lives in
        let none = none_lives attempt (row_of t.rows attempt.app) lives in
        not_said (rw live refl) is (rw none refl)
    finishes_by is true lives =
        let live : is_live now attempt ≡ true = shows.live attempt ∙ lives in
        let here : Lives now t attempt = lives_here now t attempt shows lives in
        let row : spoken_by attempt (row_of t.rows attempt.app) ≡ here.row.dialogue = rw (row_lives attempt (row_of t.rows attempt.app) here.row here.found lives) refl in
        by (is_registered now attempt) refl (ap goes_on row ∙ goes_alike now attempt live here.row.dialogue (master_of now attempt) here.agrees.0 refl)
      where
        by : (b : Bool) → is_registered now attempt ≡ b → goes_on (spoken_by attempt (row_of t.rows attempt.app)) ≡ is_registered now attempt → Comes (Finish text) Finishing
        by true e same = says e is (same ∙ e)
        by false e same = not_said e is (same ∙ e)

    finish_by : (reply : Reply) → reply ≡ finish_reply now attempt → (a : Bool) → (is_some (kept_end now attempt.app) && is_last now attempt) ≡ a
        → (b : Bool) → (is_finishing now attempt || finished_issued now attempt || is_registered now attempt) ≡ b → Comes (Finish text) reply
    finish_by reply is true e b f = comes_by (Finish text) reply Finished (rw e at is) (quiet (Finish text) Finished (rw e refl) refl refl)
    finish_by reply is false e true f = comes_by (Finish text) reply Finishing (rw (e, f) at is) (finishes_by (rw (e, f) refl) (lives_by attempt (row_of t.rows attempt.app)) refl)
    finish_by reply is false e false f = comes_by (Finish text) reply NotRegistered (rw (e, f) at is) (quiet (Finish text) NotRegistered (rw (e, f) refl) refl refl)

  -- A MASTER ALLOCATES

  module _ (id : ℕ) (asks : List Ask) (release : List ContainerId) (ranges : AllOrdinary asks) where
    abbrev ask : MasterAsk
    ask = Allocate id asks release

    -- the reply of one that is taken
    abbrev taken : Reply
    taken = allocated_reply settings now attempt id

    abbrev released : List ContainerId
    released = released_by now (record { attempt = attempt; list = release })

    -- what was granted to the attempt, and what came late to it
    abbrev granted_ids : List ContainerId
    granted_ids = map (λ (row : Row). row.id) (new_grants now attempt)

    abbrev late_ids : List ContainerId
    late_ids = map (λ (row : Row). row.id) (late_rows now attempt)

    abbrev row_served : Row → Row
    row_served = row_allocated granted_ids late_ids released

    -- the life after it
    abbrev life : LifeState
    life = allocates now attempt asks release taken

    abbrev tables : Tables
    tables = allocated_with attempt id asks release taken t

    takes_joins : taken ≡ master_reply settings now attempt ask → is_new_to_master now attempt id ≡ true → PreservesContainersTo settings h t (Served senders.Master (messages.Master attempt ask) taken, tables)
    takes_joins is new =
        let grants : List Grant = map grant_of (untold_rows settings now attempt) in
        let j = allocated_joins settings h t w.keeps w.marks attempt id asks release ranges (id + 1) grants (outbox_of now attempt) (with_answer (id + 1) taken t.book.added) (without_closings attempt) (release_events attempt release) (releases attempt release)
        (is ∙ sym (if_open t.is_open (master_reply settings now attempt ask) _ w.keeps.is_open)) new in
        record {
          next = allocating settings h t w.keeps w.marks attempt id asks release ranges (id + 1) grants (outbox_of now attempt) (with_answer (id + 1) taken t.book.added) (without_closings attempt) (release_events attempt release) (releases attempt release);
          joins =
              record {
                step = record { lawful = j.step.lawful; same = j.step.same; keeps = record { is_open = j.step.keeps.is_open; recorded = j.step.keeps.recorded; all = j.step.keeps.all } };
                marks = j.marks;
              };
        }

    takes_good : NodesInvariant (astray_at settings h t) h.nodes (map row_served h.book) (t.sched ++ release_events attempt release)
    takes_good = λ q.
        subst (λ (on : List ContainerId). NodeInvariant (astray_at settings h t) (judged_node h.nodes q) (events_of q (t.sched ++ release_events attempt release)) on) (sym (same_on row_served (λ row. refl) (λ row. refl) h.book q))
        (posted_good (astray_at settings h t) h t.sched (release_events attempt release) (of_no_node attempt release) w.nodes q)

    takes_holds : BookInvariant life Nothing
    takes_holds =
        let holds = rows_hold row_served (λ row. refl) (λ row. refl) (abstract_life h t) Nothing w.book in
        record { apart = holds.apart; rows = holds.rows; left = holds.left; launches = holds.launches }

    takes : taken ≡ master_reply settings now attempt ask → is_new_to_master now attempt id ≡ true → is_new_to id (spoken_by attempt (row_of t.rows attempt.app)) ≡ true → Comes ask taken
    takes is new new_in =
        let agrees = agrees_after ask taken is in
        subst (λ (next : Tables). PreservesCore settings h t (Served senders.Master (messages.Master attempt ask) taken, next)) (rw new_in refl)
        (stepped_whole settings h t (Served senders.Master (messages.Master attempt ask) taken) tables life w.keeps refl refl (takes_joins is new) (rw (w.keeps.recorded, new) refl) w.sound
        (rw (new, new_in) at agrees) takes_good takes_holds)

    -- one that isn't new changes nothing
    old : (reply : Reply) → reply ≡ master_reply settings now attempt ask → is_new_to id (spoken_by attempt (row_of t.rows attempt.app)) ≡ false → is_new_to_master now attempt id ≡ false → Comes ask reply
    old reply is new_in new = quiet ask reply is (tables_stay reply) (life_stays reply)
      where
        tables_stay : (reply : Reply) → after_master attempt ask reply t ≡ t
        tables_stay (Allocated next grants ended) = rw new_in refl
        tables_stay _ = refl

        life_stays : (reply : Reply) → life_after_master now attempt ask reply ≡ abstract_life h t
        life_stays (Allocated next grants ended) = rw new refl
        life_stays _ = refl

    -- in a dialogue
    said_by : (reply : Reply) → reply ≡ master_reply settings now attempt ask → (here : Lives now t attempt) (one : Dialogue) (master : MasterState) → here.row.dialogue ≡ Some one → master_of now attempt ≡ Some master
        → bare_dialogue one ≡ plain_dialogue master → is_live now attempt ≡ true → spoken_by attempt (row_of t.rows attempt.app) ≡ Some one → Comes ask reply
    said_by reply is here one master in_row in_life same live spoken = by_text master.finishing (rw (live, in_life) refl) (id == master.last_id) refl
      where
        last : one.last_id ≡ master.last_id
        last = ap (λ (x : PlainDialogue). x.last_id) same

        new_told : is_new_to_master now attempt id ≡ (id == master.last_id)
        new_told = rw in_life refl

        new_in : is_new_to id (spoken_by attempt (row_of t.rows attempt.app)) ≡ (id == master.last_id)
        new_in = rw (spoken, last) refl

        not_again : id ≡ master.last_id → (id + 1 == master.last_id) ≡ false
        not_again e = grind (arith, nat_tests)

        by_size : (id == master.last_id) ≡ true → (a b : Bool) → reply ≡ (if a then TooLarge else (if b then Full else allocated_reply settings now attempt master.last_id)) → Comes ask reply
        by_size new true b e = comes_by ask reply TooLarge e (quiet ask TooLarge (sym e ∙ is) refl refl)
        by_size new false true e = comes_by ask reply Full e (quiet ask Full (sym e ∙ is) refl refl)
        by_size new false false e =
            let n : id ≡ master.last_id = eqb-true id master.last_id new in
            let so : reply ≡ taken = e ∙ ap (allocated_reply settings now attempt) (sym n) in
            comes_by ask reply taken so (takes (sym so ∙ is) (new_told ∙ new) (new_in ∙ new))

        by_text : (f : Option (List ℕ)) → is_registered now attempt ≡ is_none f → (new : Bool) → (id == master.last_id) ≡ new → Comes ask reply
        by_text (Some text) registered new e =
            let refused : reply ≡ Resync = rw (in_life, registered) at is in
            comes_by ask reply Resync refused (quiet ask Resync (sym refused ∙ is) refl refl)
        by_text None registered false e = old reply is (new_in ∙ e) (new_told ∙ e)
        by_text None registered true e =
            let first = not_again (eqb-true id master.last_id e) in
            by_size e (list_any (λ one. not (fits one.size settings.greatest)) asks) (has_too_many attempt (with_asks attempt h.asks asks)) (rw (in_life, registered, first, e) at is)

    by_dialogue : (reply : Reply) → reply ≡ master_reply settings now attempt ask → (here : Lives now t attempt) → is_live now attempt ≡ true → spoken_by attempt (row_of t.rows attempt.app) ≡ here.row.dialogue
        → (d : Option Dialogue) (o : Option MasterState) → here.row.dialogue ≡ d → master_of now attempt ≡ o → option_map bare_dialogue d ≡ option_map plain_dialogue o → Comes ask reply
    by_dialogue reply is here live spoken None None in_row in_life e =
        let refused : reply ≡ Resync = rw in_life at is in
        comes_by ask reply Resync refused (quiet ask Resync (sym refused ∙ is) refl refl)
    by_dialogue reply is here live spoken None (Some master) in_row in_life e = cc
    by_dialogue reply is here live spoken (Some one) None in_row in_life e = cc
    by_dialogue reply is here live spoken (Some one) (Some master) in_row in_life e =
        let same : bare_dialogue one ≡ plain_dialogue master = cc in
        said_by reply is here one master in_row in_life same live (spoken ∙ in_row)

    allocate_by : (reply : Reply) → reply ≡ master_reply settings now attempt ask → (b : Bool) → lives_by attempt (row_of t.rows attempt.app) ≡ b → Comes ask reply
    allocate_by reply is false lives =
        let refused = not_live settings now attempt id asks reply (master_of now attempt) (shows.live attempt ∙ lives) is in
        comes_by ask reply Resync refused (quiet ask Resync (sym refused ∙ is) refl refl)
    allocate_by reply is true lives =
        let here : Lives now t attempt = lives_here now t attempt shows lives in
        by_dialogue reply is here (shows.live attempt ∙ lives) (rw (row_lives attempt (row_of t.rows attempt.app) here.row here.found lives) refl) here.row.dialogue (master_of now attempt) refl refl here.agrees.0

  -- an allocation that is answered so is new to the tables where it is new to the judge
  module _ (id : ℕ) (asks : List Ask) (release : List ContainerId) (reply : Reply) (is : reply ≡ master_reply settings now attempt (Allocate id asks release))
      (next : ℕ) (grants : List Grant) (ended : List Closing) (so : reply ≡ Allocated next grants ended) where
    abbrev New : Type 0
    New = is_new_to id (spoken_by attempt (row_of t.rows attempt.app)) ≡ is_new_to_master now attempt id

    not_refused : reply ≡ Resync → New
    not_refused refused = let x : Resync ≡ Allocated next grants ended = sym refused ∙ so in cc

    alike_by : (d : Option Dialogue) (o : Option MasterState) → spoken_by attempt (row_of t.rows attempt.app) ≡ d → master_of now attempt ≡ o → option_map bare_dialogue d ≡ option_map plain_dialogue o → New
    alike_by None None in_row in_life e = rw (in_row, in_life) refl
    alike_by None (Some master) in_row in_life e = cc
    alike_by (Some one) None in_row in_life e = cc
    alike_by (Some one) (Some master) in_row in_life e =
        let same : bare_dialogue one ≡ plain_dialogue master = cc in
        let last : one.last_id ≡ master.last_id = ap (λ (x : PlainDialogue). x.last_id) same in
        rw (in_row, in_life, last) refl

    new_by : (b : Bool) → lives_by attempt (row_of t.rows attempt.app) ≡ b → New
    new_by false lives = not_refused (not_live settings now attempt id asks reply (master_of now attempt) (shows.live attempt ∙ lives) is)
    new_by true lives =
        let here : Lives now t attempt = lives_here now t attempt shows lives in
        alike_by here.row.dialogue (master_of now attempt) (rw (row_lives attempt (row_of t.rows attempt.app) here.row here.found lives) refl) refl here.agrees.0

    pub new_alike : New
    new_alike = new_by (lives_by attempt (row_of t.rows attempt.app)) refl

  -- a master is answered
  pub master_whole : (ask : MasterAsk) (reply : Reply) → IsMasterAsk ask → reply ≡ master_reply settings (abstract_scene h t) attempt ask
      → PreservesCore settings h t (Served senders.Master (messages.Master attempt ask) reply, after_master attempt ask reply t)
  master_whole Register reply ranges is = register_by reply is (is_live now attempt) refl (has_registered now attempt) refl
  master_whole (Finish text) reply ranges is =
      finish_by text reply is (is_some (kept_end now attempt.app) && is_last now attempt) refl (is_finishing now attempt || finished_issued now attempt || is_registered now attempt) refl
  master_whole (Allocate id asks release) reply ranges is =
      allocate_by id asks release (ordinary asks ranges.1.each) reply is (lives_by attempt (row_of t.rows attempt.app)) refl
