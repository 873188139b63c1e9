-- Each row with the released mark has its release on its way: each message keeps it. An allocation marks what it releases, and its release is
-- posted.
use Rattle.rm_invariant.proofs.Common.{◌≡◌, ℕ, List, [], ◌∷◌, ◌++◌, Bool, true, false, not, ◌&&◌, ◌||◌, filter, map, refl, sym, ◌∙◌, subst, if◌then◌else◌, list_any, bytes_eq, list_any-append, false≢true, is_masters_in, Acquired, Running, Ask, Closing, Grant, Served, AttemptId, ContainerId, MasterAsk, Message, Reply, AppRecord, Settings, is_attempt, Records, is_living, released_by, is_granted, has_container, is_new_to_master, master_reply, row_allocated, is_masters, reported, row_beaten, life_after, Row, Scene, scene, SchedEvent, Tables, row_of, after_master, is_new_to, release_events, spoken_by, History, abstract_life, abstract_scene, live_state, ap, LifeState, life_after_master}
use Rattle.rm_types.specs.declared.messages.MasterAsk.TheVariants as masters
use Rattle.rm_types.specs.declared.messages.Message.TheVariants as messages
use Rattle.rm_types.specs.declared.messages.Sender.{Sender}
use Rattle.rm_types.specs.declared.messages.Sender.TheVariants as senders
use Rattle.rm_types.specs.declared.replies.Reply.TheVariants as replies
use Rattle.rm_model.specs.Containers.{is_at_disposal, is_earlier}
use Rattle.rm_model.specs.MasterReplies.{row_kept, late_rows, new_grants}
use Rattle.rm_master.proofs.Granted.{masters_same}
use Rattle.rm_invariant.specs.nodes.Book.{All}
use Rattle.rm_invariant.proofs.nodes.Holds.{all_map}
use Rattle.rm_invariant.proofs.masters.LeavingEvents.{of_once, of_passing}
use Rattle.rm_invariant.specs.Core.{CoreInvariant, PreservesCore}
use Rattle.rm_invariant.specs.messages.Released.{IsOnWay, ReleasesOnWay, is_release_of, keeps_in}
use Rattle.rm_invariant.proofs.messages.Changes.{same_id}
use Rattle.rm_refinement.specs.Services.{AgreesAround}
use Rattle.rm_invariant.specs.messages.Clients.{FinishesRefine}
use Rattle.rm_invariant.proofs.messages.Masters.{new_alike}
use Rattle.rm_invariant.proofs.messages.Marked.{all_later, later_on_way, step_on_way, at_same}
use Rattle.rm_invariant.specs.messages.Outcomes.{after_message, serves_allocation}
use Rattle.rm_invariant.proofs.messages.MessageShapes.{MessageShape, message_shape}
use Rattle.rm_invariant.specs.messages.LifeOutcomes.{LifeOutcome}
use Rattle.rm_invariant.specs.messages.LifeOutcomes as lives
use Rattle.rm_invariant.proofs.messages.LifeOutcomes.{life_outcome}

-- A NODE

-- a beat leaves the marks
module _ (name : List ℕ) (running launched : List ContainerId) (row : Row) where
  same_mark : (row_beaten name running launched row).released ≡ row.released
  same_mark = by (not (bytes_eq row.node name)) (has_container running row.id) (has_container launched row.id && is_granted row.state)
    where
      by : (a b c : Bool) → (if a then row else (if b then record row { state = Running } else (if c then record row { state = Acquired } else row))).released ≡ row.released
      by true b c = refl
      by false true c = refl
      by false false true = refl
      by false false false = refl

  beaten_on_way : (apps : List AppRecord) (sched : List SchedEvent) → IsOnWay apps sched row → IsOnWay apps sched (row_beaten name running launched row)
  beaten_on_way apps sched on marked = let id = same_id name running launched row in rw id (on (sym same_mark ∙ marked))

-- what is handed over has its mark as before
kept_on_way : (apps : List AppRecord) (sched : List SchedEvent) (told : List ContainerId) (row : Row) → IsOnWay apps sched row → IsOnWay apps sched (row_kept told row)
kept_on_way apps sched told row on = on

registered_book : (m : Scene) (apps : List AppRecord) (sched : List SchedEvent) (attempt : AttemptId) (reply : Reply) → All (IsOnWay apps sched) m.life.book → All (IsOnWay apps sched) (life_after_master m attempt masters.Register reply).book
registered_book m apps sched attempt (replies.Took kept) on =
    all_map (IsOnWay apps sched) (IsOnWay apps sched) (row_kept (map (λ one. one.id) kept)) (kept_on_way apps sched (map (λ one. one.id) kept)) m.life.book on
registered_book m apps sched attempt _ on = on

-- a message that is neither a registration of a master nor a new allocation leaves what is said of each row
message_book : (m : Scene) (apps : List AppRecord) (sched : List SchedEvent) (message : Message) (reply : Reply) (life : LifeState) → LifeOutcome m message reply life
    → ((attempt : AttemptId) (id : ℕ) (asks : List Ask) (release : List ContainerId) → message ≡ messages.Master attempt (masters.Allocate id asks release) → serves_allocation reply ≡ true → is_new_to_master m attempt id ≡ true → ⊥)
    → ((attempt : AttemptId) → message ≡ messages.Master attempt masters.Register → ⊥) → All (IsOnWay apps sched) m.life.book → All (IsOnWay apps sched) life.book
message_book m apps sched message reply life (lives.allocates attempt id asks release one so new) old other on = absurd (old attempt id asks release refl so new)
message_book m apps sched message reply life (lives.beats name id running done launched one new) old other on =
    all_map (IsOnWay apps sched) (IsOnWay apps sched) (row_beaten name (reported running) launched) (λ row. beaten_on_way name (reported running) launched row apps sched) m.life.book on
message_book m apps sched message reply life (lives.registers attempt one book) old other on = absurd (other attempt refl)
message_book m apps sched message reply life _ old other on = on

-- and so does each that is no new allocation
life_book : (m : Scene) (apps : List AppRecord) (sched : List SchedEvent) (message : Message) (reply : Reply)
    → ((attempt : AttemptId) (id : ℕ) (asks : List Ask) (release : List ContainerId) → message ≡ messages.Master attempt (masters.Allocate id asks release) → serves_allocation reply ≡ true → is_new_to_master m attempt id ≡ true → ⊥) → All (IsOnWay apps sched) m.life.book → All (IsOnWay apps sched) (life_after m message reply).book
life_book m apps sched (messages.Master attempt masters.Register) reply old on = registered_book m apps sched attempt reply on
life_book m apps sched message reply old on = message_book m apps sched message reply (life_after m message reply) (life_outcome m message reply) old (λ attempt same. cc) on

-- A MASTER

-- an allocation marks what it releases
module _ (m : Scene) (sched : List SchedEvent) (attempt : AttemptId) (release : List ContainerId) where
  -- a container that is released is named by what is posted
  named : (keep : Bool) (list : List ContainerId) (id : ContainerId) → has_container list id ≡ true → (is_attempt id.attempt attempt || (keep && is_earlier id.attempt attempt)) ≡ true → list_any (is_release_of keep id) (release_events attempt list) ≡ true
  named keep [] id among own = cc
  named keep (one ∷ list) id among own = rw (own, among) refl

  or_last : (a b : Bool) → b ≡ true → (a || b) ≡ true
  or_last true b e = refl
  or_last false b e = e

  parts : (a b c : Bool) → (a && (b && not c)) ≡ true → (b ≡ true) × (c ≡ false)
  parts true true false e = (refl, refl)
  parts true true true e = cc
  parts true false c e = cc
  parts false b c e = cc

  abbrev released : List ContainerId
  released = released_by m (record { attempt = attempt; list = release })

  newly : (id : ContainerId) → has_container released id ≡ true → (list_any (is_release_of (keeps_in m.records.apps id) id) (sched ++ release_events attempt release) ≡ true) × (is_masters_in m.records.apps id ≡ false)
  newly id among =
      let test : ContainerId → Bool = λ one. is_living m.life.book one && (is_at_disposal m attempt one && not (is_masters m one)) in
      let both = of_passing test release id (of_once (filter test release) id among) in
      let k = parts (is_living m.life.book id) (is_at_disposal m attempt id) (is_masters m id) both.1 in
      let keep : Bool = keeps_in m.records.apps id in
      (list_any-append (is_release_of keep id) sched (release_events attempt release) ∙ or_last (list_any (is_release_of keep id) sched) _ (named keep release id both.0 (at_same m.records.apps attempt id ∙ k.0)), masters_same m id ∙ k.1)

  allocated_on_way : (told late : List ContainerId) (row : Row) → IsOnWay m.records.apps sched row → IsOnWay m.records.apps (sched ++ release_events attempt release) (row_allocated told late released row)
  allocated_on_way told late row on = by row.released refl (has_container released row.id) refl
    where
      by : (a : Bool) → row.released ≡ a → (b : Bool) → has_container released row.id ≡ b → IsOnWay m.records.apps (sched ++ release_events attempt release) (row_allocated told late released row)
      by true e b f = λ marked. later_on_way m.records.apps sched (release_events attempt release) row on e
      by false e true f = λ marked fresh. newly row.id f
      by false e false f = λ marked. let none : false ≡ true = rw (e, f) at marked in absurd (false≢true none)

-- EACH MESSAGE

module _ (settings : Settings) (h : History) (t : Tables) (on : ReleasesOnWay h t) where
  -- the scene that the judge answers in
  abbrev there : Scene
  there = scene (live_state h t) (abstract_life h t)

  -- a message that is no new allocation
  pub message_on_way : (sender : Sender) (message : Message) (reply : Reply) (s : PreservesCore settings h t (Served sender message reply, after_message message reply t))
      → ((attempt : AttemptId) (id : ℕ) (asks : List Ask) (release : List ContainerId) → message ≡ messages.Master attempt (masters.Allocate id asks release) → serves_allocation reply ≡ true → is_new_to_master there attempt id ≡ true → ⊥) → ReleasesOnWay s.next (after_message message reply t)
  message_on_way sender message reply s old =
      let next : Tables = after_message message reply t in
      let p : MessageShape t message next = message_shape t message reply in
      let tree : next.tree ≡ t.tree = ap (λ (one : Tables). one.tree) p.rest in
      let B : List Row = (life_after there message reply).book in
      let there_on : All (IsOnWay t.tree.apps (t.sched ++ p.events)) B =
      life_book there t.tree.apps (t.sched ++ p.events) message reply old (all_later t.tree.apps t.sched p.events h.book on) in
      step_on_way settings h t (Served sender message reply) next s B refl
      (subst (λ (r : Records). All (IsOnWay r.apps next.sched) B) (sym tree) (subst (λ (l : List SchedEvent). All (IsOnWay t.tree.apps l) B) (sym p.sched) there_on))

  -- of a master
  module _ (w : CoreInvariant settings h t) (set : settings ≡ t.settings) (finishes : FinishesRefine h t) (around : AgreesAround (abstract_scene h t) t) (attempt : AttemptId) where
    abbrev Comes : MasterAsk → Reply → Type 0
    Comes ask reply = PreservesCore settings h t (Served senders.Master (messages.Master attempt ask) reply, after_master attempt ask reply t)

    -- what is released is posted
    released_on_way : (id : ℕ) (asks : List Ask) (release : List ContainerId) (next : ℕ) (grants : List Grant) (ended : List Closing)
        (s : Comes (masters.Allocate id asks release) (replies.Allocated next grants ended)) → is_new_to_master there attempt id ≡ true → is_new_to id (spoken_by attempt (row_of t.rows attempt.app)) ≡ true
        → ReleasesOnWay s.next (after_master attempt (masters.Allocate id asks release) (replies.Allocated next grants ended) t)
    released_on_way id asks release next grants ended s new new_in =
        let told : List ContainerId = map (λ (row : Row). row.id) (new_grants there attempt) in
        let late : List ContainerId = map (λ (row : Row). row.id) (late_rows there attempt) in
        let change : Row → Row = row_allocated told late (released_by there (record { attempt = attempt; list = release })) in
        let P : Row → Type 0 = IsOnWay t.tree.apps t.sched in
        let Q : Row → Type 0 = IsOnWay t.tree.apps (t.sched ++ release_events attempt release) in
        let changed : (row : Row) → P row → Q (change row) =
        subst (λ (r : Records). (row : Row) → IsOnWay r.apps t.sched row → IsOnWay r.apps (t.sched ++ release_events attempt release) (change row)) w.keeps.recorded (allocated_on_way there t.sched attempt release told late) in
        step_on_way settings h t (Served senders.Master (messages.Master attempt (masters.Allocate id asks release)) (replies.Allocated next grants ended))
        (after_master attempt (masters.Allocate id asks release) (replies.Allocated next grants ended) t) s (map change h.book) (rw new refl) (rw new_in (all_map P Q change changed h.book on))

    pub master_on_way : (ask : MasterAsk) (reply : Reply) → reply ≡ master_reply settings (abstract_scene h t) attempt ask → (s : PreservesCore settings h t (Served senders.Master (messages.Master attempt ask) reply, after_master attempt ask reply t))
        → ReleasesOnWay s.next (after_master attempt ask reply t)
    master_on_way (masters.Allocate id asks release) (replies.Allocated next grants ended) is s =
        by (is_new_to_master there attempt id) refl (new_alike settings h t w set finishes around attempt id asks release (replies.Allocated next grants ended) is next grants ended refl)
      where
        by : (b : Bool) → is_new_to_master there attempt id ≡ b → is_new_to id (spoken_by attempt (row_of t.rows attempt.app)) ≡ is_new_to_master there attempt id
            → ReleasesOnWay s.next (after_master attempt (masters.Allocate id asks release) (replies.Allocated next grants ended) t)
        by true e same = released_on_way id asks release next grants ended s e (same ∙ e)
        by false e same = message_on_way senders.Master (messages.Master attempt (masters.Allocate id asks release)) (replies.Allocated next grants ended) s
            (λ other one list some same_message so new. let y : attempt ≡ other = cc in let z : id ≡ one = cc in false≢true (sym e ∙ rw (y, z) new))
    master_on_way ask reply is s = message_on_way senders.Master (messages.Master attempt ask) reply s (λ other one list some same_message so new. cc)
