-- A container that a node named as done is accounted for once what the node said is worked off.
use Rattle.rm_laws.proofs.Common.{◌≡◌, ◌⊎◌, ℕ, ◌+◌, List, [], ◌∷◌, ◌++◌, Bool, true, false, ◌||◌, ◌&&◌, ◌==◌, not, cond, if◌then◌else◌, Option, None, Some, is_some, is_none, map, filter, find, flat_map, fold, refl, sym, ap, subst, arith, ◌∙◌, inl, inr, list_any, list_any-append, nat_tests, nat_lt, option_and_then, slice_get, IsSomeAnd, any-filter_same, and_parts, or_left, or_right, or_parts, not-true, bytes_eq, fold_push, Ask, Grant, Held, Entry, Opened, Issued, Kept, Served, Absorbed, Pass, Ended, Down, AttemptId, ContainerId, Message, Op, Epoch, App, Attempt, AttemptEnd, AppEnd, Remove, AppRecord, AttemptRecord, Reply, Settings, is_attempt, is_container, same_attempt, same_container, same_text, Records, records, recorded, no_records, record_of, all_ended, fits_records, is_some_and, last_attempt, LifeState, Manager, NodeState, Row, Scene, scene, opening_state, attempts_in, has_container, is_living, lives_elsewhere, lives_on, is_held, is_registered, judged_node, tidied, with_judged_node, allocates, beats, expired, nodes_registered, reported, row_beaten, row_allocated, row_granted, life_after, life_issues, life_keeps, reply_to, Allowed, AllowedIn, MayPass, after, after_all, AllAllowed, Allocate}
use Rattle.rm_types.specs.declared.containers.Cause.{Cause}
use Rattle.rm_types.specs.declared.containers.Cause.TheVariants.{Gone}
use Rattle.rm_types.specs.declared.containers.Closing.{Closing}
use Rattle.rm_types.specs.declared.containers.ClosingOf.{ClosingOf}
use Rattle.rm_types.proofs.IdLemmas.{attempt_back, attempt_itself, container_itself}
use Rattle.rm_types.proofs.TestLemmas.{none_from_is_none, text_itself}
use Rattle.rm_model.specs.Attempts.{has_lost_master, master_of, attempt_was_first, heir, is_masters, is_wanted, unended}
use Rattle.rm_model.specs.Containers.{closing_for, closings, is_astray, is_missing, is_told, leave, once, without_launches}
use Rattle.rm_model.specs.Facts.{app_goes_on, is_attempt_end_op, keeps}
use Rattle.rm_model.specs.Nodes.{beat_at, is_idle, tidied_node, without_idle}
use Rattle.rm_model.specs.State.{Beat, Expired, Registered, Registration, Undone}
use Rattle.rm_model.specs.Owed.{Owed, losing, working}
use Rattle.rm_model.specs.Rules.{AllowedWhere}
use Rattle.rm_types.specs.declared.entries.Entry.TheVariants.{Settled}
use Rattle.std.specs.Prelude.{Contains}
use Rattle.rm_types.proofs.TestLemmas.{found_passes}
use Rattle.rm_model.specs.Facts.{end_in, is_known, is_submitted}
use Rattle.std.proofs.Common.{suc}
use Rattle.rm_laws.proofs.Fine.{at_own, some_and}
use Rattle.rm_laws.proofs.Views.{Fitting, fitting-front, is_of, other_view}
use Rattle.rm_types.specs.declared.messages.Message.TheVariants.{Master as FromMaster, Node as FromNode}
use Rattle.rm_types.specs.declared.replies.Reply.TheVariants as replies
use Rattle.rm_model.specs.MasterReplies.{is_new_to_master, allocate_reply, allocated_reply, has_too_many, outbox_of, row_kept, with_asks}
use Rattle.rm_model.specs.Absorbing.{absorbed, absorbs, with_taken}
use Rattle.rm_model.specs.Passing.{passed, passes, without_granted, pass_of}
use Rattle.rm_types.specs.Resources.{fits}
use Rattle.std.specs.Prelude.{unwrap_or}
use Rattle.std.proofs.Common.{drop}
use Rattle.rm_model.specs.State.{MasterState}
use Rattle.rm_model.specs.NodeReplies.{is_new_to_node, beaten, new_node, node_after_registration}
use Rattle.rm_laws.proofs.Book.{found, lives-map, lives-filter, lives-taken}
use Rattle.rm_laws.proofs.Cleans.{has_once, not_both}
use Rattle.rm_laws.proofs.Grants.{pass_new}
use Rattle.rm_laws.proofs.Lists.{Each, each-map}
use Rattle.rm_laws.proofs.Messages.{Changes, served}
use Rattle.rm_laws.proofs.NoneStray.{whole_after, whole_opening}
use Rattle.rm_laws.proofs.Told.{either_true}
use Rattle.rm_laws.proofs.Walks.{after-append, goes_on as along, walk}
use Rattle.rm_types.specs.Records.{stray}
use Rattle.rm_types.specs.declared.messages.NodeAsk.TheVariants.{Beat as AskBeat}
use Rattle.rm_types.specs.declared.messages.Sender.{Sender}
use Rattle.rm_laws.proofs.Phases.{state}
use Rattle.rm_laws.proofs.Stray.{Whole}
use Rattle.rm_types.specs.declared.entries.Entry.TheVariants.{Ordered}
use Rattle.rm_laws.specs.Laws.{CountsAsDone, DoneNamed, EndsAreTold, IsEndTold, IsWorkedOff, elsewhere, stops_attempt, is_new_beat, state_later, tells_closing, tells_end, to_be_told, was_told}
use Rattle.rm_laws.proofs.Rows.{beaten_stays}
use Rattle.rm_laws.proofs.RowsFit.{node_all}

-- what is said of a container by the record of its application
module _ (c : ContainerId) (t : AttemptId) where
  abbrev pub own_record : Option AppRecord → Option AttemptRecord
  own_record r = find (λ one. is_attempt one.id c.attempt) (attempts_in r)

  abbrev pub masters_by : Option AppRecord → Bool
  masters_by r = is_some r && (not (is_some (own_record r)) || is_some_and (λ one. is_container one.master c) (own_record r))

  abbrev pub wanted_by : Option AppRecord → Bool
  wanted_by r = app_goes_on r && (is_some (own_record r) && (is_none (option_and_then (λ one. one.ending) (own_record r)) || (keeps r && not (masters_by r))))

  abbrev heir_by : Option AppRecord → Option AttemptId
  heir_by r = option_and_then unended (last_attempt (attempts_in r))

  -- it is wanted, and the attempt is the heir
  pub record Stands (r : Option AppRecord) : Type 0 where
    pub wanted : wanted_by r ≡ true
    pub heir : heir_by r ≡ Some t

  no_heir : (attempts : List AttemptRecord) → all_ended attempts ≡ true → option_and_then unended (last_attempt attempts) ≡ None
  no_heir [] h = refl
  no_heir (a ∷ []) h = go a.ending refl h
    where
      go : (o : Option _) → a.ending ≡ o → (is_some o && true) ≡ true → (if is_none a.ending then Some a.id else None) ≡ None
      go None e h = cc
      go (Some x) e h = rw e refl
  no_heir (a ∷ next ∷ more) h = no_heir (next ∷ more) (and_parts (is_some a.ending) (all_ended (next ∷ more)) h).1

  ended_none : (attempts : List AttemptRecord) → all_ended attempts ≡ true → option_and_then unended (last_attempt attempts) ≡ Some t → ⊥
  ended_none attempts ended h = let x : None ≡ Some t = sym (no_heir attempts ended) ∙ h in cc

  last_is : (l : AttemptRecord) → unended l ≡ Some t → l.id ≡ t
  last_is l h = go (is_none l.ending) h
    where
      go : (b : Bool) → (if b then Some l.id else None) ≡ Some t → l.id ≡ t
      go true h = let x : l.id ≡ t = cc in x
      go false h = cc

  -- of the operations of its application that fit only the end of the heir does
  blocks : (r : Records) (op : Op) → Stands (record_of r.apps c.attempt.app) → is_of c.attempt.app op ≡ true → fits_records r op ≡ true → is_attempt_end_op t op ≡ true
  blocks r (Epoch next stamp) s own fits = cc
  blocks r (App id submission) s own fits =
      let none = none_from_is_none (record_of r.apps id) fits in
      let here : record_of r.apps c.attempt.app ≡ None = sym (at_own c.attempt.app id r own) ∙ none in
      let x : None ≡ Some t = sym (ap heir_by here) ∙ s.heir in cc
  blocks r (Attempt id master node) s own fits =
      let a = some_and (λ app. is_none app.ending && (all_ended app.attempts && (id.number == _))) (record_of r.apps id.app) fits in
      let b = and_parts (is_none a.0.ending) (all_ended a.0.attempts && _) a.2 in
      let e = and_parts (all_ended a.0.attempts) _ b.1 in
      let here : record_of r.apps c.attempt.app ≡ Some a.0 = sym (at_own c.attempt.app id.app r own) ∙ a.1 in
      absurd (ended_none a.0.attempts e.0 (sym (ap heir_by here) ∙ s.heir))
  blocks r (AttemptEnd id how text) s own fits =
      let a = some_and (λ app. is_some_and (λ last. is_attempt last.id id && is_none last.ending) (last_attempt app.attempts)) (record_of r.apps id.app) fits in
      let l = some_and (λ last. is_attempt last.id id && is_none last.ending) (last_attempt a.0.attempts) a.2 in
      let here : record_of r.apps c.attempt.app ≡ Some a.0 = sym (at_own c.attempt.app id.app r own) ∙ a.1 in
      let h : option_and_then unended (Some l.0) ≡ Some t = sym (ap (λ (o : Option AttemptRecord). option_and_then unended o) l.1) ∙ (sym (ap heir_by here) ∙ s.heir) in
      let same : l.0.id ≡ t = last_is l.0 h in
      let at : is_attempt l.0.id id ≡ true = (and_parts (is_attempt l.0.id id) (is_none l.0.ending) l.2).0 in
      attempt_back id t ∙ subst (λ (i : AttemptId). is_attempt i id ≡ true) same at
  blocks r (AppEnd id how text) s own fits =
      let a = some_and (λ app. is_none app.ending && all_ended app.attempts) (record_of r.apps id) fits in
      let b = and_parts (is_none a.0.ending) (all_ended a.0.attempts) a.2 in
      let here : record_of r.apps c.attempt.app ≡ Some a.0 = sym (at_own c.attempt.app id r own) ∙ a.1 in
      absurd (ended_none a.0.attempts b.1 (sym (ap heir_by here) ∙ s.heir))
  blocks r (Remove id) s own fits =
      let a = some_and (λ app. is_some app.ending) (record_of r.apps id) fits in
      let here : record_of r.apps c.attempt.app ≡ Some a.0 = sym (at_own c.attempt.app id r own) ∙ a.1 in
      let w : wanted_by (Some a.0) ≡ true = sym (ap wanted_by here) ∙ s.wanted in
      let goes : is_none a.0.ending ≡ true = (and_parts (is_none a.0.ending) _ w).0 in
      let none = none_from_is_none a.0.ending goes in
      let x : false ≡ true = sym (ap (λ (o : Option _). is_some o) none) ∙ a.2 in cc

  record_stays : (r : Records) (op : Op) → Stands (record_of r.apps c.attempt.app) → fits_records r op ≡ true → is_attempt_end_op t op ≡ false → record_of (recorded r op).apps c.attempt.app ≡ record_of r.apps c.attempt.app
  record_stays r op s fits lasts = go (is_of c.attempt.app op) refl
    where
      go : (b : Bool) → is_of c.attempt.app op ≡ b → record_of (recorded r op).apps c.attempt.app ≡ record_of r.apps c.attempt.app
      go true own = let x : true ≡ false = sym (blocks r op s own fits) ∙ lasts in cc
      go false other = other_view c.attempt.app r op other

-- where a container lives
pub living_home : (book : List Row) (c : ContainerId) → ((o : List ℕ) → lives_on book o c ≡ false) → is_living book c ≡ false
living_home [] c out = refl
living_home (row ∷ book) c out = go (is_container row.id c) refl (living_home book c (λ o. (or_parts (is_container row.id c && bytes_eq row.node o) (lives_on book o c) (out o)).1))
  where
    go : (b : Bool) → is_container row.id c ≡ b → is_living book c ≡ false → (is_container row.id c || is_living book c) ≡ false
    go true e more =
        let x = (or_parts (is_container row.id c && bytes_eq row.node row.node) (lives_on book row.node c) (out row.node)).0 in
        let y : (is_container row.id c && bytes_eq row.node row.node) ≡ true = rw (e, text_itself row.node) refl in
        let z : true ≡ false = sym y ∙ x in cc
    go false e more = rw e more

pub none_lives : (book : List Row) (c : ContainerId) → is_living book c ≡ false → (o : List ℕ) → lives_on book o c ≡ false
none_lives [] c out o = refl
none_lives (row ∷ book) c out o =
    let p = or_parts (is_container row.id c) (is_living book c) out in
    rw (p.0, none_lives book c p.1 o) refl

pub lives_away : (book : List Row) (name o : List ℕ) (c : ContainerId) → bytes_eq o name ≡ false → lives_on book o c ≡ true → lives_elsewhere book name c ≡ true
lives_away [] name o c away h = cc
lives_away (row ∷ book) name o c away h = go (is_container row.id c) refl (bytes_eq row.node o) refl h (lives_away book name o c away)
  where
    go : (a : Bool) → is_container row.id c ≡ a → (b : Bool) → bytes_eq row.node o ≡ b → ((a && b) || lives_on book o c) ≡ true → (lives_on book o c ≡ true → lives_elsewhere book name c ≡ true)
        → (is_container row.id c && not (bytes_eq row.node name) || lives_elsewhere book name c) ≡ true
    go true e true f x more = let y : bytes_eq row.node name ≡ false = subst (λ (n : List ℕ). bytes_eq n name ≡ false) (sym (same_text row.node o f)) away in rw (e, y) refl
    go true e false f x more = or_right _ (lives_elsewhere book name c) (more x)
    go false e b f x more = or_right _ (lives_elsewhere book name c) (more x)

-- a beat that names a container as done is not worked off
abbrev names : ContainerId → Undone → Bool
names c (Registered turn) = false
names c (Beat done) = has_container done c
names c Expired = false

module _ (name : List ℕ) (c : ContainerId) where
  pub record BeatWaits (nodes : List NodeState) : Type 0 where
    pub node : NodeState
    pub at : judged_node nodes name ≡ Some node
    pub names : list_any (names c) node.undone ≡ true

  -- nodes that change, but for what this node has not worked off of that beat
  waits_map : (g : NodeState → NodeState) → ((node : NodeState) → (g node).name ≡ node.name) → (nodes : List NodeState) → (w : BeatWaits nodes) → list_any (names c) (g w.node).undone ≡ true → BeatWaits (map g nodes)
  waits_map g same nodes w h = record { node = g w.node; at = node_all g same name nodes w.node w.at; names = h }

  changed_name : (change : NodeState → NodeState) → ((node : NodeState) → (change node).name ≡ node.name) → (at : List ℕ) (node : NodeState) → (if bytes_eq node.name at then change node else node).name ≡ node.name
  changed_name change same at node = go (bytes_eq node.name at)
    where
      go : (b : Bool) → (if b then change node else node).name ≡ node.name
      go true = same node
      go false = refl

  waits_with : (change : NodeState → NodeState) → ((node : NodeState) → (change node).name ≡ node.name) → ((node : NodeState) → list_any (names c) node.undone ≡ true → list_any (names c) (change node).undone ≡ true)
      → (at : List ℕ) (nodes : List NodeState) → BeatWaits nodes → BeatWaits (with_judged_node change at nodes)
  waits_with change same keeps at nodes w = waits_map (λ node. if bytes_eq node.name at then change node else node) (changed_name change same at) nodes w (go (bytes_eq w.node.name at))
    where
      go : (b : Bool) → list_any (names c) (if b then change w.node else w.node).undone ≡ true
      go true = keeps w.node w.names
      go false = w.names

  without_keeps : (idle : Undone → Bool) → ((one : Undone) → names c one ≡ true → idle one ≡ false) → (undone : List Undone) → list_any (names c) undone ≡ true → list_any (names c) (without_idle idle undone) ≡ true
  without_keeps idle busy [] h = cc
  without_keeps idle busy (one ∷ more) h = go (idle one) refl (names c one) refl h (without_keeps idle busy more)
    where
      go : (b : Bool) → idle one ≡ b → (a : Bool) → names c one ≡ a → (a || list_any (names c) more) ≡ true → (list_any (names c) more ≡ true → list_any (names c) (without_idle idle more) ≡ true)
          → list_any (names c) (if b then without_idle idle more else one ∷ more) ≡ true
      go true e true f x rest = let y : true ≡ false = sym e ∙ busy one f in cc
      go true e false f x rest = rest x
      go false e a f x rest = ap (λ (b : Bool). b || list_any (names c) more) f ∙ x

  busy_beat : (book : List Row) (node : NodeState) (one : Undone) → names c one ≡ true → is_idle book node one ≡ false
  busy_beat book node (Registered turn) h = cc
  busy_beat book node (Beat done) h = refl
  busy_beat book node Expired h = cc

  waits_tidied : (book : List Row) (nodes : List NodeState) → BeatWaits nodes → BeatWaits (map (tidied_node book) nodes)
  waits_tidied book nodes w = waits_map (tidied_node book) (λ node. refl) nodes w (without_keeps (is_idle book w.node) (busy_beat book w.node) w.node.undone w.names)

  waits_more : (nodes more : List NodeState) → BeatWaits nodes → BeatWaits (nodes ++ more)
  waits_more nodes more w = record { node = w.node; at = go nodes w.at; names = w.names }
    where
      go : (nodes : List NodeState) → judged_node nodes name ≡ Some w.node → judged_node (nodes ++ more) name ≡ Some w.node
      go [] h = cc
      go (one ∷ nodes) h = by (bytes_eq one.name name) h (go nodes)
        where
          by : (b : Bool) → cond b (Some one) (judged_node nodes name) ≡ Some w.node → (judged_node nodes name ≡ Some w.node → judged_node (nodes ++ more) name ≡ Some w.node) → cond b (Some one) (judged_node (nodes ++ more) name) ≡ Some w.node
          by true x rest = x
          by false x rest = rest x

  undone_more : (undone more : List Undone) → list_any (names c) undone ≡ true → list_any (names c) (undone ++ more) ≡ true
  undone_more undone more h = list_any-append (names c) undone more ∙ rw h refl

  -- a life that has this container where another has it, and of which the same is said as far as it goes
  pub record Calm (old new : LifeState) : Type 0 where
    pub rows : (o : List ℕ) → lives_on new.book o c ≡ lives_on old.book o c
    pub left : new.endings.left ≡ old.endings.left
    pub outbox : new.endings.outbox ≡ old.endings.outbox
    pub epoch : new.epoch ≡ old.epoch
    pub first : new.first ≡ old.first
    pub waits : BeatWaits old.nodes → BeatWaits new.nodes

  calm_same : (old new : LifeState) → new.book ≡ old.book → new.endings.left ≡ old.endings.left → new.endings.outbox ≡ old.endings.outbox → new.epoch ≡ old.epoch → new.first ≡ old.first → new.nodes ≡ old.nodes → Calm old new
  calm_same old new b l x e f n = record { rows = λ o. ap (λ (rows : List Row). lives_on rows o c) b; left = l; outbox = x; epoch = e; first = f; waits = λ w. subst BeatWaits (sym n) w }

  calm_tidied : (life : LifeState) → Calm life (tidied life)
  calm_tidied life = record { rows = λ o. refl; left = refl; outbox = refl; epoch = refl; first = refl; waits = waits_tidied life.book life.nodes }

  -- a message that isn't an allocation that was accepted
  abbrev NoAllocation : Message → Reply → Type 0
  NoAllocation (FromMaster attempt (Allocate id asks release)) (replies.Allocated next grants ended) = ⊥
  NoAllocation _ _ = Unit {0}

  registered_waits : (m : Scene) (at : List ℕ) (registration : Registration) (reply : Reply) (o : Option NodeState) → BeatWaits m.life.nodes → BeatWaits (nodes_registered m at registration reply o)
  registered_waits m at registration reply None w = waits_more m.life.nodes (new_node at registration reply ∷ []) w
  registered_waits m at registration reply (Some node) w =
      waits_with (node_after_registration registration reply) (λ n. refl) (λ n h. undone_more n.undone (Registered registration.turn ∷ []) h) at m.life.nodes w

  calm_answered : (m : Scene) → Changes m (Calm m.life) NoAllocation
  calm_answered m =
      record {
        nothing = calm_same m.life m.life refl refl refl refl refl refl;
        gives = λ user one q. calm_same m.life _ refl refl refl refl refl refl;
        joins = λ user one submission q new. calm_same m.life _ refl refl refl refl refl refl;
        wishes = λ one. calm_same m.life _ refl refl refl refl refl refl;
        registered = λ attempt q. calm_same m.life _ refl refl refl refl refl refl;
        takes_over = λ attempt kept q.
            record {
              rows = λ o. lives-map (row_kept (map (λ one. one.id) kept)) (λ row. (refl, refl)) m.life.book o c;
              left = refl;
              outbox = refl;
              epoch = refl;
              first = refl;
              waits = λ w. w;
            };
        allocated = λ attempt ask asks release next grants ended q. absurd q;
        finishes = λ attempt text. calm_same m.life _ refl refl refl refl refl refl;
        node_registered = λ at registration reply.
            record {
              rows = λ o. refl;
              left = refl;
              outbox = refl;
              epoch = refl;
              first = refl;
              waits = λ w. waits_tidied m.life.book (nodes_registered m at registration reply (judged_node m.life.nodes at)) (registered_waits m at registration reply (judged_node m.life.nodes at) w);
            };
        beaten = λ at running done launch reply.
            record {
              rows = λ o. lives-map (row_beaten at (reported running) launch) (λ row. beaten_stays name c at (reported running) launch row) m.life.book o c;
              left = refl;
              outbox = refl;
              epoch = refl;
              first = refl;
              waits = waits_with (beaten launch done reply) (λ n. refl) (λ n h. undone_more n.undone (Beat done ∷ []) h) at m.life.nodes;
            };
        ticks = λ time. calm_same m.life _ refl refl refl refl refl refl;
        node_expires = λ at.
            record {
              rows = λ o. refl;
              left = refl;
              outbox = refl;
              epoch = refl;
              first = refl;
              waits = λ w. waits_tidied m.life.book (with_judged_node expired at m.life.nodes) (waits_with expired (λ n. refl) (λ n h. undone_more n.undone (Expired ∷ []) h) at m.life.nodes w);
            };
        master_expires = λ attempt. calm_same m.life _ refl refl refl refl refl refl;
      }

  calm_kept : (life : LifeState) (op : Op) → Calm life (record (life_keeps life op) { handed = false })
  calm_kept life (Epoch next stamp) = calm_same life _ refl refl refl refl refl refl
  calm_kept life (App one submission) = calm_same life _ refl refl refl refl refl refl
  calm_kept life (Attempt one master node) = calm_same life _ refl refl refl refl refl refl
  calm_kept life (AttemptEnd one how text) = calm_same life _ refl refl refl refl refl refl
  calm_kept life (AppEnd one how text) = calm_same life _ refl refl refl refl refl refl
  calm_kept life (Remove one) = calm_same life _ refl refl refl refl refl refl

  calm_issued : (m : Scene) (op : Op) → Calm m.life (life_issues m op)
  calm_issued m (Epoch next stamp) = calm_same m.life _ refl refl refl refl refl refl
  calm_issued m (App one submission) = calm_same m.life _ refl refl refl refl refl refl
  calm_issued m (Attempt one master node) = calm_same m.life _ refl refl refl refl refl refl
  calm_issued m (AttemptEnd one how text) = calm_same m.life _ refl refl refl refl refl refl
  calm_issued m (AppEnd one how text) = calm_same m.life _ refl refl refl refl refl refl
  calm_issued m (Remove one) = calm_same m.life _ refl refl refl refl refl refl

-- a container that left is accounted for, and so is one that is in the book elsewhere; before that the beat that names it waits
module _ (settings : Settings) (name : List ℕ) (c : ContainerId) (t : AttemptId) (r : Option AppRecord) (stands : Stands c t r) where
  abbrev is_for : ClosingOf → Bool
  is_for one = is_attempt one.attempt t && is_container one.closing.id c

  pub record Left (told : Bool) (life : LifeState) : Type 0 where
    pub left : has_container life.endings.left c ≡ true
    pub end : (is_some_and (λ one. is_container one.master c) (own_record c t r) ≡ true) ⊎ ((list_any is_for life.endings.outbox || told) ≡ true)

  -- it is in no book, and may have ended while the manager was down
  pub record Missing (life : LifeState) : Type 0 where
    pub recovers : settings.recover_ended_containers ≡ true
    pub former : nat_lt c.epoch life.epoch ≡ true
    pub first : list_any (λ one. is_attempt one.id c.attempt) (attempts_in (record_of life.first.apps c.attempt.app)) ≡ true
    pub stays : has_container life.endings.left c ≡ false
    pub nowhere : (o : List ℕ) → lives_on life.book o c ≡ false

  pub data Fate (told : Bool) (life : LifeState) : Type 0 where
    here : lives_on life.book name c ≡ true → BeatWaits name c life.nodes → Fate told life
    missing : Missing life → BeatWaits name c life.nodes → Fate told life
    away : (o : List ℕ) → bytes_eq o name ≡ false → lives_on life.book o c ≡ true → Fate told life
    gone : Left told life → Fate told life

  calm_fate : (told : Bool) (old new : LifeState) → Calm name c old new → Fate told old → Fate told new
  calm_fate told old new k (here h w) = here (k.rows name ∙ h) (k.waits w)
  calm_fate told old new k (missing m w) =
      missing (record {
        recovers = m.recovers;
        former = ap (λ (n : ℕ). nat_lt c.epoch n) k.epoch ∙ m.former;
        first = ap (λ (f : Records). list_any (λ one. is_attempt one.id c.attempt) (attempts_in (record_of f.apps c.attempt.app))) k.first ∙ m.first;
        stays = ap (λ (l : List ContainerId). has_container l c) k.left ∙ m.stays;
        nowhere = λ o. k.rows o ∙ m.nowhere o;
      }) (k.waits w)
  calm_fate told old new k (away o a h) = away o a (k.rows o ∙ h)
  calm_fate told old new k (gone l) =
      gone (record { left = ap (λ (l : List ContainerId). has_container l c) k.left ∙ l.left; end = go l.end })
    where
      go : (is_some_and (λ one. is_container one.master c) (own_record c t r) ≡ true) ⊎ ((list_any is_for old.endings.outbox || told) ≡ true)
          → (is_some_and (λ one. is_container one.master c) (own_record c t r) ≡ true) ⊎ ((list_any is_for new.endings.outbox || told) ≡ true)
      go (inl x) = inl x
      go (inr x) = inr (ap (λ (l : List ClosingOf). list_any is_for l || told) k.outbox ∙ x)

  -- what was told stays told
  more_told : (a b : Bool) (life : LifeState) → Fate a life → Fate (a || b) life
  more_told a b life (here h w) = here h w
  more_told a b life (missing m w) = missing m w
  more_told a b life (away o x h) = away o x h
  more_told a b life (gone l) = gone (record { left = l.left; end = go l.end })
    where
      go : (is_some_and (λ one. is_container one.master c) (own_record c t r) ≡ true) ⊎ ((list_any is_for life.endings.outbox || a) ≡ true)
          → (is_some_and (λ one. is_container one.master c) (own_record c t r) ≡ true) ⊎ ((list_any is_for life.endings.outbox || (a || b)) ≡ true)
      go (inl x) = inl x
      go (inr x) = inr (by (list_any is_for life.endings.outbox) a x)
        where
          by : (p q : Bool) → (p || q) ≡ true → (p || (q || b)) ≡ true
          by true q x = refl
          by false true x = refl
          by false false x = cc

  -- containers leave
  module _ (m : Scene) (is : record_of m.records.apps c.attempt.app ≡ r) where
    told_is : is_masters m c ≡ false → is_told m c ≡ true
    told_is out =
        let w : is_wanted m c ≡ true = ap (wanted_by c t) is ∙ stands.wanted in
        rw (w, out) refl

    heir_is : heir m c.attempt.app ≡ Some t
    heir_is = ap (heir_by c t) is ∙ stands.heir

    closes : (cause : Cause) (list : List ContainerId) → is_masters m c ≡ false → has_container list c ≡ true → list_any is_for (closings m cause list) ≡ true
    closes cause [] out h = cc
    closes cause (x ∷ list) out h = go (is_container x c) refl (is_told m x) refl h (closes cause list out)
      where
        rest : List ClosingOf
        rest = flat_map (λ id. closing_for cause id (heir m id.attempt.app)) (filter (is_told m) list)

        own : x ≡ c → list_any is_for (closing_for cause x (heir m x.attempt.app) ++ rest) ≡ true
        own same =
            subst (λ (y : ContainerId). list_any is_for (closing_for cause y (heir m y.attempt.app) ++ rest) ≡ true) (sym same)
            (rw heir_is (rw (attempt_itself t, container_itself c) refl))

        go : (a : Bool) → is_container x c ≡ a → (b : Bool) → is_told m x ≡ b → (a || has_container list c) ≡ true → (has_container list c ≡ true → list_any is_for rest ≡ true)
            → list_any is_for (flat_map (λ id. closing_for cause id (heir m id.attempt.app)) (cond b (x ∷ filter (is_told m) list) (filter (is_told m) list))) ≡ true
        go true e true f y more = own (same_container x c e)
        go true e false f y more = let z : is_told m x ≡ true = subst (λ (i : ContainerId). is_told m i ≡ true) (sym (same_container x c e)) (told_is out) in let q : true ≡ false = sym z ∙ f in cc
        go false e true f y more = list_any-append is_for (closing_for cause x (heir m x.attempt.app)) rest ∙ or_right (list_any is_for (closing_for cause x (heir m x.attempt.app))) (list_any is_for rest) (more y)
        go false e false f y more = more y

    own_master : is_masters m c ≡ true → is_some_and (λ one. is_container one.master c) (own_record c t r) ≡ true
    own_master h =
        let x : masters_by c t r ≡ true = sym (ap (masters_by c t) is) ∙ h in
        let kept = (and_parts (is_some (own_record c t r)) _ (and_parts (app_goes_on r) _ stands.wanted).1).0 in
        let y = (and_parts (is_some r) (not (is_some (own_record c t r)) || is_some_and (λ one. is_container one.master c) (own_record c t r)) x).1 in
        by (is_some (own_record c t r)) (is_some_and (λ one. is_container one.master c) (own_record c t r)) kept y
      where
        by : (a b : Bool) → a ≡ true → (not a || b) ≡ true → b ≡ true
        by true b k h = h
        by false b k h = cc

    leave_fate : (told : Bool) (cause : Cause) (list : List ContainerId) → Fate told m.life → Fate told (leave m cause list)
    leave_fate told cause list f = go (has_container list c) refl f
      where
        new : LifeState
        new = leave m cause list

        rows : (o : List ℕ) → has_container list c ≡ false → lives_on new.book o c ≡ lives_on m.life.book o c
        rows o out = lives-filter list m.life.book o c ∙ rw out refl

        waits : BeatWaits name c m.life.nodes → BeatWaits name c new.nodes
        waits w = waits_map name c (without_launches list) (λ node. refl) m.life.nodes w w.names

        left_more : (b : Bool) → has_container m.life.endings.left c ≡ b → has_container new.endings.left c ≡ (b || has_container list c)
        left_more b e = list_any-append (λ one. is_container one c) m.life.endings.left list ∙ rw e refl

        box : list_any is_for new.endings.outbox ≡ (list_any is_for m.life.endings.outbox || list_any is_for (closings m cause list))
        box = list_any-append is_for m.life.endings.outbox (closings m cause list)

        leaves : has_container list c ≡ true → Fate told new
        leaves is_in =
            gone (record {
              left = list_any-append (λ one. is_container one c) m.life.endings.left list ∙ or_right (has_container m.life.endings.left c) (has_container list c) is_in;
              end = by (is_masters m c) refl;
            })
          where
            by : (b : Bool) → is_masters m c ≡ b → (is_some_and (λ one. is_container one.master c) (own_record c t r) ≡ true) ⊎ ((list_any is_for new.endings.outbox || told) ≡ true)
            by true e = inl (own_master e)
            by false e = inr (or_left (list_any is_for new.endings.outbox) told (box ∙ or_right (list_any is_for m.life.endings.outbox) (list_any is_for (closings m cause list)) (closes cause list e is_in)))

        go : (b : Bool) → has_container list c ≡ b → Fate told m.life → Fate told new
        go true e f = leaves e
        go false e (here h w) = here (rows name e ∙ h) (waits w)
        go false e (missing x w) =
            missing (record { recovers = x.recovers; former = x.former; first = x.first; stays = left_more false x.stays ∙ e; nowhere = λ o. rows o e ∙ x.nowhere o }) (waits w)
        go false e (away o a h) = away o a (rows o e ∙ h)
        go false e (gone l) = gone (record { left = left_more true l.left; end = by l.end })
          where
            by : (is_some_and (λ one. is_container one.master c) (own_record c t r) ≡ true) ⊎ ((list_any is_for m.life.endings.outbox || told) ≡ true)
                → (is_some_and (λ one. is_container one.master c) (own_record c t r) ≡ true) ⊎ ((list_any is_for new.endings.outbox || told) ≡ true)
            by (inl x) = inl x
            by (inr x) = inr (ap (λ (b : Bool). b || told) box ∙ joined (list_any is_for m.life.endings.outbox) (list_any is_for (closings m cause list)) told x)
              where
                joined : (p q s : Bool) → (p || s) ≡ true → ((p || q) || s) ≡ true
                joined true q s h = refl
                joined false true s h = refl
                joined false false s h = h

  -- an absorption takes containers in
  taken_fate : (told : Bool) (life : LifeState) (on : List ℕ) (taken : List Held) → Fate told life → Fate told (with_taken on taken life)
  taken_fate told life on taken f = go f
    where
      new : LifeState
      new = with_taken on taken life

      rows : (o : List ℕ) → lives_on new.book o c ≡ (lives_on life.book o c || (bytes_eq on o && (not (is_living life.book c) && is_held taken c)))
      rows o = lives-taken on o c taken life.book

      waits : BeatWaits name c life.nodes → BeatWaits name c new.nodes
      waits w = waits_with name c absorbed (λ node. refl) (λ node h. h) on life.nodes w

      stays : (o : List ℕ) → lives_on life.book o c ≡ true → lives_on new.book o c ≡ true
      stays o h = rows o ∙ rw h refl

      by_taken : (x : Missing life) → BeatWaits name c life.nodes → (held : Bool) → is_held taken c ≡ held → Fate told new
      by_taken x w false e =
          missing (record { recovers = x.recovers; former = x.former; first = x.first; stays = x.stays; nowhere = λ o. rows o ∙ rw (x.nowhere o, e) (none_of (bytes_eq on o) (not (is_living life.book c))) }) (waits w)
        where
          none_of : (a b : Bool) → (a && (b && false)) ≡ false
          none_of true true = refl
          none_of true false = refl
          none_of false b = refl
      by_taken x w true e = by_name (bytes_eq on name) refl
        where
          enters : (o : List ℕ) → bytes_eq on o ≡ true → lives_on new.book o c ≡ true
          enters o h = rows o ∙ rw (x.nowhere o, h, living_home life.book c x.nowhere, e) refl

          by_name : (b : Bool) → bytes_eq on name ≡ b → Fate told new
          by_name true h = here (enters name h) (waits w)
          by_name false h = away on h (enters on (text_itself on))

      go : Fate told life → Fate told new
      go (here h w) = here (stays name h) (waits w)
      go (missing x w) = by_taken x w (is_held taken c) refl
      go (away o a h) = away o a (stays o h)
      go (gone l) = gone (record { left = l.left; end = l.end })

  -- a pass grants containers, and its beat is worked off
  popped_by : (test : ContainerId → Bool) → test c ≡ true → (undone : List Undone) → is_some (beat_at undone) ≡ true → once (filter test (unwrap_or (beat_at undone) [])) ≡ [] → list_any (names c) undone ≡ true
      → list_any (names c) (drop 1 undone) ≡ true
  popped_by test passes [] beat none h = cc
  popped_by test passes (Registered turn ∷ more) beat none h = cc
  popped_by test passes (Expired ∷ more) beat none h = cc
  popped_by test passes (Beat done ∷ more) beat none h = go (has_container done c) refl h
    where
      go : (b : Bool) → has_container done c ≡ b → (b || list_any (names c) more) ≡ true → list_any (names c) more ≡ true
      go false e x = x
      go true e x =
          let there : has_container (filter test done) c ≡ true =
          any-filter_same (λ (one : ContainerId). is_container one c) test true (λ one at. subst (λ (i : ContainerId). test i ≡ true) (sym (same_container one c at)) passes) done ∙ e in
          let twice : has_container (once (filter test done)) c ≡ true = has_once c (filter test done) there in
          let y : has_container [] c ≡ true = subst (λ (l : List ContainerId). has_container l c ≡ true) none twice in
          cc

  pub granted_out : (epoch : ℕ) (grants : List Grant) → Each (λ (grant : Grant). grant.id.epoch ≡ epoch) grants → nat_lt c.epoch epoch ≡ true → (o : List ℕ) → lives_on (map row_granted grants) o c ≡ false
  granted_out epoch [] h former o = refl
  granted_out epoch (grant ∷ grants) h former o = go (is_container grant.id c) refl (granted_out epoch grants h.1 former o)
    where
      never : grant.id ≡ c → ⊥
      never same = let x : c.epoch ≡ epoch = ap (λ (i : ContainerId). i.epoch) (sym same) ∙ h.0 in let y : nat_lt epoch epoch ≡ true = subst (λ (n : ℕ). nat_lt n epoch ≡ true) x former in grind (arith, nat_tests)

      go : (b : Bool) → is_container grant.id c ≡ b → lives_on (map row_granted grants) o c ≡ false → (is_container grant.id c && bytes_eq grant.node o || lives_on (map row_granted grants) o c) ≡ false
      go true e more = absurd (never (same_container grant.id c e))
      go false e more = rw e more

  module _ (m : Scene) (is : record_of m.records.apps c.attempt.app ≡ r) where
    counts_missing : Missing m.life → is_astray settings m c ≡ true
    counts_missing x =
        let w : is_wanted m c ≡ true = ap (wanted_by c t) is ∙ stands.wanted in
        rw (x.recovers, living_home m.life.book c x.nowhere, x.stays, x.former, x.first, w) refl

    popped : (on : List ℕ) (n : NodeState) (grants : List Grant) → judged_node m.life.nodes on ≡ Some n → MayPass settings m n grants → (is_astray settings m c || lives_on m.life.book name c) ≡ true
        → (w : BeatWaits name c m.life.nodes) → list_any (names c) (if bytes_eq w.node.name on then passed w.node else w.node).undone ≡ true
    popped on n grants at may counts w = go (bytes_eq w.node.name on) refl
      where
        named : w.node.name ≡ name
        named = found m.life.nodes name w.node w.at

        go : (b : Bool) → bytes_eq w.node.name on ≡ b → list_any (names c) (if b then passed w.node else w.node).undone ≡ true
        go false e = w.names
        go true e =
            let same : name ≡ on = sym named ∙ same_text w.node.name on e in
            let x : Some w.node ≡ Some n = sym w.at ∙ (ap (λ (o : List ℕ). judged_node m.life.nodes o) same ∙ at) in
            let y : n ≡ w.node = cc in
            let mine : MayPass settings m w.node grants = subst (λ (k : NodeState). MayPass settings m k grants) y may in
            let test : (is_astray settings m c || lives_on m.life.book w.node.name c) ≡ true = subst (λ (o : List ℕ). (is_astray settings m c || lives_on m.life.book o c) ≡ true) (sym named) counts in
            popped_by (λ id. is_astray settings m id || lives_on m.life.book w.node.name id) test w.node.undone mine.beat mine.none_done w.names

    pass_fate : (told : Bool) (on : List ℕ) (n : NodeState) (grants : List Grant) → judged_node m.life.nodes on ≡ Some n → MayPass settings m n grants → Fate told m.life → Fate told (passes m on grants)
    pass_fate told on n grants at may f = calm_fate told new (passes m on grants) (calm_tidied name c new) (go f)
      where
        new : LifeState
        new = record m.life {
          granted = m.life.granted ++ map (λ grant. grant.id) grants;
          asks = fold without_granted m.life.asks grants;
          book = m.life.book ++ map row_granted grants;
          nodes = with_judged_node passed on m.life.nodes;
        }

        rows : (o : List ℕ) → lives_on new.book o c ≡ (lives_on m.life.book o c || lives_on (map row_granted grants) o c)
        rows o = list_any-append _ m.life.book (map row_granted grants)

        waits : (w : BeatWaits name c m.life.nodes) → (is_astray settings m c || lives_on m.life.book name c) ≡ true → BeatWaits name c new.nodes
        waits w counts = waits_map name c (λ node. if bytes_eq node.name on then passed node else node) (changed_name name c passed (λ node. refl) on) m.life.nodes w (popped on n grants at may counts w)

        epochs : Each (λ (grant : Grant). grant.id.epoch ≡ m.life.epoch) grants
        epochs = subst (Each (λ (grant : Grant). grant.id.epoch ≡ m.life.epoch)) (sym may.grants_are) (each-map _ (λ (grant : Grant). grant.id.epoch ≡ m.life.epoch) (λ grant one. one.epoch_is) (pass_of settings m n) (pass_new settings m n).each)

        go : Fate told m.life → Fate told new
        go (here h w) = here (rows name ∙ rw h refl) (waits w (or_right (is_astray settings m c) (lives_on m.life.book name c) h))
        go (missing x w) =
            missing (record { recovers = x.recovers; former = x.former; first = x.first; stays = x.stays; nowhere = λ o. rows o ∙ rw (x.nowhere o, granted_out m.life.epoch grants epochs x.former o) refl })
            (waits w (or_left (is_astray settings m c) (lives_on m.life.book name c) (counts_missing x)))
        go (away o a h) = away o a (rows o ∙ rw h refl)
        go (gone l) = gone (record { left = l.left; end = l.end })

    -- a master is answered its allocation
    ended_is : (attempt : AttemptId) (id : ℕ) (asks : List Ask) (next : ℕ) (grants : List Grant) (ended : List Closing) (b : Bool) (o : Option MasterState)
        → replies.Allocated next grants ended ≡ (if b then allocate_reply settings m attempt id asks o else replies.NotOpen) → is_some_and (λ master. id == master.last_id) o ≡ true → ended ≡ outbox_of m attempt
    ended_is attempt id asks next grants ended false o answers new = cc
    ended_is attempt id asks next grants ended true None answers new = cc
    ended_is attempt id asks next grants ended true (Some master) answers new =
        go (is_registered m attempt) (id + 1 == master.last_id) refl (not (id == master.last_id)) (list_any (λ ask. not (fits ask.size settings.greatest)) asks) (has_too_many attempt (with_asks attempt m.life.asks asks)) answers
      where
        go : (is_there again : Bool) → (id + 1 == master.last_id) ≡ again → (other large full : Bool)
            → replies.Allocated next grants ended
            ≡ (if is_there then (if again then master.last_reply else (if other then replies.WrongId else (if large then replies.TooLarge else (if full then replies.Full else allocated_reply settings m attempt master.last_id)))) else replies.Resync)
            → ended ≡ outbox_of m attempt
        go false again e other large full x = cc
        go true true e other large full x = absurd (not_both id master.last_id e new)
        go true false e true large full x = cc
        go true false e false true full x = cc
        go true false e false false true x = cc
        go true false e false false false x = cc

    told_or_waits : (attempt : AttemptId) (outbox : List ClosingOf) → list_any is_for outbox ≡ true
        → (list_any is_for (filter (λ one. not (is_attempt one.attempt attempt)) outbox) ≡ true)
        ⊎ ((is_attempt attempt t ≡ true) × (list_any (λ closing. is_container closing.id c) (map (λ one. one.closing) (filter (λ one. is_attempt one.attempt attempt) outbox)) ≡ true))
    told_or_waits attempt [] h = cc
    told_or_waits attempt (one ∷ more) h = go (is_for one) refl (is_attempt one.attempt attempt) refl h (told_or_waits attempt more)
      where
        kept : List ClosingOf
        kept = filter (λ one. not (is_attempt one.attempt attempt)) more

        own : List ClosingOf
        own = filter (λ one. is_attempt one.attempt attempt) more

        go : (f : Bool) → is_for one ≡ f → (a : Bool) → is_attempt one.attempt attempt ≡ a → (f || list_any is_for more) ≡ true
            → (list_any is_for more ≡ true → (list_any is_for kept ≡ true) ⊎ ((is_attempt attempt t ≡ true) × (list_any (λ closing. is_container closing.id c) (map (λ one. one.closing) own) ≡ true)))
            → (list_any is_for (cond (not a) (one ∷ kept) kept) ≡ true)
            ⊎ ((is_attempt attempt t ≡ true) × (list_any (λ closing. is_container closing.id c) (map (λ (x : ClosingOf). x.closing) (cond a (one ∷ own) own)) ≡ true))
        go true e true g x rest =
            let p = and_parts (is_attempt one.attempt t) (is_container one.closing.id c) e in
            inr (subst (λ (i : AttemptId). is_attempt i t ≡ true) (same_attempt one.attempt attempt g) p.0, rw p.1 refl)
        go true e false g x rest = inl (or_left (is_for one) (list_any is_for kept) e)
        go false e a g x rest = by (rest x) a
          where
            by : (list_any is_for kept ≡ true) ⊎ ((is_attempt attempt t ≡ true) × (list_any (λ closing. is_container closing.id c) (map (λ one. one.closing) own) ≡ true)) → (a : Bool)
                → (list_any is_for (cond (not a) (one ∷ kept) kept) ≡ true)
                ⊎ ((is_attempt attempt t ≡ true) × (list_any (λ closing. is_container closing.id c) (map (λ (x : ClosingOf). x.closing) (cond a (one ∷ own) own)) ≡ true))
            by (inl y) true = inl y
            by (inl y) false = inl (or_right (is_for one) (list_any is_for kept) y)
            by (inr y) true = inr (y.0, or_right (is_container one.closing.id c) (list_any (λ closing. is_container closing.id c) (map (λ one. one.closing) own)) y.1)
            by (inr y) false = inr y

    allocated_fate : (told : Bool) (attempt : AttemptId) (asks : List Ask) (release : List ContainerId) (reply : Reply) (ended : List Closing) → ended ≡ outbox_of m attempt → Fate told m.life
        → Fate (told || (is_attempt attempt t && list_any (λ closing. is_container closing.id c) ended)) (allocates m attempt asks release reply)
    allocated_fate told attempt asks release reply ended same f = go f
      where
        new : LifeState
        new = allocates m attempt asks release reply

        rows : (o : List ℕ) → lives_on new.book o c ≡ lives_on m.life.book o c
        rows o = lives-map (row_allocated _ _ _) (λ row. (refl, refl)) m.life.book o c

        says : Bool
        says = is_attempt attempt t && list_any (λ closing. is_container closing.id c) ended

        by_end : (is_some_and (λ one. is_container one.master c) (own_record c t r) ≡ true) ⊎ ((list_any is_for m.life.endings.outbox || told) ≡ true)
            → (is_some_and (λ one. is_container one.master c) (own_record c t r) ≡ true) ⊎ ((list_any is_for new.endings.outbox || (told || says)) ≡ true)
        by_end (inl x) = inl x
        by_end (inr x) = inr (by (list_any is_for m.life.endings.outbox) refl told refl x)
          where
            after_split : (list_any is_for new.endings.outbox ≡ true) ⊎ ((is_attempt attempt t ≡ true) × (list_any (λ closing. is_container closing.id c) (outbox_of m attempt) ≡ true)) → (list_any is_for new.endings.outbox || (told || says)) ≡ true
            after_split (inl y) = or_left (list_any is_for new.endings.outbox) (told || says) y
            after_split (inr y) =
                let z : list_any (λ closing. is_container closing.id c) ended ≡ true = ap (λ (l : List Closing). list_any (λ closing. is_container closing.id c) l) same ∙ y.1 in
                or_right (list_any is_for new.endings.outbox) (told || says) (or_right told says (rw (y.0, z) refl))

            by : (p : Bool) → list_any is_for m.life.endings.outbox ≡ p → (q : Bool) → told ≡ q → (p || q) ≡ true → (list_any is_for new.endings.outbox || (told || says)) ≡ true
            by true e q g z = after_split (told_or_waits attempt m.life.endings.outbox e)
            by false e true g z = or_right (list_any is_for new.endings.outbox) (told || says) (or_left told says g)
            by false e false g z = cc

        go : Fate told m.life → Fate (told || says) new
        go (here h w) = here (rows name ∙ h) w
        go (missing x w) = missing (record { recovers = x.recovers; former = x.former; first = x.first; stays = x.stays; nowhere = λ o. rows o ∙ x.nowhere o }) w
        go (away o a h) = away o a (rows o ∙ h)
        go (gone l) = gone (record { left = l.left; end = by_end l.end })

    served_fate : (told : Bool) (message : Message) (reply : Reply) → reply ≡ reply_to settings m message → Fate told m.life → Fate (told || tells_closing t c message reply) (life_after m message reply)
    served_fate told (FromMaster attempt (Allocate id asks release)) (replies.Allocated next grants ended) answers f = go (is_new_to_master m attempt id) refl
      where
        says : Bool
        says = is_attempt attempt t && list_any (λ closing. is_container closing.id c) ended

        go : (b : Bool) → is_new_to_master m attempt id ≡ b → Fate (told || says) (if b then allocates m attempt asks release (replies.Allocated next grants ended) else m.life)
        go true e =
            allocated_fate told attempt asks release (replies.Allocated next grants ended) ended
            (ended_is attempt id asks next grants ended m.life.is_open (master_of m attempt) answers e) f
        go false e = more_told told says m.life f
    served_fate told message reply answers f =
        more_told told (tells_closing t c message reply) (life_after m message reply)
        (calm_fate told m.life (life_after m message reply) (served m (Calm name c m.life) (NoAllocation name c) (calm_answered name c m) message reply tt) f)

  -- the same of a state in which a life stands
  abbrev FateIn : Bool → List Op → Option LifeState → Type 0
  FateIn told kept None = ⊥
  FateIn told kept (Some life) = (record_of (records kept).apps c.attempt.app ≡ r) × Fate told life

  module _ (kept awaiting : List Op) (blew : Bool) (life : LifeState) (is : record_of (records kept).apps c.attempt.app ≡ r) where
    abbrev s : Manager
    s = state kept awaiting blew (Some life)

    calm_next : (told b : Bool) (new : LifeState) → Calm name c life new → Fate told life → (record_of (records kept).apps c.attempt.app ≡ r) × Fate (told || b) new
    calm_next told b new k f = (is, more_told told b new (calm_fate told life new k f))

    absorbed_next : (told : Bool) (on : List ℕ) (taken : List Held) (ended : List ContainerId) → Fate told life → Fate told (absorbs (scene s life) on taken ended)
    absorbed_next told on taken ended f =
        let left = leave_fate (scene s life) is told Gone ended f in
        let in_ = taken_fate told (leave (scene s life) Gone ended) on taken left in
        calm_fate told (with_taken on taken (leave (scene s life) Gone ended)) (absorbs (scene s life) on taken ended) (calm_tidied name c (with_taken on taken (leave (scene s life) Gone ended))) in_

    ended_next : (told : Bool) (cause : Cause) (list : List ContainerId) → Fate told life → Fate told (tidied (leave (scene s life) cause list))
    ended_next told cause list f =
        calm_fate told (leave (scene s life) cause list) (tidied (leave (scene s life) cause list)) (calm_tidied name c (leave (scene s life) cause list)) (leave_fate (scene s life) is told cause list f)

    passed_next : (told : Bool) (on : List ℕ) (grants : List Grant) (node : Option NodeState) → judged_node life.nodes on ≡ node → IsSomeAnd node (λ n. MayPass settings (scene s life) n grants) → Fate told life → Fate told (passes (scene s life) on grants)
    passed_next told on grants None at may f = absurd may
    passed_next told on grants (Some n) at may f = pass_fate (scene s life) is told on n grants at may f

    kept_next : (told : Bool) (op : Op) → Fitting (records kept) awaiting → slice_get awaiting 0 ≡ Some op → is_attempt_end_op t op ≡ false → Fate told life
        → (record_of (records (kept ++ op ∷ [])).apps c.attempt.app ≡ r) × Fate told (record (life_keeps life op) { handed = false })
    kept_next told op fit first lasts f = (same, calm_fate told life _ (calm_kept name c life op) f)
      where
        fits_now : (ops : List Op) → Fitting (records kept) ops → slice_get ops 0 ≡ Some op → fits_records (records kept) op ≡ true
        fits_now [] x h = cc
        fits_now (one ∷ ops) x h = let y : one ≡ op = cc in subst (λ (z : Op). fits_records (records kept) z ≡ true) y x.0

        same : record_of (records (kept ++ op ∷ [])).apps c.attempt.app ≡ r
        same =
            ap (λ (x : Records). record_of x.apps c.attempt.app) (fold_push recorded no_records kept op)
            ∙ (record_stays c t (records kept) op (subst (Stands c t) (sym is) stands) (fits_now awaiting fit first) lasts ∙ is)

    in_life : (told : Bool) (e : Entry) → Fitting (records kept) awaiting → AllowedIn settings (scene s life) e → stops_attempt t e ≡ false → Fate told life
        → FateIn (told || tells_end t c e) (after s e).kept (after s e).life
    in_life told (Opened landed epoch stamp) fit may lasts f = absurd may
    in_life told (Issued op) fit may lasts f = calm_next told false _ (calm_issued name c (scene s life) op) f
    in_life told (Kept op) fit may lasts f = let k = kept_next told op fit may.first lasts f in (k.0, more_told told false _ k.1)
    in_life told (Served sender message reply) fit may lasts f = (is, served_fate (scene s life) is told message reply may.answers f)
    in_life told (Ordered container node) fit may lasts f =
        calm_next told false _ (record { rows = λ o. refl; left = refl; outbox = refl; epoch = refl; first = refl; waits = waits_with name c _ (λ n. refl) (λ n h. h) node life.nodes }) f
    in_life told (Absorbed node taken ended) fit may lasts f = (is, more_told told false _ (absorbed_next told node taken ended f))
    in_life told (Pass node grants) fit may lasts f = (is, more_told told false _ (passed_next told node grants (judged_node life.nodes node) refl may f))
    in_life told (Ended cause list) fit may lasts f = (is, more_told told false _ (ended_next told cause list f))
    in_life told Down fit may lasts f = cc
    in_life told e fit may lasts f = calm_next told false _ (calm_same name c life _ refl refl refl refl refl refl) f

  -- each entry
  next_fate : (told : Bool) (kept awaiting : List Op) (blew : Bool) (life : Option LifeState) (e : Entry) → Whole (state kept awaiting blew life) → Allowed settings (state kept awaiting blew life) e → stops_attempt t e ≡ false
      → FateIn told kept life → FateIn (told || tells_end t c e) (after (state kept awaiting blew life) e).kept (after (state kept awaiting blew life) e).life
  next_fate told kept awaiting blew None e w may lasts f = absurd f
  next_fate told kept awaiting blew (Some life) e w may lasts f =
      in_life kept awaiting blew life f.0 told e (fitting-front no_records kept awaiting w.fit).1 may lasts f.1

  or_assoc : (x y z : Bool) → ((x || y) || z) ≡ (x || (y || z))
  or_assoc true y z = refl
  or_assoc false y z = refl

  -- and all of them up to a later place
  later_fate : (told : Bool) (s : Manager) (mid rest : List Entry) → Whole s → AllAllowed settings s (mid ++ rest) → list_any (stops_attempt t) mid ≡ false → FateIn told s.kept s.life
      → FateIn (told || list_any (tells_end t c) mid) (after_all s mid).kept (after_all s mid).life
  later_fate told s [] rest w allowed lasts f = subst (λ (b : Bool). FateIn b s.kept s.life) (sym (or_false told)) f
    where
      or_false : (b : Bool) → (b || false) ≡ b
      or_false true = refl
      or_false false = refl
  later_fate told s (e ∷ mid) rest w allowed lasts f =
      let p = or_parts (stops_attempt t e) (list_any (stops_attempt t) mid) lasts in
      subst (λ (b : Bool). FateIn b (after_all (after s e) mid).kept (after_all (after s e) mid).life) (or_assoc told (tells_end t c e) (list_any (tells_end t c) mid))
      (later_fate (told || tells_end t c e) (after s e) mid rest (whole_after settings s.kept s.awaiting s.blew s.life e w allowed.0) allowed.1 p.1
      (next_fate told s.kept s.awaiting s.blew s.life e w allowed.0 p.0 f))

  -- what is known once the node has nothing left to work off, and once the log settles
  module _ (s : Manager) (since : List Entry) where
    abbrev Says : LifeState → Type 0
    Says life = IsEndTold (scene s life) name c t since

    by_fate : (life : LifeState) (P : Type 0) → (BeatWaits name c life.nodes → P)
        → (has_container life.endings.left c ≡ true → is_some_and (λ one. is_container one.master c) (own_record c t r) ≡ true → P) → (Says life → P) → Fate (list_any (tells_end t c) since) life → P
    by_fate life P waits lost says (here h w) = waits w
    by_fate life P waits lost says (missing x w) = waits w
    by_fate life P waits lost says (away o a h) = says (elsewhere (lives_away life.book name o c a h))
    by_fate life P waits lost says (gone l) = by l.end
      where
        by : (is_some_and (λ one. is_container one.master c) (own_record c t r) ≡ true) ⊎ ((list_any is_for life.endings.outbox || list_any (tells_end t c) since) ≡ true) → P
        by (inl x) = lost l.left x
        by (inr x) = ways (either_true (list_any is_for life.endings.outbox) (list_any (tells_end t c) since) x)
          where
            ways : (list_any is_for life.endings.outbox ≡ true) ⊎ (list_any (tells_end t c) since ≡ true) → P
            ways (inl y) = says (to_be_told y)
            ways (inr y) = says (was_told y)

    none_waits : (life : LifeState) → IsWorkedOff (Some life) name → BeatWaits name c life.nodes → ⊥
    none_waits life off w =
        let x : w.node.undone ≡ [] = subst (λ (o : Option NodeState). IsSomeAnd o (λ node. node.undone ≡ [])) w.at off in
        let y : false ≡ true = sym (ap (λ (l : List Undone). list_any (names c) l) x) ∙ w.names in
        cc

    lost_by : (left : List ContainerId) (o : Option AttemptRecord) → is_some_and (λ one. is_container one.master c) o ≡ true → has_container left c ≡ true → is_some_and (λ one. has_container left one.master) o ≡ true
    lost_by left None x there = cc
    lost_by left (Some one) x there = subst (λ (i : ContainerId). has_container left i ≡ true) (sym (same_container one.master c x)) there

    accounted : (life : Option LifeState) → FateIn (list_any (tells_end t c) since) s.kept life → IsWorkedOff life name
        → IsSomeAnd life (λ one. (has_lost_master (scene s one) c.attempt ≡ true) ⊎ Says one)
    accounted None f off = absurd f
    accounted (Some life) f off =
        by_fate life ((has_lost_master (scene s life) c.attempt ≡ true) ⊎ Says life) (λ w. absurd (none_waits life off w))
        (λ left x. inl (ap (λ (o : Option AppRecord). is_some_and (λ one. has_container life.endings.left one.master) (own_record c t o)) f.0 ∙ lost_by life.endings.left (own_record c t r) x left))
        (λ says. inr says) f.1

    -- a master that is lost, while its attempt has no end, leaves something owed
    module _ (life : LifeState) (is : record_of (records s.kept).apps c.attempt.app ≡ r) (owes : Owed settings (scene s life) → ⊥) where
      found_in : {X : Type 0} (p : X → Bool) (xs : List X) (x : X) → find p xs ≡ Some x → Contains xs x
      found_in p [] x h = cc
      found_in p (y ∷ xs) x h = by (p y) h (found_in p xs x)
        where
          by : (b : Bool) → cond b (Some y) (find p xs) ≡ Some x → (find p xs ≡ Some x → Contains xs x) → Contains (y ∷ xs) x
          by true e more = let same : y ≡ x = cc in (0, omega arith, same)
          by false e more = let k = more e in (suc k.0, (let lt = k.1 in omega (arith, lt)), k.2)

      busy : BeatWaits name c life.nodes → ⊥
      busy w =
          owes (working w.node (found_in (λ node. bytes_eq node.name name) life.nodes w.node w.at)
          (λ none. let y : false ≡ true = sym (ap (λ (l : List Undone). list_any (names c) l) none) ∙ w.names in cc))

      losing_owed : has_container life.endings.left c ≡ true → is_some_and (λ one. is_container one.master c) (own_record c t r) ≡ true → ⊥
      losing_owed left x =
          let one = some_and (λ one. is_container one.master c) (own_record c t r) x in
          let at : is_attempt one.0.id c.attempt ≡ true = found_passes (λ one. is_attempt one.id c.attempt) (attempts_in r) one.0 one.1 in
          let id : one.0.id ≡ c.attempt = same_attempt one.0.id c.attempt at in
          let goes : app_goes_on r ≡ true = (and_parts (app_goes_on r) _ stands.wanted).0 in
          let kept = and_parts (is_some (own_record c t r)) _ (and_parts (app_goes_on r) _ stands.wanted).1 in
          let mastered : masters_by c t r ≡ true = rw (some_record r goes, kept.0, x) refl in
          let unended : is_none (option_and_then (λ one. one.ending) (own_record c t r)) ≡ true = not_kept (is_none (option_and_then (λ one. one.ending) (own_record c t r))) (keeps r) (masters_by c t r) mastered kept.1 in
          let ending : one.0.ending ≡ None = none_from_is_none one.0.ending (sym (ap (λ (o : Option AttemptRecord). is_none (option_and_then (λ one. one.ending) o)) one.1) ∙ unended) in
          owes (losing one.0 (record {
            app = record {
              known = ap (λ (i : AttemptId). is_known (scene s life) i.app) id ∙ or_right (is_submitted life.apps.submitted c.attempt.app) (is_some (record_of (records s.kept).apps c.attempt.app)) (ap (λ (o : Option AppRecord). is_some o) is ∙ some_record r goes);
              unended = ap (λ (i : AttemptId). end_in (record_of (records s.kept).apps i.app)) id ∙ (ap end_in is ∙ no_end r goes);
            };
            kept = subst (λ (l : List AttemptRecord). Contains l one.0) (sym (ap (λ (i : AttemptId). attempts_in (record_of (records s.kept).apps i.app)) id ∙ ap attempts_in is))
                (found_in (λ one. is_attempt one.id c.attempt) (attempts_in r) one.0 one.1);
            unended = ending;
          }) (subst (λ (i : ContainerId). has_container life.endings.left i ≡ true) (sym (same_container one.0.master c one.2)) left))
        where
          some_record : (o : Option AppRecord) → app_goes_on o ≡ true → is_some o ≡ true
          some_record None h = cc
          some_record (Some app) h = refl

          no_end : (o : Option AppRecord) → app_goes_on o ≡ true → end_in o ≡ None
          no_end None h = refl
          no_end (Some app) h = none_from_is_none app.ending h

          not_kept : (a b d : Bool) → d ≡ true → (a || (b && not d)) ≡ true → a ≡ true
          not_kept true b d e h = refl
          not_kept false true true e h = cc
          not_kept false true false e h = cc
          not_kept false false d e h = cc

    told_settled : (life : Option LifeState) → FateIn (list_any (tells_end t c) since) s.kept life → AllowedWhere settings s life Settled → IsSomeAnd life (λ one. Says one)
    told_settled None f may = absurd f
    told_settled (Some life) f may =
        by_fate life (Says life) (λ w. absurd (busy life f.0 may.owes_nothing w)) (λ left x. absurd (losing_owed life f.0 may.owes_nothing left x)) (λ says. says) f.1

-- the beat that names a container
module _ (settings : Settings) (name : List ℕ) (c : ContainerId) (t : AttemptId) (sender : Sender) (id : ℕ) (running : List Held) (done : List ContainerId) (next : ℕ) (launch clean : List ContainerId) where
  abbrev the_beat : Entry
  the_beat = Served sender (FromNode name (AskBeat id running done)) (replies.Beat next launch clean)

  module _ (kept awaiting : List Op) (blew : Bool) (life : LifeState) where
    abbrev m : Scene
    m = scene (state kept awaiting blew (Some life)) life

    stands_now : CountsAsDone settings m name c t → Stands c t (record_of (records kept).apps c.attempt.app)
    stands_now counts = record { wanted = counts.wanted; heir = counts.told }

    named_waits : is_new_to_node m name id ≡ true → has_container done c ≡ true → BeatWaits name c (with_judged_node (beaten launch done (replies.Beat next launch clean)) name life.nodes)
    named_waits new named =
        let n = some_and (λ node. id == node.last_id) (judged_node life.nodes name) new in
        record {
          node = if bytes_eq n.0.name name then beaten launch done (replies.Beat next launch clean) n.0 else n.0;
          at = node_all (λ node. if bytes_eq node.name name then beaten launch done (replies.Beat next launch clean) node else node) (changed_name name c (beaten launch done (replies.Beat next launch clean)) (λ node. refl) name) name life.nodes n.0 n.1;
          names = by n.0 (bytes_eq n.0.name name) (ap (λ (o : List ℕ). bytes_eq o name) (found life.nodes name n.0 n.1) ∙ text_itself name);
        }
      where
        by : (n : NodeState) (b : Bool) → b ≡ true → list_any (names c) (if b then beaten launch done (replies.Beat next launch clean) n else n).undone ≡ true
        by n false e = cc
        by n true e = list_any-append (names c) n.undone (Beat done ∷ []) ∙ or_right (list_any (names c) n.undone) (list_any (names c) (Beat done ∷ [])) (rw named refl)

    begins : (counts : CountsAsDone settings m name c t) → is_new_to_node m name id ≡ true → has_container done c ≡ true
        → Fate settings name c t (record_of (records kept).apps c.attempt.app) (stands_now counts) false (beats m name running done launch (replies.Beat next launch clean))
    begins counts new named = go (either_true (is_astray settings m c) (lives_on life.book name c) counts.here)
      where
        later : LifeState
        later = beats m name running done launch (replies.Beat next launch clean)

        rows : (o : List ℕ) → lives_on later.book o c ≡ lives_on life.book o c
        rows o = lives-map (row_beaten name (reported running) launch) (λ row. beaten_stays name c name (reported running) launch row) life.book o c

        go : (is_astray settings m c ≡ true) ⊎ (lives_on life.book name c ≡ true) → Fate settings name c t (record_of (records kept).apps c.attempt.app) (stands_now counts) false later
        go (inr h) = here (rows name ∙ h) (named_waits new named)
        go (inl h) =
            let a = and_parts settings.recover_ended_containers (is_missing m c) h in
            let b = and_parts (not (is_living life.book c)) _ a.1 in
            let d = and_parts (not (has_container life.endings.left c)) _ b.1 in
            let e = and_parts (nat_lt c.epoch life.epoch) _ d.1 in
            let f = and_parts (attempt_was_first m c.attempt) (is_wanted m c) e.1 in
            missing (record {
              recovers = a.0;
              former = e.0;
              first = f.0;
              stays = not-true (has_container life.endings.left c) d.0;
              nowhere = λ o. rows o ∙ none_lives life.book c (not-true (is_living life.book c) b.0) o;
            }) (named_waits new named)

    after_beat : (counts : CountsAsDone settings m name c t) → is_new_to_node m name id ≡ true → has_container done c ≡ true
        → FateIn settings name c t (record_of (records kept).apps c.attempt.app) (stands_now counts) false (after (state kept awaiting blew (Some life)) the_beat).kept (after (state kept awaiting blew (Some life)) the_beat).life
    after_beat counts new named = (refl, go (is_new_to_node m name id) new)
      where
        go : (b : Bool) → b ≡ true → Fate settings name c t (record_of (records kept).apps c.attempt.app) (stands_now counts) false (if b then beats m name running done launch (replies.Beat next launch clean) else life)
        go true e = begins counts new named
        go false e = cc

  -- a container that counts, from the beat on
  fate_later : (kept awaiting : List Op) (blew : Bool) (life : Option LifeState) (mid rest : List Entry) → Whole (state kept awaiting blew life) → AllAllowed settings (state kept awaiting blew life) (the_beat ∷ (mid ++ rest))
      → is_new_beat (state kept awaiting blew life) life name id ≡ true → has_container done c ≡ true → IsSomeAnd life (λ one. CountsAsDone settings (scene (state kept awaiting blew life) one) name c t) → list_any (stops_attempt t) mid ≡ false
      → (r : Option AppRecord) × (stands : Stands c t r) × FateIn settings name c t r stands (list_any (tells_end t c) mid) (after_all (after (state kept awaiting blew life) the_beat) mid).kept (after_all (after (state kept awaiting blew life) the_beat) mid).life
  fate_later kept awaiting blew None mid rest w allowed new named counts lasts = cc
  fate_later kept awaiting blew (Some life) mid rest w allowed new named counts lasts = (
    record_of (records kept).apps c.attempt.app,
    stands_now kept awaiting blew life counts,
    later_fate settings name c t (record_of (records kept).apps c.attempt.app) (stands_now kept awaiting blew life counts) false (after (state kept awaiting blew (Some life)) the_beat) mid rest
        (whole_after settings kept awaiting blew (Some life) the_beat w allowed.0) allowed.1 lasts (after_beat kept awaiting blew life counts new named),
  )

-- the law
module _ (settings : Settings) (opening : List Op) (log : List Entry) (none : stray opening ≡ None) (allowed : AllAllowed settings (opening_state opening) log) (d : DoneNamed settings opening log) where
  abbrev begun : Manager
  begun = after_all (opening_state opening) d.passage.before

  abbrev beat_entry : Entry
  beat_entry = the_beat settings d.name d.container d.attempt d.sender d.id d.running d.done d.next d.launch d.clean

  abbrev later : Manager
  later = after_all (after begun beat_entry) d.passage.after

  later_is : later ≡ state_later opening d.passage
  later_is =
      ap (λ (e : Entry). after_all (after begun e) d.passage.after) (sym d.beat)
      ∙ sym (after-append (opening_state opening) d.passage.before (d.passage.entry ∷ d.passage.after))

  walked : Whole begun × AllAllowed settings begun (beat_entry ∷ (d.passage.after ++ d.passage.rest))
  walked =
      let w = walk settings Whole (λ s e x may. whole_after settings s.kept s.awaiting s.blew s.life e x may) opening log d.passage.before (d.passage.entry ∷ (d.passage.after ++ d.passage.rest)) (whole_opening opening none) allowed d.passage.whole in
      (w.0, subst (λ (x : Entry). AllAllowed settings begun (x ∷ (d.passage.after ++ d.passage.rest))) d.beat w.1)

  fate : (r : Option AppRecord) × (stands : Stands d.container d.attempt r) × FateIn settings d.name d.container d.attempt r stands (list_any (tells_end d.attempt d.container) d.passage.after) later.kept later.life
  fate =
      fate_later settings d.name d.container d.attempt d.sender d.id d.running d.done d.next d.launch d.clean begun.kept begun.awaiting begun.blew begun.life d.passage.after d.passage.rest
      walked.0 walked.1 d.is_new d.named d.counts d.lasts

  off_later : IsWorkedOff (state_later opening d.passage).life d.name
      → IsSomeAnd (state_later opening d.passage).life
      (λ life. (has_lost_master (scene (state_later opening d.passage) life) d.container.attempt ≡ true) ⊎ IsEndTold (scene (state_later opening d.passage) life) d.name d.container d.attempt d.passage.after)
  off_later =
      subst (λ (s : Manager). IsWorkedOff s.life d.name
      → IsSomeAnd s.life (λ life. (has_lost_master (scene s life) d.container.attempt ≡ true) ⊎ IsEndTold (scene s life) d.name d.container d.attempt d.passage.after)) later_is
      (λ off. accounted settings d.name d.container d.attempt fate.0 fate.1 later d.passage.after later.life fate.2 off)

  settled_later : (more : List Entry) → d.passage.rest ≡ Settled ∷ more
      → IsSomeAnd (state_later opening d.passage).life (λ life. IsEndTold (scene (state_later opening d.passage) life) d.name d.container d.attempt d.passage.after)
  settled_later more next =
      let rest = (along settings (λ (s : Manager). Unit {0}) (λ s e x may. tt) (after begun beat_entry) d.passage.after d.passage.rest tt walked.1.1).1 in
      let may = (subst (λ (l : List Entry). AllAllowed settings later l) next rest).0 in
      subst (λ (s : Manager). IsSomeAnd s.life (λ life. IsEndTold (scene s life) d.name d.container d.attempt d.passage.after)) later_is
      (told_settled settings d.name d.container d.attempt fate.0 fate.1 later d.passage.after later.life fate.2 may)

pub ends_are_told : (settings : Settings) (opening : List Op) (log : List Entry) → stray opening ≡ None → AllAllowed settings (opening_state opening) log → EndsAreTold settings opening log
ends_are_told settings opening log none allowed = record { worked_off = off_later settings opening log none allowed; settled = settled_later settings opening log none allowed }
