-- What a node is to clean by the answer to a new beat: the strangers that it reports where it is ready, and else nothing.
use Rattle.rm_laws.proofs.Common.{◌≡◌, ℕ, ◌+◌, List, [], ◌∷◌, Bool, true, false, ◌||◌, not, ◌==◌, if◌then◌else◌, Option, None, Some, filter, refl, sym, ap, subst, arith, ◌∙◌, nat_tests, any-filter_same, not-true, Held, Entry, Served, ContainerId, Op, Settings, is_container, is_some_and, same_container, LifeState, Manager, NodeState, Scene, scene, opening_state, has_container, lives_on, is_held, judged_node, reported, Allowed, after, after_all, AllAllowed}
use Rattle.rm_types.specs.declared.messages.NodeAsk.TheVariants.{Beat as NodeBeat}
use Rattle.rm_types.specs.declared.messages.Message.TheVariants.{Node as FromNode}
use Rattle.rm_types.specs.declared.messages.Sender.{Sender}
use Rattle.rm_types.specs.declared.replies.Reply.TheVariants as replies
use Rattle.rm_model.specs.Containers.{once}
use Rattle.rm_model.specs.Nodes.{is_ready, is_waiting}
use Rattle.rm_model.specs.NodeReplies.{beat_reply, strangers}
use Rattle.rm_laws.specs.Laws.{CleansStrangers, NewBeat, is_new_beat, is_ready_in, lives_on_node, state_at}
use Rattle.rm_laws.proofs.Lists.{Each, each_all, each-filter, each-map, each-passing}
use Rattle.rm_laws.proofs.Phases.{state}
use Rattle.rm_laws.proofs.Book.{found}
use Rattle.rm_laws.proofs.Rows.{step}
use Rattle.rm_laws.proofs.Walks.{walk}

-- what holds of each container of a list holds of each once
each_once : (P : ContainerId → Type 0) (ids : List ContainerId) → Each P ids → Each P (once ids)
each_once P [] h = tt
each_once P (id ∷ ids) h = (h.0, each-filter P (λ other. not (is_container other id)) (once ids) (each_once P ids h.1))

-- and a container of the list is there once
pub has_once : (id : ContainerId) (ids : List ContainerId) → has_container ids id ≡ true → has_container (once ids) id ≡ true
has_once id [] h = h
has_once id (one ∷ ids) h = go (is_container one id) refl h (has_once id ids)
  where
    apart : (other : ContainerId) → other ≡ id → is_container one id ≡ false → not (is_container other one) ≡ true
    apart other same e = grind (arith, nat_tests)

    go : (b : Bool) → is_container one id ≡ b → (b || has_container ids id) ≡ true → (has_container ids id ≡ true → has_container (once ids) id ≡ true)
        → (b || has_container (filter (λ other. not (is_container other one)) (once ids)) id) ≡ true
    go true e x more = refl
    go false e x more =
        any-filter_same (λ (other : ContainerId). is_container other id) (λ other. not (is_container other one)) true
        (λ other at. apart other (same_container other id at) e) (once ids)
        ∙ more x

has_reported : (id : ContainerId) (running : List Held) → is_held running id ≡ true → has_container (reported running) id ≡ true
has_reported id [] h = h
has_reported id (held ∷ running) h = go (is_container held.id id) h (has_reported id running)
  where
    go : (b : Bool) → (b || is_held running id) ≡ true → (is_held running id ≡ true → has_container (reported running) id ≡ true) → (b || has_container (reported running) id) ≡ true
    go true x more = refl
    go false x more = more x

module _ (m : Scene) (name : List ℕ) (running : List Held) where
  strangers_out : Each (λ id. lives_on m.life.book name id ≡ false) (strangers m name running)
  strangers_out =
      each_once (λ id. lives_on m.life.book name id ≡ false) _ (each-passing (λ id. lives_on m.life.book name id ≡ false) (λ id. not (lives_on m.life.book name id)) (λ id out. not-true (lives_on m.life.book name id) out) (reported running))

  strangers_all : (id : ContainerId) → is_held running id ≡ true → lives_on m.life.book name id ≡ false → has_container (strangers m name running) id ≡ true
  strangers_all id held away =
      has_once id (filter (λ one. not (lives_on m.life.book name one)) (reported running))
      (any-filter_same (λ (one : ContainerId). is_container one id) (λ one. not (lives_on m.life.book name one)) true
      (λ one at. ap (λ (x : ContainerId). not (lives_on m.life.book name x)) (same_container one id at) ∙ rw away refl) (reported running)
      ∙ has_reported id running held)

  -- what a node is told, where it is ready and where it isn't
  abbrev pub IsTold : Bool → List ContainerId → List ContainerId → Type 0
  IsTold ready launch clean = (clean ≡ (if ready then strangers m name running else [])) × (ready ≡ false → launch ≡ [])

  by_phase : (told : ℕ) (launches : List ContainerId) (ready : Bool) (next : ℕ) (launch clean : List ContainerId)
      → replies.Beat next launch clean ≡ (if ready then replies.Beat told launches (strangers m name running) else replies.Beat told [] []) → IsTold ready launch clean
  by_phase told launches true next launch clean is = (cc, λ e. cc)
  by_phase told launches false next launch clean is = (cc, λ e. cc)

pub not_both : (id last : ℕ) → (id + 1 == last) ≡ true → (id == last) ≡ true → ⊥
not_both id last again new = grind (arith, nat_tests)

module _ (m : Scene) (name : List ℕ) (id : ℕ) (running : List Held) where
  by_node : (node : Option NodeState) → judged_node m.life.nodes name ≡ node → (next : ℕ) (launch clean : List ContainerId)
      → replies.Beat next launch clean ≡ beat_reply m id running node → is_some_and (λ one. id == one.last_id) node ≡ true
      → IsTold m name running (is_some_and (λ one. is_ready one.phase) node) launch clean
  by_node None at next launch clean is new = cc
  by_node (Some node) at next launch clean is new =
      subst (λ (n : List ℕ). IsTold m n running (is_ready node.phase) launch clean) (found m.life.nodes name node at)
      (go (not (is_waiting node.phase || is_ready node.phase)) (id + 1 == node.last_id) refl (not (id == node.last_id)) is)
    where
      go : (lost again : Bool) → (id + 1 == node.last_id) ≡ again → (other : Bool)
          → replies.Beat next launch clean
          ≡ (if lost then replies.Resync else (if again then node.last_reply else (if other then replies.Resync else (if is_ready node.phase then replies.Beat (node.last_id + 1) node.launches (strangers m node.name running) else replies.Beat (node.last_id + 1) [] []))))
          → IsTold m node.name running (is_ready node.phase) launch clean
      go true again e other x = cc
      go false true e other x = absurd (not_both id node.last_id e new)
      go false false e true x = cc
      go false false e false x = by_phase m node.name running (node.last_id + 1) node.launches (is_ready node.phase) next launch clean x

  by_open : (b : Bool) (next : ℕ) (launch clean : List ContainerId)
      → replies.Beat next launch clean ≡ (if b then beat_reply m id running (judged_node m.life.nodes name) else replies.NotOpen)
      → is_some_and (λ one. id == one.last_id) (judged_node m.life.nodes name) ≡ true
      → IsTold m name running (is_some_and (λ one. is_ready one.phase) (judged_node m.life.nodes name)) launch clean
  by_open false next launch clean is new = cc
  by_open true next launch clean is new = by_node (judged_node m.life.nodes name) refl next launch clean is new

-- what is said of the answer to a new beat
pub record SaysOfBeat (s : Manager) (e : Entry) (name : List ℕ) (running : List Held) (launch clean : List ContainerId) : Type 0 where
  pub before : Each (λ id. lives_on_node s.life name id ≡ false) clean
  pub past : Each (λ id. lives_on_node (after s e).life name id ≡ false) clean
  pub all : (id : ContainerId) → is_ready_in s.life name ≡ true → is_held running id ≡ true → lives_on_node s.life name id ≡ false → has_container clean id ≡ true
  pub waits : is_ready_in s.life name ≡ false → (clean ≡ []) × (launch ≡ [])

module _ (settings : Settings) (kept awaiting : List Op) (blew : Bool) (sender : Sender) (name : List ℕ) (beat : ℕ) (running : List Held) (done : List ContainerId) (next : ℕ) (launch clean : List ContainerId) where
  abbrev the_entry : Entry
  the_entry = Served sender (FromNode name (NodeBeat beat running done)) (replies.Beat next launch clean)

  says_at : (life : Option LifeState) → Allowed settings (state kept awaiting blew life) the_entry → is_new_beat (state kept awaiting blew life) life name beat ≡ true
      → SaysOfBeat (state kept awaiting blew life) the_entry name running launch clean
  says_at None may new = absurd may
  says_at (Some life) may new =
      record {
        before = away;
        past = each-map (λ one. lives_on life.book name one ≡ false) (λ one. lives_on_node (after s the_entry).life name one ≡ false)
            (λ one h. step name one settings kept awaiting blew (Some life) the_entry may ∙ h) clean away;
        all = λ id ready held out. subst (λ (list : List ContainerId). has_container list id ≡ true) (sym (in_ready ready)) (strangers_all m name running id held out);
        waits = λ waiting. (told.0 ∙ rw waiting refl, told.1 waiting);
      }
    where
      s : Manager
      s = state kept awaiting blew (Some life)

      m : Scene
      m = scene (state kept awaiting blew (Some life)) life

      told : IsTold (scene (state kept awaiting blew (Some life)) life) name running (is_some_and (λ one. is_ready one.phase) (judged_node life.nodes name)) launch clean
      told = by_open (scene (state kept awaiting blew (Some life)) life) name beat running life.is_open next launch clean may.answers new

      in_ready : is_some_and (λ one. is_ready one.phase) (judged_node life.nodes name) ≡ true → clean ≡ strangers (scene (state kept awaiting blew (Some life)) life) name running
      in_ready ready = told.0 ∙ rw ready refl

      either_way : (ready : Bool) → Each (λ one. lives_on life.book name one ≡ false) (if ready then strangers (scene (state kept awaiting blew (Some life)) life) name running else [])
      either_way true = strangers_out (scene (state kept awaiting blew (Some life)) life) name running
      either_way false = tt

      away : Each (λ one. lives_on life.book name one ≡ false) clean
      away = subst (Each (λ one. lives_on life.book name one ≡ false)) (sym told.0) (either_way _)

-- the law
pub cleans_strangers : (settings : Settings) (opening : List Op) (log : List Entry) → AllAllowed settings (opening_state opening) log → CleansStrangers opening log
cleans_strangers settings opening log allowed =
    record {
      strangers = λ b. (each_all _ b.clean (says b).before, each_all _ b.clean (says b).past);
      all = λ b id ready held out. (says b).all id ready held out;
      waits = λ b waiting. (says b).waits waiting;
    }
  where
    says : (b : NewBeat opening log)
        → SaysOfBeat (state_at b) (Served b.sender (FromNode b.name (NodeBeat b.id b.running b.done)) (replies.Beat b.next b.launch b.clean)) b.name b.running b.launch b.clean
    says b =
        let s = after_all (opening_state opening) b.before in
        let e = Served b.sender (FromNode b.name (NodeBeat b.id b.running b.done)) (replies.Beat b.next b.launch b.clean) in
        let may = (walk settings (λ (x : Manager). Unit {0}) (λ x one t may. tt) opening log b.before (e ∷ b.rest) tt allowed b.whole).1.0 in
        says_at settings s.kept s.awaiting s.blew b.sender b.name b.id b.running b.done b.next b.launch b.clean s.life may b.is_new
