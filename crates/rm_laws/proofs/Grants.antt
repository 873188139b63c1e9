-- Grants differ.
use Rattle.rm_laws.proofs.Common.{◌≡◌, ◌≢◌, ℕ, ◌+◌, ◌<◌, ◌≤◌, List, [], ◌∷◌, ◌++◌, Bool, true, false, if◌then◌else◌, Option, None, Some, map, count_by, refl, sym, ap, subst, arith, ◌∙◌, inl, inr, flat_map, IsSomeAnd, Grant, Turn, Entry, Opened, Issued, Kept, Served, Absorbed, Pass, Ended, Down, AttemptId, ContainerId, Register, Finish, Allocate, Message, Op, Epoch, App, Attempt, AttemptEnd, AppEnd, Remove, AppRecord, Reply, Resource, Settings, is_attempt, LifeState, Manager, NodeState, Scene, scene, opening_state, AllAllowed, judged_node, first_fit_on, asks_of, pass_node, pass_of, turns, life_after, reply_to, Allowed, AllowedIn, MayOpen, MayPass, MayIssue, after, life_issues, life_keeps}
use Rattle.rm_types.specs.declared.entries.Entry.TheVariants.{Ordered}
use Rattle.rm_types.specs.declared.messages.ClientAsk.TheVariants.{New as AskNew, Submit as AskSubmit, Report as AskReport, Kill as AskKill}
use Rattle.rm_types.specs.declared.messages.ClockAsk.TheVariants.{Tick, ExpireNode, ExpireMaster}
use Rattle.rm_types.specs.declared.messages.NodeAsk.TheVariants.{Register as NodeRegister, Beat as NodeBeat}
use Rattle.rm_types.specs.declared.messages.Message.TheVariants.{Client as FromClient, Master as FromMaster, Node as FromNode, Clock as FromClock}
use Rattle.rm_types.specs.declared.replies.Reply.TheVariants as replies
use Rattle.rm_model.specs.Attempts.{attempt_at}
use Rattle.rm_model.specs.Passing.{turn_of}
use Rattle.rm_model.specs.Rules.{MayKeep}
use Rattle.rm_laws.specs.Laws.{granted_by, GrantsDiffer}
use Rattle.rm_laws.proofs.Lists.{Each, Pairs, each_all, each-map, pairs_all}
use Rattle.rm_laws.proofs.Counts.{count_join}
use Rattle.rm_laws.proofs.Walks.{Step, beyond, differs, in_order}
use Rattle.rm_laws.proofs.Stamps.{IsBetween, Phase, Sound, next_of}
use Rattle.rm_laws.proofs.Giving as giving
use Rattle.rm_laws.proofs.Giving.{begins_earlier}
use Rattle.rm_laws.proofs.Served.{SameGrants, all_same, plain, same, same_served}
use Rattle.rm_laws.proofs.Phases.{state, life_kept, life_keeps_all, sound_opening, stays as kept_stays}
use Rattle.rm_laws.proofs.Ids.{steps as id_steps}
use Rattle.rm_laws.proofs.Granting.{made_to, made_to-append, AreNew, IsNew, turns_new}

-- how many of these containers are an attempt's
abbrev pub made : AttemptId → List ContainerId → ℕ
made attempt ids = count_by (λ id. is_attempt id.attempt attempt) ids

-- a container's number is its epoch; a life uses the sequences of an attempt up to how many it granted to it, and free is what is
-- from the recorded next epoch on
abbrev pub Unused : LifeState → ContainerId → Type 0
Unused life id = made id.attempt life.granted < id.seq

abbrev pub Free : List Op → ContainerId → Type 0
Free kept id = next_of kept ≤ id.epoch

abbrev pub Above : List Op → LifeState → Bool → ContainerId → Type 0
Above kept life b id = giving.Above (λ (x : ContainerId). x.epoch) (λ l. l.epoch) Unused Free kept life b id

abbrev pub Beyond : Manager → ContainerId → Type 0
Beyond s id = giving.Beyond (λ (x : ContainerId). x.epoch) (λ l. l.epoch) Unused Free s id

is_own : giving.IsOwn (λ (x : ContainerId). x.epoch) (λ l. l.epoch) Unused Free
is_own =
    record {
      earlier = record {
        stays = λ kept op other id h. let e = (kept_stays kept op other).1 in omega (arith, e, h);
        lands = λ kept awaiting b id h. let e = b.epoch in omega (arith, e, h);
      };
      closed = λ kept awaiting life c id h. let f = c.follows in omega (arith, f, h);
      opened = λ kept awaiting life o id h. let f = o.follows in omega (arith, f, h);
      keeps = λ life op. (life_keeps_all life op).0;
      uses = λ life op id h. let e : made id.attempt (life_keeps life op).granted ≡ made id.attempt life.granted = ap (made id.attempt) (life_keeps_all life op).3 in omega (arith, e, h);
      opens = λ life op other. (life_kept life op other).ids.same.is_open;
    }

-- no node registers before a life is open
abbrev pub NoNodes : Option LifeState → Type 0
NoNodes None = Unit {0}
NoNodes (Some life) = life.is_open ≡ false → life.nodes ≡ []

abbrev pub Good : Manager → Type 0
Good s = Sound s × NoNodes s.life

abbrev pub StepOf : Manager → Entry → Type 0
StepOf s e = Step granted_by Beyond ◌≢◌ Good s e

lift : (kept : List Op) (old new : LifeState) → SameGrants old new → (id : ContainerId) → Above kept new new.is_open id → Above kept old old.is_open id
lift kept old new e id h =
    let m : made id.attempt new.granted ≡ made id.attempt old.granted = ap (made id.attempt) e.granted in
    giving.lift (λ (x : ContainerId). x.epoch) (λ l. l.epoch) Unused Free kept kept old new id (λ x. x) e.same.epoch (λ x. omega (arith, m, x)) e.same.is_open h

-- what a closed life answers leaves it as it was
closed_serves : (m : Scene) (message : Message) → life_after m message replies.NotOpen ≡ m.life
closed_serves m (FromClient user AskNew) = refl
closed_serves m (FromClient user (AskSubmit id submission)) = refl
closed_serves m (FromClient user (AskReport id)) = refl
closed_serves m (FromClient user (AskKill id)) = refl
closed_serves m (FromMaster attempt Register) = refl
closed_serves m (FromMaster attempt (Finish text)) = refl
closed_serves m (FromMaster attempt (Allocate id asks release)) = refl
closed_serves m (FromNode name (NodeRegister turn capability running)) = refl
closed_serves m (FromNode name (NodeBeat id running done)) = refl
closed_serves m (FromClock (Tick time)) = refl
closed_serves m (FromClock (ExpireNode name)) = refl
closed_serves m (FromClock (ExpireMaster attempt)) = refl

each_turn : (m : Scene) (apps : List AppRecord) → Each (λ (turn : Turn). turn.next_seq ≡ made turn.attempt m.life.granted + 1) (map (λ app. turn_of m (attempt_at app)) apps)
each_turn m [] = tt
each_turn m (app ∷ apps) = (refl, each_turn m apps)

none_new : (epoch : ℕ) (node : List ℕ) (base : AttemptId → ℕ) → AreNew epoch node base []
none_new epoch node base = record { each = tt; apart = tt }

module _ (settings : Settings) (m : Scene) where
  fit_new : (name : List ℕ) (offered : Option Resource) → AreNew m.life.epoch name (λ attempt. made attempt m.life.granted) (first_fit_on m name offered)
  fit_new name None = none_new m.life.epoch name (λ attempt. made attempt m.life.granted)
  fit_new name (Some capability) =
      turns_new m.life.epoch name (λ attempt. made attempt m.life.granted)
      (pass_node m name capability) (asks_of m.life.asks) refl refl (turns m) (each_turn m m.records.apps)
      [] (none_new m.life.epoch name (λ attempt. made attempt m.life.granted))

  by_test : (name : List ℕ) (b : Bool) (xs : List Grant) → AreNew m.life.epoch name (λ attempt. made attempt m.life.granted) xs
      → AreNew m.life.epoch name (λ attempt. made attempt m.life.granted) (if b then xs else [])
  by_test name true xs h = h
  by_test name false xs h = none_new m.life.epoch name (λ attempt. made attempt m.life.granted)

  pub pass_new : (node : NodeState) → AreNew m.life.epoch node.name (λ attempt. made attempt m.life.granted) (pass_of settings m node)
  pass_new node = by_test node.name _ (first_fit_on m node.name node.capability) (fit_new node.name node.capability)

pub made_append : (attempt : AttemptId) (xs ys : List ContainerId) → made attempt (xs ++ ys) ≡ made attempt xs + made attempt ys
made_append attempt xs ys = count_join (λ (id : ContainerId). is_attempt id.attempt attempt) xs ys

pub made_map : (attempt : AttemptId) (xs : List Grant) → made attempt (map (λ (grant : Grant). grant.id) xs) ≡ made_to attempt xs
made_map attempt [] = refl
made_map attempt (x ∷ xs) =
    let a = made_to-append attempt (x ∷ []) xs in
    let b = made_append attempt (x.id ∷ []) (map (λ (grant : Grant). grant.id) xs) in
    let one : made attempt (x.id ∷ []) ≡ made_to attempt (x ∷ []) = refl in
    omega (arith, a, b, one, made_map attempt xs)

-- the containers of new grants, by the containers that the life granted before and after
module _ (kept : List Op) (life : LifeState) (grants : List Grant) (node : List ℕ) (new : AreNew life.epoch node (λ attempt. made attempt life.granted) grants) where
  -- each is beyond the life before
  gives_one : (grant : Grant) → IsNew life.epoch node (λ attempt. made attempt life.granted) grants grant → Above kept life true grant.id
  gives_one grant n = inr (sym n.epoch_is, n.above)

  -- and past the life after
  past_one : (grant : Grant) → IsNew life.epoch node (λ attempt. made attempt life.granted) grants grant
      → Above kept (record life { granted = life.granted ++ map (λ (one : Grant). one.id) grants }) true grant.id → ⊥
  past_one grant n (inl h) = let e = n.epoch_is in omega (arith, e, h)
  past_one grant n (inr h) =
      let a = made_append grant.id.attempt life.granted (map (λ (one : Grant). one.id) grants) in
      let b = made_map grant.id.attempt grants in
      let w = n.within in
      let x = h.1 in
      omega (arith, a, b, w, x)

  -- what is beyond the life after is beyond it before
  lifts_one : (id : ContainerId) → Above kept (record life { granted = life.granted ++ map (λ (one : Grant). one.id) grants }) true id → Above kept life true id
  lifts_one id (inl h) = inl h
  lifts_one id (inr h) =
      let a = made_append id.attempt life.granted (map (λ (one : Grant). one.id) grants) in
      let x = h.1 in
      inr (h.0, omega (arith, a, x))

  each_id : (P : ContainerId → Type 0) (xs : List Grant) → Each (λ (grant : Grant). P grant.id) xs → Each P (map (λ (grant : Grant). grant.id) xs)
  each_id P [] h = tt
  each_id P (x ∷ xs) h = (h.0, each_id P xs h.1)

  pairs_id : (xs : List Grant) → Pairs (λ (a b : Grant). a.id ≢ b.id) xs → Pairs ◌≢◌ (map (λ (grant : Grant). grant.id) xs)
  pairs_id [] h = tt
  pairs_id (x ∷ xs) h = (each_id (λ id. x.id ≢ id) xs h.0, pairs_id xs h.1)

module _ (settings : Settings) (kept awaiting : List Op) (blew : Bool) (life : LifeState) (p : Phase kept awaiting (Some life)) (none : NoNodes (Some life)) where
  -- an entry that grants nothing and keeps nothing
  quiet : (e : Entry) → Allowed settings (state kept awaiting blew (Some life)) e → (more : List Op) (new : LifeState) → SameGrants life new
      → after (state kept awaiting blew (Some life)) e ≡ state kept more blew (Some new) → granted_by e ≡ [] → NoNodes (Some new)
      → StepOf (state kept awaiting blew (Some life)) e
  quiet e may more new is at nothing later =
      record {
        sound = ((id_steps settings kept awaiting blew (Some life) e p may).sound, subst (λ (s : Manager). NoNodes s.life) (sym at) later);
        lifts = λ id h. lift kept life new is id (subst (λ (s : Manager). Beyond s id) at h);
        gives = rw nothing tt;
        apart = rw nothing tt;
        past = rw nothing tt;
      }

  -- and changes other parts
  stays : (e : Entry) → Allowed settings (state kept awaiting blew (Some life)) e → (new : LifeState) → SameGrants life new
      → after (state kept awaiting blew (Some life)) e ≡ state kept awaiting blew (Some new) → granted_by e ≡ [] → NoNodes (Some new)
      → StepOf (state kept awaiting blew (Some life)) e
  stays e may new is at nothing later = quiet e may awaiting new is at nothing later

  issues : (op : Op) → MayIssue settings (scene (state kept awaiting blew (Some life)) life) op → StepOf (state kept awaiting blew (Some life)) (Issued op)
  issues (Epoch next stamp) may = quiet (Issued (Epoch next stamp)) may (awaiting ++ Epoch next stamp ∷ []) life (all_same (same life)) refl refl none
  issues (App id submission) may = quiet (Issued (App id submission)) may (awaiting ++ App id submission ∷ []) life (all_same (same life)) refl refl none
  issues (Attempt id master node) may = quiet (Issued (Attempt id master node)) may (awaiting ++ Attempt id master node ∷ []) life (all_same (same life)) refl refl none
  issues (AttemptEnd id how text) may = quiet (Issued (AttemptEnd id how text)) may (awaiting ++ AttemptEnd id how text ∷ []) life (all_same (same life)) refl refl none
  issues (AppEnd id how text) may =
      quiet (Issued (AppEnd id how text)) may (awaiting ++ AppEnd id how text ∷ []) (life_issues (scene (state kept awaiting blew (Some life)) life) (AppEnd id how text)) (all_same (plain refl refl refl refl refl)) refl refl none
  issues (Remove id) may = quiet (Issued (Remove id)) may (awaiting ++ Remove id ∷ []) life (all_same (same life)) refl refl none

  -- a served message leaves a closed life without nodes
  serves_closed : (message : Message) (reply : Reply) → reply ≡ reply_to settings (scene (state kept awaiting blew (Some life)) life) message
      → NoNodes (Some (life_after (scene (state kept awaiting blew (Some life)) life) message reply))
  serves_closed message reply is closed =
      let was : life.is_open ≡ false = sym (same_served (scene (state kept awaiting blew (Some life)) life) message reply).same.is_open ∙ closed in
      let refused : reply ≡ replies.NotOpen = is ∙ rw was refl in
      let stay : life_after (scene (state kept awaiting blew (Some life)) life) message reply ≡ life =
      ap (λ (r : Reply). life_after (scene (state kept awaiting blew (Some life)) life) message r) refused ∙ closed_serves (scene (state kept awaiting blew (Some life)) life) message in
      ap (λ (l : LifeState). l.nodes) stay ∙ none was

  none_kept : (op : Op) → NoNodes (Some (record (life_keeps life op) { handed = false }))
  none_kept (Epoch next stamp) closed = cc
  none_kept (App id submission) closed = none closed
  none_kept (Attempt id master node) closed = none closed
  none_kept (AttemptEnd id how text) closed = none closed
  none_kept (AppEnd id how text) closed = none closed
  none_kept (Remove id) closed = none closed

  keeps : (op : Op) (may : MayKeep (scene (state kept awaiting blew (Some life)) life) op) → StepOf (state kept awaiting blew (Some life)) (Kept op)
  keeps op may =
      record {
        sound = ((id_steps settings kept awaiting blew (Some life) (Kept op) p may).sound, none_kept op);
        lifts = giving.keeps (λ (x : ContainerId). x.epoch) (λ l. l.epoch) Unused Free is_own kept awaiting life op may.first p;
        gives = tt;
        apart = tt;
        past = tt;
      }

  -- a pass is made in an open life
  grants_open : (name : List ℕ) (grants : List Grant) → life.is_open ≡ true → AllowedIn settings (scene (state kept awaiting blew (Some life)) life) (Pass name grants)
      → (node : List ℕ) → AreNew life.epoch node (λ attempt. made attempt life.granted) grants → StepOf (state kept awaiting blew (Some life)) (Pass name grants)
  grants_open name grants opened may node new =
      record {
        sound = ((id_steps settings kept awaiting blew (Some life) (Pass name grants) p may).sound, λ closed. absurd (let x : true ≡ false = sym opened ∙ closed in cc));
        lifts = λ id h. subst (λ (b : Bool). Above kept life b id) (sym opened)
            (lifts_one kept life grants node new id (subst (λ (b : Bool). Above kept (record life { granted = life.granted ++ map (λ (one : Grant). one.id) grants }) b id) opened h));
        gives = subst (λ (b : Bool). Each (Above kept life b) (map (λ (one : Grant). one.id) grants)) (sym opened)
            (each_id kept life grants node new (Above kept life true) grants (each-map _ _ (gives_one kept life grants node new) grants new.each));
        apart = pairs_id kept life grants node new grants new.apart;
        past = each_id kept life grants node new (λ id. (other : ContainerId) → Later life.is_open other → id ≢ other) grants
            (each-map _ (λ grant. (other : ContainerId) → Later life.is_open other → grant.id ≢ other)
            (λ grant n. differs (Later life.is_open) grant.id (subst (λ (b : Bool). Later b grant.id → ⊥) (sym opened) (past_one kept life grants node new grant n))) grants new.each);
      }
    where
      Later : Bool → ContainerId → Type 0
      Later b id = Above kept (record life { granted = life.granted ++ map (λ (one : Grant). one.id) grants }) b id

  by_node : (name : List ℕ) (grants : List Grant) (node : Option NodeState) → IsSomeAnd node (λ node. MayPass settings (scene (state kept awaiting blew (Some life)) life) node grants)
      → (on : List ℕ) × AreNew life.epoch on (λ attempt. made attempt life.granted) grants
  by_node name grants None may = absurd may
  by_node name grants (Some node) may =
      (node.name, subst (AreNew life.epoch node.name (λ attempt. made attempt life.granted)) (sym may.grants_are) (pass_new settings (scene (state kept awaiting blew (Some life)) life) node))

  opened_by : (name : List ℕ) (grants : List Grant) (b : Bool) → life.is_open ≡ b → AllowedIn settings (scene (state kept awaiting blew (Some life)) life) (Pass name grants) → b ≡ true
  opened_by name grants true e may = refl
  opened_by name grants false e may = absurd (rw (none e) at may)

  in_life : (e : Entry) → AllowedIn settings (scene (state kept awaiting blew (Some life)) life) e → StepOf (state kept awaiting blew (Some life)) e
  in_life (Opened landed epoch stamp) may = absurd may
  in_life (Issued op) may = issues op may
  in_life (Kept op) may = keeps op may
  in_life (Served sender message reply) may =
      stays (Served sender message reply) may _ (same_served (scene (state kept awaiting blew (Some life)) life) message reply) refl refl (serves_closed message reply may.answers)
  in_life (Absorbed name taken ended) may = stays (Absorbed name taken ended) may _ (all_same (plain refl refl refl refl refl)) refl refl (λ closed. absurd (rw (none closed) at may))
  in_life (Pass name grants) may = grants_open name grants (opened_by name grants life.is_open refl may) may (by_node name grants (judged_node life.nodes name) may).0 (by_node name grants (judged_node life.nodes name) may).1
  in_life (Ordered container name) may = stays (Ordered container name) may _ (all_same (plain refl refl refl refl refl)) refl refl (λ closed. absurd (let x = may.opened in cc))
  in_life (Ended cause list) may = stays (Ended cause list) may _ (all_same (plain refl refl refl refl refl)) refl refl (λ closed. rw (none closed) refl)
  in_life Down may = record { sound = ((id_steps settings kept awaiting blew (Some life) Down p may).sound, tt); lifts = giving.goes_down (λ (x : ContainerId). x.epoch) (λ l. l.epoch) Unused Free is_own kept awaiting life p; gives = tt; apart = tt; past = tt }
  in_life e may = stays e may _ (all_same (plain refl refl refl refl refl)) refl refl none

-- a life begins
begins : (settings : Settings) (kept awaiting : List Op) (blew : Bool) (b : IsBetween kept awaiting) (landed epoch stamp : ℕ) → MayOpen (state kept awaiting blew None) landed epoch stamp
    → StepOf (state kept awaiting blew None) (Opened landed epoch stamp)
begins settings kept awaiting blew b landed epoch stamp may =
    record {
      sound = ((id_steps settings kept awaiting blew None (Opened landed epoch stamp) b may).sound, λ closed. refl);
      lifts = begins_earlier Free is_own.earlier kept awaiting blew b landed may.landing;
      gives = tt;
      apart = tt;
      past = tt;
    }

-- each entry that is allowed
steps : (settings : Settings) (kept awaiting : List Op) (blew : Bool) (life : Option LifeState) (e : Entry) → Phase kept awaiting life → NoNodes life
    → Allowed settings (state kept awaiting blew life) e → StepOf (state kept awaiting blew life) e
steps settings kept awaiting blew None (Opened landed epoch stamp) p none may = begins settings kept awaiting blew p landed epoch stamp may
steps settings kept awaiting blew None _ p none may = absurd may
steps settings kept awaiting blew (Some life) e p none may = in_life settings kept awaiting blew life p none e may

-- the law
pub grants_differ : (settings : Settings) (opening : List Op) (log : List Entry) → AllAllowed settings (opening_state opening) log → GrantsDiffer opening log
grants_differ settings opening log allowed =
    let good : Good (opening_state opening) = (sound_opening opening, tt) in
    let each = beyond granted_by Beyond ◌≢◌ Good settings (λ s e g may. steps settings s.kept s.awaiting s.blew s.life e g.0 g.1 may) (opening_state opening) log good allowed in
    let apart = in_order granted_by Beyond ◌≢◌ Good settings (λ s e g may. steps settings s.kept s.awaiting s.blew s.life e g.0 g.1 may) (opening_state opening) log good allowed in
    record {
      differ = pairs_all ◌≢◌ (flat_map granted_by log) apart;
      epochs = each_all (Beyond (opening_state opening)) (flat_map granted_by log) each;
    }
