-- Every entry of the judge keeps the names of nodes apart: nodes change in place and keep their names, and one that is added has a name that none has.
use Rattle.rm_invariant.proofs.Common.{◌≡◌, ℕ, List, [], ◌∷◌, ◌++◌, Bool, true, false, Option, None, Some, refl, subst, if◌then◌else◌, bytes_eq, Cause, Held, Entry, ContainerId, Message, Op, Reply, Settings, LifeState, Manager, Registration, Scene, scene, absorbed, absorbs, after, life_keeps, leave, without_launches, beaten, expired, new_node, node_after_registration, judged_node, tidied, tidied_node, with_judged_node, passed, life_after, Tables, History, live_state}
use Rattle.rm_types.specs.declared.containers.Cause.TheVariants.{Gone}
use Rattle.rm_types.specs.declared.entries.Entry.TheVariants as entries
use Rattle.rm_types.specs.declared.operations.Op.TheVariants as ops
use Rattle.rm_model.specs.State.{NodeState}
use Rattle.rm_model.specs.Changes.{after_in, after_where, life_issues}
use Rattle.rm_model.specs.NodeReplies.{nodes_registered}
use Rattle.rm_refinement.proofs.Found.{apart_names}
use Rattle.rm_invariant.specs.Step.{Step}
use Rattle.rm_invariant.proofs.nodes.Entries.{at_name}
use Rattle.rm_invariant.proofs.nodes.Moved.{KeepsName}
use Rattle.rm_invariant.specs.nodes.Names.{NamesApart}
use Rattle.rm_invariant.proofs.resting.Nodes.{apart_map}
use Rattle.rm_invariant.specs.messages.LifeOutcomes.{LifeOutcome}
use Rattle.rm_invariant.specs.messages.LifeOutcomes as lives
use Rattle.rm_invariant.proofs.messages.LifeOutcomes.{life_outcome}

-- no two nodes have one name in the life, where one stands
abbrev pub LifeApart : Option LifeState → Type 0
LifeApart None = Unit {0}
LifeApart (Some life) = NamesApart life.nodes

-- one node changes in place
pub apart_with : (change : NodeState → NodeState) → KeepsName change → (name : List ℕ) (nodes : List NodeState) → NamesApart nodes → NamesApart (with_judged_node change name nodes)
apart_with change k name nodes h = apart_map (λ node. if bytes_eq node.name name then change node else node) (at_name name change k) nodes h

-- what has nothing left to do falls away
pub apart_tidied : (life : LifeState) → NamesApart life.nodes → NamesApart (tidied life).nodes
apart_tidied life h = apart_map (tidied_node life.book) (λ node. refl) life.nodes h

-- a node is added
none_added : (nodes : List NodeState) (new : NodeState) (name : List ℕ) → judged_node nodes name ≡ None → bytes_eq new.name name ≡ false → judged_node (nodes ++ new ∷ []) name ≡ None
none_added [] new name none other = rw other refl
none_added (node ∷ nodes) new name none other = by (bytes_eq node.name name) refl (none_added nodes new name)
  where
    by : (b : Bool) → bytes_eq node.name name ≡ b → (judged_node nodes name ≡ None → bytes_eq new.name name ≡ false → judged_node (nodes ++ new ∷ []) name ≡ None) → judged_node (node ∷ (nodes ++ new ∷ [])) name ≡ None
    by true e rest = absurd (let some : Some node ≡ None = rw e at none in cc)
    by false e rest = rw e (rest (rw e at none) other)

pub apart_added : (nodes : List NodeState) (new : NodeState) → NamesApart nodes → judged_node nodes new.name ≡ None → NamesApart (nodes ++ new ∷ [])
apart_added [] new h none = (refl, tt)
apart_added (node ∷ nodes) new h none = by (bytes_eq node.name new.name) refl (apart_added nodes new h.1)
  where
    by : (b : Bool) → bytes_eq node.name new.name ≡ b → (judged_node nodes new.name ≡ None → NamesApart (nodes ++ new ∷ [])) → NamesApart (node ∷ (nodes ++ new ∷ []))
    by true e rest = absurd (let some : Some node ≡ None = rw e at none in cc)
    by false e rest = (none_added nodes new node.name h.0 (apart_names node.name new.name e), rest (rw e at none))

-- a registration
apart_registered : (m : Scene) (name : List ℕ) (registration : Registration) (reply : Reply) (found : Option NodeState) → judged_node m.life.nodes name ≡ found → NamesApart m.life.nodes
    → NamesApart (nodes_registered m name registration reply found)
apart_registered m name registration reply None e h = apart_added m.life.nodes (new_node name registration reply) h e
apart_registered m name registration reply (Some node) e h = apart_with (node_after_registration registration reply) (λ node. refl) name m.life.nodes h

-- containers leave
apart_left : (m : Scene) (cause : Cause) (list : List ContainerId) → NamesApart m.life.nodes → NamesApart (leave m cause list).nodes
apart_left m cause list h = apart_map (without_launches list) (λ node. refl) m.life.nodes h

-- each message
apart_message : (m : Scene) (message : Message) (reply : Reply) (life : LifeState) → LifeOutcome m message reply life → NamesApart m.life.nodes → NamesApart life.nodes
apart_message m message reply life (lives.enrolls name turn capability running one later) h =
    apart_tidied (record m.life { nodes = nodes_registered m name (record { turn = turn; capability = capability; running = running }) one (judged_node m.life.nodes name) })
    (apart_registered m name (record { turn = turn; capability = capability; running = running }) one (judged_node m.life.nodes name) refl h)
apart_message m message reply life (lives.beats name id running done launched one new) h = apart_with (beaten launched done one) (λ node. refl) name m.life.nodes h
apart_message m message reply life (lives.loses name one) h = apart_tidied (record m.life { nodes = with_judged_node expired name m.life.nodes }) (apart_with expired (λ node. refl) name m.life.nodes h)
apart_message m message reply life _ h = h

-- what is issued and what is kept
apart_issues : (m : Scene) (op : Op) → NamesApart m.life.nodes → NamesApart (life_issues m op).nodes
apart_issues m (ops.AppEnd id how text) h = h
apart_issues m _ h = h

apart_keeps : (life : LifeState) (op : Op) → NamesApart life.nodes → NamesApart (life_keeps life op).nodes
apart_keeps life (ops.Epoch next stamp) h = h
apart_keeps life _ h = h

-- a node's report is absorbed
apart_absorbs : (m : Scene) (name : List ℕ) (taken : List Held) (ended : List ContainerId) → NamesApart m.life.nodes → NamesApart (absorbs m name taken ended).nodes
apart_absorbs m name taken ended h =
    apart_map (tidied_node (absorbs m name taken ended).book) (λ node. refl) (with_judged_node absorbed name (leave m Gone ended).nodes)
    (apart_with absorbed (λ node. refl) name (leave m Gone ended).nodes (apart_left m Gone ended h))

-- each entry in a life
apart_in : (s : Manager) (m : Scene) (e : Entry) → NamesApart m.life.nodes → LifeApart (after_in s m e).life
apart_in s m (entries.Opened landed epoch stamp) h = h
apart_in s m (entries.Issued op) h = apart_issues m op h
apart_in s m entries.Handed h = h
apart_in s m (entries.Kept op) h = apart_keeps m.life op h
apart_in s m (entries.Blown passed) h = h
apart_in s m (entries.Served sender message reply) h = apart_message m message reply (life_after m message reply) (life_outcome m message reply) h
apart_in s m (entries.Accepted app) h = h
apart_in s m (entries.Queued attempt) h = h
apart_in s m (entries.Absorbed node taken ended) h = apart_absorbs m node taken ended h
apart_in s m (entries.Pass node grants) h = apart_map (tidied_node _) (λ node. refl) (with_judged_node passed node m.life.nodes) (apart_with passed (λ node. refl) node m.life.nodes h)
apart_in s m (entries.Ordered container node) h = apart_with (λ node. record node { launches = node.launches ++ container ∷ [] }) (λ node. refl) node m.life.nodes h
apart_in s m (entries.Ended cause list) h = apart_tidied (leave m cause list) (apart_left m cause list h)
apart_in s m entries.Settled h = h
apart_in s m entries.Down h = tt
apart_in s m (entries.Quiet lane) h = h

apart_where : (s : Manager) (life : Option LifeState) (e : Entry) → LifeApart s.life → LifeApart life → LifeApart (after_where s life e).life
apart_where s None (entries.Opened landed epoch stamp) here h = tt
apart_where s None _ here h = here
apart_where s (Some life) e here h = apart_in s (scene s life) e h

-- every entry keeps them apart
pub after_apart : (s : Manager) (e : Entry) → LifeApart s.life → LifeApart (after s e).life
after_apart s e h = apart_where s s.life e h h

-- and so does a step of an open life
pub step_apart : (settings : Settings) (h : History) (t : Tables) (e : Entry) (g : History) (next : Tables) → Step settings h t e g next → NamesApart h.nodes → NamesApart g.nodes
step_apart settings h t e g next step apart = subst (λ (s : Manager). LifeApart s.life) step.same (after_apart (live_state h t) e apart)
