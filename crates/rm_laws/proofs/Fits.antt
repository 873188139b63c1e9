-- What stands on a node fits what it offers.
use Rattle.rm_laws.proofs.Common.{◌≡◌, ◌⊎◌, ℕ, ◌<◌, ◌≤◌, List, Bool, true, false, not, if◌then◌else◌, Option, None, Some, map, filter, count_by, refl, sym, ap, arith, ◌∙◌, inl, inr, list_any, bytes_eq, ContainerId, Message, Reply, Resource, is_container, LifeState, NodeState, Row, Scene, has_container, is_living, judged_node, tidied, with_judged_node, allocates, row_allocated, beats, expired, nodes_registered, reported, row_beaten, life_after}
use Rattle.rm_types.specs.declared.replies.Reply.TheVariants as replies
use Rattle.rm_model.specs.State.{Registration}
use Rattle.rm_model.specs.Containers.{released_by}
use Rattle.rm_model.specs.Nodes.{tidied_node}
use Rattle.rm_model.specs.MasterReplies.{late_rows, new_grants, row_kept, takes_over}
use Rattle.rm_model.specs.NodeReplies.{beaten, new_node, node_after_registration}
use Rattle.rm_laws.proofs.Messages.{Any, Changes, either, served}
use Rattle.rm_laws.proofs.Grants.{made}
use Rattle.rm_laws.proofs.Told.{any-filter, any-map}
use Rattle.rm_laws.proofs.Counts.{count_filter, count_map}
use Rattle.rm_laws.proofs.Weights.{IsPart, capability_of, offers-map, offers-new, weight, weight-filter, weight-map}

-- something stands on a node
abbrev pub stands_on : List Row → List ℕ → Bool
stands_on book name = list_any (λ row. bytes_eq row.node name) book

-- how many rows a container has
abbrev pub rows_of : List Row → ContainerId → ℕ
rows_of book id = count_by (λ row. is_container row.id id) book

-- what holds of the book of a life: each container has one row; on a node without a capability nothing stands; what stands fits;
-- and what stands is of a former epoch, or was granted
pub record FitLife (life : LifeState) : Type 0 where
  pub once : (id : ContainerId) → rows_of life.book id ≤ 1
  pub bare : (name : List ℕ) → capability_of life.nodes name ≡ None → stands_on life.book name ≡ false
  pub held : (f : Resource → ℕ) → IsPart f → (name : List ℕ) (capability : Resource) → capability_of life.nodes name ≡ Some capability → weight f name life.book ≤ f capability
  pub fresh : (id : ContainerId) → is_living life.book id ≡ true → (id.epoch < life.epoch) ⊎ ((id.epoch ≡ life.epoch) × (id.seq ≤ made id.attempt life.granted))

-- a life with fewer rows, and nodes that offer the same
pub record Calm (old new : LifeState) : Type 0 where
  pub offers : (name : List ℕ) → capability_of new.nodes name ≡ capability_of old.nodes name
  pub rows : (id : ContainerId) → rows_of new.book id ≤ rows_of old.book id
  pub stands : (name : List ℕ) → stands_on new.book name ≡ true → stands_on old.book name ≡ true
  pub weights : (f : Resource → ℕ) (name : List ℕ) → weight f name new.book ≤ weight f name old.book
  pub living : (id : ContainerId) → is_living new.book id ≡ true → is_living old.book id ≡ true
  pub epoch : new.epoch ≡ old.epoch
  pub granted : new.granted ≡ old.granted

false_by : (a b : Bool) → (a ≡ true → b ≡ true) → b ≡ false → a ≡ false
false_by false b h e = refl
false_by true b h e = absurd (let t = h refl in let y : true ≡ false = sym t ∙ e in cc)

pub calm_fits : (old new : LifeState) → Calm old new → FitLife old → FitLife new
calm_fits old new c w =
    record {
      once = λ id. let a = c.rows id in let b = w.once id in omega (arith, a, b);
      bare = λ name none. false_by (stands_on new.book name) (stands_on old.book name) (c.stands name) (w.bare name (sym (c.offers name) ∙ none));
      held = λ f part name capability some. let a = c.weights f name in let b = w.held f part name capability (sym (c.offers name) ∙ some) in omega (arith, a, b);
      fresh = λ id h. go id (w.fresh id (c.living id h));
    }
  where
    go : (id : ContainerId) → (id.epoch < old.epoch) ⊎ ((id.epoch ≡ old.epoch) × (id.seq ≤ made id.attempt old.granted)) → (id.epoch < new.epoch) ⊎ ((id.epoch ≡ new.epoch) × (id.seq ≤ made id.attempt new.granted))
    go id (inl x) = inl (let e = c.epoch in omega (arith, e, x))
    go id (inr x) = inr (x.0 ∙ sym c.epoch, let m : made id.attempt new.granted ≡ made id.attempt old.granted = ap (made id.attempt) c.granted in let y = x.1 in omega (arith, m, y))

-- the same rows
pub same_rows : (old new : LifeState) → ((name : List ℕ) → capability_of new.nodes name ≡ capability_of old.nodes name) → new.book ≡ old.book → new.epoch ≡ old.epoch → new.granted ≡ old.granted → Calm old new
same_rows old new o b e g =
    record {
      offers = o;
      rows = λ id. let x = ap (λ (l : List Row). rows_of l id) b in omega (arith, x);
      stands = λ name h. ap (λ (l : List Row). stands_on l name) (sym b) ∙ h;
      weights = λ f name. let x = ap (λ (l : List Row). weight f name l) b in omega (arith, x);
      living = λ id h. ap (λ (l : List Row). is_living l id) (sym b) ∙ h;
      epoch = e;
      granted = g;
    }

-- rows that change in place
pub changed_rows : (old new : LifeState) (g : Row → Row) → ((row : Row) → ((g row).id ≡ row.id) × ((g row).node ≡ row.node)) → ((row : Row) → (g row).size ≡ row.size)
    → ((name : List ℕ) → capability_of new.nodes name ≡ capability_of old.nodes name) → new.book ≡ map g old.book → new.epoch ≡ old.epoch → new.granted ≡ old.granted → Calm old new
changed_rows old new g at sizes o b e gr =
    record {
      offers = o;
      rows = λ id. let x = ap (λ (l : List Row). rows_of l id) b in let y = count_map (λ (row : Row). is_container row.id id) g (λ row. ap (λ (i : ContainerId). is_container i id) (at row).0) old.book in omega (arith, x, y);
      stands = λ name h. sym (any-map (λ (row : Row). bytes_eq row.node name) g (λ row. ap (λ (n : List ℕ). bytes_eq n name) (at row).1) old.book) ∙ ap (λ (l : List Row). stands_on l name) (sym b) ∙ h;
      weights = λ f name. let x = ap (λ (l : List Row). weight f name l) b in let y = weight-map f name g (λ row. ((at row).1, sizes row)) old.book in omega (arith, x, y);
      living = λ id h. sym (any-map (λ (row : Row). is_container row.id id) g (λ row. ap (λ (i : ContainerId). is_container i id) (at row).0) old.book) ∙ ap (λ (l : List Row). is_living l id) (sym b) ∙ h;
      epoch = e;
      granted = gr;
    }

-- rows that go
pub left_rows : (old new : LifeState) (q : Row → Bool) → ((name : List ℕ) → capability_of new.nodes name ≡ capability_of old.nodes name) → new.book ≡ filter q old.book → new.epoch ≡ old.epoch → new.granted ≡ old.granted → Calm old new
left_rows old new q o b e gr =
    record {
      offers = o;
      rows = λ id. let x = ap (λ (l : List Row). rows_of l id) b in let y = count_filter (λ (row : Row). is_container row.id id) q old.book in omega (arith, x, y);
      stands = λ name h. any-filter (λ (row : Row). bytes_eq row.node name) q old.book (ap (λ (l : List Row). stands_on l name) (sym b) ∙ h);
      weights = λ f name. let x = ap (λ (l : List Row). weight f name l) b in let y = weight-filter f name q old.book in omega (arith, x, y);
      living = λ id h. any-filter (λ (row : Row). is_container row.id id) q old.book (ap (λ (l : List Row). is_living l id) (sym b) ∙ h);
      epoch = e;
      granted = gr;
    }

-- nodes that change in other parts
pub with_node_offers : (change : NodeState → NodeState) → ((node : NodeState) → ((change node).name ≡ node.name) × ((change node).capability ≡ node.capability)) → (at : List ℕ) (nodes : List NodeState) (name : List ℕ)
    → capability_of (with_judged_node change at nodes) name ≡ capability_of nodes name
with_node_offers change keeps at nodes name = offers-map (λ node. if bytes_eq node.name at then change node else node) (λ node. go node (bytes_eq node.name at)) nodes name
  where
    go : (node : NodeState) (b : Bool) → ((if b then change node else node).name ≡ node.name) × ((if b then change node else node).capability ≡ node.capability)
    go node true = keeps node
    go node false = (refl, refl)

pub tidied_offers : (life : LifeState) (name : List ℕ) → capability_of (tidied life).nodes name ≡ capability_of life.nodes name
tidied_offers life name = offers-map (tidied_node life.book) (λ node. (refl, refl)) life.nodes name

beaten_size : (on : List ℕ) (running launched : List ContainerId) (row : Row) → (row_beaten on running launched row).size ≡ row.size
beaten_size on running launched row =
    either (λ (x : Row). x.size ≡ row.size) (not (bytes_eq row.node on)) _ _ refl
    (either (λ (x : Row). x.size ≡ row.size) (has_container running row.id) _ _ refl (either (λ (x : Row). x.size ≡ row.size) _ _ _ refl refl))

row_kept_at : (told : List ContainerId) (row : Row) → ((row_kept told row).id ≡ row.id) × ((row_kept told row).node ≡ row.node)
row_kept_at told row = (refl, refl)

row_kept_size : (told : List ContainerId) (row : Row) → (row_kept told row).size ≡ row.size
row_kept_size told row = refl

beaten_at : (on : List ℕ) (running launched : List ContainerId) (row : Row) → ((row_beaten on running launched row).id ≡ row.id) × ((row_beaten on running launched row).node ≡ row.node)
beaten_at on running launched row =
    either (λ (x : Row). (x.id ≡ row.id) × (x.node ≡ row.node)) (not (bytes_eq row.node on)) _ _ (refl, refl)
    (either (λ (x : Row). (x.id ≡ row.id) × (x.node ≡ row.node)) (has_container running row.id) _ _ (refl, refl) (either (λ (x : Row). (x.id ≡ row.id) × (x.node ≡ row.node)) _ _ _ (refl, refl) (refl, refl)))

module _ (m : Scene) where
  calm : Calm m.life m.life
  calm = same_rows m.life m.life (λ name. refl) refl refl refl

  registered_offers : (at : List ℕ) (registration : Registration) (reply : Reply) (o : Option NodeState) (name : List ℕ) → capability_of (nodes_registered m at registration reply o) name ≡ capability_of m.life.nodes name
  registered_offers at registration reply None name = offers-new m.life.nodes (new_node at registration reply) name refl
  registered_offers at registration reply (Some node) name = with_node_offers (node_after_registration registration reply) (λ n. (refl, refl)) at m.life.nodes name

  answered : Changes m (Calm m.life) Any
  answered =
      record {
        nothing = calm;
        gives = λ user id any. same_rows m.life _ (λ name. refl) refl refl refl;
        joins = λ user id submission any new. same_rows m.life _ (λ name. refl) refl refl refl;
        wishes = λ id. same_rows m.life _ (λ name. refl) refl refl refl;
        registered = λ attempt any. same_rows m.life _ (λ name. refl) refl refl refl;
        takes_over = λ attempt kept any.
            changed_rows m.life (takes_over m attempt kept) (row_kept (map (λ one. one.id) kept)) (row_kept_at (map (λ one. one.id) kept)) (λ row. row_kept_size (map (λ one. one.id) kept) row)
            (λ name. refl) refl refl refl;
        allocated = λ attempt id asks release next grants ended any.
            changed_rows m.life (allocates m attempt asks release (replies.Allocated next grants ended))
            (row_allocated (map (λ row. row.id) (new_grants m attempt)) (map (λ row. row.id) (late_rows m attempt)) (released_by m (record { attempt = attempt; list = release }))) (λ row. (refl, refl)) (λ row. refl) (λ name. refl) refl refl refl;
        finishes = λ attempt text. same_rows m.life _ (λ name. refl) refl refl refl;
        node_registered = λ at registration reply.
            same_rows m.life (tidied (record m.life { nodes = nodes_registered m at registration reply (judged_node m.life.nodes at) }))
            (λ name. tidied_offers (record m.life { nodes = nodes_registered m at registration reply (judged_node m.life.nodes at) }) name ∙ registered_offers at registration reply (judged_node m.life.nodes at) name)
            refl refl refl;
        beaten = λ at running done launch reply.
            changed_rows m.life (beats m at running done launch reply) (row_beaten at (reported running) launch) (beaten_at at (reported running) launch) (beaten_size at (reported running) launch)
            (λ name. with_node_offers (beaten launch done reply) (λ n. (refl, refl)) at m.life.nodes name) refl refl refl;
        ticks = λ time. same_rows m.life _ (λ name. refl) refl refl refl;
        node_expires = λ at.
            same_rows m.life (tidied (record m.life { nodes = with_judged_node expired at m.life.nodes }))
            (λ name. tidied_offers (record m.life { nodes = with_judged_node expired at m.life.nodes }) name ∙ with_node_offers expired (λ n. (refl, refl)) at m.life.nodes name) refl refl refl;
        master_expires = λ attempt. same_rows m.life _ (λ name. refl) refl refl refl;
      }

  pub calm_served : (message : Message) (reply : Reply) → Calm m.life (life_after m message reply)
  calm_served message reply = served m (Calm m.life) Any answered message reply tt
