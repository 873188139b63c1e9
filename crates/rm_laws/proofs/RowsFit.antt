-- The law of fits: each entry keeps what stands on each node within what it offers.
use Rattle.rm_laws.proofs.Common.{◌≡◌, ◌≢◌, ◌⊎◌, ℕ, ◌+◌, ◌<◌, ◌≤◌, List, [], ◌∷◌, ◌++◌, Bool, true, false, ◌||◌, ◌&&◌, not, cond, if◌then◌else◌, Option, None, Some, map, filter, refl, sym, ap, subst, arith, ◌∙◌, inl, inr, sum_by, option_and_then, IsSomeAnd, bytes_eq, list_any-append, sum_by-append, or_right, Held, Grant, Entry, Opened, Issued, Kept, Served, Absorbed, Pass, Ended, Down, ContainerId, Op, Epoch, App, Attempt, AttemptEnd, AppEnd, Remove, Resource, Settings, is_container, same_text, same_container, LifeState, Manager, NodeState, Row, Scene, scene, opening_state, has_container, ids_on, is_living, lives_on, judged_node, tidied, with_judged_node, book_taken, row_absorbed, row_taken, is_held, Allowed, AllowedIn, MayAbsorb, MayPass, after, after_all, life_issues, life_keeps, AllAllowed}
use Rattle.rm_types.specs.declared.containers.Cause.TheVariants.{Gone}
use Rattle.rm_types.specs.declared.entries.Entry.TheVariants.{Ordered}
use Rattle.rm_types.proofs.IdLemmas.{container_itself}
use Rattle.rm_model.specs.Containers.{leave, without_launches}
use Rattle.rm_model.specs.Absorbing.{absorbed, absorbs, with_taken}
use Rattle.rm_model.specs.Changes.{orders}
use Rattle.rm_laws.specs.Laws.{AllFit, FitsOn, InEachState, RowsDiffer, RowsFit}
use Rattle.rm_laws.proofs.Lists.{Each, Pairs, each-map, pairs_all}
use Rattle.rm_laws.proofs.Phases.{state}
use Rattle.rm_laws.proofs.Grants.{made}
use Rattle.rm_laws.proofs.Book.{found, is_living-filter, not_taken_apart, row_taken_stays}
use Rattle.rm_laws.proofs.Told.{any-filter, any-map, either_true}
use Rattle.rm_laws.proofs.Weights.{IsPart, capability_of, memory_part, no_weight, offers-map, vcores_part, weight, weight-append, weight-filter, weight-map}
use Rattle.rm_laws.proofs.Fits.{FitLife, calm_fits, calm_served, left_rows, rows_of, same_rows, stands_on, tidied_offers, with_node_offers}
use Rattle.rm_laws.proofs.FitsPass.{pass_fits}
use Rattle.rm_laws.proofs.Counts.{count_filter, count_join, count_map, count_none}
use Rattle.rm_laws.proofs.FitsAbsorb.{Booked, IsTaken, booked_counts, bounded, covered, former_counts, in_ids, left_held, own_filter, own_found, own_weight, taken_is, taken_weight, times_held}
use Rattle.rm_laws.proofs.Walks.{walk}

-- a node after it changed, and after all did
node_own : (change : NodeState → NodeState) → ((node : NodeState) → (change node).name ≡ node.name) → (name : List ℕ) (nodes : List NodeState) (node : NodeState) → judged_node nodes name ≡ Some node → judged_node (with_judged_node change name nodes) name ≡ Some (change node)
node_own change names name [] node here = cc
node_own change names name (one ∷ nodes) node here = go (bytes_eq one.name name) refl here (node_own change names name nodes node)
  where
    go : (b : Bool) → bytes_eq one.name name ≡ b → cond b (Some one) (judged_node nodes name) ≡ Some node → (judged_node nodes name ≡ Some node → judged_node (with_judged_node change name nodes) name ≡ Some (change node))
        → judged_node ((if b then change one else one) ∷ with_judged_node change name nodes) name ≡ Some (change node)
    go true e h more =
        let same : one ≡ node = cc in
        ap (λ (b : Bool). cond b (Some (change one)) (judged_node (with_judged_node change name nodes) name)) (ap (λ (n : List ℕ). bytes_eq n name) (names one) ∙ e) ∙ ap (λ (n : NodeState). Some (change n)) same
    go false e h more = rw e (more h)

pub node_all : (g : NodeState → NodeState) → ((node : NodeState) → (g node).name ≡ node.name) → (name : List ℕ) (nodes : List NodeState) (node : NodeState) → judged_node nodes name ≡ Some node → judged_node (map g nodes) name ≡ Some (g node)
node_all g names name [] node here = cc
node_all g names name (one ∷ nodes) node here =
    ap (λ (b : Bool). cond b (Some (g one)) (judged_node (map g nodes) name)) (ap (λ (n : List ℕ). bytes_eq n name) (names one)) ∙ go (bytes_eq one.name name) here (node_all g names name nodes node)
  where
    go : (b : Bool) → cond b (Some one) (judged_node nodes name) ≡ Some node → (judged_node nodes name ≡ Some node → judged_node (map g nodes) name ≡ Some (g node)) → cond b (Some (g one)) (judged_node (map g nodes) name) ≡ Some (g node)
    go true h more = let same : one ≡ node = cc in ap (λ (n : NodeState). Some (g n)) same
    go false h more = more h

-- and another node
node_other : (change : NodeState → NodeState) → ((node : NodeState) → (change node).name ≡ node.name) → (name at : List ℕ) → bytes_eq name at ≡ false → (nodes : List NodeState) → capability_of (with_judged_node change name nodes) at ≡ capability_of nodes at
node_other change names name at other [] = refl
node_other change names name at other (one ∷ nodes) = go (bytes_eq one.name name) refl (node_other change names name at other nodes)
  where
    skip : (b : Bool) → bytes_eq one.name at ≡ b → capability_of (with_judged_node change name nodes) at ≡ capability_of nodes at
        → option_and_then (λ (n : NodeState). n.capability) (cond b (Some one) (judged_node (with_judged_node change name nodes) at)) ≡ option_and_then (λ (n : NodeState). n.capability) (cond b (Some one) (judged_node nodes at))
    skip true e m = refl
    skip false e m = m

    go : (b : Bool) → bytes_eq one.name name ≡ b → capability_of (with_judged_node change name nodes) at ≡ capability_of nodes at
        → option_and_then (λ (n : NodeState). n.capability) (judged_node ((if b then change one else one) ∷ with_judged_node change name nodes) at) ≡ option_and_then (λ (n : NodeState). n.capability) (judged_node (one ∷ nodes) at)
    go true e m =
        let away : bytes_eq one.name at ≡ false = subst (λ (n : List ℕ). bytes_eq n at ≡ false) (sym (same_text one.name name e)) other in
        let gone : bytes_eq (change one).name at ≡ false = ap (λ (n : List ℕ). bytes_eq n at) (names one) ∙ away in
        ap (λ (b : Bool). option_and_then (λ (n : NodeState). n.capability) (cond b (Some (change one)) (judged_node (with_judged_node change name nodes) at))) gone ∙ m ∙ ap (λ (b : Bool). option_and_then (λ (n : NodeState). n.capability) (cond b (Some one) (judged_node nodes at))) (sym away)
    go false e m = skip (bytes_eq one.name at) refl m

-- rows absorbed
absorbed_count : (on : List ℕ) (id : ContainerId) (taken : List Held) → rows_of (map (row_absorbed on) taken) id ≡ times_held taken id
absorbed_count on id [] = refl
absorbed_count on id (held ∷ taken) =
    let a = count_join (λ (row : Row). is_container row.id id) (row_absorbed on held ∷ []) (map (row_absorbed on) taken) in
    let b = sum_by-append (λ (r : Held). let n : ℕ = cond (is_container r.id id) 1 0 in n) (held ∷ []) taken in
    let one : rows_of (row_absorbed on held ∷ []) id ≡ times_held (held ∷ []) id = refl in
    let e = absorbed_count on id taken in omega (arith, a, b, one, e)

weight_less : (f : Resource → ℕ) (q : Held → Bool) (taken : List Held) → taken_weight f (filter q taken) ≤ taken_weight f taken
weight_less f q [] = omega arith
weight_less f q (held ∷ taken) = go (q held) (weight_less f q taken)
  where
    front : (l : List Held) → taken_weight f (held ∷ l) ≡ taken_weight f (held ∷ []) + taken_weight f l
    front l = sum_by-append f (held.size ∷ []) (map (λ (x : Held). x.size) l)

    go : (b : Bool) → taken_weight f (filter q taken) ≤ taken_weight f taken → taken_weight f (cond b (held ∷ filter q taken) (filter q taken)) ≤ taken_weight f (held ∷ taken)
    go true h = let a = front (filter q taken) in let b = front taken in omega (arith, a, b, h)
    go false h = let b = front taken in omega (arith, b, h)

absorbed_weight : (f : Resource → ℕ) (on name : List ℕ) (b : Bool) → bytes_eq on name ≡ b → (taken : List Held) → weight f name (map (row_absorbed on) taken) ≡ cond b (taken_weight f taken) 0
absorbed_weight f on name true is [] = refl
absorbed_weight f on name false is [] = refl
absorbed_weight f on name true is (held ∷ taken) =
    let a = weight-append f name (row_absorbed on held ∷ []) (map (row_absorbed on) taken) in
    let one : weight f name (row_absorbed on held ∷ []) ≡ sum_by f (held.size ∷ []) = rw is refl in
    let b = sum_by-append f (held.size ∷ []) (map (λ (x : Held). x.size) taken) in
    let e = absorbed_weight f on name true is taken in omega (arith, a, one, b, e)
absorbed_weight f on name false is (held ∷ taken) =
    let a = weight-append f name (row_absorbed on held ∷ []) (map (row_absorbed on) taken) in
    let one : weight f name (row_absorbed on held ∷ []) ≡ 0 = rw is refl in
    let e = absorbed_weight f on name false is taken in omega (arith, a, one, e)

absorbed_stands : (on name : List ℕ) (taken : List Held) → bytes_eq on name ≡ false → stands_on (map (row_absorbed on) taken) name ≡ false
absorbed_stands on name [] is = refl
absorbed_stands on name (held ∷ taken) is = rw (is, absorbed_stands on name taken is) refl

-- of what was taken and doesn't live
filtered_living : (left : List Row) (on : List ℕ) (id : ContainerId) (taken : List Held) → is_living (map (row_absorbed on) (filter (λ held. not (is_living left held.id)) taken)) id ≡ true → is_living left id ≡ false
filtered_living left on id [] h = cc
filtered_living left on id (held ∷ taken) h = go (is_living left held.id) refl (is_container held.id id) refl h (filtered_living left on id taken)
  where
    go : (a : Bool) → is_living left held.id ≡ a → (b : Bool) → is_container held.id id ≡ b → is_living (map (row_absorbed on) (cond (not a) (held ∷ filter (λ x. not (is_living left x.id)) taken) (filter (λ x. not (is_living left x.id)) taken))) id ≡ true
        → (is_living (map (row_absorbed on) (filter (λ x. not (is_living left x.id)) taken)) id ≡ true → is_living left id ≡ false) → is_living left id ≡ false
    go true l b e h more = more h
    go false l true e h more = subst (λ (i : ContainerId). is_living left i ≡ false) (same_container held.id id e) l
    go false l false e h more = more (rw e at h)

all_living : (left : List Row) (taken : List Held) → Each (λ (held : Held). is_living left held.id ≡ true) taken → filter (λ held. not (is_living left held.id)) taken ≡ []
all_living left [] e = refl
all_living left (held ∷ taken) e = rw e.0 (all_living left taken e.1)

-- what holds of each that was taken holds of one that entered
each_entered : (P : ContainerId → Type 0) (q : Held → Bool) (on : List ℕ) (id : ContainerId) (taken : List Held) → Each (λ (held : Held). P held.id) taken → is_living (map (row_absorbed on) (filter q taken)) id ≡ true → P id
each_entered P q on id [] e h = cc
each_entered P q on id (held ∷ taken) e h = go (q held) (is_container held.id id) refl h (each_entered P q on id taken e.1)
  where
    go : (a b : Bool) → is_container held.id id ≡ b → is_living (map (row_absorbed on) (cond a (held ∷ filter q taken) (filter q taken))) id ≡ true → (is_living (map (row_absorbed on) (filter q taken)) id ≡ true → P id) → P id
    go true true same h more = subst P (same_container held.id id same) e.0
    go true false same h more = more (rw same at h)
    go false b same h more = more h

module _ (settings : Settings) (m : Scene) (name : List ℕ) (node : NodeState) (here : judged_node m.life.nodes name ≡ Some node) (named : node.name ≡ name) (w : FitLife m.life) (taken : List Held) (ended : List ContainerId) (may : MayAbsorb settings m node taken ended) where
  own_offer : capability_of (with_judged_node absorbed name (map (without_launches ended) m.life.nodes)) name ≡ Some node.last.capability
  own_offer =
      ap (λ (o : Option NodeState). option_and_then (λ (n : NodeState). n.capability) o)
      (node_own absorbed (λ n. refl) name (map (without_launches ended) m.life.nodes) (without_launches ended node) (node_all (without_launches ended) (λ n. refl) name m.life.nodes node here))

  other_offer : (at : List ℕ) → bytes_eq name at ≡ false → capability_of (with_judged_node absorbed name (map (without_launches ended) m.life.nodes)) at ≡ capability_of m.life.nodes at
  other_offer at other =
      node_other absorbed (λ n. refl) name at other (map (without_launches ended) m.life.nodes) ∙ offers-map (without_launches ended) (λ n. (refl, refl)) m.life.nodes at

  offered : capability_of m.life.nodes name ≡ node.capability
  offered = ap (λ (o : Option NodeState). option_and_then (λ (n : NodeState). n.capability) o) here

-- the taken containers that enter the book
abbrev entered : Scene → List Held → List ContainerId → List Held
entered m taken ended = filter (λ held. not (is_living (filter (λ row. not (has_container ended row.id)) m.life.book) held.id)) taken

-- each that was taken is held
members : (whole taken : List Held) → ((id : ContainerId) → is_held taken id ≡ true → is_held whole id ≡ true) → Each (λ (held : Held). is_held whole held.id ≡ true) taken
members whole [] incl = tt
members whole (held ∷ taken) incl = (incl held.id own, members whole taken (λ id h. incl id (or_right (is_container held.id id) (is_held taken id) h)))
  where
    own : is_held (held ∷ taken) held.id ≡ true
    own = rw (container_itself held.id) refl

each_both : (P Q R : Held → Type 0) → ((held : Held) → P held → Q held → R held) → (taken : List Held) → Each P taken → Each Q taken → Each R taken
each_both P Q R h [] a b = tt
each_both P Q R h (held ∷ taken) a b = (h held a.0 b.0, each_both P Q R h taken a.1 b.1)

lives_here : (book : List Row) (name : List ℕ) (id : ContainerId) → lives_on book name id ≡ true → is_living book id ≡ true
lives_here [] name id h = cc
lives_here (row ∷ book) name id h = go (is_container row.id id) (bytes_eq row.node name) h (lives_here book name id)
  where
    go : (a b : Bool) → ((a && b) || lives_on book name id) ≡ true → (lives_on book name id ≡ true → is_living book id ≡ true) → (a || is_living book id) ≡ true
    go true b h more = refl
    go false b h more = more h

-- what an absorption leaves: what stands on the node fits, and what enters is of a former epoch
record Leaves (m : Scene) (name : List ℕ) (node : NodeState) (taken : List Held) (ended : List ContainerId) : Type 0 where
  fit : (f : Resource → ℕ) → IsPart f → weight f name (filter (λ row. not (has_container ended row.id)) m.life.book) + taken_weight f (entered m taken ended) ≤ f node.last.capability
  former : (id : ContainerId) → is_living (map (row_absorbed name) (entered m taken ended)) id ≡ true → id.epoch < m.life.epoch
  once : (id : ContainerId) → times_held taken id ≤ 1

module _ (settings : Settings) (m : Scene) (name : List ℕ) (node : NodeState) (here : judged_node m.life.nodes name ≡ Some node) (named : node.name ≡ name) (w : FitLife m.life) (taken : List Held) (ended : List ContainerId) (may : MayAbsorb settings m node taken ended) where
  is_offered : capability_of m.life.nodes name ≡ node.capability
  is_offered = ap (λ (o : Option NodeState). option_and_then (λ (n : NodeState). n.capability) o) here

  leaves : (o : Option Resource) → node.capability ≡ o → Leaves m name node taken ended
  leaves None none =
      let t : IsTaken m node (λ held. held.id.epoch < m.life.epoch) taken = subst (IsTaken m node (λ held. held.id.epoch < m.life.epoch)) (sym may.takes) (taken_is m node settings (λ held. held.id.epoch < m.life.epoch) (former_counts m node none)) in
      record {
        fit = λ f part.
            let z = no_weight f name m.life.book (w.bare name (is_offered ∙ none)) in
            let l = weight-filter f name (λ row. not (has_container ended row.id)) m.life.book in
            let e = weight_less f (λ held. not (is_living (filter (λ row. not (has_container ended row.id)) m.life.book) held.id)) taken in
            let h = t.fit f part in omega (arith, z, l, e, h);
        former = λ id h. each_entered (λ x. x.epoch < m.life.epoch) (λ held. not (is_living (filter (λ row. not (has_container ended row.id)) m.life.book) held.id)) name id taken t.each h;
        once = t.once;
      }
  leaves (Some capability) some =
      let t : IsTaken m node (Booked m node) taken = subst (IsTaken m node (Booked m node)) (sym may.takes) (taken_is m node settings (Booked m node) (booked_counts m node capability some)) in
      let living : Each (λ (held : Held). is_living (filter (λ row. not (has_container ended row.id)) m.life.book) held.id ≡ true) taken =
      each_both (Booked m node) (λ held. is_held taken held.id ≡ true) (λ held. is_living (filter (λ row. not (has_container ended row.id)) m.life.book) held.id ≡ true) (λ held b h. still held b h) taken t.each (members taken taken (λ id h. h)) in
      let none = all_living (filter (λ row. not (has_container ended row.id)) m.life.book) taken living in
      record {
        fit = λ f part.
            let c = covered f node.name taken (filter (λ row. not (has_container ended row.id)) m.life.book)
            (left_held m node taken ended may.ends m.life.book (in_ids node.name (ids_on m.life.book node.name) m.life.book (λ id h. h))) in
            let b = bounded f taken (filter (λ row. not (has_container ended row.id)) m.life.book) (each-map _ _ (λ held k. own f held k) taken t.each) in
            let n : weight f node.name (filter (λ row. not (has_container ended row.id)) m.life.book) ≡ weight f name (filter (λ row. not (has_container ended row.id)) m.life.book) =
            ap (λ (x : List ℕ). weight f x (filter (λ row. not (has_container ended row.id)) m.life.book)) named in
            let z : taken_weight f (entered m taken ended) ≡ 0 = ap (taken_weight f) none in
            let h = t.fit f part in omega (arith, c, b, n, z, h);
        former = λ id h. absurd (let x : false ≡ true = ap (λ (l : List Held). is_living (map (row_absorbed name) l) id) (sym none) ∙ h in cc);
        once = t.once;
      }
    where
      still : (held : Held) → Booked m node held → is_held taken held.id ≡ true → is_living (filter (λ row. not (has_container ended row.id)) m.life.book) held.id ≡ true
      still held b h =
          is_living-filter ended m.life.book held.id
          ∙ rw (not_taken_apart m node taken ended held.id may.ends h, lives_here m.life.book node.name held.id b.here) refl

      own : (f : Resource → ℕ) (held : Held) → Booked m node held → own_weight f held.id (filter (λ row. not (has_container ended row.id)) m.life.book) ≤ f held.size
      own f held b =
          let l = own_filter f held.id (λ row. not (has_container ended row.id)) m.life.book in
          let o = own_found f held.id m.life.book b.row (w.once held.id) b.found in
          let s : f b.row.size ≡ f held.size = ap f b.size in
          omega (arith, l, o, s)

  -- the life after an absorption
  absorb_fits : Leaves m name node taken ended → FitLife (absorbs m name taken ended)
  absorb_fits s =
      record {
        once = λ id. once_by id (is_living (map (row_absorbed name) (entered m taken ended)) id) refl;
        bare = λ at none. bare_by at (bytes_eq name at) refl (sym (tidied_offers (with_taken name taken (leave m Gone ended)) at) ∙ none);
        held = λ f part at capability some. held_by f part at capability (bytes_eq name at) refl (sym (tidied_offers (with_taken name taken (leave m Gone ended)) at) ∙ some);
        fresh = λ id h. fresh_by id (either_true (is_living (map (row_taken taken) (filter (λ row. not (has_container ended row.id)) m.life.book)) id) (is_living (map (row_absorbed name) (entered m taken ended)) id)
            (sym (list_any-append (λ (row : Row). is_container row.id id) (map (row_taken taken) (filter (λ row. not (has_container ended row.id)) m.life.book)) (map (row_absorbed name) (entered m taken ended))) ∙ h));
      }
    where
      left_count : (id : ContainerId) → rows_of (map (row_taken taken) (filter (λ row. not (has_container ended row.id)) m.life.book)) id ≡ rows_of (filter (λ row. not (has_container ended row.id)) m.life.book) id
      left_count id = count_map (λ (row : Row). is_container row.id id) (row_taken taken) (λ row. ap (λ (i : ContainerId). is_container i id) (row_taken_stays taken row).0) (filter (λ row. not (has_container ended row.id)) m.life.book)

      join : (id : ContainerId) → rows_of (book_taken name taken (filter (λ row. not (has_container ended row.id)) m.life.book)) id
          ≡ rows_of (map (row_taken taken) (filter (λ row. not (has_container ended row.id)) m.life.book)) id + rows_of (map (row_absorbed name) (entered m taken ended)) id
      join id = count_join (λ (row : Row). is_container row.id id) (map (row_taken taken) (filter (λ row. not (has_container ended row.id)) m.life.book)) (map (row_absorbed name) (entered m taken ended))

      once_by : (id : ContainerId) (b : Bool) → is_living (map (row_absorbed name) (entered m taken ended)) id ≡ b → rows_of (book_taken name taken (filter (λ row. not (has_container ended row.id)) m.life.book)) id ≤ 1
      once_by id false none =
          let j = join id in let l = left_count id in
          let z = count_none (λ (row : Row). is_container row.id id) (map (row_absorbed name) (entered m taken ended)) none in
          let f = count_filter (λ (row : Row). is_container row.id id) (λ row. not (has_container ended row.id)) m.life.book in
          let o = w.once id in omega (arith, j, l, z, f, o)
      once_by id true some =
          let j = join id in let l = left_count id in
          let z = count_none (λ (row : Row). is_container row.id id) (filter (λ row. not (has_container ended row.id)) m.life.book) (filtered_living (filter (λ row. not (has_container ended row.id)) m.life.book) name id taken some) in
          let a = absorbed_count name id (entered m taken ended) in
          let h = count_filter (λ (held : Held). is_container held.id id) (λ held. not (is_living (filter (λ row. not (has_container ended row.id)) m.life.book) held.id)) taken in
          let o = s.once id in omega (arith, j, l, z, a, h, o)

      left_stands : (at : List ℕ) → stands_on m.life.book at ≡ false → stands_on (map (row_taken taken) (filter (λ row. not (has_container ended row.id)) m.life.book)) at ≡ false
      left_stands at none = by_test (stands_on (map (row_taken taken) (filter (λ row. not (has_container ended row.id)) m.life.book)) at) refl
        where
          by_test : (b : Bool) → stands_on (map (row_taken taken) (filter (λ row. not (has_container ended row.id)) m.life.book)) at ≡ b → b ≡ false
          by_test false h = refl
          by_test true h =
              let x = any-filter (λ (row : Row). bytes_eq row.node at) (λ row. not (has_container ended row.id)) m.life.book
              (sym (any-map (λ (row : Row). bytes_eq row.node at) (row_taken taken) (λ row. ap (λ (n : List ℕ). bytes_eq n at) (row_taken_stays taken row).1) (filter (λ row. not (has_container ended row.id)) m.life.book)) ∙ h) in
              absurd (let y : true ≡ false = sym x ∙ none in cc)

      bare_by : (at : List ℕ) (b : Bool) → bytes_eq name at ≡ b → capability_of (with_judged_node absorbed name (map (without_launches ended) m.life.nodes)) at ≡ None → stands_on (book_taken name taken (filter (λ row. not (has_container ended row.id)) m.life.book)) at ≡ false
      bare_by at true is none =
          let same : name ≡ at = same_text name at is in
          let own = own_offer settings m name node here named w taken ended may in
          absurd (let x : Some node.last.capability ≡ None = sym own ∙ ap (λ (n : List ℕ). capability_of (with_judged_node absorbed name (map (without_launches ended) m.life.nodes)) n) same ∙ none in cc)
      bare_by at false is none =
          list_any-append (λ (row : Row). bytes_eq row.node at) (map (row_taken taken) (filter (λ row. not (has_container ended row.id)) m.life.book)) (map (row_absorbed name) (entered m taken ended))
          ∙ rw (left_stands at (w.bare at (sym (other_offer settings m name node here named w taken ended may at is) ∙ none)), absorbed_stands name at (entered m taken ended) is) refl

      sum_join : (f : Resource → ℕ) (at : List ℕ) → weight f at (book_taken name taken (filter (λ row. not (has_container ended row.id)) m.life.book)) ≡ weight f at (filter (λ row. not (has_container ended row.id)) m.life.book) + weight f at (map (row_absorbed name) (entered m taken ended))
      sum_join f at =
          let a = weight-append f at (map (row_taken taken) (filter (λ row. not (has_container ended row.id)) m.life.book)) (map (row_absorbed name) (entered m taken ended)) in
          let b = weight-map f at (row_taken taken) (λ row. ((row_taken_stays taken row).1, (row_taken_stays taken row).2)) (filter (λ row. not (has_container ended row.id)) m.life.book) in
          omega (arith, a, b)

      held_by : (f : Resource → ℕ) → IsPart f → (at : List ℕ) (capability : Resource) (b : Bool) → bytes_eq name at ≡ b → capability_of (with_judged_node absorbed name (map (without_launches ended) m.life.nodes)) at ≡ Some capability
          → weight f at (book_taken name taken (filter (λ row. not (has_container ended row.id)) m.life.book)) ≤ f capability
      held_by f part at capability true is some =
          let same : name ≡ at = same_text name at is in
          let own = own_offer settings m name node here named w taken ended may in
          let e : Some node.last.capability ≡ Some capability = sym own ∙ ap (λ (n : List ℕ). capability_of (with_judged_node absorbed name (map (without_launches ended) m.life.nodes)) n) same ∙ some in
          let c : f node.last.capability ≡ f capability = ap f (the_same node.last.capability capability e) in
          let j = sum_join f at in
          let a = absorbed_weight f name at true is (entered m taken ended) in
          let h = s.fit f part in
          let n : weight f name (filter (λ row. not (has_container ended row.id)) m.life.book) ≡ weight f at (filter (λ row. not (has_container ended row.id)) m.life.book) = ap (λ (x : List ℕ). weight f x (filter (λ row. not (has_container ended row.id)) m.life.book)) same in
          omega (arith, c, j, a, h, n)
        where
          the_same : (a b : Resource) → Some a ≡ Some b → a ≡ b
          the_same a b h = cc
      held_by f part at capability false is some =
          let j = sum_join f at in
          let a = absorbed_weight f name at false is (entered m taken ended) in
          let l = weight-filter f at (λ row. not (has_container ended row.id)) m.life.book in
          let h = w.held f part at capability (sym (other_offer settings m name node here named w taken ended may at is) ∙ some) in
          omega (arith, j, a, l, h)

      fresh_by : (id : ContainerId) → (is_living (map (row_taken taken) (filter (λ row. not (has_container ended row.id)) m.life.book)) id ≡ true) ⊎ (is_living (map (row_absorbed name) (entered m taken ended)) id ≡ true)
          → (id.epoch < m.life.epoch) ⊎ ((id.epoch ≡ m.life.epoch) × (id.seq ≤ made id.attempt m.life.granted))
      fresh_by id (inl h) =
          w.fresh id (any-filter (λ (row : Row). is_container row.id id) (λ row. not (has_container ended row.id)) m.life.book
          (sym (any-map (λ (row : Row). is_container row.id id) (row_taken taken) (λ row. ap (λ (i : ContainerId). is_container i id) (row_taken_stays taken row).0) (filter (λ row. not (has_container ended row.id)) m.life.book)) ∙ h))
      fresh_by id (inr h) = inl (s.former id h)

-- each entry that is allowed
abbrev FitIn : Option LifeState → Type 0
FitIn None = Unit {0}
FitIn (Some life) = FitLife life

module _ (settings : Settings) (kept awaiting : List Op) (blew : Bool) (life : LifeState) (w : FitLife life) where
  same : (new : LifeState) → ((name : List ℕ) → capability_of new.nodes name ≡ capability_of life.nodes name) → new.book ≡ life.book → new.epoch ≡ life.epoch → new.granted ≡ life.granted → FitLife new
  same new o b e g = calm_fits life new (same_rows life new o b e g) w

  issued : (op : Op) → FitLife (life_issues (scene (state kept awaiting blew (Some life)) life) op)
  issued (Epoch next stamp) = w
  issued (App id submission) = w
  issued (Attempt id master node) = w
  issued (AttemptEnd id how text) = w
  issued (AppEnd id how text) = same _ (λ name. refl) refl refl refl
  issued (Remove id) = w

  kept_fits : (op : Op) → FitLife (record (life_keeps life op) { handed = false })
  kept_fits (Epoch next stamp) = same _ (λ name. refl) refl refl refl
  kept_fits (App id submission) = same _ (λ name. refl) refl refl refl
  kept_fits (Attempt id master node) = same _ (λ name. refl) refl refl refl
  kept_fits (AttemptEnd id how text) = same _ (λ name. refl) refl refl refl
  kept_fits (AppEnd id how text) = same _ (λ name. refl) refl refl refl
  kept_fits (Remove id) = same _ (λ name. refl) refl refl refl

  passed_fits : (name : List ℕ) (grants : List Grant) (node : Option NodeState) → judged_node life.nodes name ≡ node → IsSomeAnd node (λ n. MayPass settings (scene (state kept awaiting blew (Some life)) life) n grants)
      → FitIn (after (state kept awaiting blew (Some life)) (Pass name grants)).life
  passed_fits name grants None e may = absurd may
  passed_fits name grants (Some n) e may = pass_fits settings (scene (state kept awaiting blew (Some life)) life) name n e (found life.nodes name n e) w grants may

  absorbed_fits : (name : List ℕ) (taken : List Held) (ended : List ContainerId) (node : Option NodeState) → judged_node life.nodes name ≡ node → IsSomeAnd node (λ n. MayAbsorb settings (scene (state kept awaiting blew (Some life)) life) n taken ended)
      → FitIn (after (state kept awaiting blew (Some life)) (Absorbed name taken ended)).life
  absorbed_fits name taken ended None e may = absurd may
  absorbed_fits name taken ended (Some n) e may =
      let m = scene (state kept awaiting blew (Some life)) life in
      absorb_fits settings m name n e (found life.nodes name n e) w taken ended may (leaves settings m name n e (found life.nodes name n e) w taken ended may n.capability refl)

  in_life : (e : Entry) → AllowedIn settings (scene (state kept awaiting blew (Some life)) life) e → FitIn (after (state kept awaiting blew (Some life)) e).life
  in_life (Opened landed epoch stamp) may = absurd may
  in_life (Issued op) may = issued op
  in_life (Kept op) may = kept_fits op
  in_life (Served sender message reply) may = calm_fits life _ (calm_served (scene (state kept awaiting blew (Some life)) life) message reply) w
  in_life (Absorbed name taken ended) may = absorbed_fits name taken ended (judged_node life.nodes name) refl may
  in_life (Pass name grants) may = passed_fits name grants (judged_node life.nodes name) refl may
  in_life (Ordered container name) may = same (orders life container name) (λ at. with_node_offers (λ node. record node { launches = node.launches ++ container ∷ [] }) (λ n. (refl, refl)) name life.nodes at) refl refl refl
  in_life (Ended cause list) may =
      let m = scene (state kept awaiting blew (Some life)) life in
      calm_fits life (tidied (leave m cause list))
      (left_rows life (tidied (leave m cause list)) (λ row. not (has_container list row.id)) (λ name. tidied_offers (leave m cause list) name ∙ offers-map (without_launches list) (λ n. (refl, refl)) life.nodes name) refl refl refl) w
  in_life Down may = tt
  in_life e may = same _ (λ name. refl) refl refl refl

step : (settings : Settings) (kept awaiting : List Op) (blew : Bool) (life : Option LifeState) (e : Entry) → FitIn life → Allowed settings (state kept awaiting blew life) e → FitIn (after (state kept awaiting blew life) e).life
step settings kept awaiting blew None (Opened landed epoch stamp) w may =
    record { once = λ id. omega arith; bare = λ name h. refl; held = λ f part name capability h. omega arith; fresh = λ id h. cc }
step settings kept awaiting blew None _ w may = absurd may
step settings kept awaiting blew (Some life) e w may = in_life settings kept awaiting blew life w e may

fits_on : (life : LifeState) → FitLife life → (name : List ℕ) → FitsOn life name
fits_on life w name = go (capability_of life.nodes name) refl
  where
    go : (o : Option Resource) → capability_of life.nodes name ≡ o → FitsOn life name
    go None e =
        let a = no_weight (λ size. size.memory_mb) name life.book (w.bare name e) in
        let b = no_weight (λ size. size.vcores) name life.book (w.bare name e) in
        rw e (omega (arith, a), omega (arith, b))
    go (Some capability) e = rw e (w.held (λ size. size.memory_mb) memory_part name capability e, w.held (λ size. size.vcores) vcores_part name capability e)

all_fit : (life : Option LifeState) → FitIn life → AllFit life
all_fit None w = tt
all_fit (Some life) w = fits_on life w

-- in each state of a log
fit_after : (settings : Settings) (opening : List Op) (log : List Entry) → AllAllowed settings (opening_state opening) log → (before rest : List Entry) → log ≡ before ++ rest
    → FitIn (after_all (opening_state opening) before).life
fit_after settings opening log allowed before rest whole =
    (walk settings (λ (s : Manager). FitIn s.life) (λ s e w may. step settings s.kept s.awaiting s.blew s.life e w may) opening log before rest tt allowed whole).0

-- the law
pub rows_fit : (settings : Settings) (opening : List Op) (log : List Entry) → AllAllowed settings (opening_state opening) log → RowsFit opening log
rows_fit settings opening log allowed before rest whole = all_fit (after_all (opening_state opening) before).life (fit_after settings opening log allowed before rest whole)

-- where no row counts for a container, each row is of another
others : (id : ContainerId) (book : List Row) → rows_of book id ≡ 0 → Each (λ row. id ≢ row.id) book
others id [] none = tt
others id (row ∷ book) none =
    let f = count_join (λ (one : Row). is_container one.id id) (row ∷ []) book in (
      (λ same. let one : rows_of (row ∷ []) id ≡ 1 = rw (subst (λ (i : ContainerId). is_container i id ≡ true) same (container_itself id)) refl in omega (arith, none, f, one)),
      others id book (omega (arith, none, f)),
    )

rows_apart : (book : List Row) → ((id : ContainerId) → rows_of book id ≤ 1) → Pairs (λ a b. a.id ≢ b.id) book
rows_apart [] once = tt
rows_apart (row ∷ book) once = (others row.id book none, rows_apart book less)
  where
    none : rows_of book row.id ≡ 0
    none =
        let f = count_join (λ (one : Row). is_container one.id row.id) (row ∷ []) book in
        let one : rows_of (row ∷ []) row.id ≡ 1 = rw (container_itself row.id) refl in
        let o = once row.id in
        omega (arith, f, one, o)

    less : (id : ContainerId) → rows_of book id ≤ 1
    less id = let f = count_join (λ (one : Row). is_container one.id id) (row ∷ []) book in let o = once id in omega (arith, f, o)

all_apart : (life : Option LifeState) → FitIn life → RowsDiffer life
all_apart None w = tt
all_apart (Some life) w = pairs_all (λ a b. a.id ≢ b.id) life.book (rows_apart life.book w.once)

-- the second part of the law of the book
pub rows_differ : (settings : Settings) (opening : List Op) (log : List Entry) → AllAllowed settings (opening_state opening) log → InEachState (λ s. RowsDiffer s.life) opening log
rows_differ settings opening log allowed before rest whole = all_apart (after_all (opening_state opening) before).life (fit_after settings opening log allowed before rest whole)
