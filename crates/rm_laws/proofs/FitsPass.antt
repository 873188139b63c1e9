-- A pass keeps what stands on a node within what it offers.
use Rattle.rm_laws.proofs.Common.{◌≡◌, ◌≢◌, ◌⊎◌, ℕ, ◌+◌, ◌<◌, ◌≤◌, List, [], ◌∷◌, ◌++◌, Bool, true, false, ◌||◌, cond, if◌then◌else◌, Option, None, Some, map, refl, sym, ap, subst, arith, ◌∙◌, inl, inr, sum_by, option_and_then, bytes_eq, list_any-append, sum_by-append, Grant, ContainerId, Resource, Settings, is_container, same_container, NodeState, Row, Scene, is_living, judged_node, with_judged_node, first_fit_on, asks_of, pass_node, pass_of, row_granted, turns, MayPass}
use Rattle.std.proofs.lemmas.Slice.Eq.{bytes_eq-Decides}
use Rattle.rm_model.specs.Passing.{passed, passes}
use Rattle.rm_laws.proofs.Lists.{Each, Pairs, each-map}
use Rattle.rm_laws.proofs.Granting.{AreNew, made_to}
use Rattle.rm_laws.proofs.Grants.{made, pass_new, made_append, made_map}
use Rattle.rm_laws.proofs.Told.{either_true}
use Rattle.rm_laws.proofs.Weights.{IsPart, capability_of, granted_weight, turns_weight, weight, weight-append}
use Rattle.rm_laws.proofs.Fits.{FitLife, rows_of, stands_on, tidied_offers, with_node_offers}
use Rattle.rm_laws.proofs.Counts.{count_join, count_none}

-- what holds of each grant's container holds of one that is among them
each_granted : (P : ContainerId → Type 0) (id : ContainerId) (grants : List Grant) → Each (λ (grant : Grant). P grant.id) grants → is_living (map row_granted grants) id ≡ true → P id
each_granted P id [] e h = cc
each_granted P id (grant ∷ grants) e h = go (is_container grant.id id) refl h (each_granted P id grants e.1)
  where
    go : (b : Bool) → is_container grant.id id ≡ b → (b || is_living (map row_granted grants) id) ≡ true → (is_living (map row_granted grants) id ≡ true → P id) → P id
    go true same x more = subst P (same_container grant.id id same) e.0
    go false other x more = more x

-- containers that differ have one row at most
granted_once : (id : ContainerId) (grants : List Grant) → Pairs (λ (a b : Grant). a.id ≢ b.id) grants → rows_of (map row_granted grants) id ≤ 1
granted_once id [] apart = omega arith
granted_once id (grant ∷ grants) apart = go (is_container grant.id id) refl (granted_once id grants apart.1)
  where
    none : is_container grant.id id ≡ true → (list : List Grant) → Each (λ (b : Grant). grant.id ≢ b.id) list → (c : Bool) → is_living (map row_granted list) id ≡ c → c ≡ false
    none same list differ true there =
        absurd (each_granted (λ x. grant.id ≢ x) id list differ there (same_container grant.id id same))
    none same list differ false there = refl

    go : (b : Bool) → is_container grant.id id ≡ b → rows_of (map row_granted grants) id ≤ 1 → rows_of (map row_granted (grant ∷ grants)) id ≤ 1
    go true same rest =
        let f = count_join (λ (row : Row). is_container row.id id) (row_granted grant ∷ []) (map row_granted grants) in
        let one : rows_of (row_granted grant ∷ []) id ≡ 1 = rw same refl in
        let z = count_none (λ (row : Row). is_container row.id id) (map row_granted grants) (none same grants apart.0 (is_living (map row_granted grants) id) refl) in
        omega (arith, f, one, z)
    go false other rest =
        let f = count_join (λ (row : Row). is_container row.id id) (row_granted grant ∷ []) (map row_granted grants) in
        let one : rows_of (row_granted grant ∷ []) id ≡ 0 = rw other refl in
        omega (arith, f, one, rest)

granted_stands : (on name : List ℕ) (grants : List Grant) → Each (λ (grant : Grant). grant.node ≡ on) grants → stands_on (map row_granted grants) name ≡ true → bytes_eq on name ≡ true
granted_stands on name [] e h = cc
granted_stands on name (grant ∷ grants) e h = go (bytes_eq grant.node name) refl h (granted_stands on name grants e.1)
  where
    go : (b : Bool) → bytes_eq grant.node name ≡ b → (b || stands_on (map row_granted grants) name) ≡ true → (stands_on (map row_granted grants) name ≡ true → bytes_eq on name ≡ true) → bytes_eq on name ≡ true
    go true same x more = subst (λ (n : List ℕ). bytes_eq n name ≡ true) e.0 same
    go false other x more = more x

granted_weighs : (f : Resource → ℕ) (on name : List ℕ) (grants : List Grant) → Each (λ (grant : Grant). grant.node ≡ on) grants → (b : Bool) → bytes_eq on name ≡ b
    → weight f name (map row_granted grants) ≡ cond b (granted_weight f grants) 0
granted_weighs f on name [] e true same = refl
granted_weighs f on name [] e false same = refl
granted_weighs f on name (grant ∷ grants) e true same =
    let at : bytes_eq grant.node name ≡ true = subst (λ (n : List ℕ). bytes_eq n name ≡ true) (sym e.0) same in
    let a = weight-append f name (row_granted grant ∷ []) (map row_granted grants) in
    let one : weight f name (row_granted grant ∷ []) ≡ sum_by f (grant.size ∷ []) = rw at refl in
    let b = sum_by-append f (grant.size ∷ []) (map (λ (x : Grant). x.size) grants) in
    let m = granted_weighs f on name grants e.1 true same in
    omega (arith, a, one, b, m)
granted_weighs f on name (grant ∷ grants) e false other =
    let at : bytes_eq grant.node name ≡ false = subst (λ (n : List ℕ). bytes_eq n name ≡ false) (sym e.0) other in
    let a = weight-append f name (row_granted grant ∷ []) (map row_granted grants) in
    let one : weight f name (row_granted grant ∷ []) ≡ 0 = rw at refl in
    let m = granted_weighs f on name grants e.1 false other in
    omega (arith, a, one, m)

module _ (settings : Settings) (m : Scene) (name : List ℕ) (node : NodeState) (here : judged_node m.life.nodes name ≡ Some node) (named : node.name ≡ name) (w : FitLife m.life) where
  offered : capability_of m.life.nodes name ≡ node.capability
  offered = ap (λ (o : Option NodeState). option_and_then (λ (n : NodeState). n.capability) o) here

  -- where nothing is offered nothing is granted
  none_granted : node.capability ≡ None → pass_of settings m node ≡ []
  none_granted none = go _ (ap (λ (o : Option Resource). first_fit_on m node.name o) none)
    where
      go : (b : Bool) → first_fit_on m node.name node.capability ≡ [] → (if b then first_fit_on m node.name node.capability else []) ≡ []
      go true e = e
      go false e = refl

  within : (f : Resource → ℕ) → IsPart f → (capability : Resource) → node.capability ≡ Some capability → weight f node.name m.life.book ≤ f capability
      → weight f node.name m.life.book + granted_weight f (pass_of settings m node) ≤ f capability
  within f part capability some stands = go _ (subst (λ (o : Option Resource). weight f node.name m.life.book + granted_weight f (first_fit_on m node.name o) ≤ f capability) (sym some) fit)
    where
      fit : weight f node.name m.life.book + granted_weight f (first_fit_on m node.name (Some capability)) ≤ f capability
      fit = turns_weight f part (pass_node m node.name capability) (asks_of m.life.asks) (turns m) [] (omega (arith, stands))

      go : (b : Bool) → weight f node.name m.life.book + granted_weight f (first_fit_on m node.name node.capability) ≤ f capability
          → weight f node.name m.life.book + granted_weight f (if b then first_fit_on m node.name node.capability else []) ≤ f capability
      go true e = e
      go false e = omega (arith, stands)

  module _ (grants : List Grant) (may : MayPass settings m node grants) where
    new_grants : AreNew m.life.epoch node.name (λ attempt. made attempt m.life.granted) grants
    new_grants = subst (AreNew m.life.epoch node.name (λ attempt. made attempt m.life.granted)) (sym may.grants_are) (pass_new settings m node)

    on_node : Each (λ (grant : Grant). grant.node ≡ name) grants
    on_node = each-map _ _ (λ grant n. n.node_is ∙ named) grants new_grants.each

    offers : (at : List ℕ) → capability_of (passes m name grants).nodes at ≡ capability_of m.life.nodes at
    offers at =
        tidied_offers (record m.life { granted = m.life.granted ++ map (λ grant. grant.id) grants; asks = (passes m name grants).asks; book = m.life.book ++ map row_granted grants; nodes = with_judged_node passed name m.life.nodes }) at
        ∙ with_node_offers passed (λ n. (refl, refl)) name m.life.nodes at

    pub pass_fits : FitLife (passes m name grants)
    pass_fits =
        record {
          once = λ id. once_by id (is_living (map row_granted grants) id) refl;
          bare = λ at none. bare_by at (sym (offers at) ∙ none);
          held = λ f part at capability some. held_by f part at capability (sym (offers at) ∙ some) (bytes_eq name at) refl;
          fresh = λ id h. fresh_by id (either_true (is_living m.life.book id) (is_living (map row_granted grants) id) (sym (list_any-append (λ (row : Row). is_container row.id id) m.life.book (map row_granted grants)) ∙ h));
        }
      where
        once_by : (id : ContainerId) (b : Bool) → is_living (map row_granted grants) id ≡ b → rows_of (m.life.book ++ map row_granted grants) id ≤ 1
        once_by id false none =
            let j = count_join (λ (row : Row). is_container row.id id) m.life.book (map row_granted grants) in
            let z = count_none (λ (row : Row). is_container row.id id) (map row_granted grants) none in
            let o = w.once id in omega (arith, j, z, o)
        once_by id true some =
            let j = count_join (λ (row : Row). is_container row.id id) m.life.book (map row_granted grants) in
            let g = granted_once id grants new_grants.apart in
            let z = count_none (λ (row : Row). is_container row.id id) m.life.book (not_living (is_living m.life.book id) refl) in
            omega (arith, j, g, z)
          where
            is_new : (id.epoch ≡ m.life.epoch) × (made id.attempt m.life.granted < id.seq)
            is_new = each_granted (λ x. (x.epoch ≡ m.life.epoch) × (made x.attempt m.life.granted < x.seq)) id grants (each-map _ _ (λ grant n. (n.epoch_is, n.above)) grants new_grants.each) some

            not_living : (b : Bool) → is_living m.life.book id ≡ b → b ≡ false
            not_living false h = refl
            not_living true h = absurd (clash (w.fresh id h))
              where
                clash : (id.epoch < m.life.epoch) ⊎ ((id.epoch ≡ m.life.epoch) × (id.seq ≤ made id.attempt m.life.granted)) → ⊥
                clash (inl x) = let e = is_new.0 in omega (arith, e, x)
                clash (inr x) = let a = is_new.1 in let y = x.1 in omega (arith, a, y)

        bare_by : (at : List ℕ) → capability_of m.life.nodes at ≡ None → stands_on (m.life.book ++ map row_granted grants) at ≡ false
        bare_by at none =
            list_any-append (λ (row : Row). bytes_eq row.node at) m.life.book (map row_granted grants) ∙ rw (w.bare at none, by_grants (stands_on (map row_granted grants) at) refl) refl
          where
            by_grants : (b : Bool) → stands_on (map row_granted grants) at ≡ b → stands_on (map row_granted grants) at ≡ false
            by_grants false h = h
            by_grants true h =
                let same : name ≡ at = (bytes_eq-Decides name at).0 (granted_stands name at grants on_node h) in
                let nothing : node.capability ≡ None = sym offered ∙ ap (λ (n : List ℕ). capability_of m.life.nodes n) same ∙ none in
                let empty : grants ≡ [] = may.grants_are ∙ none_granted nothing in
                ap (λ (g : List Grant). stands_on (map row_granted g) at) empty

        held_by : (f : Resource → ℕ) → IsPart f → (at : List ℕ) (capability : Resource) → capability_of m.life.nodes at ≡ Some capability → (b : Bool) → bytes_eq name at ≡ b
            → weight f at (m.life.book ++ map row_granted grants) ≤ f capability
        held_by f part at capability some false other =
            let j = weight-append f at m.life.book (map row_granted grants) in
            let z = granted_weighs f name at grants on_node false other in
            let h = w.held f part at capability some in omega (arith, j, z, h)
        held_by f part at capability some true is =
            let same : name ≡ at = (bytes_eq-Decides name at).0 is in
            let j = weight-append f at m.life.book (map row_granted grants) in
            let g = granted_weighs f name at grants on_node true is in
            let h = w.held f part at capability some in
            let there : node.capability ≡ Some capability = sym offered ∙ ap (λ (n : List ℕ). capability_of m.life.nodes n) same ∙ some in
            let fit = within f part capability there in
            let t : granted_weight f grants ≡ granted_weight f (pass_of settings m node) = ap (granted_weight f) may.grants_are in
            let n : weight f node.name m.life.book ≡ weight f at m.life.book = ap (λ (x : List ℕ). weight f x m.life.book) (named ∙ same) in
            omega (arith, j, g, h, fit, t, n)

        fresh_by : (id : ContainerId) → (is_living m.life.book id ≡ true) ⊎ (is_living (map row_granted grants) id ≡ true)
            → (id.epoch < m.life.epoch) ⊎ ((id.epoch ≡ m.life.epoch) × (id.seq ≤ made id.attempt (m.life.granted ++ map (λ (grant : Grant). grant.id) grants)))
        fresh_by id (inl h) = go (w.fresh id h)
          where
            go : (id.epoch < m.life.epoch) ⊎ ((id.epoch ≡ m.life.epoch) × (id.seq ≤ made id.attempt m.life.granted)) → (id.epoch < m.life.epoch) ⊎ ((id.epoch ≡ m.life.epoch) × (id.seq ≤ made id.attempt (m.life.granted ++ map (λ (grant : Grant). grant.id) grants)))
            go (inl x) = inl x
            go (inr x) = inr (x.0, let a = made_append id.attempt m.life.granted (map (λ (grant : Grant). grant.id) grants) in let y = x.1 in omega (arith, a, y))
        fresh_by id (inr h) =
            let n = each_granted (λ x. (x.epoch ≡ m.life.epoch) × (x.seq ≤ made x.attempt m.life.granted + made_to x.attempt grants)) id grants (each-map _ _ (λ grant n. (n.epoch_is, n.within)) grants new_grants.each) h in
            let a = made_append id.attempt m.life.granted (map (λ (grant : Grant). grant.id) grants) in
            let b = made_map id.attempt grants in
            let y = n.1 in
            inr (n.0, omega (arith, a, b, y))
