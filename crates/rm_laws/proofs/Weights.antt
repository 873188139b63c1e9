-- What stands on a node, added up by one part of its sizes; and what nodes offer.
use Rattle.rm_laws.proofs.Common.{◌≡◌, ℕ, zero, suc, ◌+◌, ◌≤◌, List, [], ◌∷◌, ◌++◌, Bool, true, false, ◌||◌, cond, if◌then◌else◌, Option, None, Some, map, filter, fold, refl, ap, arith, ◌∙◌, sum_by, option_and_then, nat_le, list_any, range_with_len, bytes_eq, nat_tests, sum_by-append, and_parts, Ask, Grant, Turn, AttemptId, Resource, PassNode, fitting, turn_grant, by_priority, left_of, seq_after, with_granted, with_turn, NodeState, Row, judged_node}
use Rattle.std.proofs.Common.{◌-◌, ◌*◌}
use Rattle.rm_types.specs.Passes.{times, total_of}
use Rattle.rm_types.specs.Resources.{difference_of, fits}
use Rattle.rm_model.specs.Containers.{rows_on}

-- one part of the size of all that stands on a node
abbrev pub weight : (Resource → ℕ) → List ℕ → List Row → ℕ
weight f name book = sum_by f (map (λ row. row.size) (rows_on book name))

module _ (f : Resource → ℕ) (name : List ℕ) where
  pub weight-append : (xs ys : List Row) → weight f name (xs ++ ys) ≡ weight f name xs + weight f name ys
  weight-append [] ys = omega arith
  weight-append (row ∷ xs) ys = go (bytes_eq row.node name) (weight-append xs ys)
    where
      go : (b : Bool) → weight f name (xs ++ ys) ≡ weight f name xs + weight f name ys
          → sum_by f (map (λ (one : Row). one.size) (cond b (row ∷ rows_on (xs ++ ys) name) (rows_on (xs ++ ys) name))) ≡ sum_by f (map (λ (one : Row). one.size) (cond b (row ∷ rows_on xs name) (rows_on xs name))) + weight f name ys
      go true e =
          let a = sum_by-append f (row.size ∷ []) (map (λ (one : Row). one.size) (rows_on (xs ++ ys) name)) in
          let b = sum_by-append f (row.size ∷ []) (map (λ (one : Row). one.size) (rows_on xs name)) in
          omega (arith, e, a, b)
      go false e = e

  pub weight-map : (g : Row → Row) → ((row : Row) → ((g row).node ≡ row.node) × ((g row).size ≡ row.size)) → (book : List Row) → weight f name (map g book) ≡ weight f name book
  weight-map g keeps [] = refl
  weight-map g keeps (row ∷ book) =
      ap (λ (b : Bool). sum_by f (map (λ (one : Row). one.size) (cond b (g row ∷ rows_on (map g book) name) (rows_on (map g book) name)))) (ap (λ (n : List ℕ). bytes_eq n name) (keeps row).0)
      ∙ go (bytes_eq row.node name) (weight-map g keeps book)
    where
      go : (b : Bool) → weight f name (map g book) ≡ weight f name book
          → sum_by f (map (λ (one : Row). one.size) (cond b (g row ∷ rows_on (map g book) name) (rows_on (map g book) name))) ≡ sum_by f (map (λ (one : Row). one.size) (cond b (row ∷ rows_on book name) (rows_on book name)))
      go true e =
          let a = sum_by-append f ((g row).size ∷ []) (map (λ (one : Row). one.size) (rows_on (map g book) name)) in
          let b = sum_by-append f (row.size ∷ []) (map (λ (one : Row). one.size) (rows_on book name)) in
          let c : sum_by f ((g row).size ∷ []) ≡ sum_by f (row.size ∷ []) = ap (λ (s : Resource). sum_by f (s ∷ [])) (keeps row).1 in
          omega (arith, e, a, b, c)
      go false e = e

  pub weight-filter : (p : Row → Bool) (book : List Row) → weight f name (filter p book) ≤ weight f name book
  weight-filter p [] = omega arith
  weight-filter p (row ∷ book) = go (p row) (bytes_eq row.node name) refl (weight-filter p book)
    where
      go : (a b : Bool) → bytes_eq row.node name ≡ b → weight f name (filter p book) ≤ weight f name book
          → weight f name (cond a (row ∷ filter p book) (filter p book)) ≤ sum_by f (map (λ (one : Row). one.size) (cond b (row ∷ rows_on book name) (rows_on book name)))
      go true true e h =
          let a = sum_by-append f (row.size ∷ []) (map (λ (one : Row). one.size) (rows_on (filter p book) name)) in
          let b = sum_by-append f (row.size ∷ []) (map (λ (one : Row). one.size) (rows_on book name)) in
          rw e (omega (arith, a, b, h))
      go true false e h = rw e h
      go false true e h =
          let b = sum_by-append f (row.size ∷ []) (map (λ (one : Row). one.size) (rows_on book name)) in
          omega (arith, b, h)
      go false false e h = h

-- what a node offers
abbrev pub capability_of : List NodeState → List ℕ → Option Resource
capability_of nodes name = option_and_then (λ node. node.capability) (judged_node nodes name)

pub offers-map : (g : NodeState → NodeState) → ((node : NodeState) → ((g node).name ≡ node.name) × ((g node).capability ≡ node.capability)) → (nodes : List NodeState) (name : List ℕ)
    → capability_of (map g nodes) name ≡ capability_of nodes name
offers-map g keeps [] name = refl
offers-map g keeps (node ∷ nodes) name =
    ap (λ (b : Bool). option_and_then (λ (n : NodeState). n.capability) (cond b (Some (g node)) (judged_node (map g nodes) name))) (ap (λ (n : List ℕ). bytes_eq n name) (keeps node).0)
    ∙ go (bytes_eq node.name name) (offers-map g keeps nodes name)
  where
    go : (b : Bool) → capability_of (map g nodes) name ≡ capability_of nodes name
        → option_and_then (λ (n : NodeState). n.capability) (cond b (Some (g node)) (judged_node (map g nodes) name)) ≡ option_and_then (λ (n : NodeState). n.capability) (cond b (Some node) (judged_node nodes name))
    go true e = (keeps node).1
    go false e = e

pub offers-new : (nodes : List NodeState) (new : NodeState) (name : List ℕ) → new.capability ≡ None → capability_of (nodes ++ new ∷ []) name ≡ capability_of nodes name
offers-new [] new name none = go (bytes_eq new.name name)
  where
    go : (b : Bool) → option_and_then (λ (n : NodeState). n.capability) (cond b (Some new) None) ≡ None
    go true = none
    go false = refl
offers-new (node ∷ nodes) new name none = go (bytes_eq node.name name) (offers-new nodes new name none)
  where
    go : (b : Bool) → capability_of (nodes ++ new ∷ []) name ≡ capability_of nodes name
        → option_and_then (λ (n : NodeState). n.capability) (cond b (Some node) (judged_node (nodes ++ new ∷ []) name)) ≡ option_and_then (λ (n : NodeState). n.capability) (cond b (Some node) (judged_node nodes name))
    go true e = refl
    go false e = e

-- the grants of a pass fit what is left, by a part of sizes that multiples and differences go by
pub record IsPart (f : Resource → ℕ) : Type 0 where
  pub less : (a b : Resource) → fits a b ≡ true → f a ≤ f b
  pub multiple : (n : ℕ) (a : Resource) → f (times n a) ≡ n * f a
  pub difference : (a b : Resource) → f (difference_of a b) ≡ f a - f b
  pub sum : (sizes : List Resource) → f (total_of sizes) ≡ sum_by f sizes

abbrev pub granted_weight : (Resource → ℕ) → List Grant → ℕ
granted_weight f grants = sum_by f (map (λ grant. grant.size) grants)

fitting_fits : (n : ℕ) (size left : Resource) → fits (times (fitting n size left) size) left ≡ true
fitting_fits zero size left = grind (arith, nat_tests)
fitting_fits (suc n) size left = go (fits (times (suc n) size) left) refl (fitting_fits n size left)
  where
    go : (b : Bool) → fits (times (suc n) size) left ≡ b → fits (times (fitting n size left) size) left ≡ true → fits (times (if b then suc n else fitting n size left) size) left ≡ true
    go true e h = e
    go false e h = h

module _ (f : Resource → ℕ) (part : IsPart f) where
  copies : (pass : PassNode) (turn : Turn) (size : Resource) (n seq : ℕ) → granted_weight f (map (turn_grant pass turn size) (range_with_len seq n)) ≡ n * f size
  copies pass turn size zero seq = omega arith
  copies pass turn size (suc n) seq =
      let a = sum_by-append f (size ∷ []) (map (λ (grant : Grant). grant.size) (map (turn_grant pass turn size) (range_with_len (seq + 1) n))) in
      let e = copies pass turn size n (seq + 1) in
      let one : sum_by f (size ∷ []) ≡ f size = omega arith in
      grind (arith, a, e, one)

  granted-append : (xs ys : List Grant) → granted_weight f (xs ++ ys) ≡ granted_weight f xs + granted_weight f ys
  granted-append [] ys = omega arith
  granted-append (x ∷ xs) ys =
      let a = sum_by-append f (x.size ∷ []) (map (λ (grant : Grant). grant.size) (xs ++ ys)) in
      let b = sum_by-append f (x.size ∷ []) (map (λ (grant : Grant). grant.size) xs) in
      let e = granted-append xs ys in omega (arith, a, b, e)

  -- what stands on the pass's node weighs no more than the node offers, and with the grants so far neither
  abbrev pub Fit : PassNode → List Grant → Type 0
  Fit pass grants = sum_by f pass.sizes + granted_weight f grants ≤ f pass.capability

  ask_weight : (pass : PassNode) (turn : Turn) (grants : List Grant) (ask : Ask) → Fit pass grants → Fit pass (with_granted pass turn grants ask)
  ask_weight pass turn grants ask h =
      let n = fitting ask.count ask.size (left_of pass grants) in
      let added = granted-append grants (map (turn_grant pass turn ask.size) (range_with_len (seq_after turn grants) n)) in
      let many = copies pass turn ask.size n (seq_after turn grants) in
      let fit = part.less (times n ask.size) (left_of pass grants) (fitting_fits ask.count ask.size (left_of pass grants)) in
      let m = part.multiple n ask.size in
      let both_parts = sum_by-append f pass.sizes (map (λ grant. grant.size) grants) in
      let left : f (left_of pass grants) ≡ f pass.capability - (sum_by f pass.sizes + granted_weight f grants) =
      part.difference pass.capability (total_of (pass.sizes ++ map (λ grant. grant.size) grants))
      ∙ ap (λ (w : ℕ). f pass.capability - w) (part.sum (pass.sizes ++ map (λ grant. grant.size) grants) ∙ both_parts) in
      grind (arith, added, many, fit, m, left, h)

  asks_weight : (pass : PassNode) (turn : Turn) (asks : List Ask) (grants : List Grant) → Fit pass grants → Fit pass (fold (with_granted pass turn) grants asks)
  asks_weight pass turn [] grants h = h
  asks_weight pass turn (ask ∷ asks) grants h = asks_weight pass turn asks (with_granted pass turn grants ask) (ask_weight pass turn grants ask h)

  pub turns_weight : (pass : PassNode) (asks_of : AttemptId → List Ask) (turns : List Turn) (grants : List Grant) → Fit pass grants → Fit pass (fold (with_turn pass asks_of) grants turns)
  turns_weight pass asks_of [] grants h = h
  turns_weight pass asks_of (turn ∷ turns) grants h =
      turns_weight pass asks_of turns (with_turn pass asks_of grants turn) (asks_weight pass turn (by_priority (asks_of turn.attempt)) grants h)

pub memory_part : IsPart (λ size. size.memory_mb)
memory_part =
    record {
      less = λ a b h. let x = (and_parts (nat_le a.memory_mb b.memory_mb) (nat_le a.vcores b.vcores) h).0 in grind (arith, nat_tests);
      multiple = λ n a. refl;
      difference = λ a b. refl;
      sum = λ sizes. refl;
    }

pub vcores_part : IsPart (λ size. size.vcores)
vcores_part =
    record {
      less = λ a b h. let x = (and_parts (nat_le a.memory_mb b.memory_mb) (nat_le a.vcores b.vcores) h).1 in grind (arith, nat_tests);
      multiple = λ n a. refl;
      difference = λ a b. refl;
      sum = λ sizes. refl;
    }

-- where nothing stands nothing weighs
pub no_weight : (f : Resource → ℕ) (name : List ℕ) (book : List Row) → list_any (λ row. bytes_eq row.node name) book ≡ false → weight f name book ≡ 0
no_weight f name [] h = refl
no_weight f name (row ∷ book) h = go (bytes_eq row.node name) (no_weight f name book) h
  where
    go : (b : Bool) → (list_any (λ (one : Row). bytes_eq one.node name) book ≡ false → weight f name book ≡ 0) → (b || list_any (λ (one : Row). bytes_eq one.node name) book) ≡ false
        → sum_by f (map (λ (one : Row). one.size) (cond b (row ∷ rows_on book name) (rows_on book name))) ≡ 0
    go true more h = cc
    go false more h = more h
