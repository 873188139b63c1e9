-- An absorption leaves on a node what fits its new capability.
use Rattle.rm_laws.proofs.Common.{◌≡◌, ℕ, ◌+◌, ◌<◌, ◌≤◌, List, [], ◌∷◌, ◌++◌, Bool, true, false, ◌||◌, ◌&&◌, not, cond, if◌then◌else◌, Option, None, Some, is_some, map, filter, count_by, refl, sym, ap, subst, arith, ◌∙◌, sum_by, nat_lt, bytes_eq, nat_tests, sum_by-append, or_right, Held, ContainerId, Resource, is_container, same_container, NodeState, Row, Scene, has_container, ids_on, lives_on, taken_of, is_held, Settings}
use Rattle.std.proofs.Common.{◌-◌}
use Rattle.std.specs.Prelude.{option_map}
use Rattle.rm_types.specs.Order.{Ascend}
use Rattle.rm_types.specs.Passes.{total_of}
use Rattle.rm_types.proofs.IdLemmas.{container_back}
use Rattle.rm_types.proofs.TestLemmas.{found_passes}
use Rattle.rm_model.specs.Attempts.{attempt_was_first}
use Rattle.rm_model.specs.Containers.{judged_row}
use Rattle.rm_model.specs.Absorbing.{as_booked, as_counted, as_reported, left_beside, not_taken}
use Rattle.rm_laws.proofs.Lists.{Each, each-append}
use Rattle.rm_laws.proofs.Book.{ended_test}
use Rattle.rm_laws.proofs.Told.{some_same}
use Rattle.rm_laws.proofs.Weights.{IsPart, weight, weight-append}
use Rattle.rm_laws.proofs.Fits.{rows_of}
use Rattle.rm_laws.proofs.Counts.{count_join, count_none}
use Rattle.rm_laws.proofs.Taken.{IsFree, all_taken}

-- one part of the sizes of what was taken
abbrev pub taken_weight : (Resource → ℕ) → List Held → ℕ
taken_weight f taken = sum_by f (map (λ held. held.size) taken)

abbrev pub times_held : List Held → ContainerId → ℕ
times_held taken id = count_by (λ held. is_container held.id id) taken

taken-append : (f : Resource → ℕ) (taken : List Held) (held : Held) → taken_weight f (taken ++ held ∷ []) ≡ taken_weight f taken + f held.size
taken-append f [] held = omega arith
taken-append f (one ∷ taken) held =
    let a = sum_by-append f (one.size ∷ []) (map (λ (x : Held). x.size) (taken ++ held ∷ [])) in
    let b = sum_by-append f (one.size ∷ []) (map (λ (x : Held). x.size) taken) in
    let e = taken-append f taken held in omega (arith, a, b, e)

module _ (m : Scene) (node : NodeState) where
  -- what is taken fits, is taken once, and counts
  pub record IsTaken (P : Held → Type 0) (taken : List Held) : Type 0 where
    pub fit : (f : Resource → ℕ) → IsPart f → taken_weight f taken ≤ f node.last.capability
    pub once : (id : ContainerId) → times_held taken id ≤ 1
    pub each : Each P taken

  module _ (settings : Settings) (P : Held → Type 0) (counts : (held one : Held) → as_counted m node held ≡ Some one → P one) where
    one_more : (taken : List Held) (held one : Held) → as_counted m node held ≡ Some one → IsFree settings m node taken one → IsTaken P taken → IsTaken P (taken ++ one ∷ [])
    one_more taken held one counted free t =
        record {
          fit = λ f part.
              let s = taken-append f taken one in
              let l = part.less one.size (left_beside node taken) free.fit in
              let d : f (left_beside node taken) ≡ f node.last.capability - taken_weight f taken = part.difference node.last.capability (total_of (map (λ held. held.size) taken)) ∙ ap (λ (x : ℕ). f node.last.capability - x) (part.sum (map (λ held. held.size) taken)) in
              let h = t.fit f part in
              omega (arith, s, l, d, h);
          once = λ id. once_by id (is_container one.id id) refl;
          each = each-append P taken (one ∷ []) t.each (counts held one counted, tt);
        }
      where
        join : (id : ContainerId) → times_held (taken ++ one ∷ []) id ≡ times_held taken id + times_held (one ∷ []) id
        join id = sum_by-append (λ (r : Held). let n : ℕ = cond (is_container r.id id) 1 0 in n) taken (one ∷ [])

        once_by : (id : ContainerId) (b : Bool) → is_container one.id id ≡ b → times_held (taken ++ one ∷ []) id ≤ 1
        once_by id true same =
            let j = join id in
            let o : times_held (one ∷ []) id ≡ 1 = rw same refl in
            let z = count_none (λ (held : Held). is_container held.id id) taken (ap (λ (i : ContainerId). is_held taken i) (sym (same_container one.id id same)) ∙ free.new) in
            omega (arith, j, o, z)
        once_by id false other =
            let j = join id in
            let o : times_held (one ∷ []) id ≡ 0 = rw other refl in
            let h = t.once id in omega (arith, j, o, h)

    pub taken_is : IsTaken P (taken_of settings m node)
    taken_is = all_taken settings m node (IsTaken P) (record { fit = λ f part. omega arith; once = λ id. omega arith; each = tt }) one_more

  -- at the first absorption what counts is of a former epoch
  pub former_counts : node.capability ≡ None → (held one : Held) → as_counted m node held ≡ Some one → one.id.epoch < m.life.epoch
  former_counts first held one e = go (ap (λ (o : Option Resource). if is_some o then as_booked m node held else as_reported m held) (sym first) ∙ e)
    where
      go : as_reported m held ≡ Some one → one.id.epoch < m.life.epoch
      go = by_test (nat_lt held.id.epoch m.life.epoch) (attempt_was_first m held.id.attempt) refl
        where
          by_test : (a b : Bool) → nat_lt held.id.epoch m.life.epoch ≡ a → (if a && b then Some held else None) ≡ Some one → one.id.epoch < m.life.epoch
          by_test true true x h = let same : held ≡ one = cc in subst (λ (y : Held). y.id.epoch < m.life.epoch) same (let z : held.id.epoch < m.life.epoch = grind (arith, nat_tests) in z)
          by_test true false x h = cc
          by_test false b x h = cc

  -- at a later one it has a row here, of its size
  pub record Booked (held : Held) : Type 0 where
    pub row : Row
    pub here : lives_on m.life.book node.name held.id ≡ true
    pub found : judged_row m.life.book held.id ≡ Some row
    pub size : row.size ≡ held.size

  pub booked_counts : (capability : Resource) → node.capability ≡ Some capability → (held one : Held) → as_counted m node held ≡ Some one → Booked one
  booked_counts capability later held one e = go (lives_on m.life.book node.name held.id) refl (judged_row m.life.book held.id) refl (ap (λ (o : Option Resource). if is_some o then as_booked m node held else as_reported m held) (sym later) ∙ e)
    where
      go : (b : Bool) → lives_on m.life.book node.name held.id ≡ b → (o : Option Row) → judged_row m.life.book held.id ≡ o
          → (if b then option_map (λ (row : Row). let h : Held = record { id = row.id; size = row.size } in h) o else None) ≡ Some one → Booked one
      go false l o r h = cc
      go true l None r h = cc
      go true l (Some row) r h =
          let made : Held = record { id = row.id; size = row.size } in
          let same : made ≡ one = some_same h in
          let at : row.id ≡ held.id = same_container row.id held.id (found_passes (λ (x : Row). is_container x.id held.id) m.life.book row r) in
          let id : one.id ≡ held.id = ap (λ (x : Held). x.id) (sym same) ∙ at in
          record {
            row = row;
            here = ap (λ (i : ContainerId). lives_on m.life.book node.name i) id ∙ l;
            found = ap (λ (i : ContainerId). judged_row m.life.book i) id ∙ r;
            size = ap (λ (x : Held). x.size) same;
          }

-- one part of the size of a container's rows
abbrev pub own_weight : (Resource → ℕ) → ContainerId → List Row → ℕ
own_weight f id book = sum_by f (map (λ row. row.size) (filter (λ row. is_container row.id id) book))

own-front : (f : Resource → ℕ) (id : ContainerId) (row : Row) (book : List Row) (b : Bool) → is_container row.id id ≡ b → own_weight f id (row ∷ book) ≡ cond b (f row.size) 0 + own_weight f id book
own-front f id row book true e = rw e (sum_by-append f (row.size ∷ []) (map (λ (x : Row). x.size) (filter (λ (x : Row). is_container x.id id) book)) ∙ omega arith)
own-front f id row book false e = rw e (omega arith)

none_own : (f : Resource → ℕ) (id : ContainerId) (book : List Row) → rows_of book id ≡ 0 → own_weight f id book ≡ 0
none_own f id [] z = refl
none_own f id (row ∷ book) z = go (is_container row.id id) refl (none_own f id book)
  where
    go : (b : Bool) → is_container row.id id ≡ b → (rows_of book id ≡ 0 → own_weight f id book ≡ 0) → own_weight f id (row ∷ book) ≡ 0
    go true e more = let c = count_join (λ (x : Row). is_container x.id id) (row ∷ []) book in let o : rows_of (row ∷ []) id ≡ 1 = rw e refl in absurd (omega (arith, c, o, z))
    go false e more =
        let c = count_join (λ (x : Row). is_container x.id id) (row ∷ []) book in let o : rows_of (row ∷ []) id ≡ 0 = rw e refl in
        let w = own-front f id row book false e in let m = more (omega (arith, c, o, z)) in omega (arith, w, m)

pub own_filter : (f : Resource → ℕ) (id : ContainerId) (q : Row → Bool) (book : List Row) → own_weight f id (filter q book) ≤ own_weight f id book
own_filter f id q [] = omega arith
own_filter f id q (row ∷ book) = go (q row) (is_container row.id id) refl (own_filter f id q book)
  where
    go : (a b : Bool) → is_container row.id id ≡ b → own_weight f id (filter q book) ≤ own_weight f id book → own_weight f id (cond a (row ∷ filter q book) (filter q book)) ≤ own_weight f id (row ∷ book)
    go true b e h = let x = own-front f id row (filter q book) b e in let y = own-front f id row book b e in omega (arith, x, y, h)
    go false b e h = let y = own-front f id row book b e in omega (arith, y, h)

-- a container with one row weighs as much as that
pub own_found : (f : Resource → ℕ) (id : ContainerId) (book : List Row) (row : Row) → rows_of book id ≤ 1 → judged_row book id ≡ Some row → own_weight f id book ≤ f row.size
own_found f id [] row once found = cc
own_found f id (one ∷ book) row once found = go (is_container one.id id) refl found (own_found f id book row)
  where
    go : (b : Bool) → is_container one.id id ≡ b → cond b (Some one) (judged_row book id) ≡ Some row → (rows_of book id ≤ 1 → judged_row book id ≡ Some row → own_weight f id book ≤ f row.size) → own_weight f id (one ∷ book) ≤ f row.size
    go true e h more =
        let same : one ≡ row = some_same h in
        let c = count_join (λ (x : Row). is_container x.id id) (one ∷ []) book in
        let o : rows_of (one ∷ []) id ≡ 1 = rw e refl in
        let none = none_own f id book (omega (arith, c, o, once)) in
        let w = own-front f id one book true e in
        let s : f one.size ≡ f row.size = ap (λ (x : Row). f x.size) same in
        omega (arith, w, none, s)
    go false e h more =
        let c = count_join (λ (x : Row). is_container x.id id) (one ∷ []) book in
        let o : rows_of (one ∷ []) id ≡ 0 = rw e refl in
        let w = own-front f id one book false e in
        let m = more (omega (arith, c, o, once)) h in
        omega (arith, w, m)

-- the rows of these containers, added up
abbrev pub over_all : (Resource → ℕ) → List Held → List Row → ℕ
over_all f taken book = sum_by (λ held. own_weight f held.id book) taken

abbrev pub hits : (Resource → ℕ) → Row → List Held → ℕ
hits f row taken = sum_by (λ held. cond (is_container row.id held.id) (f row.size) 0) taken

sum_front : (g : Held → ℕ) (held : Held) (taken : List Held) → sum_by g (held ∷ taken) ≡ g held + sum_by g taken
sum_front g held taken = sum_by-append g (held ∷ []) taken ∙ omega arith

over_front : (f : Resource → ℕ) (row : Row) (taken : List Held) (book : List Row) → over_all f taken (row ∷ book) ≡ hits f row taken + over_all f taken book
over_front f row [] book = omega arith
over_front f row (held ∷ taken) book =
    let a = sum_front (λ one. own_weight f one.id (row ∷ book)) held taken in
    let b = sum_front (λ one. own_weight f one.id book) held taken in
    let c = sum_front (λ one. let n : ℕ = cond (is_container row.id one.id) (f row.size) 0 in n) held taken in
    let w = own-front f held.id row book (is_container row.id held.id) refl in
    let e = over_front f row taken book in omega (arith, a, b, c, w, e)

hits_held : (f : Resource → ℕ) (row : Row) (taken : List Held) → is_held taken row.id ≡ true → f row.size ≤ hits f row taken
hits_held f row [] h = cc
hits_held f row (held ∷ taken) h = go (is_container held.id row.id) refl h (hits_held f row taken)
  where
    front : hits f row (held ∷ taken) ≡ cond (is_container row.id held.id) (f row.size) 0 + hits f row taken
    front = sum_front (λ one. let n : ℕ = cond (is_container row.id one.id) (f row.size) 0 in n) held taken

    go : (b : Bool) → is_container held.id row.id ≡ b → (b || is_held taken row.id) ≡ true → (is_held taken row.id ≡ true → f row.size ≤ hits f row taken) → f row.size ≤ hits f row (held ∷ taken)
    go true e x more =
        let a : ◌≡◌ {A = ℕ} (cond (is_container row.id held.id) (f row.size) 0) (f row.size) = ap (λ (t : Bool). let n : ℕ = cond t (f row.size) 0 in n) (container_back row.id held.id ∙ e) in
        let fr = front in omega (arith, a, fr)
    go false e x more = let m = more x in let fr = front in omega (arith, m, fr)

-- rows on a node that are all of these weigh no more than they
pub covered : (f : Resource → ℕ) (name : List ℕ) (taken : List Held) (book : List Row) → Each (λ (row : Row). bytes_eq row.node name ≡ true → is_held taken row.id ≡ true) book → weight f name book ≤ over_all f taken book
covered f name taken [] e = omega arith
covered f name taken (row ∷ book) e = go (bytes_eq row.node name) refl (covered f name taken book e.1)
  where
    go : (b : Bool) → bytes_eq row.node name ≡ b → weight f name book ≤ over_all f taken book → weight f name (row ∷ book) ≤ over_all f taken (row ∷ book)
    go true at m =
        let a = weight-append f name (row ∷ []) book in
        let one : weight f name (row ∷ []) ≡ f row.size = rw at (omega arith) in
        let o = over_front f row taken book in let h = hits_held f row taken (e.0 at) in omega (arith, a, one, o, h, m)
    go false at m =
        let a = weight-append f name (row ∷ []) book in
        let one : weight f name (row ∷ []) ≡ 0 = rw at refl in
        let o = over_front f row taken book in omega (arith, a, one, o, m)

pub bounded : (f : Resource → ℕ) (taken : List Held) (book : List Row) → Each (λ (held : Held). own_weight f held.id book ≤ f held.size) taken → over_all f taken book ≤ taken_weight f taken
bounded f [] book e = omega arith
bounded f (held ∷ taken) book e =
    let a = sum_front (λ one. own_weight f one.id book) held taken in
    let b = sum_by-append f (held.size ∷ []) (map (λ (x : Held). x.size) taken) in
    let one : sum_by f (held.size ∷ []) ≡ f held.size = omega arith in
    let h = e.0 in let m = bounded f taken book e.1 in omega (arith, a, b, one, h, m)

-- what is left on the node after what isn't taken has gone, is taken
pub in_ids : (name : List ℕ) (whole : List ContainerId) (book : List Row) → ((id : ContainerId) → has_container (ids_on book name) id ≡ true → has_container whole id ≡ true)
    → Each (λ (row : Row). bytes_eq row.node name ≡ true → has_container whole row.id ≡ true) book
in_ids name whole [] incl = tt
in_ids name whole (row ∷ book) incl = (λ at. incl row.id (own (bytes_eq row.node name) at), in_ids name whole book (λ id h. incl id (rest (bytes_eq row.node name) id h)))
  where
    own : (b : Bool) → b ≡ true → has_container (map (λ (x : Row). x.id) (cond b (row ∷ filter (λ (x : Row). bytes_eq x.node name) book) (filter (λ (x : Row). bytes_eq x.node name) book))) row.id ≡ true
    own true h = let r : is_container row.id row.id ≡ true = grind (arith, nat_tests) in rw r refl
    own false h = cc

    rest : (b : Bool) (id : ContainerId) → has_container (ids_on book name) id ≡ true → has_container (map (λ (x : Row). x.id) (cond b (row ∷ filter (λ (x : Row). bytes_eq x.node name) book) (filter (λ (x : Row). bytes_eq x.node name) book))) id ≡ true
    rest true id h = or_right (is_container row.id id) (has_container (ids_on book name) id) h
    rest false id h = h

pub left_held : (m : Scene) (node : NodeState) (taken : List Held) (ended : List ContainerId) → Ascend (not_taken m node taken) ended → (book : List Row)
    → Each (λ (row : Row). bytes_eq row.node node.name ≡ true → has_container (ids_on m.life.book node.name) row.id ≡ true) book
    → Each (λ (row : Row). bytes_eq row.node node.name ≡ true → is_held taken row.id ≡ true) (filter (λ row. not (has_container ended row.id)) book)
left_held m node taken ended is [] e = tt
left_held m node taken ended is (row ∷ book) e = go (has_container ended row.id) refl (left_held m node taken ended is book e.1)
  where
    held : (a b : Bool) → (not a && b) ≡ false → b ≡ true → a ≡ true
    held true b x y = refl
    held false true x y = cc
    held false false x y = cc

    go : (b : Bool) → has_container ended row.id ≡ b → Each (λ (x : Row). bytes_eq x.node node.name ≡ true → is_held taken x.id ≡ true) (filter (λ x. not (has_container ended x.id)) book)
        → Each (λ (x : Row). bytes_eq x.node node.name ≡ true → is_held taken x.id ≡ true) (cond (not b) (row ∷ filter (λ x. not (has_container ended x.id)) book) (filter (λ x. not (has_container ended x.id)) book))
    go true h rest = rest
    go false h rest = (λ at. held (is_held taken row.id) (has_container (ids_on m.life.book node.name) row.id) (sym (ended_test m node taken ended row.id is) ∙ h) (e.0 at), rest)
