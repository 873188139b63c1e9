-- What holds of the book after containers left it.
use Rattle.rm_invariant.proofs.Common.{◌≡◌, ℕ, ◌<◌, List, [], ◌∷◌, ◌++◌, Bool, true, false, not, ◌&&◌, Option, None, Some, filter, map, refl, sym, ◌∙◌, subst, arith, bytes_eq, false≢true, not-true, list_any-append, Cause, ContainerId, is_attempt, is_container, same_container, LifeState, Row, Scene, has_container, is_living, leave, lives_on, without_launches, judged_node}
use Rattle.std.specs.Prelude.{is_some, option_map, option_and_then, count_by}
use Rattle.rm_model.specs.State.{NodeState}
use Rattle.rm_invariant.specs.nodes.Book.{All, LivingRowsAreApart, IsGranted, IsAbsorbed, BookRowInvariant, AreLaunches, BookInvariant}
use Rattle.rm_invariant.proofs.nodes.Moved.{node_of-map}

-- GENERAL: facts at each item

pub all_filter : {X : Type 0} (P : X → Type 0) (p : X → Bool) (xs : List X) → All P xs → All P (filter p xs)
all_filter P p [] h = tt
all_filter P p (x ∷ xs) h = by_test (p x) refl (all_filter P p xs h.1)
  where
    by_test : (b : Bool) → p x ≡ b → All P (filter p xs) → All P (filter p (x ∷ xs))
    by_test true e rest = rw e (h.0, rest)
    by_test false e rest = rw e rest

-- with what the test says
pub all_passing : {X : Type 0} (P Q : X → Type 0) (p : X → Bool) → ((x : X) → p x ≡ true → P x → Q x) → (xs : List X) → All P xs → All Q (filter p xs)
all_passing P Q p more [] h = tt
all_passing P Q p more (x ∷ xs) h = by_test (p x) refl (all_passing P Q p more xs h.1)
  where
    by_test : (b : Bool) → p x ≡ b → All Q (filter p xs) → All Q (filter p (x ∷ xs))
    by_test true e rest = rw e (more x e h.0, rest)
    by_test false e rest = rw e rest

pub all_append : {X : Type 0} (P : X → Type 0) (xs ys : List X) → All P xs → All P ys → All P (xs ++ ys)
all_append P [] ys h k = k
all_append P (x ∷ xs) ys h k = (h.0, all_append P xs ys h.1 k)

pub all_map : {X Y : Type 0} (P : X → Type 0) (Q : Y → Type 0) (f : X → Y) → ((x : X) → P x → Q (f x)) → (xs : List X) → All P xs → All Q (map f xs)
all_map P Q f more [] h = tt
all_map P Q f more (x ∷ xs) h = (more x h.0, all_map P Q f more xs h.1)

-- ROWS LEAVE
abbrev stays_without : List ContainerId → Row → Bool
stays_without list row = not (has_container list row.id)

gone_less : (list : List ContainerId) (rows : List Row) (id : ContainerId) → is_living rows id ≡ false → is_living (filter (stays_without list) rows) id ≡ false
gone_less list [] id h = h
gone_less list (row ∷ rows) id h = by_test (stays_without list row) (is_container row.id id) refl refl (gone_less list rows id)
  where
    by_test : (b c : Bool) → stays_without list row ≡ b → is_container row.id id ≡ c → (is_living rows id ≡ false → is_living (filter (stays_without list) rows) id ≡ false)
        → is_living (filter (stays_without list) (row ∷ rows)) id ≡ false
    by_test b true e f rest = absurd (false≢true (sym h ∙ rw f refl))
    by_test true false e f rest = rw (e, f) (rest (rw f at h))
    by_test false false e f rest = rw e (rest (rw f at h))

apart_less : (list : List ContainerId) (rows : List Row) → LivingRowsAreApart rows → LivingRowsAreApart (filter (stays_without list) rows)
apart_less list [] h = tt
apart_less list (row ∷ rows) h = by_test (stays_without list row) refl (apart_less list rows h.1)
  where
    by_test : (b : Bool) → stays_without list row ≡ b → LivingRowsAreApart (filter (stays_without list) rows) → LivingRowsAreApart (filter (stays_without list) (row ∷ rows))
    by_test true e rest = rw e (gone_less list rows row.id h.0, rest)
    by_test false e rest = rw e rest

-- what holds of each row holds of each container that lives
living_has : (P : ContainerId → Type 0) (rows : List Row) (id : ContainerId) → All (λ row. P row.id) rows → is_living rows id ≡ true → P id
living_has P [] id h l = absurd (false≢true l)
living_has P (row ∷ rows) id h l = by_test (is_container row.id id) refl (living_has P rows id h.1)
  where
    by_test : (b : Bool) → is_container row.id id ≡ b → (is_living rows id ≡ true → P id) → P id
    by_test true e rest = subst P (same_container row.id id e) h.0
    by_test false e rest = rest (rw e at l)

all_living : (P : ContainerId → Type 0) (rows : List Row) (ids : List ContainerId) → All (λ row. P row.id) rows → All (λ id. is_living rows id ≡ true) ids → All P ids
all_living P rows [] h l = tt
all_living P rows (id ∷ ids) h l = (living_has P rows id h l.0, all_living P rows ids h l.1)

-- a launch that isn't of them still lives there
pub lives_still : (list : List ContainerId) (rows : List Row) (name : List ℕ) (id : ContainerId) → has_container list id ≡ false → lives_on rows name id ≡ true → lives_on (filter (stays_without list) rows) name id ≡ true
lives_still list [] name id n l = l
lives_still list (row ∷ rows) name id n l = by_test (stays_without list row) (is_container row.id id && bytes_eq row.node name) refl refl (lives_still list rows name id n)
  where
    by_test : (b c : Bool) → stays_without list row ≡ b → (is_container row.id id && bytes_eq row.node name) ≡ c
        → (lives_on rows name id ≡ true → lives_on (filter (stays_without list) rows) name id ≡ true) → lives_on (filter (stays_without list) (row ∷ rows)) name id ≡ true
    by_test true true e f rest = rw (e, f) refl
    by_test true false e f rest = rw (e, f) (rest (rw f at l))
    by_test false true e f rest = absurd (here (is_container row.id id) refl f)
      where
        here : (t : Bool) → is_container row.id id ≡ t → (is_container row.id id && bytes_eq row.node name) ≡ true → ⊥
        here true g k =
            let stay : stays_without list row ≡ true = rw (same_container row.id id g, n) refl in false≢true (sym e ∙ stay)
        here false g k = let none : false ≡ true = rw g at k in false≢true none
    by_test false false e f rest = rw e (rest (rw f at l))

absorbed_still : (list : List ContainerId) (nodes : List NodeState) (name : List ℕ) → IsAbsorbed nodes name → IsAbsorbed (map (without_launches list) nodes) name
absorbed_still list nodes name h = rw (node_of-map (without_launches list) (λ node. refl) nodes name) (by_node (judged_node nodes name) h)
  where
    by_node : (o : Option NodeState) → is_some (option_and_then (λ (node : NodeState). node.capability) o) ≡ true
        → is_some (option_and_then (λ (node : NodeState). node.capability) (option_map (without_launches list) o)) ≡ true
    by_node None h = h
    by_node (Some node) h = h

launches_still : (list : List ContainerId) (book : List Row) (node : NodeState) → AreLaunches book node → AreLaunches (filter (stays_without list) book) (without_launches list node)
launches_still list book node h =
    all_passing (λ id. lives_on book node.name id ≡ true) (λ id. lives_on (filter (stays_without list) book) node.name id ≡ true) (λ id. not (has_container list id))
    (λ id n l. lives_still list book node.name id (not-true (has_container list id) n) l) node.launches h

-- ALL FACTS OF THE BOOK, for whatever cause
pub leave_holds : (m : Scene) (cause : Cause) (list : List ContainerId) (more : ContainerId → Type 0) → All (IsGranted m.life) list → BookInvariant m.life more
    → BookInvariant (leave m cause list) more
leave_holds m cause list more granted h =
    record {
      apart = apart_less list m.life.book h.apart;
      rows =
          all_passing (BookRowInvariant m.life more) (BookRowInvariant (leave m cause list) more) (stays_without list)
          (λ row n k.
          let e = list_any-append (λ one. is_container one row.id) m.life.endings.left list in
          let f = not-true (has_container list row.id) n in
          (absorbed_still list m.life.nodes row.node k.0, k.1, λ epoch. e ∙ rw (k.2 epoch, f) refl, k.3)) m.life.book h.rows;
      left = all_append (IsGranted m.life) m.life.endings.left list h.left granted;
      launches = all_map (AreLaunches m.life.book) (AreLaunches (filter (stays_without list) m.life.book)) (without_launches list) (launches_still list m.life.book) m.life.nodes h.launches;
    }

-- what lives was granted
pub living_granted : (life : LifeState) (more : ContainerId → Type 0) (list : List ContainerId) → All (λ id. is_living life.book id ≡ true) list → BookInvariant life more → All (IsGranted life) list
living_granted life more list living h = all_living (IsGranted life) life.book list (all_weaker life.book h.rows) living
  where
    all_weaker : (rows : List Row) → All (BookRowInvariant life more) rows → All (λ row. IsGranted life row.id) rows
    all_weaker [] k = tt
    all_weaker (row ∷ rows) k = (k.0.1, all_weaker rows k.1)

-- A GRANT IS NEW: an id of the life, numbered above the grants that were made to its attempt, is neither in the book nor among
-- those that left
abbrev pub IsNew : LifeState → ContainerId → Type 0
IsNew life id = (id.epoch ≡ life.epoch) × (count_by (λ one. is_attempt one.attempt id.attempt) life.granted < id.seq)

not_granted : (life : LifeState) (id other : ContainerId) → IsNew life id → IsGranted life other → is_container other id ≡ true → ⊥
not_granted life id other new old e =
    let same = same_container other id e in
    let here : IsGranted life id = subst (IsGranted life) same old in
    let low = here new.0 in
    let high = new.1 in omega (arith, low, high)

pub not_left : (life : LifeState) (ids : List ContainerId) (id : ContainerId) → IsNew life id → All (IsGranted life) ids → has_container ids id ≡ false
not_left life [] id new h = refl
not_left life (other ∷ ids) id new h = by_test (is_container other id) refl (not_left life ids id new h.1)
  where
    by_test : (b : Bool) → is_container other id ≡ b → has_container ids id ≡ false → has_container (other ∷ ids) id ≡ false
    by_test true e rest = absurd (not_granted life id other new h.0 e)
    by_test false e rest = rw e rest

pub not_living : (life : LifeState) (more : ContainerId → Type 0) (rows : List Row) (id : ContainerId) → IsNew life id → All (BookRowInvariant life more) rows → is_living rows id ≡ false
not_living life more [] id new h = refl
not_living life more (row ∷ rows) id new h = by_test (is_container row.id id) refl (not_living life more rows id new h.1)
  where
    by_test : (b : Bool) → is_container row.id id ≡ b → is_living rows id ≡ false → is_living (row ∷ rows) id ≡ false
    by_test true e rest = absurd (not_granted life id row.id new h.0.1 e)
    by_test false e rest = rw e rest
