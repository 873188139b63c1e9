-- Lists of containers: each once, and what is left of a list without them.
use Rattle.rm_invariant.proofs.Common.{◌≡◌, ℕ, List, [], ◌∷◌, Bool, true, false, not, ◌||◌, filter, refl, sym, ◌∙◌, list_any, bytes_eq, false≢true, ContainerId, is_container, container_itself, same_container, Row, has_container, ids_on, lives_on, once, ◌&&◌}
use Rattle.rm_invariant.proofs.nodes.Views.{fewer}
use Rattle.std.proofs.lemmas.Bool.{or_right}

-- what is among those that go does not stay
out_more : (gone on : List ContainerId) (x id : ContainerId) (b c : Bool) → has_container gone x ≡ b → is_container x id ≡ c → has_container gone id ≡ true
    → has_container (filter (λ y. not (has_container gone y)) on) id ≡ false → has_container (filter (λ y. not (has_container gone y)) (x ∷ on)) id ≡ false
out_more gone on x id true c e f h rest = rw e rest
out_more gone on x id false true e f h rest =
    let g : has_container gone x ≡ true = rw (same_container x id f) h in absurd (false≢true (sym e ∙ g))
out_more gone on x id false false e f h rest = rw (e, f) rest

pub filtered_out : (gone on : List ContainerId) (id : ContainerId) → has_container gone id ≡ true → has_container (filter (λ y. not (has_container gone y)) on) id ≡ false
filtered_out gone [] id h = refl
filtered_out gone (x ∷ on) id h = out_more gone on x id (has_container gone x) (is_container x id) refl refl h (filtered_out gone on id h)

-- each once: nothing is lost
kept_more : (out : List ContainerId) (x id y : ContainerId) (b c : Bool) → is_container y id ≡ b → is_container y x ≡ c → is_container x id ≡ false
    → (has_container out id ≡ true → has_container (filter (λ other. not (is_container other x)) out) id ≡ true)
    → has_container (y ∷ out) id ≡ true → has_container (filter (λ other. not (is_container other x)) (y ∷ out)) id ≡ true
kept_more out x id y true true e f n rest h = let g : is_container x id ≡ true = rw (← same_container y x f) e in absurd (false≢true (sym n ∙ g))
kept_more out x id y true false e f n rest h = rw (f, e) refl
kept_more out x id y false true e f n rest h = rw f (rest (rw e at h))
kept_more out x id y false false e f n rest h = rw (f, e) (rest (rw e at h))

kept_beside : (out : List ContainerId) (x id : ContainerId) → is_container x id ≡ false → has_container out id ≡ true → has_container (filter (λ other. not (is_container other x)) out) id ≡ true
kept_beside [] x id n h = h
kept_beside (y ∷ out) x id n h = kept_more out x id y (is_container y id) (is_container y x) refl refl n (kept_beside out x id n) h

once_more : (x : ContainerId) (ids : List ContainerId) (id : ContainerId) (b : Bool) → is_container x id ≡ b → (has_container ids id ≡ true → has_container (once ids) id ≡ true)
    → has_container (x ∷ ids) id ≡ true → has_container (once (x ∷ ids)) id ≡ true
once_more x ids id true e rest h = rw e refl
once_more x ids id false e rest h = rw e (kept_beside (once ids) x id e (rest (rw e at h)))

pub once_has : (ids : List ContainerId) (id : ContainerId) → has_container ids id ≡ true → has_container (once ids) id ≡ true
once_has [] id h = h
once_has (x ∷ ids) id h = once_more x ids id (is_container x id) refl (once_has ids id) h

-- all go
pub all_go : (gone : List ContainerId) (on : List ContainerId) → ((id : ContainerId) → has_container on id ≡ true → has_container gone id ≡ true)
    → filter (λ y. not (has_container gone y)) on ≡ []
all_go gone [] all = refl
all_go gone (x ∷ on) all =
    let first : has_container gone x ≡ true = all x (let e = container_itself x in rw e refl) in
    rw first (all_go gone on (λ id h. all id (more x on id (is_container x id) refl h)))
  where
    more : (x : ContainerId) (on : List ContainerId) (id : ContainerId) (b : Bool) → is_container x id ≡ b → has_container on id ≡ true → has_container (x ∷ on) id ≡ true
    more x on id true e h = rw e refl
    more x on id false e h = rw e h

-- a container lives on a node where it is among those on it
lives_by : (row : Row) (book : List Row) (name : List ℕ) (id : ContainerId) (b c : Bool) → bytes_eq row.node name ≡ b → is_container row.id id ≡ c
    → lives_on book name id ≡ has_container (ids_on book name) id → lives_on (row ∷ book) name id ≡ has_container (ids_on (row ∷ book) name) id
lives_by row book name id true true e f rest = rw (e, f) refl
lives_by row book name id true false e f rest = rw (e, f) rest
lives_by row book name id false true e f rest = rw (e, f) rest
lives_by row book name id false false e f rest = rw (e, f) rest

pub lives_is : (book : List Row) (name : List ℕ) (id : ContainerId) → lives_on book name id ≡ has_container (ids_on book name) id
lives_is [] name id = refl
lives_is (row ∷ book) name id = lives_by row book name id (bytes_eq row.node name) (is_container row.id id) refl refl (lives_is book name id)

-- of a done list, those that live on the node go: then none of it does
left_by : (on : List ContainerId) (x : ContainerId) (gone : List ContainerId) (b : Bool) → has_container on x ≡ b → (has_container on x ≡ true → has_container gone x ≡ true)
    → has_container (filter (λ y. not (has_container gone y)) on) x ≡ false
left_by on x gone true e h = filtered_out gone on x (h e)
left_by on x gone false e h = fewer (λ y. not (has_container gone y)) on x e

passes_more : (test : ContainerId → Bool) (x y : ContainerId) (ids : List ContainerId) (b : Bool) → test y ≡ b → (has_container (filter test ids) x ≡ true)
    → has_container (filter test (y ∷ ids)) x ≡ true
passes_more test x y ids true e h = rw e (or_true (is_container y x) h)
  where
    or_true : (a : Bool) → has_container (filter test ids) x ≡ true → (a || has_container (filter test ids) x) ≡ true
    or_true true g = refl
    or_true false g = g
passes_more test x y ids false e h = rw e h

none_by : (on : List ContainerId) (gone : List ContainerId) (ids : List ContainerId)
    → ((x : ContainerId) → has_container (filter (has_container on) ids) x ≡ true → has_container gone x ≡ true)
    → list_any (has_container (filter (λ y. not (has_container gone y)) on)) ids ≡ false
none_by on gone [] all = refl
none_by on gone (x ∷ ids) all =
    let here : has_container (filter (λ y. not (has_container gone y)) on) x ≡ false =
    left_by on x gone (has_container on x) refl (λ t. all x (let e = container_itself x in rw t (rw e refl))) in
    rw here (none_by on gone ids (λ y h. all y (passes_more (has_container on) y x ids (has_container on x) refl h)))

pub none_left : (goes : ContainerId → Bool) (on ids : List ContainerId) → ((id : ContainerId) → has_container on id ≡ true → goes id ≡ true)
    → list_any (has_container (filter (λ y. not (has_container (once (filter goes ids)) y)) on)) ids ≡ false
none_left goes on ids passes = none_by on (once (filter goes ids)) ids (λ x h. once_has (filter goes ids) x (more ids x h))
  where
    more : (ids : List ContainerId) (x : ContainerId) → has_container (filter (has_container on) ids) x ≡ true → has_container (filter goes ids) x ≡ true
    more [] x h = h
    more (y ∷ ids) x h = by (has_container on y) refl (is_container y x) refl (more ids x)
      where
        here : has_container on y ≡ true → has_container (filter goes (y ∷ ids)) x ≡ (is_container y x || has_container (filter goes ids) x)
        here e = let p = passes y e in rw p refl

        by : (b : Bool) → has_container on y ≡ b → (c : Bool) → is_container y x ≡ c → (has_container (filter (has_container on) ids) x ≡ true → has_container (filter goes ids) x ≡ true) → has_container (filter goes (y ∷ ids)) x ≡ true
        by true e true f rest = here e ∙ rw f refl
        by true e false f rest = here e ∙ rw f (rest (rw (e, f) at h))
        by false e c f rest = passes_more goes x y ids (goes y) refl (rest (rw e at h))

-- of a done list, those that pass a test go: then what passes a narrower one is among them
passes_in : (goes : ContainerId → Bool) (ids : List ContainerId) (x : ContainerId) → goes x ≡ true → has_container ids x ≡ true → has_container (filter goes ids) x ≡ true
passes_in goes [] x passes h = h
passes_in goes (y ∷ ids) x passes h = by (is_container y x) refl (passes_in goes ids x passes)
  where
    by : (b : Bool) → is_container y x ≡ b → (has_container ids x ≡ true → has_container (filter goes ids) x ≡ true) → has_container (filter goes (y ∷ ids)) x ≡ true
    by true e rest = let own : goes y ≡ true = rw (same_container y x e) passes in rw (own, e) refl
    by false e rest = passes_more goes x y ids (goes y) refl (rest (rw e at h))

none_beside : (p : ContainerId → Bool) (gone ids : List ContainerId) → ((x : ContainerId) → p x ≡ true → has_container ids x ≡ true → has_container gone x ≡ true) → list_any (λ id. p id && not (has_container gone id)) ids ≡ false
none_beside p gone [] all = refl
none_beside p gone (x ∷ ids) all = by (p x) refl (none_beside p gone ids (λ y passes h. all y passes (or_right (is_container x y) (has_container ids y) h)))
  where
    by : (b : Bool) → p x ≡ b → list_any (λ id. p id && not (has_container gone id)) ids ≡ false → list_any (λ id. p id && not (has_container gone id)) (x ∷ ids) ≡ false
    by true e rest = let among : has_container gone x ≡ true = all x e (let i = container_itself x in rw i refl) in rw (e, among) rest
    by false e rest = rw e rest

pub none_but_listed : (p goes : ContainerId → Bool) → ((id : ContainerId) → p id ≡ true → goes id ≡ true) → (ids : List ContainerId) → list_any (λ id. p id && not (has_container (once (filter goes ids)) id)) ids ≡ false
none_but_listed p goes narrower ids = none_beside p (once (filter goes ids)) ids (λ x passes h. once_has (filter goes ids) x (passes_in goes ids x (narrower x passes) h))
