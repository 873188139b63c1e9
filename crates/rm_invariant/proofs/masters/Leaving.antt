-- What becomes of lists where containers leave: of the book, of those that left, and of the main queue, which is told of masters'.
use Rattle.rm_invariant.proofs.Common.{◌≡◌, ◌≤◌, ◌&&◌, ◌||◌, not, suc, List, [], ◌∷◌, ◌++◌, Bool, true, false, filter, map, refl, sym, ◌∙◌, subst, arith, list_any, ContainerId, is_container, and_false, same_container, is_living, has_container, Row, MainEvent}
use Rattle.std.proofs.Common.{count_by}
use Rattle.rm_tables.specs.declared.events.MainEvent.TheVariants as mains
use Rattle.rm_invariant.proofs.apps.Counts.{at_front, count_append}
use Rattle.rm_invariant.specs.masters.View.{is_losing}

-- a container lives once some left where it did and isn't one of them
living_more : (list : List ContainerId) (row : Row) (rows : List Row) (c : ContainerId) (a b : Bool) → has_container list row.id ≡ a → is_container row.id c ≡ b
    → is_living (filter (λ row. not (has_container list row.id)) rows) c ≡ (is_living rows c && not (has_container list c))
    → is_living (filter (λ row. not (has_container list row.id)) (row ∷ rows)) c ≡ (is_living (row ∷ rows) c && not (has_container list c))
living_more list row rows c true true e f h =
    let same : has_container list c ≡ true = subst (λ (x : ContainerId). has_container list x ≡ true) (same_container row.id c f) e in
    let i = rw same at h in
    rw (e, f, same) (i ∙ and_false (is_living rows c))
living_more list row rows c true false e f h = rw (e, f) h
living_more list row rows c false true e f h =
    let same : has_container list c ≡ false = subst (λ (x : ContainerId). has_container list x ≡ false) (same_container row.id c f) e in
    rw (e, f, same) refl
living_more list row rows c false false e f h = rw (e, f) h

-- a container lives where it did and is not among those
pub living_filter : (list : List ContainerId) (rows : List Row) (c : ContainerId) → is_living (filter (λ row. not (has_container list row.id)) rows) c ≡ (is_living rows c && not (has_container list c))
living_filter list [] c = refl
living_filter list (row ∷ rows) c = living_more list row rows c (has_container list row.id) (is_container row.id c) refl refl (living_filter list rows c)

-- it is among two lists where it is among one
pub has_append : (xs ys : List ContainerId) (c : ContainerId) → has_container (xs ++ ys) c ≡ (has_container xs c || has_container ys c)
has_append [] ys c = refl
has_append (x ∷ xs) ys c = by (is_container x c) refl (has_append xs ys c)
  where
    by : (b : Bool) → is_container x c ≡ b → has_container (xs ++ ys) c ≡ (has_container xs c || has_container ys c) → has_container ((x ∷ xs) ++ ys) c ≡ (has_container (x ∷ xs) c || has_container ys c)
    by true e h = rw e refl
    by false e h = rw e h

-- where no item passes, none of some of them does
pub any_filter : {X : Type 0} (p r : X → Bool) (xs : List X) → list_any p xs ≡ false → list_any p (filter r xs) ≡ false
any_filter p r [] n = refl
any_filter p r (x ∷ xs) n = by (p x) (r x) refl refl (any_filter p r xs)
  where
    by : (a b : Bool) → p x ≡ a → r x ≡ b → (list_any p xs ≡ false → list_any p (filter r xs) ≡ false) → list_any p (filter r (x ∷ xs)) ≡ false
    by true b e f h = absurd (let y = rw e at n in cc)
    by false true e f h = rw (f, e) (h (rw e at n))
    by false false e f h = rw f (h (rw e at n))

-- a test that no MasterLost passes counts the same with them
none_of : (p : MainEvent → Bool) → ((id : ContainerId) → p (mains.MasterLost id) ≡ false) → (ids : List ContainerId) → count_by p (map (λ id. mains.MasterLost id) ids) ≡ 0
none_of p never [] = refl
none_of p never (id ∷ ids) =
    let e = at_front p (mains.MasterLost id) (map (λ id. mains.MasterLost id) ids) in
    let n = never id in
    let f : count_by p (map (λ id. mains.MasterLost id) (id ∷ ids)) ≡ count_by p (map (λ id. mains.MasterLost id) ids) = e ∙ rw n refl in
    f ∙ none_of p never ids

pub none_more : (p : MainEvent → Bool) → ((id : ContainerId) → p (mains.MasterLost id) ≡ false) → (xs : List MainEvent) (ids : List ContainerId) → count_by p (xs ++ map (λ id. mains.MasterLost id) ids) ≡ count_by p xs
none_more p never xs ids = let e = count_append p xs (map (λ id. mains.MasterLost id) ids) in let n = none_of p never ids in omega (arith, e, n)

-- of a container that doesn't leave nothing is posted, and of a master's that does MasterLost is
pub posts_none : (test : ContainerId → Bool) (list : List ContainerId) (c : ContainerId) → has_container list c ≡ false → count_by (is_losing c) (map (λ id. mains.MasterLost id) (filter test list)) ≡ 0
posts_none test [] c n = refl
posts_none test (id ∷ ids) c n = by (is_container id c) (test id) refl refl (posts_none test ids c)
  where
    by : (a b : Bool) → is_container id c ≡ a → test id ≡ b → (has_container ids c ≡ false → count_by (is_losing c) (map (λ id. mains.MasterLost id) (filter test ids)) ≡ 0)
        → count_by (is_losing c) (map (λ id. mains.MasterLost id) (filter test (id ∷ ids))) ≡ 0
    by true b e f h = absurd (let y = rw e at n in cc)
    by false true e f h = rw f (at_front (is_losing c) (mains.MasterLost id) (map (λ id. mains.MasterLost id) (filter test ids)) ∙ rw e (h (rw e at n)))
    by false false e f h = rw f (h (rw e at n))

-- of a master's that leaves a MasterLost is
pub posts_some : (test : ContainerId → Bool) (list : List ContainerId) (c : ContainerId) → has_container list c ≡ true → test c ≡ true → 1 ≤ count_by (is_losing c) (map (λ id. mains.MasterLost id) (filter test list))
posts_some test [] c n m = cc
posts_some test (id ∷ ids) c n m = by (is_container id c) (test id) refl refl (posts_some test ids c)
  where
    by : (a b : Bool) → is_container id c ≡ a → test id ≡ b → (has_container ids c ≡ true → test c ≡ true → 1 ≤ count_by (is_losing c) (map (λ id. mains.MasterLost id) (filter test ids)))
        → 1 ≤ count_by (is_losing c) (map (λ id. mains.MasterLost id) (filter test (id ∷ ids)))
    by true true e f h =
        let g = at_front (is_losing c) (mains.MasterLost id) (map (λ id. mains.MasterLost id) (filter test ids)) in
        let i : count_by (is_losing c) (mains.MasterLost id ∷ map (λ id. mains.MasterLost id) (filter test ids)) ≡ suc (count_by (is_losing c) (map (λ id. mains.MasterLost id) (filter test ids))) = g ∙ rw e refl in
        rw f (omega (arith, i))
    by true false e f h = absurd (let x : test id ≡ true = subst (λ (y : ContainerId). test y ≡ true) (sym (same_container id c e)) m in cc)
    by false true e f h =
        let r = h (rw e at n) m in
        let g = at_front (is_losing c) (mains.MasterLost id) (map (λ id. mains.MasterLost id) (filter test ids)) in
        let i : count_by (is_losing c) (mains.MasterLost id ∷ map (λ id. mains.MasterLost id) (filter test ids)) ≡ count_by (is_losing c) (map (λ id. mains.MasterLost id) (filter test ids)) = g ∙ rw e refl in
        rw f (omega (arith, i, r))
    by false false e f h = rw f (h (rw e at n) m)
