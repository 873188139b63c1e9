-- What joins a set stands behind what was there, and is among it.
use Rattle.std.proofs.Common.{◌≡◌, ℕ, ◌+◌, ◌<◌, Bool, true, false, ◌||◌, List, [], ◌∷◌, ◌++◌, cond, get_or, length, fold, take, append-nil, refl, sym, ap, ◌∙◌, append_assoc}
use Rattle.std.specs.List.{list_any}
use Rattle.std.proofs.lemmas.List.{take_more}
use Rattle.std.proofs.lemmas.List.Folds.{list_any-append}
use Rattle.indexmap.specs.IndexSet.{insert_key}
use Rattle.rm_types.specs.declared.ids.ContainerId.{ContainerId}
use Rattle.rm_types.specs.Ids.{is_container}
use Rattle.rm_types.proofs.IdLemmas.{container_back, same_container}
use Rattle.rm_model.specs.Facts.{has_container}
use Rattle.rm_tables.specs.ContainerSets.{with_containers, with_container}

-- a container is among a list, whichever of the two is asked for the other
pub among_back : (set : List ContainerId) (id : ContainerId) → list_any (is_container id) set ≡ has_container set id
among_back [] id = refl
among_back (one ∷ set) id = rw (container_back id one, among_back set id) refl

-- a set with one more that a set of the library inserts
inserted : (set : List ContainerId) (id : ContainerId) → insert_key is_container set id ≡ with_container set id
inserted set id = ap (λ (b : Bool). cond b set (set ++ id ∷ [])) (among_back set id)

joined_end : (ids set : List ContainerId) (id : ContainerId) → with_containers set (ids ++ id ∷ []) ≡ with_container (with_containers set ids) id
joined_end [] set id = refl
joined_end (one ∷ ids) set id = joined_end ids (with_container set one) id

joined_next : (set ids : List ContainerId) (i : ℕ) (d : ContainerId) → i < length ids → with_container (with_containers set (take i ids)) (get_or ids i d) ≡ with_containers set (take (i + 1) ids)
joined_next set ids i d within = sym (ap (with_containers set) (take_more ids i d within) ∙ joined_end (take i ids) set (get_or ids i d))

-- the next of a list joins
pub one_joined : (set ids : List ContainerId) (place : ℕ) (d : ContainerId) (keys new : List ContainerId) → place < length ids → keys ≡ with_containers set (take place ids) → new ≡ insert_key is_container keys (get_or ids place d)
    → new ≡ with_containers set (take (place + 1) ids)
one_joined set ids place d keys new within so_far is =
    is ∙ inserted keys (get_or ids place d) ∙ ap (λ (l : List ContainerId). with_container l (get_or ids place d)) so_far ∙ joined_next set ids place d within

-- what joined stands behind
joined_behind : (ids set : List ContainerId) → (rest : List ContainerId) × (with_containers set ids ≡ set ++ rest)
joined_behind [] set = ([], sym (append-nil set))
joined_behind (id ∷ ids) set = by (has_container set id) (joined_behind ids set) (joined_behind ids (set ++ id ∷ []))
  where
    by : (b : Bool) → (rest : List ContainerId) × (with_containers set ids ≡ set ++ rest) → (rest : List ContainerId) × (with_containers (set ++ id ∷ []) ids ≡ (set ++ id ∷ []) ++ rest)
        → (rest : List ContainerId) × (fold with_container (cond b set (set ++ id ∷ [])) ids ≡ set ++ rest)
    by true there more = there
    by false there more = (id ∷ more.0, more.1 ∙ append_assoc set (id ∷ []) more.0)

front_of : (set rest : List ContainerId) → take (length set) (set ++ rest) ≡ set
front_of [] rest = refl
front_of (one ∷ set) rest = ap (λ more. one ∷ more) (front_of set rest)

-- and goes again with the rest
pub joined_front : (set ids : List ContainerId) → take (length set) (with_containers set ids) ≡ set
joined_front set ids = let behind = joined_behind ids set in ap (take (length set)) behind.1 ∙ front_of set behind.0

-- a container is in a set to which others joined where it was there or joined
pub among_joined : (ids set : List ContainerId) (id : ContainerId) → has_container (with_containers set ids) id ≡ (has_container set id || has_container ids id)
among_joined [] set id = or_none (has_container set id)
  where
    or_none : (b : Bool) → b ≡ (b || false)
    or_none true = refl
    or_none false = refl
among_joined (one ∷ ids) set id = by (has_container set one) refl (among_joined ids set id) (among_joined ids (set ++ one ∷ []) id)
  where
    or_more : (a b c : Bool) → ((a || (b || false)) || c) ≡ (a || (b || c))
    or_more true b c = refl
    or_more false true c = refl
    or_more false false c = refl

    or_there : (a b c : Bool) → (b ≡ true → a ≡ true) → (a || c) ≡ (a || (b || c))
    or_there true b c h = refl
    or_there false true c h = let e = h refl in cc
    or_there false false c h = refl

    there : has_container set one ≡ true → is_container one id ≡ true → has_container set id ≡ true
    there e f = rw (← same_container one id f) e

    by : (b : Bool) → has_container set one ≡ b → has_container (with_containers set ids) id ≡ (has_container set id || has_container ids id)
        → has_container (with_containers (set ++ one ∷ []) ids) id ≡ (has_container (set ++ one ∷ []) id || has_container ids id)
        → has_container (fold with_container (cond b set (set ++ one ∷ [])) ids) id ≡ (has_container set id || (is_container one id || has_container ids id))
    by true e same more = same ∙ or_there (has_container set id) (is_container one id) (has_container ids id) (there e)
    by false e same more =
        more
        ∙ ap (λ (b : Bool). b || has_container ids id) (list_any-append (λ other. is_container other id) set (one ∷ []))
        ∙ or_more (has_container set id) (is_container one id) (has_container ids id)
