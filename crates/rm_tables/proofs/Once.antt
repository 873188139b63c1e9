-- A loop that takes each of a list once is the judge's list.
use Rattle.std.proofs.Common.{◌≡◌, List, [], ◌∷◌, ◌++◌, Bool, true, false, not, ◌&&◌, ◌||◌, filter, fold, refl, sym, ◌∙◌, ap, append-nil, append_assoc}
use Rattle.std.specs.Prelude.{if◌then◌else◌}
use Rattle.std.proofs.lemmas.Bool.{false≢true}
use Rattle.std.proofs.lemmas.List.Folds.{list_any-append}
use Rattle.std.proofs.lemmas.List.Elements.{filter_agree}
use Rattle.rm_types.specs.declared.ids.ContainerId.{ContainerId}
use Rattle.rm_types.specs.Ids.{is_container}
use Rattle.rm_types.proofs.IdLemmas.{container_back, same_container}
use Rattle.rm_model.specs.Facts.{has_container}
use Rattle.rm_model.specs.Containers.{once}

-- the loop's step: one that passes and isn't there yet is taken
abbrev pub take_one : (ContainerId → Bool) → List ContainerId → ContainerId → List ContainerId
take_one test out id = if not (test id) || has_container out id then out else out ++ id ∷ []

filter_both : (p q : ContainerId → Bool) (xs : List ContainerId) → filter p (filter q xs) ≡ filter (λ x. q x && p x) xs
filter_both p q [] = refl
filter_both p q (x ∷ xs) = by_test (q x) (p x) refl refl (filter_both p q xs)
  where
    by_test : (b c : Bool) → q x ≡ b → p x ≡ c → filter p (filter q xs) ≡ filter (λ x. q x && p x) xs → filter p (filter q (x ∷ xs)) ≡ filter (λ x. q x && p x) (x ∷ xs)
    by_test true true e f rest = rw (e, f) (ap (λ (l : List ContainerId). x ∷ l) rest)
    by_test true false e f rest = rw (e, f) rest
    by_test false c e f rest = rw e rest

-- where it is there already, being another than it says nothing more
there_by : (out : List ContainerId) (x y : ContainerId) (b c : Bool) → is_container y x ≡ b → has_container out y ≡ c → has_container out x ≡ true
    → (not (is_container y x) && not (has_container out y)) ≡ not (has_container out y)
there_by out x y true true e f h = rw (e, f) refl
there_by out x y true false e f h = let g : has_container out y ≡ true = rw (same_container y x e) h in absurd (false≢true (sym f ∙ g))
there_by out x y false c e f h = rw e refl

-- where it comes to be there
pushed_by : (a b : Bool) → not (a || (b || false)) ≡ (not b && not a)
pushed_by true true = refl
pushed_by true false = refl
pushed_by false true = refl
pushed_by false false = refl

now_there : (out : List ContainerId) (x y : ContainerId) → not (has_container (out ++ x ∷ []) y) ≡ (not (is_container y x) && not (has_container out y))
now_there out x y =
    ap (λ (b : Bool). not b) (list_any-append (λ one. is_container one y) out (x ∷ []))
    ∙ pushed_by (has_container out y) (is_container x y)
    ∙ ap (λ (b : Bool). not b && not (has_container out y)) (container_back x y)

taken_from : (test : ContainerId → Bool) (ids out : List ContainerId) → fold (take_one test) out ids ≡ out ++ filter (λ y. not (has_container out y)) (once (filter test ids))
taken_from test [] out = sym (append-nil out)
taken_from test (x ∷ ids) out = by_test (test x) (has_container out x) refl refl (λ o. taken_from test ids o)
  where
    rest : List ContainerId
    rest = once (filter test ids)

    by_test : (b c : Bool) → test x ≡ b → has_container out x ≡ c → ((o : List ContainerId) → fold (take_one test) o ids ≡ o ++ filter (λ y. not (has_container o y)) (once (filter test ids)))
        → fold (take_one test) out (x ∷ ids) ≡ out ++ filter (λ y. not (has_container out y)) (once (filter test (x ∷ ids)))
    by_test false c e f more = rw e (more out)
    by_test true true e f more =
        let same : filter (λ y. not (has_container out y)) (filter (λ other. not (is_container other x)) (once (filter test ids))) ≡ filter (λ y. not (has_container out y)) (once (filter test ids)) =
        filter_both (λ y. not (has_container out y)) (λ other. not (is_container other x)) (once (filter test ids))
        ∙ filter_agree (λ y. not (is_container y x) && not (has_container out y)) (λ y. not (has_container out y)) (λ y. there_by out x y (is_container y x) (has_container out y) refl refl f) (once (filter test ids)) in
        rw (e, f) (more out ∙ ap (λ (l : List ContainerId). out ++ l) (sym same))
    by_test true false e f more =
        let same : filter (λ y. not (has_container out y)) (filter (λ other. not (is_container other x)) (once (filter test ids))) ≡ filter (λ y. not (has_container (out ++ x ∷ []) y)) (once (filter test ids)) =
        filter_both (λ y. not (has_container out y)) (λ other. not (is_container other x)) (once (filter test ids))
        ∙ sym (filter_agree (λ y. not (has_container (out ++ x ∷ []) y)) (λ y. not (is_container y x) && not (has_container out y)) (now_there out x) (once (filter test ids))) in
        rw (e, f)
        (more (out ++ x ∷ [])
        ∙ append_assoc out (x ∷ []) _
        ∙ (ap (λ (l : List ContainerId). out ++ (x ∷ l)) (sym same)))

pub taken_once : (test : ContainerId → Bool) (ids : List ContainerId) → fold (take_one test) [] ids ≡ once (filter test ids)
taken_once test ids = taken_from test ids [] ∙ all (once (filter test ids))
  where
    all : (xs : List ContainerId) → filter (λ y. true) xs ≡ xs
    all [] = refl
    all (x ∷ xs) = ap (λ (l : List ContainerId). x ∷ l) (all xs)
