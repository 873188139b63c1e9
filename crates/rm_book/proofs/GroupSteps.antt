-- The containers under each key after those of one are changed.
use Rattle.rm_book.proofs.Common.{◌≡◌, Bool, true, false, cond, List, [], ◌∷◌, ◌++◌, length, Option, None, Some, is_some, refl, sym, ap, subst, ◌∙◌, arith, list_any, keys_of, lookup, or_parts, map-append, ContainerId, inl, inr, cases_Bool}
use Rattle.std.proofs.Common.{IsSome, Bor, Result, Ok, Err, OnErr, OnOk, is_err}
use Rattle.std.specs.Cmp.{IsEquivalence}
use Rattle.std.specs.Option.{option_copied}
use Rattle.rm_book.specs.Kept.{ids_in, ids_under}

-- nothing is found under a key that none has
pub absent : {K V : Type 0} (test : K → Bool) (es : List (K × V)) → list_any test (keys_of es) ≡ false → lookup test es ≡ None
absent test [] h = refl
absent test (e ∷ es) h = let parts = or_parts (test e.0) (list_any test (keys_of es)) h in rw parts.0 (absent test es parts.1)

abbrev Group : Type 0
Group = List (ContainerId × Unit {0})

module _ {K : Type 0} {eq : K → K → Bool} (laws : IsEquivalence eq) (key : K) where
  -- under an equal key stand the same
  same_group : (es : List (K × Group)) (other : K) → eq key other ≡ true → ids_under eq es other ≡ ids_under eq es key
  same_group es other e = λ j. ids_in (lookup (λ x. sym (laws.congr key other x e) j) es)

  module _ (old new : List (K × Group)) (v : Group) (at : lookup (eq key) old ≡ Some v) where
    pub changed_group : (f : List ContainerId → List ContainerId) (w : Group) → keys_of w ≡ f (keys_of v)
        → ((q : K) → lookup (eq q) new ≡ cond (eq key q) (Some w) (lookup (eq q) old))
        → (other : K) → ids_under eq new other ≡ cond (eq key other) (f (ids_under eq old other)) (ids_under eq old other)
    changed_group f w is set other = elim (cases_Bool (eq key other)) [
      | inl e ↦ ap ids_in (set other) ∙ rw e (is ∙ ap f (sym (same_group old other e ∙ ap ids_in at)))
      | inr e ↦ ap ids_in (set other) ∙ rw e refl
    ]

    pub kept_group : (w : Group) → w ≡ v → ((q : K) → lookup (eq q) new ≡ cond (eq key q) (Some w) (lookup (eq q) old))
        → (other : K) → ids_under eq new other ≡ ids_under eq old other
    kept_group w is set other = elim (cases_Bool (eq key other)) [
      | inl e ↦ ap ids_in (set other) ∙ rw e (ap keys_of is ∙ sym (same_group old other e ∙ ap ids_in at))
      | inr e ↦ ap ids_in (set other) ∙ rw e refl
    ]

  -- where a key has no group, a change of none changes nothing
  pub no_group : (f : List ContainerId → List ContainerId) (es : List (K × Group)) → f [] ≡ [] → lookup (eq key) es ≡ None
      → (other : K) → ids_under eq es other ≡ cond (eq key other) (f (ids_under eq es other)) (ids_under eq es other)
  no_group f es nil at other = elim (cases_Bool (eq key other)) [
    | inl e ↦ let none : ids_under eq es other ≡ [] = same_group es other e ∙ ap ids_in at in rw e (none ∙ sym (ap f none ∙ nil))
    | inr e ↦ rw e refl
  ]

  none_left : (ids : List ContainerId) → length ids ≡ 0 → ids ≡ []
  none_left [] n = refl
  none_left (id ∷ ids) n = absurd (omega (arith, n))

  -- a group of none goes
  pub gone_group : (old new : List (K × Group)) → length (ids_under eq old key) ≡ 0 → ((q : K) → lookup (eq q) new ≡ cond (eq key q) None (lookup (eq q) old))
      → (other : K) → ids_under eq new other ≡ ids_under eq old other
  gone_group old new none set other = elim (cases_Bool (eq key other)) [
    | inl e ↦ ap ids_in (set other) ∙ rw e (sym (same_group old other e ∙ none_left (ids_under eq old key) none))
    | inr e ↦ ap ids_in (set other) ∙ rw e refl
  ]

pub one_more : (group : Group) (id : ContainerId) → keys_of (group ++ (id, tt) ∷ []) ≡ keys_of group ++ id ∷ []
one_more group id = map-append _ group ((id, tt) ∷ [])

pub there : {X : Type 0} (o : Option X) (x : X) → o ≡ Some x → IsSome o
there o x e = subst IsSome (sym e) refl

pub on_err_map : {A E : Type 0} {P Q : Type 0} (r : Result A E) → (P → Q) → OnErr r P → OnErr r Q
on_err_map (Ok x) f p = tt
on_err_map (Err e) f p = f p

-- what holds where a result is an error, or none
pub at_err : {A E P : Type 0} (r : Result A E) → is_err r ≡ true → OnErr r P → P
at_err (Ok x) e p = cc
at_err (Err x) e p = p

pub at_ok : {A E P : Type 0} (r : Result A E) → is_err r ≡ false → OnOk r P → P
at_ok (Ok x) e p = p
at_ok (Err x) e p = cc

pub some_copied : {X : Type 0} (o : Option (Bor X)) → is_some o ≡ is_some (option_copied o)
some_copied None = refl
some_copied (Some x) = refl
