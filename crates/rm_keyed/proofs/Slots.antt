-- What slots with distinct keys give under a key: what is found, and what a removal leaves.
use Rattle.std.proofs.Common.{◌≡◌, ℕ, zero, suc, drop, slice_get, ◌+◌, ◌-◌, ◌≤◌, Bool, true, false, List, [], ◌∷◌, ◌++◌, length, filter, Option, None, Some, is_some, Result, Ok, Err, OnErr, IfSome, IfNone, refl, sym, ap, subst, ◌∙◌, arith}
use mir.Val.{bool_byte}
use Rattle.std.specs.Cmp.{IsEquivalence}
use Rattle.std.specs.List.{AllByRecursion, IsDistinct, list_any}
use Rattle.std.specs.Map.{keys_of, values_of, lookup, set_value, remove_entry}
use Rattle.std.proofs.lemmas.Map.{keys-set_value, length-set_value}
use Rattle.std.proofs.lemmas.Map.Keys.{IsDistinct-cons, IsDistinct-head, IsDistinct-tail}
use Rattle.rm_keyed.specs.Slots.{put_slot, live, joined, value_at, AreSlots}

module _ {K : Type 0} {eq : K → K → Bool} (laws : IsEquivalence eq) (k : K) where
  others : (keys : List K) (key : K) → eq k key ≡ true → AllByRecursion (λ y. eq key y ≡ false) keys → AllByRecursion (λ y. eq k y ≡ false) keys
  others [] key e d = tt
  others (y ∷ keys) key e d = (laws.congr k key y e ∙ d.0, others keys key e d.1)

module _ {K V : Type 0} {eq : K → K → Bool} (laws : IsEquivalence eq) (k : K) where
  -- one slot before others
  here_found : (key : K) (v : Option V) (rest : List (K × V)) → eq k key ≡ true → lookup (eq k) rest ≡ None → lookup (eq k) (put_slot key v rest) ≡ v
  here_found key None rest e n = n
  here_found key (Some value) rest e n = rw e refl

  other_found : (key : K) (v : Option V) (rest : List (K × V)) → eq k key ≡ false → lookup (eq k) (put_slot key v rest) ≡ lookup (eq k) rest
  other_found key None rest e = refl
  other_found key (Some value) rest e = rw e refl

  here_removed : (key : K) (v : Option V) (rest : List (K × V)) → eq k key ≡ true → remove_entry (eq k) rest ≡ rest → remove_entry (eq k) (put_slot key v rest) ≡ rest
  here_removed key None rest e n = n
  here_removed key (Some value) rest e n = rw e refl

  other_removed : (key : K) (v : Option V) (rest : List (K × V)) → eq k key ≡ false → remove_entry (eq k) (put_slot key v rest) ≡ put_slot key v (remove_entry (eq k) rest)
  other_removed key None rest e = refl
  other_removed key (Some value) rest e = rw e refl

  -- no value under a key that no slot has
  absent : (slots : List (K × Option V)) → AllByRecursion (λ y. eq k y ≡ false) (keys_of slots)
      → (lookup (eq k) (live slots) ≡ None) × (remove_entry (eq k) (live slots) ≡ live slots)
  absent [] a = (refl, refl)
  absent (slot ∷ slots) a =
      let rest = absent slots a.1 in
      (other_found slot.0 slot.1 (live slots) a.0 ∙ rest.0, other_removed slot.0 slot.1 (live slots) a.0 ∙ ap (put_slot slot.0 slot.1) rest.1)

  later_absent : (slot : K × Option V) (slots : List (K × Option V)) → IsDistinct eq (keys_of (slot ∷ slots)) → eq k slot.0 ≡ true
      → (lookup (eq k) (live slots) ≡ None) × (remove_entry (eq k) (live slots) ≡ live slots)
  later_absent slot slots d e = absent slots (others laws k (keys_of slots) slot.0 e (IsDistinct-head eq slot.0 (keys_of slots) d))

  -- what is found under a key is its slot's value
  pub found : (slots : List (K × Option V)) → IsDistinct eq (keys_of slots) → lookup (eq k) (live slots) ≡ joined (lookup (eq k) slots)
  found [] d = refl
  found (slot ∷ slots) d = by (eq k slot.0) refl (found slots (IsDistinct-tail eq slot.0 (keys_of slots) d))
    where
      by : (b : Bool) → eq k slot.0 ≡ b → lookup (eq k) (live slots) ≡ joined (lookup (eq k) slots) → lookup (eq k) (live (slot ∷ slots)) ≡ joined (lookup (eq k) (slot ∷ slots))
      by true e rest = rw e (here_found slot.0 slot.1 (live slots) e (later_absent slot slots d e).0)
      by false e rest = rw e (other_found slot.0 slot.1 (live slots) e ∙ rest)

  -- and a gap is its removal
  pub removed : (slots : List (K × Option V)) → IsDistinct eq (keys_of slots) → live (set_value (eq k) slots None) ≡ remove_entry (eq k) (live slots)
  removed [] d = refl
  removed (slot ∷ slots) d = by (eq k slot.0) refl (removed slots (IsDistinct-tail eq slot.0 (keys_of slots) d))
    where
      by : (b : Bool) → eq k slot.0 ≡ b → live (set_value (eq k) slots None) ≡ remove_entry (eq k) (live slots)
          → live (set_value (eq k) (slot ∷ slots) None) ≡ remove_entry (eq k) (live (slot ∷ slots))
      by true e rest = rw e (sym (here_removed slot.0 slot.1 (live slots) e (later_absent slot slots d e).1))
      by false e rest = rw e (ap (put_slot slot.0 slot.1) rest ∙ sym (other_removed slot.0 slot.1 (live slots) e))

  -- the entries with one removed are one fewer where it is there
  pub removed_count : (es : List (K × V)) → length (remove_entry (eq k) es) + bool_byte (is_some (lookup (eq k) es)) ≡ length es
  removed_count [] = refl
  removed_count (e ∷ es) = by (eq k e.0) refl (removed_count es)
    where
      by : (b : Bool) → eq k e.0 ≡ b → length (remove_entry (eq k) es) + bool_byte (is_some (lookup (eq k) es)) ≡ length es
          → length (remove_entry (eq k) (e ∷ es)) + bool_byte (is_some (lookup (eq k) (e ∷ es))) ≡ length (e ∷ es)
      by true p rest = rw p (omega arith)
      by false p rest = rw p (omega (arith, rest))

  -- taking a gap away leaves the values
  pub gap_removed : (slots : List (K × Option V)) → joined (lookup (eq k) slots) ≡ None → live (remove_entry (eq k) slots) ≡ live slots
  gap_removed [] l = refl
  gap_removed (slot ∷ slots) l = by (eq k slot.0) refl (gap_removed slots)
    where
      by : (b : Bool) → eq k slot.0 ≡ b → (joined (lookup (eq k) slots) ≡ None → live (remove_entry (eq k) slots) ≡ live slots)
          → live (remove_entry (eq k) (slot ∷ slots)) ≡ live (slot ∷ slots)
      by true e rest = let l' = rw e at l in rw (e, l') refl
      by false e rest = let l' = rw e at l in rw e (ap (put_slot slot.0 slot.1) (rest l'))

  pub gap_gone : (old between : List (K × Option V)) (count : ℕ) → AreSlots eq old count → lookup (eq k) (live old) ≡ None → between ≡ remove_entry (eq k) old
      → live between ≡ live old
  gap_gone old between count a none e = ap live e ∙ gap_removed old (sym (found old a.unique) ∙ none)

  -- where no slot is found, none is set
  pub none_set : (slots : List (K × Option V)) (w : Option V) → lookup (eq k) slots ≡ None → set_value (eq k) slots w ≡ slots
  none_set [] w l = refl
  none_set (slot ∷ slots) w l = by (eq k slot.0) refl (none_set slots w)
    where
      by : (b : Bool) → eq k slot.0 ≡ b → (lookup (eq k) slots ≡ None → set_value (eq k) slots w ≡ slots) → set_value (eq k) (slot ∷ slots) w ≡ slot ∷ slots
      by true e rest = let l' = rw e at l in cc
      by false e rest = let l' = rw e at l in rw e (ap (λ more. slot ∷ more) (rest l'))

  -- a slot that is emptied: its value goes
  pub emptied : (old new : List (K × Option V)) (count : ℕ) (v : Option V) → AreSlots eq old count → v ≡ joined (lookup (eq k) old)
      → new ≡ set_value (eq k) old None
      → (bool_byte (is_some v) ≤ count) × AreSlots eq new (count - bool_byte (is_some v)) × (v ≡ lookup (eq k) (live old)) × (live new ≡ remove_entry (eq k) (live old))
  emptied old new count v a is e =
      let value : v ≡ lookup (eq k) (live old) = is ∙ sym (found old a.unique) in
      let view : live new ≡ remove_entry (eq k) (live old) = ap live e ∙ removed old a.unique in
      let fewer : length (live new) + bool_byte (is_some v) ≡ count =
      ap (λ es. length es + bool_byte (is_some v)) view ∙ ap (λ w. length (remove_entry (eq k) (live old)) + bool_byte (is_some w)) value ∙ removed_count (live old) ∙ a.counted in (
        omega (arith, fewer),
        record {
          unique = subst (IsDistinct eq) (sym (ap keys_of e ∙ keys-set_value (eq k) old None)) a.unique;
          counted = omega (arith, fewer);
        },
        value,
        view,
      )

module _ {K V : Type 0} {eq : K → K → Bool} (laws : IsEquivalence eq) (k : K) where
  pub written : (slots : List (K × Option V)) (v w : V) → lookup (eq k) slots ≡ Some (Some v) → live (set_value (eq k) slots (Some w)) ≡ set_value (eq k) (live slots) w
  written [] v w l = cc
  written (slot ∷ slots) v w l = by (eq k slot.0) refl (written slots v w)
    where
      here : (u : Option V) → eq k slot.0 ≡ true → u ≡ Some v → (slot.0, w) ∷ live slots ≡ set_value (eq k) (put_slot slot.0 u (live slots)) w
      here None e i = cc
      here (Some u) e i = rw e refl

      past : (u : Option V) (rest : List (K × V)) → eq k slot.0 ≡ false → put_slot slot.0 u (set_value (eq k) rest w) ≡ set_value (eq k) (put_slot slot.0 u rest) w
      past None rest e = refl
      past (Some u) rest e = rw e refl

      by : (b : Bool) → eq k slot.0 ≡ b → (lookup (eq k) slots ≡ Some (Some v) → live (set_value (eq k) slots (Some w)) ≡ set_value (eq k) (live slots) w)
          → live (set_value (eq k) (slot ∷ slots) (Some w)) ≡ set_value (eq k) (live (slot ∷ slots)) w
      by true e rest = let is : slot.1 ≡ Some v = (let m = rw e at l in cc) in rw e (here slot.1 e is)
      by false e rest = let l' = rw e at l in rw e (ap (put_slot slot.0 slot.1) (rest l') ∙ past slot.1 (live slots) e)

  -- a slot's value set to what it is
  pub same_set : (slots : List (K × Option V)) (v : Option V) → lookup (eq k) slots ≡ Some v → set_value (eq k) slots v ≡ slots
  same_set [] v l = refl
  same_set (slot ∷ slots) v l = by (eq k slot.0) refl (same_set slots v)
    where
      by : (b : Bool) → eq k slot.0 ≡ b → (lookup (eq k) slots ≡ Some v → set_value (eq k) slots v ≡ slots) → set_value (eq k) (slot ∷ slots) v ≡ slot ∷ slots
      by true e rest = let is : slot.1 ≡ v = (let m = rw e at l in cc) in rw e (ap (λ u. (slot.0, u) ∷ slots) (sym is))
      by false e rest = let l' = rw e at l in rw e (ap (λ more. slot ∷ more) (rest l'))

-- the slots after a change of one value, which answers r
pub record IsUpdated {K V R : Type 0} (eq : K → K → Bool) (k : K) (P : V → R → V → Type 0) (old new : List (K × Option V)) (count : ℕ) (r : Option R) : Type 0 where
  pub slots : AreSlots eq new count
  pub there : (value : V) → lookup (eq k) (live old) ≡ Some value → IfSome r (λ answer. (x : V) × P value answer x × (live new ≡ set_value (eq k) (live old) x))
  pub some : is_some r ≡ is_some (lookup (eq k) (live old))
  pub none : IfNone r (live new ≡ live old)

module _ {K V R : Type 0} {eq : K → K → Bool} (laws : IsEquivalence eq) (k : K) (P : V → R → V → Type 0) where
  pub updated : (old new : List (K × Option V)) (count : ℕ) (v w : Option V) (r : Option R) → AreSlots eq old count → lookup (eq k) old ≡ Some v → new ≡ set_value (eq k) old w
      → ((value : V) → v ≡ Some value → IfSome r (λ answer. (x : V) × P value answer x × (w ≡ Some x))) → is_some r ≡ is_some v → IfNone r (w ≡ v)
      → IsUpdated eq k P old new count r
  updated old new count None w None a l e there some none =
      let same : new ≡ old = e ∙ ap (set_value (eq k) old) none ∙ same_set laws k old None l in
      let gone : lookup (eq k) (live old) ≡ None = found laws k old a.unique ∙ ap joined l in
      record { slots = subst (λ s. AreSlots eq s count) (sym same) a; there = λ value h. tt; some = sym (ap is_some gone); none = ap live same }
  updated old new count None w (Some r) a l e there some none = absurd (let s = some in cc)
  updated old new count (Some v) w None a l e there some none = absurd (let s = some in cc)
  updated old new count (Some v) w (Some r) a l e there some none =
      let t = there v refl in
      let set : new ≡ set_value (eq k) old (Some t.0) = e ∙ ap (set_value (eq k) old) t.2 in
      let view : live new ≡ set_value (eq k) (live old) t.0 = ap live set ∙ written laws k old v t.0 l in
      let hit : lookup (eq k) (live old) ≡ Some v = found laws k old a.unique ∙ ap joined l in
      record {
        slots = record {
          unique = subst (IsDistinct eq) (sym (ap keys_of e ∙ keys-set_value (eq k) old w)) a.unique;
          counted = ap length view ∙ length-set_value (eq k) (live old) t.0 ∙ a.counted;
        };
        there = λ value h. (let i : v ≡ value = (let m = sym hit ∙ h in cc) in (t.0, subst (λ u. P u r t.0) i t.1, view));
        some = sym (ap is_some hit);
        none = tt;
      }

  pub unknown : (old new : List (K × Option V)) (count : ℕ) → AreSlots eq old count → lookup (eq k) old ≡ None → new ≡ old → IsUpdated eq k P old new count None
  unknown old new count a l e =
      let gone : lookup (eq k) (live old) ≡ None = found laws k old a.unique ∙ ap joined l in
      record { slots = subst (λ s. AreSlots eq s count) (sym e) a; there = λ value h. tt; some = sym (ap is_some gone); none = ap live e }

module _ {K V : Type 0} where
  pub live_end : (slots : List (K × Option V)) (key : K) (value : V) → live (slots ++ (key, Some value) ∷ []) ≡ live slots ++ (key, value) ∷ []
  live_end [] key value = refl
  live_end ((one, None) ∷ slots) key value = live_end slots key value
  live_end ((one, Some v) ∷ slots) key value = ap (λ es. (one, v) ∷ es) (live_end slots key value)

  -- the slots without the gaps
  abbrev pub closed : List (K × Option V) → List (K × Option V)
  closed slots = filter (λ slot. is_some slot.1) slots

  pub closed_live : (slots : List (K × Option V)) → live (closed slots) ≡ live slots
  closed_live [] = refl
  closed_live ((key, None) ∷ slots) = closed_live slots
  closed_live ((key, Some v) ∷ slots) = ap (λ es. (key, v) ∷ es) (closed_live slots)

  pub length_end : (es : List (K × V)) (e : K × V) → length (es ++ e ∷ []) ≡ length es + 1
  length_end [] e = refl
  length_end (one ∷ es) e = omega (arith, length_end es e)

-- the keys of the values are as far apart as those of the slots
module _ {K V : Type 0} where
  all_live : (P : K → Type 0) (slots : List (K × Option V)) → AllByRecursion P (keys_of slots) → AllByRecursion P (keys_of (live slots))
  all_live P [] a = tt
  all_live P ((key, None) ∷ slots) a = all_live P slots a.1
  all_live P ((key, Some v) ∷ slots) a = (a.0, all_live P slots a.1)

  pub live_unique : (eq : K → K → Bool) (slots : List (K × Option V)) → IsDistinct eq (keys_of slots) → IsDistinct eq (keys_of (live slots))
  live_unique eq [] d = d
  live_unique eq ((key, None) ∷ slots) d = live_unique eq slots (IsDistinct-tail eq key (keys_of slots) d)
  live_unique eq ((key, Some v) ∷ slots) d =
      IsDistinct-cons eq key (keys_of (live slots)) (all_live (λ y. eq key y ≡ false) slots (IsDistinct-head eq key (keys_of slots) d))
      (live_unique eq slots (IsDistinct-tail eq key (keys_of slots) d))

  -- no more values than slots
  fewer : (slots : List (K × Option V)) → length (live slots) ≤ length slots
  fewer [] = omega arith
  fewer ((key, None) ∷ slots) = omega (arith, fewer slots)
  fewer ((key, Some v) ∷ slots) = omega (arith, fewer slots)

  -- where no slot is a gap, the value at a place is the slot's
  pub full_place : (slots : List (K × Option V)) (place : ℕ) → length (live slots) ≡ length slots → slice_get (values_of (live slots)) place ≡ value_at slots place
  full_place [] place n = refl
  full_place ((key, None) ∷ slots) place n = absurd (omega (arith, n, fewer slots))
  full_place ((key, Some v) ∷ slots) zero n = refl
  full_place ((key, Some v) ∷ slots) (suc place) n = full_place slots place (omega (arith, n))

  -- what is left at a value, and at a gap
  pub at_value : (slots : List (K × Option V)) (i : ℕ) (v : V) → value_at slots i ≡ Some v → values_of (live (drop i slots)) ≡ v ∷ values_of (live (drop (suc i) slots))
  at_value [] i v e = cc
  at_value ((key, None) ∷ slots) zero v e = cc
  at_value ((key, Some w) ∷ slots) zero v e = let same : w ≡ v = cc in ap (λ x. x ∷ values_of (live slots)) same
  at_value (slot ∷ slots) (suc i) v e = at_value slots i v e

  pub at_gap : (slots : List (K × Option V)) (i : ℕ) → value_at slots i ≡ None → values_of (live (drop i slots)) ≡ values_of (live (drop (suc i) slots))
  at_gap [] zero e = refl
  at_gap [] (suc i) e = refl
  at_gap ((key, None) ∷ slots) zero e = refl
  at_gap ((key, Some w) ∷ slots) zero e = cc
  at_gap (slot ∷ slots) (suc i) e = at_gap slots i e

pub next_place : {V : Type 0} (x : V) (xs : List V) (n : ℕ) → 1 ≤ n → slice_get (x ∷ xs) n ≡ slice_get xs (n - 1)
next_place x xs zero h = absurd (omega (arith, h))
next_place x xs (suc n) h = let e : suc n - 1 ≡ n = omega arith in rw e refl

-- what holds, holds where there is an error
pub on_err : {X E : Type 0} {P : Type 0} (r : Result X E) → P → OnErr r P
on_err (Ok x) p = tt
on_err (Err e) p = p

-- a test of the keys of a slot and of those behind it
module _ {K V : Type 0} (p : K → Bool) (key : K) where
  pub passes_here : (slot : Option V) (rest : List (K × Option V)) → is_some slot ≡ true → p key ≡ true → list_any p (keys_of (live ((key, slot) ∷ rest))) ≡ true
  passes_here None rest e h = cc
  passes_here (Some value) rest e h = rw h refl

  pub passes_later : (slot : Option V) (rest : List (K × Option V)) → p key ≡ false → list_any p (keys_of (live ((key, slot) ∷ rest))) ≡ list_any p (keys_of (live rest))
  passes_later None rest h = refl
  passes_later (Some value) rest h = rw h refl

  pub no_value_here : (slot : Option V) (rest : List (K × Option V)) → is_some slot ≡ false → list_any p (keys_of (live ((key, slot) ∷ rest))) ≡ list_any p (keys_of (live rest))
  no_value_here None rest e = refl
  no_value_here (Some value) rest e = cc
