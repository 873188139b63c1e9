-- A row of an application that changes is found changed, one that is put is found, and each other as it was.
use Rattle.std.proofs.Common.{◌≡◌, ◌⊎◌, inl, inr, List, [], ◌∷◌, ◌++◌, Bool, true, false, Option, None, Some, refl, sym, ◌∙◌, ap, subst, arith}
use Rattle.std.specs.Prelude.{option_map}
use Rattle.std.specs.Map.{lookup, set_value}
use Rattle.std.proofs.lemmas.Bool.Decides.{nat_tests}
use Rattle.rm_types.specs.declared.ids.AppId.{AppId}
use Rattle.rm_types.specs.Ids.{is_app}
use Rattle.rm_types.proofs.IdLemmas.{app_itself, same_app}
use Rattle.rm_tables.specs.declared.rows.AppRow.{AppRow}
use Rattle.rm_tables.specs.Rows.{is_empty_slot, is_retired, row_in, row_of, slot_of, with_row, with_slot}

own_set : (id : AppId) (rows : List (AppId × Option AppRow)) (v w : Option AppRow) → lookup (is_app id) rows ≡ Some v → lookup (is_app id) (set_value (is_app id) rows w) ≡ Some w
own_set id [] v w found = cc
own_set id (one ∷ rows) v w found = by (is_app id one.0) refl (λ f. own_set id rows v w f)
  where
    by : (b : Bool) → is_app id one.0 ≡ b → (lookup (is_app id) rows ≡ Some v → lookup (is_app id) (set_value (is_app id) rows w) ≡ Some w)
        → lookup (is_app id) (set_value (is_app id) (one ∷ rows) w) ≡ Some w
    by true e rest = rw (e, e) refl
    by false e rest = rw (e, e) (rest (rw e at found))

other_set : (id q : AppId) (rows : List (AppId × Option AppRow)) (w : Option AppRow) → is_app id q ≡ false → lookup (is_app q) (set_value (is_app id) rows w) ≡ lookup (is_app q) rows
other_set id q [] w apart = refl
other_set id q (one ∷ rows) w apart = by (is_app id one.0) (is_app q one.0) refl refl (other_set id q rows w apart)
  where
    by : (b c : Bool) → is_app id one.0 ≡ b → is_app q one.0 ≡ c → lookup (is_app q) (set_value (is_app id) rows w) ≡ lookup (is_app q) rows
        → lookup (is_app q) (set_value (is_app id) (one ∷ rows) w) ≡ lookup (is_app q) (one ∷ rows)
    by true true e f rest = absurd (both one.0 e f)
      where
        both : (a : AppId) → is_app id a ≡ true → is_app q a ≡ true → ⊥
        both a g h = let same : is_app id q ≡ true = grind (arith, nat_tests) in cc
    by true false e f rest = rw (e, f) refl
    by false true e f rest = rw (e, f) refl
    by false false e f rest = rw (e, f) rest

pub own_row : (f : AppRow → AppRow) (id : AppId) (rows : List (AppId × Option AppRow)) → row_of (with_row f id rows) id ≡ option_map f (row_of rows id)
own_row f id rows = by (slot_of rows id) refl
  where
    by : (o : Option (Option AppRow)) → slot_of rows id ≡ o → row_of (with_slot f id rows o) id ≡ option_map f (row_in o)
    by None e = rw e refl
    by (Some slot) e = ap row_in (own_set id rows slot (option_map f slot) e)

pub other_row : (f : AppRow → AppRow) (id q : AppId) (rows : List (AppId × Option AppRow)) → is_app id q ≡ false → row_of (with_row f id rows) q ≡ row_of rows q
other_row f id q rows apart = by (slot_of rows id)
  where
    by : (o : Option (Option AppRow)) → row_of (with_slot f id rows o) q ≡ row_of rows q
    by None = refl
    by (Some slot) = ap row_in (other_set id q rows (option_map f slot) apart)

-- either way
pub row_either : (f : AppRow → AppRow) (id q : AppId) (rows : List (AppId × Option AppRow)) → (row_of (with_row f id rows) q ≡ row_of rows q) ⊎ (row_of (with_row f id rows) q ≡ option_map f (row_of rows q))
row_either f id q rows = by (is_app id q) refl
  where
    by : (b : Bool) → is_app id q ≡ b → (row_of (with_row f id rows) q ≡ row_of rows q) ⊎ (row_of (with_row f id rows) q ≡ option_map f (row_of rows q))
    by false e = inl (other_row f id q rows e)
    by true e = inr (subst (λ (z : AppId). row_of (with_row f id rows) z ≡ option_map f (row_of rows z)) (same_app id q e) (own_row f id rows))

-- by a change of a row none is retired, and none is not
pub retired_changed : (f : AppRow → AppRow) (id q : AppId) (rows : List (AppId × Option AppRow)) → is_retired (with_row f id rows) q ≡ is_retired rows q
retired_changed f id q rows = by (slot_of rows id) refl
  where
    still : (slot : Option AppRow) → is_empty_slot (Some (option_map f slot)) ≡ is_empty_slot (Some slot)
    still None = refl
    still (Some row) = refl

    set_at : (slot : Option AppRow) → slot_of rows id ≡ Some slot → (b : Bool) → is_app id q ≡ b → is_empty_slot (slot_of (set_value (is_app id) rows (option_map f slot)) q) ≡ is_empty_slot (slot_of rows q)
    set_at slot found false e = ap is_empty_slot (other_set id q rows (option_map f slot) e)
    set_at slot found true e =
        subst (λ (z : AppId). is_empty_slot (slot_of (set_value (is_app id) rows (option_map f slot)) z) ≡ is_empty_slot (slot_of rows z)) (same_app id q e)
        (ap is_empty_slot (own_set id rows slot (option_map f slot) found) ∙ still slot ∙ sym (ap is_empty_slot found))

    by : (o : Option (Option AppRow)) → slot_of rows id ≡ o → is_retired (with_slot f id rows o) q ≡ is_retired rows q
    by None found = refl
    by (Some slot) found = set_at slot found (is_app id q) refl

-- A ROW THAT IS PUT

apart_too : (a b : AppId) → is_app a b ≡ false → is_app b a ≡ false
apart_too a b h = grind (arith, nat_tests)

-- an application without a row that isn't retired has no slot
no_slot : (id : AppId) (rows : List (AppId × Option AppRow)) → row_of rows id ≡ None → is_retired rows id ≡ false → slot_of rows id ≡ None
no_slot id rows none fresh = by (slot_of rows id) none fresh
  where
    by : (o : Option (Option AppRow)) → row_in o ≡ None → is_empty_slot o ≡ false → o ≡ None
    by None a b = refl
    by (Some None) a b = cc
    by (Some (Some row)) a b = cc

own_slot : (id : AppId) (slot : Option AppRow) (rows : List (AppId × Option AppRow)) → slot_of rows id ≡ None → slot_of (rows ++ (id, slot) ∷ []) id ≡ Some slot
own_slot id slot [] none = rw (app_itself id) refl
own_slot id slot (one ∷ rows) none = by (is_app id one.0) refl (own_slot id slot rows)
  where
    by : (b : Bool) → is_app id one.0 ≡ b → (slot_of rows id ≡ None → slot_of (rows ++ (id, slot) ∷ []) id ≡ Some slot) → slot_of (one ∷ (rows ++ (id, slot) ∷ [])) id ≡ Some slot
    by true e rest = let h : Some one.1 ≡ None = rw e at none in cc
    by false e rest = rw e (rest (rw e at none))

other_slot : (id q : AppId) (slot : Option AppRow) (rows : List (AppId × Option AppRow)) → is_app id q ≡ false → slot_of (rows ++ (id, slot) ∷ []) q ≡ slot_of rows q
other_slot id q slot [] apart = rw (apart_too id q apart) refl
other_slot id q slot (one ∷ rows) apart = by (is_app q one.0) refl (other_slot id q slot rows apart)
  where
    by : (b : Bool) → is_app q one.0 ≡ b → slot_of (rows ++ (id, slot) ∷ []) q ≡ slot_of rows q → slot_of (one ∷ (rows ++ (id, slot) ∷ [])) q ≡ slot_of (one ∷ rows) q
    by true e rest = rw e refl
    by false e rest = rw e rest

pub own_put : (id : AppId) (row : AppRow) (rows : List (AppId × Option AppRow)) → row_of rows id ≡ None → is_retired rows id ≡ false → row_of (rows ++ (id, Some row) ∷ []) id ≡ Some row
own_put id row rows none fresh = ap row_in (own_slot id (Some row) rows (no_slot id rows none fresh))

pub other_put : (id q : AppId) (row : AppRow) (rows : List (AppId × Option AppRow)) → is_app id q ≡ false → row_of (rows ++ (id, Some row) ∷ []) q ≡ row_of rows q
other_put id q row rows apart = ap row_in (other_slot id q (Some row) rows apart)

-- by a row that is put none is retired, and none is not
pub retired_put : (id q : AppId) (row : AppRow) (rows : List (AppId × Option AppRow)) → row_of rows id ≡ None → is_retired rows id ≡ false → is_retired (rows ++ (id, Some row) ∷ []) q ≡ is_retired rows q
retired_put id q row rows none fresh = by (is_app id q) refl
  where
    by : (b : Bool) → is_app id q ≡ b → is_retired (rows ++ (id, Some row) ∷ []) q ≡ is_retired rows q
    by false e = ap is_empty_slot (other_slot id q (Some row) rows e)
    by true e =
        subst (λ (z : AppId). is_retired (rows ++ (id, Some row) ∷ []) z ≡ is_retired rows z) (same_app id q e)
        (ap is_empty_slot (own_slot id (Some row) rows (no_slot id rows none fresh)) ∙ sym fresh)
