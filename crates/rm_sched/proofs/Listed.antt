-- Lists of endings that are made and then set leave the rows as if each ending had been told to its row at once.
use Rattle.std.proofs.Common.{◌≡◌, Bool, true, false, List, [], ◌∷◌, ◌++◌, Option, None, Some, option_map, refl, sym, ap, ◌∙◌, arith}
use Rattle.std.proofs.lemmas.Bool.Decides.{nat_tests}
use Rattle.std.specs.Map.{lookup, set_value}
use Rattle.rm_types.specs.declared.containers.ClosingOf.{ClosingOf}
use Rattle.rm_types.specs.declared.ids.AppId.{AppId}
use Rattle.rm_types.specs.Ids.{is_app}
use Rattle.rm_types.proofs.IdLemmas.{same_app}
use Rattle.rm_tables.specs.declared.rows.AppRow.{AppRow}
use Rattle.rm_tables.specs.Leaving.{closed, closed_one, telling}
use Rattle.rm_tables.specs.Rows.{row_in, row_of, slot_of, with_row, with_slot}
use Rattle.rm_tables.proofs.Stays.{unknown_stays}
use Rattle.rm_sched.specs.ClosingLists.{has_list, with_closing, with_lists}

abbrev Slots : Type 0
Slots = List (AppId × Option AppRow)

abbrev Lists : Type 0
Lists = List (AppId × List ClosingOf)

not_both : (a b x : AppId) → is_app a b ≡ false → is_app a x ≡ true → is_app b x ≡ false
not_both a b x e f = grind (arith, nat_tests)

-- a change of an application changes its slot
step_here : (f : AppRow → AppRow) (id : AppId) (one : AppId × Option AppRow) (rows : Slots) → is_app id one.0 ≡ true → with_row f id (one ∷ rows) ≡ (one.0, option_map f one.1) ∷ rows
step_here f id one rows e = rw e (rw e refl)

-- and goes past the slots of others
step_past : (f : AppRow → AppRow) (id : AppId) (one : AppId × Option AppRow) (rows : Slots) → is_app id one.0 ≡ false → with_row f id (one ∷ rows) ≡ one ∷ with_row f id rows
step_past f id one rows e = rw e (by (slot_of rows id))
  where
    by : (slot : Option (Option AppRow)) → with_slot f id (one ∷ rows) slot ≡ one ∷ with_slot f id rows slot
    by None = refl
    by (Some slot) = rw e refl

-- changes of two applications pass each other
changes_pass : (f g : AppRow → AppRow) (a b : AppId) (rows : Slots) → is_app a b ≡ false → with_row f a (with_row g b rows) ≡ with_row g b (with_row f a rows)
changes_pass f g a b [] e = refl
changes_pass f g a b (x ∷ rows) e = by (is_app a x.0) (is_app b x.0) refl refl (changes_pass f g a b rows e)
  where
    by : (p q : Bool) → is_app a x.0 ≡ p → is_app b x.0 ≡ q → with_row f a (with_row g b rows) ≡ with_row g b (with_row f a rows)
        → with_row f a (with_row g b (x ∷ rows)) ≡ with_row g b (with_row f a (x ∷ rows))
    by true true p q rest = let h = not_both a b x.0 e p in cc
    by true false p q rest =
        ap (with_row f a) (step_past g b x rows q) ∙ step_here f a x (with_row g b rows) p
        ∙ sym (ap (with_row g b) (step_here f a x rows p) ∙ step_past g b (x.0, option_map f x.1) rows q)
    by false true p q rest =
        ap (with_row f a) (step_here g b x rows q) ∙ step_past f a (x.0, option_map g x.1) rows p
        ∙ sym (ap (with_row g b) (step_past f a x rows p) ∙ step_here g b x (with_row f a rows) q)
    by false false p q rest =
        ap (with_row f a) (step_past g b x rows q) ∙ step_past f a x (with_row g b rows) p ∙ ap (λ l. x ∷ l) rest
        ∙ sym (ap (with_row g b) (step_past f a x rows p) ∙ step_past g b x (with_row f a rows) q)

-- two changes of one are one change
changes_join : (f g : AppRow → AppRow) (id : AppId) (rows : Slots) → with_row g id (with_row f id rows) ≡ with_row (λ row. g (f row)) id rows
changes_join f g id [] = refl
changes_join f g id (x ∷ rows) = by (is_app id x.0) refl (changes_join f g id rows)
  where
    join : (slot : Option AppRow) → option_map g (option_map f slot) ≡ option_map (λ row. g (f row)) slot
    join None = refl
    join (Some row) = refl

    by : (p : Bool) → is_app id x.0 ≡ p → with_row g id (with_row f id rows) ≡ with_row (λ row. g (f row)) id rows
        → with_row g id (with_row f id (x ∷ rows)) ≡ with_row (λ row. g (f row)) id (x ∷ rows)
    by true p rest =
        ap (with_row g id) (step_here f id x rows p) ∙ step_here g id (x.0, option_map f x.1) rows p ∙ ap (λ slot. (x.0, slot) ∷ rows) (join x.1)
        ∙ sym (step_here (λ row. g (f row)) id x rows p)
    by false p rest =
        ap (with_row g id) (step_past f id x rows p) ∙ step_past g id x (with_row f id rows) p ∙ ap (λ l. x ∷ l) rest ∙ sym (step_past (λ row. g (f row)) id x rows p)

-- changes that do the same to a row
changes_alike : (f g : AppRow → AppRow) (id : AppId) (rows : Slots) (row : AppRow) → row_of rows id ≡ Some row → f row ≡ g row → with_row f id rows ≡ with_row g id rows
changes_alike f g id rows row found same = by (slot_of rows id) found
  where
    by : (slot : Option (Option AppRow)) → row_in slot ≡ Some row → with_slot f id rows slot ≡ with_slot g id rows slot
    by None is = cc
    by (Some None) is = cc
    by (Some (Some one)) is =
        let own : one ≡ row = cc in
        let at : f one ≡ g one = rw own same in
        rw at refl

-- an ending of an application that has a list
ending_here : (c : ClosingOf) (lists : Lists) (rows : Slots) (v : List ClosingOf) → lookup (is_app c.attempt.app) lists ≡ Some v → with_lists (with_closing lists c) rows ≡ closed_one (with_lists lists rows) c
ending_here c [] rows v l = cc
ending_here c (x ∷ lists) rows v l = by (is_app c.attempt.app x.0) refl (ending_here c lists rows v)
  where
    by : (b : Bool) → is_app c.attempt.app x.0 ≡ b → (lookup (is_app c.attempt.app) lists ≡ Some v → with_lists (with_closing lists c) rows ≡ closed_one (with_lists lists rows) c)
        → with_lists (with_closing (x ∷ lists) c) rows ≡ closed_one (with_lists (x ∷ lists) rows) c
    by true e rest =
        let own = same_app c.attempt.app x.0 e in
        let join = changes_join (telling x.1) (closed c) x.0 (with_lists lists rows) in
        rw e (sym (ap (λ id. with_row (closed c) id (with_row (telling x.1) x.0 (with_lists lists rows))) own ∙ join))
    by false e rest =
        let l' = rw e at l in
        rw e (ap (with_row (telling x.1) x.0) (rest l') ∙ sym (changes_pass (closed c) (telling x.1) c.attempt.app x.0 (with_lists lists rows) e))

-- and of one that has none
ending_past : (c : ClosingOf) (lists : Lists) (rows : Slots) → lookup (is_app c.attempt.app) lists ≡ None → with_lists lists (closed_one rows c) ≡ closed_one (with_lists lists rows) c
ending_past c [] rows l = refl
ending_past c (x ∷ lists) rows l = by (is_app c.attempt.app x.0) refl (ending_past c lists rows)
  where
    by : (b : Bool) → is_app c.attempt.app x.0 ≡ b → (lookup (is_app c.attempt.app) lists ≡ None → with_lists lists (closed_one rows c) ≡ closed_one (with_lists lists rows) c)
        → with_lists (x ∷ lists) (closed_one rows c) ≡ closed_one (with_lists (x ∷ lists) rows) c
    by true e rest = let l' = rw e at l in cc
    by false e rest =
        let l' = rw e at l in
        ap (with_row (telling x.1) x.0) (rest l') ∙ sym (changes_pass (closed c) (telling x.1) c.attempt.app x.0 (with_lists lists rows) e)

-- where an application has a list, its ending is the last there
pub ending_found : (c : ClosingOf) (v : List ClosingOf) (lists : Lists) → lookup (is_app c.attempt.app) lists ≡ Some v → with_closing lists c ≡ set_value (is_app c.attempt.app) lists (v ++ c ∷ [])
ending_found c v [] l = cc
ending_found c v (x ∷ lists) l = by (is_app c.attempt.app x.0) refl (ending_found c v lists)
  where
    by : (b : Bool) → is_app c.attempt.app x.0 ≡ b → (lookup (is_app c.attempt.app) lists ≡ Some v → with_closing lists c ≡ set_value (is_app c.attempt.app) lists (v ++ c ∷ []))
        → with_closing (x ∷ lists) c ≡ set_value (is_app c.attempt.app) (x ∷ lists) (v ++ c ∷ [])
    by true e rest = let l' : x.1 ≡ v = (let m = rw e at l in cc) in rw e (ap (λ w. (x.0, w ++ c ∷ []) ∷ lists) l')
    by false e rest = let l' = rw e at l in rw e (ap (λ more. x ∷ more) (rest l'))

-- where it has none, the lists stay
pub ending_none : (c : ClosingOf) (lists : Lists) → lookup (is_app c.attempt.app) lists ≡ None → with_closing lists c ≡ lists
ending_none c [] l = refl
ending_none c (x ∷ lists) l = by (is_app c.attempt.app x.0) refl (ending_none c lists)
  where
    by : (b : Bool) → is_app c.attempt.app x.0 ≡ b → (lookup (is_app c.attempt.app) lists ≡ None → with_closing lists c ≡ lists) → with_closing (x ∷ lists) c ≡ x ∷ lists
    by true e rest = let l' = rw e at l in cc
    by false e rest = let l' = rw e at l in rw e (ap (λ more. x ∷ more) (rest l'))

-- one more list at the end is set first
pub lists_end : (lists : Lists) (rows : Slots) (id : AppId) (v : List ClosingOf) → with_lists (lists ++ (id, v) ∷ []) rows ≡ with_lists lists (with_row (telling v) id rows)
lists_end [] rows id v = refl
lists_end (x ∷ lists) rows id v = ap (with_row (telling x.1) x.0) (lists_end lists rows id v)

pub ending_there : (c : ClosingOf) (lists : Lists) (rows : Slots) → has_list c.attempt.app lists ≡ true → with_lists (with_closing lists c) rows ≡ closed_one (with_lists lists rows) c
ending_there c lists rows t = by (lookup (is_app c.attempt.app) lists) refl
  where
    by : (o : Option (List ClosingOf)) → lookup (is_app c.attempt.app) lists ≡ o → with_lists (with_closing lists c) rows ≡ closed_one (with_lists lists rows) c
    by None e = let t' = rw e at t in cc
    by (Some v) e = ending_here c lists rows v e

-- an ending of an application that the life doesn't know
pub ending_unknown : (c : ClosingOf) (lists : Lists) (rows : Slots) → lookup (is_app c.attempt.app) lists ≡ None → row_of rows c.attempt.app ≡ None → with_lists lists rows ≡ closed_one (with_lists lists rows) c
ending_unknown c lists rows none l = ap (with_lists lists) (sym (unknown_stays (closed c) c.attempt.app rows l)) ∙ ending_past c lists rows none

-- and of one that gets its list now
pub ending_first : (c : ClosingOf) (lists new : Lists) (rows : Slots) (row : AppRow) → lookup (is_app c.attempt.app) lists ≡ None → row_of rows c.attempt.app ≡ Some row
    → new ≡ lists ++ (c.attempt.app, row.closings ++ c ∷ []) ∷ [] → with_lists new rows ≡ closed_one (with_lists lists rows) c
ending_first c lists new rows row none found e =
    let alike = changes_alike (telling (row.closings ++ c ∷ [])) (closed c) c.attempt.app rows row found refl in
    ap (λ (l : Lists). with_lists l rows) e ∙ lists_end lists rows c.attempt.app (row.closings ++ c ∷ []) ∙ ap (with_lists lists) alike ∙ ending_past c lists rows none
