-- The rows know which attempts were kept when the life began: whatever changes a row and not that number keeps it.
use Rattle.rm_invariant.proofs.Common.{◌≡◌, ℕ, nat_le, List, Bool, true, false, ◌&&◌, Option, None, Some, refl, sym, ◌∙◌, ap, subst, AppId, is_app, Records, attempt_was_first, Scene, AppRow, Tables, was_first, row_of, with_row, History, abstract_scene}
use Rattle.std.proofs.Common.{nat_lt}
use Rattle.rm_invariant.specs.apps.View.{changed_if}
use Rattle.rm_invariant.proofs.apps.Found.{row_changed}
use Rattle.rm_invariant.specs.events.Here.{FirstsKnown}

-- a change of a row that leaves how many attempts were kept when the life began
abbrev pub KeepsFirst : (AppRow → AppRow) → Type 0
KeepsFirst f = (row : AppRow) → (f row).first ≡ row.first

-- the row of an application changes
pub firsts_with : (m : Scene) (f : AppRow → AppRow) (id : AppId) (rows : List (AppId × Option AppRow)) → KeepsFirst f → FirstsKnown m rows → FirstsKnown m (with_row f id rows)
firsts_with m f id rows keeps before q row found = by (is_app id q.app) (row_of rows q.app) refl (sym (row_changed f id q.app rows) ∙ found)
  where
    by : (b : Bool) (o : Option AppRow) → row_of rows q.app ≡ o → changed_if b f o ≡ Some row → attempt_was_first m q ≡ was_first q (Some row)
    by true None e is = cc
    by true (Some one) e is =
        let same : f one ≡ row = cc in
        let first : one.first ≡ row.first = sym (keeps one) ∙ ap (λ (r : AppRow). r.first) same in
        before q one e ∙ ap (λ (n : ℕ). nat_lt 0 q.number && nat_le q.number n) first
    by false o e is = before q row (e ∙ is)

-- what is known of what was recorded first is known of it in another history that has it
pub firsts_same : (h g : History) (t next : Tables) (rows : List (AppId × Option AppRow)) → g.first ≡ h.first → FirstsKnown (abstract_scene h t) rows → FirstsKnown (abstract_scene g next) rows
firsts_same h g t next rows same before = let m : Scene = abstract_scene h t in subst (λ (r : Records). FirstsKnown (record m { life = record m.life { first = r } }) rows) (sym same) before
