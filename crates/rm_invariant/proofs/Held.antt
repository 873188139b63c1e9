-- What was kept when the life began is kept still, or its application was retired, after each step of an open life.
use Rattle.rm_invariant.proofs.Common.{◌≡◌, ◌∷◌, List, [], Bool, true, false, None, refl, sym, ◌∙◌, ap, subst, false≢true, list_any, Entry, AttemptId, ContainerId, Op, Tables, History, abstract_life, fits_records, has_app, is_app_op, records, ◌||◌}
use Rattle.std.specs.Prelude.{Some, slice_get}
use Rattle.rm_model.specs.Facts.{is_epoch_op}
use Rattle.rm_laws.specs.FirstAttempts.{FirstStays}
use Rattle.rm_invariant.specs.Step.{Step}
use Rattle.rm_invariant.specs.Invariant.{LifeInvariant}
use Rattle.rm_invariant.proofs.bounds.NextFits.{next_fits}
use Rattle.rm_invariant.proofs.nodes.Astray.{first_fits, first_stays, held_kept}

-- what awaits, where no Epoch does, has none in front
pub not_epoch : (awaiting : List Op) (op : Op) (rest : List Op) → awaiting ≡ op ∷ rest → list_any is_epoch_op awaiting ≡ false → is_epoch_op op ≡ false
not_epoch awaiting op rest front none = first (is_epoch_op op) (subst (λ (l : List Op). list_any is_epoch_op l ≡ false) front none)
  where
    first : (b : Bool) → (b || list_any is_epoch_op rest) ≡ false → b ≡ false
    first true e = cc
    first false e = refl

module _ (h : History) (t : Tables) (r : LifeInvariant h t) where
  awaits_first : (op : Op) → slice_get t.awaiting 0 ≡ Some op → fits_records (records h.kept) op ≡ true
  awaits_first op first = by t.awaiting refl
    where
      by : (ops : List Op) → t.awaiting ≡ ops → fits_records (records h.kept) op ≡ true
      by [] e = let x : None ≡ Some op = sym (ap (λ (ops : List Op). slice_get ops 0) e) ∙ first in cc
      by (one ∷ rest) e = first_fits t.settings h t r.whole.keeps one rest e (next_fits t.settings h t r.whole one rest e (not_epoch t.awaiting one rest e r.begun.awaiting)) op first

  awaits_new : (q : AttemptId) (op : Op) → slice_get t.awaiting 0 ≡ Some op → has_app h.apps.retired q.app ≡ true → is_app_op q.app op ≡ true → ⊥
  awaits_new q op first = by t.awaiting refl
    where
      by : (ops : List Op) → t.awaiting ≡ ops → has_app h.apps.retired q.app ≡ true → is_app_op q.app op ≡ true → ⊥
      by [] e = let x : None ≡ Some op = sym (ap (λ (ops : List Op). slice_get ops 0) e) ∙ first in cc
      by (one ∷ rest) e = first_stays t.settings h t r.whole.keeps one rest e q op first

  pub held_after : (e : Entry) (g : History) (next : Tables) → Step t.settings h t e g next → (c : ContainerId) → FirstStays c.attempt g.kept (Some (abstract_life g next))
  held_after e g next step c = held_kept t.settings h t r.whole.keeps e g next step c awaits_first (awaits_new c.attempt) (r.held c)
