-- What is astray after a step was astray before it, and what was kept when the life began is kept still, or its application was retired.
use Rattle.rm_invariant.proofs.Common.{◌≡◌, Bool, ◌&&◌, true, false, refl, sym, ◌∙◌, ap, subst, Entry, ContainerId, Op, Settings, Tables, History, abstract_life, abstract_scene, live_state, after, is_app_op, has_app, fits_records, records, Records, ◌++◌, List, not, Cause, Ended, Option, None, has_container, is_container, is_living, false≢true, not-true, list_any-append, LifeState, AppRow, row_of, AttemptId, ◌∷◌, ℕ, inl, list_any, is_attempt, record_of, recorded, no_records, [], suc, arith}
use Rattle.std.specs.Prelude.{Some, slice_get, option_map, is_some, find, count_by}
use Rattle.rm_model.specs.Containers.{is_missing}
use Rattle.rm_model.specs.State.{Manager, scene}
use Rattle.rm_laws.specs.Laws.{is_bound, is_missing_now}
use Rattle.rm_laws.specs.FirstAttempts.{FirstStays}
use Rattle.rm_laws.proofs.Missing.{entry_falls, entry_held, is_kept_entry, other_falls, other_held}
use Rattle.rm_invariant.specs.Step.{AppsInvariant, Step}
use Rattle.rm_invariant.specs.events.Here.{astray_at}
use Rattle.rm_invariant.specs.apps.View.{View, view}
use Rattle.std.proofs.lemmas.Bool.{or_parts, and_parts}
use Rattle.rm_invariant.specs.apps.Invariant.{RowInvariant, ops_of}
use Rattle.rm_types.specs.declared.operations.Op.TheVariants.{Epoch}
use Rattle.rm_types.proofs.TestLemmas.{is_some-find}
use Rattle.rm_model.specs.Facts.{attempts_in}
use Rattle.rm_invariant.proofs.apps.Counts.{at_front}
use Rattle.std.proofs.lemmas.List.Sums.{fold_push}

module _ (settings : Settings) (h : History) (t : Tables) (k : AppsInvariant settings h t) (entry : Entry) (g : History) (next : Tables) (step : Step settings h t entry g next) where
  -- where a container doesn't become missing, it doesn't become astray
  astray_falls : (c : ContainerId)
      → (is_missing_now (after (live_state h t) entry) (after (live_state h t) entry).life c ≡ true → is_missing (scene (live_state h t) (abstract_life h t)) c ≡ true)
      → astray_at settings g next c ≡ true → astray_at settings h t c ≡ true
  astray_falls c falls x =
      let parts = and_parts settings.recover_ended_containers (is_missing (abstract_scene g next) c) x in
      let there : is_missing_now (live_state g next) (Some (abstract_life g next)) c ≡ true =
      ap (λ (r : Records). is_missing (record { records = r; awaiting = next.awaiting; life = abstract_life g next }) c) step.keeps.recorded ∙ parts.1 in
      let before = falls (subst (λ (s : Manager). is_missing_now s s.life c ≡ true) (sym step.same) there) in
      let here : is_missing (abstract_scene h t) c ≡ true =
      sym (ap (λ (r : Records). is_missing (record { records = r; awaiting = t.awaiting; life = abstract_life h t }) c) k.recorded) ∙ before in
      rw (parts.0, here) refl

  -- by an entry that keeps no operation
  pub none_strays : is_bound entry ≡ false → is_kept_entry entry ≡ false → (c : ContainerId) → astray_at settings g next c ≡ true → astray_at settings h t c ≡ true
  none_strays inside other c = astray_falls c (other_falls c settings h.kept t.awaiting false (abstract_life h t) entry step.lawful inside other)

  pub held_still : is_kept_entry entry ≡ false → (c : ContainerId) → FirstStays c.attempt h.kept (Some (abstract_life h t)) → FirstStays c.attempt g.kept (Some (abstract_life g next))
  held_still other c held = subst (λ (s : Manager). FirstStays c.attempt s.kept s.life) step.same (other_held c settings h.kept t.awaiting false (abstract_life h t) held entry step.lawful other)

  -- and by one that keeps the first that awaits, which fits and is no App of an application that was retired
  module _ (c : ContainerId) (fits : (op : Op) → slice_get t.awaiting 0 ≡ Some op → fits_records (records h.kept) op ≡ true)
      (never : (op : Op) → slice_get t.awaiting 0 ≡ Some op → has_app h.apps.retired c.attempt.app ≡ true → is_app_op c.attempt.app op ≡ true → ⊥) (held : FirstStays c.attempt h.kept (Some (abstract_life h t))) where
    pub none_strays_kept : is_bound entry ≡ false → astray_at settings g next c ≡ true → astray_at settings h t c ≡ true
    none_strays_kept inside = astray_falls c (entry_falls c settings h.kept t.awaiting false (abstract_life h t) fits never held entry step.lawful inside)

    pub held_kept : FirstStays c.attempt g.kept (Some (abstract_life g next))
    held_kept = subst (λ (s : Manager). FirstStays c.attempt s.kept s.life) step.same (entry_held c settings h.kept t.awaiting false (abstract_life h t) fits never held entry step.lawful)

-- what is astray but for these
abbrev pub astray_without : Settings → History → Tables → List ContainerId → ContainerId → Bool
astray_without settings h t list c = astray_at settings h t c && not (has_container list c)

-- what left isn't astray any more
pub left_strays : (settings : Settings) (h : History) (t : Tables) (k : AppsInvariant settings h t) (cause : Cause) (list : List ContainerId) (g : History) (next : Tables) (step : Step settings h t (Ended cause list) g next)
    (c : ContainerId) → astray_at settings g next c ≡ true → astray_without settings h t list c ≡ true
left_strays settings h t k cause list g next step c x =
    let before = none_strays settings h t k (Ended cause list) g next step refl refl c x in
    let now : Some (h.endings.left ++ list) ≡ Some g.endings.left = ap (λ (s : Manager). option_map (λ (life : LifeState). life.endings.left) s.life) step.same in
    let is : g.endings.left ≡ h.endings.left ++ list = (let y = now in cc) in
    let parts = and_parts settings.recover_ended_containers (is_missing (abstract_scene g next) c) x in
    let missing = and_parts (not (is_living g.book c)) _ parts.1 in
    let stays = (and_parts (not (has_container g.endings.left c)) _ missing.1).0 in
    let out : has_container (h.endings.left ++ list) c ≡ false = ap (λ (ids : List ContainerId). has_container ids c) (sym is) ∙ not-true (has_container g.endings.left c) stays in
    let off : has_container list c ≡ false = (or_parts (has_container h.endings.left c) (has_container list c) (sym (list_any-append (λ one. is_container one c) h.endings.left list) ∙ out)).1 in
    rw (before, off) refl

-- an App of an application that was retired doesn't await
pub none_again : (settings : Settings) (h : History) (t : Tables) (k : AppsInvariant settings h t) (q : AttemptId) (op : Op) (rest : List Op) → t.awaiting ≡ op ∷ rest → has_app h.apps.retired q.app ≡ true → is_app_op q.app op ≡ true → ⊥
none_again settings h t k q op rest front retired own = by (row_of t.rows q.app) (k.all q)
  where
    by : (o : Option AppRow) → RowInvariant settings q o (view h t q) → ⊥
    by (Some row) known = absurd (false≢true (sym known.0.stays ∙ retired))
    by None unknown =
        let none : ops_of (view h t q).count ≡ 0 = unknown.none_await in
        let one : count_by (is_app_op q.app) t.awaiting ≡ suc (count_by (is_app_op q.app) rest) = ap (count_by (is_app_op q.app)) front ∙ (at_front (is_app_op q.app) op rest ∙ rw own refl) in
        omega (arith, none, one)

-- what the first operation that awaits is
module _ (settings : Settings) (h : History) (t : Tables) (k : AppsInvariant settings h t) (op : Op) (rest : List Op) (front : t.awaiting ≡ op ∷ rest) where
  pub first_fits : fits_records t.tree op ≡ true → (other : Op) → slice_get t.awaiting 0 ≡ Some other → fits_records (records h.kept) other ≡ true
  first_fits fits other first =
      let same : op ≡ other = let x : Some op ≡ Some other = sym (ap (λ (ops : List Op). slice_get ops 0) front) ∙ first in cc in
      subst (λ (one : Op). fits_records (records h.kept) one ≡ true) same (subst (λ (r : Records). fits_records r op ≡ true) (sym k.recorded) fits)

  pub first_stays : (q : AttemptId) (other : Op) → slice_get t.awaiting 0 ≡ Some other → has_app h.apps.retired q.app ≡ true → is_app_op q.app other ≡ true → ⊥
  first_stays q other first =
      let same : op ≡ other = let x : Some op ≡ Some other = sym (ap (λ (ops : List Op). slice_get ops 0) front) ∙ first in cc in
      none_again settings h t k q other rest (subst (λ (one : Op). t.awaiting ≡ one ∷ rest) same front)

-- when a life's Epoch is kept, what it began with is what is kept
pub held_first : (kept : List Op) (next stamp : ℕ) (life : LifeState) → life.first ≡ records kept → (c : ContainerId) → FirstStays c.attempt (kept ++ Epoch next stamp ∷ []) (Some life)
held_first kept next stamp life first c was =
    inl (ap (λ (r : Records). is_some (find (λ one. is_attempt one.id c.attempt) (attempts_in (record_of r.apps c.attempt.app)))) (fold_push recorded no_records kept (Epoch next stamp))
    ∙ (is_some-find (λ one. is_attempt one.id c.attempt) (attempts_in (record_of (records kept).apps c.attempt.app))
    ∙ (ap (λ (r : Records). list_any (λ one. is_attempt one.id c.attempt) (attempts_in (record_of r.apps c.attempt.app))) (sym first) ∙ was)))
