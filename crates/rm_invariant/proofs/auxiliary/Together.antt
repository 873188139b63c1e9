-- What else holds of an open life, put together: what is said of each row by itself, whichever row changes, and all of it after a step, by what the life
-- remembers then.
use Rattle.rm_invariant.proofs.Common.{◌≡◌, ◌+◌, List, ◌++◌, Bool, true, false, Option, None, Some, length, refl, sym, ◌∙◌, ap, subst, flat_map, arith, Entry, AppId, AppRow, AttemptState, ContainerId, Current, Records, Scene, RowChange, Submitted, Tables, after, changed, current_after, going_in, granted, granted_at, is_alive, is_app, killed_state, row_of, same_app, with_row, History, OnlyNodesOffer, abstract_scene, live_state, Settings}
use Rattle.rm_model.specs.State.{Release}
use Rattle.rm_states.specs.declared.attempt.states.AttemptEvent.{AttemptEvent}
use Rattle.rm_states.specs.declared.attempt.states.AttemptState.TheVariants as attempts
use Rattle.rm_states.specs.attempt.Table.{next_attempt_state}
use Rattle.rm_tables.specs.declared.changes.AttemptChange.{AttemptChange}
use Rattle.rm_tables.specs.declared.changes.AttemptChange.TheVariants as of_attempt
use Rattle.rm_tables.specs.declared.changes.RowChange.TheVariants as of_app
use Rattle.rm_tables.specs.Changes.{attempt_after}
use Rattle.rm_invariant.specs.apps.Completed.{Completes}
use Rattle.rm_invariant.specs.apps.Submissions.{saving, starting, submitted_ids}
use Rattle.rm_invariant.specs.apps.View.{changed_if}
use Rattle.rm_invariant.specs.auxiliary.Invariant.{AreUnfinished, AuxInvariant, FinishesKnown, HasNotFinished, MastersSingle, NoneFirst, OthersGo, RetiredKnown, WaitsKnown, end_is_issued}
use Rattle.rm_invariant.specs.auxiliary.Parts.{FixedParts, fixed_parts, parts_in}
use Rattle.rm_invariant.specs.events.Here.{AreServed, FirstsKnown, NoneAbsent}
use Rattle.rm_invariant.specs.events.MainFacts.{AreSilent, IsSilent}
use Rattle.rm_invariant.specs.events.Outcomes.{IsCurrentOf}
use Rattle.rm_invariant.specs.masters.Invariant.{MastersAreOwn}
use Rattle.rm_invariant.specs.Core.{PreservesCore}
use Rattle.rm_invariant.proofs.apps.Found.{row_changed}
use Rattle.rm_invariant.proofs.auxiliary.Parts.{parts_after}
use Rattle.rm_invariant.proofs.auxiliary.Rows.{none_first_with, retired_with}
use Rattle.rm_invariant.proofs.events.Firsts.{KeepsFirst, firsts_same, firsts_with}
use Rattle.rm_invariant.proofs.events.Silent.{MayBe, change_silent}

-- EACH ROW

-- what holds of the rows, each by itself, of a life that began with these records and in which these were removed
pub record RowParts (m : Scene) (first : Records) (retired : List AppId) (rows : List (AppId × Option AppRow)) : Type 0 where
  pub silent : AreSilent rows
  pub firsts : FirstsKnown m rows
  pub none_first : NoneFirst first retired rows
  pub unfinished : AreUnfinished rows
  pub known : RetiredKnown retired rows

-- a row after which what holds of one holds still
pub record RowStays (was now : AppRow) : Type 0 where
  pub silent : IsSilent was.current was.dialogue → IsSilent now.current now.dialogue
  pub unfinished : HasNotFinished was.current → HasNotFinished now.current

-- what holds of each row, where one changes
each_kept : (P : AppRow → Type 0) (f : AppRow → AppRow) (id : AppId) (rows : List (AppId × Option AppRow)) → ((row : AppRow) → row_of rows id ≡ Some row → P row → P (f row))
    → ((q : AppId) (one : AppRow) → row_of rows q ≡ Some one → P one) → (q : AppId) (one : AppRow) → row_of (with_row f id rows) q ≡ Some one → P one
each_kept P f id rows keeps before q one there = by (is_app id q) refl (row_of rows q) refl (sym (row_changed f id q rows) ∙ there)
  where
    by : (b : Bool) → is_app id q ≡ b → (o : Option AppRow) → row_of rows q ≡ o → changed_if b f o ≡ Some one → P one
    by true e None is x = cc
    by true e (Some was) is x =
        let now : f was ≡ one = cc in
        subst P now (keeps was (ap (row_of rows) (same_app id q e) ∙ is) (before q was is))
    by false e o is x = before q one (is ∙ x)

module _ {m : Scene} {first : Records} {retired : List AppId} where
  -- the row of an application changes
  pub parts_with : (f : AppRow → AppRow) (id : AppId) (rows : List (AppId × Option AppRow)) → KeepsFirst f → ((row : AppRow) → row_of rows id ≡ Some row → RowStays row (f row)) → RowParts m first retired rows
      → RowParts m first retired (with_row f id rows)
  parts_with f id rows keeps stays parts =
      record {
        silent = each_kept (λ (row : AppRow). IsSilent row.current row.dialogue) f id rows (λ row found. (stays row found).silent) parts.silent;
        firsts = firsts_with m f id rows keeps parts.firsts;
        none_first = none_first_with first retired f id rows parts.none_first;
        unfinished = each_kept (λ (row : AppRow). HasNotFinished row.current) f id rows (λ row found. (stays row found).unfinished) parts.unfinished;
        known = retired_with retired f id rows parts.known;
      }

-- an attempt whose end isn't issued after an event had none issued before
early_before : (event : AttemptEvent) (s : AttemptState) → end_is_issued (next_attempt_state s event) ≡ false → end_is_issued s ≡ false
early_before event s e = grind arith

granted_early : (id : ContainerId) (c : Current) → HasNotFinished (Some c) → HasNotFinished (Some (granted id c))
granted_early id c e = by c.state refl
  where
    by : (s : AttemptState) → c.state ≡ s → HasNotFinished (Some (granted_at s id c))
    by attempts.Scheduled is = λ o. e (rw is refl)
    by _ is = e

alive_ends : (s : AttemptState) → is_alive s ≡ true → end_is_issued (killed_state s) ≡ true
alive_ends s e = grind arith

attempt_unfinished : (change : AttemptChange) (c : Current) → MayBe (of_app.OfAttempt change) (Some c) → HasNotFinished (Some c) → HasNotFinished (Some (attempt_after change c))
attempt_unfinished (of_attempt.Grant id) c may u = granted_early id c u
attempt_unfinished of_attempt.Requeue c may u = λ o. refl
attempt_unfinished (of_attempt.End how) c may u = let ends = alive_ends c.state may in rw ends (λ o. cc)
attempt_unfinished of_attempt.Lose c may u = u
attempt_unfinished _ c may u = λ o. u (early_before _ c.state o)

change_unfinished : (change : RowChange) (o : Option Current) → MayBe change o → HasNotFinished o → HasNotFinished (current_after change o)
change_unfinished (of_app.Schedule number) o may u = λ e. refl
change_unfinished (of_app.OfAttempt change) (Some c) may u = attempt_unfinished change c may u
change_unfinished of_app.Kill (Some c) may u = λ o. u (early_before _ c.state o)
change_unfinished of_app.Register (Some c) may u = λ o. u (early_before _ c.state o)
change_unfinished of_app.End (Some c) may u = λ o. u (early_before _ c.state o)
change_unfinished _ None may u = tt
change_unfinished _ (Some c) may u = u

-- a row stays so whatever happens to its application
pub change_stays : (change : RowChange) (row : AppRow) → MayBe change row.current → RowStays row (changed change row)
change_stays change row may = record { silent = change_silent change row.current row.dialogue may; unfinished = change_unfinished change row.current may }

pub parts_changed : {m : Scene} {first : Records} {retired : List AppId} (change : RowChange) (id : AppId) (rows : List (AppId × Option AppRow)) → ((row : AppRow) → row_of rows id ≡ Some row → MayBe change row.current)
    → RowParts m first retired rows → RowParts m first retired (with_row (changed change) id rows)
parts_changed change id rows may before = parts_with (changed change) id rows (λ r. refl) (λ row found. change_stays change row (may row found)) before

-- the row of a closing or any other that keeps its attempt and its dialogue
pub same_stays : (was now : AppRow) → now.current ≡ was.current → now.dialogue ≡ was.dialogue → RowStays was now
same_stays was now current dialogue = record { silent = rw (current, dialogue) (λ s. s); unfinished = rw current (λ u. u) }

-- what is known of the current attempt of a row is known of the one that is found
pub at_found : (P : Option Current → Type 0) (t : Tables) (id : AppId) (row : AppRow) (current : Current) → IsCurrentOf t id row current → P (Some current) → (one : AppRow) → row_of t.rows id ≡ Some one → P one.current
at_found P t id row current is holds one found =
    let same : row ≡ one = (let x : Some row ≡ Some one = sym is.found ∙ found in cc) in
    subst (λ (r : AppRow). P r.current) same (subst P (sym is.is) holds)

-- ALL OF IT

-- all that else holds, of a life that began as one does that is known, in which these were removed, wait and were released
pub record AuxParts (h : History) (m : Scene) (retired : List AppId) (submitted : List Submitted) (releases : List Release) (next : Tables) : Type 0 where
  pub rows : RowParts m h.first retired next.rows
  pub completes : Completes next
  pub apt : MastersAreOwn next.tree.apps
  pub present : NoneAbsent next.nodes
  pub others : OthersGo next
  pub single : MastersSingle next
  pub waits : WaitsKnown h.first next
  pub served : AreServed releases next.sched
  pub offers : OnlyNodesOffer next
  pub order : submitted_ids submitted ≡ flat_map saving next.awaiting ++ flat_map starting next.main
  pub going : next.going ≡ length submitted + going_in next.tree.apps
  pub finishes : FinishesKnown next

-- what is said of each row
pub rows_of : (h : History) (t : Tables) → AuxInvariant h t → RowParts (abstract_scene h t) h.first h.apps.retired t.rows
rows_of h t sides = record { silent = sides.silent; firsts = sides.firsts; none_first = sides.none_first; unfinished = sides.unfinished; known = sides.retired }

-- so they hold of the next history, which has these parts
pub aux_of : (h g : History) (t next : Tables) (retired : List AppId) (submitted : List Submitted) (releases : List Release)
    → fixed_parts g ≡ record { first = h.first; retired = retired; submitted = submitted; releases = releases } → AuxParts h (abstract_scene h t) retired submitted releases next → AuxInvariant g next
aux_of h g t next retired submitted releases same parts =
    let first_is : g.first ≡ h.first = ap (λ (p : FixedParts). p.first) same in
    let retired_is : g.apps.retired ≡ retired = ap (λ (p : FixedParts). p.retired) same in
    let submitted_is : g.apps.submitted ≡ submitted = ap (λ (p : FixedParts). p.submitted) same in
    let releases_is : g.endings.releases ≡ releases = ap (λ (p : FixedParts). p.releases) same in
    record {
      completes = parts.completes;
      apt = parts.apt;
      silent = parts.rows.silent;
      firsts = firsts_same h g t next next.rows first_is parts.rows.firsts;
      none_first = rw (first_is, retired_is) parts.rows.none_first;
      present = parts.present;
      others = parts.others;
      single = parts.single;
      waits = rw first_is parts.waits;
      served = rw releases_is parts.served;
      offers = parts.offers;
      lists = record { order = rw submitted_is parts.order; going = rw submitted_is parts.going };
      finishes = parts.finishes;
      unfinished = parts.rows.unfinished;
      retired = rw retired_is parts.rows.known;
    }

-- and after a step whose entry leaves these parts
pub aux_after : (settings : Settings) (h : History) (t : Tables) (entry : Entry) (came next : Tables) (s : PreservesCore settings h t (entry, came)) (retired : List AppId) (submitted : List Submitted) (releases : List Release)
    → parts_in (after (live_state h t) entry) ≡ Some (record { first = h.first; retired = retired; submitted = submitted; releases = releases }) → AuxParts h (abstract_scene h t) retired submitted releases next → AuxInvariant s.next next
aux_after settings h t entry came next s retired submitted releases is parts =
    aux_of h s.next t next retired submitted releases (parts_after s.next came (after (live_state h t) entry) (record { first = h.first; retired = retired; submitted = submitted; releases = releases }) s.step.same is) parts
