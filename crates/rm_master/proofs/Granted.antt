-- What a master is told of, from the tables and by the judge: grants and endings.
use Rattle.rm_master.proofs.Common.{◌≡◌, ℕ, List, [], ◌∷◌, Bool, true, false, not, ◌&&◌, ◌||◌, Option, None, Some, is_some, filter, find, map, refl, sym, ◌∙◌, ap, arith, if◌then◌else◌, false≢true, nat_tests, BookRow, Closing, Acquired, AttemptId, ContainerId, is_app, is_attempt, Row, Scene, Tables, untold_rows, is_masters_in, SameRows, closings_for}
use Rattle.rm_types.specs.declared.containers.ClosingOf.{ClosingOf}
use Rattle.rm_types.specs.declared.ids.AppId.{AppId}
use Rattle.rm_types.specs.declared.records.AppRecord.{AppRecord}
use Rattle.rm_types.specs.declared.records.AttemptRecord.{AttemptRecord}
use Rattle.rm_types.specs.Ids.{is_container}
use Rattle.rm_types.specs.Records.{Records, is_some_and, record_of}
use Rattle.rm_types.specs.Containers.{is_granted}
use Rattle.rm_book.proofs.Lists.{map_view}
use Rattle.rm_model.specs.Attempts.{is_masters}
use Rattle.rm_model.specs.Containers.{is_earlier}
use Rattle.rm_model.specs.Facts.{attempts_in, has_container}
use Rattle.rm_model.specs.MasterReplies.{earlier_rows, grant_of, is_late, is_new_grant, row_kept}
use Rattle.rm_tables.specs.LateRows.{is_late_row}
use Rattle.rm_tables.specs.Leaving.{attempt_in, is_own_or_unkept, masters_by}
use Rattle.rm_tables.specs.Talks.{without_closings}
use Rattle.rm_refinement.specs.Agreement.{PlainRow, bare_row, plain_row}
use Rattle.rm_master.specs.Answers.{handed_row}
use Rattle.rm_master.specs.Told.{closings_told, grants_told, is_left_row, is_new_row, is_told_row, kept_told}
use Rattle.rm_master.proofs.Picked.{picked_same, tests_or, tests_same}

-- whether a container is a master's, by the record of its application
masters_of : (id : ContainerId) (found : Option AppRecord)
    → masters_by id found ≡ (is_some found && (not (is_some (find (λ one. is_attempt one.id id.attempt) (attempts_in found))) || is_some_and (λ one. is_container one.master id) (find (λ one. is_attempt one.id id.attempt) (attempts_in found))))
masters_of id None = refl
masters_of id (Some app) = by (attempt_in app id.attempt)
  where
    by : (o : Option AttemptRecord) → is_own_or_unkept id o ≡ (not (is_some o) || is_some_and (λ one. is_container one.master id) o)
    by None = refl
    by (Some one) = refl

pub masters_same : (m : Scene) (id : ContainerId) → is_masters_in m.records.apps id ≡ is_masters m id
masters_same m id = masters_of id (record_of m.records.apps id.attempt.app)

module _ (m : Scene) (t : Tables) (attempt : AttemptId) (records : m.records ≡ t.tree) where
  pub masters_alike : (id : ContainerId) → is_masters_in t.tree.apps id ≡ is_masters m id
  masters_alike id = ap (λ (r : Records). is_masters_in r.apps id) (sym records) ∙ masters_same m id

  -- a test at each row
  at_each : (p q : BookRow → Bool) → ((row : BookRow) → p row ≡ q row) → (rows : List BookRow) → map p rows ≡ map q rows
  at_each p q same [] = refl
  at_each p q same (row ∷ rows) = rw (same row, at_each p q same rows) refl

  abbrev left : PlainRow → Bool
  left row = is_earlier row.id.attempt attempt && not (is_masters m row.id)

  -- what a master has from earlier attempts
  pub kept_same : SameRows t.book.rows m.life.book → kept_told t attempt ≡ map grant_of (earlier_rows m attempt)
  kept_same rows =
      picked_same (is_left_row t attempt) (λ one. left (plain_row one)) t.book.rows m.life.book rows
      (at_each (is_left_row t attempt) (λ row. left (bare_row row)) (λ row. ap (λ (b : Bool). is_earlier row.id.attempt attempt && not b) (masters_alike row.id)) t.book.rows
      ∙ tests_same left t.book.rows m.life.book rows)

  abbrev new : PlainRow → Bool
  new row = is_attempt row.id.attempt attempt && (is_granted row.state && not (is_masters m row.id))

  -- what it is told of
  pub told_rows_same : (told : ℕ) → SameRows t.book.rows m.life.book → (t.settings.recover_ended_containers ≡ true → map (is_late_row t attempt told) t.book.rows ≡ map (is_late m attempt) m.life.book)
      → grants_told t attempt told ≡ map grant_of (untold_rows t.settings m attempt)
  told_rows_same told rows late =
      picked_same (is_told_row t attempt told) (λ one. (t.settings.recover_ended_containers && is_late m attempt one) || is_new_grant m attempt one) t.book.rows m.life.book rows
      (tests_or t.settings.recover_ended_containers (is_late_row t attempt told) (is_new_row t attempt) (is_late m attempt) (is_new_grant m attempt) t.book.rows m.life.book late
      (at_each (is_new_row t attempt) (λ row. new (bare_row row)) (λ row. ap (λ (b : Bool). is_attempt row.id.attempt attempt && (is_granted row.state && not b)) (masters_alike row.id)) t.book.rows
      ∙ tests_same new t.book.rows m.life.book rows))

-- the same rows after these were handed over
pub rows_handed : (told : List ContainerId) (rows : List BookRow) (book : List Row) → SameRows rows book → SameRows (map (handed_row told) rows) (map (row_kept told) book)
rows_handed told rows book same = map_view bare_row (handed_row told) change (λ row. refl) rows ∙ ap (map change) same ∙ sym (map_view plain_row (row_kept told) change (λ row. refl) book)
  where
    change : PlainRow → PlainRow
    change row = record row { state = if has_container told row.id && is_granted row.state then Acquired else row.state }

-- the same endings: those of an attempt are among those of its application
pub endings_same : (attempt : AttemptId) (outbox : List ClosingOf) → closings_told attempt (closings_for outbox attempt.app) ≡ map (λ one. one.closing) (filter (λ one. is_attempt one.attempt attempt) outbox)
endings_same attempt [] = refl
endings_same attempt (one ∷ outbox) = by (is_app one.attempt.app attempt.app) (is_attempt one.attempt attempt) refl refl (endings_same attempt outbox)
  where
    by : (a b : Bool) → is_app one.attempt.app attempt.app ≡ a → is_attempt one.attempt attempt ≡ b
        → closings_told attempt (closings_for outbox attempt.app) ≡ map (λ one. one.closing) (filter (λ one. is_attempt one.attempt attempt) outbox)
        → closings_told attempt (closings_for (one ∷ outbox) attempt.app) ≡ map (λ one. one.closing) (filter (λ one. is_attempt one.attempt attempt) (one ∷ outbox))
    by true true e f rest = rw (f, e, f) (ap (λ (more : List Closing). one.closing ∷ more) rest)
    by true false e f rest = rw (f, e, f) rest
    by false true e f rest = let i : false ≡ true = rw e at f in absurd (false≢true i)
    by false false e f rest = rw (f, e) rest

-- what is left of an application's endings after an attempt of this or another one was told of its own
pub left_same : (attempt : AttemptId) (q : AppId) (outbox : List ClosingOf) → closings_for (without_closings attempt outbox) q ≡ without_closings attempt (closings_for outbox q)
left_same attempt q [] = refl
left_same attempt q (one ∷ outbox) = by (is_app one.attempt.app q) (is_attempt one.attempt attempt) refl refl (left_same attempt q outbox)
  where
    by : (a b : Bool) → is_app one.attempt.app q ≡ a → is_attempt one.attempt attempt ≡ b → closings_for (without_closings attempt outbox) q ≡ without_closings attempt (closings_for outbox q)
        → closings_for (without_closings attempt (one ∷ outbox)) q ≡ without_closings attempt (closings_for (one ∷ outbox) q)
    by true true e f rest = rw (e, f) rest
    by true false e f rest = rw (e, f, e) (ap (λ (more : List ClosingOf). one ∷ more) rest)
    by false true e f rest = rw (e, f) rest
    by false false e f rest = rw (f, e) rest

pub other_left : (attempt : AttemptId) (q : AppId) (outbox : List ClosingOf) → is_app attempt.app q ≡ false → without_closings attempt (closings_for outbox q) ≡ closings_for outbox q
other_left attempt q [] apart = refl
other_left attempt q (one ∷ outbox) apart = by (is_app one.attempt.app q) (is_attempt one.attempt attempt) refl refl (other_left attempt q outbox apart)
  where
    not_both : (a : AttemptId) → is_app a.app q ≡ true → is_attempt a attempt ≡ true → ⊥
    not_both a e f = let h : is_app attempt.app q ≡ true = grind (arith, nat_tests) in absurd (false≢true (sym apart ∙ h))

    by : (a b : Bool) → is_app one.attempt.app q ≡ a → is_attempt one.attempt attempt ≡ b → without_closings attempt (closings_for outbox q) ≡ closings_for outbox q
        → without_closings attempt (closings_for (one ∷ outbox) q) ≡ closings_for (one ∷ outbox) q
    by true true e f rest = absurd (not_both one.attempt e f)
    by true false e f rest = rw (e, f) (ap (λ (more : List ClosingOf). one ∷ more) rest)
    by false b e f rest = rw e rest
