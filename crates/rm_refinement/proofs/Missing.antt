-- A container is missing, astray or pending by the tables exactly where the judge says so.
use Rattle.std.proofs.Common.{◌≡◌, Bool, true, false, ◌&&◌, not, nat_lt, refl, sym, ◌∙◌, ap}
use Rattle.rm_types.specs.declared.ids.ContainerId.{ContainerId}
use Rattle.rm_types.specs.Ids.{is_container}
use Rattle.rm_types.specs.Records.{Records, record_of}
use Rattle.rm_book.specs.Books.{has_row}
use Rattle.rm_model.specs.Attempts.{attempt_was_first, is_wanted}
use Rattle.rm_model.specs.Containers.{is_astray, is_living, is_missing, is_pending}
use Rattle.rm_model.specs.Facts.{app_goes_on, has_container, kept_record}
use Rattle.rm_model.specs.State.{Scene}
use Rattle.rm_tables.specs.declared.tables.Tables.{Tables}
use Rattle.rm_tables.specs.Absorbing.{is_pending_in, was_first}
use Rattle.rm_tables.specs.Leaving.{is_wanted_in}
use Rattle.rm_tables.specs.Missing.{is_astray_in, is_missing_in}
use Rattle.rm_tables.specs.Rows.{row_of}
use Rattle.rm_refinement.specs.Services.{RefinesLife}
use Rattle.rm_refinement.proofs.Recorded.{wanted_same}
use Rattle.rm_refinement.proofs.Rows.{any_alike}

module _ (m : Scene) (t : Tables) (shows : RefinesLife m t) where
  living_same : (id : ContainerId) → has_row t.book id ≡ is_living m.life.book id
  living_same id = any_alike (λ row. is_container row.id id) t.book.rows m.life.book shows.rows

  wanted_in_same : (id : ContainerId) → is_wanted_in t.tree.apps id ≡ is_wanted m id
  wanted_in_same id = ap (λ (r : Records). is_wanted_in r.apps id) (sym shows.records) ∙ wanted_same m id

  first_wanted : (id : ContainerId) → (was_first id.attempt (row_of t.rows id.attempt.app) && is_wanted_in t.tree.apps id) ≡ (attempt_was_first m id.attempt && is_wanted m id)
  first_wanted id = ap (λ (b : Bool). was_first id.attempt (row_of t.rows id.attempt.app) && b) (wanted_in_same id) ∙ by (app_goes_on (kept_record m id.attempt.app)) refl
    where
      none : (a b : Bool) → (a && false) ≡ (b && false)
      none true true = refl
      none true false = refl
      none false true = refl
      none false false = refl

      by : (b : Bool) → app_goes_on (kept_record m id.attempt.app) ≡ b → (was_first id.attempt (row_of t.rows id.attempt.app) && is_wanted m id) ≡ (attempt_was_first m id.attempt && is_wanted m id)
      by true e =
          let recorded : app_goes_on (record_of t.tree.apps id.attempt.app) ≡ true = ap (λ (r : Records). app_goes_on (record_of r.apps id.attempt.app)) (sym shows.records) ∙ e in
          ap (λ (b : Bool). b && is_wanted m id) (shows.around.firsts id.attempt recorded)
      by false e = rw e (none (was_first id.attempt (row_of t.rows id.attempt.app)) (attempt_was_first m id.attempt))

  pub missing_same : t.settings.recover_ended_containers ≡ true → (id : ContainerId) → is_missing_in t id ≡ is_missing m id
  missing_same recovers id = rw (living_same id, first_wanted id, shows.epoch) (by (nat_lt id.epoch t.epoch) refl)
    where
      none : (a b c d : Bool) → (a && (b && (false && d))) ≡ (a && (c && (false && d)))
      none true true true d = refl
      none true true false d = refl
      none true false true d = refl
      none true false false d = refl
      none false b c d = refl

      by : (b : Bool) → nat_lt id.epoch t.epoch ≡ b
          → (not (is_living m.life.book id) && (not (has_container t.departed id) && (b && (attempt_was_first m id.attempt && is_wanted m id))))
          ≡ (not (is_living m.life.book id) && (not (has_container m.life.endings.left id) && (b && (attempt_was_first m id.attempt && is_wanted m id))))
      by true e = rw (shows.around.departed recovers id e) refl
      by false e = none (not (is_living m.life.book id)) (not (has_container t.departed id)) (not (has_container m.life.endings.left id)) (attempt_was_first m id.attempt && is_wanted m id)

  pub astray_same : (id : ContainerId) → is_astray_in t id ≡ is_astray t.settings m id
  astray_same id = by t.settings.recover_ended_containers refl
    where
      by : (b : Bool) → t.settings.recover_ended_containers ≡ b → (b && is_missing_in t id) ≡ (b && is_missing m id)
      by true e = missing_same e id
      by false e = refl

  pub pending_same : (id : ContainerId) → is_pending_in t id ≡ is_pending t.settings m id
  pending_same id = by t.settings.recover_ended_containers refl
    where
      by : (b : Bool) → t.settings.recover_ended_containers ≡ b → (b && has_container t.pending id) ≡ (b && has_container m.life.endings.pending id)
      by true e = shows.around.pending e id
      by false e = refl
