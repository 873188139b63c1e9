-- Which containers are wanted, stale and masters', and who the heir is: the tables and the judge read it off the same records.
use Rattle.std.proofs.Common.{◌≡◌, ℕ, List, Bool, true, false, ◌&&◌, ◌||◌, not, Option, None, Some, is_some, is_none, refl}
use Rattle.rm_types.specs.declared.ids.AppId.{AppId}
use Rattle.rm_types.specs.declared.ids.ContainerId.{ContainerId}
use Rattle.rm_types.specs.declared.operations.How.{How}
use Rattle.rm_types.specs.declared.records.AppRecord.{AppRecord}
use Rattle.rm_types.specs.declared.records.AttemptRecord.{AttemptRecord}
use Rattle.rm_types.specs.Ids.{is_container}
use Rattle.rm_types.specs.Records.{record_of}
use Rattle.rm_model.specs.Attempts.{heir, is_stale, is_wanted}
use Rattle.rm_model.specs.State.{Scene}
use Rattle.rm_tables.specs.Leaving.{attempt_in, heir_in, is_stale_in, is_wanted_in}

-- the judge reads the same off the records
pub wanted_same : (m : Scene) (id : ContainerId) → is_wanted_in m.records.apps id ≡ is_wanted m id
wanted_same m id = by (record_of m.records.apps id.attempt.app) refl
  where
    of : (app : AppRecord) → record_of m.records.apps id.attempt.app ≡ Some app → (o : Option AttemptRecord) → attempt_in app id.attempt ≡ o → is_wanted_in m.records.apps id ≡ is_wanted m id
    of app e None f = rw (e, f) (if_none (is_none app.ending))
      where
        if_none : (b : Bool) → (b && false) ≡ (b && false)
        if_none b = refl
    of app e (Some one) f = rw (e, f) refl

    by : (o : Option AppRecord) → record_of m.records.apps id.attempt.app ≡ o → is_wanted_in m.records.apps id ≡ is_wanted m id
    by None e = rw e refl
    by (Some app) e = of app e (attempt_in app id.attempt) refl

pub stale_same : (m : Scene) (id : ContainerId) → is_stale_in m.records.apps id ≡ is_stale m id
stale_same m id = by (record_of m.records.apps id.attempt.app) refl
  where
    alone : (open_ ended keep own : Bool) → (not open_ || (ended && not (keep && not own))) ≡ (not open_ || (ended && not (open_ && (not ended || (keep && not own)))))
    alone true true true true = refl
    alone true true true false = refl
    alone true true false own = refl
    alone true false keep own = refl
    alone false ended keep own = refl

    of : (app : AppRecord) → record_of m.records.apps id.attempt.app ≡ Some app → (o : Option AttemptRecord) → attempt_in app id.attempt ≡ o → is_stale_in m.records.apps id ≡ is_stale m id
    of app e None f = rw (e, f) (ends app.ending)
      where
        ends : (x : Option (How × List ℕ)) → (is_some x || false) ≡ (not (is_none x) || false)
        ends None = refl
        ends (Some x) = refl
    of app e (Some one) f = rw (e, f) (ends app.ending one.ending)
      where
        ends : (x y : Option (How × List ℕ)) → (is_some x || (is_some y && not (app.submission.keep && not (is_container one.master id)))) ≡ (not (is_none x) || (is_some y && not (is_none x && (is_none y || (app.submission.keep && not (is_container one.master id))))))
        ends None None = refl
        ends None (Some y) = alone true true app.submission.keep (is_container one.master id)
        ends (Some x) y = refl

    by : (o : Option AppRecord) → record_of m.records.apps id.attempt.app ≡ o → is_stale_in m.records.apps id ≡ is_stale m id
    by None e = rw e refl
    by (Some app) e = of app e (attempt_in app id.attempt) refl

pub heir_same : (m : Scene) (id : AppId) → heir_in m.records.apps id ≡ heir m id
heir_same m id = by (record_of m.records.apps id) refl
  where
    by : (o : Option AppRecord) → record_of m.records.apps id ≡ o → heir_in m.records.apps id ≡ heir m id
    by None e = rw e refl
    by (Some app) e = rw e refl
