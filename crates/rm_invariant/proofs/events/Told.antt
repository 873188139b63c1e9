-- Where containers leave, the tables and the judge tell the same endings, and the rows of applications change in nothing else.
use Rattle.rm_invariant.proofs.Common.{◌≡◌, List, [], ◌∷◌, ◌++◌, Bool, true, false, ◌||◌, Option, None, Some, map, refl, sym, ◌∙◌, ap, subst, false≢true, filter-append, filter_agree, Cause, AppId, AttemptId, ContainerId, AppRecord, AttemptRecord, is_app, record_of, same_app, MasterState, Scene, AppRow, Current, closed, closed_in, closed_one, closings_of, row_of, AttemptAgrees, ClosingsAgree, NumberAgrees, RowAgrees, closings_for}
use Rattle.std.proofs.Common.{◌==◌, nat_lt, is_none, filter, append_assoc, append-nil}
use Rattle.std.specs.Prelude.{option_and_then, option_map}
use Rattle.std.specs.List.{flat_map}
use Rattle.rm_model.specs.Attempts.{heir}
use Rattle.rm_model.specs.Containers.{closing_for, closings, is_told}
use Rattle.rm_refinement.proofs.Recorded.{heir_same, wanted_same}
use Rattle.rm_invariant.specs.masters.Sound.{RecordsAreSound}
use Rattle.rm_invariant.proofs.masters.Sounding.{numbered_last}
use Rattle.rm_types.specs.declared.containers.ClosingOf.{ClosingOf}
use Rattle.rm_types.specs.Records.{last_attempt}
use Rattle.rm_tables.specs.Leaving.{heir_in, is_told_in}
use Rattle.rm_invariant.specs.apps.View.{changed_if}
use Rattle.rm_invariant.proofs.apps.Found.{row_changed}
use Rattle.rm_invariant.proofs.masters.Masters.{masters_same}

-- WHO IS TOLD

-- the tables and the judge agree of which containers heirs are told
pub told_same : (m : Scene) (id : ContainerId) → is_told_in m.records.apps id ≡ is_told m id
told_same m id = rw (wanted_same m id, masters_same m id) refl

each_same : (f g : ContainerId → List ClosingOf) → ((id : ContainerId) → f id ≡ g id) → (ids : List ContainerId) → flat_map f ids ≡ flat_map g ids
each_same f g same [] = refl
each_same f g same (id ∷ ids) = rw (same id, each_same f g same ids) refl

pub closings_same : (m : Scene) (cause : Cause) (ids : List ContainerId) → closings_of m.records.apps cause ids ≡ closings m cause ids
closings_same m cause ids =
    ap (flat_map (λ id. closing_for cause id (heir_in m.records.apps id.attempt.app))) (filter_agree (is_told_in m.records.apps) (is_told m) (told_same m) ids)
    ∙ each_same (λ id. closing_for cause id (heir_in m.records.apps id.attempt.app)) (λ id. closing_for cause id (heir m id.attempt.app)) (λ id. ap (closing_for cause id) (heir_same m id.attempt.app)) (filter (is_told m) ids)

-- an heir is an attempt of its application
heir_app : (apps : List AppRecord) → RecordsAreSound apps → (id : AppId) (attempt : AttemptId) → heir_in apps id ≡ Some attempt → attempt.app ≡ id
heir_app apps each id attempt h = by (record_of apps id) refl
  where
    of : (one : AppRecord) → record_of apps id ≡ Some one → (o : Option AttemptRecord) → last_attempt one.attempts ≡ o → attempt.app ≡ id
    of one e None f = absurd (let x = rw (e, f) at h in cc)
    of one e (Some last) f = ends (is_none last.ending) refl
      where
        ends : (b : Bool) → is_none last.ending ≡ b → attempt.app ≡ id
        ends true g =
            let same : last.id ≡ attempt = let x = rw (e, f, g) at h in cc in
            let named = numbered_last id 0 one.attempts last (each id one e).numbered f in
            ap (λ (i : AttemptId). i.app) (sym same ∙ named)
        ends false g = absurd (let x = rw (e, f, g) at h in cc)

    by : (o : Option AppRecord) → record_of apps id ≡ o → attempt.app ≡ id
    by None e = absurd (let x = rw e at h in cc)
    by (Some one) e = of one e (last_attempt one.attempts) refl

-- of an application without a record nobody is told
pub unknown_untold : (apps : List AppRecord) → RecordsAreSound apps → (cause : Cause) (ids : List ContainerId) (id : AppId) → record_of apps id ≡ None → closings_for (closings_of apps cause ids) id ≡ []
unknown_untold apps each cause [] id none = refl
unknown_untold apps each cause (one ∷ more) id none = by (is_told_in apps one) refl (heir_in apps one.attempt.app) refl (unknown_untold apps each cause more id none)
  where
    other : (attempt : AttemptId) → heir_in apps one.attempt.app ≡ Some attempt → (b : Bool) → is_app attempt.app id ≡ b → is_told_in apps one ≡ true → b ≡ false
    other attempt h false e t = refl
    other attempt h true e t =
        let here : one.attempt.app ≡ id = sym (heir_app apps each one.attempt.app attempt h) ∙ same_app attempt.app id e in
        let unknown : record_of apps one.attempt.app ≡ None = ap (record_of apps) here ∙ none in
        absurd (let x : false ≡ true = rw unknown at t in false≢true x)

    by : (b : Bool) → is_told_in apps one ≡ b → (o : Option AttemptId) → heir_in apps one.attempt.app ≡ o → closings_for (closings_of apps cause more) id ≡ [] → closings_for (closings_of apps cause (one ∷ more)) id ≡ []
    by false e o h rest = rw e rest
    by true e None h rest = rw (e, h) rest
    by true e (Some attempt) h rest = let not_it = other attempt h (is_app attempt.app id) refl e in rw (e, h, not_it) rest

-- ROWS THAT TELL MORE

-- a row with these endings more to be told
abbrev pub telling_more : List ClosingOf → AppRow → AppRow
telling_more more row = record row { closings = row.closings ++ more }

-- each row tells those of its application more
pub rows_told : (more : List ClosingOf) (rows : List (AppId × Option AppRow)) (id : AppId) → row_of (closed_in rows more) id ≡ option_map (telling_more (closings_for more id)) (row_of rows id)
rows_told [] rows id = none (row_of rows id)
  where
    none : (o : Option AppRow) → o ≡ option_map (telling_more []) o
    none None = refl
    none (Some row) = ap (λ (l : List ClosingOf). Some (record row { closings = l })) (sym (append-nil row.closings))
rows_told (one ∷ more) rows id =
    rows_told more (closed_one rows one) id
    ∙ ap (option_map (telling_more (closings_for more id))) (row_changed (closed one) one.attempt.app id rows)
    ∙ by (is_app one.attempt.app id) refl (row_of rows id)
  where
    by : (b : Bool) → is_app one.attempt.app id ≡ b → (o : Option AppRow) → option_map (telling_more (closings_for more id)) (changed_if b (closed one) o) ≡ option_map (telling_more (closings_for (one ∷ more) id)) o
    by true e None = refl
    by true e (Some row) = rw e (ap (λ (l : List ClosingOf). Some (record row { closings = l })) (append_assoc row.closings (one ∷ []) (closings_for more id)))
    by false e None = refl
    by false e (Some row) = rw e refl

-- THE SAME ON BOTH SIDES

module _ (outbox more : List ClosingOf) (id : AppId) (retired : Bool) where
  more_agree : (o : Option AppRow) → (o ≡ None → retired ≡ false → closings_for more id ≡ []) → ClosingsAgree outbox id retired o → ClosingsAgree (outbox ++ more) id retired (option_map (telling_more (closings_for more id)) o)
  more_agree None unknown same = λ r. let none = same r in let also = unknown refl r in filter-append (λ one. is_app one.attempt.app id) outbox more ∙ rw (none, also) refl
  more_agree (Some row) unknown same = ap (λ (l : List ClosingOf). l ++ closings_for more id) same ∙ sym (filter-append (λ one. is_app one.attempt.app id) outbox more)

  -- the endings that are to be told
  pub closings_agree : (rows : List (AppId × Option AppRow)) → (row_of rows id ≡ None → retired ≡ false → closings_for more id ≡ []) → ClosingsAgree outbox id retired (row_of rows id)
      → ClosingsAgree (outbox ++ more) id retired (row_of (closed_in rows more) id)
  closings_agree rows unknown same = subst (λ (o : Option AppRow). ClosingsAgree (outbox ++ more) id retired o) (sym (rows_told more rows id)) (more_agree (row_of rows id) unknown same)

-- and what was said to masters and by them
pub masters_agree : (registered : List MasterState) (granted : List ContainerId) (retired : Bool) (attempt : AttemptId) (more : List ClosingOf) (rows : List (AppId × Option AppRow))
    → RowAgrees registered granted retired attempt (row_of rows attempt.app) → RowAgrees registered granted retired attempt (row_of (closed_in rows more) attempt.app)
masters_agree registered granted retired attempt more rows same =
    subst (λ (o : Option AppRow). RowAgrees registered granted retired attempt o) (sym (rows_told more rows attempt.app)) (by (row_of rows attempt.app) same)
  where
    current : (row : AppRow) (o : Option Current) → AttemptAgrees registered granted attempt row o → AttemptAgrees registered granted attempt (telling_more (closings_for more attempt.app) row) o
    current row None same = same
    current row (Some one) same = number row one (one.number == attempt.number) (nat_lt one.number attempt.number) same
      where
        number : (row : AppRow) (one : Current) (b c : Bool) → NumberAgrees b c registered granted attempt row one → NumberAgrees b c registered granted attempt (telling_more (closings_for more attempt.app) row) one
        number row one true c same = same
        number row one false true same = same
        number row one false false same = same

    by : (o : Option AppRow) → RowAgrees registered granted retired attempt o → RowAgrees registered granted retired attempt (option_map (telling_more (closings_for more attempt.app)) o)
    by None same = same
    by (Some row) same = current row row.current same
