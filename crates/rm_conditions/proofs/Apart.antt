-- Turns of records that differ.
use Rattle.std.proofs.Common.{◌≡◌, List, [], ◌∷◌, Bool, true, false, None, Option, map, filter, refl, ◌∙◌}
use Rattle.rm_types.specs.declared.containers.Turn.{Turn}
use Rattle.rm_types.specs.declared.ids.AppId.{AppId}
use Rattle.rm_types.specs.declared.ids.AttemptId.{AttemptId}
use Rattle.rm_types.specs.declared.records.AppRecord.{AppRecord}
use Rattle.rm_types.specs.Ids.{is_app, is_attempt}
use Rattle.rm_types.specs.Records.{record_of}
use Rattle.rm_types.proofs.IdLemmas.{app_back}
use Rattle.rm_book.specs.AskTables.{AsksOf}
use Rattle.rm_sched.specs.fit.Conditions.{TurnsAreApart as AreTurnsApart, has_turn}
use Rattle.rm_model.specs.Attempts.{attempt_at}
use Rattle.rm_tables.specs.declared.rows.AppRow.{AppRow}
use Rattle.rm_tables.specs.Passing.{asks_some, turn_in}
use Rattle.rm_tree.specs.Numbers.{AreApart}

-- the turns of these records
abbrev turns_of : List (AppId × Option AppRow) → List AsksOf → List AppRecord → List Turn
turns_of rows asks apps = map (turn_in rows) (filter (asks_some asks) (map attempt_at apps))

-- attempts of different applications differ
attempts_differ : (a b : AttemptId) → is_app b.app a.app ≡ false → is_attempt a b ≡ false
attempts_differ a b e = rw (app_back a.app b.app ∙ e) refl

no_turn : (rows : List (AppId × Option AppRow)) (asks : List AsksOf) (apps : List AppRecord) (id : AttemptId) → record_of apps id.app ≡ None → has_turn id (turns_of rows asks apps) ≡ false
no_turn rows asks [] id e = refl
no_turn rows asks (app ∷ apps) id e = by (is_app app.id id.app) refl (no_turn rows asks apps id)
  where
    by_asks : (b : Bool) → asks_some asks (attempt_at app) ≡ b → is_app app.id id.app ≡ false → has_turn id (turns_of rows asks apps) ≡ false → has_turn id (turns_of rows asks (app ∷ apps)) ≡ false
    by_asks true t apart rest =
        let differ : is_attempt id (attempt_at app) ≡ false = attempts_differ id (attempt_at app) apart in
        rw t (rw differ rest)
    by_asks false t apart rest = rw t rest

    by : (b : Bool) → is_app app.id id.app ≡ b → (record_of apps id.app ≡ None → has_turn id (turns_of rows asks apps) ≡ false) → has_turn id (turns_of rows asks (app ∷ apps)) ≡ false
    by true t more = absurd (let found = rw t at e in cc)
    by false t more = by_asks (asks_some asks (attempt_at app)) refl t (more (rw t at e))

pub turns_apart : (rows : List (AppId × Option AppRow)) (asks : List AsksOf) (apps : List AppRecord) → AreApart apps → AreTurnsApart (turns_of rows asks apps)
turns_apart rows asks [] apart = tt
turns_apart rows asks (app ∷ apps) apart = by (asks_some asks (attempt_at app)) refl (turns_apart rows asks apps apart.1)
  where
    by : (b : Bool) → asks_some asks (attempt_at app) ≡ b → AreTurnsApart (turns_of rows asks apps) → AreTurnsApart (turns_of rows asks (app ∷ apps))
    by true t rest = rw t (no_turn rows asks apps (attempt_at app) apart.0, rest)
    by false t rest = rw t rest
