-- Records at their places: none before one is of its application, where no two are of one.
use Rattle.std.proofs.Common.{◌≡◌, ℕ, ◌+◌, ◌-◌, suc, zero, List, [], ◌∷◌, ◌++◌, Bool, true, false, None, Some, slice_get, take, cond, refl, ap, sym, ◌∙◌, arith, append-nil}
use Rattle.std.specs.Prelude.{is_none, is_some}
use Rattle.std.specs.List.{flat_map}
use Rattle.std.proofs.lemmas.List.Concat.{flat_map-append}
use Rattle.std.proofs.lemmas.List.Sums.{sum_by-append, sum_by-cons}
use Rattle.std.proofs.lemmas.Bool.{false≢true}
use Rattle.rm_types.specs.declared.ids.AppId.{AppId}
use Rattle.rm_types.specs.declared.records.AppRecord.{AppRecord}
use Rattle.rm_types.specs.Ids.{is_app}
use Rattle.rm_types.specs.Records.{record_of}
use Rattle.rm_tree.specs.Numbers.{AreApart}
use Rattle.rm_tables.specs.Opening.{going_in, recovered_row, recovered_rows}
use Rattle.rm_tables.specs.Rows.{slot_of}

-- a record that stands somewhere is found
there : (apps : List AppRecord) (place : ℕ) (app : AppRecord) (id : AppId) → slice_get apps place ≡ Some app → is_app app.id id ≡ true → is_some (record_of apps id) ≡ true
there [] place app id e t = cc
there (one ∷ apps) zero app id e t =
    let same : one ≡ app = cc in
    let h : is_app one.id id ≡ true = rw same t in rw h refl
there (one ∷ apps) (suc place) app id e t = by (is_app one.id id) refl (there apps place app id e t)
  where
    by : (b : Bool) → is_app one.id id ≡ b → is_some (record_of apps id) ≡ true → is_some (record_of (one ∷ apps) id) ≡ true
    by true f rest = rw f refl
    by false f rest = rw f rest

pub absent_before : (apps : List AppRecord) (place : ℕ) (app : AppRecord) → AreApart apps → slice_get apps place ≡ Some app → slot_of (recovered_rows (take place apps)) app.id ≡ None
absent_before [] place app apart e = cc
absent_before (one ∷ apps) zero app apart e = refl
absent_before (one ∷ apps) (suc place) app apart e = by (is_app app.id one.id) refl (absent_before apps place app apart.1 e)
  where
    by : (b : Bool) → is_app app.id one.id ≡ b → slot_of (recovered_rows (take place apps)) app.id ≡ None → slot_of (recovered_rows (one ∷ take place apps)) app.id ≡ None
    by true f rest = absurd (let t = there apps place app one.id e f in let n = apart.0 in let x : is_some (record_of apps one.id) ≡ false = rw n refl in false≢true (sym x ∙ t))
    by false f rest = rw f rest

pub take_got : (apps : List AppRecord) (place : ℕ) (app : AppRecord) → slice_get apps place ≡ Some app → take (place + 1) apps ≡ take place apps ++ app ∷ []
take_got [] place app e = cc
take_got (one ∷ apps) zero app e = let same : one ≡ app = cc in ap (λ (x : AppRecord). x ∷ []) same
take_got (one ∷ apps) (suc place) app e = let n : suc place + 1 ≡ suc (place + 1) = omega arith in rw n (ap (λ xs. one ∷ xs) (take_got apps place app e))

pub one_more : (apps : List AppRecord) (app : AppRecord) → recovered_rows (apps ++ app ∷ []) ≡ recovered_rows apps ++ (app.id, Some (recovered_row app)) ∷ []
one_more [] app = refl
one_more (one ∷ apps) app = ap (λ xs. (one.id, Some (recovered_row one)) ∷ xs) (one_more apps app)

-- what one more record adds
pub more_events : {A : Type 0} (events : AppRecord → List A) (apps : List AppRecord) (place : ℕ) (app : AppRecord) → slice_get apps place ≡ Some app
    → flat_map events (take (place + 1) apps) ≡ flat_map events (take place apps) ++ events app
more_events events apps place app e =
    ap (flat_map events) (take_got apps place app e) ∙ flat_map-append events (take place apps) (app ∷ []) ∙ ap (λ l. flat_map events (take place apps) ++ l) (append-nil (events app))

pub more_going : (apps : List AppRecord) (place : ℕ) (app : AppRecord) → slice_get apps place ≡ Some app
    → going_in (take (place + 1) apps) ≡ going_in (take place apps) + cond (is_none app.ending) 1 0
more_going apps place app e =
    ap going_in (take_got apps place app e)
    ∙ sum_by-append (λ (one : AppRecord). cond (is_none one.ending) 1 0) (take place apps) (app ∷ [])
    ∙ ap (λ n. going_in (take place apps) + n) (sum_by-cons (λ (one : AppRecord). cond (is_none one.ending) 1 0) app [] ∙ omega arith)
