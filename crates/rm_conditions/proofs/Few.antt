-- A bound of each record of a list of which each application has one.
use Rattle.std.proofs.Common.{◌≡◌, ℕ, zero, suc, ◌+◌, ◌<◌, nat_lt, List, [], ◌∷◌, Bool, true, false, None, Option, Some, length, slice_get, refl, sym, ◌∙◌, subst, arith}
use Rattle.std.proofs.lemmas.Bool.Decides.{nat_tests}
use Rattle.rm_types.specs.declared.ids.AppId.{AppId}
use Rattle.rm_types.specs.declared.records.AppRecord.{AppRecord}
use Rattle.rm_types.specs.Ids.{is_app}
use Rattle.rm_types.specs.Records.{record_of}
use Rattle.rm_types.proofs.IdLemmas.{app_itself, same_app}
use Rattle.rm_model.specs.Facts.{attempts_in}
use Rattle.rm_tree.specs.Numbers.{AreApart}
use Rattle.rm_conditions.specs.Counts.{HaveFewer}

-- the record of an application stands at some place
pub record Stands (apps : List AppRecord) (app : AppRecord) : Type 0 where
  pub place : ℕ
  pub is : slice_get apps place ≡ Some app

pub found_stands : (apps : List AppRecord) (id : AppId) (app : AppRecord) → record_of apps id ≡ Some app → Stands apps app
found_stands [] id app e = cc
found_stands (one ∷ apps) id app e = by (is_app one.id id) refl (found_stands apps id app)
  where
    by : (b : Bool) → is_app one.id id ≡ b → (record_of apps id ≡ Some app → Stands apps app) → Stands (one ∷ apps) app
    by true t more = record { place = 0; is = rw t at e }
    by false t more = let there = more (rw t at e) in record { place = suc there.place; is = there.is }

-- and one that stands at a place is found
pub place_found : (apps : List AppRecord) (place : ℕ) (app : AppRecord) → AreApart apps → slice_get apps place ≡ Some app → record_of apps app.id ≡ Some app
place_found [] place app apart e = cc
place_found (one ∷ apps) zero app apart e =
    let is : one ≡ app = cc in
    subst (λ (x : AppRecord). record_of (one ∷ apps) x.id ≡ Some x) is (rw (app_itself one.id) refl)
place_found (one ∷ apps) (suc place) app apart e = by (is_app one.id app.id) refl (place_found apps place app apart.1 e)
  where
    by : (b : Bool) → is_app one.id app.id ≡ b → record_of apps app.id ≡ Some app → record_of (one ∷ apps) app.id ≡ Some app
    by true t found = absurd (let none = apart.0 in let same = same_app one.id app.id t in let x = subst (λ (id : AppId). record_of apps id ≡ None) same none in let y = sym x ∙ found in cc)
    by false t found = rw t found

-- what bounds the number of attempts at each place bounds that of each application
pub fewer_found : (bound : ℕ) (apps : List AppRecord) → 0 < bound → HaveFewer bound apps → (id : AppId) → length (attempts_in (record_of apps id)) < bound
fewer_found bound apps some few id = by (record_of apps id) refl
  where
    by : (o : Option AppRecord) → record_of apps id ≡ o → length (attempts_in o) < bound
    by None e = some
    by (Some app) e = let there = found_stands apps id app e in few there.place app there.is

-- and the other way round
pub fewer_placed : (bound : ℕ) (apps : List AppRecord) → AreApart apps → ((id : AppId) → length (attempts_in (record_of apps id)) < bound) → HaveFewer bound apps
fewer_placed bound apps apart few place app e =
    subst (λ (o : Option AppRecord). length (attempts_in o) < bound) (place_found apps place app apart e) (few app.id)

-- a number that has a next one below a bound
pub less : (n bound : ℕ) → nat_lt n bound ≡ true → n + 1 < bound + 1
less n bound h = grind (arith, nat_tests)

pub less_true : (n bound : ℕ) → n + 1 < bound + 1 → nat_lt n bound ≡ true
less_true n bound h = grind (arith, nat_tests)
