-- Records and ids that pass a test by their application.
use Rattle.rm_store.proofs.Common.{◌≡◌, Bool, true, false, List, [], ◌∷◌, ◌++◌, filter, refl, ◌∙◌, ap, if◌then◌else◌, AppId, AppRecord, is_app, record_of, with_record}
use Rattle.rm_types.proofs.IdLemmas.{same_app}

module _ {X : Type 0} where
  pub filter_all : (test : X → Bool) → ((x : X) → test x ≡ true) → (xs : List X) → filter test xs ≡ xs
  filter_all test all [] = refl
  filter_all test all (x ∷ xs) = rw (all x) (ap (λ (l : List X). x ∷ l) (filter_all test all xs))

  -- both tests, one after the other
  pub filter_both : (one two both : X → Bool) → ((x : X) → both x ≡ (if one x then two x else false)) → (xs : List X) → filter two (filter one xs) ≡ filter both xs
  filter_both one two both is [] = refl
  filter_both one two both is (x ∷ xs) = by (one x) (two x) refl refl (filter_both one two both is xs)
    where
      by : (b c : Bool) → one x ≡ b → two x ≡ c → filter two (filter one xs) ≡ filter both xs → filter two (filter one (x ∷ xs)) ≡ filter both (x ∷ xs)
      by true true e f h = let g : both x ≡ true = is x ∙ rw (e, f) refl in rw (e, g) (rw f (ap (λ (l : List X). x ∷ l) h))
      by true false e f h = let g : both x ≡ false = is x ∙ rw (e, f) refl in rw (e, g) (rw f h)
      by false c e f h = let g : both x ≡ false = is x ∙ rw e refl in rw (e, g) h

  pub filter_push : (test : X → Bool) (xs : List X) (x : X) (b : Bool) → test x ≡ b → filter test (xs ++ x ∷ []) ≡ (if b then filter test xs ++ x ∷ [] else filter test xs)
  filter_push test [] x true e = rw e refl
  filter_push test [] x false e = rw e refl
  filter_push test (y ∷ xs) x b e = by (test y) refl b e (filter_push test xs x)
    where
      by : (c : Bool) → test y ≡ c → (b : Bool) → test x ≡ b → ((b : Bool) → test x ≡ b → filter test (xs ++ x ∷ []) ≡ (if b then filter test xs ++ x ∷ [] else filter test xs))
          → filter test ((y ∷ xs) ++ x ∷ []) ≡ (if b then filter test (y ∷ xs) ++ x ∷ [] else filter test (y ∷ xs))
      by true f true e h = rw f (ap (λ (l : List X). y ∷ l) (h true e))
      by true f false e h = rw f (ap (λ (l : List X). y ∷ l) (h false e))
      by false f true e h = rw f (h true e)
      by false f false e h = rw f (h false e)

-- a test by the application
module _ (passes : AppId → Bool) where
  abbrev pub passing : List AppRecord → List AppRecord
  passing apps = filter (λ app. passes app.id) apps

  module _ (change : AppRecord → AppRecord) (keeps : (app : AppRecord) → (change app).id ≡ app.id) where
    pub passing_changed : (id : AppId) (apps : List AppRecord) → passing (with_record change id apps) ≡ with_record change id (passing apps)
    passing_changed id [] = refl
    passing_changed id (app ∷ apps) = by (is_app app.id id) (passes app.id) refl refl (passing_changed id apps)
      where
        by : (b c : Bool) → is_app app.id id ≡ b → passes app.id ≡ c → passing (with_record change id apps) ≡ with_record change id (passing apps)
            → passing (with_record change id (app ∷ apps)) ≡ with_record change id (passing (app ∷ apps))
        by true true e f h = let g : passes (change app).id ≡ true = ap passes (keeps app) ∙ f in rw (e, f) (rw (g, e) (ap (λ (l : List AppRecord). change app ∷ l) h))
        by true false e f h = let g : passes (change app).id ≡ false = ap passes (keeps app) ∙ f in rw (e, f) (rw g h)
        by false true e f h = rw (e, f) (rw e (ap (λ (l : List AppRecord). app ∷ l) h))
        by false false e f h = rw (e, f) h

    -- where the application doesn't pass, nothing is changed among those that do
    pub passing_apart : (id : AppId) → passes id ≡ false → (apps : List AppRecord) → with_record change id (passing apps) ≡ passing apps
    passing_apart id never [] = refl
    passing_apart id never (app ∷ apps) = by (passes app.id) refl (is_app app.id id) refl (passing_apart id never apps)
      where
        by : (c : Bool) → passes app.id ≡ c → (b : Bool) → is_app app.id id ≡ b → with_record change id (passing apps) ≡ passing apps
            → with_record change id (passing (app ∷ apps)) ≡ passing (app ∷ apps)
        by true f true e h = absurd (let same = ap passes (same_app app.id id e) in cc)
        by true f false e h = rw f (rw e (ap (λ (l : List AppRecord). app ∷ l) h))
        by false f b e h = rw f h

  -- a record that passes is found among those that do
  pub passing_found : (id : AppId) → passes id ≡ true → (apps : List AppRecord) → record_of (passing apps) id ≡ record_of apps id
  passing_found id lets [] = refl
  passing_found id lets (app ∷ apps) = by (is_app app.id id) refl (passes app.id) refl (passing_found id lets apps)
    where
      by : (b : Bool) → is_app app.id id ≡ b → (c : Bool) → passes app.id ≡ c → record_of (passing apps) id ≡ record_of apps id → record_of (passing (app ∷ apps)) id ≡ record_of (app ∷ apps) id
      by true e true f h = rw (e, f) (rw e refl)
      by true e false f h = absurd (let same = ap passes (same_app app.id id e) in cc)
      by false e true f h = rw (e, f) (rw e h)
      by false e false f h = rw (e, f) h
