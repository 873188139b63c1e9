-- The completed applications of a life that begins: each recorded one that has ended stands among them once, and they stand in the order of
-- their ends.
use Rattle.rm_invariant.proofs.Common.{◌≡◌, ◌≤◌, ℕ, ◌+◌, ◌&&◌, suc, List, [], ◌∷◌, Bool, true, false, Option, Some, nat_le, fold, map, refl, sym, ◌∙◌, ap, arith, nat_tests, AppId, AppRecord, is_app, is_some_and, record_of, app_itself, Completion, completion_of, completions_in, ended_in, put_completion, with_completed}
use Rattle.std.proofs.Common.{is_some, count_by}
use Rattle.rm_invariant.specs.apps.Completed.{AllLater, InOrder, completion_order}
use Rattle.rm_invariant.specs.apps.Recovered.{has_ended}
use Rattle.rm_invariant.specs.apps.View.{one_if}
use Rattle.rm_invariant.proofs.apps.Completing.{kept_at}
use Rattle.rm_invariant.proofs.apps.Counts.{at_front}

-- how often an application is among completions
abbrev among : AppId → List Completion → ℕ
among q xs = count_by (λ id. is_app id q) (map (λ (one : Completion). one.id) xs)

pub swap : (a b : Bool) (n : ℕ) → one_if a (one_if b n) ≡ one_if b (one_if a n)
swap true true n = refl
swap true false n = refl
swap false b n = refl

put_among : (q : AppId) (one : Completion) (xs : List Completion) → among q (put_completion one xs) ≡ one_if (is_app one.id q) (among q xs)
put_among q one [] = at_front (λ (id : AppId). is_app id q) one.id []
put_among q one (x ∷ xs) = by (nat_le x.order one.order) refl (put_among q one xs)
  where
    by : (b : Bool) → nat_le x.order one.order ≡ b → among q (put_completion one xs) ≡ one_if (is_app one.id q) (among q xs) → among q (put_completion one (x ∷ xs)) ≡ one_if (is_app one.id q) (among q (x ∷ xs))
    by true e rest =
        let left = at_front (λ (id : AppId). is_app id q) x.id (map (λ (one : Completion). one.id) (put_completion one xs)) in
        let right = at_front (λ (id : AppId). is_app id q) x.id (map (λ (one : Completion). one.id) xs) in
        rw e (left ∙ ap (one_if (is_app x.id q)) rest ∙ swap (is_app x.id q) (is_app one.id q) (among q xs) ∙ ap (one_if (is_app one.id q)) (sym right))
    by false e rest = rw e (at_front (λ (id : AppId). is_app id q) one.id (map (λ (one : Completion). one.id) (x ∷ xs)))

-- how often an application is recorded as ended
abbrev ended_at : AppId → List AppRecord → ℕ
ended_at q apps = count_by (λ app. is_app app.id q && is_some app.ending) apps

and_if : (a b : Bool) (n : ℕ) → b ≡ true → one_if a n ≡ one_if (a && b) n
and_if true b n e = rw e refl
and_if false b n e = refl

and_not : (a b : Bool) (n : ℕ) → b ≡ false → n ≡ one_if (a && b) n
and_not true b n e = rw e refl
and_not false b n e = refl

plus_if : (b : Bool) (m n : ℕ) → one_if b m + n ≡ m + one_if b n
plus_if true m n = omega arith
plus_if false m n = refl

all_among : (q : AppId) (apps : List AppRecord) (so_far : List Completion) → among q (fold with_completed so_far apps) ≡ among q so_far + ended_at q apps
all_among q [] so_far = omega arith
all_among q (app ∷ apps) so_far = by (is_some app.ending) refl (all_among q apps (put_completion (completion_of app) so_far)) (all_among q apps so_far)
  where
    front : ended_at q (app ∷ apps) ≡ one_if (is_app app.id q && is_some app.ending) (ended_at q apps)
    front = at_front (λ (one : AppRecord). is_app one.id q && is_some one.ending) app apps

    by : (b : Bool) → is_some app.ending ≡ b → among q (fold with_completed (put_completion (completion_of app) so_far) apps) ≡ among q (put_completion (completion_of app) so_far) + ended_at q apps
        → among q (fold with_completed so_far apps) ≡ among q so_far + ended_at q apps → among q (fold with_completed so_far (app ∷ apps)) ≡ among q so_far + ended_at q (app ∷ apps)
    by true e with_it without =
        let one = put_among q (completion_of app) so_far in
        let same = and_if (is_app app.id q) (is_some app.ending) (ended_at q apps) e in
        let step : fold with_completed so_far (app ∷ apps) ≡ fold with_completed (put_completion (completion_of app) so_far) apps = rw e refl in
        ap (among q) step ∙ with_it ∙ ap (λ n. n + ended_at q apps) one ∙ plus_if (is_app app.id q) (among q so_far) (ended_at q apps) ∙ ap (λ n. among q so_far + n) (same ∙ sym front)
    by false e with_it without =
        let same = and_not (is_app app.id q) (is_some app.ending) (ended_at q apps) e in
        let step : fold with_completed so_far (app ∷ apps) ≡ fold with_completed so_far apps = rw e refl in
        ap (among q) step ∙ without ∙ ap (λ n. among q so_far + n) (same ∙ sym front)

none_ended : (q : AppId) (apps : List AppRecord) → kept_at q apps ≡ 0 → ended_at q apps ≡ 0
none_ended q [] n = refl
none_ended q (app ∷ apps) n = by (is_app app.id q) refl (none_ended q apps)
  where
    by : (b : Bool) → is_app app.id q ≡ b → (kept_at q apps ≡ 0 → ended_at q apps ≡ 0) → ended_at q (app ∷ apps) ≡ 0
    by true e rest = absurd (let g : kept_at q (app ∷ apps) ≡ suc (kept_at q apps) = at_front (λ (one : AppRecord). is_app one.id q) app apps ∙ rw e refl in omega (arith, g, n))
    by false e rest =
        let g : kept_at q (app ∷ apps) ≡ kept_at q apps = at_front (λ (one : AppRecord). is_app one.id q) app apps ∙ rw e refl in
        let f : ended_at q (app ∷ apps) ≡ ended_at q apps = at_front (λ (one : AppRecord). is_app one.id q && is_some one.ending) app apps ∙ rw e refl in
        f ∙ rest (sym g ∙ n)

ended_once : (q : AppId) (apps : List AppRecord) → kept_at q apps ≤ 1 → ended_at q apps ≡ one_if (is_some_and has_ended (record_of apps q)) 0
ended_once q [] once = refl
ended_once q (app ∷ apps) once = by (is_app app.id q) refl (ended_once q apps)
  where
    by : (b : Bool) → is_app app.id q ≡ b → (kept_at q apps ≤ 1 → ended_at q apps ≡ one_if (is_some_and has_ended (record_of apps q)) 0) → ended_at q (app ∷ apps) ≡ one_if (is_some_and has_ended (record_of (app ∷ apps) q)) 0
    by true e rest =
        let g : kept_at q (app ∷ apps) ≡ suc (kept_at q apps) = at_front (λ (one : AppRecord). is_app one.id q) app apps ∙ rw e refl in
        let none = none_ended q apps (omega (arith, g, once)) in
        let f : ended_at q (app ∷ apps) ≡ one_if (is_some app.ending) (ended_at q apps) = at_front (λ (one : AppRecord). is_app one.id q && is_some one.ending) app apps ∙ rw e refl in
        let here : record_of (app ∷ apps) q ≡ Some app = rw e refl in
        f ∙ ap (one_if (is_some app.ending)) none ∙ ap (λ (o : Option AppRecord). one_if (is_some_and has_ended o) 0) (sym here)
    by false e rest =
        let g : kept_at q (app ∷ apps) ≡ kept_at q apps = at_front (λ (one : AppRecord). is_app one.id q) app apps ∙ rw e refl in
        let f : ended_at q (app ∷ apps) ≡ ended_at q apps = at_front (λ (one : AppRecord). is_app one.id q && is_some one.ending) app apps ∙ rw e refl in
        let here : record_of (app ∷ apps) q ≡ record_of apps q = rw e refl in
        f ∙ rest (omega (arith, g, once)) ∙ ap (λ (o : Option AppRecord). one_if (is_some_and has_ended o) 0) (sym here)

-- each stands there once where it has ended, and else never
pub ended_counts : (apps : List AppRecord) (q : AppId) → kept_at q apps ≤ 1 → count_by (λ id. is_app id q) (ended_in apps) ≡ one_if (is_some_and has_ended (record_of apps q)) 0
ended_counts apps q once =
    let none : among q [] + ended_at q apps ≡ ended_at q apps = omega arith in
    all_among q apps [] ∙ none ∙ ended_once q apps once

-- THE ORDER
-- no completion was earlier than so
abbrev AllFrom : ℕ → List Completion → Type 0
AllFrom n [] = Unit {0}
AllFrom n (x ∷ xs) = (n ≤ x.order) × AllFrom n xs

abbrev Rise : List Completion → Type 0
Rise [] = Unit {0}
Rise (x ∷ xs) = AllFrom x.order xs × Rise xs

less_from : (m n : ℕ) (xs : List Completion) → m ≤ n → AllFrom n xs → AllFrom m xs
less_from m n [] l h = tt
less_from m n (x ∷ xs) l h = (let a = h.0 in omega (arith, l, a), less_from m n xs l h.1)

put_from : (n : ℕ) (one : Completion) (xs : List Completion) → n ≤ one.order → AllFrom n xs → AllFrom n (put_completion one xs)
put_from n one [] l h = (l, tt)
put_from n one (x ∷ xs) l h = by (nat_le x.order one.order) refl (put_from n one xs l h.1)
  where
    by : (b : Bool) → nat_le x.order one.order ≡ b → AllFrom n (put_completion one xs) → AllFrom n (put_completion one (x ∷ xs))
    by true e rest = rw e (h.0, rest)
    by false e rest = rw e (l, h)

at_most : (a b : ℕ) → nat_le a b ≡ true → a ≤ b
at_most a b e = grind (arith, nat_tests)

above : (a b : ℕ) → nat_le a b ≡ false → b ≤ a
above a b e = grind (arith, nat_tests)

put_rises : (one : Completion) (xs : List Completion) → Rise xs → Rise (put_completion one xs)
put_rises one [] h = (tt, tt)
put_rises one (x ∷ xs) h = by (nat_le x.order one.order) refl (put_rises one xs h.1)
  where
    by : (b : Bool) → nat_le x.order one.order ≡ b → Rise (put_completion one xs) → Rise (put_completion one (x ∷ xs))
    by true e rest = rw e (put_from x.order one xs (at_most x.order one.order e) h.0, rest)
    by false e rest = let l = above x.order one.order e in rw e ((l, less_from one.order x.order xs l h.0), h)

all_rise : (apps : List AppRecord) (so_far : List Completion) → Rise so_far → Rise (fold with_completed so_far apps)
all_rise [] so_far h = h
all_rise (app ∷ apps) so_far h = by (is_some app.ending) refl (all_rise apps (put_completion (completion_of app) so_far)) (all_rise apps so_far)
  where
    by : (b : Bool) → is_some app.ending ≡ b → (Rise (put_completion (completion_of app) so_far) → Rise (fold with_completed (put_completion (completion_of app) so_far) apps)) → (Rise so_far → Rise (fold with_completed so_far apps))
        → Rise (fold with_completed so_far (app ∷ apps))
    by true e with_it without = rw e (with_it (put_rises (completion_of app) so_far h))
    by false e with_it without = rw e (without h)

-- each completion is that of a record
abbrev AllOf : List AppRecord → List Completion → Type 0
AllOf all [] = Unit {0}
AllOf all (x ∷ xs) = (completion_order all x.id ≡ x.order) × AllOf all xs

put_of : (all : List AppRecord) (one : Completion) (xs : List Completion) → completion_order all one.id ≡ one.order → AllOf all xs → AllOf all (put_completion one xs)
put_of all one [] l h = (l, tt)
put_of all one (x ∷ xs) l h = by (nat_le x.order one.order) refl (put_of all one xs l h.1)
  where
    by : (b : Bool) → nat_le x.order one.order ≡ b → AllOf all (put_completion one xs) → AllOf all (put_completion one (x ∷ xs))
    by true e rest = rw e (h.0, rest)
    by false e rest = rw e (l, h)

-- each of these records is the one that is found by its id
abbrev AllFound : List AppRecord → List AppRecord → Type 0
AllFound all [] = Unit {0}
AllFound all (app ∷ more) = (record_of all app.id ≡ Some app) × AllFound all more

all_of : (all apps : List AppRecord) (so_far : List Completion) → AllFound all apps → AllOf all so_far → AllOf all (fold with_completed so_far apps)
all_of all [] so_far f h = h
all_of all (app ∷ apps) so_far f h = by (is_some app.ending) refl (all_of all apps (put_completion (completion_of app) so_far) f.1) (all_of all apps so_far f.1)
  where
    by : (b : Bool) → is_some app.ending ≡ b → (AllOf all (put_completion (completion_of app) so_far) → AllOf all (fold with_completed (put_completion (completion_of app) so_far) apps)) → (AllOf all so_far → AllOf all (fold with_completed so_far apps))
        → AllOf all (fold with_completed so_far (app ∷ apps))
    by true e with_it without = let found = f.0 in rw e (with_it (put_of all (completion_of app) so_far (rw found refl) h))
    by false e with_it without = rw e (without h)

later_by : (all : List AppRecord) (n : ℕ) (xs : List Completion) → AllFrom n xs → AllOf all xs → AllLater all n (map (λ one. one.id) xs)
later_by all n [] l h = tt
later_by all n (x ∷ xs) l h = (let same = h.0 in rw same l.0, later_by all n xs l.1 h.1)

order_by : (all : List AppRecord) (xs : List Completion) → Rise xs → AllOf all xs → InOrder all (map (λ one. one.id) xs)
order_by all [] r h = tt
order_by all (x ∷ xs) r h = (let same = h.0 in rw same (later_by all x.order xs r.0 h.1), order_by all xs r.1 h.1)

found_under : (app : AppRecord) (apps more : List AppRecord) → kept_at app.id more ≡ 0 → AllFound apps more → AllFound (app ∷ apps) more
found_under app apps [] n k = tt
found_under app apps (one ∷ more) n k = (by (is_app app.id one.id) refl, found_under app apps more (rest (is_app one.id app.id) (at_front (λ (x : AppRecord). is_app x.id app.id) one more)) k.1)
  where
    rest : (b : Bool) → kept_at app.id (one ∷ more) ≡ one_if b (kept_at app.id more) → kept_at app.id more ≡ 0
    rest true g = absurd (omega (arith, g, n))
    rest false g = sym g ∙ n

    by : (b : Bool) → is_app app.id one.id ≡ b → record_of (app ∷ apps) one.id ≡ Some one
    by true e =
        let f : is_app one.id app.id ≡ true = grind (arith, nat_tests) in
        let g : kept_at app.id (one ∷ more) ≡ suc (kept_at app.id more) = at_front (λ (x : AppRecord). is_app x.id app.id) one more ∙ rw f refl in
        absurd (omega (arith, g, n))
    by false e = rw e k.0

all_found : (apps : List AppRecord) → ((q : AppId) → kept_at q apps ≤ 1) → AllFound apps apps
all_found [] once = tt
all_found (app ∷ apps) once =
    let own : is_app app.id app.id ≡ true = app_itself app.id in
    let g : kept_at app.id (app ∷ apps) ≡ suc (kept_at app.id apps) = at_front (λ (x : AppRecord). is_app x.id app.id) app apps ∙ rw own refl in
    let n : kept_at app.id apps ≡ 0 = let o = once app.id in omega (arith, g, o) in
    (rw own refl, found_under app apps apps n (all_found apps (λ q. fewer q (is_app app.id q) refl (once q))))
  where
    fewer : (q : AppId) (b : Bool) → is_app app.id q ≡ b → kept_at q (app ∷ apps) ≤ 1 → kept_at q apps ≤ 1
    fewer q true e o =
        let g : kept_at q (app ∷ apps) ≡ suc (kept_at q apps) = at_front (λ (x : AppRecord). is_app x.id q) app apps ∙ rw e refl in
        omega (arith, g, o)
    fewer q false e o =
        let g : kept_at q (app ∷ apps) ≡ kept_at q apps = at_front (λ (x : AppRecord). is_app x.id q) app apps ∙ rw e refl in
        omega (arith, g, o)

-- they stand in the order of their ends
pub ended_in_order : (apps : List AppRecord) → ((q : AppId) → kept_at q apps ≤ 1) → InOrder apps (ended_in apps)
ended_in_order apps once = order_by apps (completions_in apps) (all_rise apps [] tt) (all_of apps apps [] (all_found apps once) tt)
