-- Which containers are wanted and which are stale, by the record of their application: how each operation that is kept changes it.
use Rattle.rm_invariant.proofs.Common.{◌≡◌, ℕ, ◌+◌, ◌<◌, ◌≤◌, ◌⊎◌, inl, inr, List, [], ◌∷◌, ◌++◌, Bool, true, false, ◌&&◌, ◌||◌, not, Option, None, Some, find, is_none, length, refl, subst, arith, nat_tests, AppId, AttemptId, ContainerId, How, AppRecord, AttemptRecord, is_attempt, is_container, all_ended, attempts_in, end_in}
use Rattle.std.proofs.Common.{is_some, option_map}
use Rattle.std.specs.Prelude.{option_and_then}
use Rattle.rm_tables.specs.Leaving.{attempt_in, stale_by, wanted_by}
use Rattle.rm_invariant.specs.masters.Sound.{Numbered}

-- with one more attempt nothing is stale that wasn't
find_more : (q : AttemptId) (attempts : List AttemptRecord) (new : AttemptRecord) → (find (λ one. is_attempt one.id q) (attempts ++ new ∷ []) ≡ find (λ one. is_attempt one.id q) attempts) ⊎ (find (λ one. is_attempt one.id q) (attempts ++ new ∷ []) ≡ Some new) ⊎ (find (λ one. is_attempt one.id q) (attempts ++ new ∷ []) ≡ None)
find_more q [] new = by (is_attempt new.id q) refl
  where
    by : (b : Bool) → is_attempt new.id q ≡ b → (find (λ one. is_attempt one.id q) (new ∷ []) ≡ None) ⊎ (find (λ one. is_attempt one.id q) (new ∷ []) ≡ Some new) ⊎ (find (λ one. is_attempt one.id q) (new ∷ []) ≡ None)
    by true e = inr (inl (rw e refl))
    by false e = inl (rw e refl)
find_more q (one ∷ more) new = by (is_attempt one.id q) refl (find_more q more new)
  where
    by : (b : Bool) → is_attempt one.id q ≡ b → (find (λ one. is_attempt one.id q) (more ++ new ∷ []) ≡ find (λ one. is_attempt one.id q) more) ⊎ (find (λ one. is_attempt one.id q) (more ++ new ∷ []) ≡ Some new) ⊎ (find (λ one. is_attempt one.id q) (more ++ new ∷ []) ≡ None)
        → (find (λ one. is_attempt one.id q) ((one ∷ more) ++ new ∷ []) ≡ find (λ one. is_attempt one.id q) (one ∷ more)) ⊎ (find (λ one. is_attempt one.id q) ((one ∷ more) ++ new ∷ []) ≡ Some new) ⊎ (find (λ one. is_attempt one.id q) ((one ∷ more) ++ new ∷ []) ≡ None)
    by true e h = inl (rw e refl)
    by false e h = rw e h

pub stale_with_new : (c : ContainerId) (new : AttemptRecord) → new.ending ≡ None → (found : Option AppRecord) → stale_by c (option_map (λ (app : AppRecord). record app { attempts = app.attempts ++ new ∷ [] }) found) ≡ true → stale_by c found ≡ true
stale_with_new c new open_ None s = s
stale_with_new c new open_ (Some app) s = by (find_more c.attempt app.attempts new) (is_some app.ending) refl
  where
    by : (find (λ one. is_attempt one.id c.attempt) (app.attempts ++ new ∷ []) ≡ find (λ one. is_attempt one.id c.attempt) app.attempts) ⊎ (find (λ one. is_attempt one.id c.attempt) (app.attempts ++ new ∷ []) ≡ Some new) ⊎ (find (λ one. is_attempt one.id c.attempt) (app.attempts ++ new ∷ []) ≡ None)
        → (b : Bool) → is_some app.ending ≡ b → stale_by c (Some app) ≡ true
    by x true e = rw e refl
    by (inl x) false e = rw x at s
    by (inr (inl x)) false e = absurd (let y = rw (x, e, open_) at s in cc)
    by (inr (inr x)) false e = absurd (let y = rw (x, e) at s in cc)

-- what is wanted isn't stale, and its attempt is kept
pub wanted_fresh : (c : ContainerId) (found : Option AppRecord) → wanted_by c found ≡ true → stale_by c found ≡ false
wanted_fresh c None w = cc
wanted_fresh c (Some app) w = by (attempt_in app c.attempt) refl app.ending refl
  where
    by : (o : Option AttemptRecord) → attempt_in app c.attempt ≡ o → (x : Option (How × List ℕ)) → app.ending ≡ x → stale_by c (Some app) ≡ false
    by o f (Some x) e = absurd (let y = rw e at w in cc)
    by None f None e = absurd (let y = rw (e, f) at w in cc)
    by (Some one) f None e = rw (e, f) (ends one.ending (rw (e, f) at w))
      where
        ends : (y : Option (How × List ℕ)) → (is_none y || (app.submission.keep && not (is_container one.master c))) ≡ true → (is_some y && not (app.submission.keep && not (is_container one.master c))) ≡ false
        ends None h = refl
        ends (Some y) h = rw h refl

pub wanted_kept : (c : ContainerId) (found : Option AppRecord) → wanted_by c found ≡ true → is_some (find (λ one. is_attempt one.id c.attempt) (attempts_in found)) ≡ true
wanted_kept c None w = cc
wanted_kept c (Some app) w = by (attempt_in app c.attempt) refl
  where
    by : (o : Option AttemptRecord) → attempt_in app c.attempt ≡ o → is_some (find (λ one. is_attempt one.id c.attempt) (attempts_in (Some app))) ≡ true
    by None f = absurd (go (is_none app.ending) (rw f at w))
      where
        go : (b : Bool) → (b && false) ≡ true → ⊥
        go true h = cc
        go false h = cc
    by (Some one) f = rw f refl

-- an attempt that isn't kept, or has no end, of an application that goes on has nothing stale
pub going_fresh : (c : ContainerId) (found : Option AppRecord) → is_some found ≡ true → end_in found ≡ None → is_some (option_and_then (λ one. one.ending) (find (λ one. is_attempt one.id c.attempt) (attempts_in found))) ≡ false → stale_by c found ≡ false
going_fresh c None s e n = cc
going_fresh c (Some app) s e n = by (attempt_in app c.attempt) refl
  where
    open_ : app.ending ≡ None
    open_ = e

    by : (o : Option AttemptRecord) → attempt_in app c.attempt ≡ o → stale_by c (Some app) ≡ false
    by None f = rw (open_, f) refl
    by (Some one) f = let x : is_some one.ending ≡ false = rw f at n in rw (open_, f, x) refl

-- the attempts are numbered: those in the range are found, and what is found is in the range
pub among_found : (id : AppId) (n m : ℕ) (attempts : List AttemptRecord) → Numbered id n attempts → n < m → m ≤ n + length attempts → is_some (find (λ one. is_attempt one.id (record { app = id; number = m })) attempts) ≡ true
among_found id n m [] s lo hi = absurd (omega (arith, lo, hi))
among_found id n m (one ∷ more) s lo hi = by (is_attempt one.id (record { app = id; number = m })) refl (λ l. among_found id (n + 1) m more s.1 l (omega (arith, hi)))
  where
    by : (b : Bool) → is_attempt one.id (record { app = id; number = m }) ≡ b → (n + 1 < m → is_some (find (λ one. is_attempt one.id (record { app = id; number = m })) more) ≡ true)
        → is_some (find (λ one. is_attempt one.id (record { app = id; number = m })) (one ∷ more)) ≡ true
    by true e rest = rw e refl
    by false e rest =
        let here = s.0 in
        let apart : n + 1 < m = let x = rw here at e in grind (arith, nat_tests) in
        rw e (rest apart)

pub found_among : (id : AppId) (n m : ℕ) (attempts : List AttemptRecord) → Numbered id n attempts → is_some (find (λ one. is_attempt one.id (record { app = id; number = m })) attempts) ≡ true → (n < m) × (m ≤ n + length attempts)
found_among id n m [] s f = cc
found_among id n m (one ∷ more) s f = by (is_attempt one.id (record { app = id; number = m })) refl (found_among id (n + 1) m more s.1)
  where
    by : (b : Bool) → is_attempt one.id (record { app = id; number = m }) ≡ b → (is_some (find (λ one. is_attempt one.id (record { app = id; number = m })) more) ≡ true → (n + 1 < m) × (m ≤ n + 1 + length more)) → (n < m) × (m ≤ n + length (one ∷ more))
    by true e rest = let here = s.0 in let is : n + 1 ≡ m = let x = rw here at e in grind (arith, nat_tests) in (omega (arith, is), omega (arith, is))
    by false e rest = let r = rest (rw e at f) in (omega (arith, r.0), omega (arith, r.1))

-- each attempt has ended: one of an application that doesn't keep has nothing but what is stale
ended_found : (q : AttemptId) (attempts : List AttemptRecord) (one : AttemptRecord) → all_ended attempts ≡ true → find (λ a. is_attempt a.id q) attempts ≡ Some one → is_some one.ending ≡ true
ended_found q [] one a f = cc
ended_found q (x ∷ more) one a f = by (is_attempt x.id q) refl (is_some x.ending) refl (ended_found q more one)
  where
    by : (b : Bool) → is_attempt x.id q ≡ b → (d : Bool) → is_some x.ending ≡ d → (all_ended more ≡ true → find (λ a. is_attempt a.id q) more ≡ Some one → is_some one.ending ≡ true) → is_some one.ending ≡ true
    by b e false d rest = absurd (let y = rw d at a in cc)
    by true e true d rest = let same : x ≡ one = let y = rw e at f in cc in subst (λ (r : AttemptRecord). is_some r.ending ≡ true) same d
    by false e true d rest = rest (rw d at a) (rw e at f)

pub ended_stale : (c : ContainerId) (app : AppRecord) → app.submission.keep ≡ false → all_ended app.attempts ≡ true → is_some (attempt_in app c.attempt) ≡ true → stale_by c (Some app) ≡ true
ended_stale c app keep all s = by (attempt_in app c.attempt) refl
  where
    last : (b : Bool) → (b || true) ≡ true
    last true = refl
    last false = refl

    by : (o : Option AttemptRecord) → attempt_in app c.attempt ≡ o → stale_by c (Some app) ≡ true
    by None f = absurd (let x = rw f at s in cc)
    by (Some one) f = let e = ended_found c.attempt app.attempts one all f in rw (f, keep, e) (last (is_some app.ending))
