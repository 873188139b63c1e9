-- Sound records stay sound with each operation that fits them, and a life can recover them.
use Rattle.rm_invariant.proofs.Common.{◌≡◌, ◌<◌, ℕ, ◌+◌, ◌&&◌, List, [], ◌∷◌, ◌++◌, Bool, true, false, Option, None, Some, is_none, find, map, length, refl, sym, ◌∙◌, ap, subst, arith, list_all, nat_tests, AppId, AttemptId, ContainerId, How, Op, AppRecord, AttemptRecord, is_app, is_attempt, Records, record_of, recorded, fits_records, with_record, with_end, new_record, all_ended, last_attempt, is_some_and, same_app}
use Rattle.std.proofs.Common.{◌==◌, is_some}
use Rattle.std.specs.Prelude.{option_and_then}
use Rattle.rm_types.specs.declared.operations.Op.TheVariants as ops
use Rattle.rm_types.proofs.EndLemmas.{all_ended-map, end_stays, id_ended}
use Rattle.rm_invariant.specs.apps.Invariant.{LastIsOpen, has_ended_or_is, is_open_one}
use Rattle.rm_invariant.specs.apps.Recovered.{Recoverable}
use Rattle.rm_invariant.specs.apps.View.{changed_if, gone_if, put_if}
use Rattle.rm_invariant.proofs.apps.Found.{found_gone, record_put}
use Rattle.rm_invariant.proofs.apps.Recorded.{record_changed}
use Rattle.rm_invariant.specs.masters.Sound.{RecordsAreSound, FrontEnded, IsSoundRecord, Numbered}

-- the last of attempts that are numbered has their number
pub numbered_last : (id : AppId) (n : ℕ) (attempts : List AttemptRecord) (last : AttemptRecord) → Numbered id n attempts → last_attempt attempts ≡ Some last → last.id ≡ record { app = id; number = n + length attempts }
numbered_last id n [] last k e = cc
numbered_last id n (one ∷ []) last k e = let same : one ≡ last = cc in subst (λ (a : AttemptRecord). a.id ≡ record { app = id; number = n + 1 }) same k.0
numbered_last id n (one ∷ next ∷ more) last k e =
    let rest = numbered_last id (n + 1) (next ∷ more) last k.1 e in
    let number : (n + 1) + length (next ∷ more) ≡ n + length (one ∷ next ∷ more) = omega arith in
    rw (← number) rest

front_but : (id : AppId) (n : ℕ) (attempts : List AttemptRecord) (last : AttemptRecord) → FrontEnded attempts → last_attempt attempts ≡ Some last → list_all (has_ended_or_is last.id) attempts ≡ true
front_but id n [] last f e = refl
front_but id n (one ∷ []) last f e =
    let same : one ≡ last = cc in
    let own : is_attempt last.id last.id ≡ true = grind (arith, nat_tests) in
    rw same (grind (arith, nat_tests))
front_but id n (one ∷ next ∷ more) last f e =
    let ended = f.0 in
    let rest = front_but id n (next ∷ more) last f.1 e in
    rw ended rest

front_all : (attempts : List AttemptRecord) (last : AttemptRecord) → FrontEnded attempts → last_attempt attempts ≡ Some last → is_some last.ending ≡ true → all_ended attempts ≡ true
front_all [] last f e s = refl
front_all (one ∷ []) last f e s = let same : one ≡ last = cc in let ended : is_some one.ending ≡ true = rw same s in rw ended refl
front_all (one ∷ next ∷ more) last f e s = let ended = f.0 in rw ended (front_all (next ∷ more) last f.1 e s)

-- the first attempt of the last one's id is the last one
pub last_found : (id : AppId) (n m : ℕ) (attempts : List AttemptRecord) (last : AttemptRecord) → Numbered id n attempts → last_attempt attempts ≡ Some last → m ≡ n + length attempts
    → find (λ one. is_attempt one.id (record { app = id; number = m })) attempts ≡ Some last
last_found id n m [] last k e l = cc
last_found id n m (one ∷ []) last k e l =
    let here = k.0 in
    let is : m ≡ n + 1 = omega (arith, l) in
    let own : is_attempt one.id (record { app = id; number = m }) ≡ true = rw (here, is) (grind (arith, nat_tests)) in
    rw own e
last_found id n m (one ∷ next ∷ more) last k e l =
    let here = k.0 in
    let other : is_attempt one.id (record { app = id; number = m }) ≡ false = rw here (grind (arith, nat_tests)) in
    rw other (last_found id (n + 1) m (next ∷ more) last k.1 e (omega (arith, l)))

-- an attempt of a greater number is none of them
pub above : (id : AppId) (n m : ℕ) (attempts : List AttemptRecord) → Numbered id n attempts → n + length attempts < m → find (λ one. is_attempt one.id (record { app = id; number = m })) attempts ≡ None
above id n m [] s l = refl
above id n m (one ∷ more) s l =
    let here = s.0 in
    let other : is_attempt one.id (record { app = id; number = m }) ≡ false = rw here (grind (arith, nat_tests)) in
    rw other (above id (n + 1) m more s.1 (omega (arith, l)))

some_or_nil : (attempts : List AttemptRecord) → last_attempt attempts ≡ None → attempts ≡ []
some_or_nil [] e = refl
some_or_nil (one ∷ []) e = cc
some_or_nil (one ∷ next ∷ more) e = let n = some_or_nil (next ∷ more) e in cc

pub ended_last : (attempts : List AttemptRecord) (last : AttemptRecord) → all_ended attempts ≡ true → last_attempt attempts ≡ Some last → is_some last.ending ≡ true
ended_last [] last a e = cc
ended_last (one ∷ []) last a e = let same : one ≡ last = cc in subst (λ (x : AttemptRecord). is_some x.ending ≡ true) same (front (is_some one.ending) a)
  where
    front : (b : Bool) → (b && true) ≡ true → b ≡ true
    front true h = refl
    front false h = h
ended_last (one ∷ next ∷ more) last a e = by (is_some one.ending) a (λ r. ended_last (next ∷ more) last r e)
  where
    by : (b : Bool) → (b && all_ended (next ∷ more)) ≡ true → (all_ended (next ∷ more) ≡ true → is_some last.ending ≡ true) → is_some last.ending ≡ true
    by true h rest = rest h
    by false h rest = cc

going_one : (id : AttemptId) (last : AttemptRecord) → last.id ≡ id → is_some last.ending ≡ false → is_open_one id last ≡ true
going_one id last same e = by last.ending refl
  where
    by : (x : Option _) → last.ending ≡ x → is_open_one id last ≡ true
    by None f = let own : is_attempt last.id id ≡ true = rw same (grind (arith, nat_tests)) in rw (own, f) refl
    by (Some x) f = absurd (let y = rw f at e in cc)

-- a sound record whose last attempt goes on
pub going_sound : (id : AppId) (one : AppRecord) (last : AttemptRecord) → IsSoundRecord id one → one.ending ≡ None → last_attempt one.attempts ≡ Some last → is_some last.ending ≡ false
    → LastIsOpen (Some one) (record { app = id; number = last.id.number })
going_sound id one last s open_ is e =
    let named = numbered_last id 0 one.attempts last s.numbered is in
    let number : last.id.number ≡ length one.attempts = ap (λ (i : AttemptId). i.number) named ∙ omega arith in
    let self : last.id ≡ record { app = id; number = last.id.number } = named ∙ ap (λ n. record { app = id; number = n }) (omega (arith, number)) in
    let found = last_found id 0 last.id.number one.attempts last s.numbered is (omega (arith, number)) in
    let but = front_but id 0 one.attempts last s.front is in
    let others : list_all (has_ended_or_is (record { app = id; number = last.id.number })) one.attempts ≡ true = subst (λ (i : AttemptId). list_all (has_ended_or_is i) one.attempts ≡ true) self but in
    let goes_on : is_some_and (is_open_one (record { app = id; number = last.id.number })) (last_attempt one.attempts) ≡ true = rw is (going_one (record { app = id; number = last.id.number }) last self e) in
    let none : is_some (option_and_then (λ one. one.ending) (find (λ one. is_attempt one.id (record { app = id; number = last.id.number })) one.attempts)) ≡ false = rw found e in
    (refl, open_, goes_on, number, others, none)

-- a sound record can be recovered
pub recoverable : (id : AppId) (one : AppRecord) → IsSoundRecord id one → Recoverable id one
recoverable id one s = by one.ending refl (last_attempt one.attempts) refl
  where
    unended : (last : AttemptRecord) → one.ending ≡ None → last_attempt one.attempts ≡ Some last → (b : Bool) → is_some last.ending ≡ b → Recoverable id one
    unended last open_ is true e =
        let all = front_all one.attempts last s.front is e in
        let named = numbered_last id 0 one.attempts last s.numbered is in
        Recoverable.stopped last open_ is e all (ap (λ (i : AttemptId). i.number) named ∙ omega arith)
    unended last open_ is false e = Recoverable.lives last open_ is e (going_sound id one last s open_ is e)

    by : (end : Option _) → one.ending ≡ end → (last : Option AttemptRecord) → last_attempt one.attempts ≡ last → Recoverable id one
    by None open_ None is = Recoverable.fresh open_ (some_or_nil one.attempts is)
    by None open_ (Some last) is = unended last open_ is (is_some last.ending) refl
    by (Some end) ended None is = Recoverable.over end ended (some_or_nil one.attempts is)
    by (Some end) ended (Some last) is = Recoverable.over_after end last ended is (ended_last one.attempts last (s.over (rw ended refl)) is)

-- a changed record is sound where the change keeps it so
changed_sound : (change : AppRecord → AppRecord) → ((app : AppRecord) → (change app).id ≡ app.id) → (id : AppId) (apps : List AppRecord) → RecordsAreSound apps
    → ((one : AppRecord) → record_of apps id ≡ Some one → IsSoundRecord id one → IsSoundRecord id (change one)) → RecordsAreSound (with_record change id apps)
changed_sound change keeps id apps each own = λ q one e. by q one (is_app id q) refl (record_of apps q) refl (sym (record_changed change keeps id q apps) ∙ e)
  where
    by : (q : AppId) (one : AppRecord) (b : Bool) → is_app id q ≡ b → (found : Option AppRecord) → record_of apps q ≡ found → changed_if (is_app id q) change (record_of apps q) ≡ Some one → IsSoundRecord q one
    by q one true i None f e = absurd (let x = rw (i, f) at e in cc)
    by q one true i (Some old) f e =
        let same : change old ≡ one = let x = rw (i, f) at e in cc in
        let here : id ≡ q = same_app id q i in
        let sound : IsSoundRecord q (change old) = subst (λ (x : AppId). IsSoundRecord x (change old)) here (own old (rw here f) (subst (λ (x : AppId). IsSoundRecord x old) (sym here) (each q old f))) in
        subst (λ (x : AppRecord). IsSoundRecord q x) same sound
    by q one false i found f e = each q one (let x = rw i at e in x)

numbered_more : (id : AppId) (n m : ℕ) (attempts : List AttemptRecord) (next : AttemptRecord) → Numbered id n attempts → next.id ≡ record { app = id; number = m } → m ≡ n + length attempts + 1 → Numbered id n (attempts ++ next ∷ [])
numbered_more id n m [] next k e l = let is : m ≡ n + 1 = omega (arith, l) in (rw (← is) e, tt)
numbered_more id n m (one ∷ more) next k e l = (k.0, numbered_more id (n + 1) m more next k.1 e (omega (arith, l)))

front_more : (attempts : List AttemptRecord) (next : AttemptRecord) → all_ended attempts ≡ true → FrontEnded (attempts ++ next ∷ [])
front_more [] next a = tt
front_more (one ∷ []) next a = (by (is_some one.ending) a, tt)
  where
    by : (b : Bool) → (b && true) ≡ true → b ≡ true
    by true h = refl
    by false h = h
front_more (one ∷ two ∷ more) next a = by (is_some one.ending) refl a (λ r. front_more (two ∷ more) next r)
  where
    by : (b : Bool) → is_some one.ending ≡ b → (b && all_ended (two ∷ more)) ≡ true → (all_ended (two ∷ more) ≡ true → FrontEnded (two ∷ (more ++ next ∷ []))) → FrontEnded (one ∷ two ∷ (more ++ next ∷ []))
    by true i h rest = (i, rest h)
    by false i h rest = cc

numbered_end : (id : AttemptId) (how : How) (text : List ℕ) (app : AppId) (n : ℕ) (attempts : List AttemptRecord) → Numbered app n attempts → Numbered app n (map (with_end id how text) attempts)
numbered_end id how text app n [] k = tt
numbered_end id how text app n (one ∷ more) k = (id_ended id how text one ∙ k.0, numbered_end id how text app (n + 1) more k.1)

front_end : (id : AttemptId) (how : How) (text : List ℕ) (attempts : List AttemptRecord) → FrontEnded attempts → FrontEnded (map (with_end id how text) attempts)
front_end id how text [] f = tt
front_end id how text (one ∷ []) f = tt
front_end id how text (one ∷ next ∷ more) f = (end_stays id how text one f.0, front_end id how text (next ∷ more) f.1)

-- what a fitting operation says of the record that it changes
record NextFits (one : AppRecord) (number : ℕ) : Type 0 where
  unended : one.ending ≡ None
  stopped : all_ended one.attempts ≡ true
  number_is : number ≡ length one.attempts + 1

next_fits : (one : AppRecord) (number : ℕ) → (is_none one.ending && (all_ended one.attempts && (number == length one.attempts + 1))) ≡ true → NextFits one number
next_fits one number e = by one.ending refl (all_ended one.attempts) refl e
  where
    by : (end : Option _) → one.ending ≡ end → (b : Bool) → all_ended one.attempts ≡ b → (is_none end && (b && (number == length one.attempts + 1))) ≡ true → NextFits one number
    by None f true g h = record { unended = f; stopped = g; number_is = grind (arith, nat_tests) }
    by None f false g h = cc
    by (Some x) f b g h = cc

ends_fit : (one : AppRecord) → (is_none one.ending && all_ended one.attempts) ≡ true → all_ended one.attempts ≡ true
ends_fit one e = by (is_none one.ending) e
  where
    by : (b : Bool) → (b && all_ended one.attempts) ≡ true → all_ended one.attempts ≡ true
    by true h = h
    by false h = cc

-- one more attempt
pub added_sound : (app : AppId) (one : AppRecord) (id : AttemptId) (master : ContainerId) (node : List ℕ) → IsSoundRecord app one → one.ending ≡ None → all_ended one.attempts ≡ true → id.app ≡ app → id.number ≡ length one.attempts + 1
    → IsSoundRecord app (record one { attempts = one.attempts ++ record { id = id; master = master; node = node; ending = None } ∷ [] })
added_sound app one id master node s open_ stopped here number =
    record {
      numbered = numbered_more app 0 id.number one.attempts _ s.numbered (ap (λ a. record { app = a; number = id.number }) here) (number ∙ omega arith);
      front = front_more one.attempts _ stopped;
      over = λ h. absurd (let x = rw open_ at h in cc);
    }

-- each operation that fits keeps records sound
pub sound_step : (r : Records) (op : Op) → RecordsAreSound r.apps → fits_records r op ≡ true → RecordsAreSound (recorded r op).apps
sound_step r (ops.Epoch next stamp) each fits = each
sound_step r (ops.App id s) each fits = λ q one e. by q one (is_app id q) (record_of r.apps q) refl (sym (record_put (new_record id s) q r.apps) ∙ e)
  where
    by : (q : AppId) (one : AppRecord) (b : Bool) (found : Option AppRecord) → record_of r.apps q ≡ found → put_if b (new_record id s) found ≡ Some one → IsSoundRecord q one
    by q one true None f e = let same : new_record id s ≡ one = cc in subst (λ (x : AppRecord). IsSoundRecord q x) same (record { numbered = tt; front = tt; over = λ h. cc })
    by q one false None f e = cc
    by q one true (Some old) f e = each q one (f ∙ e)
    by q one false (Some old) f e = each q one (f ∙ e)
sound_step r (ops.Attempt id master node) each fits =
    changed_sound _ (λ app. refl) id.app r.apps each
    (λ one f s.
    let known : (is_none one.ending && (all_ended one.attempts && (id.number == length one.attempts + 1))) ≡ true = rw f at fits in
    let n = next_fits one id.number known in
    let open_ = n.unended in
    record { numbered = numbered_more id.app 0 id.number one.attempts _ s.numbered refl (n.number_is ∙ omega arith); front = front_more one.attempts _ n.stopped; over = λ h. absurd (let x = rw open_ at h in cc) })
sound_step r (ops.AttemptEnd id how text) each fits =
    changed_sound _ (λ app. refl) id.app r.apps each
    (λ one f s. record { numbered = numbered_end id how text id.app 0 one.attempts s.numbered; front = front_end id how text one.attempts s.front; over = λ h. all_ended-map id how text one.attempts (s.over h) })
sound_step r (ops.AppEnd id how text) each fits =
    changed_sound _ (λ app. refl) id r.apps each (λ one f s. record { numbered = s.numbered; front = s.front; over = λ h. ends_fit one (rw f at fits) })
sound_step r (ops.Remove id) each fits = λ q one e. by q one (is_app id q) (sym (found_gone (λ (app : AppRecord). app.id) id q r.apps) ∙ e)
  where
    by : (q : AppId) (one : AppRecord) (b : Bool) → gone_if b (record_of r.apps q) ≡ Some one → IsSoundRecord q one
    by q one true e = cc
    by q one false e = each q one e
