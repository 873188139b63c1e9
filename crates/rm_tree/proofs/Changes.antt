-- What operations on attempts leave of their numbers, and what the end of the last one changes.
use Rattle.std.proofs.Common.{◌≡◌, ℕ, suc, ◌+◌, ◌<◌, Bool, true, false, ◌&&◌, List, [], ◌∷◌, ◌++◌, length, map, Option, None, Some, is_none, refl, ap, ◌∙◌, arith}
use Rattle.std.proofs.lemmas.Bool.Decides.{nat_tests}
use Rattle.std.proofs.lemmas.List.{map-append}
use Rattle.rm_types.specs.declared.ids.AppId.{AppId}
use Rattle.rm_types.specs.declared.ids.AttemptId.{AttemptId}
use Rattle.rm_types.specs.declared.operations.How.{How}
use Rattle.rm_types.specs.declared.records.AppRecord.{AppRecord}
use Rattle.rm_types.specs.declared.records.AttemptRecord.{AttemptRecord}
use Rattle.rm_types.specs.Ids.{is_attempt}
use Rattle.rm_types.specs.Records.{with_end, last_attempt}
use Rattle.rm_tree.specs.Changes.{with_attempt, with_ended, with_ending, is_next, is_unended_last}
use Rattle.rm_tree.specs.Numbers.{AreAttemptsFrom}
use Rattle.rm_tree.specs.Entries.{IsRecordOf}

-- one more attempt has the next number
numbers_end : (id : AppId) (before : ℕ) (attempts : List AttemptRecord) (attempt : AttemptRecord) → AreAttemptsFrom id before attempts
    → attempt.id ≡ record { app = id; number = before + length attempts + 1 } → AreAttemptsFrom id before (attempts ++ attempt ∷ [])
numbers_end id before [] attempt h e = (let n : before + 0 + 1 ≡ suc before = omega arith in rw n at e, tt)
numbers_end id before (first ∷ attempts) attempt h e =
    let n : before + suc (length attempts) + 1 ≡ suc before + length attempts + 1 = omega arith in
    (h.0, numbers_end id (suc before) attempts attempt h.1 (let f = rw n at e in f))

-- an end leaves the numbers
numbers_ended : (id : AppId) (before : ℕ) (attempts : List AttemptRecord) (one : AttemptId) (how : How) (text : List ℕ) → AreAttemptsFrom id before attempts
    → AreAttemptsFrom id before (map (with_end one how text) attempts)
numbers_ended id before [] one how text h = tt
numbers_ended id before (attempt ∷ attempts) one how text h = (same (is_attempt attempt.id one) refl, numbers_ended id (suc before) attempts one how text h.1)
  where
    same : (b : Bool) → is_attempt attempt.id one ≡ b → (with_end one how text attempt).id ≡ record { app = id; number = suc before }
    same true e = rw e h.0
    same false e = rw e h.0

-- a record that is an application's stays its own
pub own_with_attempt : (attempt : AttemptRecord) (app : AppRecord) → is_next attempt.id.number app ≡ true → IsRecordOf attempt.id.app app → IsRecordOf attempt.id.app (with_attempt attempt app)
own_with_attempt attempt app n o =
    let number : attempt.id.number ≡ 0 + length app.attempts + 1 = grind (arith, nat_tests) in
    let whole : attempt.id ≡ record { app = attempt.id.app; number = 0 + length app.attempts + 1 } = (λ i. record { app = attempt.id.app; number = number i }) in
    record { same = o.same; numbered = numbers_end attempt.id.app 0 app.attempts attempt o.numbered whole }

pub own_with_ended : (one : AttemptId) (how : How) (text : List ℕ) (key : AppId) (app : AppRecord) → IsRecordOf key app → IsRecordOf key (with_ended one how text app)
own_with_ended one how text key app o = record { same = o.same; numbered = numbers_ended key 0 app.attempts one how text o.numbered }

pub own_with_ending : (how : How) (text : List ℕ) (order : ℕ) (key : AppId) (app : AppRecord) → IsRecordOf key app → IsRecordOf key (with_ending how text order app)
own_with_ending how text order key app o = record { same = o.same; numbered = o.numbered }

-- the last of so many has a greater number
last_later : (id : AppId) (before : ℕ) (front : List AttemptRecord) (last : AttemptRecord) → AreAttemptsFrom id before (front ++ last ∷ [])
    → before < last.id.number
last_later id before [] last h =
    let own : last.id.number ≡ suc before = ap (λ (a : AttemptId). a.number) h.0 in
    omega (arith, own)
last_later id before (attempt ∷ front) last h =
    let n = last_later id (suc before) front last h.1 in
    omega (arith, n)

-- an end of a later attempt leaves those before it
earlier_kept : (id : AppId) (before : ℕ) (front : List AttemptRecord) (last : AttemptRecord) (one : AttemptId) (how : How) (text : List ℕ)
    → AreAttemptsFrom id before (front ++ last ∷ []) → is_attempt last.id one ≡ true → map (with_end one how text) front ≡ front
earlier_kept id before [] last one how text h e = refl
earlier_kept id before (attempt ∷ front) last one how text h e =
    let later = last_later id (suc before) front last h.1 in
    let number : last.id.number ≡ one.number = grind (arith, nat_tests) in
    let own : attempt.id.number ≡ suc before = ap (λ (a : AttemptId). a.number) h.0 in
    let other : is_attempt attempt.id one ≡ false = differ attempt.id one (omega (arith, later, number, own)) in
    rw other (ap (λ more. attempt ∷ more) (earlier_kept id (suc before) front last one how text h.1 e))
  where
    differ : (a b : AttemptId) → a.number < b.number → is_attempt a b ≡ false
    differ a b n = grind (arith, nat_tests)

-- the end of the last attempt changes it alone
pub last_ended : (id : AppId) (front : List AttemptRecord) (last : AttemptRecord) (one : AttemptId) (how : How) (text : List ℕ)
    → AreAttemptsFrom id 0 (front ++ last ∷ []) → is_attempt last.id one ≡ true
    → map (with_end one how text) (front ++ last ∷ []) ≡ front ++ record last { ending = Some (how, text) } ∷ []
last_ended id front last one how text h e =
    let ended : with_end one how text last ≡ record last { ending = Some (how, text) } = rw e refl in
    map-append (with_end one how text) front (last ∷ [])
    ∙ ap (λ xs. xs ++ with_end one how text last ∷ []) (earlier_kept id 0 front last one how text h e)
    ∙ ap (λ x. front ++ x ∷ []) ended

-- a list with a last attempt is its front and it
pub record IsSplit (attempts : List AttemptRecord) (last : AttemptRecord) : Type 0 where
  pub front : List AttemptRecord
  pub is : attempts ≡ front ++ last ∷ []

pub split_last : (attempts : List AttemptRecord) (last : AttemptRecord) → last_attempt attempts ≡ Some last → IsSplit attempts last
split_last [] last e = cc
split_last (x ∷ []) last e = record { front = []; is = let f : x ≡ last = cc in ap (λ y. y ∷ []) f }
split_last (x ∷ next ∷ more) last e =
    let s = split_last (next ∷ more) last e in
    record { front = x ∷ s.front; is = ap (λ xs. x ∷ xs) s.is }

-- what an attempt that is the last, and goes on, is
pub record IsLast (id : AttemptId) (app : AppRecord) : Type 0 where
  pub last : AttemptRecord
  pub at : last_attempt app.attempts ≡ Some last
  pub same : is_attempt last.id id ≡ true

pub last_found : (id : AttemptId) (app : AppRecord) → is_unended_last id app ≡ true → IsLast id app
last_found id app e = by (last_attempt app.attempts) refl
  where
    both : (a b : Bool) → (a && b) ≡ true → a ≡ true
    both true b e = refl
    both false b e = cc

    by : (v : Option AttemptRecord) → last_attempt app.attempts ≡ v → IsLast id app
    by None n = absurd (let f = rw n at e in cc)
    by (Some last) n =
        let f = rw n at e in
        record { last = last; at = n; same = both (is_attempt last.id id) (is_none last.ending) f }
