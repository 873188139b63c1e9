-- What the end of an attempt leaves of the attempts' records.
use Rattle.std.proofs.Common.{◌≡◌, ℕ, suc, ◌-◌, List, [], ◌∷◌, length, slice_get, Bool, true, false, is_some, map, Some, refl, arith, if◌then◌else◌}
use Rattle.std.proofs.lemmas.Bool.{and_parts}
use Rattle.rm_types.specs.declared.ids.AttemptId.{AttemptId}
use Rattle.rm_types.specs.declared.operations.How.{How}
use Rattle.rm_types.specs.declared.records.AttemptRecord.{AttemptRecord}
use Rattle.rm_types.specs.Ids.{is_attempt}
use Rattle.rm_types.specs.Records.{all_ended, last_attempt, with_end}

pub id_ended : (id : AttemptId) (how : How) (text : List ℕ) (one : AttemptRecord) → (with_end id how text one).id ≡ one.id
id_ended id how text one = go (is_attempt one.id id)
  where
    go : (b : Bool) → (if b then record one { ending = Some (how, text) } else one).id ≡ one.id
    go true = refl
    go false = refl

pub end_stays : (id : AttemptId) (how : How) (text : List ℕ) (one : AttemptRecord) → is_some one.ending ≡ true → is_some (with_end id how text one).ending ≡ true
end_stays id how text one h = go (is_attempt one.id id)
  where
    go : (b : Bool) → is_some (if b then record one { ending = Some (how, text) } else one).ending ≡ true
    go true = refl
    go false = h

pub all_ended-map : (id : AttemptId) (how : How) (text : List ℕ) (attempts : List AttemptRecord) → all_ended attempts ≡ true → all_ended (map (with_end id how text) attempts) ≡ true
all_ended-map id how text [] h = refl
all_ended-map id how text (one ∷ attempts) h =
    let b = and_parts (is_some one.ending) (all_ended attempts) h in
    rw (end_stays id how text one b.0) (all_ended-map id how text attempts b.1)

pub length-ended : (id : AttemptId) (how : How) (text : List ℕ) (attempts : List AttemptRecord) → length (map (with_end id how text) attempts) ≡ length attempts
length-ended id how text [] = refl
length-ended id how text (one ∷ attempts) = let m = length-ended id how text attempts in omega (arith, m)

pub last_is : (attempts : List AttemptRecord) → last_attempt attempts ≡ slice_get attempts (length attempts - 1)
last_is [] = refl
last_is (x ∷ []) = refl
last_is (x ∷ next ∷ more) =
    let e : length (x ∷ next ∷ more) - 1 ≡ suc (length (next ∷ more) - 1) = omega arith in
    rw e (last_is (next ∷ more))
