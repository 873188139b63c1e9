-- An operation that fits records shows in those after it, and not in those before.
use Rattle.std.proofs.Common.{◌≡◌, ℕ, ◌+◌, ◌==◌, Bool, true, false, not, ◌&&◌, nat_lt, List, [], ◌∷◌, ◌++◌, length, map, filter, Option, None, Some, is_none, is_some, refl, arith}
use Rattle.std.specs.List.{list_any}
use Rattle.std.specs.Option.{option_map}
use Rattle.std.proofs.lemmas.Bool.Decides.{nat_tests}
use Rattle.std.proofs.lemmas.Bool.{and_parts}
use Rattle.rm_types.specs.declared.ids.AppId.{AppId}
use Rattle.rm_types.specs.declared.ids.AttemptId.{AttemptId}
use Rattle.rm_types.specs.declared.operations.How.{How}
use Rattle.rm_types.specs.declared.operations.Op.{Op}
use Rattle.rm_types.specs.declared.operations.Op.TheVariants.{Epoch, App, Attempt, AttemptEnd, AppEnd, Remove}
use Rattle.rm_types.specs.declared.operations.Submission.{Submission}
use Rattle.rm_types.specs.declared.records.AppRecord.{AppRecord}
use Rattle.rm_types.specs.declared.records.AttemptRecord.{AttemptRecord}
use Rattle.rm_types.specs.Ids.{is_app, is_attempt}
use Rattle.rm_types.specs.Records.{Records, all_ended, fits_records, is_some_and, last_attempt, new_record, record_of, recorded, with_end, with_record}
use Rattle.rm_types.proofs.IdLemmas.{app_itself}
use Rattle.rm_tree.specs.Changes.{is_end_recorded, is_unended_last, with_attempt, with_ended, with_ending}
use Rattle.rm_tree.specs.Shows.{shows}

-- the record of an application that was changed, where its id stays
found_changed : (change : AppRecord → AppRecord) → ((app : AppRecord) → (change app).id ≡ app.id) → (id : AppId) (apps : List AppRecord)
    → record_of (with_record change id apps) id ≡ option_map change (record_of apps id)
found_changed change keeps id [] = refl
found_changed change keeps id (app ∷ apps) = by (is_app app.id id) refl (found_changed change keeps id apps)
  where
    by : (b : Bool) → is_app app.id id ≡ b → record_of (with_record change id apps) id ≡ option_map change (record_of apps id)
        → record_of (with_record change id (app ∷ apps)) id ≡ option_map change (record_of (app ∷ apps) id)
    by true e rest = let same : is_app (change app).id id ≡ true = rw (keeps app) e in rw (e, same) refl
    by false e rest = rw (e, e) rest

-- the record of an application that was added
found_added : (id : AppId) (submission : Submission) (apps : List AppRecord) → is_some (record_of (apps ++ new_record id submission ∷ []) id) ≡ true
found_added id submission [] = rw (app_itself id) refl
found_added id submission (app ∷ apps) = by (is_app app.id id) refl (found_added id submission apps)
  where
    by : (b : Bool) → is_app app.id id ≡ b → is_some (record_of (apps ++ new_record id submission ∷ []) id) ≡ true → is_some (record_of ((app ∷ apps) ++ new_record id submission ∷ []) id) ≡ true
    by true e rest = rw e refl
    by false e rest = rw e rest

-- none is left of an application that was removed
found_removed : (id : AppId) (apps : List AppRecord) → is_none (record_of (filter (λ app. not (is_app app.id id)) apps) id) ≡ true
found_removed id [] = refl
found_removed id (app ∷ apps) = by (is_app app.id id) refl (found_removed id apps)
  where
    by : (b : Bool) → is_app app.id id ≡ b → is_none (record_of (filter (λ one. not (is_app one.id id)) apps) id) ≡ true → is_none (record_of (filter (λ one. not (is_app one.id id)) (app ∷ apps)) id) ≡ true
    by true e rest = rw e rest
    by false e rest = rw (e, e) rest

-- the last of attempts that one was added to
length_more : (attempts : List AttemptRecord) (one : AttemptRecord) → length (attempts ++ one ∷ []) ≡ length attempts + 1
length_more [] one = refl
length_more (first ∷ attempts) one = let n = length_more attempts one in omega (arith, n)

-- the attempt that goes on stands there without an end
last_stands : (id : AttemptId) (attempts : List AttemptRecord) → is_some_and (λ last. is_attempt last.id id && is_none last.ending) (last_attempt attempts) ≡ true
    → list_any (λ one. is_attempt one.id id && is_none one.ending) attempts ≡ true
last_stands id [] e = cc
last_stands id (one ∷ []) e = rw e refl
last_stands id (one ∷ next ∷ more) e = by (is_attempt one.id id && is_none one.ending) refl (last_stands id (next ∷ more) e)
  where
    by : (b : Bool) → (is_attempt one.id id && is_none one.ending) ≡ b → list_any (λ one. is_attempt one.id id && is_none one.ending) (next ∷ more) ≡ true
        → list_any (λ one. is_attempt one.id id && is_none one.ending) (one ∷ next ∷ more) ≡ true
    by true t rest = rw t refl
    by false f rest = rw f rest

-- what stands there without an end stands there
unended_stands : (id : AttemptId) (attempts : List AttemptRecord) → list_any (λ one. is_attempt one.id id && is_none one.ending) attempts ≡ true → list_any (λ one. is_attempt one.id id) attempts ≡ true
unended_stands id [] e = cc
unended_stands id (one ∷ more) e = by (is_attempt one.id id) refl (unended_stands id more)
  where
    by : (b : Bool) → is_attempt one.id id ≡ b → (list_any (λ one. is_attempt one.id id && is_none one.ending) more ≡ true → list_any (λ one. is_attempt one.id id) more ≡ true)
        → list_any (λ one. is_attempt one.id id) (one ∷ more) ≡ true
    by true t rest = rw t refl
    by false f rest = rw f (rest (rw f at e))

-- with its end it still stands there
ended_stands : (id : AttemptId) (how : How) (text : List ℕ) (attempts : List AttemptRecord)
    → list_any (λ one. is_attempt one.id id) (map (with_end id how text) attempts) ≡ list_any (λ one. is_attempt one.id id) attempts
ended_stands id how text [] = refl
ended_stands id how text (one ∷ more) = by (is_attempt one.id id) refl (ended_stands id how text more)
  where
    by : (b : Bool) → is_attempt one.id id ≡ b → list_any (λ one. is_attempt one.id id) (map (with_end id how text) more) ≡ list_any (λ one. is_attempt one.id id) more
        → list_any (λ one. is_attempt one.id id) (map (with_end id how text) (one ∷ more)) ≡ list_any (λ one. is_attempt one.id id) (one ∷ more)
    by true t rest = rw (t, t) refl
    by false f rest = rw (f, f) rest

-- and not without one
none_unended : (id : AttemptId) (how : How) (text : List ℕ) (attempts : List AttemptRecord)
    → list_any (λ one. is_attempt one.id id && is_none one.ending) (map (with_end id how text) attempts) ≡ false
none_unended id how text [] = refl
none_unended id how text (one ∷ more) = by (is_attempt one.id id) refl (none_unended id how text more)
  where
    by : (b : Bool) → is_attempt one.id id ≡ b → list_any (λ one. is_attempt one.id id && is_none one.ending) (map (with_end id how text) more) ≡ false
        → list_any (λ one. is_attempt one.id id && is_none one.ending) (map (with_end id how text) (one ∷ more)) ≡ false
    by true t rest = rw (t, t) rest
    by false f rest = rw (f, f) rest

module _ (r : Records) where
  attempt_before : (id : AttemptId) (found : Option AppRecord) → is_some_and (λ app. is_none app.ending && (all_ended app.attempts && (id.number == length app.attempts + 1))) found ≡ true
      → is_some_and (λ app. not (nat_lt (length app.attempts) id.number)) found ≡ false
  attempt_before id None e = refl
  attempt_before id (Some app) e =
      let number = (and_parts (all_ended app.attempts) (id.number == length app.attempts + 1) (and_parts (is_none app.ending) _ e).1).1 in
      grind (arith, nat_tests)

  attempt_after : (id : AttemptId) (one : AttemptRecord) (found : Option AppRecord) → is_some_and (λ app. is_none app.ending && (all_ended app.attempts && (id.number == length app.attempts + 1))) found ≡ true
      → is_some_and (λ app. not (nat_lt (length app.attempts) id.number)) (option_map (with_attempt one) found) ≡ true
  attempt_after id one None e = cc
  attempt_after id one (Some app) e =
      let number = (and_parts (all_ended app.attempts) (id.number == length app.attempts + 1) (and_parts (is_none app.ending) _ e).1).1 in
      let more = length_more app.attempts one in
      grind (arith, nat_tests)

  end_before : (id : AttemptId) (found : Option AppRecord) → is_some_and (λ app. is_unended_last id app) found ≡ true → is_some_and (λ app. is_end_recorded id app) found ≡ false
  end_before id None e = refl
  end_before id (Some app) e = let without = last_stands id app.attempts e in rw (without, unended_stands id app.attempts without) refl

  end_after : (id : AttemptId) (how : How) (text : List ℕ) (found : Option AppRecord) → is_some_and (λ app. is_unended_last id app) found ≡ true
      → is_some_and (λ app. is_end_recorded id app) (option_map (with_ended id how text) found) ≡ true
  end_after id how text None e = cc
  end_after id how text (Some app) e =
      rw (ended_stands id how text app.attempts, unended_stands id app.attempts (last_stands id app.attempts e), none_unended id how text app.attempts) refl

  ending_before : (found : Option AppRecord) → is_some_and (λ app. is_none app.ending && all_ended app.attempts) found ≡ true → is_some_and (λ app. is_some app.ending) found ≡ false
  ending_before None e = refl
  ending_before (Some app) e = by app.ending (and_parts (is_none app.ending) (all_ended app.attempts) e).0
    where
      by : {X : Type 0} (ending : Option X) → is_none ending ≡ true → is_some ending ≡ false
      by None n = refl
      by (Some x) n = cc

  ending_after : (ending : How × List ℕ) (order : ℕ) (found : Option AppRecord) → is_some_and (λ app. is_none app.ending && all_ended app.attempts) found ≡ true
      → is_some_and (λ app. is_some app.ending) (option_map (with_ending ending.0 ending.1 order) found) ≡ true
  ending_after ending order None e = cc
  ending_after ending order (Some app) e = refl

  removed_before : (found : Option AppRecord) → is_some_and (λ app. is_some app.ending) found ≡ true → is_none found ≡ false
  removed_before None e = cc
  removed_before (Some app) e = refl

  added_before : (found : Option AppRecord) → is_none found ≡ true → is_some found ≡ false
  added_before None e = refl
  added_before (Some app) e = cc

  -- an operation that fits doesn't show before it
  pub shows_not : (op : Op) → fits_records r op ≡ true → shows r op ≡ false
  shows_not (Epoch next stamp) e = rw (and_parts (nat_lt r.next_epoch next) (nat_lt r.stamp stamp) e).0 refl
  shows_not (App id submission) e = added_before (record_of r.apps id) e
  shows_not (Attempt id master node) e = attempt_before id (record_of r.apps id.app) e
  shows_not (AttemptEnd id how text) e = end_before id (record_of r.apps id.app) e
  shows_not (AppEnd id how text) e = ending_before (record_of r.apps id) e
  shows_not (Remove id) e = removed_before (record_of r.apps id) e

  -- and shows after it
  pub shows_then : (op : Op) → fits_records r op ≡ true → shows (recorded r op) op ≡ true
  shows_then (Epoch next stamp) e = (let n : nat_lt next next ≡ false = grind (arith, nat_tests) in rw n refl)
  shows_then (App id submission) e = found_added id submission r.apps
  shows_then (Attempt id master node) e =
      rw (found_changed (with_attempt (record { id = id; master = master; node = node; ending = None })) (λ app. refl) id.app r.apps)
      (attempt_after id _ (record_of r.apps id.app) e)
  shows_then (AttemptEnd id how text) e = rw (found_changed (with_ended id how text) (λ app. refl) id.app r.apps) (end_after id how text (record_of r.apps id.app) e)
  shows_then (AppEnd id how text) e = rw (found_changed (with_ending how text r.applied) (λ app. refl) id r.apps) (ending_after (how, text) r.applied (record_of r.apps id) e)
  shows_then (Remove id) e = found_removed id r.apps
