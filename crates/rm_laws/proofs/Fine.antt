-- What holds of each record of a store that has no stray operation: an ended application has ended attempts, and attempts are
-- numbered up to how many they are.
use Rattle.rm_laws.proofs.Common.{◌≡◌, ℕ, ◌+◌, List, [], ◌∷◌, ◌++◌, length, Bool, true, false, ◌&&◌, ◌==◌, Option, None, Some, is_some, is_none, map, fold, refl, sym, ap, subst, arith, ◌∙◌, nat_le, list_all, nat_tests, and_parts, AppId, AttemptId, ContainerId, How, Op, Epoch, App, Attempt, AttemptEnd, AppEnd, Remove, AppRecord, AttemptRecord, is_app, is_attempt, Records, recorded, record_of, with_record, with_end, fits_records, all_ended, is_some_and, last_attempt, none_from_is_none, same_app}
use Rattle.std.proofs.Common.{option_map, length-append}
use Rattle.std.proofs.lemmas.List.Folds.{list_all-append}
use Rattle.rm_types.proofs.EndLemmas.{length-ended, all_ended-map, id_ended}
use Rattle.rm_laws.proofs.Views.{Fitting, find_changed, find_left, find_own_end, is_of, other_view}

pub record FineApp (app : AppRecord) : Type 0 where
  pub ended : is_some app.ending ≡ true → all_ended app.attempts ≡ true
  pub numbers : list_all (λ one. nat_le one.id.number (length app.attempts)) app.attempts ≡ true

abbrev pub Fine : Option AppRecord → Type 0
Fine None = Unit {0}
Fine (Some app) = FineApp app

pub some_and : {X : Type 0} (test : X → Bool) (o : Option X) → is_some_and test o ≡ true → (x : X) × (o ≡ Some x) × (test x ≡ true)
some_and test None h = cc
some_and test (Some x) h = (x, refl, h)

numbers-map : (id : AttemptId) (how : How) (text : List ℕ) (n : ℕ) (attempts : List AttemptRecord) → list_all (λ (one : AttemptRecord). nat_le one.id.number n) attempts ≡ true
    → list_all (λ (one : AttemptRecord). nat_le one.id.number n) (map (with_end id how text) attempts) ≡ true
numbers-map id how text n [] h = refl
numbers-map id how text n (one ∷ attempts) h =
    let b = and_parts (nat_le one.id.number n) (list_all (λ (x : AttemptRecord). nat_le x.id.number n) attempts) h in
    let a : nat_le (with_end id how text one).id.number n ≡ true = ap (λ (i : AttemptId). nat_le i.number n) (id_ended id how text one) ∙ b.0 in
    ap (λ (t : Bool). t && list_all (λ (x : AttemptRecord). nat_le x.id.number n) (map (with_end id how text) attempts)) a ∙ numbers-map id how text n attempts b.1

numbers-more : (n : ℕ) (attempts : List AttemptRecord) → list_all (λ (one : AttemptRecord). nat_le one.id.number n) attempts ≡ true
    → list_all (λ (one : AttemptRecord). nat_le one.id.number (n + 1)) attempts ≡ true
numbers-more n [] h = refl
numbers-more n (one ∷ attempts) h =
    let b = and_parts (nat_le one.id.number n) (list_all (λ (x : AttemptRecord). nat_le x.id.number n) attempts) h in
    let a : nat_le one.id.number (n + 1) ≡ true = grind (arith, nat_tests) in
    rw a (numbers-more n attempts b.1)

-- how operations change the record of their application
abbrev pub add_attempt : AttemptId → ContainerId → List ℕ → AppRecord → AppRecord
add_attempt id master node app = record app { attempts = app.attempts ++ record { id = id; master = master; node = node; ending = None } ∷ [] }

abbrev pub end_attempt : AttemptId → How → List ℕ → AppRecord → AppRecord
end_attempt id how text app = record app { attempts = map (with_end id how text) app.attempts }

abbrev pub end_app : How → List ℕ → ℕ → AppRecord → AppRecord
end_app how text told app = record app { ending = Some (how, text); end_order = told }

fine_added : (id : AttemptId) (master : ContainerId) (node : List ℕ) (app : AppRecord) → FineApp app → is_none app.ending ≡ true → (id.number == length app.attempts + 1) ≡ true → FineApp (add_attempt id master node app)
fine_added id master node app fine goes number =
    let new : AttemptRecord = record { id = id; master = master; node = node; ending = None } in
    let longer : length (app.attempts ++ new ∷ []) ≡ length app.attempts + 1 = length-append app.attempts (new ∷ []) in
    let last : nat_le id.number (length app.attempts + 1) ≡ true = grind (arith, nat_tests) in
    let all : list_all (λ (one : AttemptRecord). nat_le one.id.number (length app.attempts + 1)) (app.attempts ++ new ∷ []) ≡ true =
    list_all-append (λ (one : AttemptRecord). nat_le one.id.number (length app.attempts + 1)) app.attempts (new ∷ [])
    ∙ rw (numbers-more (length app.attempts) app.attempts fine.numbers, last) refl in
    record {
      ended = λ h. absurd (let n = none_from_is_none app.ending goes in let y : false ≡ true = ap (λ (o : Option (How × List ℕ)). is_some o) (sym n) ∙ h in cc);
      numbers = ap (λ (n : ℕ). list_all (λ (one : AttemptRecord). nat_le one.id.number n) (app.attempts ++ new ∷ [])) longer ∙ all;
    }

fine_ended : (id : AttemptId) (how : How) (text : List ℕ) (app : AppRecord) → FineApp app → FineApp (end_attempt id how text app)
fine_ended id how text app fine =
    record {
      ended = λ h. all_ended-map id how text app.attempts (fine.ended h);
      numbers = ap (λ (n : ℕ). list_all (λ (one : AttemptRecord). nat_le one.id.number n) (map (with_end id how text) app.attempts)) (length-ended id how text app.attempts)
          ∙ numbers-map id how text (length app.attempts) app.attempts fine.numbers;
    }

-- an operation that fits keeps a record fine
module _ (id : AppId) where
  -- the view at the operation's own application
  pub at_own : (one : AppId) (r : Records) → is_app one id ≡ true → record_of r.apps one ≡ record_of r.apps id
  at_own one r own = ap (λ (i : AppId). record_of r.apps i) (same_app one id own)

  pub changed_own : (change : AppRecord → AppRecord) → ((app : AppRecord) → (change app).id ≡ app.id) → (one : AppId) (r : Records) (app : AppRecord) → is_app one id ≡ true → record_of r.apps one ≡ Some app
      → record_of (with_record change one r.apps) id ≡ Some (change app)
  changed_own change ids one r app own is =
      find_changed id change ids one true own r.apps ∙ ap (λ (o : Option AppRecord). option_map change o) (sym (at_own one r own) ∙ is)

  pub own_fine : (r : Records) (op : Op) → Fine (record_of r.apps id) → is_of id op ≡ true → fits_records r op ≡ true → Fine (record_of (recorded r op).apps id)
  own_fine r (Epoch next stamp) fine own fits = fine
  own_fine r (App one submission) fine own fits =
      let none = none_from_is_none (record_of r.apps one) fits in
      rw (find_own_end id r.apps (record { id = one; submission = submission; attempts = []; ending = None; end_order = 0 }) own (sym (at_own one r own) ∙ none)) (record { ended = λ h. cc; numbers = refl })
  own_fine r (Attempt one master node) fine own fits =
      let s = some_and (λ app. is_none app.ending && (all_ended app.attempts && (one.number == length app.attempts + 1))) (record_of r.apps one.app) fits in
      let a = and_parts (is_none s.0.ending) (all_ended s.0.attempts && (one.number == length s.0.attempts + 1)) s.2 in
      let b = and_parts (all_ended s.0.attempts) (one.number == length s.0.attempts + 1) a.1 in
      let was : FineApp s.0 = subst Fine (sym (at_own one.app r own) ∙ s.1) fine in
      subst Fine (sym (changed_own (add_attempt one master node) (λ x. refl) one.app r s.0 own s.1)) (fine_added one master node s.0 was a.0 b.1)
  own_fine r (AttemptEnd one how text) fine own fits =
      let s = some_and (λ app. is_some_and (λ last. is_attempt last.id one && is_none last.ending) (last_attempt app.attempts)) (record_of r.apps one.app) fits in
      let was : FineApp s.0 = subst Fine (sym (at_own one.app r own) ∙ s.1) fine in
      subst Fine (sym (changed_own (end_attempt one how text) (λ x. refl) one.app r s.0 own s.1)) (fine_ended one how text s.0 was)
  own_fine r (AppEnd one how text) fine own fits =
      let s = some_and (λ app. is_none app.ending && all_ended app.attempts) (record_of r.apps one) fits in
      let b = and_parts (is_none s.0.ending) (all_ended s.0.attempts) s.2 in
      let was : FineApp s.0 = subst Fine (sym (at_own one r own) ∙ s.1) fine in
      subst Fine (sym (changed_own (end_app how text r.applied) (λ x. refl) one r s.0 own s.1)) (record { ended = λ h. b.1; numbers = was.numbers })
  own_fine r (Remove one) fine own fits = rw (find_left id one true own r.apps) tt

  step_fine : (r : Records) (op : Op) (own : Bool) → is_of id op ≡ own → Fine (record_of r.apps id) → fits_records r op ≡ true → Fine (record_of (recorded r op).apps id)
  step_fine r op true own fine fits = own_fine r op fine own fits
  step_fine r op false other fine fits = subst Fine (sym (other_view id r op other)) fine

  pub all_fine : (r : Records) (ops : List Op) → Fine (record_of r.apps id) → Fitting r ops → Fine (record_of (fold recorded r ops).apps id)
  all_fine r [] fine fit = fine
  all_fine r (op ∷ ops) fine fit = all_fine (recorded r op) ops (step_fine r op (is_of id op) refl fine fit.0) fit.1
