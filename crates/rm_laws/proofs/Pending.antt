-- Each ask and each living container is of an attempt that is kept, or the next one of an application whose attempts have ended;
-- or its application was removed.
use Rattle.rm_laws.proofs.Common.{◌≡◌, ◌⊎◌, ℕ, zero, suc, ◌+◌, ◌≤◌, List, [], ◌∷◌, ◌++◌, length, Bool, true, false, ◌||◌, ◌&&◌, not, cond, if◌then◌else◌, ◌==◌, Option, None, Some, is_some, is_none, map, filter, find, fold, refl, sym, ap, subst, arith, ◌∙◌, inl, inr, nat_le, nat_lt, list_any, list_all, range_with_len, nat_tests, or_right, or_left, and_parts, Ask, AskOf, Grant, Turn, AppId, AttemptId, ContainerId, Op, Epoch, App, Attempt, AttemptEnd, AppEnd, Remove, AppRecord, AttemptRecord, Resource, Settings, is_app, is_attempt, PassNode, fitting, turn_grant, by_priority, left_of, seq_after, with_granted, with_turn, Records, recorded, record_of, fits_records, all_ended, is_some_and, last_attempt, none_from_is_none, same_attempt, NodeState, Row, Scene, attempts_in, has_app, is_app_op, asks_of, first_fit_on, pass_node, pass_of, row_granted, turns}
use Rattle.std.proofs.Common.{length-append}
use Rattle.rm_types.proofs.EndLemmas.{length-ended, all_ended-map}
use Rattle.rm_model.specs.MasterReplies.{is_line_of, with_ask, with_asks}
use Rattle.rm_model.specs.Passing.{answered_ask, ask_lessened, asks_lessened, line_lessened, without_granted}
use Rattle.rm_laws.proofs.Lists.{Each, each-append}
use Rattle.rm_laws.proofs.Told.{any-filter, any-map, last_there, pushed, stays_there, either_true}
use Rattle.rm_laws.proofs.Views.{find_left, is_of, other_view}
use Rattle.rm_laws.proofs.Fine.{Fine, add_attempt, at_own, changed_own, end_app, end_attempt, some_and}

-- an attempt by the record of its application and the retired ids
abbrev pub Pend : Option AppRecord → List AppId → AttemptId → Type 0
Pend None retired t = has_app retired t.app ≡ true
Pend (Some app) retired t = (t.number ≤ length app.attempts) ⊎ ((t.number ≡ length app.attempts + 1) × (all_ended app.attempts ≡ true))

-- an attempt has an ask, or a living container
abbrev pub asks_for : List AskOf → AttemptId → Bool
asks_for asks t = list_any (λ one. is_attempt one.attempt t) asks

abbrev pub lives_for : List Row → AttemptId → Bool
lives_for book t = list_any (λ row. is_attempt row.id.attempt t) book

abbrev pub Pending : List AppRecord → List AppId → List AskOf → List Row → Type 0
Pending apps retired asks book = (t : AttemptId) → (asks_for asks t || lives_for book t) ≡ true → Pend (record_of apps t.app) retired t

-- fewer asks and rows
pub fewer : (apps : List AppRecord) (retired : List AppId) (asks later : List AskOf) (book rows : List Row) → ((t : AttemptId) → asks_for later t ≡ true → asks_for asks t ≡ true)
    → ((t : AttemptId) → lives_for rows t ≡ true → lives_for book t ≡ true) → Pending apps retired asks book → Pending apps retired later rows
fewer apps retired asks later book rows a b p t h = go (either_true (asks_for later t) (lives_for rows t) h)
  where
    go : (asks_for later t ≡ true) ⊎ (lives_for rows t ≡ true) → Pend (record_of apps t.app) retired t
    go (inl x) = p t (or_left (asks_for asks t) (lives_for book t) (a t x))
    go (inr x) = p t (or_right (asks_for asks t) (lives_for book t) (b t x))

-- more asks or rows, of attempts that may have them
pub more : (apps : List AppRecord) (retired : List AppId) (asks later : List AskOf) (book rows : List Row)
    → ((t : AttemptId) → asks_for later t ≡ true → (asks_for asks t ≡ true) ⊎ Pend (record_of apps t.app) retired t)
    → ((t : AttemptId) → lives_for rows t ≡ true → (lives_for book t ≡ true) ⊎ Pend (record_of apps t.app) retired t)
    → Pending apps retired asks book → Pending apps retired later rows
more apps retired asks later book rows a b p t h = go (either_true (asks_for later t) (lives_for rows t) h)
  where
    from : (asks_for asks t ≡ true) ⊎ Pend (record_of apps t.app) retired t → Pend (record_of apps t.app) retired t
    from (inl x) = p t (or_left (asks_for asks t) (lives_for book t) x)
    from (inr x) = x

    from_rows : (lives_for book t ≡ true) ⊎ Pend (record_of apps t.app) retired t → Pend (record_of apps t.app) retired t
    from_rows (inl x) = p t (or_right (asks_for asks t) (lives_for book t) x)
    from_rows (inr x) = x

    go : (asks_for later t ≡ true) ⊎ (lives_for rows t ≡ true) → Pend (record_of apps t.app) retired t
    go (inl x) = from (a t x)
    go (inr x) = from_rows (b t x)

-- asks after a master's
with_ask_of : (attempt t : AttemptId) (lines : List AskOf) (ask : Ask) → asks_for (with_ask attempt lines ask) t ≡ true → (asks_for lines t ≡ true) ⊎ (is_attempt attempt t ≡ true)
with_ask_of attempt t lines ask = go (ask.count == 0) (list_any (is_line_of attempt ask) lines)
  where
    kept_attempt_of : (b : Bool) (line : AskOf) → is_line_of attempt ask line ≡ b → is_attempt (if b then record line { ask = ask } else line).attempt t ≡ is_attempt line.attempt t
    kept_attempt_of true line e = refl
    kept_attempt_of false line e = refl

    go : (z b : Bool) → asks_for (if z then filter (λ line. not (is_line_of attempt ask line)) lines else
        (if b then map (λ line. if is_line_of attempt ask line then record line { ask = ask } else line) lines else lines ++ record { attempt = attempt; ask = ask } ∷ [])) t ≡ true
        → (asks_for lines t ≡ true) ⊎ (is_attempt attempt t ≡ true)
    go true b h = inl (any-filter (λ (one : AskOf). is_attempt one.attempt t) (λ line. not (is_line_of attempt ask line)) lines h)
    go false true h = inl (sym (any-map (λ (one : AskOf). is_attempt one.attempt t) (λ line. if is_line_of attempt ask line then record line { ask = ask } else line) (λ line. kept_attempt_of (is_line_of attempt ask line) line refl) lines) ∙ h)
    go false false h = pushed (λ (one : AskOf). is_attempt one.attempt t) lines (record { attempt = attempt; ask = ask }) h

pub with_asks_of : (attempt t : AttemptId) (asks : List Ask) (lines : List AskOf) → asks_for (with_asks attempt lines asks) t ≡ true → (asks_for lines t ≡ true) ⊎ (is_attempt attempt t ≡ true)
with_asks_of attempt t [] lines h = inl h
with_asks_of attempt t (ask ∷ asks) lines h = go (with_asks_of attempt t asks (with_ask attempt lines ask) h)
  where
    go : (asks_for (with_ask attempt lines ask) t ≡ true) ⊎ (is_attempt attempt t ≡ true) → (asks_for lines t ≡ true) ⊎ (is_attempt attempt t ≡ true)
    go (inl x) = with_ask_of attempt t lines ask x
    go (inr x) = inr x

-- asks after grants
lessened_asks : (t attempt : AttemptId) (asks : List AskOf) (answered : Option Ask) → asks_for (asks_lessened attempt asks answered) t ≡ true → asks_for asks t ≡ true
lessened_asks t attempt asks None h = h
lessened_asks t attempt asks (Some answered) h =
    sym (any-map (λ (one : AskOf). is_attempt one.attempt t) (line_lessened attempt answered) (λ one. same (is_attempt one.attempt attempt) one) asks)
    ∙ any-filter (λ (one : AskOf). is_attempt one.attempt t) (λ one. not (is_attempt one.attempt attempt) || nat_lt 0 one.ask.count) (map (line_lessened attempt answered) asks) h
  where
    same : (b : Bool) (one : AskOf) → is_attempt (if b then record one { ask = ask_lessened answered one.ask } else one).attempt t ≡ is_attempt one.attempt t
    same true one = refl
    same false one = refl

granted_asks : (t : AttemptId) (asks : List AskOf) (grant : Grant) → asks_for (without_granted asks grant) t ≡ true → asks_for asks t ≡ true
granted_asks t asks grant h = lessened_asks t grant.id.attempt asks (answered_ask asks grant) h

pub granted_all : (t : AttemptId) (grants : List Grant) (asks : List AskOf) → asks_for (fold without_granted asks grants) t ≡ true → asks_for asks t ≡ true
granted_all t [] asks h = h
granted_all t (grant ∷ grants) asks h = granted_asks t asks grant (granted_all t grants (without_granted asks grant) h)

-- a pass grants to attempts that ask
filter_none : (p : AskOf → Bool) (asks : List AskOf) → list_any p asks ≡ false → filter p asks ≡ []
filter_none p [] h = refl
filter_none p (one ∷ asks) h = go (p one) (filter_none p asks) h
  where
    go : (b : Bool) → (list_any p asks ≡ false → filter p asks ≡ []) → (b || list_any p asks) ≡ false → cond b (one ∷ filter p asks) (filter p asks) ≡ []
    go true more h = cc
    go false more h = more h

module _ (asks : List AskOf) where
  abbrev pub Asking : Grant → Type 0
  Asking grant = asks_for asks grant.id.attempt ≡ true

  each_range : (pass : PassNode) (turn : Turn) (size : Resource) (n seq : ℕ) → asks_for asks turn.attempt ≡ true → Each Asking (map (turn_grant pass turn size) (range_with_len seq n))
  each_range pass turn size zero seq h = tt
  each_range pass turn size (suc n) seq h = (h, each_range pass turn size n (seq + 1) h)

  each_ask : (pass : PassNode) (turn : Turn) (list : List Ask) (grants : List Grant) → asks_for asks turn.attempt ≡ true → Each Asking grants → Each Asking (fold (with_granted pass turn) grants list)
  each_ask pass turn [] grants h e = e
  each_ask pass turn (ask ∷ list) grants h e =
      each_ask pass turn list (with_granted pass turn grants ask) h
      (each-append Asking grants (map (turn_grant pass turn ask.size) (range_with_len (seq_after turn grants) (fitting ask.count ask.size (left_of pass grants)))) e
      (each_range pass turn ask.size (fitting ask.count ask.size (left_of pass grants)) (seq_after turn grants) h))

  turn_asks : (pass : PassNode) (turn : Turn) (grants : List Grant) → Each Asking grants → (b : Bool) → asks_for asks turn.attempt ≡ b → Each Asking (with_turn pass (asks_of asks) grants turn)
  turn_asks pass turn grants e true h = each_ask pass turn (by_priority (asks_of asks turn.attempt)) grants h e
  turn_asks pass turn grants e false h =
      let none : filter (λ (one : AskOf). is_attempt one.attempt turn.attempt) asks ≡ [] = filter_none (λ (one : AskOf). is_attempt one.attempt turn.attempt) asks h in
      let same : with_turn pass (asks_of asks) grants turn ≡ grants =
      ap (λ (lines : List AskOf). fold (with_granted pass turn) grants (by_priority (map (λ (one : AskOf). one.ask) lines))) none in
      subst (Each Asking) (sym same) e

  turns_ask : (pass : PassNode) (turns : List Turn) (grants : List Grant) → Each Asking grants → Each Asking (fold (with_turn pass (asks_of asks)) grants turns)
  turns_ask pass [] grants e = e
  turns_ask pass (turn ∷ turns) grants e = turns_ask pass turns (with_turn pass (asks_of asks) grants turn) (turn_asks pass turn grants e (asks_for asks turn.attempt) refl)

pub pass_asks : (settings : Settings) (m : Scene) (node : NodeState) → Each (λ (grant : Grant). asks_for m.life.asks grant.id.attempt ≡ true) (pass_of settings m node)
pass_asks settings m node = by_test _ (first_fit_on m node.name node.capability) (fit node.capability)
  where
    fit : (offered : Option Resource) → Each (λ (grant : Grant). asks_for m.life.asks grant.id.attempt ≡ true) (first_fit_on m node.name offered)
    fit None = tt
    fit (Some capability) = turns_ask m.life.asks (pass_node m node.name capability) (turns m) [] tt

    by_test : (b : Bool) (xs : List Grant) → Each (λ (grant : Grant). asks_for m.life.asks grant.id.attempt ≡ true) xs → Each (λ (grant : Grant). asks_for m.life.asks grant.id.attempt ≡ true) (if b then xs else [])
    by_test true xs h = h
    by_test false xs h = tt

-- the rows of a pass are of attempts that ask
pub granted_rows : (asks : List AskOf) (t : AttemptId) (grants : List Grant) → Each (λ (grant : Grant). asks_for asks grant.id.attempt ≡ true) grants → lives_for (map row_granted grants) t ≡ true → asks_for asks t ≡ true
granted_rows asks t [] e h = cc
granted_rows asks t (grant ∷ grants) e h = go (is_attempt grant.id.attempt t) refl h (granted_rows asks t grants e.1)
  where
    go : (b : Bool) → is_attempt grant.id.attempt t ≡ b → (b || lives_for (map row_granted grants) t) ≡ true → (lives_for (map row_granted grants) t ≡ true → asks_for asks t ≡ true) → asks_for asks t ≡ true
    go true same x more = subst (λ (i : AttemptId). asks_for asks i ≡ true) (same_attempt grant.id.attempt t same) e.0
    go false other x more = more x

-- a kept attempt is numbered up to how many are kept
in_numbers : (t : AttemptId) (n : ℕ) (attempts : List AttemptRecord) → list_all (λ (one : AttemptRecord). nat_le one.id.number n) attempts ≡ true
    → is_some (find (λ (one : AttemptRecord). is_attempt one.id t) attempts) ≡ true → nat_le t.number n ≡ true
in_numbers t n [] all h = cc
in_numbers t n (one ∷ attempts) all h =
    let b = and_parts (nat_le one.id.number n) (list_all (λ (x : AttemptRecord). nat_le x.id.number n) attempts) all in
    go b.0 (is_attempt one.id t) refl h (in_numbers t n attempts b.1)
  where
    go : nat_le one.id.number n ≡ true → (c : Bool) → is_attempt one.id t ≡ c → is_some (cond c (Some one) (find (λ (x : AttemptRecord). is_attempt x.id t) attempts)) ≡ true
        → (is_some (find (λ (x : AttemptRecord). is_attempt x.id t) attempts) ≡ true → nat_le t.number n ≡ true) → nat_le t.number n ≡ true
    go first true same x more = subst (λ (i : AttemptId). nat_le i.number n ≡ true) (same_attempt one.id t same) first
    go first false other x more = more x

last_numbers : (n : ℕ) (attempts : List AttemptRecord) (test : AttemptRecord → Bool) (P : AttemptRecord → Type 0) → list_all (λ (one : AttemptRecord). nat_le one.id.number n) attempts ≡ true
    → is_some_and test (last_attempt attempts) ≡ true → (last : AttemptRecord) × (test last ≡ true) × (nat_le last.id.number n ≡ true)
last_numbers n [] test P all h = cc
last_numbers n (one ∷ []) test P all h = (one, h, (and_parts (nat_le one.id.number n) true all).0)
last_numbers n (one ∷ next ∷ more) test P all h =
    last_numbers n (next ∷ more) test P (and_parts (nat_le one.id.number n) (list_all (λ (x : AttemptRecord). nat_le x.id.number n) (next ∷ more)) all).1 h

below : (a b : ℕ) → nat_le a b ≡ true → a ≤ b
below a b h = grind (arith, nat_tests)

pub kept_pends : (v : Option AppRecord) (retired : List AppId) (t : AttemptId) → Fine v → is_some (find (λ (one : AttemptRecord). is_attempt one.id t) (attempts_in v)) ≡ true → Pend v retired t
kept_pends None retired t fine h = cc
kept_pends (Some app) retired t fine h = inl (below t.number (length app.attempts) (in_numbers t (length app.attempts) app.attempts fine.numbers h))

-- an operation that fits is kept
longer : (id : AttemptId) (master : ContainerId) (node : List ℕ) (app : AppRecord) → length (add_attempt id master node app).attempts ≡ length app.attempts + 1
longer id master node app = length-append app.attempts (record { id = id; master = master; node = node; ending = None } ∷ [])

pend_more : (v : Option AppRecord) (retired more : List AppId) (t : AttemptId) → Pend v retired t → Pend v (retired ++ more) t
pend_more None retired more t p = stays_there (λ (one : AppId). is_app one t.app) retired more p
pend_more (Some app) retired more t p = p

pend_some : (o : Option AppRecord) (app : AppRecord) (retired : List AppId) (t : AttemptId) → o ≡ Some app → Pend o retired t → (t.number ≤ length app.attempts) ⊎ ((t.number ≡ length app.attempts + 1) × (all_ended app.attempts ≡ true))
pend_some o app retired t e p = subst (λ (v : Option AppRecord). Pend v retired t) e p

-- the retired ids after an operation
abbrev pub retired_by : List AppId → Op → List AppId
retired_by retired (Remove id) = retired ++ id ∷ []
retired_by retired _ = retired

own_pends : (r : Records) (retired : List AppId) (t : AttemptId) (op : Op) → is_of t.app op ≡ true → fits_records r op ≡ true → (is_app_op t.app op ≡ true → has_app retired t.app ≡ false)
    → Pend (record_of r.apps t.app) retired t → Pend (record_of (recorded r op).apps t.app) (retired_by retired op) t
own_pends r retired t (Epoch next stamp) own fits out p = cc
own_pends r retired t (App one submission) own fits out p =
    let none = none_from_is_none (record_of r.apps one) fits in
    let was : has_app retired t.app ≡ true = subst (λ (v : Option AppRecord). Pend v retired t) (sym (at_own t.app one r own) ∙ none) p in
    absurd (let x = out own in let y : true ≡ false = sym was ∙ x in cc)
own_pends r retired t (Attempt one master node) own fits out p =
    let s = some_and (λ app. is_none app.ending && (all_ended app.attempts && (one.number == length app.attempts + 1))) (record_of r.apps one.app) fits in
    let before = pend_some (record_of r.apps t.app) s.0 retired t (sym (at_own t.app one.app r own) ∙ s.1) p in
    subst (λ (v : Option AppRecord). Pend v retired t) (sym (changed_own t.app (add_attempt one master node) (λ x. refl) one.app r s.0 own s.1)) (inl (go s.0 before))
  where
    go : (app : AppRecord) → (t.number ≤ length app.attempts) ⊎ ((t.number ≡ length app.attempts + 1) × (all_ended app.attempts ≡ true)) → t.number ≤ length (add_attempt one master node app).attempts
    go app (inl x) = let l = longer one master node app in omega (arith, x, l)
    go app (inr x) = let l = longer one master node app in let y = x.0 in omega (arith, y, l)
own_pends r retired t (AttemptEnd one how text) own fits out p =
    let s = some_and (λ app. is_some_and (λ last. is_attempt last.id one && is_none last.ending) (last_attempt app.attempts)) (record_of r.apps one.app) fits in
    let before = pend_some (record_of r.apps t.app) s.0 retired t (sym (at_own t.app one.app r own) ∙ s.1) p in
    subst (λ (v : Option AppRecord). Pend v retired t) (sym (changed_own t.app (end_attempt one how text) (λ x. refl) one.app r s.0 own s.1)) (go s.0 before)
  where
    go : (app : AppRecord) → (t.number ≤ length app.attempts) ⊎ ((t.number ≡ length app.attempts + 1) × (all_ended app.attempts ≡ true)) → Pend (Some (end_attempt one how text app)) retired t
    go app (inl x) = let l = length-ended one how text app.attempts in inl (omega (arith, x, l))
    go app (inr x) = let l = length-ended one how text app.attempts in let y = x.0 in inr (omega (arith, y, l), all_ended-map one how text app.attempts x.1)
own_pends r retired t (AppEnd one how text) own fits out p =
    let s = some_and (λ app. is_none app.ending && all_ended app.attempts) (record_of r.apps one) fits in
    let before = pend_some (record_of r.apps t.app) s.0 retired t (sym (at_own t.app one r own) ∙ s.1) p in
    subst (λ (v : Option AppRecord). Pend v retired t) (sym (changed_own t.app (end_app how text r.applied) (λ x. refl) one r s.0 own s.1)) before
own_pends r retired t (Remove one) own fits out p =
    subst (λ (v : Option AppRecord). Pend v (retired ++ one ∷ []) t) (sym (find_left t.app one true own r.apps)) (last_there (λ (x : AppId). is_app x t.app) retired one own)

other_pends : (r : Records) (retired : List AppId) (t : AttemptId) (op : Op) → is_of t.app op ≡ false → Pend (record_of r.apps t.app) retired t → Pend (record_of (recorded r op).apps t.app) (retired_by retired op) t
other_pends r retired t op other p = grown op (subst (λ (v : Option AppRecord). Pend v retired t) (sym (other_view t.app r op other)) p)
  where
    grown : (one : Op) → Pend (record_of (recorded r op).apps t.app) retired t → Pend (record_of (recorded r op).apps t.app) (retired_by retired one) t
    grown (Epoch next stamp) q = q
    grown (App one submission) q = q
    grown (Attempt one master node) q = q
    grown (AttemptEnd one how text) q = q
    grown (AppEnd one how text) q = q
    grown (Remove one) q = pend_more (record_of (recorded r op).apps t.app) retired (one ∷ []) t q

pub op_pends : (r : Records) (retired : List AppId) (t : AttemptId) (op : Op) → fits_records r op ≡ true → (is_app_op t.app op ≡ true → has_app retired t.app ≡ false)
    → Pend (record_of r.apps t.app) retired t → Pend (record_of (recorded r op).apps t.app) (retired_by retired op) t
op_pends r retired t op fits out p = go (is_of t.app op) refl
  where
    go : (b : Bool) → is_of t.app op ≡ b → Pend (record_of (recorded r op).apps t.app) (retired_by retired op) t
    go true own = own_pends r retired t op own fits out p
    go false other = other_pends r retired t op other p
