-- The turns of a pass: each attempt that asks for something is ready for what it is granted, and of an application that waits for its
-- master's container at most one is granted.
use Rattle.rm_invariant.proofs.Common.{◌≡◌, ◌≤◌, ℕ, zero, suc, ◌+◌, List, [], ◌∷◌, Bool, true, false, ◌&&◌, not, Option, None, Some, filter, fold, map, refl, sym, ◌∙◌, ap, subst, arith, if◌then◌else◌, slice_get, range_with_len, nat_tests, Ask, Grant, Turn, AppId, AttemptId, AppRecord, Resource, Settings, is_app, PassNode, by_priority, fitting, turn_grant, left_of, seq_after, with_granted, with_turn, same_app, attempt_asks, capability_of, attempt_at, NodeRow, Tables, is_ready_row, asks_some, fitted_on, grants_on, still_waits, turn_in, turns_in, waits_for_master, row_of, SameAsks, History}
use Rattle.std.proofs.Common.{cond, count_by}
use Rattle.rm_types.specs.Resources.{fits}
use Rattle.rm_types.specs.Passes.{times}
use Rattle.rm_invariant.specs.apps.Invariant.{AttemptsInvariant}
use Rattle.rm_invariant.specs.apps.View.{one_if}
use Rattle.rm_invariant.proofs.apps.Counts.{at_front, count_append}
use Rattle.rm_invariant.specs.nodes.Book.{All}
use Rattle.rm_invariant.specs.events.Asking.{AskersCurrent, is_current_number}
use Rattle.rm_invariant.specs.events.Masters.{AppsOnce, MastersAskOnce}
use Rattle.rm_invariant.proofs.events.Entering.{all_weaker}
use Rattle.rm_invariant.proofs.events.OneByOne.{MastersOnce}
use Rattle.rm_invariant.proofs.events.OneGrant.{IsReady}
use Rattle.rm_invariant.proofs.events.OnNode.{EachAsk, grants_each, pass_at}
use Rattle.rm_invariant.proofs.events.Waiting.{Asker, Ready, asker, line_of}

-- HOW MANY ARE GRANTED

module _ (pass : PassNode) (id : AppId) where
  abbrev is_its : Grant → Bool
  is_its grant = is_app id grant.id.attempt.app

  -- a turn of another application grants none to this one
  run_none : (turn : Turn) → is_app id turn.attempt.app ≡ false → (size : Resource) (count seq : ℕ) → count_by is_its (map (turn_grant pass turn size) (range_with_len seq count)) ≡ 0
  run_none turn apart size zero seq = refl
  run_none turn apart size (suc count) seq =
      at_front is_its (turn_grant pass turn size seq) (map (turn_grant pass turn size) (range_with_len (seq + 1) count))
      ∙ ap (λ (b : Bool). one_if b (count_by is_its (map (turn_grant pass turn size) (range_with_len (seq + 1) count)))) apart
      ∙ run_none turn apart size count (seq + 1)

  turn_none : (turn : Turn) → is_app id turn.attempt.app ≡ false → (asks : List Ask) (grants : List Grant) → count_by is_its (fold (with_granted pass turn) grants asks) ≡ count_by is_its grants
  turn_none turn apart [] grants = refl
  turn_none turn apart (ask ∷ asks) grants =
      let count : ℕ = fitting ask.count ask.size (left_of pass grants) in
      let seq : ℕ = seq_after turn grants in
      let both = count_append is_its grants (map (turn_grant pass turn ask.size) (range_with_len seq count)) in
      let none = run_none turn apart ask.size count seq in
      turn_none turn apart asks (with_granted pass turn grants ask) ∙ omega (arith, both, none)

  -- a turn of one line for one container grants one at most
  turn_one : (turn : Turn) (size : Resource) (grants : List Grant) → count_by is_its (fold (with_granted pass turn) grants (line_of size ∷ [])) ≤ count_by is_its grants + 1
  turn_one turn size grants =
      let new : List Grant = map (turn_grant pass turn size) (range_with_len (seq_after turn grants) (fitting 1 size (left_of pass grants))) in
      let both = count_append is_its grants new in
      let few = by (fits (times 1 size) (left_of pass grants)) in
      omega (arith, both, few)
    where
      seq : ℕ
      seq = seq_after turn grants

      one : (b : Bool) → one_if b 0 ≤ 1
      one true = omega arith
      one false = omega arith

      by : (b : Bool) → count_by is_its (map (turn_grant pass turn size) (range_with_len (seq_after turn grants) (if b then 1 else 0))) ≤ 1
      by true =
          let first = at_front is_its (turn_grant pass turn size (seq_after turn grants)) [] in
          let few = one (is_its (turn_grant pass turn size (seq_after turn grants))) in
          omega (arith, first, few)
      by false = omega arith

  -- all turns grant it no more than it has turns, where each of its turns is of one line for one container
  turns_few : (asks : AttemptId → List Ask) (turns : List Turn) → All (λ turn. is_app id turn.attempt.app ≡ true → (size : Resource) × (asks turn.attempt ≡ line_of size ∷ [])) turns → (grants : List Grant)
      → count_by is_its (fold (with_turn pass asks) grants turns) ≤ count_by is_its grants + count_by (λ turn. is_app id turn.attempt.app) turns
  turns_few asks [] each grants = omega arith
  turns_few asks (turn ∷ turns) each grants =
      let rest = turns_few asks turns each.1 (with_turn pass asks grants turn) in
      let first = at_front (λ (one : Turn). is_app id one.attempt.app) turn turns in
      by (is_app id turn.attempt.app) refl rest first
    where
      by : (b : Bool) → is_app id turn.attempt.app ≡ b
          → count_by is_its (fold (with_turn pass asks) (with_turn pass asks grants turn) turns) ≤ count_by is_its (with_turn pass asks grants turn) + count_by (λ one. is_app id one.attempt.app) turns
          → count_by (λ one. is_app id one.attempt.app) (turn ∷ turns) ≡ one_if (is_app id turn.attempt.app) (count_by (λ one. is_app id one.attempt.app) turns)
          → count_by is_its (fold (with_turn pass asks) (with_turn pass asks grants turn) turns) ≤ count_by is_its grants + count_by (λ one. is_app id one.attempt.app) (turn ∷ turns)
      by true e rest first =
          let line = each.0 e in
          let few : count_by is_its (with_turn pass asks grants turn) ≤ count_by is_its grants + 1 =
          subst (λ (l : List Ask). count_by is_its (fold (with_granted pass turn) grants (by_priority l)) ≤ count_by is_its grants + 1) (sym line.1) (turn_one turn line.0 grants) in
          let counted : count_by (λ (one : Turn). is_app id one.attempt.app) (turn ∷ turns) ≡ suc (count_by (λ (one : Turn). is_app id one.attempt.app) turns) =
          first ∙ ap (λ (b : Bool). one_if b (count_by (λ (one : Turn). is_app id one.attempt.app) turns)) e in
          omega (arith, rest, few, counted)
      by false e rest first =
          let none : count_by is_its (with_turn pass asks grants turn) ≡ count_by is_its grants = turn_none turn e (by_priority (asks turn.attempt)) grants in
          let counted : count_by (λ (one : Turn). is_app id one.attempt.app) (turn ∷ turns) ≡ count_by (λ (one : Turn). is_app id one.attempt.app) turns =
          first ∙ ap (λ (b : Bool). one_if b (count_by (λ (one : Turn). is_app id one.attempt.app) turns)) e in
          omega (arith, rest, none, counted)

-- an application has no more turns than records
turns_of : (t : Tables) (id : AppId) (apps : List AppRecord)
    → count_by (λ (turn : Turn). is_app id turn.attempt.app) (map (turn_in t.rows) (filter (asks_some t.asks) (map attempt_at apps))) ≤ count_by (λ (app : AppRecord). is_app app.id id) apps
turns_of t id [] = omega arith
turns_of t id (app ∷ apps) = by (asks_some t.asks (attempt_at app)) (turns_of t id apps) (at_front (λ (one : AppRecord). is_app one.id id) app apps)
  where
    back : is_app id app.id ≡ is_app app.id id
    back = grind (arith, nat_tests)

    turns : List Turn
    turns = map (turn_in t.rows) (filter (asks_some t.asks) (map attempt_at apps))

    more : (b : Bool) (n m k : ℕ) → n ≤ m → k ≡ one_if b m → n ≤ k
    more true n m k few e = omega (arith, few, e)
    more false n m k few e = omega (arith, few, e)

    alike : (b : Bool) (n m j k : ℕ) → n ≤ m → j ≡ one_if b n → k ≡ one_if b m → j ≤ k
    alike true n m j k few e f = omega (arith, few, e, f)
    alike false n m j k few e f = omega (arith, few, e, f)

    by : (b : Bool) → count_by (λ (turn : Turn). is_app id turn.attempt.app) (map (turn_in t.rows) (filter (asks_some t.asks) (map attempt_at apps))) ≤ count_by (λ (one : AppRecord). is_app one.id id) apps
        → count_by (λ (one : AppRecord). is_app one.id id) (app ∷ apps) ≡ one_if (is_app app.id id) (count_by (λ (one : AppRecord). is_app one.id id) apps)
        → count_by (λ (turn : Turn). is_app id turn.attempt.app)
        (map (turn_in t.rows) (cond b (attempt_at app ∷ filter (asks_some t.asks) (map attempt_at apps)) (filter (asks_some t.asks) (map attempt_at apps)))) ≤ count_by (λ (one : AppRecord). is_app one.id id) (app ∷ apps)
    by true few first =
        alike (is_app app.id id) _ _ _ _ few
        (at_front (λ (turn : Turn). is_app id turn.attempt.app) (turn_in t.rows (attempt_at app)) (map (turn_in t.rows) (filter (asks_some t.asks) (map attempt_at apps)))
        ∙ ap (λ (b : Bool). one_if b (count_by (λ (turn : Turn). is_app id turn.attempt.app) (map (turn_in t.rows) (filter (asks_some t.asks) (map attempt_at apps))))) back) first
    by false few first = more (is_app app.id id) _ _ _ few first

-- WHO IS READY

module _ (settings : Settings) (h : History) (t : Tables) (says : AttemptsInvariant settings h t) (same : SameAsks t.asks h.asks) (once : MastersAskOnce t) (current : AskersCurrent t) where
  -- what is said of the attempt of a turn
  abbrev IsAsker : Turn → Type 0
  IsAsker turn = Asker (row_of t.rows turn.attempt.app) (attempt_asks t.asks turn.attempt) turn.attempt.number

  askers : (apps : List AppRecord) → ((place : ℕ) (app : AppRecord) → slice_get apps place ≡ Some app → asks_some t.asks (attempt_at app) ≡ true → is_current_number t.rows (attempt_at app) ≡ true)
      → All IsAsker (map (turn_in t.rows) (filter (asks_some t.asks) (map attempt_at apps)))
  askers [] own = tt
  askers (app ∷ apps) own = by (asks_some t.asks (attempt_at app)) refl (askers apps (λ place one e. own (suc place) one e))
    where
      by : (b : Bool) → asks_some t.asks (attempt_at app) ≡ b → All IsAsker (map (turn_in t.rows) (filter (asks_some t.asks) (map attempt_at apps)))
          → All IsAsker (map (turn_in t.rows) (cond b (attempt_at app ∷ filter (asks_some t.asks) (map attempt_at apps)) (filter (asks_some t.asks) (map attempt_at apps))))
      by true e rest = (asker settings h t says same once (attempt_at app) e (own 0 app refl e), rest)
      by false e rest = rest

  -- each is ready for what it is granted
  pub all_ready : (name : List ℕ) (row : NodeRow) → All (IsReady t.rows h.asks) (grants_on name row t)
  all_ready name row =
      grants_each t name row (IsReady t.rows h.asks)
      (λ capability. all_weaker IsAsker (λ turn. EachAsk (IsReady t.rows h.asks) (pass_at t name row capability) turn (by_priority (attempt_asks t.asks turn.attempt)))
      (λ turn is.
      all_weaker (λ ask. Ready (row_of t.rows turn.attempt.app) (attempt_asks t.asks turn.attempt) turn.attempt.number ask.size) (λ ask. (seq : ℕ) → IsReady t.rows h.asks (turn_grant (pass_at t name row capability) turn ask.size seq))
      (λ ask ready seq. subst (λ (l : List Ask). Ready (row_of t.rows turn.attempt.app) l turn.attempt.number ask.size) (same turn.attempt) ready) (by_priority (attempt_asks t.asks turn.attempt)) is.each) (turns_in t) (askers t.tree.apps current))

  -- and one that waits for its master is granted one at most
  pub masters_once : AppsOnce t → (name : List ℕ) (row : NodeRow) → MastersOnce t.rows (grants_on name row t)
  masters_once apps name row id waits = by (is_ready_row row.state && not (still_waits t)) (capability_of t.book name)
    where
      alone : All (λ turn. is_app id turn.attempt.app ≡ true → (size : Resource) × (attempt_asks t.asks turn.attempt ≡ line_of size ∷ [])) (turns_in t)
      alone =
          all_weaker IsAsker (λ turn. is_app id turn.attempt.app ≡ true → (size : Resource) × (attempt_asks t.asks turn.attempt ≡ line_of size ∷ []))
          (λ turn is e. is.alone (ap (λ (one : AppId). waits_for_master (row_of t.rows one)) (sym (same_app id turn.attempt.app e)) ∙ waits)) (turns_in t) (askers t.tree.apps current)

      by : (b : Bool) (capability : Option Resource) → count_by (λ grant. is_app id grant.id.attempt.app) (if b then fitted_on name capability t else []) ≤ 1
      by true None = omega arith
      by true (Some capability) =
          let few = turns_few (pass_at t name row capability) id (attempt_asks t.asks) (turns_in t) alone [] in
          let turns = turns_of t id t.tree.apps in
          let own = apps id in
          omega (arith, few, turns, own)
      by false capability = omega arith
