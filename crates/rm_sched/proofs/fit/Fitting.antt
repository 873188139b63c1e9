-- What the grants of a pass amount to, where they are, and that their containers are new.
use Rattle.std.proofs.Common.{◌≡◌, ℕ, zero, suc, ◌+◌, ◌-◌, ◌*◌, ◌<◌, ◌≤◌, nat_lt, Bool, true, false, not, List, [], ◌∷◌, ◌++◌, Option, None, Some, refl, ap, ◌∙◌, subst, arith}
use Rattle.std.specs.List.{list_all, list_any, sum_by}
use Rattle.std.specs.Str.{bytes_eq}
use Rattle.std.proofs.lemmas.Bool.{and_from, lt-ltb, or_from, or_parts, and_parts}
use Rattle.std.proofs.lemmas.Bool.Decides.{nat_tests}
use Rattle.std.proofs.lemmas.List.{map-append}
use Rattle.std.proofs.lemmas.List.Folds.{list_all-append, list_any-append}
use Rattle.std.proofs.lemmas.List.Sums.{sum_by-append}
use Rattle.std.proofs.lemmas.Option.{same_Some}
use Rattle.std.proofs.lemmas.Slice.Eq.{bytes_eq-Decides}
use Rattle.rm_types.specs.declared.containers.Ask.{Ask}
use Rattle.rm_types.specs.declared.containers.BookRow.{BookRow}
use Rattle.rm_types.specs.declared.containers.Grant.{Grant}
use Rattle.rm_types.specs.declared.containers.Turn.{Turn}
use Rattle.rm_types.specs.declared.ids.AttemptId.{AttemptId}
use Rattle.rm_types.specs.declared.ids.ContainerId.{ContainerId}
use Rattle.rm_types.specs.declared.resources.Resource.{Resource}
use Rattle.rm_types.specs.Ids.{is_attempt, is_container}
use Rattle.rm_types.specs.Passes.{by_priority, fitting, total_of}
use Rattle.rm_types.specs.Resources.{Fits}
use Rattle.rm_types.proofs.IdLemmas.{attempt_back, same_container, attempt_itself}
use Rattle.rm_book.specs.AskTables.{some_asks}
use Rattle.rm_book.specs.Books.{AreNew, are_grants_on, is_of, sizes_of}
use Rattle.rm_book.proofs.Lists.{all_more}
use Rattle.rm_book.proofs.LineOrders.{all_by_priority}
use Rattle.rm_sched.specs.fit.Conditions.{TurnsAreApart, has_turn, is_past, are_past, is_some_size, are_some_sizes}
use Rattle.rm_sched.specs.fit.Turns.{Spot, spot_grant, granted_from, room_left, turn_left, turn_grants}
use Rattle.rm_sched.proofs.fit.Counting.{fitting_fits}
use Rattle.rm_sched.proofs.fit.Passing.{pass_grants, sum_granted}

-- lines that were found ask for what a pass goes over
pub found_asks : (asks found : List Ask) → Some found ≡ some_asks (by_priority asks) → found ≡ by_priority asks
found_asks asks found is = by (by_priority asks) is
  where
    by : (ordered : List Ask) → Some found ≡ some_asks ordered → found ≡ ordered
    by [] e = absurd (let none : ◌≡◌ {A = Option (List Ask)} (Some found) None = e in cc)
    by (ask ∷ ordered) e = same_Some found (ask ∷ ordered) e

-- so their sizes are those of the attempt's asks
pub found_sizes : (asks found : List Ask) → Some found ≡ some_asks (by_priority asks) → are_some_sizes found ≡ are_some_sizes asks
found_sizes asks found is = ap are_some_sizes (found_asks asks found is) ∙ all_by_priority (λ ask. is_some_size ask.size) asks

pub no_sizes : (asks : List Ask) → None ≡ some_asks (by_priority asks) → true ≡ are_some_sizes asks
no_sizes asks is = by (by_priority asks) is ∙ all_by_priority (λ ask. is_some_size ask.size) asks
  where
    by : (ordered : List Ask) → None ≡ some_asks ordered → true ≡ are_some_sizes ordered
    by [] e = refl
    by (ask ∷ ordered) e = absurd (let some : ◌≡◌ {A = Option (List Ask)} None (Some (ask ∷ ordered)) = e in cc)

-- of a part of what is left an ask takes no more than is there
abbrev Takes : (Resource → ℕ) → Type 0
Takes part = (left : Resource) (ask : Ask)
    → (fitting ask.count ask.size left * part ask.size ≤ part left) × (part (room_left left ask) ≡ part left - fitting ask.count ask.size left * part ask.size)

module _ (part : Resource → ℕ) (taken : Takes part) where
  -- what a turn grants and what it leaves make up what there was
  turn_sum : (spot : Spot) (left : Resource) (seq : ℕ) (asks : List Ask) → sum_by part (sizes_of (turn_grants spot left seq asks)) + part (turn_left left asks) ≡ part left
  turn_sum spot left seq [] = omega arith
  turn_sum spot left seq (ask ∷ asks) =
      let count : ℕ = fitting ask.count ask.size left in
      let first : List Grant = granted_from spot ask.size seq count in
      let rest : List Grant = turn_grants spot (room_left left ask) (seq + count) asks in
      let split = ap (sum_by part) (map-append (λ (grant : Grant). grant.size) first rest) ∙ sum_by-append part (sizes_of first) (sizes_of rest) in
      let this = taken left ask in
      omega (arith, split, sum_granted part spot ask.size seq count, turn_sum spot (room_left left ask) (seq + count) asks, this.0, this.1)

  pass_sum : (node : List ℕ) (epoch : ℕ) (asks_of : AttemptId → List Ask) (left : Resource) (turns : List Turn)
      → sum_by part (sizes_of (pass_grants node epoch asks_of left turns)) ≤ part left
  pass_sum node epoch asks_of left [] = omega arith
  pass_sum node epoch asks_of left (turn ∷ turns) =
      let asks : List Ask = by_priority (asks_of turn.attempt) in
      let spot : Spot = record { node = node; epoch = epoch; attempt = turn.attempt } in
      let first : List Grant = turn_grants spot left turn.next_seq asks in
      let rest : List Grant = pass_grants node epoch asks_of (turn_left left asks) turns in
      let split = ap (sum_by part) (map-append (λ (grant : Grant). grant.size) first rest) ∙ sum_by-append part (sizes_of first) (sizes_of rest) in
      omega (arith, split, turn_sum spot left turn.next_seq asks, pass_sum node epoch asks_of (turn_left left asks) turns)

-- what a pass grants fits what was left
pub pass_fits : (node : List ℕ) (epoch : ℕ) (asks_of : AttemptId → List Ask) (left : Resource) (turns : List Turn)
    → Fits (total_of (sizes_of (pass_grants node epoch asks_of left turns))) left
pass_fits node epoch asks_of left turns = (
  pass_sum (λ size. size.memory_mb) (λ left ask. ((fitting_fits ask.count ask.size left).0, refl)) node epoch asks_of left turns,
  pass_sum (λ size. size.vcores) (λ left ask. ((fitting_fits ask.count ask.size left).1, refl)) node epoch asks_of left turns,
)

-- what a test holds of each grant of

granted_all : (p : Grant → Bool) (spot : Spot) (size : Resource) (seq count : ℕ) → ((n : ℕ) → seq ≤ n → n < seq + count → p (spot_grant spot size n) ≡ true)
    → list_all p (granted_from spot size seq count) ≡ true
granted_all p spot size seq zero each = refl
granted_all p spot size seq (suc count) each =
    and_from (p (spot_grant spot size seq)) _ (each seq (omega arith) (omega arith))
    (granted_all p spot size (seq + 1) count (λ n from to. each n (omega (arith, from)) (omega (arith, to))))

turn_all : (p : Grant → Bool) (spot : Spot) (left : Resource) (seq : ℕ) (asks : List Ask) → ((size : Resource) (n : ℕ) → seq ≤ n → p (spot_grant spot size n) ≡ true)
    → list_all p (turn_grants spot left seq asks) ≡ true
turn_all p spot left seq [] each = refl
turn_all p spot left seq (ask ∷ asks) each =
    let count : ℕ = fitting ask.count ask.size left in
    list_all-append p (granted_from spot ask.size seq count) (turn_grants spot (room_left left ask) (seq + count) asks)
    ∙ and_from (list_all p (granted_from spot ask.size seq count)) _ (granted_all p spot ask.size seq count (λ n from to. each ask.size n from))
    (turn_all p spot (room_left left ask) (seq + count) asks (λ size n from. each size n (omega (arith, from))))

-- each turn of these grants what passes a test
abbrev EachGrants : (Grant → Bool) → List ℕ → ℕ → List Turn → Type 0
EachGrants p node epoch [] = Unit {0}
EachGrants p node epoch (turn ∷ turns) =
    ((size : Resource) (n : ℕ) → p (spot_grant (record { node = node; epoch = epoch; attempt = turn.attempt }) size n) ≡ true) × EachGrants p node epoch turns

pass_all : (p : Grant → Bool) (node : List ℕ) (epoch : ℕ) (asks_of : AttemptId → List Ask) (left : Resource) (turns : List Turn) → EachGrants p node epoch turns
    → list_all p (pass_grants node epoch asks_of left turns) ≡ true
pass_all p node epoch asks_of left [] each = refl
pass_all p node epoch asks_of left (turn ∷ turns) each =
    let asks : List Ask = by_priority (asks_of turn.attempt) in
    let spot : Spot = record { node = node; epoch = epoch; attempt = turn.attempt } in
    list_all-append p (turn_grants spot left turn.next_seq asks) (pass_grants node epoch asks_of (turn_left left asks) turns)
    ∙ and_from (list_all p (turn_grants spot left turn.next_seq asks)) _ (turn_all p spot left turn.next_seq asks (λ size n from. each.0 size n))
    (pass_all p node epoch asks_of (turn_left left asks) turns each.1)

-- all is on the node
pub pass_on : (node : List ℕ) (epoch : ℕ) (asks_of : AttemptId → List Ask) (left : Resource) (turns : List Turn) → are_grants_on node (pass_grants node epoch asks_of left turns) ≡ true
pass_on node epoch asks_of left turns = pass_all (λ grant. bytes_eq grant.node node) node epoch asks_of left turns (each turns)
  where
    each : (turns : List Turn) → EachGrants (λ grant. bytes_eq grant.node node) node epoch turns
    each [] = tt
    each (turn ∷ turns) = (λ size n. (bytes_eq-Decides node node).1 refl, each turns)

-- and of a new container

none_of : (p : ContainerId → Bool) (id : ContainerId) (grants : List Grant) → p id ≡ true → list_all (λ grant. not (p grant.id)) grants ≡ true
    → list_any (λ other. is_container other.id id) grants ≡ false
none_of p id [] is all = refl
none_of p id (grant ∷ grants) is all =
    let parts = and_parts (not (p grant.id)) (list_all (λ (other : Grant). not (p other.id)) grants) all in
    or_from (is_container grant.id id) _ (by (is_container grant.id id) refl parts.0) (none_of p id grants is parts.1)
  where
    by : (b : Bool) → is_container grant.id id ≡ b → not (p grant.id) ≡ true → is_container grant.id id ≡ false
    by true e isnt = absurd (let no : not (p id) ≡ true = subst (λ (x : ContainerId). not (p x) ≡ true) (same_container grant.id id e) isnt in let no' = rw is at no in cc)
    by false e isnt = e

-- grants that a test of ids tells from those before them
new_append : (p : ContainerId → Bool) (rows : List BookRow) (front back : List Grant) → list_all (λ grant. p grant.id) front ≡ true → list_all (λ grant. not (p grant.id)) back ≡ true
    → AreNew rows front → AreNew rows back → AreNew rows (front ++ back)
new_append p rows [] back all none new more = more
new_append p rows (grant ∷ front) back all none new more =
    let parts = and_parts (p grant.id) (list_all (λ (other : Grant). p other.id) front) all in (
      new.0,
      list_any-append (λ (other : Grant). is_container other.id grant.id) front back ∙ or_from _ _ new.1 (none_of p grant.id back parts.0 none),
      new_append p rows front back parts.1 none new.2 more,
    )

row_past : (attempt : AttemptId) (epoch seq n : ℕ) (row : BookRow) → seq ≤ n → is_past epoch (record { attempt = attempt; next_seq = seq }) row ≡ true
    → is_of (record { attempt = attempt; epoch = epoch; seq = n }) row ≡ false
row_past attempt epoch seq n row from past = grind (arith, nat_tests)

rows_past : (attempt : AttemptId) (epoch seq n : ℕ) (rows : List BookRow) → seq ≤ n → list_all (is_past epoch (record { attempt = attempt; next_seq = seq })) rows ≡ true
    → list_any (is_of (record { attempt = attempt; epoch = epoch; seq = n })) rows ≡ false
rows_past attempt epoch seq n [] from past = refl
rows_past attempt epoch seq n (row ∷ rows) from past =
    let turn : Turn = record { attempt = attempt; next_seq = seq } in
    let parts = and_parts (is_past epoch turn row) (list_all (is_past epoch turn) rows) past in
    or_from (is_of (record { attempt = attempt; epoch = epoch; seq = n }) row) _ (row_past attempt epoch seq n row from parts.0) (rows_past attempt epoch seq n rows from parts.1)

past_more : (attempt : AttemptId) (epoch seq later : ℕ) (row : BookRow) → seq ≤ later → is_past epoch (record { attempt = attempt; next_seq = seq }) row ≡ true
    → is_past epoch (record { attempt = attempt; next_seq = later }) row ≡ true
past_more attempt epoch seq later row le past = grind (arith, nat_tests)

granted_new : (rows : List BookRow) (spot : Spot) (size : Resource) (seq count : ℕ) → list_all (is_past spot.epoch (record { attempt = spot.attempt; next_seq = seq })) rows ≡ true
    → AreNew rows (granted_from spot size seq count)
granted_new rows spot size seq zero past = tt
granted_new rows spot size seq (suc count) past =
    let later : list_all (is_past spot.epoch (record { attempt = spot.attempt; next_seq = seq + 1 })) rows ≡ true =
    all_more (is_past spot.epoch (record { attempt = spot.attempt; next_seq = seq })) (is_past spot.epoch (record { attempt = spot.attempt; next_seq = seq + 1 }))
    (λ row. past_more spot.attempt spot.epoch seq (seq + 1) row (omega arith)) rows past in
    new_append (λ id. nat_lt id.seq (seq + 1)) rows (spot_grant spot size seq ∷ []) (granted_from spot size (seq + 1) count)
    (and_from (nat_lt seq (seq + 1)) true (lt-ltb seq (seq + 1) (omega arith)) refl)
    (granted_all (λ grant. not (nat_lt grant.id.seq (seq + 1))) spot size (seq + 1) count (λ n from to. grind (arith, nat_tests)))
    (rows_past spot.attempt spot.epoch seq seq rows (omega arith) past, refl, tt)
    (granted_new rows spot size (seq + 1) count later)

turn_new : (rows : List BookRow) (spot : Spot) (left : Resource) (seq : ℕ) (asks : List Ask) → list_all (is_past spot.epoch (record { attempt = spot.attempt; next_seq = seq })) rows ≡ true
    → AreNew rows (turn_grants spot left seq asks)
turn_new rows spot left seq [] past = tt
turn_new rows spot left seq (ask ∷ asks) past =
    let count : ℕ = fitting ask.count ask.size left in
    let later : list_all (is_past spot.epoch (record { attempt = spot.attempt; next_seq = seq + count })) rows ≡ true =
    all_more (is_past spot.epoch (record { attempt = spot.attempt; next_seq = seq })) (is_past spot.epoch (record { attempt = spot.attempt; next_seq = seq + count }))
    (λ row. past_more spot.attempt spot.epoch seq (seq + count) row (omega arith)) rows past in
    new_append (λ id. nat_lt id.seq (seq + count)) rows (granted_from spot ask.size seq count) (turn_grants spot (room_left left ask) (seq + count) asks)
    (granted_all (λ grant. nat_lt grant.id.seq (seq + count)) spot ask.size seq count (λ n from to. lt-ltb n (seq + count) to))
    (turn_all (λ grant. not (nat_lt grant.id.seq (seq + count))) spot (room_left left ask) (seq + count) asks (λ size n from. grind (arith, nat_tests)))
    (granted_new rows spot ask.size seq count past)
    (turn_new rows spot (room_left left ask) (seq + count) asks later)

pub pass_new : (rows : List BookRow) (node : List ℕ) (epoch : ℕ) (asks_of : AttemptId → List Ask) (left : Resource) (turns : List Turn) → TurnsAreApart turns → are_past epoch turns rows ≡ true
    → AreNew rows (pass_grants node epoch asks_of left turns)
pass_new rows node epoch asks_of left [] apart past = tt
pass_new rows node epoch asks_of left (turn ∷ turns) apart past =
    let asks : List Ask = by_priority (asks_of turn.attempt) in
    let spot : Spot = record { node = node; epoch = epoch; attempt = turn.attempt } in
    let parts = and_parts (list_all (is_past epoch turn) rows) (are_past epoch turns rows) past in
    new_append (λ id. is_attempt id.attempt turn.attempt) rows (turn_grants spot left turn.next_seq asks) (pass_grants node epoch asks_of (turn_left left asks) turns)
    (turn_all (λ grant. is_attempt grant.id.attempt turn.attempt) spot left turn.next_seq asks (λ size n from. attempt_itself turn.attempt))
    (pass_all (λ grant. not (is_attempt grant.id.attempt turn.attempt)) node epoch asks_of (turn_left left asks) turns (others turns apart.0))
    (turn_new rows spot left turn.next_seq asks parts.0)
    (pass_new rows node epoch asks_of (turn_left left asks) turns apart.1 parts.1)
  where
    others : (turns : List Turn) → has_turn turn.attempt turns ≡ false → EachGrants (λ grant. not (is_attempt grant.id.attempt turn.attempt)) node epoch turns
    others [] none = tt
    others (other ∷ turns) none =
        let parts = or_parts (is_attempt turn.attempt other.attempt) (has_turn turn.attempt turns) none in
        (λ size n. rw (attempt_back other.attempt turn.attempt ∙ parts.0) refl, others turns parts.1)
