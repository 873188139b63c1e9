-- A pass, told from what is left of the node.
use Rattle.std.proofs.Common.{◌≡◌, ℕ, zero, suc, ◌+◌, ◌-◌, ◌*◌, ◌<◌, ◌≤◌, true, false, List, [], ◌∷◌, ◌++◌, cond, fold, count_by, length, refl, sym, ap, ◌∙◌, append_assoc, append-nil, length-append, get_or, drop, Result, Ok, Err, OnOk, IfOk, arith}
use Rattle.std.specs.List.{list_all, sum_by}
use Rattle.std.proofs.lemmas.Bool.{or_parts, and_parts}
use Rattle.std.proofs.lemmas.List.{map-append, drop_more, drop_all}
use Rattle.std.proofs.lemmas.List.Folds.{list_all-map}
use Rattle.std.proofs.lemmas.List.FromFn.{length-map-range_with_len, map-range_with_len_more}
use Rattle.std.proofs.lemmas.List.Sums.{sum_by-append, sum_by-cons, AllPass-from_list_all}
use Rattle.rm_types.specs.declared.containers.Ask.{Ask}
use Rattle.rm_types.specs.declared.containers.AskLine.{AskLine}
use Rattle.rm_types.specs.declared.containers.Grant.{Grant}
use Rattle.rm_types.specs.declared.containers.Turn.{Turn}
use Rattle.rm_types.specs.declared.ids.AttemptId.{AttemptId}
use Rattle.rm_types.specs.declared.resources.Resource.{Resource}
use Rattle.rm_types.specs.Ids.{is_attempt}
use Rattle.rm_types.specs.Passes.{PassNode, by_priority, fitting, times, total_of, left_of, seq_after, with_granted, with_turn, pass_list}
use Rattle.rm_types.specs.Resources.{difference_of}
use Rattle.rm_types.proofs.IdLemmas.{attempt_itself}
use Rattle.rm_book.specs.Books.{sizes_of}
use Rattle.rm_sched.specs.fit.Conditions.{TurnsAreApart, has_turn, is_some_size, are_some_sizes}
use Rattle.rm_sched.specs.fit.Turns.{Spot, asks_by, spot_grant, granted_from, room_left, turn_left, turn_grants}
use Rattle.rm_sched.proofs.fit.Counting.{fitting_fits, fitting_cores}

-- where a turn of a pass grants
abbrev pub spot_of : PassNode → Turn → Spot
spot_of pass turn = record { node = pass.node; epoch = pass.epoch; attempt = turn.attempt }

-- resources by part
same_resource : {a b c d : ℕ} → a ≡ c → b ≡ d → ◌≡◌ {A = Resource} (record { memory_mb = a; vcores = b }) (record { memory_mb = c; vcores = d })
same_resource e f = λ i. record { memory_mb = e i; vcores = f i }

-- what is left after more grants

sum_more : (part : Resource → ℕ) (sizes : List Resource) (grants more : List Grant)
    → sum_by part (sizes ++ sizes_of (grants ++ more)) ≡ sum_by part (sizes ++ sizes_of grants) + sum_by part (sizes_of more)
sum_more part sizes grants more =
    ap (λ (ys : List Resource). sum_by part (sizes ++ ys)) (map-append (λ (grant : Grant). grant.size) grants more)
    ∙ ap (sum_by part) (sym (append_assoc sizes (sizes_of grants) (sizes_of more)))
    ∙ sum_by-append part (sizes ++ sizes_of grants) (sizes_of more)

pub sum_granted : (part : Resource → ℕ) (spot : Spot) (size : Resource) (seq count : ℕ) → sum_by part (sizes_of (granted_from spot size seq count)) ≡ count * part size
sum_granted part spot size seq zero = omega arith
sum_granted part spot size seq (suc count) =
    sum_by-cons part size (sizes_of (granted_from spot size (seq + 1) count)) ∙ omega (arith, sum_granted part spot size (seq + 1) count)

less_more : (capability so_far more : ℕ) → capability - (so_far + more) ≡ capability - so_far - more
less_more capability so_far more = omega arith

left_granted : (pass : PassNode) (grants : List Grant) (spot : Spot) (size : Resource) (seq count : ℕ)
    → left_of pass (grants ++ granted_from spot size seq count) ≡ difference_of (left_of pass grants) (times count size)
left_granted pass grants spot size seq count =
    let new : List Grant = granted_from spot size seq count in
    let by_part : (part : Resource → ℕ) (total : ℕ)
    → total - sum_by part (pass.sizes ++ sizes_of (grants ++ new)) ≡ total - sum_by part (pass.sizes ++ sizes_of grants) - count * part size =
    λ part total.
    ap (λ (n : ℕ). total - n) (sum_more part pass.sizes grants new)
    ∙ less_more total (sum_by part (pass.sizes ++ sizes_of grants)) (sum_by part (sizes_of new))
    ∙ ap (λ (n : ℕ). total - sum_by part (pass.sizes ++ sizes_of grants) - n) (sum_granted part spot size seq count) in
    same_resource (by_part (λ r. r.memory_mb) pass.capability.memory_mb) (by_part (λ r. r.vcores) pass.capability.vcores)

-- how many grants an attempt has

-- the grants to an attempt
abbrev count_to : AttemptId → List Grant → ℕ
count_to attempt grants = count_by (λ grant. is_attempt grant.id.attempt attempt) grants

count-append : (attempt : AttemptId) (a b : List Grant) → count_to attempt (a ++ b) ≡ count_to attempt a + count_to attempt b
count-append attempt a b = sum_by-append (λ (grant : Grant). cond (is_attempt grant.id.attempt attempt) 1 0) a b

count_granted : (spot : Spot) (size : Resource) (seq count : ℕ) → count_to spot.attempt (granted_from spot size seq count) ≡ count
count_granted spot size seq zero = refl
count_granted spot size seq (suc count) =
    sum_by-cons (λ (grant : Grant). cond (is_attempt grant.id.attempt spot.attempt) 1 0) (spot_grant spot size seq) (granted_from spot size (seq + 1) count)
    ∙ rw (attempt_itself spot.attempt) (omega (arith, count_granted spot size (seq + 1) count))

count_others : (spot : Spot) (size : Resource) (other : AttemptId) (seq count : ℕ) → is_attempt spot.attempt other ≡ false → count_to other (granted_from spot size seq count) ≡ 0
count_others spot size other seq zero apart = refl
count_others spot size other seq (suc count) apart =
    sum_by-cons (λ (grant : Grant). cond (is_attempt grant.id.attempt other) 1 0) (spot_grant spot size seq) (granted_from spot size (seq + 1) count)
    ∙ rw apart (omega (arith, count_others spot size other (seq + 1) count apart))

count_turn : (spot : Spot) (other : AttemptId) (left : Resource) (seq : ℕ) (asks : List Ask) → is_attempt spot.attempt other ≡ false
    → count_to other (turn_grants spot left seq asks) ≡ 0
count_turn spot other left seq [] apart = refl
count_turn spot other left seq (ask ∷ asks) apart =
    let count : ℕ = fitting ask.count ask.size left in
    count-append other (granted_from spot ask.size seq count) (turn_grants spot (room_left left ask) (seq + count) asks)
    ∙ omega (arith, count_others spot ask.size other seq count apart, count_turn spot other (room_left left ask) (seq + count) asks apart)

-- one turn

turn_more : (pass : PassNode) (turn : Turn) (grants : List Grant) (ask : Ask) (asks : List Ask)
    → let more : List Grant = with_granted pass turn grants ask in
    ((fold (with_granted pass turn) more asks ≡ more ++ turn_grants (spot_of pass turn) (left_of pass more) (seq_after turn more) asks)
    → fold (with_granted pass turn) grants (ask ∷ asks) ≡ grants ++ turn_grants (spot_of pass turn) (left_of pass grants) (seq_after turn grants) (ask ∷ asks))
turn_more pass turn grants ask asks rest =
    let spot : Spot = spot_of pass turn in
    let left : Resource = left_of pass grants in
    let seq : ℕ = seq_after turn grants in
    let count : ℕ = fitting ask.count ask.size left in
    let new : List Grant = granted_from spot ask.size seq count in
    let left_is : left_of pass (grants ++ new) ≡ room_left left ask = left_granted pass grants spot ask.size seq count in
    let seq_is : seq_after turn (grants ++ new) ≡ seq + count =
    omega (arith, count-append turn.attempt grants new, count_granted spot ask.size seq count) in
    rest
    ∙ ap (λ (r : Resource). (grants ++ new) ++ turn_grants spot r (seq_after turn (grants ++ new)) asks) left_is
    ∙ ap (λ (n : ℕ). (grants ++ new) ++ turn_grants spot (room_left left ask) n asks) seq_is
    ∙ append_assoc grants new (turn_grants spot (room_left left ask) (seq + count) asks)

turn_is : (pass : PassNode) (turn : Turn) (grants : List Grant) (asks : List Ask)
    → fold (with_granted pass turn) grants asks ≡ grants ++ turn_grants (spot_of pass turn) (left_of pass grants) (seq_after turn grants) asks
turn_is pass turn grants [] = sym (append-nil grants)
turn_is pass turn grants (ask ∷ asks) = turn_more pass turn grants ask asks (turn_is pass turn (with_granted pass turn grants ask) asks)

left_is : (pass : PassNode) (turn : Turn) (grants : List Grant) (asks : List Ask) → left_of pass (fold (with_granted pass turn) grants asks) ≡ turn_left (left_of pass grants) asks
left_is pass turn grants [] = refl
left_is pass turn grants (ask ∷ asks) =
    left_is pass turn (with_granted pass turn grants ask) asks
    ∙ ap (λ (r : Resource). turn_left r asks)
    (left_granted pass grants (spot_of pass turn) ask.size (seq_after turn grants) (fitting ask.count ask.size (left_of pass grants)))

-- the turns of a pass

-- the grants of these turns, where so much is left
abbrev pub pass_grants : List ℕ → ℕ → (AttemptId → List Ask) → Resource → List Turn → List Grant
pass_grants node epoch asks_of left [] = []
pass_grants node epoch asks_of left (turn ∷ turns) =
    turn_grants (record { node = node; epoch = epoch; attempt = turn.attempt }) left turn.next_seq (by_priority (asks_of turn.attempt))
    ++ pass_grants node epoch asks_of (turn_left left (by_priority (asks_of turn.attempt))) turns

-- none of these grants is to one of these turns
abbrev NoneTo : List Grant → List Turn → Type 0
NoneTo grants [] = Unit {0}
NoneTo grants (turn ∷ turns) = (count_to turn.attempt grants ≡ 0) × NoneTo grants turns

none_yet : (turns : List Turn) → NoneTo [] turns
none_yet [] = tt
none_yet (turn ∷ turns) = (refl, none_yet turns)

none_more : (grants : List Grant) (spot : Spot) (left : Resource) (seq : ℕ) (asks : List Ask) (turns : List Turn) → has_turn spot.attempt turns ≡ false → NoneTo grants turns
    → NoneTo (grants ++ turn_grants spot left seq asks) turns
none_more grants spot left seq asks [] apart h = tt
none_more grants spot left seq asks (turn ∷ turns) apart h =
    let parts = or_parts (is_attempt spot.attempt turn.attempt) (has_turn spot.attempt turns) apart in (
      count-append turn.attempt grants (turn_grants spot left seq asks) ∙ omega (arith, h.0, count_turn spot turn.attempt left seq asks parts.0),
      none_more grants spot left seq asks turns parts.1 h.1,
    )

pass_is : (pass : PassNode) (asks_of : AttemptId → List Ask) (grants : List Grant) (turns : List Turn) → TurnsAreApart turns → NoneTo grants turns
    → fold (with_turn pass asks_of) grants turns ≡ grants ++ pass_grants pass.node pass.epoch asks_of (left_of pass grants) turns
pass_is pass asks_of grants [] apart none = sym (append-nil grants)
pass_is pass asks_of grants (turn ∷ turns) apart none =
    let asks : List Ask = by_priority (asks_of turn.attempt) in
    let left : Resource = left_of pass grants in
    let spot : Spot = spot_of pass turn in
    let new : List Grant = turn_grants spot left turn.next_seq asks in
    let first : seq_after turn grants ≡ turn.next_seq = omega (arith, none.0) in
    let is : with_turn pass asks_of grants turn ≡ grants ++ new =
    turn_is pass turn grants asks ∙ ap (λ (n : ℕ). grants ++ turn_grants spot left n asks) first in
    let left_then : left_of pass (grants ++ new) ≡ turn_left left asks = ap (left_of pass) (sym is) ∙ left_is pass turn grants asks in
    ap (λ (ys : List Grant). fold (with_turn pass asks_of) ys turns) is
    ∙ pass_is pass asks_of (grants ++ new) turns apart.1 (none_more grants spot left turn.next_seq asks turns apart.0 none.1)
    ∙ ap (λ (r : Resource). (grants ++ new) ++ pass_grants pass.node pass.epoch asks_of r turns) left_then
    ∙ append_assoc grants new (pass_grants pass.node pass.epoch asks_of (turn_left left asks) turns)

-- a whole pass
pub pass_whole : (pass : PassNode) (asks_of : AttemptId → List Ask) (turns : List Turn) → TurnsAreApart turns
    → pass_list pass asks_of turns ≡ pass_grants pass.node pass.epoch asks_of (difference_of pass.capability (total_of pass.sizes)) turns
pass_whole pass asks_of turns apart =
    pass_is pass asks_of [] turns apart (none_yet turns)
    ∙ ap (λ (sizes : List Resource). pass_grants pass.node pass.epoch asks_of (difference_of pass.capability (total_of sizes)) turns) (append-nil pass.sizes)

-- the grants of a pass whose turns are at their end
pub pass_end : (node : List ℕ) (epoch : ℕ) (asks_of : AttemptId → List Ask) (first left : Resource) (turns : List Turn) (grants : List Grant) (place : ℕ) → length turns ≤ place
    → grants ++ pass_grants node epoch asks_of left (drop place turns) ≡ pass_grants node epoch asks_of first turns → grants ≡ pass_grants node epoch asks_of first turns
pass_end node epoch asks_of first left turns grants place past so_far =
    sym (append-nil grants) ∙ ap (λ (ys : List Turn). grants ++ pass_grants node epoch asks_of left ys) (sym (drop_all place turns past)) ∙ so_far

-- each grant takes a core at least

turn_few : (spot : Spot) (left : Resource) (seq : ℕ) (asks : List Ask) → are_some_sizes asks ≡ true
    → length (turn_grants spot left seq asks) + (turn_left left asks).vcores ≤ left.vcores
turn_few spot left seq [] some = omega arith
turn_few spot left seq (ask ∷ asks) some =
    let parts = and_parts (is_some_size ask.size) (are_some_sizes asks) some in
    let count : ℕ = fitting ask.count ask.size left in
    omega (
      arith,
      length-append (granted_from spot ask.size seq count) (turn_grants spot (room_left left ask) (seq + count) asks),
      length-map-range_with_len (spot_grant spot ask.size) seq count,
      turn_few spot (room_left left ask) (seq + count) asks parts.1,
      (fitting_fits ask.count ask.size left).1,
      fitting_cores ask.count ask.size left parts.0,
    )

-- a turn's grants take no more cores than there were
pub turn_within : {E : Type 0} (r : Result Resource E) (spot : Spot) (left : Resource) (seq : ℕ) (asks : List Ask) (old new : List Grant) → are_some_sizes asks ≡ true
    → OnOk r (new ≡ old ++ turn_grants spot left seq asks) → IfOk r (λ rest. rest ≡ turn_left left asks)
    → IfOk r (λ rest. length new + rest.vcores ≤ length old + left.vcores)
turn_within (Ok rest) spot left seq asks old new some is_new is_rest =
    rw (is_new, is_rest) (omega (arith, length-append old (turn_grants spot left seq asks), turn_few spot left seq asks some))
turn_within (Err e) spot left seq asks old new some is_new is_rest = tt

-- one grant more
pub granted_more : (spot : Spot) (size : Resource) (first seq : ℕ) → first ≤ seq
    → granted_from spot size first (seq + 1 - first) ≡ granted_from spot size first (seq - first) ++ spot_grant spot size seq ∷ []
granted_more spot size first seq le =
    let next : seq + 1 - first ≡ seq - first + 1 = omega arith in
    ap (granted_from spot size first) next ∙ map-range_with_len_more (spot_grant spot size) first (seq - first) seq (omega arith)

-- a step over the lines of a turn

-- the sizes of lines are those of their asks
pub sizes_by : (lines : List AskLine) → list_all (λ line. is_some_size line.ask.size) lines ≡ are_some_sizes (asks_by lines)
sizes_by lines = sym (list_all-map (λ (ask : Ask). is_some_size ask.size) (λ (line : AskLine). line.ask) lines)

pub some_at : (lines : List AskLine) (place : ℕ) (none : AskLine) → place < length lines → are_some_sizes (asks_by lines) ≡ true → is_some_size (get_or lines place none).ask.size ≡ true
some_at lines place none within some =
    AllPass-from_list_all (λ (line : AskLine). is_some_size line.ask.size) lines (sizes_by lines ∙ some) place none within

pub next_ask : (lines : List AskLine) (place : ℕ) (none : AskLine) → place < length lines → asks_by (drop place lines) ≡ (get_or lines place none).ask ∷ asks_by (drop (place + 1) lines)
next_ask lines place none within = ap asks_by (drop_more lines place none within)

-- what is granted goes over to the grants so far
pub turn_step : (spot : Spot) (ask : Ask) (before after : List Ask) (left rest : Resource) (count seq next : ℕ) (grants new all : List Grant) → before ≡ ask ∷ after
    → count ≡ fitting ask.count ask.size left → rest ≡ difference_of left (times count ask.size) → next ≡ seq + count → new ≡ grants ++ granted_from spot ask.size seq count
    → grants ++ turn_grants spot left seq before ≡ all → new ++ turn_grants spot rest next after ≡ all
turn_step spot ask before after left rest count seq next grants new all is fit is_rest is_next is_new so_far =
    rw (is_new, is_rest, is_next, fit)
    (append_assoc grants (granted_from spot ask.size seq (fitting ask.count ask.size left)) (turn_grants spot (room_left left ask) (seq + fitting ask.count ask.size left) after)
    ∙ ap (λ (ys : List Ask). grants ++ turn_grants spot left seq ys) (sym is) ∙ so_far)

-- what is left goes on
pub left_step : (ask : Ask) (before after : List Ask) (left rest all : Resource) (count : ℕ) → before ≡ ask ∷ after → count ≡ fitting ask.count ask.size left
    → rest ≡ difference_of left (times count ask.size) → turn_left left before ≡ all → turn_left rest after ≡ all
left_step ask before after left rest all count is fit is_rest so_far = rw (is_rest, fit) (ap (turn_left left) (sym is) ∙ so_far)

-- and the sequence rises by no more than the cores that go
pub room_step : (asked : ℕ) (size left rest : Resource) (count seq next bound : ℕ) → is_some_size size ≡ true → count ≡ fitting asked size left
    → rest ≡ difference_of left (times count size) → next ≡ seq + count → seq + left.vcores ≤ bound → next + rest.vcores ≤ bound
room_step asked size left rest count seq next bound some fit is_rest is_next so_far =
    let cores : rest.vcores ≡ left.vcores - count * size.vcores = ap (λ (r : Resource). r.vcores) is_rest in
    let fits : count * size.vcores ≤ left.vcores = rw fit (fitting_fits asked size left).1 in
    let one_each : count ≤ count * size.vcores = rw fit (fitting_cores asked size left some) in
    omega (arith, cores, fits, one_each, is_next, so_far)
