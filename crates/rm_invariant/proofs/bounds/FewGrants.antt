-- A pass grants at most 256 containers, as each takes a core at least of what a node offers.
use Rattle.rm_invariant.proofs.Common.{◌≡◌, ◌≤◌, ℕ, ◌+◌, List, [], ◌∷◌, Bool, true, false, not, ◌&&◌, Option, None, Some, length, refl, sym, ◌∙◌, subst, arith, if◌then◌else◌, and_parts, Ask, Grant, Turn, AttemptId, Resource, PassNode, by_priority, pass_list, attempt_asks, capability_of, sizes_on, NodeRow, Tables, is_ready_row, fitted_on, grants_on, still_waits, turns_in}
use Rattle.std.proofs.Common.{Result, Ok, length-append}
use Rattle.rm_types.specs.Passes.{total_of}
use Rattle.rm_types.specs.Resources.{difference_of}
use Rattle.rm_book.proofs.LineOrders.{all_by_priority}
use Rattle.rm_sched.specs.fit.Conditions.{are_some_sizes, have_sizes, is_some_size}
use Rattle.rm_sched.specs.fit.Turns.{Spot, turn_grants, turn_left}
use Rattle.rm_sched.proofs.fit.Passing.{pass_grants, pass_whole, turn_within}
use Rattle.rm_sched.specs.CanWork.{CanPass}

-- a turn's grants take no more cores than there were
turn_cores : (spot : Spot) (left : Resource) (seq : ℕ) (asks : List Ask) → are_some_sizes asks ≡ true → length (turn_grants spot left seq asks) + (turn_left left asks).vcores ≤ left.vcores
turn_cores spot left seq asks some =
    let r : Result Resource ℕ = Ok (turn_left left asks) in
    let few = turn_within r spot left seq asks [] (turn_grants spot left seq asks) some refl refl in
    omega (arith, few)

-- and so don't those of all turns
turns_cores : (node : List ℕ) (epoch : ℕ) (asks : AttemptId → List Ask) (turns : List Turn) (left : Resource) → have_sizes asks turns ≡ true → length (pass_grants node epoch asks left turns) ≤ left.vcores
turns_cores node epoch asks [] left some = omega arith
turns_cores node epoch asks (turn ∷ turns) left some =
    let parts = and_parts (are_some_sizes (asks turn.attempt)) (have_sizes asks turns) some in
    let lines : List Ask = by_priority (asks turn.attempt) in
    let spot : Spot = record { node = node; epoch = epoch; attempt = turn.attempt } in
    let own : are_some_sizes lines ≡ true = all_by_priority (λ (ask : Ask). is_some_size ask.size) (asks turn.attempt) ∙ parts.0 in
    let first = turn_cores spot left turn.next_seq lines own in
    let rest = turns_cores node epoch asks turns (turn_left left lines) parts.1 in
    let both = length-append (turn_grants spot left turn.next_seq lines) (pass_grants node epoch asks (turn_left left lines) turns) in
    omega (arith, first, rest, both)

-- a pass on any node grants at most 256
pub pass_few : (t : Tables) → CanPass t → (name : List ℕ) (row : NodeRow) → length (grants_on name row t) ≤ 256
pass_few t can name row = by (is_ready_row row.state && not (still_waits t)) (capability_of t.book name) refl
  where
    by : (b : Bool) (o : Option Resource) → capability_of t.book name ≡ o → length (if b then fitted_on name o t else []) ≤ 256
    by false o e = omega arith
    by true None e = omega arith
    by true (Some capability) e =
        let pass : PassNode = record { node = name; capability = capability; sizes = sizes_on name t.book.rows; epoch = t.epoch } in
        let left : Resource = difference_of capability (total_of (sizes_on name t.book.rows)) in
        let whole : pass_list pass (attempt_asks t.asks) (turns_in t) ≡ pass_grants name t.epoch (attempt_asks t.asks) left (turns_in t) = pass_whole pass (attempt_asks t.asks) (turns_in t) can.apart in
        let few : length (pass_list pass (attempt_asks t.asks) (turns_in t)) ≤ left.vcores =
        subst (λ (grants : List Grant). length grants ≤ left.vcores) (sym whole) (turns_cores name t.epoch (attempt_asks t.asks) (turns_in t) left can.sizes) in
        let room = can.room name capability e in
        omega (arith, few, room)
