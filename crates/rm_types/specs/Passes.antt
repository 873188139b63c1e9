-- The grants of one allocation pass on a node. That the least priority number goes first is after YARN's documentation
-- of `Priority`; that applications go in turn in the order of their submission, and that an ask that doesn't fit stops no later one, is this
-- project's own.
use Rattle.std.specs.Prelude.{ℕ, zero, suc, ◌+◌, ◌*◌, nat_lt, List, [], ◌∷◌, ◌++◌, map, fold, sum_by, count_by, if◌then◌else◌}
use Rattle.std.specs.List.{range_with_len}
use Rattle.rm_types.specs.declared.containers.Ask.{Ask}
use Rattle.rm_types.specs.declared.containers.Grant.{Grant}
use Rattle.rm_types.specs.declared.containers.Turn.{Turn}
use Rattle.rm_types.specs.declared.ids.AttemptId.{AttemptId}
use Rattle.rm_types.specs.declared.resources.Resource.{Resource}
use Rattle.rm_types.specs.Ids.{is_attempt}
use Rattle.rm_types.specs.Resources.{fits, difference_of}

-- what a pass goes over: a node, what it offers, the sizes of what stands on it, and the epoch of the life
pub record PassNode : Type 0 where
  pub node : List ℕ
  pub capability : Resource
  pub sizes : List Resource
  pub epoch : ℕ

-- the sum of sizes
abbrev pub total_of : List Resource → Resource
total_of sizes = record { memory_mb = sum_by (λ size. size.memory_mb) sizes; vcores = sum_by (λ size. size.vcores) sizes }

-- so many times a size
abbrev pub times : ℕ → Resource → Resource
times count size = record { memory_mb = count * size.memory_mb; vcores = count * size.vcores }

-- what is left of the node: what it offers less what stands on it and the grants so far
abbrev pub left_of : PassNode → List Grant → Resource
left_of pass grants = difference_of pass.capability (total_of (pass.sizes ++ map (λ grant. grant.size) grants))

-- the greatest number, up to a bound, of containers of a size that fit what is left
abbrev pub fitting : ℕ → Resource → Resource → ℕ
fitting zero size left = 0
fitting (suc count) size left = if fits (times (suc count) size) left then suc count else fitting count size left

-- the sequence that the next grant of a turn gets: the turn's first, and one more for each grant to its attempt so far
abbrev pub seq_after : Turn → List Grant → ℕ
seq_after turn grants = turn.next_seq + count_by (λ grant. is_attempt grant.id.attempt turn.attempt) grants

-- one grant of a turn
abbrev pub turn_grant : PassNode → Turn → Resource → ℕ → Grant
turn_grant pass turn size seq = record { id = record { attempt = turn.attempt; epoch = pass.epoch; seq = seq }; node = pass.node; size = size }

-- the grants so far and those for one ask: as many as are asked for and fit
abbrev pub with_granted : PassNode → Turn → List Grant → Ask → List Grant
with_granted pass turn grants ask =
    grants ++ map (turn_grant pass turn ask.size) (range_with_len (seq_after turn grants) (fitting ask.count ask.size (left_of pass grants)))

-- an ask among others by priority: behind those with a lesser number, before all others, which were asked later
abbrev pub put_by_priority : Ask → List Ask → List Ask
put_by_priority ask [] = ask ∷ []
put_by_priority ask (other ∷ asks) = if nat_lt other.priority ask.priority then other ∷ put_by_priority ask asks else ask ∷ other ∷ asks

-- asks by priority, the least number first, and of one priority as they were first asked
abbrev pub by_priority : List Ask → List Ask
by_priority [] = []
by_priority (ask ∷ asks) = put_by_priority ask (by_priority asks)

-- the grants so far and those of one turn: of each ask of its attempt, by priority
abbrev pub with_turn : PassNode → (AttemptId → List Ask) → List Grant → Turn → List Grant
with_turn pass asks_of grants turn = fold (with_granted pass turn) grants (by_priority (asks_of turn.attempt))

-- the grants of a pass: of each turn, in order, where `asks_of` gives what each attempt asks for, in the order of first asking
abbrev pub pass_list : PassNode → (AttemptId → List Ask) → List Turn → List Grant
pass_list pass asks_of turns = fold (with_turn pass asks_of) [] turns
