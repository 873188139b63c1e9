-- What a life begins with, that nothing is left of one that goes down, and that an operation that is handed, or refused, weighs less.
use Rattle.rm_invariant.proofs.Common.{◌≡◌, ℕ, ◌+◌, ◌*◌, ◌<◌, ◌≤◌, zero, suc, List, [], ◌∷◌, Bool, true, false, None, Some, Option, nat_le, fold, length, refl, ap, arith, sum_by-cons, length-map, AppRecord, AttemptRecord, Records, last_attempt, Completion, Tables, completion_of, completions_in, ended_in, put_completion, with_completed, begun, handed_out, refused, recovered_attempt, recovered_row, recovered_rows}
use Rattle.std.proofs.Common.{◌≢◌, is_some}
use Rattle.std.specs.Prelude.{option_map}
use Rattle.std.specs.Map.{values_of}
use Rattle.std.proofs.Math.Nat.{mul-suc}
use Rattle.rm_tables.specs.declared.events.MainEvent.TheVariants as mains
use Rattle.rm_tables.specs.Lives.{tables_gone_down}
use Rattle.rm_invariant.specs.measure.Measure.{begin_measure, current_measure, main_measure, current_number, row_measure, rows_measure, slot_measure, untried_measure, measure}
use Rattle.rm_invariant.proofs.measure.Rows.{app_most}

-- an operation is handed
pub hand_lighter : (t : Tables) → t.handed ≡ false → t.awaiting ≢ [] → measure (handed_out t) < measure t
hand_lighter t h some = rw h (omega arith)

-- and one that the store refuses
pub blow_lighter : (t : Tables) → t.handed ≡ true → t.blown ≡ false → measure (refused t) < measure t
blow_lighter t h b = rw (h, b) (omega arith)

-- nothing is left to do of a life that goes down
pub down_weighs : (t : Tables) → t.handed ≡ false → measure (tables_gone_down t) ≤ measure t
down_weighs t h = rw h (omega arith)

-- no more are completed than are recorded
few_put : (one : Completion) (xs : List Completion) → length (put_completion one xs) ≡ suc (length xs)
few_put one [] = refl
few_put one (x ∷ xs) = by (nat_le x.order one.order) refl (few_put one xs)
  where
    by : (b : Bool) → nat_le x.order one.order ≡ b → length (put_completion one xs) ≡ suc (length xs) → length (put_completion one (x ∷ xs)) ≡ suc (length (x ∷ xs))
    by true e rest = rw e (ap suc rest)
    by false e rest = rw e refl

few_completed : (apps : List AppRecord) (so_far : List Completion) → length (fold with_completed so_far apps) ≤ length so_far + length apps
few_completed [] so_far = omega arith
few_completed (app ∷ apps) so_far = by (is_some app.ending) refl (few_completed apps (put_completion (completion_of app) so_far)) (few_completed apps so_far)
  where
    by : (b : Bool) → is_some app.ending ≡ b → length (fold with_completed (put_completion (completion_of app) so_far) apps) ≤ length (put_completion (completion_of app) so_far) + length apps
        → length (fold with_completed so_far apps) ≤ length so_far + length apps → length (fold with_completed so_far (app ∷ apps)) ≤ length so_far + length (app ∷ apps)
    by true e with_it without = let one = few_put (completion_of app) so_far in rw e (omega (arith, with_it, one))
    by false e with_it without = rw e (omega (arith, without))

few_ended : (apps : List AppRecord) → length (ended_in apps) ≤ length apps
few_ended apps =
    let same = length-map (completions_in apps) (λ (one : Completion). one.id) in
    let few = few_completed apps [] in
    omega (arith, same, few)

-- the last attempt of a recorded application lives or has ended
recovered_weighs : (o : Option AttemptRecord) → current_measure (option_map recovered_attempt o) ≤ 4
recovered_weighs None = omega arith
recovered_weighs (Some one) = by (is_some one.ending) refl
  where
    by : (b : Bool) → is_some one.ending ≡ b → current_measure (Some (recovered_attempt one)) ≤ 4
    by true e = rw e (omega arith)
    by false e = rw e (omega arith)

-- the rows of recorded applications
recovered_rows_weigh : (most : ℕ) (apps : List AppRecord) → rows_measure most (recovered_rows apps) ≤ (untried_measure most + 4) * length apps
recovered_rows_weigh most [] = omega arith
recovered_rows_weigh most (app ∷ apps) =
    let more = recovered_rows_weigh most apps in
    let one : row_measure most (recovered_row app) ≤ untried_measure most + 4 =
    omega (arith, app_most most (recovered_row app).state (current_number (recovered_row app).current), recovered_weighs (last_attempt app.attempts)) in
    let all = sum_by-cons (slot_measure most) (Some (recovered_row app)) (values_of (recovered_rows apps)) in
    let times = mul-suc (untried_measure most + 4) (length apps) in
    omega (arith, more, one, all, times)

-- a life begins with its first event and what is recorded
pub begin_weighs : (tree : Records) (stamp : ℕ) (t : Tables) → measure (begun tree stamp t) ≤ begin_measure t.settings tree
begin_weighs tree stamp t =
    let few = few_ended tree.apps in
    let rows = recovered_rows_weigh t.settings.max_attempts tree.apps in
    let first = sum_by-cons (main_measure t.settings.max_attempts) mains.EpochStart [] in
    let parts = spread t.settings.max_attempts (length tree.apps) in
    omega (arith, first, few, rows, parts)
  where
    spread : (most n : ℕ) → (10 + untried_measure most) * n ≡ (untried_measure most + 4) * n + 6 * n
    spread most zero = omega arith
    spread most (suc n) = omega (arith, spread most n, mul-suc (10 + untried_measure most) n, mul-suc (untried_measure most + 4) n, mul-suc 6 n)
