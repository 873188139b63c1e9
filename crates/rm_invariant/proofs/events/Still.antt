-- What no event of the main queue touches: the records, the settings, and but for Retire what is completed and what else waits in the queue.
-- So the completed applications are still told in order.
use Rattle.rm_invariant.proofs.Common.{◌⊎◌, inl, inr, ◌≡◌, ◌≤◌, ◌<◌, List, [], ◌∷◌, ◌++◌, Bool, true, false, drop, length, refl, sym, subst, arith, if◌then◌else◌, nat_tests, Entry, Issued, AppId, Records, MainEvent, Tables, main_quiet, main_worked, main_step, removal_of_first}
use Rattle.std.proofs.Common.{nat_lt, count_by}
use Rattle.rm_types.specs.declared.operations.Op.TheVariants as ops
use Rattle.rm_tables.specs.declared.events.MainEvent.TheVariants as mains
use Rattle.rm_invariant.specs.events.Outcomes.{Outcome, removes}
use Rattle.rm_invariant.specs.apps.Completed.{Completes, is_retire}
use Rattle.rm_invariant.proofs.apps.Completing.{completes_still, retire_left, retire_posted}
use Rattle.rm_invariant.specs.masters.Invariant.{MastersAreOwn}

-- the records, the settings, what is completed and the queue are the same
record IsStill (t next : Tables) : Type 0 where
  tree : next.tree ≡ t.tree
  settings : next.settings ≡ t.settings
  ended : next.ended ≡ t.ended
  main : next.main ≡ t.main

-- or the application that completed first is removed
record IsRemoved (t next : Tables) : Type 0 where
  id : AppId
  more : List AppId
  first : t.ended ≡ id ∷ more
  is : next ≡ record t { ended = more; awaiting = t.awaiting ++ ops.Remove id ∷ []; main = t.main ++ mains.Retire ∷ [] }

module _ (t : Tables) where
  -- each thing that an event of the main queue may come to
  outcome_still : (done : Entry × Tables) → Outcome t done → IsStill t done.1 ⊎ IsRemoved t done.1
  outcome_still done (removes id more first many) = inr (record { id = id; more = more; first = first; is = refl })
  outcome_still done _ = inl (record { tree = refl; settings = refl; ended = refl; main = refl })

  main_keeps : (done : Entry × Tables) → Outcome t done → (done.1.tree ≡ t.tree) × (done.1.settings ≡ t.settings)
  main_keeps done outcome = by done.1 (outcome_still done outcome)
    where
      by : (next : Tables) → IsStill t next ⊎ IsRemoved t next → (next.tree ≡ t.tree) × (next.settings ≡ t.settings)
      by next (inl still) = (still.tree, still.settings)
      by next (inr removed) = let is = removed.is in rw is (refl, refl)

  -- the records name masters of their attempts
  pub main_apt : (e : MainEvent) → Outcome t (main_step e t) → MastersAreOwn t.tree.apps → MastersAreOwn (main_worked (main_step e t)).1.tree.apps
  main_apt e outcome apt = subst (λ (r : Records). MastersAreOwn r.apps) (sym (main_keeps (main_step e t) outcome).0) apt

  -- the completed applications are told in order where the first of them is removed
  removed_completes : (id : AppId) (more : List AppId) → t.ended ≡ id ∷ more → (e : MainEvent) (rest : List MainEvent) → t.main ≡ e ∷ rest → Completes t
      → Completes (record t { ended = more; awaiting = t.awaiting ++ ops.Remove id ∷ []; main = drop 1 (t.main ++ mains.Retire ∷ []) })
  removed_completes id more first e rest front completes =
      let posted : rest ++ mains.Retire ∷ [] ≡ drop 1 (t.main ++ mains.Retire ∷ []) = rw front refl in
      let order = completes.in_order in
      record {
        once = completes.once;
        in_order = (rw first at order).1;
        early = completes.early;
        retires = λ many. subst (λ (main : List MainEvent). 1 ≤ count_by is_retire main) posted (retire_posted rest mains.Retire refl);
      }

  -- and by each event but Retire
  other_completes : (e : MainEvent) (rest : List MainEvent) → t.main ≡ e ∷ rest → is_retire e ≡ false → Completes t → (done : Entry × Tables) → Outcome t done → Completes (main_worked done).1
  other_completes e rest front other completes done outcome = by done.1 (outcome_still done outcome)
    where
      by : (next : Tables) → IsStill t next ⊎ IsRemoved t next → Completes (record next { main = drop 1 next.main })
      by next (inl still) =
          completes_still t (record next { main = drop 1 next.main }) completes still.tree still.ended still.settings
          (λ some. subst (λ (main : List MainEvent). 1 ≤ count_by is_retire (drop 1 main)) (sym still.main) (retire_left t.main e rest front other some))
      by next (inr removed) =
          subst (λ (one : Tables). Completes (record one { main = drop 1 one.main })) (sym removed.is) (removed_completes removed.id removed.more removed.first e rest front completes)

  -- and by Retire
  module _ (rest : List MainEvent) (front : t.main ≡ mains.Retire ∷ rest) (completes : Completes t) where
    -- where no more are completed than are remembered
    enough : (t.settings.max_completed < length t.ended → ⊥) → Completes (main_worked (main_quiet t)).1
    enough few = record { once = completes.once; in_order = completes.in_order; early = completes.early; retires = λ many. absurd (few many) }

    removed : (id : AppId) (more : List AppId) → t.ended ≡ id ∷ more → (b : Bool) → nat_lt t.settings.max_completed (length (id ∷ more)) ≡ b
        → Completes (main_worked (if b then (Issued (ops.Remove id), record t { ended = more; awaiting = t.awaiting ++ ops.Remove id ∷ []; main = t.main ++ mains.Retire ∷ [] }) else main_quiet t)).1
    removed id more first true e = removed_completes id more first mains.Retire rest front completes
    removed id more first false e = enough (λ many. let x : t.settings.max_completed < length (id ∷ more) = rw first at many in grind (arith, nat_tests))

    by_ended : (ended : List AppId) → t.ended ≡ ended → Completes (main_worked (removal_of_first ended t)).1
    by_ended [] first = enough (λ many. let x : t.settings.max_completed < 0 = rw first at many in omega (arith, x))
    by_ended (id ∷ more) first = removed id more first (nat_lt t.settings.max_completed (length (id ∷ more))) refl

    retire_completes : Completes (main_worked (main_step mains.Retire t)).1
    retire_completes = by_ended t.ended refl

  -- by each event of the main queue
  pub main_completes : (e : MainEvent) (rest : List MainEvent) → t.main ≡ e ∷ rest → Outcome t (main_step e t) → Completes t → Completes (main_worked (main_step e t)).1
  main_completes e rest front outcome completes = by e refl
    where
      retiring : e ≡ mains.Retire → Completes (main_worked (main_step e t)).1
      retiring is =
          subst (λ (one : MainEvent). Completes (main_worked (main_step one t)).1) (sym is)
          (retire_completes rest (subst (λ (one : MainEvent). t.main ≡ one ∷ rest) is front) completes)

      other : is_retire e ≡ false → Completes (main_worked (main_step e t)).1
      other not_it = other_completes e rest front not_it completes (main_step e t) outcome

      by : (one : MainEvent) → e ≡ one → Completes (main_worked (main_step e t)).1
      by mains.Retire is = retiring is
      by _ is = other (rw is refl)
