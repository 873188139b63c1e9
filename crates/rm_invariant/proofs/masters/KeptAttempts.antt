-- An Attempt once it is kept, as a whole step: it lives, and its master is to be launched.
use Rattle.rm_invariant.proofs.Common.{◌≡◌, ℕ, ◌+◌, ◌||◌, suc, List, [], ◌∷◌, ◌++◌, Bool, true, false, Option, None, Some, find, length, drop, refl, sym, ◌∙◌, ap, subst, arith, nat_tests, AppId, AttemptId, ContainerId, Op, AppRecord, Settings, is_app, is_attempt, is_container, record_of, same_app, app_itself, container_itself, attempts_in, Tables, changed, is_master_of, kept, row_of, History}
use Rattle.std.proofs.Common.{◌==◌, option_map, length-append}
use Rattle.rm_types.specs.declared.entries.Entry.TheVariants.{Kept as KeptEntry}
use Rattle.rm_types.specs.declared.operations.Op.TheVariants as ops
use Rattle.rm_states.specs.declared.attempt.states.AttemptState.TheVariants as attempts
use Rattle.rm_tables.specs.declared.events.MainEvent.TheVariants as mains
use Rattle.rm_tables.specs.declared.changes.RowChange.TheVariants as of_app
use Rattle.rm_tables.specs.declared.changes.AttemptChange.TheVariants as of_attempt
use Rattle.rm_invariant.specs.apps.Invariant.{LastIsOpen, RowInvariant}
use Rattle.rm_invariant.specs.Step.{AppsInvariant}
use Rattle.rm_invariant.specs.apps.View.{View, changed_if, counts, is_launch, main_view, one_if, op_view, view}
use Rattle.rm_invariant.proofs.apps.Counts.{at_end}
use Rattle.rm_invariant.proofs.apps.Found.{row_changed}
use Rattle.rm_invariant.proofs.apps.Effects.{main_end}
use Rattle.rm_invariant.proofs.apps.Saving.{recorded_more}
use Rattle.rm_invariant.proofs.apps.Effects as views
use Rattle.rm_invariant.proofs.apps.Recorded.{record_changed}
use Rattle.rm_invariant.specs.masters.Invariant.{ContainersInvariant, ContainerByNumber, ContainerByState, ContainerInvariant, own_of}
use Rattle.rm_invariant.specs.masters.Sound.{RecordsAreSound, IsSoundRecord}
use Rattle.rm_invariant.specs.masters.Preserves.{PreservesContainers}
use Rattle.rm_invariant.specs.masters.View.{ContainerView, is_expiry, is_finish, is_granting, is_losing, container_view_main, container_view, container_view_op}
use Rattle.rm_invariant.proofs.masters.AwaitingAttempts.{AttemptAwaits, attempt_awaits, attempt_saved, last_of_end, new_attempt, saved_record, with_attempt_op, with_new}
use Rattle.rm_invariant.proofs.masters.Sounding.{added_sound, last_found}
use Rattle.rm_invariant.proofs.masters.Held.{mine_is}
use Rattle.rm_invariant.proofs.masters.Stepping.{joins_between}
use Rattle.rm_invariant.proofs.masters.Effects.{op_taken}
use Rattle.rm_invariant.proofs.masters.Marking.{saved_marks}
use Rattle.rm_invariant.proofs.masters.Tests.{or_false}
use Rattle.rm_invariant.proofs.masters.Stale.{stale_with_new}

-- the new record names the container that the operation does
new_master : (id : AppId) (one : AppRecord) (n : ℕ) (c : ContainerId) (node : List ℕ) → IsSoundRecord id (with_new (record { app = id; number = n }) c node one) → n ≡ length (one.attempts ++ new_attempt (record { app = id; number = n }) c node ∷ [])
    → find (λ a. is_attempt a.id (record { app = id; number = n })) (one.attempts ++ new_attempt (record { app = id; number = n }) c node ∷ []) ≡ Some (new_attempt (record { app = id; number = n }) c node)
new_master id one n c node sound e =
    last_found id 0 n (one.attempts ++ new_attempt (record { app = id; number = n }) c node ∷ []) (new_attempt (record { app = id; number = n }) c node) sound.numbered
    (last_of_end one.attempts (new_attempt (record { app = id; number = n }) c node)) (omega (arith, e))

module _ (settings : Settings) (h : History) (t : Tables) (k : AppsInvariant settings h t) (all : ContainersInvariant h t) (each : RecordsAreSound t.tree.apps) (c : ContainerId) (node : List ℕ) (rest : List Op)
    (front : t.awaiting ≡ ops.Attempt c.attempt c node ∷ rest) (handed : t.handed ≡ true) where
  -- the operation
  abbrev issued : Op
  issued = ops.Attempt c.attempt c node

  -- the tables without it
  abbrev left : Tables
  left = record t { awaiting = drop 1 t.awaiting }

  -- its attempt
  abbrev id : AttemptId
  id = c.attempt

  same_number : (n : ℕ) → (n == n) ≡ true
  same_number n = grind (arith, nat_tests)

  with_self : op_view id issued (view h left id) ≡ with_attempt_op id (view h left id)
  with_self = rw (app_itself id.app, same_number id.number) refl

  awaits : AttemptAwaits settings id (row_of t.rows id.app) (view h left id)
  awaits =
      let good = subst (λ (v : View). RowInvariant settings id (row_of t.rows id.app) v) (views.op_taken h t id issued rest front ∙ with_self) (k.all id) in
      attempt_awaits settings id (view h left id) (row_of t.rows id.app) good

  here_number : (awaits.current.number == id.number) ≡ true
  here_number = let n = awaits.number in grind (arith, nat_tests)

  -- its container is the row's master
  mine_by : (m : Bool) → is_master_of c awaits.current.master ≡ m → ContainerByState c attempts.Saving awaits.current.lost m (container_view_op c issued (container_view h left c)) → m ≡ true
  mine_by true o z = refl
  mine_by false o z =
      let none = z.1 in
      let self = container_itself c in
      let w : suc (container_view h left c).savings ≡ 0 = rw self at none in
      absurd (omega (arith, w))

  its_mine : is_master_of c awaits.current.master ≡ true
  its_mine =
      let at_row = awaits.is in
      let says : ContainerInvariant c (Some awaits.one) (container_view h t c) = rw at_row at (all c).0 in
      let now : ContainerInvariant c (Some awaits.one) (container_view_op c issued (container_view h left c)) = subst (λ (v : ContainerView). ContainerInvariant c (Some awaits.one) v) (op_taken h t c issued rest front) says in
      let at_current = awaits.current_is in
      let st = awaits.state in
      let num = here_number in
      let x : ContainerByNumber c (awaits.current.number == c.attempt.number) awaits.current (container_view_op c issued (container_view h left c)) = rw at_current at now.1 in
      let y : ContainerByState c awaits.current.state awaits.current.lost (is_master_of c awaits.current.master) (container_view_op c issued (container_view h left c)) = rw num at x in
      let z : ContainerByState c attempts.Saving awaits.current.lost (is_master_of c awaits.current.master) (container_view_op c issued (container_view h left c)) = rw st at y in
      mine_by (is_master_of c awaits.current.master) refl z

  -- the record after it
  new_found : (found : Option AppRecord) → record_of t.tree.apps id.app ≡ found → (d : ContainerId) → d.attempt ≡ id → own_of d (option_map (with_new id c node) found) ≡ is_container c d
  new_found None f d e = absurd (let s = awaits.stopped.0 in let x = rw f at s in cc)
  new_found (Some one) f d e =
      let stopped = awaits.stopped in
      let next = awaits.next in
      let sound = each id.app one f in
      let open_ = rw f at stopped.1 in
      let ended = rw f at stopped.2 in
      let n : id.number ≡ length one.attempts + 1 = rw f at next in
      let new : IsSoundRecord id.app (with_new id c node one) = added_sound id.app one id c node sound open_ ended refl n in
      let found = new_master id.app one id.number c node new (n ∙ sym (length-append one.attempts (new_attempt id c node ∷ []))) in
      rw (e, found) refl

  own_new : (d : ContainerId) → is_app id.app d.attempt.app ≡ true → (awaits.current.number == d.attempt.number) ≡ true
      → own_of d (option_map (with_new id c node) (record_of t.tree.apps d.attempt.app)) ≡ is_master_of d awaits.current.master
  own_new d same n =
      let num = awaits.number in
      let e : d.attempt ≡ id = grind (arith, nat_tests) in
      let a : id.app ≡ d.attempt.app = same_app id.app d.attempt.app same in
      subst (λ (x : AppId). own_of d (option_map (with_new id c node) (record_of t.tree.apps x)) ≡ is_master_of d awaits.current.master) a
      (new_found (record_of t.tree.apps id.app) refl d e ∙ sym (mine_is c d awaits.current.master its_mine))

  -- the history after it is kept
  abbrev pub attempt_keeping : History
  attempt_keeping = record h { kept = h.kept ++ issued ∷ [] }

  -- the whole step, for every row and state
  pub attempt_kept_joins : PreservesContainers settings h t (KeptEntry issued) attempt_keeping (kept issued t)
  attempt_kept_joins =
      let saved = saved_record t.tree.apps each id c node (record_of t.tree.apps id.app) refl awaits.stopped awaits.next in
      let number = awaits.number in
      joins_between settings h attempt_keeping t (kept issued t) k all (KeptEntry issued) id.app (Some awaits.one) (changed (of_app.OfAttempt of_attempt.Keep))
      (view h left) (λ q v. op_view q issued v) (λ q v. record (main_view q (mains.AttemptSaved id) v) { found = changed_if (is_app id.app q.app) (with_new id c node) v.found })
      (container_view h left) (λ d v. container_view_op d issued v) (λ d v. record (container_view_main d (mains.AttemptSaved id) v) { found = changed_if (is_app id.app d.attempt.app) (with_new id c node) v.found })
      (record { handed = handed; first = rw front refl }) refl (recorded_more settings h t k issued) k.is_open awaits.is (λ q. row_changed (changed (of_app.OfAttempt of_attempt.Keep)) id.app q t.rows)
      (λ q. views.op_taken h t q issued rest front)
      (λ q. let found = record_changed (with_new id c node) (λ one. refl) id.app q.app t.tree.apps in rw (main_end h left q (mains.AttemptSaved id), found) refl)
      (λ q v other. rw other refl) (λ q v other. rw other refl)
      (λ q same says.
      let here : id.app ≡ q.app = same_app id.app q.app same in
      let goes : LastIsOpen (option_map (with_new id c node) (record_of t.tree.apps q.app)) (record { app = q.app; number = awaits.current.number }) = rw (number, ← here) saved.goes in
      let longer : length (attempts_in (option_map (with_new id c node) (record_of t.tree.apps q.app))) ≡ length (attempts_in (record_of t.tree.apps q.app)) + 1 = rw (← here) saved.longer in
      let before : RowInvariant settings q (Some awaits.one) (record (view h left q) { count = record (counts h left q) { attempts = suc (counts h left q).attempts; own_ops = one_if ((id.number == q.number) || false) (counts h left q).own_ops } }) = rw same at says in
      rw same (attempt_saved settings q awaits.one awaits.current (view h left q) awaits.current_is awaits.active (option_map (with_new id c node) (record_of t.tree.apps q.app)) awaits.state goes longer
      (id.number == q.number) (ap (λ n. n == q.number) number) (subst (λ (b : Bool). RowInvariant settings q (Some awaits.one) (record (view h left q) { count = record (counts h left q) { attempts = suc (counts h left q).attempts; own_ops = one_if b (counts h left q).own_ops } })) (or_false (id.number == q.number)) before)))
      (λ d. op_taken h t d issued rest front)
      (λ d. let found = record_changed (with_new id c node) (λ one. refl) id.app d.attempt.app t.tree.apps in
      rw (at_end (is_granting d) t.main (mains.AttemptSaved id), at_end (is_losing d) t.main (mains.AttemptSaved id), at_end (is_launch d.attempt) t.main (mains.AttemptSaved id), at_end (is_expiry d) t.main (mains.AttemptSaved id), at_end (is_finish d) t.main (mains.AttemptSaved id), found) refl)
      (λ d v other. rw other refl) (λ d v other. rw other refl)
      (λ d same says.
      let here : id.app ≡ d.attempt.app = same_app id.app d.attempt.app same in
      let longer : length (attempts_in (option_map (with_new id c node) (record_of t.tree.apps d.attempt.app))) ≡ length (attempts_in (record_of t.tree.apps d.attempt.app)) + 1 = rw (← here) saved.longer in
      rw same (subst (λ (b : Bool). ContainerInvariant d (Some (changed (of_app.OfAttempt of_attempt.Keep) awaits.one)) (record (container_view h left d) { found = option_map (with_new id c node) (record_of t.tree.apps d.attempt.app); launches = one_if b (container_view h left d).launches })) (ap (λ n. n == d.attempt.number) number)
      (saved_marks d awaits.one awaits.current (container_view h left d) awaits.current_is (option_map (with_new id c node) (record_of t.tree.apps d.attempt.app)) awaits.state (is_container c d) (awaits.current.number == d.attempt.number) refl (is_master_of d awaits.current.master) refl (own_new d same) longer says)))
      (λ d same says. rw same (λ x l. says (stale_with_new d (new_attempt id c node) refl (container_view h left d).found x) l))
