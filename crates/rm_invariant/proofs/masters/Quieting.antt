-- A step at which nothing is to be done: its event may go.
use Rattle.rm_invariant.proofs.Common.{◌≡◌, inl, suc, List, ◌∷◌, Bool, true, false, Option, None, Some, refl, arith, Quiet, AppId, AttemptId, ContainerId, Settings, is_app, AppState, is_alive, MainEvent, AppRow, Current, Tables, main_popped, row_of, History}
use Rattle.std.proofs.Common.{◌≢◌, ◌==◌}
use Rattle.rm_types.specs.declared.messages.Lane.TheVariants.{Main as MainLane}
use Rattle.rm_states.specs.declared.attempt.states.AttemptState.TheVariants as attempts
use Rattle.rm_invariant.specs.Step.{AppsInvariant}
use Rattle.rm_invariant.specs.apps.Invariant.{RowInvariant, StateInvariant}
use Rattle.rm_invariant.specs.apps.View.{View, main_view, one_if, view}
use Rattle.rm_invariant.proofs.apps.Keeping.{unchanged}
use Rattle.rm_invariant.proofs.apps.Effects as views
use Rattle.rm_invariant.specs.masters.Invariant.{ContainersInvariant, ContainerInvariant}
use Rattle.rm_invariant.specs.masters.Preserves.{PreservesContainers}
use Rattle.rm_invariant.specs.masters.View.{container_view_main, container_view}
use Rattle.rm_invariant.proofs.masters.Stepping.{IsEventOf, IsMarkOf, joins_between}
use Rattle.rm_invariant.proofs.masters.Effects.{main_taken}

module _ (settings : Settings) (h : History) (t : Tables) (k : AppsInvariant settings h t) (all : ContainersInvariant h t) (e : MainEvent) (rest : List MainEvent) (front : t.main ≡ e ∷ rest) where
  -- nothing but the event goes
  pub joins_quiet : (id : AppId) (row : Option AppRow) → row_of t.rows id ≡ row → IsEventOf e id → IsMarkOf e id
      → ((q : AttemptId) → is_app id q.app ≡ true → RowInvariant settings q row (main_view q e (view h (main_popped t) q)) → RowInvariant settings q row (view h (main_popped t) q))
      → ((c : ContainerId) → is_app id c.attempt.app ≡ true → ContainerInvariant c row (container_view_main c e (container_view h (main_popped t) c)) → ContainerInvariant c row (container_view h (main_popped t) c))
      → PreservesContainers settings h t (Quiet MainLane) h (main_popped t)
  joins_quiet id None found of mark_of own mark_own =
      joins_between settings h h t (main_popped t) k all (Quiet MainLane) id None (λ r. r) (view h (main_popped t)) (λ q v. main_view q e v) (λ q v. v) (container_view h (main_popped t)) (λ c v. container_view_main c e v) (λ c v. v)
      (inl refl) refl k.recorded k.is_open found (unchanged t.rows id) (λ q. views.main_taken h t q e rest front) (λ q. refl) of (λ q v o. refl) own
      (λ c. main_taken h t c e rest front) (λ c. refl) mark_of (λ c v o. refl) mark_own (λ c is says. says)
  joins_quiet id (Some row) found of mark_of own mark_own =
      joins_between settings h h t (main_popped t) k all (Quiet MainLane) id (Some row) (λ r. r) (view h (main_popped t)) (λ q v. main_view q e v) (λ q v. v) (container_view h (main_popped t)) (λ c v. container_view_main c e v) (λ c v. v)
      (inl refl) refl k.recorded k.is_open found (unchanged t.rows id) (λ q. views.main_taken h t q e rest front) (λ q. refl) of (λ q v o. refl) own
      (λ c. main_taken h t c e rest front) (λ c. refl) mark_of (λ c v o. refl) mark_own (λ c is says. says)

-- MasterGranted goes where the attempt isn't Granted
module _ (settings : Settings) (q : AttemptId) (v : View) where
  granted_state : (s : AppState) (row : AppRow) (o : Option Current) → row.current ≡ o → ((current : Current) → o ≡ Some current → (current.number == q.number) ≡ true → current.state ≢ attempts.Granted)
      → StateInvariant settings q s row (record v { count = record v.count { grants = suc v.count.grants } }) → StateInvariant settings q s row v
  granted_state s row None is not_ says = grind arith
  granted_state s row (Some current) is not_ says = by (current.number == q.number) refl (not_ current refl)
    where
      by : (b : Bool) → (current.number == q.number) ≡ b → (b ≡ true → current.state ≢ attempts.Granted) → StateInvariant settings q s row v
      by b n not_ = grind arith

  -- for every row
  pub granted_goes : (row : Option AppRow) (b : Bool) → (b ≡ true → (one : AppRow) (current : Current) → row ≡ Some one → one.current ≡ Some current → (current.number == q.number) ≡ true → current.state ≢ attempts.Granted)
      → RowInvariant settings q row (record v { count = record v.count { grants = one_if b v.count.grants } }) → RowInvariant settings q row v
  granted_goes row false not_ good = good
  granted_goes None true not_ good = grind arith
  granted_goes (Some row) true not_ good =
      let known = good.0 in
      (record { wish = known.wish; pending = known.pending; stays = known.stays; one_kill = known.one_kill; killed = known.killed }, granted_state row.state row row.current refl (λ current. not_ refl row current refl) good.1)

-- AttemptSaved goes where the attempt doesn't live
module _ (settings : Settings) (q : AttemptId) (v : View) where
  launch_state : (s : AppState) (row : AppRow) (o : Option Current) → row.current ≡ o → ((current : Current) → o ≡ Some current → (current.number == q.number) ≡ true → is_alive current.state ≡ false)
      → StateInvariant settings q s row (record v { count = record v.count { launches = suc v.count.launches } }) → StateInvariant settings q s row v
  launch_state s row None is not_ says = grind arith
  launch_state s row (Some current) is not_ says = by (current.number == q.number) refl (not_ current refl)
    where
      by : (b : Bool) → (current.number == q.number) ≡ b → (b ≡ true → is_alive current.state ≡ false) → StateInvariant settings q s row v
      by b n not_ = grind arith

  -- for every row
  pub launch_goes : (row : Option AppRow) (b : Bool) → (b ≡ true → (one : AppRow) (current : Current) → row ≡ Some one → one.current ≡ Some current → (current.number == q.number) ≡ true → is_alive current.state ≡ false)
      → RowInvariant settings q row (record v { count = record v.count { launches = one_if b v.count.launches } }) → RowInvariant settings q row v
  launch_goes row false not_ good = good
  launch_goes None true not_ good = grind arith
  launch_goes (Some row) true not_ good =
      let known = good.0 in
      (record { wish = known.wish; pending = known.pending; stays = known.stays; one_kill = known.one_kill; killed = known.killed }, launch_state row.state row row.current refl (λ current. not_ refl row current refl) good.1)
