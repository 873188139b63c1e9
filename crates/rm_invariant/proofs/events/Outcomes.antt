-- Each event of the main queue but EpochStart comes to one of the things that may happen.
use Rattle.rm_invariant.proofs.Common.{◌≡◌, ◌<◌, ◌&&◌, ℕ, List, [], ◌∷◌, Bool, true, false, Option, None, Some, length, inl, inr, refl, sym, ◌∙◌, ap, arith, nat_tests, and_parts, AppId, AttemptId, ContainerId, How, Submission, reaches_bound, expired_text, killed_text, lost_text, AppState, AttemptState, is_alive, MainEvent, AppRow, Current, Tables, found_in, accept_of_row, accept_of_state, decision_of_end, decision_of_attempt_state, decision_of_row, decision_of_current, end_with, expiry_of_row, expiry_of_living, expiry_of_current, finish_of_row, finish_of_living, finish_of_current, finishing_in, grant_of_state, grant_of_row, grant_of_place, grant_of_current, is_master_of, kill_of_attempt_state, kill_of_row, kill_of_state, last_end_in, launch_of_master, launch_of_row, launch_of_tests, launch_of_place, launch_of_living, launch_of_current, is_living_one, loss_of_state, loss_of_row, loss_of_current, main_step, node_at, removal_of_first, save_of_row, save_of_state, start_of_submission, row_of}
use Rattle.std.proofs.Common.{◌≢◌, ◌==◌, nat_lt}
use Rattle.rm_types.specs.declared.operations.How.TheVariants as ways
use Rattle.rm_states.specs.declared.app.states.AppState.TheVariants as apps
use Rattle.rm_states.specs.declared.attempt.states.AttemptState.TheVariants as attempts
use Rattle.rm_tables.specs.declared.events.MainEvent.TheVariants as mains
use Rattle.rm_tables.specs.MainEvents.{start_of_row}
use Rattle.rm_invariant.specs.events.Outcomes.{IsEndOfApp, Outcome, accepts, adds, delays, ends, ends_one, follows, idles, issues, kills, loses, orders, removes, requeues, saves}
use Rattle.rm_invariant.specs.apps.Invariant.{is_active}

module _ (t : Tables) where
  -- AppStart
  started : (id : AppId) (rest : List MainEvent) → t.main ≡ mains.AppStart id ∷ rest → (o : Option AppRow) → row_of t.rows id ≡ o → Outcome t (start_of_row o id t)
  started id rest front None e = idles
  started id rest front (Some row) e = by row.pending refl
    where
      by : (o : Option Submission) → row.pending ≡ o → Outcome t (start_of_submission o id t)
      by None p = idles
      by (Some submission) p = saves id row submission rest e p front

  -- AppSaved
  saved : (id : AppId) (rest : List MainEvent) → t.main ≡ mains.AppSaved id ∷ rest → (o : Option AppRow) → row_of t.rows id ≡ o → Outcome t (save_of_row o id t)
  saved id rest front None e = idles
  saved id rest front (Some row) e = by row.state row.wish refl
    where
      by : (s : AppState) (wish : Bool) → row.state ≡ s → Outcome t (save_of_state s wish id t)
      by apps.Submitted true is = ends id row ways.Killed killed_text e (inl is) (inl (refl, refl))
      by apps.Submitted false is = adds id row rest e is front
      by _ wish is = idles

  -- AppAccepted
  accepted : (id : AppId) (o : Option AppRow) → row_of t.rows id ≡ o → Outcome t (accept_of_row o id t)
  accepted id None e = idles
  accepted id (Some row) e = by row.state refl
    where
      by : (s : AppState) → row.state ≡ s → Outcome t (accept_of_state s id t)
      by apps.Submitted is = accepts id row e is
      by _ is = idles

  -- AppKill
  killed : (id : AppId) (o : Option AppRow) → row_of t.rows id ≡ o → Outcome t (kill_of_row o id t)
  killed id None e = idles
  killed id (Some row) e = by row.state row.current refl refl
    where
      at_state : (current : Current) (s : AttemptState) → current.state ≡ s → row.current ≡ Some current → is_active row.state ≡ true → Outcome t (kill_of_attempt_state s (record { app = id; number = current.number }) t)
      at_state current attempts.Scheduled is c g = ends id row ways.Killed killed_text e (inr (g, (current, c, rw is refl))) (inl (refl, refl))
      at_state current attempts.Granted is c g = ends id row ways.Killed killed_text e (inr (g, (current, c, rw is refl))) (inl (refl, refl))
      at_state current attempts.Live is c g = kills (record { app = id; number = current.number }) row current (record { found = e; is = c }) refl (rw is refl) g
      at_state current attempts.Registered is c g = kills (record { app = id; number = current.number }) row current (record { found = e; is = c }) refl (rw is refl) g
      at_state current attempts.Finishing is c g = kills (record { app = id; number = current.number }) row current (record { found = e; is = c }) refl (rw is refl) g
      at_state current attempts.Dropped is c g = idles
      at_state current _ is c g = delays id row current (record { found = e; is = c }) (rw is refl) g

      by : (s : AppState) (c : Option Current) → row.state ≡ s → row.current ≡ c → Outcome t (kill_of_state s c id t)
      by apps.Submitted c is o = ends id row ways.Killed killed_text e (inl is) (inl (refl, refl))
      by apps.Accepted (Some current) is o = at_state current current.state refl o (rw is refl)
      by apps.Running (Some current) is o = at_state current current.state refl o (rw is refl)
      by apps.Killing (Some current) is o = at_state current current.state refl o (rw is refl)
      by _ _ is o = idles

  -- MasterGranted
  granted : (container : ContainerId) (rest : List MainEvent) → t.main ≡ mains.MasterGranted container ∷ rest → (o : Option AppRow) → row_of t.rows container.attempt.app ≡ o → Outcome t (grant_of_row o container t)
  granted container rest front None e = idles
  granted container rest front (Some row) e = with_current row.current refl
    where
      place : (current : Current) → row.current ≡ Some current → current.state ≡ attempts.Granted → (current.number == container.attempt.number) ≡ true → is_master_of container current.master ≡ true
          → (node : Option (List ℕ)) → node_at t.book container ≡ node → Outcome t (grant_of_place node container t)
      place current c is n m (Some node) at_ = issues container node row current (record { found = e; is = c }) is n m at_
      place current c is n m None at_ = requeues container row current rest (record { found = e; is = c }) is n m at_ front

      by : (current : Current) (s : AttemptState) (b : Bool) → row.current ≡ Some current → current.state ≡ s → ((current.number == container.attempt.number) && is_master_of container current.master) ≡ b → Outcome t (grant_of_state s b container t)
      by current attempts.Granted true c is own = let x = and_parts (current.number == container.attempt.number) (is_master_of container current.master) own in place current c is x.0 x.1 (node_at t.book container) refl
      by current _ _ c is own = idles

      with_current : (c : Option Current) → row.current ≡ c → Outcome t (grant_of_current c container t)
      with_current None c = idles
      with_current (Some current) c = by current current.state ((current.number == container.attempt.number) && is_master_of container current.master) c refl refl

  -- AttemptSaved
  launched : (id : AttemptId) (o : Option AppRow) → row_of t.rows id.app ≡ o → Outcome t (launch_of_row o id t)
  launched id None e = idles
  launched id (Some row) e = with_current row.current refl
    where
      place : (current : Current) (container : ContainerId) → row.current ≡ Some current → is_living_one id current ≡ true → current.master ≡ Some container → (node : Option (List ℕ)) → node_at t.book container ≡ node → Outcome t (launch_of_place node container t)
      place current container c live m None at_ = idles
      place current container c live m (Some node) at_ =
          let x = and_parts (current.number == id.number) (is_alive current.state) live in orders id container node row current (record { found = e; is = c }) x.0 x.1 m at_

      master : (current : Current) → row.current ≡ Some current → is_living_one id current ≡ true → (m : Option ContainerId) → current.master ≡ m → Outcome t (launch_of_master m t)
      master current c live None m = idles
      master current c live (Some container) m = place current container c live m (node_at t.book container) refl

      cause : (current : Current) → row.current ≡ Some current → is_living_one id current ≡ true → (wish lost : Bool) → Outcome t (launch_of_tests wish lost current.master id t)
      cause current c live true lost = let x = and_parts (current.number == id.number) (is_alive current.state) live in ends_one id row current ways.Killed killed_text (record { found = e; is = c }) x.0 x.1 (inl (refl, refl))
      cause current c live false true = let x = and_parts (current.number == id.number) (is_alive current.state) live in ends_one id row current ways.Failed lost_text (record { found = e; is = c }) x.0 x.1 (inr (inl (refl, inl refl)))
      cause current c live false false = master current c live current.master refl

      lives : (current : Current) → row.current ≡ Some current → (b : Bool) → is_living_one id current ≡ b → Outcome t (launch_of_living b row.wish current id t)
      lives current c true live = cause current c live row.wish current.lost
      lives current c false live = idles

      with_current : (c : Option Current) → row.current ≡ c → Outcome t (launch_of_current c row.wish id t)
      with_current None c = idles
      with_current (Some current) c = lives current c (is_living_one id current) refl

  -- MasterLost
  lost : (container : ContainerId) (o : Option AppRow) → row_of t.rows container.attempt.app ≡ o → Outcome t (loss_of_row o container t)
  lost container None e = idles
  lost container (Some row) e = with_current row.current refl
    where
      ended : (current : Current) → row.current ≡ Some current → (current.number == container.attempt.number) ≡ true → is_alive current.state ≡ true → Outcome t (loss_of_state attempts.Live true container t)
      ended current c n a = ends_one container.attempt row current ways.Failed lost_text (record { found = e; is = c }) n a (inr (inl (refl, inl refl)))

      by : (current : Current) (s : AttemptState) (b : Bool) → row.current ≡ Some current → current.state ≡ s → ((current.number == container.attempt.number) && is_master_of container current.master) ≡ b → Outcome t (loss_of_state s b container t)
      by current attempts.Saving true c is own = let x = and_parts (current.number == container.attempt.number) (is_master_of container current.master) own in loses container row current (record { found = e; is = c }) is x.0 x.1
      by current attempts.Live true c is own = let x = and_parts (current.number == container.attempt.number) (is_master_of container current.master) own in ended current c x.0 (rw is refl)
      by current attempts.Registered true c is own = let x = and_parts (current.number == container.attempt.number) (is_master_of container current.master) own in ended current c x.0 (rw is refl)
      by current attempts.Finishing true c is own = let x = and_parts (current.number == container.attempt.number) (is_master_of container current.master) own in ended current c x.0 (rw is refl)
      by current _ _ c is own = idles

      with_current : (c : Option Current) → row.current ≡ c → Outcome t (loss_of_current c container t)
      with_current None c = idles
      with_current (Some current) c = by current current.state ((current.number == container.attempt.number) && is_master_of container current.master) c refl refl

  -- AttemptExpired
  expired : (id : AttemptId) (o : Option AppRow) → row_of t.rows id.app ≡ o → Outcome t (expiry_of_row o id t)
  expired id None e = idles
  expired id (Some row) e = with_current row.current refl
    where
      lives : (current : Current) → row.current ≡ Some current → (b : Bool) → is_living_one id current ≡ b → Outcome t (expiry_of_living b id t)
      lives current c true live = let x = and_parts (current.number == id.number) (is_alive current.state) live in ends_one id row current ways.Failed expired_text (record { found = e; is = c }) x.0 x.1 (inr (inl (refl, inr refl)))
      lives current c false live = idles

      with_current : (c : Option Current) → row.current ≡ c → Outcome t (expiry_of_current c id t)
      with_current None c = idles
      with_current (Some current) c = lives current c (is_living_one id current) refl

  -- AttemptFinish
  finished : (id : AttemptId) (o : Option AppRow) → row_of t.rows id.app ≡ o → Outcome t (finish_of_row o id t)
  finished id None e = idles
  finished id (Some row) e = with_current row.current refl
    where
      lives : (current : Current) → row.current ≡ Some current → (b : Bool) → is_living_one id current ≡ b → (text : Option (List ℕ)) → finishing_in row.dialogue ≡ text → Outcome t (finish_of_living b text id t)
      lives current c true live (Some text) said = let x = and_parts (current.number == id.number) (is_alive current.state) live in ends_one id row current ways.Finished text (record { found = e; is = c }) x.0 x.1 (inr (inr (refl, said)))
      lives current c true live None said = idles
      lives current c false live text said = idles

      with_current : (c : Option Current) → row.current ≡ c → Outcome t (finish_of_current c (finishing_in row.dialogue) id t)
      with_current None c = idles
      with_current (Some current) c = lives current c (is_living_one id current) refl (finishing_in row.dialogue) refl

  -- AttemptDone
  done : (id : AppId) (o : Option AppRow) → row_of t.rows id ≡ o → Outcome t (decision_of_row o id t)
  done id None e = idles
  done id (Some row) e = with_current row.state row.current refl refl
    where
      decides : (current : Current) → row.current ≡ Some current → is_active row.state ≡ true → current.state ≡ attempts.Ended → (end : Option (How × List ℕ))
          → end_with t.settings row.wish (found_in t id) (last_end_in (found_in t id)) ≡ end → Outcome t (decision_of_end end id t)
      decides current c g is None end = follows id row current (record { found = e; is = c }) g is end
      decides current c g is (Some (how, text)) end = ends id row how text e (inr (g, (current, c, rw is refl))) (said (last_end_in (found_in t id)) refl row.wish (reaches_bound t.settings (found_in t id)) refl end)
        where
          as_killed : let one : How × List ℕ = (ways.Killed, killed_text) in one ≡ (how, text) → IsEndOfApp t id how text
          as_killed x = inl (ap (λ (z : How × List ℕ). z.0) (sym x), ap (λ (z : How × List ℕ). z.1) (sym x))

          said : (last : Option (How × List ℕ)) → last_end_in (found_in t id) ≡ last → (wish bound : Bool) → reaches_bound t.settings (found_in t id) ≡ bound → end_with t.settings wish (found_in t id) last ≡ Some (how, text) → IsEndOfApp t id how text
          said None l true bound b x = as_killed (cc)
          said None l false bound b x = cc
          said (Some (ways.Finished, word)) l wish bound b x = inr (l ∙ x)
          said (Some (ways.Killed, word)) l wish bound b x = as_killed (cc)
          said (Some (ways.Failed, word)) l true bound b x = as_killed (cc)
          said (Some (ways.Failed, word)) l false true b x = inr (l ∙ rw b at x)
          said (Some (ways.Failed, word)) l false false b x = absurd (let y = rw b at x in cc)

      at_state : (current : Current) (s : AttemptState) → current.state ≡ s → row.current ≡ Some current → is_active row.state ≡ true → Outcome t (decision_of_attempt_state s row.wish id t)
      at_state current attempts.Ended is c g = decides current c g is (end_with t.settings row.wish (found_in t id) (last_end_in (found_in t id))) refl
      at_state current _ is c g = idles

      with_current : (s : AppState) (c : Option Current) → row.state ≡ s → row.current ≡ c → Outcome t (decision_of_current s c row.wish id t)
      with_current s None is c = idles
      with_current apps.Accepted (Some current) is c = at_state current current.state refl c (rw is refl)
      with_current apps.Running (Some current) is c = at_state current current.state refl c (rw is refl)
      with_current apps.Killing (Some current) is c = at_state current current.state refl c (rw is refl)
      with_current apps.New (Some current) is c = idles
      with_current apps.NewSaving (Some current) is c = idles
      with_current apps.Submitted (Some current) is c = idles
      with_current apps.FinalSaving (Some current) is c = idles
      with_current apps.Finished (Some current) is c = idles
      with_current apps.Failed (Some current) is c = idles
      with_current apps.Killed (Some current) is c = idles

  -- Retire
  retired : (ended : List AppId) → t.ended ≡ ended → Outcome t (removal_of_first ended t)
  retired [] e = idles
  retired (id ∷ more) e = by (nat_lt t.settings.max_completed (length (id ∷ more))) refl
    where
      by : (b : Bool) → nat_lt t.settings.max_completed (length (id ∷ more)) ≡ b → Outcome t (removal_of_first (id ∷ more) t)
      by true over = let more_than : t.settings.max_completed < length (id ∷ more) = grind (arith, nat_tests) in rw over (removes id more e more_than)
      by false over = rw over idles

  -- each event
  pub main_outcome : (e : MainEvent) (rest : List MainEvent) → t.main ≡ e ∷ rest → e ≢ mains.EpochStart → Outcome t (main_step e t)
  main_outcome mains.EpochStart rest front some = absurd (some refl)
  main_outcome (mains.AppStart id) rest front some = started id rest front (row_of t.rows id) refl
  main_outcome (mains.AppSaved id) rest front some = saved id rest front (row_of t.rows id) refl
  main_outcome (mains.AppAccepted id) rest front some = accepted id (row_of t.rows id) refl
  main_outcome (mains.AppKill id) rest front some = killed id (row_of t.rows id) refl
  main_outcome (mains.MasterGranted container) rest front some = granted container rest front (row_of t.rows container.attempt.app) refl
  main_outcome (mains.AttemptSaved id) rest front some = launched id (row_of t.rows id.app) refl
  main_outcome (mains.MasterLost container) rest front some = lost container (row_of t.rows container.attempt.app) refl
  main_outcome (mains.AttemptExpired id) rest front some = expired id (row_of t.rows id.app) refl
  main_outcome (mains.AttemptFinish id) rest front some = finished id (row_of t.rows id.app) refl
  main_outcome (mains.AttemptDone id) rest front some = done id.app (row_of t.rows id.app) refl
  main_outcome mains.Retire rest front some = retired t.ended refl
