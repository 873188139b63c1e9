-- What each event does to the facts of its own application: of a view alone.
use Rattle.rm_invariant.proofs.Common.{◌≡◌, suc, [], Bool, true, false, None, Some, refl, sym, subst, arith, AttemptId, Submission, AppRecord, Settings, AppState, AppRow, changed}
use Rattle.std.proofs.Common.{◌≢◌, ◌==◌}
use Rattle.rm_states.specs.declared.app.states.AppState.TheVariants as apps
use Rattle.rm_tables.specs.declared.changes.RowChange.TheVariants as of_app
use Rattle.rm_invariant.specs.apps.View.{View, one_if, put_if}
use Rattle.rm_invariant.specs.apps.Invariant.{RowInvariant, IsKnown, StateInvariant, ActiveInvariant, is_active}

-- one event or operation more
abbrev pub save_more : View → View
save_more v = record v { count = record v.count { saves = suc v.count.saves } }

abbrev pub add_more : View → View
add_more v = record v { count = record v.count { adds = suc v.count.adds } }

abbrev pub accept_more : View → View
accept_more v = record v { count = record v.count { accepts = suc v.count.accepts } }

abbrev pub start_more : View → View
start_more v = record v { count = record v.count { starts = suc v.count.starts } }

abbrev pub app_more : View → View
app_more v = record v { count = record v.count { apps = suc v.count.apps } }

module _ (settings : Settings) (q : AttemptId) (row : AppRow) (v : View) where
  -- AppSaved, where no client wished to kill it
  pub saved_plain : row.state ≡ apps.Submitted → row.wish ≡ false → RowInvariant settings q (Some row) (save_more v) → RowInvariant settings q (Some row) (add_more v)
  saved_plain is wish good =
      let says : StateInvariant settings q apps.Submitted row (save_more v) = rw is at good.1 in
      let known = good.0 in
      rw is (grind arith)

  -- AppAccepted: the first attempt is scheduled
  pub accept_submitted : row.state ≡ apps.Submitted → (b : Bool) → (1 == q.number) ≡ b → RowInvariant settings q (Some row) (accept_more v)
      → RowInvariant settings q (Some (changed (of_app.Schedule 1) row)) (record v { accepted = true; count = record v.count { queueings = one_if b v.count.queueings } })
  accept_submitted is true e good =
      let known = good.0 in
      let says : StateInvariant settings q apps.Submitted row (accept_more v) = rw is at good.1 in
      rw (is, e) (grind arith)
  accept_submitted is false e good =
      let known = good.0 in
      let says : StateInvariant settings q apps.Submitted row (accept_more v) = rw is at good.1 in
      rw (is, e) (grind arith)

  -- AppStart: its App is issued
  pub start_new : row.state ≡ apps.New → RowInvariant settings q (Some row) (start_more v) → RowInvariant settings q (Some (changed of_app.Issue row)) (app_more v)
  start_new is good =
      let known = good.0 in
      let says = subst (λ (s : AppState). StateInvariant settings q s row (start_more v)) is good.1 in
      let new = says.0 in rw is (
        record { wish = known.wish; pending = known.pending; stays = known.stays; one_kill = known.one_kill; killed = known.killed },
        (
          record { no_record = new.no_record; some_waits = new.some_waits; none_on_its_way = new.none_on_its_way; not_accepted = new.not_accepted; no_attempt = rw new.no_attempt refl; none_queued = new.none_queued; not_completed = new.not_completed; not_held = new.not_held },
          grind arith,
          grind arith,
          grind arith,
        ),
      )

  -- its App is kept
  pub app_saved : (one : AppRecord) → one.attempts ≡ [] → one.ending ≡ None → row.state ≡ apps.NewSaving → RowInvariant settings q (Some row) (app_more v)
      → RowInvariant settings q (Some (changed of_app.Keep row)) (record v { found = put_if true one v.found; waiting = None; count = record v.count { saves = suc v.count.saves } })
  app_saved one first unended is good =
      let known = good.0 in
      let says = subst (λ (state : AppState). StateInvariant settings q state row (app_more v)) is good.1 in
      let none : v.found ≡ None = says.0.no_record in
      let alone : row.current ≡ None = says.0.no_attempt in
      rw (is, none, alone) (grind arith)

  -- an event that has nothing to do may go
  by_state : (state : AppState) → row.state ≡ state → IsKnown row v → StateInvariant settings q state row v → RowInvariant settings q (Some row) v
  by_state state is known says = (known, subst (λ (state : AppState). StateInvariant settings q state row v) (sym is) says)

  saved_state : (state : AppState) → state ≢ apps.Submitted → StateInvariant settings q state row (save_more v) → StateInvariant settings q state row v
  saved_state state not says = grind arith

  pub saved_quiet : row.state ≢ apps.Submitted → RowInvariant settings q (Some row) (save_more v) → RowInvariant settings q (Some row) v
  saved_quiet not good =
      let known = good.0 in
      by_state row.state refl (record { wish = known.wish; pending = known.pending; stays = known.stays; one_kill = known.one_kill; killed = known.killed }) (saved_state row.state not good.1)

  accepted_state : (state : AppState) → state ≢ apps.Submitted → StateInvariant settings q state row (accept_more v) → StateInvariant settings q state row v
  accepted_state state not says = grind arith

  pub accepted_quiet : row.state ≢ apps.Submitted → RowInvariant settings q (Some row) (accept_more v) → RowInvariant settings q (Some row) v
  accepted_quiet not good =
      let known = good.0 in
      by_state row.state refl (record { wish = known.wish; pending = known.pending; stays = known.stays; one_kill = known.one_kill; killed = known.killed }) (accepted_state row.state not good.1)

-- the same of an application that isn't known
module _ (settings : Settings) (q : AttemptId) (v : View) where
  pub saved_unknown : RowInvariant settings q None (save_more v) → RowInvariant settings q None v
  saved_unknown good = grind arith

  pub accepted_unknown : RowInvariant settings q None (accept_more v) → RowInvariant settings q None v
  accepted_unknown good = grind arith

  -- a submission is taken
  pub submitted_new : (s : Submission) (row : AppRow) → row ≡ record { state = apps.New; wish = false; pending = Some s; current = None; first = 0; dialogue = None; closings = [] } → v.retired ≡ false → RowInvariant settings q None v
      → RowInvariant settings q (Some row) (record v { waiting = Some s; count = record v.count { starts = suc v.count.starts } })
  submitted_new s row is r good =
      let never = rw r at good.never in
      let none = good.no_record in
      rw (is, none) (grind arith)

-- what holds of an application that is accepted, runs or is being killed, as one
pub record IsActive (settings : Settings) (q : AttemptId) (row : AppRow) (v : View) : Type 0 where
  pub starts : v.count.starts ≡ 0
  pub completed : v.count.completed ≡ 0
  pub pending : row.pending ≡ None
  pub unkilled : row.state ≡ apps.Killing → v.count.kills ≡ 0
  pub current : ActiveInvariant settings q row.current row.wish v

active_in : (settings : Settings) (q : AttemptId) (row : AppRow) (v : View) (state : AppState) → row.state ≡ state → is_active state ≡ true → StateInvariant settings q state row v → IsActive settings q row v
active_in settings q row v apps.Accepted is a says = record { starts = says.0; completed = says.1; pending = says.2; unkilled = λ k. cc; current = says.3 }
active_in settings q row v apps.Running is a says = record { starts = says.0; completed = says.1; pending = says.2; unkilled = λ k. cc; current = says.3 }
active_in settings q row v apps.Killing is a says = record { starts = says.0; completed = says.1; pending = says.2; unkilled = λ k. says.4; current = says.5 }
active_in settings q row v _ is a says = cc

pub active_row : (settings : Settings) (q : AttemptId) (row : AppRow) (v : View) → is_active row.state ≡ true → RowInvariant settings q (Some row) v → IsActive settings q row v
active_row settings q row v a good = active_in settings q row v row.state refl a good.1
