-- A final state is never left, and an end is told only once it is kept: by the tables, since each move within a life follows them.
use Rattle.std.proofs.Common.{◌≡◌, ◌⊎◌, inl, inr, true, Some, sym, ◌∙◌, subst, arith, rules}
use Rattle.rm_types.specs.declared.ids.AppId.{AppId}
use Rattle.rm_types.specs.declared.operations.How.{How}
use Rattle.rm_states.specs.declared.app.states.AppState.TheVariants.{FinalSaving}
use Rattle.rm_states.specs.app.Table.{end_state}
use Rattle.rm_states.proofs.app.Rows.{ends_are_kept}
use Rattle.rm_states.specs.declared.attempt.states.AttemptState.{AttemptState}
use Rattle.rm_states.specs.declared.attempt.states.AttemptState.TheVariants.{Ending, Ended}
use Rattle.rm_states.specs.declared.attempt.states.AttemptEvent.{AttemptEvent}
use Rattle.rm_states.specs.declared.attempt.states.AttemptAction.{AttemptAction}
use Rattle.rm_states.specs.attempt.Table.{AttemptTransition as AttemptTableRow}
use Rattle.rm_tables.specs.declared.rows.AppRow.{AppRow}
use Rattle.rm_tables.specs.declared.rows.Current.{Current}
use Rattle.rm_tables.specs.declared.tables.Tables.{Tables}
use Rattle.rm_invariant.specs.Transitions.{AppFollowsTable, AttemptFollowsTable, CurrentFollowsTable, RowFollowsTables, RowsFollowTables}
use Rattle.rm_core.specs.declared.manager.Move.{Move}
use Rattle.rm_core.specs.declared.manager.Move.TheVariants.{Begin, Blown, Down, Hand, Kept, Main, Sched, Serve, Settle}
use Rattle.rm_core.specs.Seen.{Seen}
use Rattle.rm_core.specs.Moves.{StatesFollowTables}
use Rattle.rm_core.specs.FinalStates.{AppEndsAreKept, AttemptEndsAreKept, ChangesRow, FinalAppsStay, FinalAttemptsStay, IsSameAttempt, stays_in_life}

-- a move within a life has each row follow the tables
rows_follow : (next : Move) (old new : Tables) → stays_in_life next ≡ true → StatesFollowTables next old new → RowsFollowTables old.rows new.rows
rows_follow (Serve message) old new within states = states.0
rows_follow Main old new within states = states.0
rows_follow Sched old new within states = states.0
rows_follow Hand old new within states = states.0
rows_follow Kept old new within states = states.0
rows_follow (Blown passed) old new within states = states.0
rows_follow Settle old new within states = states.0
rows_follow Down old new within states = cc
rows_follow (Begin tree handed) old new within states = cc

row_follows : (next : Move) (old new : Seen) (id : AppId) (before now : AppRow) → ChangesRow next old new id before now → RowFollowsTables before now
row_follows next old new id before now c = rows_follow next old.tables new.tables c.within c.does.states id before now c.known c.found

-- the same attempt follows its table
same_follows : (before now : AppRow) (was is_now : Current) → IsSameAttempt before now was is_now → CurrentFollowsTable before.current now.current → AttemptFollowsTable was.state is_now.state
same_follows before now was is_now same follows =
    let b = same.earlier in
    let n = same.later in
    let both : CurrentFollowsTable (Some was) (Some is_now) = rw (b, n) at follows in
    by both
  where
    by : CurrentFollowsTable (Some was) (Some is_now) → AttemptFollowsTable was.state is_now.state
    by (inl follows) = follows.1
    by (inr another) = absurd (omega (arith, another.1, same.number))

pub final_apps_stay : FinalAppsStay
final_apps_stay next old new id before now c final = by (row_follows next old new id before now c).state
  where
    by : AppFollowsTable before.state now.state → now.state ≡ before.state
    by (inl same) = same
    by (inr row) = absurd (final row.0 now.state row.1 row.2)

pub final_attempts_stay : FinalAttemptsStay
final_attempts_stay next old new id before now was is_now c same final = by (same_follows before now was is_now same (row_follows next old new id before now c).current)
  where
    by : AttemptFollowsTable was.state is_now.state → is_now.state ≡ was.state
    by (inl stays) = stays
    by (inr row) = absurd (final row.0 is_now.state row.1 row.2)

pub app_ends_are_kept : AppEndsAreKept
app_ends_are_kept next old new id before now c final = by (row_follows next old new id before now c).state
  where
    by : AppFollowsTable before.state now.state → (now.state ≡ before.state) ⊎ ((before.state ≡ FinalSaving) × ((how : How) × (now.state ≡ end_state how)))
    by (inl same) = inl same
    by (inr row) =
        let kept = (ends_are_kept.into before.state row.0 now.state row.1 row.2 final) in
        inr (kept.0, (kept.1.0, kept.1.1.1))

-- a row to where an attempt has ended begins where its end is being saved
ended_from : (s : AttemptState) (event : AttemptEvent) (action : AttemptAction) → AttemptTableRow s event Ended action → s ≡ Ending
ended_from = search rules

pub attempt_ends_are_kept : AttemptEndsAreKept
attempt_ends_are_kept next old new id before now was is_now c same ended = by (same_follows before now was is_now same (row_follows next old new id before now c).current)
  where
    by : AttemptFollowsTable was.state is_now.state → (was.state ≡ Ended) ⊎ (was.state ≡ Ending)
    by (inl stays) = inl (sym stays ∙ ended)
    by (inr row) = inr (ended_from was.state row.0 row.1 (subst (λ (n : AttemptState). AttemptTableRow was.state row.0 n row.1) ended row.2))
