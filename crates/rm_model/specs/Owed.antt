-- What a manager owes before a segment may settle: whatever it has begun and not brought to its end. This project's own.
use Rattle.std.specs.Prelude.{◌≡◌, ◌≢◌, ◌<◌, [], Bool, true, false, ◌&&◌, ◌||◌, not, Option, None, is_some, Contains}
use Rattle.rm_types.specs.declared.ids.AppId.{AppId}
use Rattle.rm_types.specs.declared.records.AttemptRecord.{AttemptRecord}
use Rattle.rm_types.specs.declared.settings.Settings.{Settings}
use Rattle.rm_types.specs.Records.{last_attempt, all_ended, is_some_and}
use Rattle.rm_model.specs.State.{Scene, Row, NodeState}
use Rattle.rm_model.specs.Facts.{completed, has_container, is_accepted, is_kept, is_known, is_wished, kept_attempts, kept_end, kept_record, next_attempt, reaches_bound}
use Rattle.rm_model.specs.Attempts.{attempt_is_kept, finishing_text, has_expired, has_failed, has_master_ask, is_stale, kept_here}

-- an application that is known and has no kept end
pub record IsUnfinished (m : Scene) (id : AppId) : Type 0 where
  pub known : is_known m id ≡ true
  pub unended : kept_end m id ≡ None

-- a kept attempt without a kept end, of an application that goes on
pub record IsAlive (m : Scene) (attempt : AttemptRecord) : Type 0 where
  pub app : IsUnfinished m attempt.id.app
  pub kept : Contains (kept_attempts m attempt.id.app) attempt
  pub unended : attempt.ending ≡ None

-- the last attempt's end is one, and it isn't FAILED
abbrev pub ended_not_failed : Option AttemptRecord → Bool
ended_not_failed attempt = is_some_and (λ one. is_some one.ending && not (has_failed one)) attempt

-- something is owed where one of these holds
pub data Owed (settings : Settings) (m : Scene) : Type 0 where
  -- the life is not open
  opening : m.life.is_open ≡ false → Owed settings m
  -- a known application is not kept
  keeping : (id : AppId) → is_known m id ≡ true → is_kept m id ≡ false → Owed settings m
  -- an application that goes on has a kill wish
  killing : (id : AppId) → IsUnfinished m id → is_wished m id ≡ true → Owed settings m
  -- or was not accepted in this life and has no kept attempt
  accepting : (id : AppId) → IsUnfinished m id → is_accepted m id ≡ false → kept_attempts m id ≡ [] → Owed settings m
  -- or has kept attempts, all ended, and the last end is not FAILED or the bound is reached: it is to end
  deciding : (id : AppId) → IsUnfinished m id → kept_attempts m id ≢ [] → all_ended (kept_attempts m id) ≡ true
      → (ended_not_failed (last_attempt (kept_attempts m id)) || reaches_bound settings (kept_record m id)) ≡ true → Owed settings m
  -- or has no unended kept attempt, and its next attempt doesn't ask for its master
  asking : (id : AppId) → IsUnfinished m id → all_ended (kept_attempts m id) ≡ true → has_master_ask m (next_attempt m id) ≡ false → Owed settings m
  -- an attempt that is alive is finishing
  finishing : (attempt : AttemptRecord) → IsAlive m attempt → is_some (finishing_text m attempt.id) ≡ true → Owed settings m
  -- or expired
  expiring : (attempt : AttemptRecord) → IsAlive m attempt → has_expired m attempt.id ≡ true → Owed settings m
  -- or has its master's container among those that left
  losing : (attempt : AttemptRecord) → IsAlive m attempt → has_container m.life.endings.left attempt.master ≡ true → Owed settings m
  -- or was kept in this life and its master was not ordered
  ordering : (attempt : AttemptRecord) → IsAlive m attempt → kept_here m attempt.id ≡ true
      → has_container m.life.masters.ordered attempt.master ≡ false → Owed settings m
  -- something of a node is not worked off
  working : (node : NodeState) → Contains m.life.nodes node → node.undone ≢ [] → Owed settings m
  -- a row has the released mark, or is stale, or its attempt is not kept
  leaving : (row : Row) → Contains m.life.book row
      → (row.released || (is_stale m row.id || not (attempt_is_kept m row.id.attempt))) ≡ true → Owed settings m
  -- more applications are completed than are remembered
  retiring : settings.max_completed < completed m → Owed settings m
