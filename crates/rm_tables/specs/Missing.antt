-- Containers of former epochs that the book doesn't have: which of them may run on a node that has not registered yet, or have ended
-- meanwhile. Told as the judge does, read off the tables.
use Rattle.std.specs.Prelude.{List, Bool, ◌&&◌, ◌||◌, not, nat_lt, filter}
use Rattle.rm_types.specs.declared.ids.AttemptId.{AttemptId}
use Rattle.rm_types.specs.declared.ids.ContainerId.{ContainerId}
use Rattle.rm_types.specs.declared.records.AppRecord.{AppRecord}
use Rattle.rm_types.specs.Ids.{is_attempt}
use Rattle.rm_types.specs.Records.{record_of}
use Rattle.rm_book.specs.Books.{has_row}
use Rattle.rm_model.specs.Containers.{is_earlier}
use Rattle.rm_model.specs.Facts.{has_container, keeps}
use Rattle.rm_tables.specs.declared.tables.Tables.{Tables}
use Rattle.rm_tables.specs.Absorbing.{was_first}
use Rattle.rm_tables.specs.Leaving.{is_masters_in, is_wanted_in}
use Rattle.rm_tables.specs.Rows.{row_of}

-- a container is missing: it is neither in the book nor among those that departed, its epoch is below the life's, its attempt was kept
-- when the life began, and it is wanted
abbrev pub is_missing_in : Tables → ContainerId → Bool
is_missing_in t id =
    not (has_row t.book id)
    && (not (has_container t.departed id)
    && (nat_lt id.epoch t.epoch
    && (was_first id.attempt (row_of t.rows id.attempt.app) && is_wanted_in t.tree.apps id)))

-- a container is astray where the cluster recovers ended containers and it is missing
abbrev pub is_astray_in : Tables → ContainerId → Bool
is_astray_in t id = t.settings.recover_ended_containers && is_missing_in t id

-- a container is at the disposal of an attempt: it is of that one or, where the application keeps, of an earlier one
abbrev pub is_at_disposal_in : List AppRecord → AttemptId → ContainerId → Bool
is_at_disposal_in apps attempt id = is_attempt id.attempt attempt || (keeps (record_of apps attempt.app) && is_earlier id.attempt attempt)

-- those of these containers that an attempt releases while they are astray: they are at its disposal and no master's
abbrev pub astray_released : Tables → AttemptId → List ContainerId → List ContainerId
astray_released t attempt list =
    filter (λ id. is_astray_in t id && (is_at_disposal_in t.tree.apps attempt id && not (is_masters_in t.tree.apps id))) list
