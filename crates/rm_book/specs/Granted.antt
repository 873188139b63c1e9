-- What attempts were granted and nobody was told of yet. This project's own.
use Rattle.std.specs.Prelude.{◌≡◌, List, [], ◌∷◌, Bool, true, false, ◌&&◌, IfSome, filter, find, map, Option, None, Some, option_map, option_and_then, if◌then◌else◌}
use Rattle.rm_types.specs.declared.containers.BookRow.{BookRow}
use Rattle.rm_types.specs.declared.containers.ContainerState.{ContainerState}
use Rattle.rm_types.specs.declared.containers.ContainerState.TheVariants.{Granted, Acquired, Running, Completed}
use Rattle.rm_types.specs.declared.containers.Grant.{Grant}
use Rattle.rm_types.specs.declared.ids.AppId.{AppId}
use Rattle.rm_types.specs.declared.ids.AttemptId.{AttemptId}
use Rattle.rm_types.specs.declared.ids.ContainerId.{ContainerId}
use Rattle.rm_types.specs.Ids.{is_app, is_attempt}
use Rattle.rm_book.specs.Books.{is_of}
use Rattle.rm_types.specs.Containers.{is_granted}

-- a row is of a container that was granted to this attempt, and that nobody was told of yet
abbrev pub is_granted_to : AttemptId → BookRow → Bool
is_granted_to attempt row = is_attempt row.id.attempt attempt && is_granted row.state

-- the grant of a row's container
abbrev pub row_grant : BookRow → Grant
row_grant row = record { id = row.id; node = row.node; size = row.size }

-- what an attempt was granted and nobody was told of yet, in the order of entering
abbrev pub grants_to : List BookRow → AttemptId → List Grant
grants_to rows attempt = map row_grant (filter (is_granted_to attempt) rows)

-- somebody may be told of a container in this state: it was granted, or they were told of it already
abbrev pub may_be_told : ContainerState → Bool
may_be_told Granted = true
may_be_told Acquired = true
may_be_told Running = false
may_be_told Completed = false

-- these are grants of containers of which somebody may be told, as far as they have rows
abbrev pub AllMayBeTold : List BookRow → List Grant → Type 0
AllMayBeTold rows [] = Unit {0}
AllMayBeTold rows (grant ∷ grants) = IfSome (find (is_of grant.id) rows) (λ row. may_be_told row.state ≡ true) × AllMayBeTold rows grants

-- the grant of a container, if it has a row
abbrev pub grant_in : List BookRow → ContainerId → Option Grant
grant_in rows id = option_map row_grant (find (is_of id) rows)

-- a row is of a container that was granted, and that nobody was told of yet
abbrev pub is_granted_row : Option BookRow → Bool
is_granted_row None = false
is_granted_row (Some row) = is_granted row.state

-- the grants of an application's rows that pass a test, in the order of entering
abbrev pub grants_where : AppId → (BookRow → Bool) → List BookRow → List Grant
grants_where app test rows = map row_grant (filter (λ row. is_app row.id.attempt.app app && test row) rows)

-- the grant of a row that passes a test
abbrev pub grant_where : (BookRow → Bool) → BookRow → Option Grant
grant_where test row = if test row then Some (row_grant row) else None

-- the grant of a container, if it has a row that passes a test
abbrev pub passing_grant : (BookRow → Bool) → List BookRow → ContainerId → Option Grant
passing_grant test rows id = option_and_then (grant_where test) (find (is_of id) rows)

-- a container in this state was granted to this attempt, and nobody was told of it yet
abbrev pub is_untold_to_attempt : ContainerId → ContainerState → AttemptId → Bool
is_untold_to_attempt id state attempt = is_attempt id.attempt attempt && is_granted state
