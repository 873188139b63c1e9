-- What holds of a container, by the state of its application's row and that of the current attempt: of each state one line, of what the
-- book has of it, how much of it is on its way, and what the judge remembers. Of a container that the row names as its master more is said
-- than of another one. It is said of every container id there may be. This project's own.
use Rattle.std.specs.Prelude.{◌≡◌, ◌≤◌, ◌+◌, ◌⊎◌, List, Bool, true, false, not, ◌==◌, Option, None, Some, find, length}
use Rattle.rm_types.specs.declared.ids.AttemptId.{AttemptId}
use Rattle.rm_types.specs.declared.ids.ContainerId.{ContainerId}
use Rattle.rm_types.specs.declared.records.AppRecord.{AppRecord}
use Rattle.rm_types.specs.declared.records.AttemptRecord.{AttemptRecord}
use Rattle.rm_types.specs.Ids.{is_attempt, is_container}
use Rattle.rm_types.specs.Records.{is_some_and, record_of}
use Rattle.rm_model.specs.Facts.{attempts_in}
use Rattle.rm_states.specs.declared.attempt.states.AttemptState.{AttemptState}
use Rattle.rm_states.specs.declared.attempt.states.AttemptState.TheVariants as attempts
use Rattle.rm_tables.specs.declared.rows.AppRow.{AppRow}
use Rattle.rm_tables.specs.declared.rows.Current.{Current}
use Rattle.rm_tables.specs.declared.tables.Tables.{Tables}
use Rattle.rm_tables.specs.MainEvents.{is_master_of}
use Rattle.rm_tables.specs.Rows.{row_of}
use Rattle.rm_tables.specs.Leaving.{stale_by}
use Rattle.rm_refinement.specs.History.{History}
use Rattle.rm_refinement.specs.Agreement.{is_among_first}
use Rattle.rm_invariant.specs.masters.View.{ContainerView, container_view}

-- the record of the container's attempt names it
abbrev pub own_of : ContainerId → Option AppRecord → Bool
own_of c found = is_some_and (λ one. is_container one.master c) (find (λ one. is_attempt one.id c.attempt) (attempts_in found))

-- of a container whose attempt isn't kept: nothing of the attempt is on its way, and it was not launched, expired or finishing
abbrev pub Unsaved : ContainerView → Type 0
Unsaved v = (v.launches ≡ 0) × (v.expiries ≡ 0) × (v.expired ≡ false) × (v.finishing ≡ false) × (v.ordered ≡ false) × (v.first ≡ false)

-- and of one whose attempt has no master either
abbrev pub Untouched : ContainerView → Type 0
Untouched v = Unsaved v × (v.living ≡ false) × (v.savings ≡ 0) × (v.grants ≡ 0)

-- of one whose number is none of a kept attempt's
abbrev pub Unnumbered : ContainerId → ContainerView → Type 0
Unnumbered c v = is_among_first c.attempt (length (attempts_in v.found)) ≡ false → Untouched v

-- of the master of an attempt that lives: where it left that is on its way to the attempt or marked, and where the attempt was kept in
-- this life it was granted in it and is ordered or is to be
abbrev pub MasterAlive : Bool → ContainerView → Type 0
MasterAlive lost v =
    (v.left ≡ true → (1 ≤ v.losses) ⊎ ((lost ≡ true) × (1 ≤ v.launches)))
    × (lost ≡ true → v.left ≡ true)
    × (v.first ≡ false → v.left ≡ not v.living)
    × (v.first ≡ false → v.ordered ≡ false → 1 ≤ v.launches + v.losses)

-- of a container of an attempt that lives
abbrev pub AliveInvariant : ContainerId → Bool → Bool → ContainerView → Type 0
AliveInvariant c lost mine v =
    (own_of c v.found ≡ mine)
    × (v.launches ≤ 1) × (1 ≤ v.launches → v.first ≡ false) × (1 ≤ v.launches → v.ordered ≡ false)
    × (v.expired ≡ true → 1 ≤ v.expiries) × (1 ≤ v.expiries → v.expired ≡ true)
    × (v.finishing ≡ true → 1 ≤ v.finishes)
    × (mine ≡ true → MasterAlive lost v)

-- of a container of the current attempt, by the state of that one, whether its master was lost while it was saved, and whether the
-- container is its master's
abbrev pub ContainerByState : ContainerId → AttemptState → Bool → Bool → ContainerView → Type 0
ContainerByState c attempts.Scheduled lost mine v = Untouched v
ContainerByState c attempts.Granted lost false v = Untouched v
ContainerByState c attempts.Granted lost true v = (v.left ≡ not v.living) × (v.grants ≡ 1) × Unsaved v × (v.savings ≡ 0)
ContainerByState c attempts.Saving lost false v = (v.living ≡ false) × (v.savings ≡ 0) × Unsaved v
ContainerByState c attempts.Saving lost true v =
    (v.left ≡ not v.living) × (v.left ≡ true → (1 ≤ v.losses) ⊎ (lost ≡ true)) × (lost ≡ true → v.left ≡ true) × Unsaved v
ContainerByState c attempts.Live lost mine v = AliveInvariant c lost mine v
ContainerByState c attempts.Registered lost mine v = AliveInvariant c lost mine v
ContainerByState c attempts.Finishing lost mine v = AliveInvariant c lost mine v
ContainerByState c attempts.Ending lost mine v = Unit {0}
ContainerByState c attempts.Ended lost mine v = Unnumbered c v
ContainerByState c attempts.Dropped lost mine v = Unit {0}

-- of a container, whose attempt is the current one or isn't
abbrev pub ContainerByNumber : ContainerId → Bool → Current → ContainerView → Type 0
ContainerByNumber c true current v = ContainerByState c current.state current.lost (is_master_of c current.master) v
ContainerByNumber c false current v = Unnumbered c v

-- by the current attempt
abbrev pub ContainerByCurrent : ContainerId → Option Current → ContainerView → Type 0
ContainerByCurrent c None v = Untouched v
ContainerByCurrent c (Some current) v = ContainerByNumber c (current.number == c.attempt.number) current v

-- by the row of its application
abbrev pub ContainerByRow : ContainerId → Option AppRow → ContainerView → Type 0
ContainerByRow c None v = v.retired ≡ false → Untouched v
ContainerByRow c (Some row) v = ContainerByCurrent c row.current v

-- what holds of a container, by the row of its application: a MasterLost tells of one that left
abbrev pub ContainerInvariant : ContainerId → Option AppRow → ContainerView → Type 0
ContainerInvariant c row v = (1 ≤ v.losses → v.left ≡ true) × ContainerByRow c row v

-- of a container that is stale and lives an AttemptRemoved of its application is on its way
abbrev pub RemovalInvariant : ContainerId → ContainerView → Type 0
RemovalInvariant c v = stale_by c v.found ≡ true → v.living ≡ true → 1 ≤ v.removals

-- what holds of every container
abbrev pub ContainersInvariant : History → Tables → Type 0
ContainersInvariant h t = (c : ContainerId) → ContainerInvariant c (row_of t.rows c.attempt.app) (container_view h t c) × RemovalInvariant c (container_view h t c)

-- the master that a record names is a container of its attempt
abbrev pub MastersAreOwn : List AppRecord → Type 0
MastersAreOwn apps =
    (id : AttemptId) (one : AttemptRecord) → find (λ one. is_attempt one.id id) (attempts_in (record_of apps id.app)) ≡ Some one
    → one.master.attempt ≡ id
