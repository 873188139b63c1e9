-- Which releases are still to be worked off, by the marks of containers. This project's own.
use Rattle.std.specs.Prelude.{◌≡◌, List, Bool, true, false, ◌&&◌, ◌||◌}
use Rattle.std.specs.List.{list_any}
use Rattle.rm_types.specs.declared.ids.ContainerId.{ContainerId}
use Rattle.rm_types.specs.declared.records.AppRecord.{AppRecord}
use Rattle.rm_types.specs.Ids.{is_attempt}
use Rattle.rm_types.specs.Records.{record_of}
use Rattle.rm_model.specs.Facts.{has_container, keeps}
use Rattle.rm_model.specs.State.{Row}
use Rattle.rm_model.specs.Containers.{is_earlier}
use Rattle.rm_tables.specs.declared.events.SchedEvent.{SchedEvent}
use Rattle.rm_tables.specs.declared.events.SchedEvent.TheVariants as scheds
use Rattle.rm_tables.specs.declared.tables.Tables.{Tables}
use Rattle.rm_tables.specs.Leaving.{is_masters_in, is_stale_in}
use Rattle.rm_refinement.specs.History.{History}
use Rattle.rm_invariant.specs.nodes.Book.{All}

-- an event releases a container that is at the disposal of its attempt: it is of that one or, where the application keeps, of an earlier one
abbrev pub is_release_of : Bool → ContainerId → SchedEvent → Bool
is_release_of keep id (scheds.Release attempt list) = (is_attempt id.attempt attempt || (keep && is_earlier id.attempt attempt)) && has_container list id
is_release_of keep id _ = false

-- whether the application of a container keeps, by what is recorded
abbrev pub keeps_in : List AppRecord → ContainerId → Bool
keeps_in apps id = keeps (record_of apps id.attempt.app)

-- a row with the released mark that isn't stale is of a container that is released by an event on its way, and is no master's
abbrev pub IsOnWay : List AppRecord → List SchedEvent → Row → Type 0
IsOnWay apps sched row = row.released ≡ true → is_stale_in apps row.id ≡ false → (list_any (is_release_of (keeps_in apps row.id) row.id) sched ≡ true) × (is_masters_in apps row.id ≡ false)

-- and so is each row of the judge's book
abbrev pub ReleasesOnWay : History → Tables → Type 0
ReleasesOnWay h t = All (IsOnWay t.tree.apps t.sched) h.book
