-- Which applications a pass goes over. This project's own.
use Rattle.std.specs.Prelude.{Bool, List, filter, map}
use Rattle.std.specs.List.{filter_map, list_any}
use Rattle.rm_types.specs.declared.containers.Turn.{Turn}
use Rattle.rm_types.specs.declared.ids.AppId.{AppId}
use Rattle.rm_types.specs.Ids.{is_app}
use Rattle.rm_types.specs.Records.{record_of}
use Rattle.rm_book.specs.AskTables.{AsksOf, waiting_in}
use Rattle.rm_model.specs.Attempts.{attempt_at}
use Rattle.rm_tables.specs.declared.tables.Tables.{Tables}
use Rattle.rm_tables.specs.Passing.{asks_some, turn_in}

-- an attempt of the application asks for something
abbrev pub has_waiting : List AsksOf → AppId → Bool
has_waiting asks id = list_any (λ attempt. is_app attempt.app id) (waiting_in asks)

-- the turns of these applications: of each that has a record, the attempt that it is at, where that asks for something
abbrev pub turns_of : Tables → List AppId → List Turn
turns_of t ids = map (turn_in t.rows) (filter (asks_some t.asks) (map attempt_at (filter_map (record_of t.tree.apps) ids)))
