-- What callers see of the manager: its settings, its log, and the tables, of which they use readiness and weight.
use Rattle.std.specs.Prelude.{◌≡◌, List, [], Bool, true, false, ◌&&◌, Option, None, Some, if◌then◌else◌, slice_get}
use Rattle.rm_types.specs.declared.entries.Entry.{Entry}
use Rattle.rm_types.specs.declared.entries.Entry.TheVariants.{Kept}
use Rattle.rm_types.specs.declared.operations.Op.{Op}
use Rattle.rm_types.specs.declared.settings.Settings.{Settings}
use Rattle.rm_types.specs.Records.{records, fits_records}
use Rattle.rm_model.specs.Lawful.{IsAtRest, state_after}
use Rattle.rm_tables.specs.declared.tables.Tables.{Tables}
use Rattle.rm_core.specs.Invariant.{LogInvariant}

-- a manager as its callers see it
pub record Seen : Type 0 where
  pub settings : Settings
  pub tables : Tables
  pub log : List Entry

-- the log is one that a manager over a store that held the opening list could have made, and the tables stand for the
-- state after it
abbrev pub StandsFor : List Op → Seen → Type 0
StandsFor opening seen = LogInvariant opening seen.log seen.tables

-- the operation that is with the store
abbrev pub handed_op : Tables → Option Op
handed_op t = if t.alive && t.handed then slice_get t.awaiting 0 else None

-- the entry says that an operation is kept
abbrev pub is_kept_entry : Entry → Bool
is_kept_entry (Kept op) = true
is_kept_entry _ = false

-- with empty queues and nothing that awaits, the life is open, nothing is with the store, and nothing awaits or is owed in
-- the state after the log
pub record RestsWhere (seen : Seen) : Type 0 where
  pub is_open : seen.tables.alive ≡ true → seen.tables.is_open ≡ true
  pub none_handed : seen.tables.alive ≡ true → seen.tables.handed ≡ false
  pub at_rest : (opening : List Op) → StandsFor opening seen → IsAtRest seen.settings (state_after opening seen.log) (state_after opening seen.log).life

-- the queues are empty where no life stands; and where nothing is left to do, nothing is owed
pub record Rests (seen : Seen) : Type 0 where
  pub idle : seen.tables.alive ≡ false → (seen.tables.main ≡ []) × (seen.tables.sched ≡ [])
  pub left : seen.tables.main ≡ [] → seen.tables.sched ≡ [] → (seen.tables.alive ≡ true → seen.tables.awaiting ≡ []) → RestsWhere seen

-- the operation is the first that awaits after the log, and fits what is kept by then
pub record IsToBeKept (opening : List Op) (seen : Seen) (op : Op) : Type 0 where
  pub first : slice_get (state_after opening seen.log).awaiting 0 ≡ Some op
  pub fits : fits_records (records (state_after opening seen.log).kept) op ≡ true
