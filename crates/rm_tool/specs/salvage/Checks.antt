-- What a check tells of the bytes of a store. This project's own.
use Rattle.std.specs.Prelude.{◌≡◌, ℕ, None, List, [], Option, Some, All, length}
use Rattle.rm_types.specs.declared.operations.Op.{Op}
use Rattle.rm_types.specs.Ranges.{IsOperation}
use Rattle.rm_types.specs.Records.{records, stray}
use Rattle.rm_formats.specs.Device.{HasPayloads}
use Rattle.rm_store.specs.Causes.{IsFaultless, IsWhy}
use Rattle.rm_store.specs.Content.{HasContent, ReadsAs}
use Rattle.rm_store.specs.declared.fault.StoreError.TheVariants as store
use Rattle.rm_tool.specs.declared.salvage.checks.Fault.{Fault}
use Rattle.rm_tool.specs.declared.salvage.checks.Fault.TheVariants.{Damaged, Stray}
use Rattle.rm_tool.specs.declared.salvage.checks.Opened.{Opened}
use Rattle.rm_tool.specs.declared.salvage.checks.Opened.TheVariants.{Whole, Faulty}
use Rattle.rm_tool.specs.declared.salvage.forms.Form.{Form}
use Rattle.rm_tool.specs.declared.salvage.forms.Form.TheVariants.{OneJournal, TwoAreas, NoArea}
use Rattle.rm_tool.specs.declared.salvage.fronts.Stop.{Stop}
use Rattle.rm_tool.specs.declared.salvage.fronts.Stop.TheVariants as stops
use Rattle.rm_tool.specs.salvage.Fronts.{BeginsFront, FrontStops}

-- a store of the old form holds these operations: the payloads of one journal over all its bytes read as them all, and as nothing else; none
-- is stray
pub record HasOldContent (bytes : List ℕ) (ops : List Op) : Type 0 where
  pub payloads : List (List ℕ)
  pub holds : HasPayloads bytes payloads
  pub reads : ReadsAs payloads ops
  pub none_stray : stray ops ≡ None

-- the fault of a front that ends by a stop other than a closed gate, behind so many operations
abbrev pub front_fault : Stop → ℕ → Option Fault
front_fault (stops.End offset) count = None
front_fault (stops.NoRecord offset) count = Some (Damaged offset)
front_fault (stops.NoFrame offset) count = Some (Damaged offset)
front_fault (stops.Stray offset) count = Some (Stray count offset)
front_fault stops.NoArea count = None

-- an old store's front ends by what is at fault
pub record IsOldFault (bytes : List ℕ) (fault : Fault) : Type 0 where
  pub ops : List Op
  pub stop : Stop
  pub front : BeginsFront bytes [] ops
  pub stops : FrontStops bytes 0 [] ops stop
  pub is : front_fault stop (length ops) ≡ Some fault

-- bytes have this fault: where they are of two areas, it is why the store isn't opened
abbrev pub IsFault : Form → List ℕ → Fault → Type 0
IsFault OneJournal bytes fault = IsOldFault bytes fault
IsFault (TwoAreas second generation) bytes (Damaged offset) = IsWhy bytes (store.Damaged offset)
IsFault (TwoAreas second generation) bytes (Stray number offset) = IsWhy bytes (store.Stray number offset)
IsFault NoArea bytes (Damaged offset) = IsWhy bytes (store.Damaged offset)
IsFault NoArea bytes (Stray number offset) = IsWhy bytes (store.Stray number offset)

-- the bytes are those of a whole store with these operations
abbrev pub IsWhole : Form → List ℕ → List Op → Type 0
IsWhole OneJournal bytes ops = HasOldContent bytes ops
IsWhole (TwoAreas second generation) bytes ops = HasContent bytes ops × IsFaultless bytes
IsWhole NoArea bytes ops = HasContent bytes ops × IsFaultless bytes

-- what came of opening bytes of two areas: they hold these operations, or this is why they are not opened
abbrev pub IsOpeningOutcome : List ℕ → Opened → Type 0
IsOpeningOutcome bytes (Whole ops tree) = HasContent bytes ops × IsFaultless bytes × (tree ≡ records ops) × All IsOperation ops
IsOpeningOutcome bytes (Faulty (Damaged offset)) = IsWhy bytes (store.Damaged offset)
IsOpeningOutcome bytes (Faulty (Stray number offset)) = IsWhy bytes (store.Stray number offset)
