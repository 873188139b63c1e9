-- Steps of reading a front. This project's own.
use Rattle.std.specs.Prelude.{◌≡◌, ◌+◌, ◌<◌, ℕ, true, false, None, List, [], ◌∷◌, ◌++◌, All, length}
use Rattle.rm_types.specs.declared.operations.Op.{Op}
use Rattle.rm_types.specs.Records.{Records, records, fits_records, stray}
use Rattle.rm_formats.specs.declared.TheConstants.{RECORD_HEAD}
use Rattle.rm_formats.specs.Device.{IsPayload, journal_records}
use Rattle.rm_journal.specs.Journal.{region_of}
use Rattle.rm_store.specs.Content.{IsFrameOf, ReadsAs}
use Rattle.rm_tool.specs.declared.salvage.looks.Found.{Found}
use Rattle.rm_tool.specs.declared.salvage.looks.Found.TheVariants.{Closed, Broken, Record}
use Rattle.rm_tool.specs.declared.salvage.looks.Taken.{Taken}
use Rattle.rm_tool.specs.declared.salvage.looks.Taken.TheVariants as taken
use Rattle.rm_tool.specs.salvage.Forms.{HasFirst}
use Rattle.rm_tool.specs.salvage.Fronts.{IsClosedGate, IsOpenToNothing}

-- what was found at a gate stands there: of a record this is the payload
abbrev pub IsFound : List ℕ → List ℕ → Found → Type 0
IsFound behind payload Closed = IsClosedGate behind
IsFound behind payload Broken = IsOpenToNothing behind
IsFound behind payload Record = HasFirst behind payload

-- the operation of a payload was taken in
pub record TookIn (payload : List ℕ) (old new : List Op) (tree : Records) : Type 0 where
  pub op : Op
  pub framed : IsFrameOf payload op
  pub fits : fits_records (records old) op ≡ true
  pub grown : new ≡ old ++ op ∷ []
  pub amounts : tree ≡ records new

-- an operation of a payload is stray behind these
pub record IsStrayBehind (payload : List ℕ) (ops : List Op) : Type 0 where
  pub op : Op
  pub framed : IsFrameOf payload op
  pub stray : fits_records (records ops) op ≡ false

-- what came of a payload: its operation was taken in, or it reads as none, or that is stray, and then nothing was changed
abbrev pub IsTakenPayload : List ℕ → List Op → List Op → Records → Records → Taken → Type 0
IsTakenPayload payload old new before after taken.In = TookIn payload old new after
IsTakenPayload payload old new before after taken.NoFrame = (new ≡ old) × (after ≡ before) × ((op : Op) → IsFrameOf payload op → ⊥)
IsTakenPayload payload old new before after taken.Stray = (new ≡ old) × (after ≡ before) × IsStrayBehind payload old

-- from the start of a part to its end, so far these operations were read behind the heads, and the next gate is looked at now
pub record ReadsTo (bytes : List ℕ) (start end : ℕ) (heads : List (List ℕ)) (gate : ℕ) (ops : List Op) : Type 0 where
  pub payloads : List (List ℕ)
  pub sizes : All IsPayload (heads ++ payloads)
  pub is : region_of start end bytes ≡ journal_records (heads ++ payloads) ++ region_of gate end bytes
  pub place : gate ≡ start + length (journal_records (heads ++ payloads))
  pub reads : ReadsAs payloads ops
  pub none_stray : stray ops ≡ None

-- one more operation was read
pub record WentOn (bytes : List ℕ) (end old_gate new_gate : ℕ) (old new : List Op) (tree : Records) : Type 0 where
  pub payload : List ℕ
  pub first : HasFirst (region_of old_gate end bytes) payload
  pub took : TookIn payload old new tree
  pub gate : new_gate ≡ old_gate + (length payload + RECORD_HEAD)
  pub room : new_gate < end
