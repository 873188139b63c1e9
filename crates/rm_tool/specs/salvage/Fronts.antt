-- The front of a store: the operations that can be read of its bytes from the first on, and what ends them. This project's own.
use Rattle.std.specs.Prelude.{◌≡◌, ◌≢◌, ◌+◌, ℕ, false, None, List, [], ◌∷◌, ◌++◌, All, length}
use Rattle.rm_types.specs.declared.operations.Op.{Op}
use Rattle.rm_types.specs.Records.{records, fits_records, stray}
use Rattle.rm_formats.specs.Device.{IsPayload, journal_records, NoRecord}
use Rattle.rm_journal.specs.Walk.{BeginsWith}
use Rattle.rm_store.specs.Content.{IsFrameOf, ReadsAs}
use Rattle.rm_tool.specs.declared.salvage.forms.Form.{Form}
use Rattle.rm_tool.specs.declared.salvage.forms.Form.TheVariants.{OneJournal, TwoAreas, NoArea}
use Rattle.rm_tool.specs.declared.salvage.fronts.Stop.{Stop}
use Rattle.rm_tool.specs.declared.salvage.fronts.Stop.TheVariants as stops
use Rattle.rm_tool.specs.salvage.Forms.{HasFirst, heads_of, part_of, start_of}

-- behind these heads a part begins with the records of these operations, whole frames all, and a next gate; none of them is stray
pub record BeginsFront (part : List ℕ) (heads : List (List ℕ)) (ops : List Op) : Type 0 where
  pub payloads : List (List ℕ)
  pub begins : BeginsWith part (heads ++ payloads)
  pub reads : ReadsAs payloads ops
  pub none_stray : stray ops ≡ None

-- operations are a front of bytes of a form: they are the first that stand there, each of them whole and none stray; where no area is live there are
-- none
abbrev pub IsFront : Form → List ℕ → List Op → Type 0
IsFront OneJournal bytes ops = BeginsFront bytes [] ops
IsFront (TwoAreas second generation) bytes ops = BeginsFront (part_of (TwoAreas second generation) bytes) (heads_of (TwoAreas second generation)) ops
IsFront NoArea bytes ops = ops ≡ []

-- no front is longer: each is a beginning of these operations
abbrev pub IsLongest : Form → List ℕ → List Op → Type 0
IsLongest form bytes ops = (other : List Op) → IsFront form bytes other → (rest : List Op) × (ops ≡ other ++ rest)

-- a gate is closed
pub record IsClosedGate (behind : List ℕ) : Type 0 where
  pub gate : ℕ
  pub rest : List ℕ
  pub closed : gate ≢ 1
  pub is : behind ≡ gate ∷ rest

-- an open gate stands before no record
pub record IsOpenToNothing (behind : List ℕ) : Type 0 where
  pub rest : List ℕ
  pub is : behind ≡ 1 ∷ rest
  pub no_record : NoRecord rest

-- the payload of a record reads as no operation
pub record IsRecordOfNone (behind : List ℕ) : Type 0 where
  pub payload : List ℕ
  pub first : HasFirst behind payload
  pub no_frame : (op : Op) → IsFrameOf payload op → ⊥

-- the operation of a record doesn't fit those before it
pub record IsRecordOfStray (ops : List Op) (behind : List ℕ) : Type 0 where
  pub payload : List ℕ
  pub op : Op
  pub first : HasFirst behind payload
  pub framed : IsFrameOf payload op
  pub stray : fits_records (records ops) op ≡ false

-- why no more operations are read behind these, by what stands at the gate there
abbrev pub StopsBehind : List ℕ → ℕ → List Op → Stop → Type 0
StopsBehind behind gate ops (stops.End offset) = (offset ≡ gate) × IsClosedGate behind
StopsBehind behind gate ops (stops.NoRecord offset) = (offset ≡ gate) × IsOpenToNothing behind
StopsBehind behind gate ops (stops.NoFrame offset) = (offset ≡ gate) × IsRecordOfNone behind
StopsBehind behind gate ops (stops.Stray offset) = (offset ≡ gate) × IsRecordOfStray ops behind
StopsBehind behind gate ops stops.NoArea = ⊥

-- behind these heads and the records of these operations stands why no more are read
pub record FrontStops (part : List ℕ) (start : ℕ) (heads : List (List ℕ)) (ops : List Op) (stop : Stop) : Type 0 where
  pub payloads : List (List ℕ)
  pub sizes : All IsPayload (heads ++ payloads)
  pub reads : ReadsAs payloads ops
  pub behind : List ℕ
  pub is : part ≡ journal_records (heads ++ payloads) ++ behind
  pub here : StopsBehind behind (start + length (journal_records (heads ++ payloads))) ops stop

-- why a front ends where it does
abbrev pub IsStop : Form → List ℕ → List Op → Stop → Type 0
IsStop OneJournal bytes ops stop = FrontStops bytes 0 [] ops stop
IsStop (TwoAreas second generation) bytes ops stop = FrontStops (part_of (TwoAreas second generation) bytes) (start_of (TwoAreas second generation) bytes) (heads_of (TwoAreas second generation)) ops stop
IsStop NoArea bytes ops stop = stop ≡ stops.NoArea
