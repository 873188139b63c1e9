-- What a sink took, and what it counts.
use Rattle.std.specs.Prelude.{ℕ, zero, suc, List, [], ◌∷◌, ◌++◌, Result, Ok, Err, take}
use Rattle.rm_types.specs.Counts.{risen}
use Rattle.rm_outside.specs.declared.sinks.SinkError.{SinkError}
use Rattle.rm_outside.specs.declared.sinks.SinkError.TheVariants.{SinkFault, Memory}

-- A sink in memory: the bytes taken, the numbers of the calls that fail, the greatest piece, and how many calls, faults
-- and idle writes there were.
pub record MemSinkState : Type 0 where
  pub taken : List ℕ
  pub failing : List ℕ
  pub most : ℕ
  pub calls : ℕ
  pub faults : ℕ
  pub idle : ℕ

-- The counts of a sink that tells no bytes.
pub record SinkCounts : Type 0 where
  pub faults : ℕ
  pub idle : ℕ

-- The count of faults after this answer: a fault raises it.
abbrev pub sink_faults : ℕ → Result ℕ SinkError → ℕ
sink_faults faults (Ok count) = faults
sink_faults faults (Err SinkFault) = risen faults
sink_faults faults (Err Memory) = faults

-- The count of idle writes after this answer to a piece: taking nothing of a piece that isn't empty raises it.
abbrev pub idle_after : ℕ → Result ℕ SinkError → List ℕ → ℕ
idle_after idle (Ok zero) [] = idle
idle_after idle (Ok zero) (byte ∷ rest) = risen idle
idle_after idle (Ok (suc count)) piece = idle
idle_after idle (Err error) piece = idle

-- The bytes taken after this answer to a piece: its first bytes, as many as the answer says.
abbrev pub taken_after : List ℕ → Result ℕ SinkError → List ℕ → List ℕ
taken_after taken (Ok count) piece = taken ++ take count piece
taken_after taken (Err error) piece = taken

-- The sink in memory after this answer to a piece: the call counts, and so do a fault and an idle write.
abbrev pub sink_after : MemSinkState → Result ℕ SinkError → List ℕ → MemSinkState
sink_after sink answer piece = record sink {
  taken = taken_after sink.taken answer piece;
  calls = risen sink.calls;
  faults = sink_faults sink.faults answer;
  idle = idle_after sink.idle answer piece;
}

-- The counts of a sink that tells no bytes, after this answer to a piece.
abbrev pub counts_after : SinkCounts → Result ℕ SinkError → List ℕ → SinkCounts
counts_after counts answer piece = record { faults = sink_faults counts.faults answer; idle = idle_after counts.idle answer piece }
