-- What a whole payload says that reads as an operation. The crates above ask this alone of what a frame is.
use Rattle.std.proofs.Common.{◌≡◌, ℕ, List, [], ◌≤◌, length, take_all, refl, sym, subst, arith}
use Rattle.rm_types.specs.declared.operations.Op.{Op}
use Rattle.rm_types.specs.Ranges.{IsOperation}
use Rattle.rm_formats.specs.Frames.{frame, Reads as ReadsAs, now}
use Rattle.rm_frame.specs.Framed.{IsFramed}
use Rattle.rm_frame.proofs.Apart.{frames_alike}

-- what is written of an operation reads as it
pub frame_reads : (op : Op) → ReadsAs (frame op) op
frame_reads op = now refl

-- a payload reads as one operation at most
pub one_reading : (payload : List ℕ) (a b : Op) → IsOperation a → IsOperation b → ReadsAs payload a → ReadsAs payload b → a ≡ b
one_reading payload a b can_a can_b one two = (frames_alike a b payload payload [] [] can_a can_b one two refl).0

-- what is read up to its end reads as the whole of it
pub read_to_end : (payload : List ℕ) (op : Op) (count : ℕ) → IsFramed payload op count → length payload ≤ count → ReadsAs payload op
read_to_end payload op count is all = subst (λ (l : List ℕ). ReadsAs l op) (take_all count payload all) is.is

-- and a payload that reads as an operation is all of what is read of it
pub whole_payload : (payload : List ℕ) (op : Op) → IsOperation op → ReadsAs payload op → IsFramed payload op (length payload)
whole_payload payload op can reads = record { can = can; within = omega arith; is = subst (λ (l : List ℕ). ReadsAs l op) (sym (take_all (length payload) payload (omega arith))) reads }
