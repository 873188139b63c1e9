-- The frames of store operations: what the store keeps of each, as bytes. This project's own.
use Rattle.std.specs.Prelude.{◌≡◌, ℕ, Bool, true, false, List, ◌∷◌, ◌++◌, length}
use Rattle.std.specs.Int.{to_be_bytes, w16, w32, w64}
use Rattle.rm_types.specs.declared.ids.AppId.{AppId}
use Rattle.rm_types.specs.declared.ids.AttemptId.{AttemptId}
use Rattle.rm_types.specs.declared.ids.ContainerId.{ContainerId}
use Rattle.rm_types.specs.declared.operations.How.{How}
use Rattle.rm_types.specs.declared.operations.How.TheVariants.{Finished, Failed, Killed}
use Rattle.rm_types.specs.declared.operations.Op.{Op}
use Rattle.rm_types.specs.declared.operations.Op.TheVariants.{Epoch, App, Attempt, AttemptEnd, AppEnd, Remove}
use Rattle.rm_types.specs.declared.operations.Submission.{Submission}
use Rattle.rm_formats.specs.declared.codes.FrameKind.{FrameKind}
use Rattle.rm_formats.specs.declared.codes.FrameKind.TheVariants as kind
use Rattle.rm_formats.specs.declared.codes.TheConstants.{EPOCH_CODE, OLDER_APP_CODE, APP_CODE, ATTEMPT_CODE, ATTEMPT_END_CODE, APP_END_CODE, REMOVE_CODE, FINISHED_CODE, FAILED_CODE, KILLED_CODE}

-- a text: its length in 2 bytes, and its bytes
abbrev pub text_frame : List ℕ → List ℕ
text_frame text = to_be_bytes w16 (length text) ++ text

-- an application's id: the stamp in 8 bytes, the number in 4
abbrev pub app_id_frame : AppId → List ℕ
app_id_frame id = to_be_bytes w64 id.stamp ++ to_be_bytes w32 id.number

-- an attempt's id: the application's, and the number in 4 bytes
abbrev pub attempt_id_frame : AttemptId → List ℕ
attempt_id_frame id = app_id_frame id.app ++ to_be_bytes w32 id.number

-- a master's container, of which the attempt is known: the epoch in 4 bytes, the sequence in 8
abbrev pub master_frame : ContainerId → List ℕ
master_frame master = to_be_bytes w32 master.epoch ++ to_be_bytes w64 master.seq

-- how something ended, as one byte
abbrev pub how_code : How → ℕ
how_code Finished = FINISHED_CODE
how_code Failed = FAILED_CODE
how_code Killed = KILLED_CODE

-- a yes or no, as one byte
abbrev pub yes_code : Bool → ℕ
yes_code true = 1
yes_code false = 0

-- what was submitted: three texts, the master's memory, its cores and the bound on attempts in 4 bytes each, whether containers are
-- kept, and a text
abbrev pub submission_frame : Submission → List ℕ
submission_frame submission =
    text_frame submission.user ++ (text_frame submission.queue ++ (text_frame submission.name
    ++ (to_be_bytes w32 submission.master.memory_mb ++ (to_be_bytes w32 submission.master.vcores
    ++ (to_be_bytes w32 submission.attempts ++ (yes_code submission.keep ∷ text_frame submission.modify))))))

-- and as it was kept before there was such a choice
abbrev pub older_submission_frame : Submission → List ℕ
older_submission_frame submission =
    text_frame submission.user ++ (text_frame submission.queue ++ (text_frame submission.name
    ++ (to_be_bytes w32 submission.master.memory_mb ++ (to_be_bytes w32 submission.master.vcores
    ++ (to_be_bytes w32 submission.attempts ++ text_frame submission.modify)))))

-- the kind of a frame, as one byte
abbrev pub kind_code : FrameKind → ℕ
kind_code kind.Epoch = EPOCH_CODE
kind_code kind.OlderApp = OLDER_APP_CODE
kind_code kind.App = APP_CODE
kind_code kind.Attempt = ATTEMPT_CODE
kind_code kind.AttemptEnd = ATTEMPT_END_CODE
kind_code kind.AppEnd = APP_END_CODE
kind_code kind.Remove = REMOVE_CODE

-- an operation: a byte for its kind, and its fields in order; a number's highest byte comes first
abbrev pub frame : Op → List ℕ
frame (Epoch next stamp) = kind_code kind.Epoch ∷ (to_be_bytes w32 next ++ to_be_bytes w64 stamp)
frame (App id submission) = kind_code kind.App ∷ (app_id_frame id ++ submission_frame submission)
frame (Attempt id master node) = kind_code kind.Attempt ∷ (attempt_id_frame id ++ (master_frame master ++ text_frame node))
frame (AttemptEnd id how text) = kind_code kind.AttemptEnd ∷ (attempt_id_frame id ++ (how_code how ∷ text_frame text))
frame (AppEnd id how text) = kind_code kind.AppEnd ∷ (app_id_frame id ++ (how_code how ∷ text_frame text))
frame (Remove id) = kind_code kind.Remove ∷ app_id_frame id

-- the bytes read as an operation: they are its frame, or the older one of an App that doesn't keep
pub data Reads (bytes : List ℕ) (op : Op) : Type 0 where
  now : bytes ≡ frame op → Reads bytes op
  older : (id : AppId) (submission : Submission) → op ≡ App id submission → submission.keep ≡ false
      → bytes ≡ kind_code kind.OlderApp ∷ (app_id_frame id ++ older_submission_frame submission) → Reads bytes op
