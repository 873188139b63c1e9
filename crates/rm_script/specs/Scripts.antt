-- Which bytes are which script.
pub use Rattle.rm_script.specs.Messages.{IsScriptSubmission, IsScriptClientAsk}
use Rattle.rm_lines.specs.Lines.{lines_of, kept_lines}
use Rattle.rm_script.specs.Lines.{IsLineText, KeepLimits}
use Rattle.rm_script.specs.Messages.{IsScriptMessage}
use Rattle.std.specs.Prelude.{◌≡◌, ℕ, List, [], ◌∷◌, length, IfSome, IsSome, All}
use Rattle.rm_types.specs.Ranges.{IsWithin}
use Rattle.rm_types.specs.declared.messages.Message.{Message}
use Rattle.rm_types.specs.declared.scripts.Script.{Script}
use Rattle.rm_types.specs.Limits.{greatest_stamp}
use Rattle.rm_script.specs.Limits.{greatest_calls, greatest_image}
use Rattle.rm_formats.specs.Wording.{message_text}
use Rattle.rm_script.specs.Written.{Sent, message_of, Crashing, WrittenLife, script_of_lives}
use Rattle.rm_script.specs.Spelling.{sent_text, script_lines}

-- a message that may stand in a script: its parts are in their ranges
abbrev pub IsReadMessage : Message → Type 0
IsReadMessage message = IsScriptMessage message

-- what is sent is such a message
abbrev pub IsSent : Sent → Type 0
IsSent sent = IsReadMessage (message_of sent)

-- the line says that this is sent
pub record IsLineOf (line : List ℕ) (sent : Sent) : Type 0 where
  pub fits : IsSent sent
  pub text : line ≡ sent_text sent

-- the line may stand in a script, and says this message
pub record IsLineOfMessage (line : List ℕ) (message : Message) : Type 0 where
  pub limits : IsLineText line
  pub fits : IsReadMessage message
  pub text : line ≡ message_text message

-- a crash, and what is sent in the segment that it closes, may stand in a script
pub record IsCrash (crash : Crashing) : Type 0 where
  pub sent : All IsSent crash.sent
  pub calls : IsWithin 0 greatest_calls crash.calls
  pub image : IsWithin 0 greatest_image crash.image

-- a life that may stand in a script
pub record IsLife (life : WrittenLife) : Type 0 where
  pub stamp : IsWithin 1 greatest_stamp life.stamp
  pub settled : All (All IsSent) life.settled
  pub crash : IfSome life.crash IsCrash

-- the life ends with a crash
abbrev pub EndsByCrash : WrittenLife → Type 0
EndsByCrash life = IsSome life.crash

-- each but the last has it
abbrev pub EachButLast : {X : Type 0} → (X → Type 0) → List X → Type 0
EachButLast P [] = Unit {0}
EachButLast P (last ∷ []) = Unit {0}
EachButLast P (first ∷ next ∷ more) = P first × EachButLast P (next ∷ more)

-- the lives that a script may have: each may stand there, and each but the last crashes
pub record AreLives (lives : List WrittenLife) : Type 0 where
  pub each : All IsLife lives
  pub crash : EachButLast EndsByCrash lives

-- the lines spell the script: those that say something are the lines of lives that a script may have, and the script
-- is what these lives tell the manager
pub record Spell (lines : List (List ℕ)) (script : Script) : Type 0 where
  pub lives : List WrittenLife
  pub fit : AreLives lives
  pub text : kept_lines lines ≡ script_lines lives
  pub same : script ≡ script_of_lives lives

-- the bytes are the script: their lines keep the limits and spell it
pub record IsScript (bytes : List ℕ) (script : Script) : Type 0 where
  pub limits : KeepLimits (length (lines_of bytes)) bytes
  pub spelled : Spell (lines_of bytes) script
