-- What reading gives: a line by itself, and the lines put together.
use Rattle.std.specs.Prelude.{◌≡◌, ◌⊎◌, ℕ, ◌+◌, ◌<◌, ◌≤◌, List, [], ◌∷◌, ◌++◌, length, map, take, Option, Some, None, Result, Ok, Err, true, false, if◌then◌else◌, All, codes}
use Rattle.std.specs.Fmt.{decimal}
use Rattle.rm_types.specs.Ranges.{IsWithin}
use Rattle.rm_types.specs.declared.messages.Message.{Message}
use Rattle.rm_types.specs.declared.scripts.Close.TheVariants as closes
use Rattle.rm_types.specs.declared.scripts.Life.{Life}
use Rattle.rm_types.specs.declared.scripts.Script.{Script}
use Rattle.rm_formats.specs.Wording.{spaced, message_words}
use Rattle.rm_script.specs.declared.errors.ScriptError.{ScriptError}
use Rattle.rm_script.specs.declared.errors.ScriptError.TheVariants.{Refused, Memory}
use Rattle.rm_script.specs.declared.lines.Line.{Line}
use Rattle.rm_script.specs.declared.lines.Line.TheVariants.{Skipped, Start, Settle, Crash, Deliver, Lose}
use Rattle.rm_script.specs.declared.drafts.Living.{Living}
use Rattle.rm_script.specs.declared.drafts.Draft.{Draft}
use Rattle.rm_script.specs.declared.drafts.Draft.TheVariants as drafts
use Rattle.rm_types.specs.Limits.{greatest_stamp, most_lines}
use Rattle.rm_script.specs.Limits.{most_bytes, greatest_calls, greatest_image}
use Rattle.rm_lines.specs.Lines.{lines_of, size_of_first, is_skipped, kept_lines}
use Rattle.rm_script.specs.Lines.{IsLineText}
use Rattle.rm_script.specs.Messages.{IsScriptMessage}
use Rattle.rm_lines.specs.Results.{◌>>=◌}
use Rattle.rm_script.specs.Pieces.{said_pieces}

-- ---- a line by itself

-- the words of a line that says something
abbrev pub line_words : Line → List (List ℕ)
line_words Skipped = []
line_words (Start stamp) = codes "start" ∷ decimal stamp ∷ []
line_words Settle = codes "settle" ∷ []
line_words (Crash calls image) = codes "crash" ∷ decimal calls ∷ decimal image ∷ []
line_words (Deliver message) = message_words message
line_words (Lose message) = codes "lose" ∷ message_words message

-- the pieces of its text: a text in which spaces may stand comes in pieces
abbrev pub line_pieces : Line → List (List ℕ)
line_pieces (Deliver message) = said_pieces message
line_pieces (Lose message) = codes "lose" ∷ said_pieces message
line_pieces line = line_words line

-- its text
abbrev pub line_text : Line → List ℕ
line_text line = spaced (line_words line)

-- the crash of a life in its ranges
pub record IsCrashLine (calls image : ℕ) : Type 0 where
  pub calls_fit : IsWithin 0 greatest_calls calls
  pub image_fits : IsWithin 0 greatest_image image

-- the line says something, and its values are in their ranges
abbrev pub IsLine : Line → Type 0
IsLine Skipped = ⊥
IsLine (Start stamp) = IsWithin 1 greatest_stamp stamp
IsLine Settle = Unit {0}
IsLine (Crash calls image) = IsCrashLine calls image
IsLine (Deliver message) = IsScriptMessage message
IsLine (Lose message) = IsScriptMessage message

-- the text is that of a line that says something
pub record IsTextOf (text : List ℕ) (line : Line) : Type 0 where
  pub same : text ≡ line_text line
  pub fits : IsLine line

-- the text says the line, or is skipped
abbrev pub Says : List ℕ → Line → Type 0
Says text Skipped = is_skipped text ≡ true
Says text line = IsTextOf text line

-- the text may stand in a script, and says the line
pub record IsLineAs (text : List ℕ) (line : Line) : Type 0 where
  pub fine : IsLineText text
  pub says : Says text line

-- ---- the lines put together

-- a life that goes on, as the script tells it
abbrev pub told_life : Living → Life
told_life living = record { stamp = living.stamp; segments = living.segments }

-- a draft in which a life starts with this stamp
abbrev pub with_start : Draft → ℕ → Option Draft
with_start (drafts.Between lives) stamp = Some (drafts.Living lives (record { stamp = stamp; segments = []; messages = []; is_sending = false }))
with_start (drafts.Living lives living) stamp = None

-- a life whose segment settles
abbrev pub settled : Living → Living
settled living =
    record living { segments = living.segments ++ record { messages = living.messages; close = closes.Settle } ∷ []; messages = []; is_sending = false }

-- a draft whose segment settles
abbrev pub with_settle : Draft → Option Draft
with_settle (drafts.Between lives) = None
with_settle (drafts.Living lives living) = Some (drafts.Living lives (settled living))

-- a life that ends with this crash
abbrev pub crashed : Living → ℕ → ℕ → Life
crashed living calls image =
    record { stamp = living.stamp; segments = living.segments ++ record { messages = living.messages; close = closes.Crash calls image } ∷ [] }

-- a draft whose life crashes
abbrev pub with_crash : Draft → ℕ → ℕ → Option Draft
with_crash (drafts.Between lives) calls image = None
with_crash (drafts.Living lives living) calls image = Some (drafts.Between (lives ++ crashed living calls image ∷ []))

-- a life that was told this message
abbrev pub told : Living → Message → Living
told living message = record living { messages = living.messages ++ message ∷ []; is_sending = true }

-- a draft whose life is sent this message
abbrev pub with_message : Draft → Message → Option Draft
with_message (drafts.Between lives) message = None
with_message (drafts.Living lives living) message = Some (drafts.Living lives (told living message))

-- a draft whose life is sent a message that is lost
abbrev pub with_loss : Draft → Option Draft
with_loss (drafts.Between lives) = None
with_loss (drafts.Living lives living) = Some (drafts.Living lives (record living { is_sending = true }))

-- a draft with one line more, where the line may stand there
abbrev pub with_line : Draft → Line → Option Draft
with_line draft Skipped = Some draft
with_line draft (Start stamp) = with_start draft stamp
with_line draft Settle = with_settle draft
with_line draft (Crash calls image) = with_crash draft calls image
with_line draft (Deliver message) = with_message draft message
with_line draft (Lose message) = with_loss draft

-- the draft with the line of this text more
pub record Takes (draft : Draft) (text : List ℕ) (next : Draft) : Type 0 where
  pub line : Line
  pub is : IsLineAs text line
  pub next_is : with_line draft line ≡ Some next

-- a draft with these lines more, where they may stand there
abbrev pub with_each_line : Draft → List Line → Option Draft
with_each_line draft [] = Some draft
with_each_line draft (line ∷ lines) = do
  next ← with_line draft line
  with_each_line next lines

-- the draft of no line
abbrev pub no_lines : Draft
no_lines = drafts.Between []

-- the script that a draft is, where its last segment is closed
abbrev pub script_of_draft : Draft → Option Script
script_of_draft (drafts.Between lives) = Some (record { lives = lives })
script_of_draft (drafts.Living lives living) = if living.is_sending then None else Some (record { lives = lives ++ told_life living ∷ [] })

-- ---- the bytes

-- so many first lines of the bytes read as this draft: they keep the limits, and those that say something are lines that
-- make it
pub record ReadsLines (count : ℕ) (bytes : List ℕ) (draft : Draft) : Type 0 where
  pub few : count ≤ most_lines
  pub size : size_of_first count bytes ≤ most_bytes
  pub each : All IsLineText (take count (lines_of bytes))
  pub lines : List Line
  pub fit : All IsLine lines
  pub texts : kept_lines (take count (lines_of bytes)) ≡ map line_text lines
  pub draft_is : with_each_line no_lines lines ≡ Some draft

-- the line after so many doesn't
pub record FailsAfter (count : ℕ) (bytes : List ℕ) : Type 0 where
  pub there : count < length (lines_of bytes)
  pub draft : Draft
  pub before : ReadsLines count bytes draft
  pub fails : (next : Draft) → ReadsLines (count + 1) bytes next → ⊥

-- all lines read as a draft that is no script
pub record FailsAtEnd (bytes : List ℕ) : Type 0 where
  pub draft : Draft
  pub before : ReadsLines (length (lines_of bytes)) bytes draft
  pub fails : script_of_draft draft ≡ None

-- all lines read as a draft that is this script
pub record ReadsAll (bytes : List ℕ) (script : Script) : Type 0 where
  pub draft : Draft
  pub before : ReadsLines (length (lines_of bytes)) bytes draft
  pub script_is : script_of_draft draft ≡ Some script

-- the answer is the script that all lines read as, or the first line at which reading fails, unless memory ran out
abbrev pub AnswersReading : List ℕ → Result Script ScriptError → Type 0
AnswersReading bytes (Ok script) = ReadsAll bytes script
AnswersReading bytes (Err (Refused line)) = ((count : ℕ) × (line ≡ count + 1) × FailsAfter count bytes) ⊎ ((line ≡ length (lines_of bytes) + 1) × FailsAtEnd bytes)
AnswersReading bytes (Err Memory) = Unit {0}
