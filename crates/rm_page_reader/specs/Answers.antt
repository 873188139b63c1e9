-- What is answered where the bytes are those of a page, or of a part of one.
use Rattle.std.specs.Prelude.{◌≡◌, ◌⊎◌, ℕ, List, [], ◌∷◌, ◌++◌, Bool, true, false, ◌&&◌, ◌||◌, Option, Some, None, Result, Ok, Err, All, codes}
use Rattle.std.specs.List.{flat_map}
use Rattle.std.specs.Str.{bytes_eq}
use Rattle.rm_types.specs.declared.entries.Entry.{Entry}
use Rattle.rm_types.specs.declared.entries.Entry.TheVariants as entries
use Rattle.rm_types.specs.declared.messages.ClientAsk.TheVariants as clients
use Rattle.rm_types.specs.declared.messages.MasterAsk.TheVariants as masters
use Rattle.rm_types.specs.declared.messages.Message.{Message}
use Rattle.rm_types.specs.declared.messages.Message.TheVariants as messages
use Rattle.rm_types.specs.declared.replies.Reply.{Reply}
use Rattle.rm_types.specs.Lanes.{sender_of}
use Rattle.rm_formats.specs.Page.{line_of, letters, page}
use Rattle.rm_formats.specs.Wording.{message_text, reply_text}
use Rattle.rm_page.specs.Ranges.{IsEntry}
use Rattle.rm_page.specs.Shown.{is_silent}
use Rattle.rm_lines.specs.declared.errors.LineError.{LineError}
use Rattle.rm_lines.specs.declared.errors.LineError.TheVariants as line_errors
use Rattle.rm_page_reader.specs.declared.errors.PageError.{PageError}
use Rattle.rm_page_reader.specs.declared.errors.PageError.TheVariants as page_errors
use Rattle.rm_page_reader.specs.Told.{heard}

-- ---- answered messages

-- spaces may stand in the last text of a message from this sender that asks for this
abbrev pub is_free : List ℕ → List ℕ → Bool
is_free sender verb = (bytes_eq sender (codes "client") && bytes_eq verb (codes "submit")) || (bytes_eq sender (codes "master") && bytes_eq verb (codes "finish"))

-- the same of a message
abbrev pub frees : Message → Bool
frees (messages.Client user (clients.Submit id submission)) = true
frees (messages.Master attempt (masters.Finish text)) = true
frees message = false

-- what stands in a line behind its first word, where a message was answered
abbrev pub served_text : Message → Reply → List ℕ
served_text message reply = message_text message ++ (codes " -> " ++ reply_text reply)

-- the entry says that the message was answered so, by its line
abbrev pub served_entry : Message → Reply → Entry
served_entry message reply = entries.Served (sender_of message) message reply

-- an error says that memory ran out
abbrev pub IsMemory : LineError → Type 0
IsMemory (line_errors.Refused fault) = ⊥
IsMemory line_errors.Memory = Unit {0}

-- the answer is this value, unless memory ran out
abbrev pub GivesValue : {X : Type 0} → Result X LineError → X → Type 0
GivesValue (Ok found) value = found ≡ value
GivesValue (Err error) value = IsMemory error

-- the answer is an entry with this one's line, unless memory ran out
abbrev pub GivesLine : Result Entry LineError → Entry → Type 0
GivesLine (Ok found) entry = line_of found ≡ line_of entry
GivesLine (Err error) entry = IsMemory error

-- ---- entries

-- an entry in its ranges, of whose line this speaks
abbrev pub IsPlain : Entry → Type 0
IsPlain (entries.Served sender message reply) = ⊥
IsPlain entries.Handed = ⊥
IsPlain (entries.Quiet lane) = ⊥
IsPlain entry = IsEntry entry

-- an answered message's sender sends it
abbrev pub HasSender : Entry → Type 0
HasSender (entries.Served sender message reply) = sender ≡ sender_of message
HasSender entry = Unit {0}

-- an entry that a line tells
pub record IsToldEntry (entry : Entry) : Type 0 where
  pub ranges : IsEntry entry
  pub heard : is_silent entry ≡ false
  pub sender : HasSender entry

-- ---- moves

-- the letter is that of a silent entry that a manager's log can have
abbrev pub IsSilentLetter : ℕ → Type 0
IsSilentLetter letter = (letter ≡ 104) ⊎ (letter ≡ 100) ⊎ (letter ≡ 115)

-- the letters are those of a log whose entries with lines have these letters
abbrev pub Fit : List ℕ → List ℕ → Type 0
Fit [] heard = heard ≡ []
Fit (letter ∷ more) heard = ((rest : List ℕ) × (heard ≡ letter ∷ rest) × Fit more rest) ⊎ (IsSilentLetter letter × Fit more heard)

-- a log with these lines and letters, in its ranges
pub record IsLogOf (heard : List Entry) (moves : List ℕ) (log : List Entry) : Type 0 where
  pub ranges : All IsEntry log
  pub lines : flat_map line_of log ≡ flat_map line_of heard
  pub moves_are : letters log ≡ moves

-- ---- pages

-- the error says that memory ran out
abbrev pub IsWant : PageError → Type 0
IsWant (page_errors.NotAPage line) = ⊥
IsWant page_errors.Memory = Unit {0}

-- entries that have the lines of a log, and letters of the same lanes
pub record AreHeard (log : List Entry) (told : List Entry) : Type 0 where
  pub lines : flat_map line_of told ≡ flat_map line_of log
  pub moves : letters told ≡ letters (heard log)

-- the letters that are found are those of the log, where its page shows them; and none are found on one that shows none
abbrev pub AreLetters : Option (List ℕ) → List Entry → Bool → Type 0
AreLetters (Some found) log moves = (moves ≡ true) × (found ≡ letters log)
AreLetters None log moves = page log moves ≡ page log false
