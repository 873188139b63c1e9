-- What a page tells. This project's own.
use Rattle.std.specs.Prelude.{◌≡◌, ◌⊎◌, ℕ, List, [], Bool, not, map, filter, All}
use Rattle.rm_types.specs.declared.entries.Entry.{Entry}
use Rattle.rm_types.specs.declared.entries.Entry.TheVariants as entries
use Rattle.rm_types.specs.declared.messages.Lane.TheVariants as lanes
use Rattle.rm_types.specs.declared.messages.Message.{Message}
use Rattle.rm_types.specs.Lanes.{sender_of}
use Rattle.rm_formats.specs.Page.{page}
use Rattle.rm_formats.specs.Wording.{message_text}
use Rattle.rm_page.specs.Ranges.{IsEntry}
use Rattle.rm_page.specs.Shown.{is_silent, shown, shown_log}
use Rattle.rm_script.specs.Lines.{IsLineText}
use Rattle.rm_script.specs.Scripts.{IsReadMessage}
use Rattle.rm_page_reader.specs.declared.soaks.SoakLine.{SoakLine}
use Rattle.rm_page_reader.specs.declared.pages.Page.{Page}
use Rattle.rm_page_reader.specs.declared.pages.Page.TheVariants.{Log, Soak}
use Rattle.rm_page_reader.specs.Soaks.{soak_text, IsSoak}

-- the entries of a log that have lines, in their order
abbrev pub heard : List Entry → List Entry
heard log = filter (λ entry. not (is_silent entry)) log

-- these entries have the lines of the bytes, one each: a log in its ranges has these bytes as its page, with the moves or
-- without, and these are its entries that have lines
pub record TellsLog (bytes : List ℕ) (entries : List Entry) (moves : Bool) : Type 0 where
  pub log : List Entry
  pub ranges : All IsEntry log
  pub text : bytes ≡ page log moves
  pub lines : entries ≡ heard log

-- the bytes are a page that tells this: the lines of entries, or the line of a soak
abbrev pub Tells : List ℕ → Page → Type 0
Tells bytes (Log entries moves) = TellsLog bytes entries moves
Tells bytes (Soak soak) = bytes ≡ soak_text soak

-- the entries that a page tells
abbrev pub entries_of : Page → List Entry
entries_of (Log entries moves) = entries
entries_of (Soak soak) = []

-- of whichever log bytes are the page, what was read shows what that log's page shows
abbrev pub IsOneReading : Type 0
IsOneReading =
    (bytes : List ℕ) (entries log : List Entry) (moves : Bool)
    → TellsLog bytes entries moves
    → All IsEntry log
    → bytes ≡ page log moves
    → map shown entries ≡ shown_log log

-- a message that a line of a script says: its parts are in their ranges, and its text may stand there
pub record IsOfScript (message : Message) : Type 0 where
  pub parts : IsReadMessage message
  pub line : IsLineText (message_text message)

-- what a manager's log keeps to besides the ranges: it was given the messages of scripts, each by its sender, and the events
-- of which its log says that nothing was to do are those of its two dispatchers
abbrev pub IsByManager : Entry → Type 0
IsByManager (entries.Served sender message reply) = IsOfScript message × (sender ≡ sender_of message)
IsByManager (entries.Quiet lane) = (lane ≡ lanes.Main) ⊎ (lane ≡ lanes.Sched)
IsByManager entry = Unit {0}

-- an entry in its ranges that a manager's log can have
pub record IsManagerEntry (entry : Entry) : Type 0 where
  pub ranges : IsEntry entry
  pub manager : IsByManager entry

-- the bytes are no page: of no log that a manager can have, with the moves or without, and of no soak
pub record IsNoPage (bytes : List ℕ) : Type 0 where
  pub no_log : (log : List Entry) (moves : Bool) → All IsManagerEntry log → bytes ≡ page log moves → ⊥
  pub no_soak : (soak : SoakLine) → IsSoak soak → bytes ≡ soak_text soak → ⊥
