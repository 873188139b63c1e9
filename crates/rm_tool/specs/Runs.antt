-- What a call of the tool comes to, by what it was asked for. This project's own.
use Rattle.std.specs.Prelude.{◌≡◌, ◌⊎◌, ◌-◌, ◌≤◌, ◌<◌, ℕ, List, [], ◌++◌, Option, None, Some, length, take, replicate}
use Rattle.rm_types.specs.declared.operations.Op.{Op}
use Rattle.rm_types.specs.Folded.{folded}
use Rattle.rm_disk.specs.Disk.{DiskView, AtEachMoment, EachImage, IfTold}
use Rattle.rm_store.specs.Content.{HasContent}
use Rattle.std.specs.Io.KnownBytes.{Appends}
use Rattle.rm_types.specs.Ranges.{IsText}
use Rattle.rm_types.specs.declared.texts.TextKind.TheVariants as kinds
use Rattle.rm_page_reader.specs.Told.{IsNoPage}
use Rattle.rm_report.specs.Following.{IsFollowed}
use Rattle.rm_report.specs.Summaries.{IsSummary}
use Rattle.rm_outside.specs.Shelves.{ShelfTells, WereRead}
use Rattle.rm_outside.specs.declared.shelves.TheConstants.{MOST_READ}
use Rattle.rm_tool.specs.declared.salvage.checks.Fault.{Fault}
use Rattle.rm_tool.specs.declared.salvage.forms.Form.{Form}
use Rattle.rm_tool.specs.declared.salvage.fronts.Stop.{Stop}
use Rattle.rm_tool.specs.salvage.Checks.{HasOldContent, IsFault, IsOldFault, IsWhole}
use Rattle.rm_tool.specs.salvage.Forms.{HasFirstFrame, IsForm}
use Rattle.rm_tool.specs.salvage.Fronts.{IsFront, IsLongest, IsStop}
use Rattle.rm_tool.specs.salvage.Lists.{left_by}
use Rattle.rm_tool.specs.salvage.Writes.{HoldsAll}
use Rattle.rm_tool.specs.declared.outcomes.ToolOutcome.{ToolOutcome}
use Rattle.rm_tool.specs.declared.outcomes.ToolOutcome.TheVariants.{Done, Usage, ReadFault, WriteFault, OtherLength, TooLong, OtherForm, Faulty, DiskFault, NotNew, Full, NotAPage, NotAnId, Memory}
use Rattle.rm_formats.specs.declared.TheConstants.{STORE_SIZE}
use Rattle.rm_tool.specs.Words.{ToolRequest, Check, Convert, Salvage, Summary, Follow, Draw}

-- bytes brought to the size of a store: what is behind is left out, and zeros stand for what is missing
abbrev pub brought_to_size : List ℕ → List ℕ
brought_to_size bytes = take STORE_SIZE bytes ++ replicate (STORE_SIZE - length bytes) 0

-- the bytes that were read of a file are not those of a store, by their number
pub record HasOtherLength (told : Option (List ℕ)) (many : ℕ) : Type 0 where
  pub bytes : List ℕ
  pub read : WereRead told bytes
  pub long : length bytes ≡ many
  pub other : many ≡ STORE_SIZE → ⊥

-- a file was not read with one of these
abbrev pub ToolIsUnread : ToolOutcome → Type 0
ToolIsUnread ReadFault = Unit {0}
ToolIsUnread Memory = Unit {0}
ToolIsUnread _ = ⊥

-- the file is longer than what is read of a page whole
pub record IsLongFile (told : Option (List ℕ)) : Type 0 where
  pub bytes : List ℕ
  pub read : WereRead told bytes
  pub long : MOST_READ ≤ length bytes

-- the file of a page was not read, or is too long, with one of these
abbrev pub IsNotReadWhole : Option (List ℕ) → ToolOutcome → Type 0
IsNotReadWhole told ReadFault = Unit {0}
IsNotReadWhole told Memory = Unit {0}
IsNotReadWhole told TooLong = IsLongFile told
IsNotReadWhole told _ = ⊥

-- the file of a store was not read with one of these
abbrev pub IsNotRead : Option (List ℕ) → ToolOutcome → Type 0
IsNotRead told ReadFault = Unit {0}
IsNotRead told Memory = Unit {0}
IsNotRead told (OtherLength many) = HasOtherLength told many
IsNotRead told _ = ⊥

-- the file is a whole store
pub record IsWholeFile (told : Option (List ℕ)) : Type 0 where
  pub bytes : List ℕ
  pub read : WereRead told bytes
  pub form : Form
  pub of_form : IsForm bytes form
  pub ops : List Op
  pub whole : IsWhole form bytes ops

-- the file has this fault
pub record IsFaultyFile (told : Option (List ℕ)) (fault : Fault) : Type 0 where
  pub bytes : List ℕ
  pub read : WereRead told bytes
  pub form : Form
  pub of_form : IsForm bytes form
  pub faulty : IsFault form bytes fault

-- what a check comes to
abbrev pub Checks : Option (List ℕ) → ToolOutcome → Type 0
Checks told Done = IsWholeFile told
Checks told (Faulty fault) = IsFaultyFile told fault
Checks told (OtherLength many) = HasOtherLength told many
Checks told ReadFault = Unit {0}
Checks told (WriteFault took_nothing) = Unit {0}
Checks told Memory = Unit {0}
Checks told Usage = ⊥
Checks told TooLong = ⊥
Checks told OtherForm = ⊥
Checks told DiskFault = ⊥
Checks told NotNew = ⊥
Checks told (Full size) = ⊥
Checks told (NotAPage line) = ⊥
Checks told NotAnId = ⊥

-- the file is a whole store of the old form, and the new disk holds what is left of its operations
pub record IsConverted (told : Option (List ℕ)) (new : DiskView) : Type 0 where
  pub bytes : List ℕ
  pub read : WereRead told bytes
  pub ops : List Op
  pub old : HasOldContent bytes ops
  pub holds : HoldsAll new (folded ops)

-- the file doesn't begin as a store of the old form does that isn't empty
pub record IsOtherForm (told : Option (List ℕ)) : Type 0 where
  pub bytes : List ℕ
  pub read : WereRead told bytes
  pub other : HasFirstFrame bytes → ⊥

-- the file is of the old form, with this fault
pub record IsFaultyOld (told : Option (List ℕ)) (fault : Fault) : Type 0 where
  pub bytes : List ℕ
  pub read : WereRead told bytes
  pub faulty : IsOldFault bytes fault

-- what a conversion comes to
abbrev pub Converts : Option (List ℕ) → DiskView → ToolOutcome → Type 0
Converts told new Done = IsConverted told new
Converts told new OtherForm = IsOtherForm told
Converts told new (Faulty fault) = IsFaultyOld told fault
Converts told new (OtherLength many) = HasOtherLength told many
Converts told new Usage = ⊥
Converts told new TooLong = ⊥
Converts told new (NotAPage line) = ⊥
Converts told new NotAnId = ⊥
Converts told new _ = Unit {0}

-- what can be read of the file, brought to the size of a store, from the first operation on: the longest front, and why it ends; and the new disk holds it
pub record IsSalvaged (told : Option (List ℕ)) (new : DiskView) : Type 0 where
  pub read_bytes : List ℕ
  pub read : WereRead told read_bytes
  pub bytes : List ℕ
  pub are : bytes ≡ brought_to_size read_bytes
  pub form : Form
  pub of_form : IsForm bytes form
  pub ops : List Op
  pub front : IsFront form bytes ops
  pub longest : IsLongest form bytes ops
  pub stop : Stop
  pub stops : IsStop form bytes ops stop
  pub holds : HoldsAll new (left_by form ops)

-- what a salvage comes to
abbrev pub Salvages : Option (List ℕ) → DiskView → ToolOutcome → Type 0
Salvages told new Done = IsSalvaged told new
Salvages told new Usage = ⊥
Salvages told new TooLong = ⊥
Salvages told new OtherForm = ⊥
Salvages told new (Faulty fault) = ⊥
Salvages told new (OtherLength many) = ⊥
Salvages told new (NotAPage line) = ⊥
Salvages told new NotAnId = ⊥
Salvages told new _ = Unit {0}

-- bytes are a store that the manager opens: they hold operations of which none is stray
abbrev pub IsStore : List ℕ → Type 0
IsStore bytes = (ops : List Op) × HasContent bytes ops

-- where a crash left a store without operations before a call, it leaves a store at each moment of it
abbrev pub KeepsStore : DiskView → DiskView → Type 0
KeepsStore old new = IfTold old (λ _. EachImage old (λ image. HasContent image []) → AtEachMoment old new IsStore)

-- the file is no page, all of it
pub record IsNoPageFile (told : Option (List ℕ)) : Type 0 where
  pub bytes : List ℕ
  pub read : WereRead told bytes
  pub whole : length bytes < MOST_READ
  pub none : IsNoPage bytes

-- what a report of the page in a file comes to
abbrev pub Reports : Option (List ℕ) → ToolOutcome → Type 0
Reports told Done = Unit {0}
Reports told ReadFault = Unit {0}
Reports told (WriteFault took_nothing) = Unit {0}
Reports told (NotAPage line) = IsNoPageFile told
Reports told TooLong = IsLongFile told
Reports told Memory = Unit {0}
Reports told _ = ⊥

-- the same where it is of an id: it is refused only where it is no id and can't be a node's name
abbrev pub FollowsReport : Option (List ℕ) → List ℕ → ToolOutcome → Type 0
FollowsReport told id NotAnId = IsText kinds.Node id → ⊥
FollowsReport told id outcome = Reports told outcome

-- what a call comes to, by what was asked for
abbrev pub Comes : ShelfTells → Option ToolRequest → DiskView → ToolOutcome → Type 0
Comes told None new outcome = (outcome ≡ Usage) ⊎ (outcome ≡ Memory)
Comes told (Some (Check file)) new outcome = Checks (told file) outcome
Comes told (Some (Convert old target)) new outcome = Converts (told old) new outcome
Comes told (Some (Salvage file target)) new outcome = Salvages (told file) new outcome
Comes told (Some (Summary page)) new outcome = Reports (told page) outcome
Comes told (Some (Follow page id)) new outcome = FollowsReport (told page) id outcome
Comes told (Some (Draw page)) new outcome = Reports (told page) outcome

-- a text is a report of the page in a file, of all its bytes
pub record IsPageFileReport (told : Option (List ℕ)) (IsOf : List ℕ → List ℕ → Type 0) (text : List ℕ) : Type 0 where
  pub bytes : List ℕ
  pub read : WereRead told bytes
  pub whole : length bytes < MOST_READ
  pub is : IsOf bytes text

-- what a call that is Done wrote, by what was asked for: the summary of the page, or what the page tells of an id
abbrev pub IsToolText : ShelfTells → ToolRequest → List ℕ → Type 0
IsToolText told (Summary page) text = IsPageFileReport (told page) (λ bytes report. IsSummary bytes report) text
IsToolText told (Follow page id) text = IsPageFileReport (told page) (λ bytes report. IsFollowed bytes id report) text
IsToolText told _ text = Unit {0}

-- the sink took exactly what was to be written
abbrev pub ToolWrites : ShelfTells → Option ToolRequest → Option (List ℕ) → Option (List ℕ) → Type 0
ToolWrites told None old new = ⊥
ToolWrites told (Some asked) old new = (text : List ℕ) × IsToolText told asked text × Appends old new text
