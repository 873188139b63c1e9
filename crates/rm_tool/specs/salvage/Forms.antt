-- The form of a store, by its bytes: one journal over all of them, as this program wrote before there were areas, or two areas, of which the live one
-- of the greatest generation is read. This project's own.
use Rattle.std.specs.Prelude.{◌≡◌, ◌<◌, ◌≤◌, ℕ, nat_lt, Bool, true, false, not, if◌then◌else◌, List, [], ◌∷◌, ◌++◌, Option, None, Some}
use Rattle.rm_types.specs.declared.operations.Op.{Op}
use Rattle.rm_formats.specs.Device.{IsPayload, journal_record}
use Rattle.rm_journal.specs.two_areas.Areas.{HasGeneration, area_from, area_of, head_of}
use Rattle.rm_store.specs.Content.{IsFrameOf, half_of}
use Rattle.rm_tool.specs.declared.salvage.forms.Form.{Form}
use Rattle.rm_tool.specs.declared.salvage.forms.Form.TheVariants.{OneJournal, TwoAreas, NoArea}

-- bytes begin with a record whose payload this is, and a next gate
pub record HasFirst (bytes payload : List ℕ) : Type 0 where
  pub small : IsPayload payload
  pub next : ℕ
  pub rest : List ℕ
  pub is : bytes ≡ journal_record payload ++ next ∷ rest

-- bytes begin with the record of an operation, as a journal that isn't empty does and no area
pub record HasFirstFrame (bytes : List ℕ) : Type 0 where
  pub payload : List ℕ
  pub op : Op
  pub first : HasFirst bytes payload
  pub framed : IsFrameOf payload op

-- of an area's generation and the other one's, where each has one, this area's is the greater; of two with one generation the first area is read
abbrev pub IsAhead : Bool → ℕ → ℕ → Type 0
IsAhead false generation other = other ≤ generation
IsAhead true generation other = other < generation

-- bytes are of a form
abbrev pub IsForm : List ℕ → Form → Type 0
IsForm bytes OneJournal = HasFirstFrame bytes
IsForm bytes (TwoAreas second generation) =
    (HasFirstFrame bytes → ⊥) × HasGeneration (area_of (half_of bytes) second bytes) generation
    × ((other : ℕ) → HasGeneration (area_of (half_of bytes) (not second) bytes) other → IsAhead second generation other)
IsForm bytes NoArea = (HasFirstFrame bytes → ⊥) × ((second : Bool) (generation : ℕ) → HasGeneration (area_of (half_of bytes) second bytes) generation → ⊥)

-- the form of two areas with these generations, where they have one
abbrev pub form_by : Option ℕ → Option ℕ → Form
form_by (Some first) (Some second) = if nat_lt first second then TwoAreas true second else TwoAreas false first
form_by (Some first) None = TwoAreas false first
form_by None (Some second) = TwoAreas true second
form_by None None = NoArea

-- the bytes in which the operations of a form stand
abbrev pub part_of : Form → List ℕ → List ℕ
part_of OneJournal bytes = bytes
part_of (TwoAreas second generation) bytes = area_of (half_of bytes) second bytes
part_of NoArea bytes = []

-- where that part begins
abbrev pub start_of : Form → List ℕ → ℕ
start_of OneJournal bytes = 0
start_of (TwoAreas second generation) bytes = area_from (half_of bytes) second
start_of NoArea bytes = 0

-- the payloads that stand before those of operations there: an area's generation
abbrev pub heads_of : Form → List (List ℕ)
heads_of OneJournal = []
heads_of (TwoAreas second generation) = head_of generation
heads_of NoArea = []
