-- The modes: how a call in each ends, which files it reads and what it has to write, a line for each mode in each definition. This project's own.
pub mod RunClause
pub mod RunReads
pub mod SoakClause
pub mod ListingClause
use Rattle.std.specs.Prelude.{◌≡◌, ℕ, List, [], Bool, Option, None, Some}
use Rattle.rm_types.specs.declared.entries.Entry.{Entry}
use Rattle.rm_types.specs.declared.operations.Op.{Op}
use Rattle.rm_types.specs.declared.outcomes.Outcome.{Outcome}
use Rattle.rm_types.specs.declared.outcomes.Outcome.TheVariants.{Usage, Memory}
use Rattle.rm_disk.specs.Disk.{DiskView}
use Rattle.rm_formats.specs.Page.{page, store_page}
use Rattle.rm_outside.specs.Shelves.{ShelfTells}
use Rattle.rm_soak.specs.Lines.{soak_page}
use Rattle.rm_main.specs.Made.{Made}
use Rattle.rm_main.specs.Runs.{RanNothing}
use Rattle.rm_main.specs.modes.ListingClause.{ListingEnds}
use Rattle.rm_main.specs.modes.RunClause.{RunEnds}
use Rattle.rm_main.specs.modes.RunReads.{ReadsBy}
use Rattle.rm_main.specs.modes.SoakClause.{SoakEnds}
use Rattle.rm_words.specs.Words.{Asked, Run, Listing, Soak}

-- how a call ends whose words ask for nothing, by its outcome; no other outcome comes: it does nothing
abbrev pub NothingEnds : {D : Type 0} → Made D → Outcome → Type 0
NothingEnds made Usage = RanNothing made
NothingEnds made Memory = RanNothing made
NothingEnds made _ = ⊥

-- how a call ends, by what was asked for
abbrev pub CallEnds : {D : Type 0} → (D → DiskView) → ShelfTells → Option Asked → Made D → Outcome → Type 0
CallEnds view told None made outcome = NothingEnds made outcome
CallEnds view told (Some (Run cluster script schedule mover)) made outcome = RunEnds view told cluster script schedule mover made outcome
CallEnds view told (Some (Soak number)) made outcome = SoakEnds view number made outcome
CallEnds view told (Some Listing) made outcome = ListingEnds view made outcome

-- which files were read, by what was asked for: those of a run, and else none
abbrev pub ReadsFor : {F : Type 0} → (List ℕ → F → F → Type 0) → ShelfTells → Option Asked → Outcome → F → F → Type 0
ReadsFor reads told None outcome old new = new ≡ old
ReadsFor reads told (Some (Run cluster script schedule mover)) outcome old new = ReadsBy reads told cluster script schedule outcome old new
ReadsFor reads told (Some (Soak number)) outcome old new = new ≡ old
ReadsFor reads told (Some Listing) outcome old new = new ≡ old

-- what a call has to write, by what was asked for: the page of a run's log, with the moves or without; the line of a soak; what the store keeps; and else nothing
abbrev pub page_for : Bool → Option Asked → List Op → List Entry → List ℕ
page_for moves None opening log = []
page_for moves (Some (Run cluster script schedule mover)) opening log = page log moves
page_for moves (Some (Soak number)) opening log = soak_page number log
page_for moves (Some Listing) opening log = store_page opening
