-- What is written of a run.
use Rattle.std.specs.Prelude.{ℕ, List}
use Rattle.rm_types.specs.declared.entries.Entry.{Entry}
use Rattle.rm_formats.specs.Page.{page}
use Rattle.rm_soak.specs.Lines.{soak_page}
use Rattle.rm_main.specs.declared.writing.Shown.{Shown}
use Rattle.rm_main.specs.declared.writing.Shown.TheVariants.{Page, Line}

-- the page of its log, with the moves or without, or the line of a soak
abbrev pub shown_in : Shown → List Entry → List ℕ
shown_in (Page moves) log = page log moves
shown_in (Line number) log = soak_page number log
