use Rattle.std.specs.Prelude.{◌≡◌, List, Bool, All, length}
use Rattle.rm_types.specs.declared.entries.Entry.{Entry}
use Rattle.rm_formats.specs.Page.{page}
use Rattle.rm_page_reader.specs.Answers.{IsToldEntry}
use Rattle.rm_page_reader.specs.Told.{IsManagerEntry}
use Rattle.rm_page_reader.proofs.Paging.{IsLeft}
use Rattle.rm_page_reader.proofs.pages.read_lines.Given as goal

-- of whichever log the bytes are the page, the first lines were read, and the others are left
abbrev pub invariant-lines : goal.invariant-lines
invariant-lines l = record {
  told : All IsToldEntry l.heard;
  only : (log : List Entry) (moves : Bool) → All IsManagerEntry log → l.bytes ≡ page log moves → IsLeft log moves l.heard l.rest;
}

abbrev pub decreases-lines : goal.decreases-lines
decreases-lines l = length l.rest
