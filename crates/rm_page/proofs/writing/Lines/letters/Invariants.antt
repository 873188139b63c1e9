use Rattle.std.proofs.Common.{◌≡◌, ◌++◌, take}
use Rattle.rm_formats.specs.Page.{letters}
use Rattle.rm_page.proofs.writing.Lines.letters.Given as goal

abbrev pub invariant-letters : goal.invariant-letters
invariant-letters l = l.self ≡ l.initial.self ++ letters (take l.entry-index l.log)
