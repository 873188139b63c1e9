use Rattle.std.proofs.Common.{◌≡◌, ◌++◌, take}
use Rattle.std.specs.List.{flat_map}
use Rattle.rm_formats.specs.Page.{line_of}
use Rattle.rm_page.proofs.writing.Lines.entries.Given as goal

abbrev pub invariant-entries : goal.invariant-entries
invariant-entries l = l.self ≡ l.initial.self ++ flat_map line_of (take l.entry-index l.log)
