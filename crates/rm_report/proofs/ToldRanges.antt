-- What a page tells is in the ranges of its entries.
use Rattle.std.proofs.Common.{ℕ, List, [], All, not, subst, sym}
use Rattle.std.proofs.lemmas.List.Elements.{All-filter, All-from_recursion}
use Rattle.rm_page.specs.Ranges.{IsEntry}
use Rattle.rm_page.specs.Shown.{is_silent}
use Rattle.rm_page_reader.specs.declared.pages.Page.{Page}
use Rattle.rm_page_reader.specs.declared.pages.Page.TheVariants.{Log, Soak}
use Rattle.rm_page_reader.specs.Told.{Tells, entries_of}

pub told_ranges : (bytes : List ℕ) (page : Page) → Tells bytes page → All IsEntry (entries_of page)
told_ranges bytes (Log entries moves) is = subst (All IsEntry) (sym is.lines) (All-filter (λ entry. not (is_silent entry)) IsEntry is.log is.ranges)
told_ranges bytes (Soak soak) is = All-from_recursion IsEntry [] tt
