use Rattle.std.proofs.Common.{◌≡◌, take}
use Rattle.rm_formats.specs.Page.{store_page}
use Rattle.rm_page.proofs.pages.store_page.Given as goal

abbrev pub invariant-ops : goal.invariant-ops
invariant-ops l = l.lines ≡ store_page (take l.op-index l.ops)
