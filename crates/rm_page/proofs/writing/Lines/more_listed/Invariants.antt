use Rattle.std.proofs.Common.{◌≡◌, ◌∷◌, ◌++◌, take}
use Rattle.std.specs.List.{flat_map}
use Rattle.rm_page.proofs.writing.Lines.more_listed.Given as goal

abbrev pub invariant-items : goal.invariant-items
invariant-items g l = l.self ≡ l.initial.self ++ flat_map (λ item. 44 ∷ g.W.Wording.text item) (take l.item-index l.items)
