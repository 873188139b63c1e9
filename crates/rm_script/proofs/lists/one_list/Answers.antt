use Rattle.std.proofs.Common.{map, sym, ◌∙◌}
use Rattle.rm_formats.specs.Wording.{listed}
use Rattle.rm_lines.specs.Results.{IsOf}
use Rattle.rm_lines.proofs.Parts.{first_same, stops}
use Rattle.rm_lines.proofs.Splits.{behind_same}
use Rattle.rm_script.specs.Pieces.{IsSomeList}
use Rattle.rm_script.proofs.Listing.{one_said}
use Rattle.rm_script.proofs.lists.one_list.Goals as goal

pub returns-in_err-items : goal.returns-in_err-items
returns-in_err-items g c =
    stops c.from_residual-in_err-items.result c.in_err-items.field-0.0 _ (IsOf (λ items. listed (map g.R.Reading.text items)) (IsSomeList g.R.Reading.is) c.in_ok-field.field-0.now)
    c.from_residual-in_err-items.ensures.1 c.in_err-items.ensures (λ items is.
    let said = one_said g.R.Reading.text g.R.Reading.is c.args.label.now c.args.words items (λ e. absurd (let none = sym c.in_ok-field.ensures.field ∙ e in cc)) is in
    (items, record { same = behind_same c.args.label.now c.in_ok-field.field-0.now (listed (map g.R.Reading.text items)) (first_same c.in_ok-field.ensures.field said.0); fits = said.1 }))
