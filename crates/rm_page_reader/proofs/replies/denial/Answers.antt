use Rattle.std.proofs.Common.{List, ℕ, map, All, sym, ap, ◌∙◌}
use Rattle.std.proofs.lemmas.List.{map-id}
use Rattle.rm_types.specs.declared.texts.TextKind.TheVariants.{Queue}
use Rattle.rm_types.specs.Ranges.{IsText}
use Rattle.rm_formats.specs.Wording.{listed}
use Rattle.rm_lines.specs.Results.{IsOf}
use Rattle.rm_lines.proofs.Parts.{stops, first_same, left_same}
use Rattle.rm_page_reader.proofs.OpParts.{behind_first}
use Rattle.rm_page_reader.proofs.replies.denial.Goals as goal

pub returns-in_err-lists : goal.returns-in_err-lists
returns-in_err-lists c =
    stops c.from_residual-in_err-lists.result c.in_err-lists.field-0.0 _ (IsOf (λ (items : List (List ℕ)). listed (map (λ text. text) items)) (All (IsText Queue)) c.in_ok-word-4.field-0.now)
    c.from_residual-in_err-lists.ensures.1 c.in_err-lists.ensures (λ denial of.
    let behind_by = left_same c.in_ok-word-3.ensures.word (left_same c.in_ok-word-2.ensures.word (left_same c.in_ok-word.ensures.word (ap behind_first of.same))) in
    (denial.lists, record { same = first_same c.in_ok-word-4.ensures.word behind_by ∙ ap listed (sym (map-id denial.lists)); fits = of.fits.lists }))
