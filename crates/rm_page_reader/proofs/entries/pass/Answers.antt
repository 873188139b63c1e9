use Rattle.std.proofs.Common.{List, ◌∷◌, ◌++◌, map, All, ap, ◌∙◌}
use Rattle.std.specs.Prelude.{codes}
use Rattle.rm_types.specs.Ranges.{IsContainerId}
use Rattle.rm_types.specs.declared.ids.ContainerId.{ContainerId}
use Rattle.rm_formats.specs.IdTexts.{container_text}
use Rattle.rm_formats.specs.Wording.{bracketed}
use Rattle.rm_lines.specs.Results.{IsOf}
use Rattle.rm_lines.proofs.Parts.{first_same, left_same, stops}
use Rattle.rm_lines.proofs.Splits.{behind_same}
use Rattle.rm_page_reader.proofs.EntryParts.{pass_is, pass_parts}
use Rattle.rm_page_reader.proofs.entries.pass.Goals as goal

pub returns-in_err-ids : goal.returns-in_err-ids
returns-in_err-ids c =
    stops c.from_residual-in_err-ids.result c.in_err-ids.field-0.0 _ (IsOf (λ (ids : List ContainerId). bracketed (map container_text ids)) (All IsContainerId) c.in_ok-field.field-0.now) c.from_residual-in_err-ids.ensures.1 c.in_err-ids.ensures
    (λ entry of.
    let parts = pass_parts c.args.words entry of in
    let word = first_same c.in_ok-field.ensures.field (left_same c.in_ok-word.ensures.word parts.same) in
    (parts.ids, record { same = behind_same (codes "grants=") c.in_ok-field.field-0.now (bracketed (map container_text parts.ids)) word; fits = parts.ids_are }))

pub returns : goal.returns
returns c =
    let first = c.in_ok-word.ensures.word ∙ ap (λ word. word ∷ c.word.new.self) c.in_ok-node.ensures.same in
    let second = c.in_ok-field.ensures.field ∙ ap (λ text. (codes "grants=" ++ text) ∷ c.field.new.self) c.in_ok-ids.ensures.same in
    pass_is c.args.words c.word.new.self c.field.new.self c.in_ok-node.node c.in_ok-ids.ids c.in_ok-grants.grants c.in_ok-pass_of.field-0 first second c.in_ok-end.ensures.end
    c.in_ok-node.ensures.fits c.in_ok-grants.ensures.0 c.in_ok-grants.ensures.1 c.in_ok-pass_of.ensures
