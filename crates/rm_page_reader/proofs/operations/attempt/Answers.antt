use Rattle.std.proofs.Common.{◌∷◌, sym, ap, ◌∙◌}
use Rattle.rm_types.specs.Ranges.{IsAttemptId}
use Rattle.rm_formats.specs.IdTexts.{attempt_text}
use Rattle.rm_lines.proofs.Parts.{stops_word}
use Rattle.rm_page_reader.proofs.OpParts.{attempt_parts, same_attempt, other_master}
use Rattle.rm_page_reader.proofs.operations.attempt.Goals as goal

pub returns-in_err-id : goal.returns-in_err-id
returns-in_err-id c =
    stops_word c.from_residual-in_err-id.result c.in_err-id.field-0.0 _ attempt_text IsAttemptId c.args.words _ _ c.from_residual-in_err-id.ensures.1 c.in_ok-word.ensures.word c.in_err-id.ensures
    (λ op of. let parts = attempt_parts c.args.words op of in (parts.id, _, parts.same, parts.id_is))

pub returns-then-ne : goal.returns-then-ne
returns-then-ne c = λ op of.
    let first = c.in_ok-word.ensures.word ∙ ap (λ word. word ∷ c.word.new.self) c.in_ok-id.ensures.same in
    other_master c.args.words c.word.new.self c.field.new.self c.in_ok-id.id c.in_ok-master.master c.in_ok-field.field-0.now c.in_ok-id.ensures.fits first c.in_ok-field.ensures.field
    c.in_ok-master.ensures (λ e. same_attempt c.in_ok-master.master.attempt c.in_ok-id.id e (sym c.ne.ensures ∙ c.if-ne.true)) op of
