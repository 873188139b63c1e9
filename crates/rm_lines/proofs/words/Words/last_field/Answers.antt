use Rattle.std.proofs.Common.{◌++◌, sym, ◌∙◌}
use Rattle.rm_lines.proofs.Parts.{err_any, err_as}
use Rattle.rm_lines.proofs.Splits.{cut_some, cut_same}
use Rattle.rm_lines.proofs.words.Words.last_field.Goals as goal

pub returns-in_err-rest-clause-none : goal.returns-in_err-rest-clause-none
returns-in_err-rest-clause-none c = err_any c.from_residual.result (λ text e. cut_some 32 (c.args.name.now ++ text) (sym e ∙ c.in_err-rest.ensures.none))

pub returns-clause-none : goal.returns-clause-none
returns-clause-none c = err_as c.text_behind.result (λ none text e. none text (cut_same 32 c.in_ok-rest.field-0.now (c.args.name.now ++ text) (sym c.in_ok-rest.ensures.rest ∙ e))) c.text_behind.ensures.none
