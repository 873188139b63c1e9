use Rattle.rm_lines.proofs.Ends.{last_found, last_not_found}
use Rattle.rm_lines.proofs.words.Words.last_text.Goals as goal

pub returns : goal.returns
returns c = last_found (λ t. t) _ c.args.name.now c.in_ok-last_field.field-0.now c.args.self.now c.text.result c.in_ok-last_field.ensures.field c.text.ensures

pub returns-in_err-last_field : goal.returns-in_err-last_field
returns-in_err-last_field c = last_not_found (λ t. t) _ c.args.name.now c.args.self.now c.from_residual.result c.in_err-last_field.field-0.0 c.from_residual.ensures.1 c.in_err-last_field.ensures.none
