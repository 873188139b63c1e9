use Rattle.std.proofs.Common.{◌∷◌, []}
use Rattle.rm_types.specs.declared.texts.TextKind.TheVariants.{Note}
use Rattle.rm_frame.specs.Fields.{TextOf, end_fields, how_field}
use Rattle.rm_frame.proofs.Faults.{stops_first, stops_then, passes_on}
use Rattle.rm_frame.proofs.fields.end_at.Goals as goal

pub returns-in_err-how-clause-bad : goal.returns-in_err-how-clause-bad
returns-in_err-how-clause-bad c =
    passes_on end_fields c.args.bytes.now c.in_err-how.field-0.0 c.from_residual.result c.from_residual.ensures.1
    (λ left is. stops_first (how_field ∷ []) (TextOf Note ∷ []) c.args.bytes.now left (c.in_err-how.ensures.bad left is))

pub returns-in_err-text-clause-bad : goal.returns-in_err-text-clause-bad
returns-in_err-text-clause-bad c =
    passes_on end_fields c.args.bytes.now c.in_err-text.field-0.0 c.from_residual-in_err-text.result c.from_residual-in_err-text.ensures.1
    (λ left is. stops_then (how_field ∷ []) (TextOf Note ∷ []) c.args.bytes.now _ c.in_ok-how.rest.now left c.in_ok-how.ensures.read
    (c.in_err-text.ensures.bad left is))
