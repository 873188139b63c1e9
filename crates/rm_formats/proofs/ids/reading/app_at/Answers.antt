use Rattle.std.proofs.Common.{◌∷◌, []}
use Rattle.rm_formats.specs.declared.ids.parts.Part.TheVariants.{Stamp, AppNumber}
use Rattle.rm_formats.specs.ids.Steps.{StopsSpelling}
use Rattle.rm_formats.specs.ids.Spelling.{app_parts}
use Rattle.rm_formats.proofs.ids.Passing.{passed_on}
use Rattle.rm_formats.proofs.ids.Refusals.{stops_then}
use Rattle.rm_formats.proofs.ids.reading.app_at.Goals as goal

pub returns-in_err-number-clause-stop : goal.returns-in_err-number-clause-stop
returns-in_err-number-clause-stop c =
    passed_on (λ stop. StopsSpelling app_parts c.args.bytes.now stop.left) c.in_err-number.field-0.0 c.from_residual-in_err-number.result c.from_residual-in_err-number.ensures.1
    (stops_then (Stamp ∷ []) (AppNumber ∷ []) c.args.bytes.now c.in_ok-stamp.rest.now c.in_err-number.field-0.0.left c.in_ok-stamp.ensures.passes c.in_err-number.ensures.stop)
