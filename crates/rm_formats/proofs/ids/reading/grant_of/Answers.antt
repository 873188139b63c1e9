use Rattle.std.proofs.Common.{[], ◌∷◌}
use Rattle.rm_formats.specs.declared.ids.parts.Part.TheVariants.{AttemptInContainer, Sequence}
use Rattle.rm_formats.specs.ids.Steps.{AreFields, Refuses}
use Rattle.rm_formats.specs.ids.Spelling.{grant_parts}
use Rattle.rm_formats.proofs.ids.Passing.{passed_on}
use Rattle.rm_formats.proofs.ids.reading.grant_of.Goals as goal

pub returns-in_err-seq-clause-stop : goal.returns-in_err-seq-clause-stop
returns-in_err-seq-clause-stop c =
    passed_on (λ stop. Refuses (AreFields grant_parts) c.args.bytes.now stop.left) c.in_err-seq.field-0.0 c.from_residual-in_err-seq.result c.from_residual-in_err-seq.ensures.1
    (c.in_ok-app.ensures.passes (AttemptInContainer ∷ Sequence ∷ []) c.in_err-seq.field-0.0.left
    (c.in_ok-number.ensures.passes (Sequence ∷ []) c.in_err-seq.field-0.0.left (c.in_err-seq.ensures.stop [])))
