use Rattle.std.proofs.Common.{◌∷◌, []}
use Rattle.std.proofs.lemmas.Result.{IfOk-weaker, IfErr-weaker}
use Rattle.rm_formats.specs.ids.Steps.{Passes, StopsSpelling, NumberPasses, NumberStops}
use Rattle.rm_formats.proofs.ids.Passing.{passed_on}
use Rattle.rm_formats.proofs.ids.Refusals.{field_stops_before, field_stops, field_passes}
use Rattle.rm_formats.proofs.ids.steps.field_at.Goals as goal

pub returns-in_err-after_word-clause-stop : goal.returns-in_err-after_word-clause-stop
returns-in_err-after_word-clause-stop c =
    passed_on (λ stop. StopsSpelling (c.args.part ∷ []) c.args.bytes.now stop.left) c.in_err-after_word.field-0.0 c.from_residual.result c.from_residual.ensures.1
    (field_stops_before c.args.part c.args.bytes.now c.in_err-after_word.field-0.0.left c.in_err-after_word.ensures.stop)

pub returns-clause-stop : goal.returns-clause-stop
returns-clause-stop c =
    IfErr-weaker c.number_at.result (λ stop. NumberStops c.args.part c.in_ok-after_word.field-0.now stop.left) (λ stop. StopsSpelling (c.args.part ∷ []) c.args.bytes.now stop.left)
    (λ stop stops. field_stops c.args.part c.args.bytes.now c.in_ok-after_word.field-0.now stop.left c.in_ok-after_word.ensures.read stops) c.number_at.ensures.stop

pub returns-clause-passes : goal.returns-clause-passes
returns-clause-passes c =
    IfOk-weaker c.number_at.result (λ read. NumberPasses c.args.part c.in_ok-after_word.field-0.now read.1.now) (λ read. Passes (c.args.part ∷ []) c.args.bytes.now read.1.now)
    (λ read passes. field_passes c.args.part c.args.bytes.now c.in_ok-after_word.field-0.now read.1.now c.in_ok-after_word.ensures.read passes) c.number_at.ensures.passes
