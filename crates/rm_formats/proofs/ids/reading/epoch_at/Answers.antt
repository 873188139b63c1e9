use Rattle.rm_formats.specs.ids.Steps.{Refuses}
use Rattle.rm_formats.specs.ids.Spelling.{grant_parts, IsGrantText}
use Rattle.rm_formats.proofs.ids.Passing.{passed_on}
use Rattle.rm_formats.proofs.ids.Texts.{shown_refuses, hidden_refuses}
use Rattle.rm_formats.proofs.ids.reading.epoch_at.Goals as goal

pub returns-in_err-epoch-clause-stop : goal.returns-in_err-epoch-clause-stop
returns-in_err-epoch-clause-stop c =
    passed_on (λ stop. Refuses IsGrantText c.args.bytes.now stop.left) c.in_err-epoch.field-0.0 c.from_residual.result c.from_residual.ensures.1
    (shown_refuses c.args.bytes.now c.in-Ok.rest.now c.in_err-epoch.field-0.0.left c.in-Ok.ensures.read (c.in_err-epoch.ensures.stop grant_parts))

pub returns-in_default-clause-passes : goal.returns-in_default-clause-passes
returns-in_default-clause-passes c = λ left refuses. hidden_refuses c.args.bytes.now c.in_default.field-0.left left c.in_default.ensures.stop refuses

pub returns-clause-passes : goal.returns-clause-passes
returns-clause-passes c = λ left refuses.
    shown_refuses c.args.bytes.now c.in-Ok.rest.now left c.in-Ok.ensures.read (c.in_ok-epoch.ensures.passes grant_parts left refuses)
