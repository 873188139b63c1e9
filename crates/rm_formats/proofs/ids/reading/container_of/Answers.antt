use Rattle.std.proofs.Common.{◌++◌, ap, sym, ◌∙◌}
use Rattle.std.specs.Prelude.{codes}
use Rattle.rm_types.specs.declared.ids.ContainerId.{ContainerId}
use Rattle.rm_types.specs.Ranges.{IsContainerId}
use Rattle.rm_formats.specs.ids.Fronts.{IsContainerText}
use Rattle.rm_formats.specs.ids.Steps.{Refuses}
use Rattle.rm_formats.specs.ids.Spelling.{IsGrantText, epoch_then}
use Rattle.rm_formats.proofs.ids.Passing.{passed_on}
use Rattle.rm_formats.proofs.ids.Refusals.{behind_word, within_word}
use Rattle.rm_formats.proofs.ids.Texts.{container_refuses, container_spelled, grants_have_text}
use Rattle.rm_formats.proofs.ids.reading.container_of.Goals as goal

pub returns-in_err-rest-clause-stop : goal.returns-in_err-rest-clause-stop
returns-in_err-rest-clause-stop c =
    passed_on (λ stop. Refuses IsContainerText c.args.bytes.now stop.left) c.in_err-rest.field-0.0 c.from_residual.result c.from_residual.ensures.1
    (container_refuses c.args.bytes.now c.in_err-rest.field-0.0.left
    (within_word IsGrantText (codes "container") c.args.bytes.now c.in_err-rest.field-0.0.left grants_have_text c.in_err-rest.ensures.stop))

pub returns-in_err-epoch-clause-stop : goal.returns-in_err-epoch-clause-stop
returns-in_err-epoch-clause-stop c =
    passed_on (λ stop. Refuses IsContainerText c.args.bytes.now stop.left) c.in_err-epoch.field-0.0 c.from_residual-in_err-epoch.result c.from_residual-in_err-epoch.ensures.1
    (container_refuses c.args.bytes.now c.in_err-epoch.field-0.0.left
    (behind_word IsGrantText (codes "container") c.args.bytes.now c.in_ok-rest.rest.now c.in_err-epoch.field-0.0.left c.in_ok-rest.ensures.read c.in_err-epoch.ensures.stop))

pub returns-in_err-attempt-clause-stop : goal.returns-in_err-attempt-clause-stop
returns-in_err-attempt-clause-stop c =
    passed_on (λ stop. Refuses IsContainerText c.args.bytes.now stop.left) c.in_err-attempt.field-0.0 c.from_residual-in_err-attempt.result c.from_residual-in_err-attempt.ensures.1
    (container_refuses c.args.bytes.now c.in_err-attempt.field-0.0.left
    (behind_word IsGrantText (codes "container") c.args.bytes.now c.in_ok-rest.rest.now c.in_err-attempt.field-0.0.left c.in_ok-rest.ensures.read
    (c.in_ok-epoch.ensures.passes c.in_err-attempt.field-0.0.left c.in_err-attempt.ensures.stop)))

pub returns-clause-read : goal.returns-clause-read
returns-clause-read c =
    let id : ContainerId = record { attempt = c.in_ok-attempt.attempt; epoch = c.in_ok-epoch.epoch; seq = c.in_ok-attempt.seq } in
    let is : IsContainerId id = record { attempt = c.in_ok-attempt.ensures.attempt; epoch = c.in_ok-epoch.ensures.within; seq = c.in_ok-attempt.ensures.seq } in
    (is, c.in_ok-rest.ensures.read ∙ ap (λ t. codes "container" ++ t) (c.in_ok-epoch.ensures.read ∙ ap (epoch_then c.in_ok-epoch.epoch) c.in_ok-attempt.ensures.read) ∙ sym (container_spelled id is))
