use Rattle.std.proofs.Common.{Ok, sym, ap, ◌∙◌}
use Rattle.rm_formats.specs.ids.Fronts.{IsAttemptText}
use Rattle.rm_formats.proofs.ids.Apart.{attempts_apart}
use Rattle.rm_formats.proofs.ids.Refusals.{at_place}
use Rattle.rm_formats.proofs.ids.reading.read_attempt.Goals as goal

pub returns-in-Ok-clause-only : goal.returns-in-Ok-clause-only
returns-in-Ok-clause-only c = λ id is same. ap Ok (attempts_apart c.in-Ok.id id c.in-Ok.ensures.read.0 is (sym c.in-Ok.ensures.read.1 ∙ same))

pub returns-in-Err-clause-place : goal.returns-in-Err-clause-place
returns-in-Err-clause-place c = at_place IsAttemptText c.args.bytes.now c.in-Err.stop.left c.place_in.result c.in-Err.ensures.stop c.place_in.ensures
