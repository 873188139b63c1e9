use Rattle.std.proofs.Common.{arith, inl}
use Rattle.rm_formats.proofs.ids.Refusals.{split_digits, number_stops, number_reads, number_passes}
use Rattle.rm_formats.proofs.ids.steps.number_at.Goals as goal

pub returns-then-digits-least_digits-clause-stop : goal.returns-then-digits-least_digits-clause-stop
returns-then-digits-least_digits-clause-stop c =
    number_stops c.args.part c.args.bytes.now c.split_at.result.0.now c.split_at.result.1.now c.longest_front-number.result.1 c.longest_front-number.result.0
    (split_digits c.args.part c.args.bytes.now c.split_at.result.0.now c.split_at.result.1.now c.longest_front-number.result.1 c.longest_front-number.result.0
    c.longest_front-number.ensures.within c.split_at.ensures.front c.split_at.ensures.back c.longest_front-number.ensures.begin c.longest_front-number.ensures.number c.longest_front-number.ensures.longest) (inl (omega arith))

pub returns-else-digits-least_digits-clause-read : goal.returns-else-digits-least_digits-clause-read
returns-else-digits-least_digits-clause-read c =
    (number_reads c.args.part c.args.bytes.now c.split_at.result.0.now c.split_at.result.1.now c.longest_front-number.result.1 c.longest_front-number.result.0
    (split_digits c.args.part c.args.bytes.now c.split_at.result.0.now c.split_at.result.1.now c.longest_front-number.result.1 c.longest_front-number.result.0
    c.longest_front-number.ensures.within c.split_at.ensures.front c.split_at.ensures.back c.longest_front-number.ensures.begin c.longest_front-number.ensures.number c.longest_front-number.ensures.longest) (omega arith)).same

pub returns-else-digits-least_digits-clause-passes : goal.returns-else-digits-least_digits-clause-passes
returns-else-digits-least_digits-clause-passes c =
    number_passes c.args.part c.args.bytes.now c.split_at.result.0.now c.split_at.result.1.now c.longest_front-number.result.1 c.longest_front-number.result.0
    (split_digits c.args.part c.args.bytes.now c.split_at.result.0.now c.split_at.result.1.now c.longest_front-number.result.1 c.longest_front-number.result.0
    c.longest_front-number.ensures.within c.split_at.ensures.front c.split_at.ensures.back c.longest_front-number.ensures.begin c.longest_front-number.ensures.number c.longest_front-number.ensures.longest) (omega arith)
