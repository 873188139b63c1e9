use Rattle.std.proofs.Common.{[], ◌∙◌, fold, ap, arith}
use Rattle.std.proofs.lemmas.List.{take_all}
use Rattle.rm_tables.specs.SchedEvents.{is_released}
use Rattle.rm_tables.proofs.Once.{take_one, taken_once}
use Rattle.rm_sched.proofs.ending.released_of.Goals as goal

pub returns : goal.returns
returns c =
    c.list.invariant ∙ ap (fold (take_one (is_released c.args.attempt c.args.t.now)) []) (take_all c.list.id-index c.args.list.now (omega (arith, c.list-test.false)))
    ∙ taken_once (is_released c.args.attempt c.args.t.now) c.args.list.now
