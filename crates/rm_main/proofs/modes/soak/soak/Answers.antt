use Rattle.rm_main.specs.Made.{made_by}
use Rattle.rm_main.proofs.Endings.{soak_ends, soak_ran}
use Rattle.rm_main.proofs.modes.soak.soak.Goals as goal

pub returns-in-Ok-clause-ends : goal.returns-in-Ok-clause-ends
returns-in-Ok-clause-ends g c =
    let inputs = c.in-Ok.inputs in
    let of = c.in-Ok.ensures in
    let run = c.run in
    let made = made_by c.args.disk run.result in
    soak_ends g.D.Disk.view c.args.number made run.result.outcome run.ensures.of_run
    (soak_ran g.D.Disk.view c.args.alloc inputs.settings inputs.script inputs.schedule.items c.args.number made run.result.outcome of.settings of.script of.schedule run.ensures.ran)
