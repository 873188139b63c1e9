use Rattle.rm_formats.specs.Page.{page}
use Rattle.rm_workers.specs.AnyOrder.{any_order}
use Rattle.rm_main.specs.Made.{Made}
use Rattle.rm_main.proofs.Outcomes.{still_page}
use Rattle.rm_main.proofs.Runs.{leaves_device, ran_by}
use Rattle.rm_main.proofs.modes.workers.run_by_workers.Goals as goal

pub returns-clause-ran : goal.returns-clause-ran
returns-clause-ran g c =
    let result = c.run_script-made.result in
    let made : Made _ = record { opening = result.opening; log = result.log; before = c.args.disk; after = result.disk } in
    rw c.outcome_of.ensures
    (ran_by g.D.Disk.view any_order c.args.alloc c.args.inputs.settings c.args.inputs.script made result.ended c.run_script-made.ensures.ran c.write_shown-written.result c.write_shown-written.ensures.of_writing)

pub returns-clause-writes : goal.returns-clause-writes
returns-clause-writes g c =
    let result = c.run_script-made.result in
    let written = c.write_shown-written in
    rw c.outcome_of.ensures
    (still_page g.K.Sink.taken g.K.Sink.faults g.K.Sink.idle c.args.sink.now written.new.sink (page result.log c.args.moves) result.ended written.result written.ensures.of_writing
    (record { writes = written.ensures.writes; write_fault = written.ensures.write_fault; took_nothing = written.ensures.took_nothing; quiet = written.ensures.quiet; untouched = written.ensures.untouched }))

pub returns-clause-device : goal.returns-clause-device
returns-clause-device g c =
    let result = c.run_script-made.result in
    let made : Made _ = record { opening = result.opening; log = result.log; before = c.args.disk; after = result.disk } in
    leaves_device g.D.Disk.view any_order c.args.alloc c.args.inputs.settings c.args.inputs.script made result.ended c.run_script-made.ensures.ran
