use Rattle.std.specs.Option.{option_copied}
use Rattle.rm_words.specs.Words.{Workers}
use Rattle.rm_main.specs.Made.{made_by}
use Rattle.rm_main.proofs.Endings.{run_ends}
use Rattle.rm_main.proofs.FilesRead.{of_run}
use Rattle.rm_main.proofs.modes.workers.run_files_by_workers.Goals as goal

pub returns-in-Ok-clause-ends : goal.returns-in-Ok-clause-ends
returns-in-Ok-clause-ends g c =
    let files = c.args.files in
    let inputs = c.in-Ok.inputs in
    let read = c.in-Ok.ensures in
    let run = c.run_by_workers in
    run_ends g.D.Disk.view (g.F.Shelf.bytes_of c.args.shelf.now) files.cluster.now files.script.now (option_copied files.schedule) Workers (made_by c.args.disk run.result) run.result.outcome run.ensures.of_run
    (record {
      settings = inputs.settings;
      of_cluster = read.settings;
      script = inputs.script;
      of_script = read.script;
      schedule = inputs.schedule.items;
      of_schedule = read.schedule;
      alloc = c.args.alloc;
      ran = run.ensures.ran;
    })

pub returns-in-Ok-clause-reads : goal.returns-in-Ok-clause-reads
returns-in-Ok-clause-reads g c = of_run g.F.Shelf.reads (g.F.Shelf.bytes_of c.args.shelf.now) _ _ _ _ _ c.run_by_workers.result.outcome c.run_by_workers.ensures.of_run c.in-Ok.ensures.reads
