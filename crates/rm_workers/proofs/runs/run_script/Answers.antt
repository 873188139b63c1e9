use Rattle.std.proofs.Common.{◌∙◌}
use Rattle.rm_core.specs.Words.{new_manager}
use Rattle.rm_lives.proofs.Finishing.{has_run, is_whole}
use Rattle.rm_lives.proofs.Ordering.{none_split}
use Rattle.rm_workers.specs.AnyOrder.{any_order}
use Rattle.rm_workers.proofs.runs.run_script.Goals as goal

pub returns : goal.returns
returns g c =
    let made = c.all_lives-opening.result in
    let first = c.in-Ok.ensures in
    let all = c.all_lives-opening.ensures.all in
    let whole = is_whole any_order g.D.Disk.view made.opening c.args.script c.in-Ok.d made.desk c.args.disk made.disk made.ended all first.log (first.run made.opening) first.place (λ past e more is. absurd (none_split past e more is))
    c.all_lives-opening.ensures.read_back in
    rw c.into_log-log.ensures.log
    (record {
      ran = has_run any_order g.D.Disk.view made.opening c.args.script made.desk c.args.disk made.disk made.ended whole c.law.ensures.sound c.law.ensures.tells c.into_log-log.ensures.lawful (new_manager c.args.alloc c.args.settings) (all.goes.began ∙ first.began)
          c.args.settings (all.goes.settings ∙ first.settings);
    })
