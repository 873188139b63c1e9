use Rattle.std.proofs.Common.{◌≡◌, ◌++◌, List, subst}
use Rattle.std.specs.Prelude.{OnOk}
use Rattle.rm_types.specs.declared.entries.Entry.{Entry}
use Rattle.rm_report.specs.Summaries.{log_text}
use Rattle.rm_report.proofs.summaries.put_summary.Goals as goal

pub returns-in-Log : goal.returns-in-Log
returns-in-Log c = rw c.in-Log.is (subst (λ (entries : List Entry). OnOk c.put_log.result (c.put_log.new.sheet ≡ c.args.sheet.now ++ log_text entries c.in-Log.moves)) c.as_slice.ensures c.put_log.ensures)
