use Rattle.rm_report.specs.Summaries.{head_text, lives_text, jobs_text, replies_text, grants_text, endings_text, store_text}
use Rattle.rm_report.proofs.Appended.{seven_appended}
use Rattle.rm_report.proofs.summaries.put_log.Goals as goal

pub returns : goal.returns
returns c =
    let entries = c.args.entries.now in
    seven_appended c.args.sheet.now c.put_head.new.sheet c.put_lives.new.sheet c.put_jobs.new.sheet c.put_replies.new.sheet c.put_grants.new.sheet c.put_endings.new.sheet c.put_store.new.sheet (head_text entries c.args.moves) (lives_text 0 entries)
    (jobs_text entries) (replies_text entries) (grants_text entries) (endings_text entries) (store_text entries) c.in_ok-put_head.ensures c.in_ok-put_lives.ensures c.in_ok-put_jobs.ensures c.in_ok-put_replies.ensures c.in_ok-put_grants.ensures
    c.in_ok-put_endings.ensures c.in_ok-put_store.ensures
