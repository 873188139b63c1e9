use Rattle.rm_book.proofs.Common.{◌∙◌, ap, on_ok_weaker, insert_entry, is_attempt}
use Rattle.rm_book.specs.AskLines.{lines_set}
use Rattle.rm_book.proofs.AskEntries.{last_entered}
use Rattle.rm_book.proofs.attempts.enter.Goals as goal

pub returns-clause-ok : goal.returns-clause-ok
returns-clause-ok c =
    let own = c.from_vec.ensures ∙ c.in_ok-set_line.ensures.ok ∙ ap (lines_set c.args.ask c.args.order) c.new-own.ensures.items in
    on_ok_weaker c.insert.result
    (λ h. h ∙ last_entered c.args.attempt c.from_vec.result c.args.lines.now c.requires ∙ ap (insert_entry is_attempt c.args.lines.now c.args.attempt) own)
    c.insert.ensures.ok
