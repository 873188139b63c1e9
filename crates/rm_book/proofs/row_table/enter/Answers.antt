use Rattle.rm_book.proofs.Common.{and_parts, same_attempt, is_attempt, is_granted}
use Rattle.rm_book.specs.Granted.{is_untold_to_attempt}
use Rattle.rm_book.proofs.Kept.{added_undone, none_under}
use Rattle.rm_book.proofs.row_table.enter.Goals as goal

pub returns-then-is_err-clause-same_untold : goal.returns-then-is_err-clause-same_untold
returns-then-is_err-clause-same_untold c =
    let id = c.args.row.id in
    let untold = c.args.untold.now.map.entries in
    added_undone is_attempt (is_untold_to_attempt id c.args.row.state) id untold c.join_untold.new.untold.map.entries c.leave_untold.new.untold.map.entries
    (λ attempt to. none_under is_attempt same_attempt id.attempt id untold c.requires.new attempt (and_parts (is_attempt id.attempt attempt) (is_granted c.args.row.state) to).0)
    c.in_ok-join_untold.ensures.ok c.leave_untold.ensures
