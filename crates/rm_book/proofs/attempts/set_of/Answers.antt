use Rattle.rm_book.proofs.Common.{rules}
use Rattle.rm_book.specs.AskLines.{lines_set}
use Rattle.rm_book.proofs.AskEntries.{set_tried}
use Rattle.rm_book.proofs.attempts.set_of.Goals as goal

pub returns-in-Some-clause-ok : goal.returns-in-Some-clause-ok
returns-in-Some-clause-ok c =
    (set_tried c.args.attempt (lines_set c.args.ask c.args.order) c.args.lines.now c.update-set.new.self c.update-set.result c.in-Some.set _ c.in-Some.is c.update-set.ensures.there c.update-set.ensures.some (λ own x done p. search rules)).0

pub returns-in-Some-clause-err : goal.returns-in-Some-clause-err
returns-in-Some-clause-err c =
    (set_tried c.args.attempt (lines_set c.args.ask c.args.order) c.args.lines.now c.update-set.new.self c.update-set.result c.in-Some.set _ c.in-Some.is c.update-set.ensures.there c.update-set.ensures.some (λ own x done p. search rules)).1
