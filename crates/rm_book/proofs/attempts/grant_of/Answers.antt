use Rattle.rm_book.proofs.Common.{rules, refl, ◌∙◌, list_any}
use Rattle.rm_book.specs.AskLines.{is_line_for, lines_granted}
use Rattle.rm_book.proofs.AskEntries.{answered_by, changed_by}
use Rattle.rm_book.proofs.attempts.grant_of.Goals as goal

pub returns-clause-found : goal.returns-clause-found
returns-clause-found c =
    c.unwrap_or.ensures
    ∙ answered_by c.args.attempt (lines_granted c.args.priority c.args.size) c.args.lines.now c.update-found.new.self (list_any (is_line_for c.args.priority c.args.size)) c.update-found.result _
    c.update-found.ensures.there c.update-found.ensures.some (λ own x done p. search rules) refl

pub returns-clause-lines : goal.returns-clause-lines
returns-clause-lines c =
    changed_by c.args.attempt (lines_granted c.args.priority c.args.size) c.args.lines.now c.update-found.new.self c.update-found.result _
    c.update-found.ensures.there c.update-found.ensures.some c.update-found.ensures.none (λ own x done p. search rules)
