use Rattle.rm_book.proofs.Common.{◌∙◌, ap, sym, subst, List, AskLine}
use Rattle.rm_book.specs.AskEntries.{AreKept, entries_in, lines_at}
use Rattle.rm_book.specs.AskLines.{lines_set, with_lines}
use Rattle.rm_book.proofs.AskEntries.{entered, kept_entered, lines_are}
use Rattle.rm_book.proofs.attempts.Attempts.set.Goals as goal

pub invariant_of-self-2 : goal.invariant_of-self-2
invariant_of-self-2 c =
    let kept = subst (AreKept c.self.inside.lines) (sym c.reserve.ensures.keys) c.self.invariant in
    kept_entered c.args.attempt (lines_set c.args.ask c.args.order (lines_at c.self.inside.lines c.args.attempt)) c.self.inside.lines c.set_of.new.lines c.reserve.new.self.keys c.mark.new.waiting.keys kept
    c.in_ok-set_of.ensures.ok c.mark.ensures

pub returns-clause-ok : goal.returns-clause-ok
returns-clause-ok c =
    rw (← c.self.view_is)
    (ap entries_in c.in_ok-set_of.ensures.ok
    ∙ entered c.args.attempt (lines_set c.args.ask c.args.order (lines_at c.self.inside.lines c.args.attempt)) c.self.inside.lines
    ∙ ap (λ (lines : List AskLine). with_lines c.args.attempt (lines_set c.args.ask c.args.order lines) (entries_in c.self.inside.lines)) (sym (lines_are c.args.attempt c.self.inside.lines)))
