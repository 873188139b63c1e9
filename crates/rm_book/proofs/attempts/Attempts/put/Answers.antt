use Rattle.rm_book.proofs.Common.{◌∙◌, ap, sym, subst}
use Rattle.rm_book.specs.AskEntries.{AreKept, entries_in}
use Rattle.rm_book.proofs.AskEntries.{entered, kept_entered}
use Rattle.rm_book.proofs.attempts.Attempts.put.Goals as goal

pub invariant_of-self-2 : goal.invariant_of-self-2
invariant_of-self-2 c =
    let kept = subst (AreKept c.self.inside.lines) (sym c.reserve.ensures.keys) c.self.invariant in
    kept_entered c.args.attempt c.args.lines c.self.inside.lines c.put_of.new.lines c.reserve.new.self.keys c.mark.new.waiting.keys kept c.in_ok-put_of.ensures.ok c.mark.ensures

pub returns-clause-ok : goal.returns-clause-ok
returns-clause-ok c = rw (← c.self.view_is) (ap entries_in c.in_ok-put_of.ensures.ok ∙ entered c.args.attempt c.args.lines c.self.inside.lines)
