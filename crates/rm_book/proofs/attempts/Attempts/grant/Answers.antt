use Rattle.rm_book.proofs.Common.{◌∙◌, ap, sym, refl, list_any}
use Rattle.rm_book.specs.AskLines.{is_line_for, lines_granted}
use Rattle.rm_book.proofs.AskEntries.{granted_entries, kept_granted, kept_still, lines_are}
use Rattle.rm_book.proofs.attempts.Attempts.grant.Goals as goal

pub invariant_of-self : goal.invariant_of-self
invariant_of-self c =
    kept_granted c.args.attempt (lines_granted c.args.priority c.args.size) c.self.inside.lines c.grant_of-found.new.lines c.self.inside.waiting.keys c.swap_remove.new.self.keys c.self.invariant c.grant_of-found.ensures.lines
    (sym c.waits.ensures ∙ c.if-not-waits.true) c.swap_remove.ensures.updates.0

pub invariant_of-self-else-not-waits : goal.invariant_of-self-else-not-waits
invariant_of-self-else-not-waits c =
    kept_still c.args.attempt (lines_granted c.args.priority c.args.size) c.self.inside.lines c.grant_of-found.new.lines c.self.inside.waiting.keys refl c.self.invariant c.grant_of-found.ensures.lines
    (sym c.waits.ensures ∙ c.if-not-waits.false)

pub returns-then-not-waits-clause-found : goal.returns-then-not-waits-clause-found
returns-then-not-waits-clause-found c =
    rw (← c.self.view_is) (c.grant_of-found.ensures.found ∙ ap (list_any (is_line_for c.args.priority c.args.size)) (sym (lines_are c.args.attempt c.self.inside.lines)))

pub returns-then-not-waits-clause-entries : goal.returns-then-not-waits-clause-entries
returns-then-not-waits-clause-entries c =
    rw (← c.self.view_is) (granted_entries c.args.attempt (lines_granted c.args.priority c.args.size) c.self.inside.lines c.grant_of-found.new.lines c.grant_of-found.ensures.lines)

pub returns-else-not-waits-clause-found : goal.returns-else-not-waits-clause-found
returns-else-not-waits-clause-found c =
    rw (← c.self.view_is) (c.grant_of-found.ensures.found ∙ ap (list_any (is_line_for c.args.priority c.args.size)) (sym (lines_are c.args.attempt c.self.inside.lines)))

pub returns-else-not-waits-clause-entries : goal.returns-else-not-waits-clause-entries
returns-else-not-waits-clause-entries c =
    rw (← c.self.view_is) (granted_entries c.args.attempt (lines_granted c.args.priority c.args.size) c.self.inside.lines c.grant_of-found.new.lines c.grant_of-found.ensures.lines)
