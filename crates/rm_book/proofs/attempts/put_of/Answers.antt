use Rattle.rm_book.proofs.Common.{◌≡◌, Bool, true, cond, is_some, rules, ap, sym, ◌∙◌, lookup, on_ok_weaker, insert_entry, is_attempt}
use Rattle.rm_book.proofs.AskEntries.{changed_by, last_entered, lent, nothing}
use Rattle.rm_book.proofs.attempts.put_of.Goals as goal

pub returns-then-is_none-clause-ok : goal.returns-then-is_none-clause-ok
returns-then-is_none-clause-ok c =
    let none = nothing _ (sym (ap is_some c.get.ensures.value) ∙ lent c.get.result ∙ c.if-is_none.ensures) in
    on_ok_weaker c.insert.result (λ h. h ∙ last_entered c.args.attempt c.args.own c.args.lines.now none) c.insert.ensures.ok

pub returns-clause-ok : goal.returns-clause-ok
returns-clause-ok c =
    let there : is_some (lookup (is_attempt c.args.attempt) c.args.lines.now) ≡ true = sym (ap is_some c.get.ensures.value) ∙ lent c.get.result ∙ c.if-is_none.ensures in
    changed_by c.args.attempt (λ own. c.args.own) c.args.lines.now c.update.new.self c.update.result _
    c.update.ensures.there c.update.ensures.some c.update.ensures.none (λ own x done p. search rules)
    ∙ ap (λ (b : Bool). cond b (insert_entry is_attempt c.args.lines.now c.args.attempt c.args.own) c.args.lines.now) there
