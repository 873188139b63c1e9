use Rattle.std.proofs.Common.{◌≡◌, [], ◌∷◌, ◌++◌, map, Some, sym, ap, ◌∙◌}
use Rattle.rm_types.specs.declared.records.AttemptRecord.{AttemptRecord}
use Rattle.rm_types.specs.Records.{with_end}
use Rattle.rm_tree.proofs.Changes.{last_found, split_last, last_ended}
use Rattle.rm_tree.proofs.attempts.end_last_attempt.Goals as goal

the_same : {a b : AttemptRecord} → Some a ≡ Some b → a ≡ b
the_same e = cc

pub returns-clause-ok : goal.returns-clause-ok
returns-clause-ok c = λ from_one going_on.
    let found = last_found c.args.id c.args.app.now going_on in
    let s = split_last c.args.app.now.attempts found.last found.at in
    let new = c.set_last.ensures s.front found.last s.is in
    let value = rw c.in-Some.is at c.last_attempt.ensures in
    let numbered = rw s.is at from_one in
    let whole = last_ended c.args.app.now.id s.front found.last c.args.id c.args.how c.args.text.now numbered found.same in
    let one : Some c.in-Some.last.now ≡ Some found.last = value ∙ found.at in
    let last : c.in_ok-ended.ended ≡ found.last = c.in_ok-ended.ensures ∙ the_same one in
    let item : ◌≡◌ {A = AttemptRecord} (record c.in_ok-ended.ended { ending = Some (c.args.how, c.in_ok-copy.field-0) }) (record found.last { ending = Some (c.args.how, c.args.text.now) })
    = (λ i. record (last i) { ending = Some (c.args.how, c.in_ok-copy.ensures i) }) in
    let attempts = new ∙ ap (λ x. s.front ++ x ∷ []) item ∙ sym (ap (map (with_end c.args.id c.args.how c.args.text.now)) s.is ∙ whole) in
    ap (λ a. record c.args.app.now { attempts = a }) attempts
