use Rattle.std.proofs.Common.{sym, ap, ◌∙◌}
use Rattle.std.specs.Str.{bytes_eq}
use Rattle.rm_lines.proofs.Splits.{cut_some}
use Rattle.rm_page_reader.proofs.EntryLines.{served_found, lone_served, other_found}
use Rattle.rm_page_reader.proofs.entries.entry.Goals as goal

pub returns-in_err-word-clause-only : goal.returns-in_err-word-clause-only
returns-in_err-word-clause-only c = λ entry is e. absurd (cut_some 32 c.args.line.now (sym c.of-words.ensures ∙ c.in_err-word.ensures.none))

pub returns-in_err-rest-clause-only : goal.returns-in_err-rest-clause-only
returns-in_err-rest-clause-only c = λ entry is e.
    let first = sym c.of-words.ensures ∙ c.in_ok-word.ensures.word in
    let is_served = ap (bytes_eq c.in_ok-word.word.now) (sym c.as_bytes.ensures.value) ∙ sym c.if-eq.ensures in
    absurd (lone_served c.args.line.now c.in_ok-word.word.now c.word.new.self first is_served c.in_err-rest.ensures.none entry is e)

pub returns-in_ok-rest-clause-only : goal.returns-in_ok-rest-clause-only
returns-in_ok-rest-clause-only c =
    let first = sym c.of-words.ensures ∙ c.in_ok-word.ensures.word in
    let is_served = ap (bytes_eq c.in_ok-word.word.now) (sym c.as_bytes.ensures.value) ∙ sym c.if-eq.ensures in
    served_found c.args.line.now c.in_ok-word.word.now c.in_ok-rest.field-0.now c.word.new.self c.served.result first is_served c.in_ok-rest.ensures.rest c.served.ensures.only

pub returns-else-eq-clause-only : goal.returns-else-eq-clause-only
returns-else-eq-clause-only c =
    let first = sym c.of-words.ensures ∙ c.in_ok-word.ensures.word in
    let other = ap (bytes_eq c.in_ok-word.word.now) (sym c.as_bytes.ensures.value) ∙ sym c.if-eq.ensures in
    other_found c.args.line.now c.in_ok-word.word.now c.word.new.self c.plain.result first other c.plain.ensures
