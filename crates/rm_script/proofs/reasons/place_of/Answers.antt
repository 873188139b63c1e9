use Rattle.std.proofs.Common.{◌≡◌, ℕ, ◌+◌, ◌-◌, ◌<◌, List, ◌∷◌, length, drop, sym, subst, ◌∙◌, arith}
use Rattle.std.proofs.lemmas.Bool.{eqb-true, eqb-false}
use Rattle.std.proofs.lemmas.List.{nil_from_length}
use Rattle.rm_lines.specs.Lines.{lines_of, size_of_first}
use Rattle.rm_script.proofs.Broken.{line_found, line_past, passed_all}
use Rattle.rm_script.proofs.Loop.{next_line, cut_on}
use Rattle.rm_script.proofs.reasons.place_of.Goals as goal

pub returns-then-is_empty-clause-text : goal.returns-then-is_empty-clause-text
returns-then-is_empty-clause-text c =
    let none = nil_from_length c.lines.rest.now (eqb-true _ _ (sym c.is_empty.ensures ∙ c.if-is_empty.true)) in
    let all = passed_all c.lines.passed c.args.bytes.now c.lines.rest.now c.lines.invariant none in
    sym (line_past c.args.line c.args.bytes.now (omega (arith, all)))

pub lines-preserved : goal.lines-preserved
lines-preserved c =
    let apart = eqb-false _ _ (sym c.is_empty.ensures ∙ c.if-is_empty.false) in
    let rest : List ℕ = c.lines.rest.now in
    let some : 0 < length rest = omega (arith, apart) in
    cut_on c.lines.passed c.args.bytes.now c.cut_line.result.0.now c.cut_line.result.1.now
    (next_line c.lines.passed c.args.bytes.now rest c.cut_line.result.0.now c.cut_line.result.1.now c.lines.invariant some (c.cut_line.ensures.lines some) c.cut_line.ensures.sizes)

pub returns-then-is_empty-2-clause-text : goal.returns-then-is_empty-2-clause-text
returns-then-is_empty-2-clause-text c =
    let none = nil_from_length c.lines.rest.now (eqb-true _ _ (sym c.is_empty-2.ensures ∙ c.if-is_empty-2.true)) in
    let all = passed_all c.lines.passed c.args.bytes.now c.lines.rest.now c.lines.invariant none in
    sym (line_past c.args.line c.args.bytes.now (omega (arith, all)))

pub returns-clause-text : goal.returns-clause-text
returns-clause-text c =
    let apart = eqb-false _ _ (sym c.is_empty-2.ensures ∙ c.if-is_empty-2.false) in
    let some : 0 < length c.lines.rest.now = omega (arith, apart) in
    let text : List ℕ = c.cut_line-2.result.0.now in
    let after : List ℕ = c.cut_line-2.result.1.now in
    let behind : drop c.lines.passed (lines_of c.args.bytes.now) ≡ text ∷ lines_of after = sym c.lines.invariant.left ∙ c.cut_line-2.ensures.lines some in
    sym (line_found c.args.line c.lines.passed c.args.bytes.now text (lines_of after) (omega arith) (omega arith) behind)

pub returns-clause-size : goal.returns-clause-size
returns-clause-size c =
    let apart = eqb-false _ _ (sym c.is_empty-2.ensures ∙ c.if-is_empty-2.false) in
    let rest : List ℕ = c.lines.rest.now in
    let some : 0 < length rest = omega (arith, apart) in
    let bytes : List ℕ = c.args.bytes.now in
    let text : List ℕ = c.cut_line-2.result.0.now in
    let after : List ℕ = c.cut_line-2.result.1.now in
    let next = next_line c.lines.passed bytes rest text after c.lines.invariant some (c.cut_line-2.ensures.lines some) c.cut_line-2.ensures.sizes in
    let number : c.lines.passed + 1 ≡ c.args.line = omega arith in
    subst (λ (n : ℕ). length bytes - length after ≡ size_of_first n bytes) number (omega (arith, next.size))
