use Rattle.std.proofs.Common.{ℕ, ◌<◌, List, length, sym, subst, arith}
use Rattle.std.specs.Prelude.{Err}
use Rattle.std.proofs.lemmas.Bool.{eqb-true, eqb-false}
use Rattle.std.proofs.lemmas.List.{nil_from_length}
use Rattle.rm_script.specs.Reading.{AnswersReading}
use Rattle.rm_script.proofs.Loop.{is_next, goes_on, too_many, too_far, refuses, ends, ends_open}
use Rattle.rm_script.proofs.reading.script_of.Goals as goal
use Rattle.rm_script.proofs.reading.script_of.Goals.{then-line-gt-MOST_LINES-via-then-line-gt-MOST_LINES, then-line-gt-MOST_LINES-via-else-line-gt-MOST_LINES+then-bytes-after-gt-MOST_BYTES}

pub returns-then-line-gt-MOST_LINES : goal.returns-then-line-gt-MOST_LINES
returns-then-line-gt-MOST_LINES c =
    let apart = eqb-false _ _ (sym c.lines-test.ensures) in
    let rest : List ℕ = c.lines.rest.now in
    let some : 0 < length rest = omega (arith, apart) in
    let next = is_next c.lines.count c.args.bytes.now rest c.lines.draft c.cut_line.result.0.now c.cut_line.result.1.now c.lines.invariant some (c.cut_line.ensures.lines some) c.cut_line.ensures.sizes in
    elim c.then-line-gt-MOST_LINES.branch [
      | then-line-gt-MOST_LINES-via-then-line-gt-MOST_LINES w ↦ too_many c.lines.count c.args.bytes.now rest c.lines.draft _ _ c.lines.invariant next (omega arith)
      | then-line-gt-MOST_LINES-via-else-line-gt-MOST_LINES+then-bytes-after-gt-MOST_BYTES w ↦
          too_far c.lines.count c.args.bytes.now rest c.lines.draft _ _ c.lines.invariant next (omega arith)
    ]

pub returns-in-Err : goal.returns-in-Err
returns-in-Err c =
    let apart = eqb-false _ _ (sym c.lines-test.ensures) in
    let rest : List ℕ = c.lines.rest.now in
    let some : 0 < length rest = omega (arith, apart) in
    let next = is_next c.lines.count c.args.bytes.now rest c.lines.draft c.cut_line.result.0.now c.cut_line.result.1.now c.lines.invariant some (c.cut_line.ensures.lines some) c.cut_line.ensures.sizes in
    subst (λ e. AnswersReading c.args.bytes.now (Err e)) (sym c.at.ensures) (refuses c.in-Err.error c.lines.count c.args.bytes.now rest c.lines.draft _ _ c.lines.invariant next c.in-Err.ensures)

pub lines-preserved : goal.lines-preserved
lines-preserved c =
    let apart = eqb-false _ _ (sym c.lines-test.ensures) in
    let rest : List ℕ = c.lines.rest.now in
    let some : 0 < length rest = omega (arith, apart) in
    let next = is_next c.lines.count c.args.bytes.now rest c.lines.draft c.cut_line.result.0.now c.cut_line.result.1.now c.lines.invariant some (c.cut_line.ensures.lines some) c.cut_line.ensures.sizes in
    goes_on c.lines.count c.args.bytes.now rest c.lines.draft c.in-Ok.next _ _ c.lines.invariant next (omega arith) (omega arith) c.in-Ok.ensures

pub returns-in-Ok-into_script : goal.returns-in-Ok-into_script
returns-in-Ok-into_script c =
    let nothing = nil_from_length c.lines.rest.now (eqb-true _ _ (sym c.lines-test.ensures)) in
    ends c.in-Ok-into_script.script c.lines.count c.args.bytes.now c.lines.rest.now c.lines.draft nothing c.lines.invariant c.in-Ok-into_script.ensures

pub returns-in-Err-into_script : goal.returns-in-Err-into_script
returns-in-Err-into_script c =
    let nothing = nil_from_length c.lines.rest.now (eqb-true _ _ (sym c.lines-test.ensures)) in
    subst (λ e. AnswersReading c.args.bytes.now (Err e)) (sym c.at-in-Err-into_script.ensures)
    (ends_open c.in-Err-into_script.error c.lines.count c.args.bytes.now c.lines.rest.now c.lines.draft nothing c.lines.invariant c.in-Err-into_script.ensures)
