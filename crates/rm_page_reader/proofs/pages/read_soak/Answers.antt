use Rattle.std.proofs.Common.{sym, ◌∙◌}
use Rattle.rm_lines.proofs.Parts.{differ}
use Rattle.rm_page_reader.proofs.Soaking.{soak_wants, soak_written}
use Rattle.rm_page_reader.proofs.pages.read_soak.Goals as goal

pub returns-in-Err-clause-only : goal.returns-in-Err-clause-only
returns-in-Err-clause-only c = λ soak is e.
    rw c.at.ensures (soak_wants c.args.bytes.now c.cut_line.result.0.now c.cut_line.result.1.now c.in-Err.error c.cut_line.ensures.cut c.in-Err.ensures soak is e)

pub returns-clause-only : goal.returns-clause-only
returns-clause-only c = λ soak is e.
    let written = soak_written c.args.bytes.now c.cut_line.result.0.now c.cut_line.result.1.now c.in-Ok.soak c.cut_line.ensures.cut c.in-Ok.ensures soak is e in
    absurd (differ c.as_slice.result.now c.args.bytes.now (sym c.if-eq.ensures) (c.as_slice.ensures.value ∙ c.in_ok-written.ensures ∙ written))
