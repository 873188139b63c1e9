use Rattle.rm_book.proofs.Common.{sym}
use Rattle.rm_states.proofs.container.Rows.{row_leads, stays_without_row}
use Rattle.rm_book.proofs.plain.next_state.Goals as goal

pub returns-in-Some : goal.returns-in-Some
returns-in-Some c = sym (row_leads c.in-Some.ensures.row)

pub returns-in-None : goal.returns-in-None
returns-in-None c = sym (stays_without_row c.args.state c.args.event (λ next action row. let e = c.in-None.ensures.answered next action row in cc))
