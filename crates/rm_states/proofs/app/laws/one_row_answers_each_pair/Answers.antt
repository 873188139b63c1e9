use Rattle.rm_states.proofs.app.Rows.{rows_are_one}
use Rattle.rm_states.proofs.app.laws.one_row_answers_each_pair.Goals as goal

pub returns : goal.returns
returns c = rows_are_one
