use Rattle.rm_states.proofs.app.Rows.{ends_are_kept}
use Rattle.rm_states.proofs.app.laws.an_end_is_kept_before_it_is_told.Goals as goal

pub returns : goal.returns
returns c = ends_are_kept
