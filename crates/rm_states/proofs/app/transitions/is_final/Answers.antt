use Rattle.std.proofs.Common.{rules}
use Rattle.std.proofs.lemmas.Bool.{false≢true}
use Rattle.rm_states.proofs.app.Rows.{some_row}
use Rattle.rm_states.proofs.app.transitions.is_final.Goals as goal

pub returns-in_default : goal.returns-in_default
returns-in_default c = record {
  none_follows = (λ no. absurd (false≢true no), λ final. absurd (some_row c.args.state c.in_default.not-Finished c.in_default.not-Failed c.in_default.not-Killed final));
  which = search rules;
}
