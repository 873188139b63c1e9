use Rattle.rm_core.proofs.FinalStates.{app_ends_are_kept, attempt_ends_are_kept}
use Rattle.rm_core.proofs.laws.law_ends_are_kept.Goals as goal

pub returns-clause-applications : goal.returns-clause-applications
returns-clause-applications c = app_ends_are_kept

pub returns-clause-attempts : goal.returns-clause-attempts
returns-clause-attempts c = attempt_ends_are_kept
