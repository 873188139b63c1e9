use Rattle.rm_core.proofs.FinalStates.{final_apps_stay, final_attempts_stay}
use Rattle.rm_core.proofs.laws.law_final_states.Goals as goal

pub returns-clause-applications : goal.returns-clause-applications
returns-clause-applications c = final_apps_stay

pub returns-clause-attempts : goal.returns-clause-attempts
returns-clause-attempts c = final_attempts_stay
