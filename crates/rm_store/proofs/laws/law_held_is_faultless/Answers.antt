use Rattle.rm_store.proofs.Faultless.{holds_faultless, never_damaged, never_stray}
use Rattle.rm_store.proofs.laws.law_held_is_faultless.Goals as goal

pub returns : goal.returns
returns c = record { faultless = holds_faultless; undamaged = never_damaged; none_stray = never_stray }
