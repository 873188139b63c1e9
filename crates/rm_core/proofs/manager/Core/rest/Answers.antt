use Rattle.rm_core.proofs.Settling.{sound_rests}
use Rattle.rm_core.proofs.manager.Core.rest.Goals as goal

pub returns : goal.returns
returns c = rw (← c.self.view_is) (sound_rests c.self.inside.tables c.self.inside.log c.self.invariant.sound)
