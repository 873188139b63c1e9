use Rattle.rm_frame.proofs.Apart.{frames_alike}
use Rattle.rm_frame.proofs.laws.frames_are_apart.Goals as goal

pub returns : goal.returns
returns c = frames_alike
