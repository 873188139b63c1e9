use Rattle.std.proofs.lemmas.List.{append_assoc}
use Rattle.rm_report.proofs.lives.put_end.Goals as goal

pub returns-in_ok-text-in-AtRefusal : goal.returns-in_ok-text-in-AtRefusal
returns-in_ok-text-in-AtRefusal c = rw (c.in-AtRefusal.is, c.in_ok-text-in-AtRefusal.ensures, c.in_ok-number-in-AtRefusal.ensures) (simp append_assoc)
