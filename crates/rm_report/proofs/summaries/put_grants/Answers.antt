use Rattle.std.proofs.lemmas.List.{append_assoc}
use Rattle.rm_report.proofs.summaries.put_grants.Goals as goal

pub returns : goal.returns
returns c = rw (c.in_ok-text.ensures, c.in_ok-number-3.ensures, c.in_ok-number-2.ensures, c.in_ok-number.ensures) (simp (c.total-3.ensures, c.total-2.ensures, c.total.ensures, append_assoc))
