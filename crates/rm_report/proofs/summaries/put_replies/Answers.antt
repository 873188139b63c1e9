use Rattle.std.proofs.lemmas.List.{append_assoc}
use Rattle.rm_report.proofs.summaries.put_replies.Goals as goal

pub returns : goal.returns
returns c = rw (c.in_ok-text-3.ensures, c.in_ok-put_tally-2.ensures, c.in_ok-text-2.ensures, c.in_ok-put_tally.ensures, c.in_ok-text.ensures, c.in_ok-number.ensures) (simp (c.total.ensures, append_assoc))
