use Rattle.std.proofs.lemmas.List.{append_assoc}
use Rattle.rm_report.proofs.summaries.put_jobs.Goals as goal

pub returns : goal.returns
returns c = rw (c.in_ok-text.ensures, c.in_ok-number-6.ensures, c.in_ok-number-5.ensures, c.in_ok-number-4.ensures, c.in_ok-number-3.ensures, c.in_ok-number-2.ensures, c.in_ok-number.ensures) (simp (c.total.ensures, c.saturating_sub-living.ensures, c.saturating_sub-2.ensures, c.saturating_sub.ensures, c.total-killed.ensures, c.total-failed.ensures, c.total-finished.ensures, c.total-kept.ensures, append_assoc))
