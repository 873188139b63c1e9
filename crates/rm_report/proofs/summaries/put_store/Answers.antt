use Rattle.std.proofs.lemmas.List.{append_assoc}
use Rattle.rm_report.proofs.summaries.put_store.Goals as goal

pub returns : goal.returns
returns c = rw (c.in_ok-text.ensures, c.in_ok-number-4.ensures, c.in_ok-number-3.ensures, c.in_ok-number-2.ensures, c.in_ok-number.ensures) (simp (c.in_ok-kept_bytes.ensures, c.total-2.ensures, c.total.ensures, c.longest.ensures, append_assoc))
