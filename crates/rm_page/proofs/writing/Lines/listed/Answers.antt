use Rattle.rm_page.proofs.Joining.{joined, listed-parts}
use Rattle.rm_page.proofs.writing.Lines.listed.Goals as goal

pub returns : goal.returns
returns g c =
    rw (listed-parts g.W.Wording.text c.args.items.now c.first-item.result c.in-len1-up.len_at_least c.first-item.is)
    (simp (c.in_ok-more_listed.ensures, c.in_ok-write.ensures, joined))
