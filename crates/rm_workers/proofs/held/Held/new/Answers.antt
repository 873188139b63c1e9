-- A life goes on from where it begins.
use Rattle.std.proofs.Common.{sym, subst}
use Rattle.rm_desk.specs.View.{DeskView}
use Rattle.rm_workers.specs.Came.{Went}
use Rattle.rm_workers.proofs.MoveLemmas.{went_same}
use Rattle.rm_workers.proofs.held.Held.new.Goals as goal

pub invariant_of-result : goal.invariant_of-result
invariant_of-result g c = subst (Went g.S.Since.began.desk) (sym c.in-Ok.ensures.ok) (subst (λ (d : DeskView). Went d c.args.desk) c.requires.began (went_same c.args.desk c.requires.stands))
