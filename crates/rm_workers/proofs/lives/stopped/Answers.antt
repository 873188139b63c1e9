-- Nothing was done.
use Rattle.std.proofs.Common.{subst}
use Rattle.rm_desk.specs.View.{DeskView}
use Rattle.rm_workers.specs.Came.{Went}
use Rattle.rm_workers.proofs.MoveLemmas.{went_same}
use Rattle.rm_workers.proofs.LifeEndLemmas.{stopped_ended}
use Rattle.rm_workers.proofs.lives.stopped.Goals as goal

pub returns : goal.returns
returns g c = record {
  ended = stopped_ended g.D.Disk.view g.S.Since.began c.args.desk c.args.store (subst (λ (d : DeskView). Went d c.args.desk) c.requires.began (went_same c.args.desk c.requires.stands)) c.requires.serving;
}
