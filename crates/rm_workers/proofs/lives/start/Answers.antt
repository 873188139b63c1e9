-- The first value that the baton carries is the desk with which the life began.
use Rattle.std.proofs.Common.{◌∙◌, ap}
use Rattle.rm_baton.specs.Views.{view}
use Rattle.rm_workers.specs.Carried.{HeldView}
use Rattle.rm_workers.specs.Work.{Serving}
use Rattle.rm_workers.proofs.PassLemmas.{knows_started}
use Rattle.rm_workers.proofs.lives.start.Goals as goal

pub returns-in-Ok-clause-knows : goal.returns-in-Ok-clause-knows
returns-in-Ok-clause-knows g c = knows_started (Serving g.D.Disk.view g.S.Since.began c.args.store.now) c.in_ok-held.held (view c.in-Ok.made.1) c.in-Ok.ensures.pass (rw c.in_ok-held.ensures.desk c.requires.serving)

pub returns-in-Err-clause-back : goal.returns-in-Err-clause-back
returns-in-Err-clause-back g c = c.into_desk.ensures.desk ∙ ap (λ (h : HeldView). h.desk) c.in-Err.ensures.back ∙ c.in_ok-held.ensures.desk
