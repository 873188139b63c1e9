use Rattle.std.proofs.Common.{◌∙◌, ◌++◌, ap, map, arith}
use Rattle.rm_soak.specs.Scripts.{app_messages, own_segment}
use Rattle.rm_soak.proofs.Ranges.{settled-more}
use Rattle.rm_soak.proofs.scripts.settled_in.Goals as goal

pub apps-preserved : goal.apps-preserved
apps-preserved c =
    c.in_ok-push_app.ensures
    ∙ ap (λ before. before ++ map own_segment (app_messages c.args.stamp c.apps.k)) c.apps.invariant
    ∙ settled-more c.args.stamp c.apps.k (omega arith)
