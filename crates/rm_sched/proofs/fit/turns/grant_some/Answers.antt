use Rattle.std.proofs.Common.{◌-◌, ◌++◌, ◌∷◌, [], List, sym, ap, ◌∙◌, append_assoc}
use Rattle.rm_types.specs.declared.containers.Grant.{Grant}
use Rattle.rm_sched.specs.fit.Turns.{Spot, spot_grant, granted_from}
use Rattle.rm_sched.proofs.fit.Passing.{granted_more}
use Rattle.rm_sched.proofs.fit.turns.grant_some.Goals as goal

pub loop-seq-preserved : goal.loop-seq-preserved
loop-seq-preserved c =
    let spot : Spot = record { node = c.args.node.now; epoch = c.args.epoch; attempt = c.args.attempt } in
    let pushed = rw (c.in_ok-node.ensures, c.loop-seq.invariant) at c.in_ok-push.ensures.ok in
    pushed ∙ append_assoc c.args.grants.now (granted_from spot c.args.size c.args.first (c.loop-seq.seq - c.args.first)) (spot_grant spot c.args.size c.loop-seq.seq ∷ []) ∙ ap (λ (ys : List Grant). c.args.grants.now ++ ys) (sym (granted_more spot c.args.size c.args.first c.loop-seq.seq c.loop-seq.auto.seq))
