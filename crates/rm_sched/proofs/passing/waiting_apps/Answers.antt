use Rattle.std.proofs.Common.{map, ◌∙◌, sym}
use Rattle.rm_sched.proofs.Turned.{wanted_are}
use Rattle.rm_sched.proofs.passing.waiting_apps.Goals as goal

pub returns : goal.returns
returns c =
    let apps = c.as_slice-2.ensures.value ∙ c.in_ok-apps.ensures in
    let wanted = wanted_are c.args.t.now.asks c.as_slice.result.now c.as_slice-2.result.now (map (λ app. app.id) c.args.t.now.tree.apps) (rw (sym c.as_slice.ensures) at c.in_ok-waiting.ensures.same) apps in
    rw wanted at c.in_kept_order.ensures
