use Rattle.rm_lives.proofs.Common.{None, sym, ◌∙◌}
use Rattle.std.proofs.Common.{◌≡◌}
use Rattle.rm_plain.specs.Policy.{first_ready}
use Rattle.rm_plain.proofs.Choosing.{at_end}
use Rattle.rm_plain.proofs.feeding.next_lane.Goals as goal

pub prove-unreachable-requires : goal.prove-unreachable-requires
prove-unreachable-requires c =
    let plain : first_ready c.args.d.now ≡ None = sym c.first_ready.ensures ∙ c.in-None.is in
    let end = at_end c.args.d.now plain c.is_at_end-end.result c.is_at_end-end.ensures.lane in
    let no = c.if-prove.true in
    cc
