use Rattle.std.proofs.Common.{map}
use Rattle.std.proofs.lemmas.List.{append_assoc}
use Rattle.rm_soak.specs.Scripts.{own_segment, start_messages, work_messages}
use Rattle.rm_soak.proofs.scripts.push_app.Goals as goal

pub returns : goal.returns
returns c =
    rw (c.in_ok-push_work.ensures, c.in_ok-push_start.ensures)
    (append_assoc c.args.segments.now (map own_segment (start_messages c.args.stamp c.args.k)) (map own_segment (work_messages c.args.stamp c.args.k)))
