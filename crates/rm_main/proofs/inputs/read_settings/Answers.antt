use Rattle.rm_main.proofs.Rooted.{limited, rooted}
use Rattle.rm_main.proofs.inputs.read_settings.Goals as goal

pub returns-in-Ok-read_cluster-clause-read : goal.returns-in-Ok-read_cluster-clause-read
returns-in-Ok-read_cluster-clause-read g c =
    record { bytes = c.in-Ok.bytes.items; read = c.in-Ok.ensures.bytes; cluster = rw c.as_slice.ensures.value at c.in-Ok-read_cluster.ensures.read }

pub returns-in-Err-Refused-clause-refused : goal.returns-in-Err-Refused-clause-refused
returns-in-Err-Refused-clause-refused g c =
    let refused = rw (c.in-Err-Refused.field-0-is, c.as_slice.ensures.value) at c.in-Err-Refused.ensures.refused in
    record { bytes = c.in-Ok.bytes.items; read = c.in-Ok.ensures.bytes; none = refused }

pub returns-in-Ok-read_cluster-clause-queues : goal.returns-in-Ok-read_cluster-clause-queues
returns-in-Ok-read_cluster-clause-queues g c = rooted _ c.in-Ok-read_cluster.ensures.in_range

pub returns-in-Ok-read_cluster-clause-limits : goal.returns-in-Ok-read_cluster-clause-limits
returns-in-Ok-read_cluster-clause-limits g c = limited _ c.in-Ok-read_cluster.ensures.in_range
