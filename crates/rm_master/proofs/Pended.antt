-- Where there is no memory for what follows, what became pending is forgotten again, and the tables are as they were.
use Rattle.std.proofs.Common.{◌≡◌, Err, List, Ok, Result, length, take, ap}
use Rattle.std.specs.Prelude.{OnErr}
use Rattle.rm_types.specs.declared.ids.ContainerId.{ContainerId}
use Rattle.rm_tables.specs.declared.tables.Tables.{Tables}
use Rattle.rm_tables.specs.ContainerSets.{with_containers}
use Rattle.rm_tables.proofs.ContainerSets.{joined_front}

pub unpended : {A E : Type 0} (r : Result A E) (t now after : Tables) (astray pending : List ContainerId) → now ≡ record t { pending = with_containers t.pending astray } → OnErr r (after ≡ now)
    → pending ≡ take (length t.pending) after.pending → OnErr r (record after { pending = pending } ≡ t)
unpended (Ok x) t now after astray pending noted same left = tt
unpended (Err e) t now after astray pending noted same left =
    rw (left, same, noted) (ap (λ (set : List ContainerId). record t { pending = set }) (joined_front t.pending astray))
