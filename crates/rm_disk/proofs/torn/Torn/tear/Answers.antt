use Rattle.std.proofs.Common.{length, ap, arith, ◌/◌}
use Rattle.std.proofs.lemmas.List.{length-take}
use Rattle.rm_disk.proofs.Torns.{torn_write}
use Rattle.rm_disk.proofs.torn.Torn.tear.Goals as goal

pub returns-clause-in_range : goal.returns-clause-in_range
returns-clause-in_range g c =
    let bytes = c.args.bytes.now in
    let later = c.count.ensures.later in
    rw (ap (λ t. t.inner) c.count.ensures.counted, ← c.self.view_is) (torn_write c.args.at (length bytes) _ _ _ c.self.inside.torn c.count.new.self.torn (omega (arith, length-take (length bytes / 2) bytes)) later c.write.ensures.in_range)
