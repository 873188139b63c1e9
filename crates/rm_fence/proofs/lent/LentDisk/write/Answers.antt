use Rattle.std.proofs.Common.{length, sym, ◌∙◌, ap, arith, false, is_ok}
use Rattle.rm_fence.proofs.Parts.{part_writes, part_told}
use Rattle.rm_fence.proofs.Writing.{refused_writes, refused_keeps, written_keeps}
use Rattle.rm_fence.proofs.lent.LentDisk.write.Goals as goal

pub returns-then-self-newest-clause-in_range : goal.returns-then-self-newest-clause-in_range
returns-then-self-newest-clause-in_range g c =
    let fence = c.self.inside.fence in
    let later = rw c.refuse.ensures.counted at c.refuse.ensures.later in
    rw (← c.self.view_is, c.refuse.ensures.counted) (refused_writes c.args.at (length c.args.bytes.now) (g.D.Disk.view fence.disk) fence.refusals _ later)

pub returns-then-self-newest-clause-kept : goal.returns-then-self-newest-clause-kept
returns-then-self-newest-clause-kept g c =
    let fence = c.self.inside.fence in
    let later = rw c.refuse.ensures.counted at c.refuse.ensures.later in
    rw (← c.self.view_is, c.refuse.ensures.counted) (refused_keeps g.D.Disk.view (g.D.Disk.keeps false) (record { fence = fence; number = c.self.inside.number; has_refused = c.self.inside.has_refused }) _ (g.met.D.Disk.keeps_same false fence.disk) later (omega arith) (λ is. c.if-self-newest.true (is ∙ sym c.newest.ensures.value)))

pub returns-clause-written : goal.returns-clause-written
returns-clause-written g c =
    let fence = c.self.inside.fence in
    rw (← c.self.view_is)
    (part_told (g.D.Disk.view fence.disk) (g.D.Disk.view c.write_lent.new.self.disk) c.args.at c.args.bytes.now c.write_lent.result (record { sizes = g.met.D.Disk.image_size fence.disk; reads = g.met.D.Disk.as_it_reads fence.disk })
    (rw (← c.self.view_is) at c.requires) c.write_lent.ensures.written)

pub returns-clause-in_range : goal.returns-clause-in_range
returns-clause-in_range g c =
    let fence = c.self.inside.fence in
    let same = ap (λ f. f.refusals) c.write_lent.ensures.same in
    rw (← c.self.view_is)
    (part_writes (g.D.Disk.view fence.disk) (g.D.Disk.view c.write_lent.new.self.disk) fence.refusals c.write_lent.new.self.refusals (omega (arith, same)) c.args.at (length c.args.bytes.now)
    (record { sizes = g.met.D.Disk.image_size fence.disk; reads = g.met.D.Disk.as_it_reads fence.disk }) (rw (← c.self.view_is) at c.requires) c.write_lent.ensures.in_range)

pub returns-clause-kept : goal.returns-clause-kept
returns-clause-kept g c =
    let fence = c.self.inside.fence in
    rw (← c.self.view_is, c.write_lent.ensures.same)
    (written_keeps g.D.Disk.view (g.D.Disk.keeps (is_ok c.write_lent.result)) (is_ok c.write_lent.result) (record { fence = fence; number = c.self.inside.number; has_refused = c.self.inside.has_refused }) c.write_lent.new.self.disk c.args.at (length c.args.bytes.now)
    c.write_lent.ensures.kept (c.if-self-newest.false ∙ c.newest.ensures.value) (rw (← c.self.view_is) at c.requires) c.write_lent.ensures.in_range)
