use Rattle.rm_store.proofs.Common.{◌∙◌, true, false, each_has}
use Rattle.rm_disk.specs.FuseLaws.{keeps_fuse_same, keeps_fuse_on}
use Rattle.rm_store.specs.Store.{seen}
use Rattle.rm_store.proofs.SoFar.{content_of}
use Rattle.rm_store.proofs.store.Store.open.Goals as goal

pub returns-in_default-clause-kept : goal.returns-in_default-clause-kept
returns-in_default-clause-kept g c =
    keeps_fuse_on g.D.Disk.view g.D.Disk.keeps g.met.D.Disk.keeps_on true false _ _ _ c.in-Ok.ensures.kept
    (keeps_fuse_same g.D.Disk.view (g.D.Disk.keeps false) false c.read_all.new.disk (g.met.D.Disk.keeps_same false c.read_all.new.disk.inner))

pub returns-in-Ok-copy-clause-images : goal.returns-in-Ok-copy-clause-images
returns-in-Ok-copy-clause-images g c = λ bytes told image now.
    let read = c.in-Ok.ensures in
    let told_now = read.quiet.told ∙ told in
    let h = read.stays.has bytes told_now in
    let inner = c.read_all.new.disk.inner in
    let v = seen g.D.Disk.view c.read_all.new.disk in
    let each = each_has v c.in-Ok.field-0.areas read.stays.stands read.stays.unbroken (λ b is. g.met.D.Disk.as_it_reads inner b is) bytes h.0 told_now h.1 in
    content_of c.in-Ok.field-0.areas h.0 c.in-Ok.field-0.ops image (each image now) h.2 read.read.none_stray
