use Rattle.rm_store.proofs.Owned.{still_keeps}
use Rattle.rm_store.proofs.Puts.{ops_same, there_is, put_leaves, put_adds, kept_more, ok_of, both_ok}
use Rattle.rm_store.proofs.Written.{still_frames, put_frames}
use Rattle.rm_store.proofs.appending.append_here.Goals as goal

pub returns-in_default-clause-any_moment : goal.returns-in_default-clause-any_moment
returns-in_default-clause-any_moment g c = ops_same (g.D.Disk.view c.args.disk.now) c.args.areas.now c.args.content.now c.requires.kept (λ image now. g.met.D.Disk.as_it_reads c.args.disk.now image now) c.args.op.now c.requires.op

pub returns-clause-stays : goal.returns-clause-stays
returns-clause-stays g c =
    let v0 = g.D.Disk.view c.args.disk.now in
    let v1 = g.D.Disk.view c.put.new.disk in
    both_ok c.put.result
    (λ sound now. kept_more v0 v1 c.args.areas.now c.put.new.areas c.args.content.now c.push_copy.new.ops c.args.op.now c.requires.op c.requires.kept.framed c.put.ensures.stands sound c.put.ensures.no_build c.in-Ok.ensures c.put.ensures.goes_on c.requires.kept.has now)
    c.put.ensures.unbroken c.put.ensures.now

pub returns-clause-any_moment : goal.returns-clause-any_moment
returns-clause-any_moment g c = λ ops has fits.
    let v0 = g.D.Disk.view c.args.disk.now in
    let v1 = g.D.Disk.view c.put.new.disk in
    let t = there_is v0 c.args.areas.now c.args.content.now ops c.requires.kept has in
    put_leaves t.payloads c.args.content.now ops c.args.op.now t.reads t.none t.same fits c.requires.op v0 v1 c.args.areas.now.half (c.put.ensures.any_moment t.bytes t.told t.payloads t.has)

pub returns-clause-added : goal.returns-clause-added
returns-clause-added g c =
    let v0 = g.D.Disk.view c.args.disk.now in
    let v1 = g.D.Disk.view c.put.new.disk in
    ok_of c.put.result
    (λ added ops has fits.
    let t = there_is v0 c.args.areas.now c.args.content.now ops c.requires.kept has in
    put_adds t.payloads c.args.content.now ops c.args.op.now t.reads t.none t.same fits c.requires.op v0 v1 t.bytes t.told c.put.ensures.goes_on c.args.areas.now.half (added t.bytes t.told t.payloads t.has))
    c.put.ensures.added

pub returns-in_default-clause-own : goal.returns-in_default-clause-own
returns-in_default-clause-own g c = still_keeps (g.D.Disk.view c.args.disk.now)

pub returns-in_default-clause-frames : goal.returns-in_default-clause-frames
returns-in_default-clause-frames g c = still_frames (g.D.Disk.view c.args.disk.now) c.args.areas.now c.args.content.now c.requires.kept (λ image now. g.met.D.Disk.as_it_reads c.args.disk.now image now)

pub returns-clause-frames : goal.returns-clause-frames
returns-clause-frames g c = put_frames (g.D.Disk.view c.args.disk.now) (g.D.Disk.view c.put.new.disk) c.args.areas.now c.args.content.now c.args.op.now c.requires.kept c.requires.op c.put.ensures.any_moment
