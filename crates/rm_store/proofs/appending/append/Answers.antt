use Rattle.rm_store.proofs.Common.{sym, subst, List, All, Op, IsOperation}
use Rattle.rm_store.proofs.Contents.{framed_left}
use Rattle.rm_store.proofs.Owned.{still_keeps}
use Rattle.rm_store.proofs.Puts.{ops_same}
use Rattle.rm_store.proofs.Written.{still_frames}
use Rattle.rm_store.proofs.appending.append.Goals as goal

pub returns-in_default-clause-any_moment : goal.returns-in_default-clause-any_moment
returns-in_default-clause-any_moment g c = ops_same (g.D.Disk.view c.args.disk.now) c.args.areas.now c.args.content.now c.requires.kept (λ image now. g.met.D.Disk.as_it_reads c.args.disk.now image now) c.args.op.now c.requires.op

pub returns-then-generation-eq18446744073709551615-clause-any_moment : goal.returns-then-generation-eq18446744073709551615-clause-any_moment
returns-then-generation-eq18446744073709551615-clause-any_moment g c = ops_same (g.D.Disk.view c.args.disk.now) c.args.areas.now c.args.content.now c.requires.kept (λ image now. g.met.D.Disk.as_it_reads c.args.disk.now image now) c.args.op.now c.requires.op

pub returns-in_default-fold-clause-any_moment : goal.returns-in_default-fold-clause-any_moment
returns-in_default-fold-clause-any_moment g c = ops_same (g.D.Disk.view c.args.disk.now) c.args.areas.now c.args.content.now c.requires.kept (λ image now. g.met.D.Disk.as_it_reads c.args.disk.now image now) c.args.op.now c.requires.op

pub returns-in_default-room_of-clause-any_moment : goal.returns-in_default-room_of-clause-any_moment
returns-in_default-room_of-clause-any_moment g c = ops_same (g.D.Disk.view c.args.disk.now) c.args.areas.now c.args.content.now c.requires.kept (λ image now. g.met.D.Disk.as_it_reads c.args.disk.now image now) c.args.op.now c.requires.op

pub returns-then-needed-room-clause-any_moment : goal.returns-then-needed-room-clause-any_moment
returns-then-needed-room-clause-any_moment g c = ops_same (g.D.Disk.view c.args.disk.now) c.args.areas.now c.args.content.now c.requires.kept (λ image now. g.met.D.Disk.as_it_reads c.args.disk.now image now) c.args.op.now c.requires.op

pub room_of-requires : goal.room_of-requires
room_of-requires g c = subst (λ (l : List Op). All IsOperation l) (sym c.in-Ok-fold.ensures) (framed_left c.args.content.now c.requires.kept.framed)

pub returns-in_default-clause-own : goal.returns-in_default-clause-own
returns-in_default-clause-own g c = still_keeps (g.D.Disk.view c.args.disk.now)

pub returns-then-generation-eq18446744073709551615-clause-own : goal.returns-then-generation-eq18446744073709551615-clause-own
returns-then-generation-eq18446744073709551615-clause-own g c = still_keeps (g.D.Disk.view c.args.disk.now)

pub returns-in_default-fold-clause-own : goal.returns-in_default-fold-clause-own
returns-in_default-fold-clause-own g c = still_keeps (g.D.Disk.view c.args.disk.now)

pub returns-in_default-room_of-clause-own : goal.returns-in_default-room_of-clause-own
returns-in_default-room_of-clause-own g c = still_keeps (g.D.Disk.view c.args.disk.now)

pub returns-then-needed-room-clause-own : goal.returns-then-needed-room-clause-own
returns-then-needed-room-clause-own g c = still_keeps (g.D.Disk.view c.args.disk.now)

pub returns-in_default-clause-frames : goal.returns-in_default-clause-frames
returns-in_default-clause-frames g c = still_frames (g.D.Disk.view c.args.disk.now) c.args.areas.now c.args.content.now c.requires.kept (λ image now. g.met.D.Disk.as_it_reads c.args.disk.now image now)

pub returns-then-generation-eq18446744073709551615-clause-frames : goal.returns-then-generation-eq18446744073709551615-clause-frames
returns-then-generation-eq18446744073709551615-clause-frames g c = still_frames (g.D.Disk.view c.args.disk.now) c.args.areas.now c.args.content.now c.requires.kept (λ image now. g.met.D.Disk.as_it_reads c.args.disk.now image now)

pub returns-in_default-fold-clause-frames : goal.returns-in_default-fold-clause-frames
returns-in_default-fold-clause-frames g c = still_frames (g.D.Disk.view c.args.disk.now) c.args.areas.now c.args.content.now c.requires.kept (λ image now. g.met.D.Disk.as_it_reads c.args.disk.now image now)

pub returns-in_default-room_of-clause-frames : goal.returns-in_default-room_of-clause-frames
returns-in_default-room_of-clause-frames g c = still_frames (g.D.Disk.view c.args.disk.now) c.args.areas.now c.args.content.now c.requires.kept (λ image now. g.met.D.Disk.as_it_reads c.args.disk.now image now)

pub returns-then-needed-room-clause-frames : goal.returns-then-needed-room-clause-frames
returns-then-needed-room-clause-frames g c = still_frames (g.D.Disk.view c.args.disk.now) c.args.areas.now c.args.content.now c.requires.kept (λ image now. g.met.D.Disk.as_it_reads c.args.disk.now image now)
