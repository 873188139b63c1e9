use Rattle.rm_lives.proofs.Common.{sym, subst}
use Rattle.rm_lives.specs.declared.halts.Halt.{Halt}
use Rattle.rm_plain.specs.Feeding.{SettledOn, by_policy}
use Rattle.rm_lives.specs.Keeping.{HaltsBy}
use Rattle.rm_lives.specs.Lives.{WentDown}
use Rattle.rm_lives.proofs.Ending.{fuse_same}
use Rattle.rm_plain.proofs.FedRuns.{fed_halted, fed_left, fed_up}
use Rattle.rm_lives.proofs.Halting.{halts_still}
use Rattle.rm_plain.proofs.feeding.feed.Goals as goal

pub returns-in-Err-clause-left : goal.returns-in-Err-clause-left
returns-in-Err-clause-left g c =
    let grown = c.add_segment.new.self in
    let one = c.arm.new.store in
    fed_halted g.D.Disk.view c.args.segment c.args.d.now grown grown c.add_segment.ensures c.args.store one one c.arm.ensures.inner c.arm.ensures.refused c.arm.ensures.fuse g.D.Disk.falls_to (fuse_same g.D.Disk.view one.disk)
    c.leave.result.disk c.in-Err.halt c.leave.result.ended (subst (λ (h : Halt). HaltsBy by_policy g.D.Disk.view grown grown one.disk one.disk h) (sym c.in-Err.ensures.halts) (halts_still g.D.Disk.view grown one.disk)) c.leave.ensures

pub returns-in-Ok-Rest-clause-up : goal.returns-in-Ok-Rest-clause-up
returns-in-Ok-Rest-clause-up g c =
    let grown = c.add_segment.new.self in
    let one = c.arm.new.store in
    let two = c.work_off.new.store in
    let settled : SettledOn g.D.Disk.view grown c.work_off.new.d one two = rw c.in-Ok-Rest.field-0-is at c.in-Ok-Rest.ensures.ends in
    fed_up g.D.Disk.view c.args.segment c.args.d.now grown c.work_off.new.d c.add_segment.ensures c.args.store one two c.arm.ensures.inner c.arm.ensures.refused c.arm.ensures.fuse c.requires.up.lives c.work_off.ensures.fuse settled

pub returns-in-Ok-Down-clause-left : goal.returns-in-Ok-Down-clause-left
returns-in-Ok-Down-clause-left g c =
    let grown = c.add_segment.new.self in
    let one = c.arm.new.store in
    let two = c.work_off.new.store in
    let down : WentDown by_policy g.D.Disk.view grown c.work_off.new.d one two c.in-Ok-Down.image = rw c.in-Ok-Down.field-0-is at c.in-Ok-Down.ensures.ends in
    fed_left g.D.Disk.view c.args.segment c.args.d.now grown c.work_off.new.d c.add_segment.ensures c.args.store one two c.arm.ensures.inner c.arm.ensures.refused c.arm.ensures.fuse g.D.Disk.falls_to
    c.requires.up.lives c.work_off.ensures.fuse c.leave-in-Ok-Down.result.disk c.in-Ok-Down.image c.leave-in-Ok-Down.result.ended down c.leave-in-Ok-Down.ensures

pub returns-in-Err-work_off-clause-left : goal.returns-in-Err-work_off-clause-left
returns-in-Err-work_off-clause-left g c =
    let grown = c.add_segment.new.self in
    let one = c.arm.new.store in
    let two = c.work_off.new.store in
    fed_halted g.D.Disk.view c.args.segment c.args.d.now grown c.work_off.new.d c.add_segment.ensures c.args.store one two c.arm.ensures.inner c.arm.ensures.refused c.arm.ensures.fuse g.D.Disk.falls_to c.work_off.ensures.fuse
    c.leave-in-Err-work_off.result.disk c.in-Err-work_off.halt c.leave-in-Err-work_off.result.ended c.in-Err-work_off.ensures.halts c.leave-in-Err-work_off.ensures
