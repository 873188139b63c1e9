use Rattle.rm_store.proofs.Common.{◌≡◌, true, false, List, sym, ap, subst, ◌∙◌, arith, Op, records, fits_records}
use Rattle.rm_store.specs.Kept.{HasOps, LeavesOps, KeepsFrames, told_room}
use Rattle.rm_store.specs.Store.{seen, IsBelowLast, LooksOwn, StaysOwn, room_behind}
use Rattle.rm_store.proofs.Rooms.{room_told}
use Rattle.rm_store.proofs.store.Store.append.Goals as goal

pub returns-clause-any_moment : goal.returns-clause-any_moment
returns-clause-any_moment g c = λ sound.
    let view = g.D.Disk.view in
    subst (λ d. (ops : List Op) → HasOps (seen view d) ops → fits_records (records ops) c.args.op.now ≡ true → LeavesOps (seen view d) (seen view c.write_op-outcome.new.disk) ops c.args.op.now)
    (ap (λ s. s.disk) c.self.view_is) c.write_op-outcome.ensures.any_moment

pub returns-clause-room : goal.returns-clause-room
returns-clause-room g c = λ needed room is ops has below.
    let s = c.args.self.now in
    let unbroken : s.is_broken ≡ false = ap (λ x. x.is_broken) (sym c.self.view_is) ∙ c.if-self.false in
    let only = c.write_op-outcome.ensures.only_full needed room is in
    let same = (c.write_op-outcome.ensures.refused needed room is).2 ∙ ap (λ x. x.disk) c.self.view_is in
    let before : IsBelowLast (seen g.D.Disk.view s.disk) = subst (λ d. IsBelowLast (seen g.D.Disk.view d)) same below in
    only.3 ∙ ap (λ x. told_room x.areas x.content) c.self.view_is ∙ room_told (seen g.D.Disk.view s.disk) s.areas s.content ops (c.requires.sound.kept unbroken) has before

pub returns-clause-never_full : goal.returns-clause-never_full
returns-clause-never_full g c = λ below ops has fits needed room is.
    let s = c.args.self.now in
    let unbroken : s.is_broken ≡ false = ap (λ x. x.is_broken) (sym c.self.view_is) ∙ c.if-self.false in
    let only = c.write_op-outcome.ensures.only_full needed room is in
    let a : room ≡ room_behind (seen g.D.Disk.view s.disk).size ops = only.3 ∙ ap (λ x. told_room x.areas x.content) c.self.view_is ∙ room_told (seen g.D.Disk.view s.disk) s.areas s.content ops (c.requires.sound.kept unbroken) has below in
    let b = only.0 in
    let d = only.1 in
    omega (arith, a, b, d, fits)

pub returns-clause-own : goal.returns-clause-own
returns-clause-own g c =
    let view = g.D.Disk.view in
    subst (λ d. (ops : List Op) → HasOps (seen view d) ops → LooksOwn (seen view d) → StaysOwn (seen view d) (seen view c.write_op-outcome.new.disk))
    (ap (λ s. s.disk) c.self.view_is) (λ ops has own. c.write_op-outcome.ensures.own has.bytes has.told own)

pub returns-clause-frames : goal.returns-clause-frames
returns-clause-frames g c = λ sound.
    let view = g.D.Disk.view in
    subst (λ d. KeepsFrames (seen view d) (seen view c.write_op-outcome.new.disk)) (ap (λ s. s.disk) c.self.view_is) c.write_op-outcome.ensures.frames
