use Rattle.std.proofs.Common.{◌≡◌, ℕ, zero, suc, ◌+◌, ◌<◌, ◌/◌, ◌^◌, true, false, Err, Result, List, ◌++◌, map, length, sym, ◌∙◌, ap, subst, arith}
use Rattle.std.proofs.lemmas.Result.{err_from_is_err_and}
use Rattle.rm_types.specs.declared.operations.Op.{Op}
use Rattle.rm_formats.specs.Frames.{frame}
use Rattle.rm_formats.specs.Device.{journal_records}
use Rattle.rm_journal.specs.declared.fault.JournalError
use Rattle.rm_disk.specs.Disk.{EachImage, IfTold}
use Rattle.rm_journal.specs.two_areas.Areas.{AreasHold, IsDamagedLayout, LeavesEitherLayout, head_of}
use Rattle.rm_tool.specs.declared.salvage.errors.WriteError
use Rattle.rm_tool.specs.salvage.Errors.{write_error}
use Rattle.rm_tool.specs.salvage.Writes.{bytes_before}
use Rattle.rm_tool.proofs.salvage.WriteLemmas.{area_long, built_leaves, holds_all}
use Rattle.rm_tool.proofs.salvage.writes.write_anew.Goals as goal

damaged_there : (error : JournalError.JournalError) (offset : ℕ) → write_error error ≡ WriteError.TheVariants.Damaged offset → error ≡ JournalError.TheVariants.Damaged offset
damaged_there JournalError.TheVariants.DiskFault offset e = cc
damaged_there (JournalError.TheVariants.Damaged place) offset e = cc
damaged_there (JournalError.TheVariants.Full needed room) offset e = cc
damaged_there JournalError.TheVariants.NeedsReopen offset e = cc
damaged_there JournalError.TheVariants.Memory offset e = cc

the_error : {X E : Type 0} {a b : E} → ◌≡◌ {A = Result X E} (Err a) (Err b) → a ≡ b
the_error e = cc

pub returns-in_err-areas-clause-damaged : goal.returns-in_err-areas-clause-damaged
returns-in_err-areas-clause-damaged g c = λ offset is bytes told.
    let p = err_from_is_err_and c.from_residual.result c.from_residual.ensures.1 in
    let e = damaged_there c.in_err-areas.field-0.0 offset (sym p.2 ∙ the_error (sym p.1 ∙ is)) in
    let long = g.met.D.Disk.image_size c.args.disk.now bytes (g.met.D.Disk.as_it_reads c.args.disk.now bytes told) in
    subst (λ (n : ℕ). IsDamagedLayout n bytes offset) (ap (λ (n : ℕ). n / 2) (sym long))
    (c.in_err-areas.ensures.damaged offset (ap (λ (x : JournalError.JournalError). Err x) e) bytes told)

pub returns-then-generation-gt0-clause-kept : goal.returns-then-generation-gt0-clause-kept
returns-then-generation-gt0-clause-kept g c = g.met.D.Disk.keeps_on true false _ _ _ c.in_ok-areas.ensures.kept (g.met.D.Disk.keeps_same false _)

pub returns-in_err-room-clause-kept : goal.returns-in_err-room-clause-kept
returns-in_err-room-clause-kept g c =
    let p = err_from_is_err_and c.from_residual-in_err-room.result c.from_residual-in_err-room.ensures.1 in
    rw p.1 (g.met.D.Disk.keeps_on true false _ _ _ c.in_ok-areas.ensures.kept (g.met.D.Disk.keeps_same false _))

pub returns-then-room-eq0-clause-kept : goal.returns-then-room-eq0-clause-kept
returns-then-room-eq0-clause-kept g c = g.met.D.Disk.keeps_on true false _ _ _ c.in_ok-areas.ensures.kept (g.met.D.Disk.keeps_same false _)

pub returns-in_err-change_area-clause-kept : goal.returns-in_err-change_area-clause-kept
returns-in_err-change_area-clause-kept g c =
    let p = err_from_is_err_and c.from_residual-in_err-change_area.result c.from_residual-in_err-change_area.ensures.1 in
    rw p.1 (g.met.D.Disk.keeps_on true false _ _ _ c.in_ok-areas.ensures.kept c.in_err-change_area.ensures.kept)

pub returns-clause-kept : goal.returns-clause-kept
returns-clause-kept g c = g.met.D.Disk.keeps_on true true _ _ _ c.in_ok-areas.ensures.kept c.in_ok-change_area.ensures.kept

pub change_area-requires-clause-room : goal.change_area-requires-clause-room
change_area-requires-clause-room g c =
    let ops = c.args.ops.now in
    let same : c.as_slice.result.now ≡ ops = c.as_slice.ensures in
    let long = area_long ops c.in_ok-areas.areas.generation in
    let is : length (journal_records (head_of (suc c.in_ok-areas.areas.generation) ++ map frame c.as_slice.result.now)) ≡ bytes_before ops =
    ap (λ (l : List Op). length (journal_records (head_of (suc c.in_ok-areas.areas.generation) ++ map frame l))) same ∙ long in
    let room = c.in_ok-room.ensures in
    let some = c.if-room-eq0.false in
    let size = c.half-size.ensures in
    subst (λ (n : ℕ). n < c.in_ok-areas.areas.half) (sym is) (omega (arith, room, some, size))

pub returns-in_err-change_area-clause-any_moment : goal.returns-in_err-change_area-clause-any_moment
returns-in_err-change_area-clause-any_moment g c = λ bytes told empty.
    let a = c.in_ok-areas.areas in
    let then = c.open.ensures.quiet.told ∙ told in
    let holds = c.in_ok-areas.ensures.holds bytes then in
    let zero : a.generation ≡ 0 = (let z = c.if-generation-gt0.false in let e = c.generation.ensures in omega (arith, z, e)) in
    built_leaves (g.D.Disk.view c.args.disk.now) (g.D.Disk.view c.open.new.disk) (g.D.Disk.view c.change_area.new.disk) a c.args.ops.now bytes holds.0 c.requires.framed c.requires.none_stray c.open.ensures.quiet empty zero holds.1
    (subst (λ (l : List Op). LeavesEitherLayout (g.D.Disk.view c.open.new.disk) (g.D.Disk.view c.change_area.new.disk) a.half holds.0 (map frame l)) c.as_slice.ensures (c.change_area.ensures.any_moment bytes then holds.0 holds.1))

pub returns-clause-any_moment : goal.returns-clause-any_moment
returns-clause-any_moment g c = λ bytes told empty.
    let a = c.in_ok-areas.areas in
    let then = c.open.ensures.quiet.told ∙ told in
    let holds = c.in_ok-areas.ensures.holds bytes then in
    let zero : a.generation ≡ 0 = (let z = c.if-generation-gt0.false in let e = c.generation.ensures in omega (arith, z, e)) in
    built_leaves (g.D.Disk.view c.args.disk.now) (g.D.Disk.view c.open.new.disk) (g.D.Disk.view c.change_area.new.disk) a c.args.ops.now bytes holds.0 c.requires.framed c.requires.none_stray c.open.ensures.quiet empty zero holds.1
    (subst (λ (l : List Op). LeavesEitherLayout (g.D.Disk.view c.open.new.disk) (g.D.Disk.view c.change_area.new.disk) a.half holds.0 (map frame l)) c.as_slice.ensures (c.change_area.ensures.any_moment bytes then holds.0 holds.1))

pub returns-clause-written : goal.returns-clause-written
returns-clause-written g c =
    holds_all (g.D.Disk.view c.change_area.new.disk) c.change_area.new.areas c.args.ops.now c.requires.framed c.requires.none_stray
    (subst (λ (l : List Op). IfTold (g.D.Disk.view c.change_area.new.disk) (AreasHold c.change_area.new.areas (map frame l)) × EachImage (g.D.Disk.view c.change_area.new.disk) (AreasHold c.change_area.new.areas (map frame l))) c.as_slice.ensures c.in_ok-change_area.ensures.now)
