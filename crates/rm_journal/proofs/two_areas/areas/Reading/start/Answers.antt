use Rattle.std.proofs.lemmas.Result.{err_from_is_err_and}
use Rattle.std.proofs.Common.{◌≡◌, ◌/◌, true, false, Err, sym, ◌∙◌, ap}
use Rattle.rm_journal.specs.declared.fault.JournalError
use Rattle.rm_journal.specs.two_areas.Areas.{head_of}
use Rattle.rm_journal.proofs.two_areas.Opening.{picked_both, head_passed, first_damaged, twice_damaged}
use Rattle.rm_journal.proofs.two_areas.areas.Reading.start.Goals as goal

pub returns-in_err-one-clause-damaged : goal.returns-in_err-one-clause-damaged
returns-in_err-one-clause-damaged g c = λ offset is.
    let p = err_from_is_err_and c.from_residual.result c.from_residual.ensures.1 in
    let e : c.in_err-one.field-0.0 ≡ JournalError.TheVariants.Damaged offset = cc (p.1, p.2, is) in
    first_damaged (g.D.Disk.view c.args.disk.now) c.size-half.ensures (c.in_err-one.ensures.damaged offset (ap (λ (x : JournalError.JournalError). Err x) e))

pub returns-then-is_twice-clause-damaged : goal.returns-then-is_twice-clause-damaged
returns-then-is_twice-clause-damaged g c = λ offset is.
    let place : offset ≡ c.size-half.result / 2 = cc in
    twice_damaged c.size-half.ensures c.generation_at.ensures.quiet (c.is_twice.ensures.twice c.if-is_twice.true) c.in_ok-one.ensures.found c.in_ok-two.ensures.found place

pub returns-in_err-two-clause-kept : goal.returns-in_err-two-clause-kept
returns-in_err-two-clause-kept g c =
    let p = err_from_is_err_and c.from_residual-in_err-two.result c.from_residual-in_err-two.ensures.1 in
    rw p.1 ((g.met.D.Disk.keeps_on true false _ _ _ c.in_ok-one.ensures.kept c.in_err-two.ensures.kept))

pub returns-then-is_twice-clause-kept : goal.returns-then-is_twice-clause-kept
returns-then-is_twice-clause-kept g c =
    (g.met.D.Disk.keeps_on true false _ _ _ c.in_ok-one.ensures.kept (g.met.D.Disk.keeps_on true false _ _ _ c.in_ok-two.ensures.kept (g.met.D.Disk.keeps_same false _)))

pub returns-in_err-walk-clause-kept : goal.returns-in_err-walk-clause-kept
returns-in_err-walk-clause-kept g c =
    let p = err_from_is_err_and c.from_residual-in_err-walk.result c.from_residual-in_err-walk.ensures.1 in
    rw p.1 ((g.met.D.Disk.keeps_on true false _ _ _ c.in_ok-one.ensures.kept (g.met.D.Disk.keeps_on true false _ _ _ c.in_ok-two.ensures.kept c.in_err-walk.ensures.kept)))

pub returns-clause-kept : goal.returns-clause-kept
returns-clause-kept g c =
    (g.met.D.Disk.keeps_on true true _ _ _ c.in_ok-one.ensures.kept (g.met.D.Disk.keeps_on true true _ _ _ c.in_ok-two.ensures.kept c.in_ok-walk.ensures.kept))

pub start-requires-clause-walked : goal.start-requires-clause-walked
start-requires-clause-walked g c = λ bytes told.
    let size : c.size-half.result ≡ (g.D.Disk.view c.generation_at-2.new.disk).size = c.size-half.ensures ∙ sym (c.generation_at-2.ensures.quiet.goes_on.size ∙ c.generation_at.ensures.quiet.goes_on.size) in
    let picked = rw (← c.picked-generation.ensures) at (picked_both c.generation_at.ensures.quiet c.generation_at-2.ensures.quiet c.in_ok-one.ensures.found c.in_ok-two.ensures.found
    c.in_ok-one.ensures.range c.in_ok-two.ensures.range c.in_ok-one.ensures.live c.in_ok-two.ensures.live (c.is_twice.ensures.apart c.if-is_twice.false)) in
    (head_of c.picked-generation.result, head_passed size picked (g.met.D.Disk.as_it_reads c.generation_at-2.new.disk) (g.met.D.Disk.image_size c.generation_at-2.new.disk) c.head_size.ensures.none c.head_size.ensures.some c.start_of-from.ensures bytes told)

pub returns-clause-first : goal.returns-clause-first
returns-clause-first g c = λ bytes told.
    let size : c.size-half.result ≡ (g.D.Disk.view c.generation_at-2.new.disk).size = c.size-half.ensures ∙ sym (c.generation_at-2.ensures.quiet.goes_on.size ∙ c.generation_at.ensures.quiet.goes_on.size) in
    let picked = rw (← c.picked-generation.ensures) at (picked_both c.generation_at.ensures.quiet c.generation_at-2.ensures.quiet c.in_ok-one.ensures.found c.in_ok-two.ensures.found
    c.in_ok-one.ensures.range c.in_ok-two.ensures.range c.in_ok-one.ensures.live c.in_ok-two.ensures.live (c.is_twice.ensures.apart c.if-is_twice.false)) in
    rw (c.in_ok-walk.ensures.at) (head_passed size picked (g.met.D.Disk.as_it_reads c.generation_at-2.new.disk) (g.met.D.Disk.image_size c.generation_at-2.new.disk) c.head_size.ensures.none c.head_size.ensures.some c.start_of-from.ensures bytes (sym c.start.ensures.quiet.told ∙ told))
