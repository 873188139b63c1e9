use Rattle.std.proofs.lemmas.Result.{err_from_is_err_and}
use Rattle.std.proofs.Common.{◌≡◌, ◌/◌, ℕ, true, false, not, Err, sym, ◌∙◌, ap, arith, nat_le, nat_eq}
use Rattle.rm_disk.proofs.Views.{quiet_trans}
use Rattle.rm_journal.specs.declared.fault.JournalError
use Rattle.rm_journal.proofs.two_areas.Opening.{AreOpened, picked_both, opened_stands, opened_holds, live_yes, live_no, halves, first_damaged, twice_damaged, damaged_later}
use Rattle.rm_journal.proofs.two_areas.areas.Areas.open.Goals as goal

pub returns-in_err-one-clause-kept : goal.returns-in_err-one-clause-kept
returns-in_err-one-clause-kept g c =
    let p = err_from_is_err_and c.from_residual.result c.from_residual.ensures.1 in
    rw p.1 (c.in_err-one.ensures.kept)

pub returns-in_err-two-clause-kept : goal.returns-in_err-two-clause-kept
returns-in_err-two-clause-kept g c =
    let p = err_from_is_err_and c.from_residual-in_err-two.result c.from_residual-in_err-two.ensures.1 in
    rw p.1 ((g.met.D.Disk.keeps_on true false _ _ _ c.in_ok-one.ensures.kept c.in_err-two.ensures.kept))

pub returns-then-is_twice-clause-kept : goal.returns-then-is_twice-clause-kept
returns-then-is_twice-clause-kept g c =
    (g.met.D.Disk.keeps_on true false _ _ _ c.in_ok-one.ensures.kept (g.met.D.Disk.keeps_on true false _ _ _ c.in_ok-two.ensures.kept (g.met.D.Disk.keeps_same false _)))

pub returns-in_err-journal-clause-kept : goal.returns-in_err-journal-clause-kept
returns-in_err-journal-clause-kept g c =
    let p = err_from_is_err_and c.from_residual-in_err-journal.result c.from_residual-in_err-journal.ensures.1 in
    rw p.1 ((g.met.D.Disk.keeps_on true false _ _ _ c.in_ok-one.ensures.kept (g.met.D.Disk.keeps_on true false _ _ _ c.in_ok-two.ensures.kept c.in_err-journal.ensures.kept)))

pub returns-clause-kept : goal.returns-clause-kept
returns-clause-kept g c =
    (g.met.D.Disk.keeps_on true true _ _ _ c.in_ok-one.ensures.kept (g.met.D.Disk.keeps_on true true _ _ _ c.in_ok-two.ensures.kept c.in_ok-journal.ensures.kept))

-- what was opened
opened : (g : _) (c : goal.After-picked-other_live g)
    → AreOpened (g.D.Disk.view c.open.new.disk) (c.size-half.result / 2) (nat_le c.in_ok-one.one c.in_ok-two.two) c.picked-generation.result c.picked-other_live.result c.in_ok-journal.journal (not (nat_eq c.picked-other_live.result 0)) c.head_size.result
opened g c =
    let size : c.size-half.result ≡ (g.D.Disk.view c.open.new.disk).size = c.size-half.ensures ∙ sym (c.open.ensures.quiet.goes_on.size ∙ c.generation_at-2.ensures.quiet.goes_on.size ∙ c.generation_at.ensures.quiet.goes_on.size) in
    let fits = halves c.size-half.result in
    record {
      picked = rw (c.picked-generation.ensures, c.picked-other_live.ensures) (picked_both c.generation_at.ensures.quiet (quiet_trans _ _ _ c.generation_at-2.ensures.quiet c.open.ensures.quiet) c.in_ok-one.ensures.found c.in_ok-two.ensures.found
          c.in_ok-one.ensures.range c.in_ok-two.ensures.range c.in_ok-one.ensures.live c.in_ok-two.ensures.live (c.is_twice.ensures.apart c.if-is_twice.false));
      size = ap (λ (n : ℕ). n / 2) size;
      inside = omega (arith, fits, size);
      durable = c.in_ok-journal.ensures.durable;
      reads = g.met.D.Disk.as_it_reads c.open.new.disk;
      sizes = g.met.D.Disk.image_size c.open.new.disk;
      opened = rw (← c.start_of-from.ensures) c.in_ok-journal.ensures.ok;
      alive = live_yes c.picked-other_live.result;
      dead = live_no c.picked-other_live.result;
      none = c.head_size.ensures.none;
      some = c.head_size.ensures.some;
    }

pub returns-clause-stands : goal.returns-clause-stands
returns-clause-stands g c = rw (c.pass.ensures, c.start_of-from.ensures) (opened_stands _ _ _ _ _ _ _ _ (opened g c))

pub returns-clause-holds : goal.returns-clause-holds
returns-clause-holds g c = rw (c.pass.ensures, c.start_of-from.ensures) (opened_holds _ _ _ _ _ _ _ _ (opened g c))

pub returns-in_err-one-clause-damaged : goal.returns-in_err-one-clause-damaged
returns-in_err-one-clause-damaged g c = λ offset is.
    let p = err_from_is_err_and c.from_residual.result c.from_residual.ensures.1 in
    let e : c.in_err-one.field-0.0 ≡ JournalError.TheVariants.Damaged offset = cc (p.1, p.2, is) in
    first_damaged (g.D.Disk.view c.args.disk.now) c.size-half.ensures (c.in_err-one.ensures.damaged offset (ap (λ (x : JournalError.JournalError). Err x) e))

pub returns-then-is_twice-clause-damaged : goal.returns-then-is_twice-clause-damaged
returns-then-is_twice-clause-damaged g c = λ offset is.
    let place : offset ≡ c.size-half.result / 2 = cc in
    twice_damaged c.size-half.ensures c.generation_at.ensures.quiet (c.is_twice.ensures.twice c.if-is_twice.true) c.in_ok-one.ensures.found c.in_ok-two.ensures.found place

pub returns-in_err-journal-clause-damaged : goal.returns-in_err-journal-clause-damaged
returns-in_err-journal-clause-damaged g c = λ offset is bytes told.
    let p = err_from_is_err_and c.from_residual-in_err-journal.result c.from_residual-in_err-journal.ensures.1 in
    let e : c.in_err-journal.field-0.0 ≡ JournalError.TheVariants.Damaged offset = cc (p.1, p.2, is) in
    let found = c.in_err-journal.ensures.damaged offset (ap (λ (x : JournalError.JournalError). Err x) e) in
    let picked = picked_both c.generation_at.ensures.quiet c.generation_at-2.ensures.quiet c.in_ok-one.ensures.found c.in_ok-two.ensures.found
    c.in_ok-one.ensures.range c.in_ok-two.ensures.range c.in_ok-one.ensures.live c.in_ok-two.ensures.live (c.is_twice.ensures.apart c.if-is_twice.false) in
    let same = c.generation_at-2.ensures.quiet.told ∙ (c.generation_at.ensures.quiet.told ∙ told) in
    rw (← c.size-half.ensures) (damaged_later _ _ _ _ _ picked c.start_of-from.result offset c.start_of-from.ensures found.0 bytes same (found.1 bytes same))
