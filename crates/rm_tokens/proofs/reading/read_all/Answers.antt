use Rattle.std.proofs.Common.{◌≡◌, ℕ, ◌+◌, ◌-◌, true, false, Option, None, Some, Err, List, [], ◌∷◌, ◌++◌, map, refl, sym, ap, subst, ◌∙◌, arith}
use Rattle.std.proofs.lemmas.Result.{err_from_is_err_and}
use Rattle.rm_formats.specs.Device.{IsDamagedAt}
use Rattle.rm_disk.specs.Disk.{IfTold}
use Rattle.rm_journal.specs.declared.fault.JournalError
use Rattle.rm_journal.specs.Journal.{HasRead}
use Rattle.rm_tokens.specs.declared.fault.TokenError
use Rattle.rm_tokens.specs.Frames.{token_frame}
use Rattle.rm_tokens.specs.Held.{IsWhy}
use Rattle.rm_tokens.proofs.SoFar.{begun, read_more, region_all, all_read, reads_up_to, holds_faultless, why_open, why_taken}
use Rattle.rm_tokens.proofs.reading.read_all.Goals as goal

pub payloads-init : goal.payloads-init
payloads-init g c = record {
  read = rw c.new-rows.ensures.items (begun (g.D.Disk.view c.args.disk.now) (g.D.Disk.view c.open.new.disk) c.in_ok-journal.journal c.size-size.result c.open.ensures.quiet c.size-size.ensures c.in_ok-journal.ensures.ok c.in_ok-journal.ensures.holds);
  kept = c.in_ok-journal.ensures.kept;
}

pub returns-in_err-gate-clause-kept : goal.returns-in_err-gate-clause-kept
returns-in_err-gate-clause-kept g c =
    let p = err_from_is_err_and c.from_residual-in_err-gate.result c.from_residual-in_err-gate.ensures.1 in
    rw p.1 (g.met.D.Disk.keeps_on true false _ _ _ c.payloads.invariant.kept c.in_err-gate.ensures.kept)

pub returns-clause-kept : goal.returns-clause-kept
returns-clause-kept g c = g.met.D.Disk.keeps_on true true _ _ _ c.payloads.invariant.kept c.in_ok-gate.ensures.kept

pub returns-in_err-take_record-clause-kept : goal.returns-in_err-take_record-clause-kept
returns-in_err-take_record-clause-kept g c =
    let p = err_from_is_err_and c.from_residual-in_err-take_record.result c.from_residual-in_err-take_record.ensures.1 in
    rw p.1 (g.met.D.Disk.keeps_on true false _ _ _ (g.met.D.Disk.keeps_on true true _ _ _ c.payloads.invariant.kept c.in_ok-gate.ensures.kept) (g.met.D.Disk.keeps_same false _))

pub payloads-preserved : goal.payloads-preserved
payloads-preserved g c =
    let v = g.D.Disk.view c.payloads.disk in
    let took = c.in_ok-take_record.ensures.ok in
    let j = c.payloads.journal in
    let entries = c.payloads.invariant.read.0 in
    let gives : IfTold v (λ bytes. (left : List (List ℕ)) → HasRead j bytes (map token_frame entries) left → (others : List (List ℕ)) × HasRead c.next.new.self bytes (map token_frame entries ++ c.deref.result.now ∷ []) others) =
    (λ bytes told left read.
    let h = rw c.in-Some.is at c.in_ok-gate.ensures.next in
    let n = h bytes told (map token_frame entries) left read in
    (n.1, subst (λ p. HasRead c.next.new.self bytes (map token_frame entries ++ p ∷ []) n.1) (sym c.deref.ensures.value) n.3)) in
    record {
      read = (
        entries ++ took.0 ∷ [],
        read_more (g.D.Disk.view c.args.disk.now) v (g.D.Disk.view c.next.new.disk) j c.next.new.self c.payloads.rows.items c.take_record.new.rows.items entries c.deref.result.now took.0
            c.payloads.invariant.read.1 c.next.ensures.quiet c.next.ensures.stands c.next.ensures.others gives took.1 took.2 took.3,
      );
      kept = g.met.D.Disk.keeps_on true true _ _ _ c.payloads.invariant.kept c.in_ok-gate.ensures.kept;
    }

none_is : (o : Option ℕ) → ((n : ℕ) → o ≡ Some n → ⊥) → o ≡ None
none_is None never = refl
none_is (Some n) never = absurd (never n refl)

pub returns-clause-read : goal.returns-clause-read
returns-clause-read g c =
    let so_far = c.payloads.invariant.read.1 in
    let entries = c.payloads.invariant.read.0 in (
      entries,
      so_far.are,
      so_far.rows_are,
      λ bytes told.
          let v = g.D.Disk.view c.payloads.disk in
          let told_now = sym c.next.ensures.quiet.told ∙ told in
          let long = g.met.D.Disk.image_size c.payloads.disk bytes (g.met.D.Disk.as_it_reads c.payloads.disk bytes told_now) in
          let none = rw (none_is c.in_ok-gate.field-0 c.in_default.not-Some) at c.in_ok-gate.ensures.next in
          all_read (g.D.Disk.view c.args.disk.now) v c.payloads.journal c.payloads.rows.items entries bytes so_far told_now long
          (λ left read. (none bytes told_now (map token_frame entries) left read).0),
    )

pub returns-clause-faultless : goal.returns-clause-faultless
returns-clause-faultless g c = λ bytes told.
    let told_now = c.next.ensures.quiet.told ∙ (c.payloads.invariant.read.1.quiet.told ∙ told) in
    let read = returns-clause-read g c in
    holds_faultless bytes read.0 (read.3 bytes told_now)

pub returns-in_err-journal-clause-why : goal.returns-in_err-journal-clause-why
returns-in_err-journal-clause-why g c =
    let p = err_from_is_err_and c.from_residual.result c.from_residual.ensures.1 in
    rw p.1 (λ bytes told.
    let long = g.met.D.Disk.image_size c.args.disk.now bytes (g.met.D.Disk.as_it_reads c.args.disk.now bytes told) in
    let region = region_all bytes (0 + c.size-size.result) (omega (arith, long, c.size-size.ensures)) in
    let damaged : (offset : ℕ) → c.in_err-journal.field-0.0 ≡ JournalError.TheVariants.Damaged offset → IsDamagedAt bytes offset =
    (λ offset is.
    let found = (c.in_err-journal.ensures.damaged offset (ap (λ (x : JournalError.JournalError). Err x) is)).1 bytes told in
    let place : offset - 0 ≡ offset = omega arith in
    subst (IsDamagedAt bytes) place (subst (λ b. IsDamagedAt b (offset - 0)) region found)) in
    subst (IsWhy bytes) (sym p.2) (why_open bytes c.in_err-journal.field-0.0 damaged))

pub returns-in_err-take_record-clause-why : goal.returns-in_err-take_record-clause-why
returns-in_err-take_record-clause-why g c =
    let p = err_from_is_err_and c.from_residual-in_err-take_record.result c.from_residual-in_err-take_record.ensures.1 in
    rw p.1 (λ bytes told.
    let v = g.D.Disk.view c.payloads.disk in
    let entries = c.payloads.invariant.read.0 in
    let so_far = c.payloads.invariant.read.1 in
    let told_now = so_far.quiet.told ∙ told in
    let long = g.met.D.Disk.image_size c.payloads.disk bytes (g.met.D.Disk.as_it_reads c.payloads.disk bytes told_now) in
    let gives = rw c.in-Some.is at c.in_ok-gate.ensures.next in
    let reads = reads_up_to (g.D.Disk.view c.args.disk.now) v c.payloads.journal c.payloads.rows.items entries bytes c.deref.result.now c.in-Some.gate so_far told_now long
    (λ left read.
    let n = gives bytes told_now (map token_frame entries) left read in
    (n.0, (n.1, n.2 ∙ ap (λ p. p ∷ n.1) (sym c.deref.ensures.value)))) in
    subst (IsWhy bytes) (sym p.2) (why_taken bytes c.deref.result.now c.payloads.rows.items entries c.in-Some.gate c.in_err-take_record.field-0.0 reads so_far.rows_are
    (λ offset is. c.in_err-take_record.ensures.damaged offset (ap (λ (x : TokenError.TokenError). Err x) is))))
