use Rattle.rm_store.proofs.Common.{◌≡◌, ℕ, ◌/◌, true, false, Option, None, Some, Err, Result, refl, sym, ◌∙◌, ap, subst, err_from_is_err_and, quiet_trans, JournalError, IsDamagedLayout}
use Rattle.rm_disk.proofs.Views.{quiet_same}
use Rattle.rm_journal.specs.declared.fault.JournalError.TheVariants.{Damaged}
use Rattle.rm_journal.specs.two_areas.Reading.{ReadingAt}
use Rattle.rm_store.proofs.WalkingOn.{walked_none, walked_more, walked_all}
use Rattle.rm_store.proofs.reading.walk_on.Goals as goal

pub payloads-init : goal.payloads-init
payloads-init g c = record {
  reading = c.requires;
  others = refl;
  walked = λ bytes told. walked_none c.args.reading.now.walk bytes;
  quiet = quiet_same (g.D.Disk.view c.args.disk.now);
  kept = g.met.D.Disk.keeps_same true c.args.disk.now;
}

pub payloads-preserved : goal.payloads-preserved
payloads-preserved g c =
    let i = c.payloads.invariant in
    let next = rw c.in-Some.is at c.in_ok-_gate.ensures.next in
    record {
      reading = c.next.ensures.reading;
      others = c.next.ensures.others ∙ ap (λ (r : ReadingAt). record r { walk = c.next.new.self.walk }) i.others;
      walked = λ bytes told. walked_more c.args.reading.now.walk c.payloads.reading.walk c.next.new.self.walk bytes c.next.new.out.items (i.walked bytes told) (λ given read. (next bytes (i.quiet.told ∙ told) given read).1);
      quiet = quiet_trans (g.D.Disk.view c.args.disk.now) (g.D.Disk.view c.payloads.disk) (g.D.Disk.view c.next.new.disk) i.quiet c.next.ensures.quiet;
      kept = g.met.D.Disk.keeps_on true true _ _ _ i.kept c.in_ok-_gate.ensures.kept;
    }

pub returns-in_err-_gate-clause-damaged : goal.returns-in_err-_gate-clause-damaged
returns-in_err-_gate-clause-damaged g c = λ offset is bytes told.
    let i = c.payloads.invariant in
    let p = err_from_is_err_and c.from_residual.result c.from_residual.ensures.1 in
    let e : c.in_err-_gate.field-0.0 ≡ Damaged offset = sym p.2 ∙ the_error (sym p.1 ∙ is) in
    subst (λ (n : ℕ). IsDamagedLayout (n / 2) bytes offset) i.quiet.goes_on.size (c.in_err-_gate.ensures.damaged offset (ap (λ (x : JournalError). Err x) e) bytes (i.quiet.told ∙ told))
  where
    the_error : {X E : Type 0} {a b : E} → ◌≡◌ {A = Result X E} (Err a) (Err b) → a ≡ b
    the_error e = cc

pub returns-in_err-_gate-clause-kept : goal.returns-in_err-_gate-clause-kept
returns-in_err-_gate-clause-kept g c =
    let p = err_from_is_err_and c.from_residual.result c.from_residual.ensures.1 in
    rw p.1 (g.met.D.Disk.keeps_on true false _ _ _ c.payloads.invariant.kept c.in_err-_gate.ensures.kept)

pub returns-clause-walked : goal.returns-clause-walked
returns-clause-walked g c = λ bytes told.
    let i = c.payloads.invariant in
    let next = rw (none_is c.in_ok-_gate.field-0 c.in_default.not-Some) at c.in_ok-_gate.ensures.next in
    walked_all c.args.reading.now.walk c.payloads.reading.walk c.next.new.self.walk bytes (i.walked bytes told) (λ given read. (next bytes (i.quiet.told ∙ told) given read).0)
  where
    none_is : (o : Option ℕ) → ((n : ℕ) → o ≡ Some n → ⊥) → o ≡ None
    none_is None never = refl
    none_is (Some n) never = absurd (never n refl)

pub returns-clause-kept : goal.returns-clause-kept
returns-clause-kept g c = g.met.D.Disk.keeps_on true true _ _ _ c.payloads.invariant.kept c.in_ok-_gate.ensures.kept
