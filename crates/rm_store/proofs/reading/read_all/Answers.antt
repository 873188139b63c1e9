use Rattle.rm_store.proofs.Common.{◌≡◌, ℕ, true, false, Option, None, Some, Ok, Err, Result, List, [], ◌∷◌, ◌++◌, refl, sym, ap, subst, ◌∙◌, OnOk, err_from_is_err_and, IfTold, HasWalked, quiet_trans}
use Rattle.rm_journal.specs.declared.fault.JournalError
use Rattle.rm_journal.specs.Fault.{IsReadError}
use Rattle.rm_store.specs.declared.fault.StoreError
use Rattle.rm_store.specs.Errors.{of_journal, IsOpenError}
use Rattle.rm_store.proofs.SoFar.{begun, read_more, read_all_of, content_of, reads_up_to}
use Rattle.rm_store.proofs.Faultless.{content_faultless}
use Rattle.rm_store.proofs.Why.{why_given, why_taken}
use Rattle.rm_store.proofs.reading.read_all.Goals as goal

pub payloads-init : goal.payloads-init
payloads-init g c = record {
  read = rw (c.new-tree.ensures, c.new-ops.ensures) (begun (g.D.Disk.view c.args.disk.now) (g.D.Disk.view c.start.new.disk) c.in_ok-reading.reading c.start.ensures.quiet c.in_ok-reading.ensures.reading c.in_ok-reading.ensures.first);
  kept = c.in_ok-reading.ensures.kept;
}

pub returns-in_err-gate-clause-kept : goal.returns-in_err-gate-clause-kept
returns-in_err-gate-clause-kept g c =
    let p = err_from_is_err_and c.from_residual-in_err-gate.result c.from_residual-in_err-gate.ensures.1 in
    rw p.1 (g.met.D.Disk.keeps_on true false _ _ _ c.payloads.invariant.kept c.in_err-gate.ensures.kept)

pub returns-clause-kept : goal.returns-clause-kept
returns-clause-kept g c = g.met.D.Disk.keeps_on true true _ _ _ c.payloads.invariant.kept c.in_ok-gate.ensures.kept

pub returns-in_err-walk_on-clause-kept : goal.returns-in_err-walk_on-clause-kept
returns-in_err-walk_on-clause-kept g c =
    let p = err_from_is_err_and c.from_residual-in_err-walk_on.result c.from_residual-in_err-walk_on.ensures.1 in
    rw p.1 (g.met.D.Disk.keeps_on true false _ _ _ (g.met.D.Disk.keeps_on true true _ _ _ c.payloads.invariant.kept c.in_ok-gate.ensures.kept) c.in_err-walk_on.ensures.kept)

pub returns-in-Err-clause-kept : goal.returns-in-Err-clause-kept
returns-in-Err-clause-kept g c =
    g.met.D.Disk.keeps_on true false _ _ _ (g.met.D.Disk.keeps_on true true _ _ _ (g.met.D.Disk.keeps_on true true _ _ _ c.payloads.invariant.kept c.in_ok-gate.ensures.kept) c.in_ok-walk_on.ensures.kept) (g.met.D.Disk.keeps_same false _)

ok_there : {E P : Type 0} (r : Result (Unit {0}) E) → ((e : E) → r ≡ Err e → ⊥) → OnOk r P → P
ok_there (Ok x) never p = p
ok_there (Err e) never p = absurd (never e refl)

pub payloads-preserved : goal.payloads-preserved
payloads-preserved g c =
    let v = g.D.Disk.view c.payloads.disk in
    let took = ok_there c.take_in.result c.in_default-take_in.not-Err c.take_in.ensures.ok in
    let a = c.payloads.reading in
    let b = c.next.new.self in
    let gives : IfTold v (λ bytes. (given : List (List ℕ)) → HasWalked a.walk bytes given → HasWalked b.walk bytes (given ++ c.deref.result.now ∷ [])) =
    (λ bytes told given read.
    let h = rw c.in-Some.is at c.in_ok-gate.ensures.next in
    let n = h bytes told given read in
    subst (λ p. HasWalked b.walk bytes (given ++ p ∷ [])) (sym c.deref.ensures.value) n.1) in
    record {
      read = read_more (g.D.Disk.view c.args.disk.now) v (g.D.Disk.view c.next.new.disk) a b c.payloads.tree c.take_in.new.tree c.payloads.ops c.take_in.new.ops c.deref.result.now took.0
          c.payloads.invariant.read c.next.ensures.quiet c.next.ensures.reading c.next.ensures.others gives took.1 took.2 took.3 took.4;
      kept = g.met.D.Disk.keeps_on true true _ _ _ c.payloads.invariant.kept c.in_ok-gate.ensures.kept;
    }

the_error : {X E : Type 0} {a b : E} → ◌≡◌ {A = Result X E} (Err a) (Err b) → a ≡ b
the_error e = cc

fault_there : (error : JournalError.JournalError) → of_journal error ≡ StoreError.TheVariants.DiskFault → error ≡ JournalError.TheVariants.DiskFault
fault_there JournalError.TheVariants.DiskFault e = refl
fault_there (JournalError.TheVariants.Damaged offset) e = cc
fault_there (JournalError.TheVariants.Full needed room) e = cc
fault_there JournalError.TheVariants.NeedsReopen e = cc
fault_there JournalError.TheVariants.Memory e = cc

read_error : (error : JournalError.JournalError) → IsReadError error → IsOpenError (of_journal error)
read_error JournalError.TheVariants.DiskFault is = tt
read_error (JournalError.TheVariants.Damaged offset) is = tt
read_error (JournalError.TheVariants.Full needed room) is = is
read_error JournalError.TheVariants.NeedsReopen is = is
read_error JournalError.TheVariants.Memory is = tt

none_is : (o : Option ℕ) → ((n : ℕ) → o ≡ Some n → ⊥) → o ≡ None
none_is None never = refl
none_is (Some n) never = absurd (never n refl)

pub returns-clause-stays : goal.returns-clause-stays
returns-clause-stays g c =
    let v = g.D.Disk.view c.payloads.disk in
    let so_far = c.payloads.invariant.read in
    let none = rw (none_is c.in_ok-gate.field-0 c.in_default.not-Some) at c.in_ok-gate.ensures.next in
    record {
      stands = c.areas-areas.ensures.stands;
      unbroken = c.areas-areas.ensures.fresh.1;
      no_build = c.areas-areas.ensures.fresh.0;
      framed = so_far.read.framed;
      has = λ bytes told.
          let there = read_all_of (g.D.Disk.view c.args.disk.now) v (g.D.Disk.view c.next.new.disk) c.payloads.reading c.next.new.self c.payloads.tree c.payloads.ops so_far c.next.ensures.quiet c.next.ensures.others (λ b t given read. (none b t given read).0) bytes told in
          (there.given, c.areas-areas.ensures.holds bytes told there.given there.walked, there.reads);
    }

pub returns-clause-content : goal.returns-clause-content
returns-clause-content g c = λ bytes told.
    let h = (returns-clause-stays g c).has bytes told in
    content_of c.areas-areas.result h.0 c.payloads.ops bytes h.1 h.2 c.payloads.invariant.read.read.none_stray

pub returns-clause-faultless : goal.returns-clause-faultless
returns-clause-faultless g c = λ bytes told.
    let told_now = c.next.ensures.quiet.told ∙ (c.payloads.invariant.read.quiet.told ∙ told) in
    content_faultless bytes c.payloads.ops (returns-clause-content g c bytes told_now)

pub returns-in_err-reading-clause-why : goal.returns-in_err-reading-clause-why
returns-in_err-reading-clause-why g c =
    let p = err_from_is_err_and c.from_residual.result c.from_residual.ensures.1 in
    rw p.1 (λ bytes told.
    let long = g.met.D.Disk.image_size c.args.disk.now bytes (g.met.D.Disk.as_it_reads c.args.disk.now bytes told) in
    why_given (g.D.Disk.view c.args.disk.now) bytes c.in_err-reading.field-0.0 long p.2 (λ offset is. c.in_err-reading.ensures.damaged offset (ap (λ (x : JournalError.JournalError). Err x) is) bytes told))

pub returns-in_err-gate-clause-why : goal.returns-in_err-gate-clause-why
returns-in_err-gate-clause-why g c =
    let p = err_from_is_err_and c.from_residual-in_err-gate.result c.from_residual-in_err-gate.ensures.1 in
    rw p.1 (λ bytes told.
    let told_now = c.payloads.invariant.read.quiet.told ∙ told in
    let long = g.met.D.Disk.image_size c.payloads.disk bytes (g.met.D.Disk.as_it_reads c.payloads.disk bytes told_now) in
    why_given (g.D.Disk.view c.payloads.disk) bytes c.in_err-gate.field-0.0 long p.2 (λ offset is. c.in_err-gate.ensures.damaged offset (ap (λ (x : JournalError.JournalError). Err x) is) bytes told_now))

pub returns-in_err-walk_on-clause-why : goal.returns-in_err-walk_on-clause-why
returns-in_err-walk_on-clause-why g c =
    let p = err_from_is_err_and c.from_residual-in_err-walk_on.result c.from_residual-in_err-walk_on.ensures.1 in
    rw p.1 (λ bytes told.
    let told_now = c.next.ensures.quiet.told ∙ (c.payloads.invariant.read.quiet.told ∙ told) in
    let long = g.met.D.Disk.image_size c.next.new.disk bytes (g.met.D.Disk.as_it_reads c.next.new.disk bytes told_now) in
    why_given (g.D.Disk.view c.next.new.disk) bytes c.in_err-walk_on.field-0.0 long p.2 (λ offset is. c.in_err-walk_on.ensures.damaged offset (ap (λ (x : JournalError.JournalError). Err x) is) bytes told_now))

pub returns-in_err-walk_on-clause-errors : goal.returns-in_err-walk_on-clause-errors
returns-in_err-walk_on-clause-errors g c =
    let p = err_from_is_err_and c.from_residual-in_err-walk_on.result c.from_residual-in_err-walk_on.ensures.1 in
    rw p.1 (subst IsOpenError (sym p.2) (read_error c.in_err-walk_on.field-0.0 c.in_err-walk_on.ensures.errors))

pub returns-in-Err-clause-why : goal.returns-in-Err-clause-why
returns-in-Err-clause-why g c = λ bytes told.
    let v0 = g.D.Disk.view c.payloads.disk in
    let v1 = g.D.Disk.view c.next.new.disk in
    let v2 = g.D.Disk.view c.walk_on.new.disk in
    let told0 = c.payloads.invariant.read.quiet.told ∙ told in
    let told1 = c.next.ensures.quiet.told ∙ told0 in
    let told2 = c.walk_on.ensures.quiet.told ∙ told1 in
    let long = g.met.D.Disk.image_size c.walk_on.new.disk bytes (g.met.D.Disk.as_it_reads c.walk_on.new.disk bytes told2) in
    let gives = rw c.in-Some.is at c.in_ok-gate.ensures.next in
    let reads = reads_up_to (g.D.Disk.view c.args.disk.now) v0 v1 v2 c.payloads.reading c.next.new.self c.walk_on.new.reading c.payloads.tree c.payloads.ops bytes c.deref.result.now c.in-Some.gate
    c.payloads.invariant.read told0 told2 long c.next.ensures.others c.walk_on.ensures.others c.walk_on.ensures.reading c.in_ok-walk_on.ensures.done
    (λ given read.
    let n = gives bytes told0 given read in
    (n.0, subst (λ p. HasWalked c.next.new.self.walk bytes (given ++ p ∷ [])) (sym c.deref.ensures.value) n.1))
    (c.in_ok-walk_on.ensures.walked bytes told1) in
    why_taken bytes c.deref.result.now c.payloads.ops c.in-Some.gate c.in-Err.why reads
    (λ offset is. c.take_in.ensures.damaged offset (c.in-Err.is ∙ ap (λ (x : StoreError.StoreError). Err x) is))
    (λ number offset is. c.take_in.ensures.stray number offset (c.in-Err.is ∙ ap (λ (x : StoreError.StoreError). Err x) is))

pub returns-in-Err-clause-quiet : goal.returns-in-Err-clause-quiet
returns-in-Err-clause-quiet g c =
    let v = g.D.Disk.view c.args.disk.now in
    let v0 = g.D.Disk.view c.payloads.disk in
    let v1 = g.D.Disk.view c.next.new.disk in
    quiet_trans v v1 (g.D.Disk.view c.walk_on.new.disk) (quiet_trans v v0 v1 c.payloads.invariant.read.quiet c.next.ensures.quiet) c.walk_on.ensures.quiet

pub returns-clause-quiet : goal.returns-clause-quiet
returns-clause-quiet g c = quiet_trans (g.D.Disk.view c.args.disk.now) (g.D.Disk.view c.payloads.disk) (g.D.Disk.view c.next.new.disk) c.payloads.invariant.read.quiet c.next.ensures.quiet

pub returns-in_err-gate-clause-fault : goal.returns-in_err-gate-clause-fault
returns-in_err-gate-clause-fault g c = λ fault.
    let p = err_from_is_err_and c.from_residual-in_err-gate.result c.from_residual-in_err-gate.ensures.1 in
    let e : c.in_err-gate.field-0.0 ≡ JournalError.TheVariants.DiskFault = fault_there c.in_err-gate.field-0.0 (sym p.2 ∙ the_error (sym p.1 ∙ fault)) in
    g.met.D.Disk.faulted_later true c.args.disk.now c.payloads.disk c.next.new.disk c.payloads.invariant.kept c.payloads.invariant.read.quiet.goes_on.faults
    (c.next.ensures.fault (c.in_err-gate.was ∙ ap (λ (x : JournalError.JournalError). Err x) e))

pub returns-in_err-walk_on-clause-fault : goal.returns-in_err-walk_on-clause-fault
returns-in_err-walk_on-clause-fault g c = λ fault.
    let p = err_from_is_err_and c.from_residual-in_err-walk_on.result c.from_residual-in_err-walk_on.ensures.1 in
    let e : c.in_err-walk_on.field-0.0 ≡ JournalError.TheVariants.DiskFault = fault_there c.in_err-walk_on.field-0.0 (sym p.2 ∙ the_error (sym p.1 ∙ fault)) in
    let quiet = quiet_trans (g.D.Disk.view c.args.disk.now) (g.D.Disk.view c.payloads.disk) (g.D.Disk.view c.next.new.disk) c.payloads.invariant.read.quiet c.next.ensures.quiet in
    g.met.D.Disk.faulted_later true c.args.disk.now c.next.new.disk c.walk_on.new.disk (g.met.D.Disk.keeps_on true true _ _ _ c.payloads.invariant.kept c.in_ok-gate.ensures.kept) quiet.goes_on.faults
    (c.walk_on.ensures.fault (c.in_err-walk_on.was ∙ ap (λ (x : JournalError.JournalError). Err x) e))
