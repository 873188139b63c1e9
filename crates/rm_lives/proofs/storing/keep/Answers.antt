use Rattle.rm_lives.proofs.Common.{◌++◌, ◌∷◌, [], Bool, true, false, Option, Err, inl, refl, sym, ◌∙◌, ap, subst, err_from_is_err_and, is_ok, same_Some, Entry, Op, Fused, state_after, LifeState, StoreError, seen, HasBlown}
use Rattle.std.proofs.Common.{◌≡◌}
use Rattle.rm_types.specs.declared.entries.Entry.TheVariants.{Kept as KeptEntry}
use Rattle.rm_lives.specs.declared.halts.Halt.{Halt}
use Rattle.rm_lives.proofs.Moving.{blown_close, blown_goes, kept_close, err_holds, goes_same, kept_goes, no_err, ok_holds, told_blown}
use Rattle.rm_lives.proofs.Stored.{blown_stores, op_stores}
use Rattle.rm_lives.proofs.Ending.{fuse_kept}
use Rattle.rm_lives.proofs.Halting.{append_halts, unlearned_halts}
use Rattle.rm_lives.proofs.storing.keep.Goals as goal

-- a life that is told to have blown as the manager says
unblown_life : (b : Bool) (o : Option LifeState) → b ≡ false → HasBlown b o → HasBlown false o
unblown_life b o is h = subst (λ (x : Bool). HasBlown x o) is h

-- THE FUSE LET THE APPEND THROUGH, AND IT FAILED

pub returns-then-not-blown-clause-halts : goal.returns-then-not-blown-clause-halts
returns-then-not-blown-clause-halts g c =
    let d = c.args.d.now in
    let store = c.args.store.now in
    let now = c.append.new.self in
    let tried = c.append.ensures in
    let refused = c.in-Err.ensures in
    let unblown = c.in-Some.ensures.unblown in
    let whole : now.disk.blown ≡ false = sym (ap (λ (f : Fused _). f.blown) c.fuse.ensures.value) ∙ sym c.blown.ensures.value ∙ c.if-not-blown.true in
    rw (c.halt_of.ensures, c.fuse.ensures.value)
    (append_halts g.D.Disk.view g.D.Disk.faulted g.met.D.Disk.faulted_counts d store.disk now.disk c.in-Some.op.now (λ opening k. told_blown d c.law.ensures.tells opening k ∙ unblown) c.in-Some.ensures.next c.in-Some.ensures.handed
    (tried.any_moment (c.requires.serves.unbroken unblown)) tried.goes_on.size c.in-Err.error (λ is. (refused.fault (ap (λ (e : StoreError). Err e) is)).inside whole)
    (λ needed room is.
    let told = refused.only_full needed room (ap (λ (e : StoreError). Err e) is) in
    (told.0, told.1, λ ops has below. refused.room needed room (ap (λ (e : StoreError). Err e) is) ops has below)))

-- THE FUSE REFUSED IT

pub returns-in_err-memory_only-clause-fuse : goal.returns-in_err-memory_only-clause-fuse
returns-in_err-memory_only-clause-fuse g c =
    rw (c.fuse-in-Err.ensures.value, c.fuse.ensures.value)
    (fuse_kept g.D.Disk.view (g.D.Disk.keeps (is_ok c.append.result)) (is_ok c.append.result) c.args.store.now.disk c.append.new.self.disk c.append.ensures.kept c.append.ensures.goes_on.size)

pub returns-in-Err-clause-fuse : goal.returns-in-Err-clause-fuse
returns-in-Err-clause-fuse g c =
    rw (c.fuse-in-Err.ensures.value, c.fuse.ensures.value)
    (fuse_kept g.D.Disk.view (g.D.Disk.keeps (is_ok c.append.result)) (is_ok c.append.result) c.args.store.now.disk c.append.new.self.disk c.append.ensures.kept c.append.ensures.goes_on.size)

pub returns-in_err-memory_only-clause-halts : goal.returns-in_err-memory_only-clause-halts
returns-in_err-memory_only-clause-halts g c =
    let d = c.args.d.now in
    let failed : is_ok c.blown-in-Err.result ≡ false = sym c.memory_only.ensures ∙ rw c.in_err-memory_only.was refl in
    let same : c.blown-in-Err.new.self ≡ d = err_holds c.blown-in-Err.result failed c.blown-in-Err.ensures.err in
    let p = err_from_is_err_and c.from_residual.result c.from_residual.ensures.1 in
    rw (p.1 ∙ ap (λ (e : Halt). Err e) p.2, same, c.fuse-in-Err.ensures.value, c.fuse.ensures.value)
    (unlearned_halts g.D.Disk.view d c.args.store.now.disk c.append.new.self.disk c.in-Some.op.now (λ opening k. told_blown d c.law.ensures.tells opening k ∙ c.in-Some.ensures.unblown) c.in-Some.ensures.next
    (c.append.ensures.any_moment (c.requires.serves.unbroken c.in-Some.ensures.unblown)))

pub returns-in-Err-clause-goes : goal.returns-in-Err-clause-goes
returns-in-Err-clause-goes g c =
    let made : is_ok c.blown-in-Err.result ≡ true = sym c.memory_only.ensures ∙ rw c.in_ok-memory_only.was refl in
    blown_goes c.args.d.now c.blown-in-Err.new.self c.passed-passed.result (ok_holds c.blown-in-Err.result made c.blown-in-Err.ensures.does) c.requires.chosen

pub returns-in-Err-clause-stores : goal.returns-in-Err-clause-stores
returns-in-Err-clause-stores g c = λ ops k has.
    let d = c.args.d.now in
    let now = c.append.new.self.disk in
    let made : is_ok c.blown-in-Err.result ≡ true = sym c.memory_only.ensures ∙ rw c.in_ok-memory_only.was refl in
    let does = ok_holds c.blown-in-Err.result made c.blown-in-Err.ensures.does in
    let s = state_after ops d.core.log in
    rw (c.fuse-in-Err.ensures.value, c.fuse.ensures.value)
    (blown_stores ops d.core c.blown-in-Err.new.self.core c.in-Some.op.now c.passed-passed.result (seen g.D.Disk.view c.args.store.now.disk) (seen g.D.Disk.view now)
    (unblown_life _ s.life c.in-Some.ensures.unblown ((c.law.ensures.tells ops k).life does.stood)) (c.in-Some.ensures.next ops k)
    (does.adds.added ∙ ap (λ (e : Entry). d.core.log ++ e ∷ []) does.adds.of_kind) c.append.ensures.goes_on (λ bytes told. g.met.D.Disk.as_it_reads now.inner bytes told)
    (c.append.ensures.any_moment (c.requires.serves.unbroken c.in-Some.ensures.unblown)) has)

-- THE STORE HAS THE OPERATION

pub returns-in_err-memory_only-2-clause-halts : goal.returns-in_err-memory_only-2-clause-halts
returns-in_err-memory_only-2-clause-halts g c =
    let d = c.args.d.now in
    let failed : is_ok c.kept.result ≡ false = sym c.memory_only-2.ensures ∙ rw c.in_err-memory_only-2.was refl in
    let same : c.kept.new.self ≡ d = err_holds c.kept.result failed c.kept.ensures.err in
    let p = err_from_is_err_and c.from_residual-in_err-memory_only-2.result c.from_residual-in_err-memory_only-2.ensures.1 in
    rw (p.1 ∙ ap (λ (e : Halt). Err e) p.2, same)
    (unlearned_halts g.D.Disk.view d c.args.store.now.disk c.append.new.self.disk c.in-Some.op.now (λ opening k. told_blown d c.law.ensures.tells opening k ∙ c.in-Some.ensures.unblown) c.in-Some.ensures.next
    (c.append.ensures.any_moment (c.requires.serves.unbroken c.in-Some.ensures.unblown)))

pub returns-clause-goes : goal.returns-clause-goes
returns-clause-goes g c =
    let made : is_ok c.kept.result ≡ true = sym c.memory_only-2.ensures ∙ rw c.in_ok-memory_only-2.was refl in
    kept_goes c.args.d.now c.kept.new.self (ok_holds c.kept.result made c.kept.ensures.does) c.requires.chosen

pub returns-clause-stores : goal.returns-clause-stores
returns-clause-stores g c = λ ops k has.
    let d = c.args.d.now in
    let made : is_ok c.kept.result ≡ true = sym c.memory_only-2.ensures ∙ rw c.in_ok-memory_only-2.was refl in
    let does = ok_holds c.kept.result made c.kept.ensures.does in
    let op : Op = c.in-Some.op.now in
    let same : does.adds.of_kind.0 ≡ op = same_Some does.adds.of_kind.0 op (sym does.adds.of_kind.1 ∙ sym c.in-Some.ensures.op) in
    let s = state_after ops d.core.log in
    op_stores ops d.core c.kept.new.self.core op _ _ (unblown_life _ s.life c.in-Some.ensures.unblown ((c.law.ensures.tells ops k).life does.stood)) (c.in-Some.ensures.next ops k)
    (does.adds.added ∙ ap (λ (e : Entry). d.core.log ++ e ∷ []) (does.adds.of_kind.2 ∙ ap (λ (x : Op). KeptEntry x) same))
    (no_err c.append.result c.in_default-append.not-Err c.append.ensures.added) (c.append.ensures.any_moment (c.requires.serves.unbroken c.in-Some.ensures.unblown)) has

-- AND THE LOG HAS ONE ENTRY MORE

pub returns-in-Err-clause-one : goal.returns-in-Err-clause-one
returns-in-Err-clause-one g c =
    let made : is_ok c.blown-in-Err.result ≡ true = sym c.memory_only.ensures ∙ rw c.in_ok-memory_only.was refl in
    let does = ok_holds c.blown-in-Err.result made c.blown-in-Err.ensures.does in
    (does.adds.entry, does.of_lane, does.adds.added)

pub returns-clause-one : goal.returns-clause-one
returns-clause-one g c =
    let made : is_ok c.kept.result ≡ true = sym c.memory_only-2.ensures ∙ rw c.in_ok-memory_only-2.was refl in
    let does = ok_holds c.kept.result made c.kept.ensures.does in
    (does.adds.entry, does.of_lane, does.adds.added)

pub returns-in_err-memory_only-clause-goes : goal.returns-in_err-memory_only-clause-goes
returns-in_err-memory_only-clause-goes g c =
    let failed : is_ok c.blown-in-Err.result ≡ false = sym c.memory_only.ensures ∙ rw c.in_err-memory_only.was refl in
    let same : c.blown-in-Err.new.self ≡ c.args.d.now = err_holds c.blown-in-Err.result failed c.blown-in-Err.ensures.err in
    rw same (goes_same c.args.d.now)

pub returns-in_err-memory_only-2-clause-goes : goal.returns-in_err-memory_only-2-clause-goes
returns-in_err-memory_only-2-clause-goes g c =
    let failed : is_ok c.kept.result ≡ false = sym c.memory_only-2.ensures ∙ rw c.in_err-memory_only-2.was refl in
    let same : c.kept.new.self ≡ c.args.d.now = err_holds c.kept.result failed c.kept.ensures.err in
    rw same (goes_same c.args.d.now)

-- THE CURRENT SEGMENT STAYS

pub returns-in-Err-clause-closes : goal.returns-in-Err-clause-closes
returns-in-Err-clause-closes g c =
    let made : is_ok c.blown-in-Err.result ≡ true = sym c.memory_only.ensures ∙ rw c.in_ok-memory_only.was refl in
    inl (blown_close c.args.d.now c.blown-in-Err.new.self c.passed-passed.result (ok_holds c.blown-in-Err.result made c.blown-in-Err.ensures.does))

pub returns-clause-closes : goal.returns-clause-closes
returns-clause-closes g c =
    let made : is_ok c.kept.result ≡ true = sym c.memory_only-2.ensures ∙ rw c.in_ok-memory_only-2.was refl in
    inl (kept_close c.args.d.now c.kept.new.self (ok_holds c.kept.result made c.kept.ensures.does))
