use Rattle.rm_lives.proofs.Common.{List, true, false, Err, inl, inr, refl, sym, ◌∙◌, ap, err_from_is_err_and, is_ok, Op, lane_of_entry, on_ok_map, on_ok, seen, IsLeftAfter}
use Rattle.std.proofs.Common.{◌≡◌}
use Rattle.rm_types.proofs.TestLemmas.{on_err}
use Rattle.rm_lives.specs.declared.halts.Halt.{Halt}
use Rattle.rm_lives.specs.Keeping.{HaltsOver, IsFoundOn}
use Rattle.rm_lives.proofs.Halting.{goes_any, halts_same, if_memory}
use Rattle.rm_lives.proofs.Moving.{begin_fewer, begin_goes, begin_kept, err_holds, goes_same, ok_holds}
use Rattle.rm_lives.proofs.Starting.{begins, begun_halts}
use Rattle.rm_lives.proofs.starts.begin_life.Goals as goal

pub returns-in_err-memory_only-clause-halts : goal.returns-in_err-memory_only-clause-halts
returns-in_err-memory_only-clause-halts g c =
    let d = c.args.d.now in
    let failed : is_ok c.begin.result ≡ false = sym c.memory_only.ensures ∙ rw c.in_err-memory_only.was refl in
    let same : c.begin.new.self ≡ d = err_holds c.begin.result failed c.begin.ensures.err in
    let p = err_from_is_err_and c.from_residual.result c.from_residual.ensures.1 in
    rw (p.1 ∙ ap (λ (e : Halt). Err e) p.2, same) (halts_same g.D.Disk.view (λ ops. IsLeftAfter c.args.tree ops d.core.log) d c.args.store.now.disk c.args.tree)

pub arm-requires-clause-whole : goal.arm-requires-clause-whole
arm-requires-clause-whole g c =
    let made : is_ok c.begin.result ≡ true = sym c.memory_only.ensures ∙ rw c.in_ok-memory_only.was refl in
    (ok_holds c.begin.result made c.begin.ensures.begins).unblown

pub returns-clause-halts : goal.returns-clause-halts
returns-clause-halts g c =
    let d = c.args.d.now in
    let mid = c.begin.new.self in
    let made : is_ok c.begin.result ≡ true = sym c.memory_only.ensures ∙ rw c.in_ok-memory_only.was refl in
    let begun = ok_holds c.begin.result made c.begin.ensures.begins in
    let over : List Op → Type 0 = λ ops. IsLeftAfter c.args.tree ops d.core.log in
    let found : List Op → Type 0 = λ ops. IsFoundOn ops d.core c.args.tree (seen g.D.Disk.view c.args.store.now.disk) in
    let P : Halt → Type 0 = λ halt. HaltsOver (g.O.Ordered.order c.args.by.now) g.D.Disk.view over found d mid c.args.store.now.disk c.arm.new.store.disk halt in
    if_memory P c.arm.result
    (begun_halts g.D.Disk.view d mid c.args.store.now.disk c.arm.new.store.disk c.args.tree (begin_goes c.args.tree d mid begun c.requires.may) (begin_kept c.args.tree d mid begun c.law.ensures.tells)
    c.arm.ensures.inner c.arm.ensures.refused)
    c.arm.ensures.halts

pub returns-clause-begun : goal.returns-clause-begun
returns-clause-begun g c =
    let made : is_ok c.begin.result ≡ true = sym c.memory_only.ensures ∙ rw c.in_ok-memory_only.was refl in
    let begun = ok_holds c.begin.result made c.begin.ensures.begins in
    on_ok_map c.arm.result
    (begins g.D.Disk.view c.args.d.now c.begin.new.self c.args.store.now c.arm.new.store c.args.tree (begin_kept c.args.tree c.args.d.now c.begin.new.self begun c.law.ensures.tells)
    begun.standing c.arm.ensures.inner c.arm.ensures.refused)
    c.arm.ensures.serves

pub returns-clause-goes : goal.returns-clause-goes
returns-clause-goes g c =
    let made : is_ok c.begin.result ≡ true = sym c.memory_only.ensures ∙ rw c.in_ok-memory_only.was refl in
    begin_goes c.args.tree c.args.d.now c.begin.new.self (ok_holds c.begin.result made c.begin.ensures.begins)
    c.requires.may

pub returns-in_err-memory_only-clause-goes : goal.returns-in_err-memory_only-clause-goes
returns-in_err-memory_only-clause-goes g c =
    let d = c.args.d.now in
    let failed : is_ok c.begin.result ≡ false = sym c.memory_only.ensures ∙ rw c.in_err-memory_only.was refl in
    let same : c.begin.new.self ≡ d = err_holds c.begin.result failed c.begin.ensures.err in
    rw same (goes_any (λ ops. IsLeftAfter c.args.tree ops d.core.log) d d (goes_same d))

pub returns-clause-fewer : goal.returns-clause-fewer
returns-clause-fewer g c =
    let made : is_ok c.begin.result ≡ true = sym c.memory_only.ensures ∙ rw c.in_ok-memory_only.was refl in
    on_ok c.arm.result (begin_fewer c.args.tree c.args.d.now c.begin.new.self (ok_holds c.begin.result made c.begin.ensures.begins))

pub returns-clause-one : goal.returns-clause-one
returns-clause-one g c =
    let made : is_ok c.begin.result ≡ true = sym c.memory_only.ensures ∙ rw c.in_ok-memory_only.was refl in
    let begun = ok_holds c.begin.result made c.begin.ensures.begins in
    on_ok c.arm.result (begun.adds.entry, ap lane_of_entry begun.adds.of_kind.2, begun.adds.added)

pub returns-in_err-memory_only-clause-left : goal.returns-in_err-memory_only-clause-left
returns-in_err-memory_only-clause-left g c =
    let failed : is_ok c.begin.result ≡ false = sym c.memory_only.ensures ∙ rw c.in_err-memory_only.was refl in
    on_err c.from_residual.result (inl (err_holds c.begin.result failed c.begin.ensures.err))

pub returns-clause-left : goal.returns-clause-left
returns-clause-left g c =
    let made : is_ok c.begin.result ≡ true = sym c.memory_only.ensures ∙ rw c.in_ok-memory_only.was refl in
    on_err c.arm.result (inr (ok_holds c.begin.result made c.begin.ensures.begins))

pub returns-clause-takes_up : goal.returns-clause-takes_up
returns-clause-takes_up g c =
    let made : is_ok c.begin.result ≡ true = sym c.memory_only.ensures ∙ rw c.in_ok-memory_only.was refl in
    on_ok c.arm.result (ok_holds c.begin.result made c.begin.ensures.begins)
