use Rattle.rm_lives.proofs.Common.{true, false, Err, Some, refl, sym, ◌∙◌, ap, err_from_is_err_and, is_ok, End, Settle, on_ok_map, on_ok, close_left, is_blown, LaneEffect, DeskView}
use Rattle.std.proofs.Common.{◌≡◌}
use Rattle.rm_desk.specs.Runs.{IsPlaceSound}
use Rattle.rm_lives.specs.declared.halts.Halt.{Halt}
use Rattle.rm_lives.specs.Keeping.{HaltsBy, armed_by}
use Rattle.rm_lives.proofs.Moving.{err_holds, ok_holds, settle_goes, settling_unblown}
use Rattle.rm_lives.proofs.Ending.{settles_on}
use Rattle.rm_lives.proofs.Halting.{halts_still, halts_unkept, if_memory}
use Rattle.rm_lives.proofs.moves.settle_on.Goals as goal

-- the life didn't blow
whole : (d next : DeskView) → LaneEffect End d next → IsPlaceSound d → close_left d.place.segments ≡ Some Settle → is_blown d.core ≡ false
whole d next does sound settles = settling_unblown d sound does.stood settles

pub arm-requires-clause-unbroken : goal.arm-requires-clause-unbroken
arm-requires-clause-unbroken g c =
    let made : is_ok c.step.result ≡ true = sym c.memory_only.ensures ∙ rw c.in_ok-memory_only.was refl in
    c.requires.serves.unbroken (whole c.args.d.now c.step.new.self (ok_holds c.step.result made c.step.ensures.does) c.law.ensures.sound c.requires.settles)

pub arm-requires-clause-unarmed : goal.arm-requires-clause-unarmed
arm-requires-clause-unarmed g c = c.requires.serves.armed ∙ ap armed_by c.requires.settles

pub arm-requires-clause-unblown : goal.arm-requires-clause-unblown
arm-requires-clause-unblown g c =
    let made : is_ok c.step.result ≡ true = sym c.memory_only.ensures ∙ rw c.in_ok-memory_only.was refl in
    c.requires.serves.blown ∙ whole c.args.d.now c.step.new.self (ok_holds c.step.result made c.step.ensures.does) c.law.ensures.sound c.requires.settles

pub arm-requires-clause-whole : goal.arm-requires-clause-whole
arm-requires-clause-whole g c =
    let made : is_ok c.step.result ≡ true = sym c.memory_only.ensures ∙ rw c.in_ok-memory_only.was refl in
    let does = ok_holds c.step.result made c.step.ensures.does in
    does.blown ∙ whole c.args.d.now c.step.new.self does c.law.ensures.sound c.requires.settles

pub returns-clause-on : goal.returns-clause-on
returns-clause-on g c =
    let d = c.args.d.now in
    let made : is_ok c.step.result ≡ true = sym c.memory_only.ensures ∙ rw c.in_ok-memory_only.was refl in
    let does = ok_holds c.step.result made c.step.ensures.does in
    let settled = settle_goes d c.step.new.self does c.law.ensures.tells c.law-2.ensures.tells c.requires.chosen c.requires.settles in
    on_ok_map c.arm.result (settles_on g.D.Disk.view d c.step.new.self c.args.store.now c.arm.new.store does settled.0 settled.1 c.requires.settles c.arm.ensures.inner c.arm.ensures.refused) c.arm.ensures.serves

pub returns-clause-halts : goal.returns-clause-halts
returns-clause-halts g c =
    let d = c.args.d.now in
    let made : is_ok c.step.result ≡ true = sym c.memory_only.ensures ∙ rw c.in_ok-memory_only.was refl in
    let settled = settle_goes d c.step.new.self (ok_holds c.step.result made c.step.ensures.does) c.law.ensures.tells c.law-2.ensures.tells c.requires.chosen c.requires.settles in
    let P : Halt → Type 0 = λ halt. HaltsBy (g.O.Ordered.order c.args.by.now) g.D.Disk.view d c.step.new.self c.args.store.now.disk c.arm.new.store.disk halt in
    if_memory P c.arm.result (halts_unkept g.D.Disk.view d c.step.new.self c.args.store.now.disk c.arm.new.store.disk settled.0 settled.1 c.arm.ensures.inner c.arm.ensures.refused) c.arm.ensures.halts

pub returns-in_err-memory_only-clause-halts : goal.returns-in_err-memory_only-clause-halts
returns-in_err-memory_only-clause-halts g c =
    let d = c.args.d.now in
    let failed : is_ok c.step.result ≡ false = sym c.memory_only.ensures ∙ rw c.in_err-memory_only.was refl in
    let same : c.step.new.self ≡ d = err_holds c.step.result failed c.step.ensures.err in
    let p = err_from_is_err_and c.from_residual.result c.from_residual.ensures.1 in
    rw (p.1 ∙ ap (λ (e : Halt). Err e) p.2, same) (halts_still g.D.Disk.view d c.args.store.now.disk)

pub returns-clause-one : goal.returns-clause-one
returns-clause-one g c =
    let made : is_ok c.step.result ≡ true = sym c.memory_only.ensures ∙ rw c.in_ok-memory_only.was refl in
    let does = ok_holds c.step.result made c.step.ensures.does in
    on_ok c.arm.result (does.adds.entry, does.of_lane, does.adds.added)
