use Rattle.rm_lives.proofs.Common.{true, false, Err, Some, ap, refl, sym, ◌∙◌, err_from_is_err_and, is_ok, Close}
use Rattle.std.proofs.Common.{◌≡◌}
use Rattle.rm_lives.specs.declared.halts.Halt.{Halt}
use Rattle.rm_lives.proofs.Halting.{halts_still}
use Rattle.rm_lives.proofs.Moving.{err_holds, ok_holds}
use Rattle.rm_lives.proofs.Ending.{goes_down_on}
use Rattle.rm_lives.proofs.moves.close.Goals as goal

pub returns-in_ok-memory_only-in-Some-Crash-clause-moves : goal.returns-in_ok-memory_only-in-Some-Crash-clause-moves
returns-in_ok-memory_only-in-Some-Crash-clause-moves g c =
    let made : is_ok c.step.result ≡ true = sym c.memory_only.ensures ∙ rw c.in_ok-memory_only-in-Some-Crash.was refl in
    goes_down_on g.D.Disk.view c.args.d.now c.step.new.self c.args.store.now (ok_holds c.step.result made c.step.ensures.does) c.requires.chosen c.law.ensures.tells c.law-in-Some-Crash.ensures.tells (c.law.ensures.idle (ok_holds c.step.result made c.step.ensures.does).stood) c.in-Some-Crash.field-0-0 c.in-Some-Crash.image
    (sym c.close_of.ensures ∙ (c.in-Some-Crash.is ∙ ap (λ (x : Close). Some x) c.in-Some-Crash.field-0-is)) c.requires.serves

pub returns-in_err-memory_only-in-Some-Crash-clause-halts : goal.returns-in_err-memory_only-in-Some-Crash-clause-halts
returns-in_err-memory_only-in-Some-Crash-clause-halts g c =
    let d = c.args.d.now in
    let failed : is_ok c.step.result ≡ false = sym c.memory_only.ensures ∙ rw c.in_err-memory_only-in-Some-Crash.was refl in
    let same : c.step.new.self ≡ d = err_holds c.step.result failed c.step.ensures.err in
    let p = err_from_is_err_and c.from_residual.result c.from_residual.ensures.1 in
    rw (p.1 ∙ ap (λ (e : Halt). Err e) p.2, same) (halts_still g.D.Disk.view d c.args.store.now.disk)

pub returns-in_ok-memory_only-in-Some-Crash-clause-one : goal.returns-in_ok-memory_only-in-Some-Crash-clause-one
returns-in_ok-memory_only-in-Some-Crash-clause-one g c =
    let made : is_ok c.step.result ≡ true = sym c.memory_only.ensures ∙ rw c.in_ok-memory_only-in-Some-Crash.was refl in
    let does = ok_holds c.step.result made c.step.ensures.does in
    (does.adds.entry, does.of_lane, does.adds.added)
