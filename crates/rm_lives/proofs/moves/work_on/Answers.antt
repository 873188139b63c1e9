use Rattle.rm_lives.proofs.Common.{true, false, Err, refl, sym, ◌∙◌, ap, err_from_is_err_and, is_ok}
use Rattle.std.proofs.Common.{◌≡◌}
use Rattle.rm_lives.specs.declared.halts.Halt.{Halt}
use Rattle.rm_lives.proofs.Halting.{halts_still}
use Rattle.rm_lives.proofs.Moving.{err_holds, ok_holds, works}
use Rattle.rm_lives.proofs.Ending.{works_on}
use Rattle.rm_lives.proofs.moves.work_on.Goals as goal

pub returns-clause-on : goal.returns-clause-on
returns-clause-on g c =
    let made : is_ok c.step.result ≡ true = sym c.memory_only.ensures ∙ rw c.in_ok-memory_only.was refl in
    let does = ok_holds c.step.result made c.step.ensures.does in
    works_on g.D.Disk.view c.args.lane c.args.d.now c.step.new.self c.args.store.now does (works c.args.lane c.args.d.now c.step.new.self does c.law.ensures.tells c.law-2.ensures.tells c.requires.chosen c.requires.step c.requires.goes)
    c.requires.step c.requires.goes c.requires.serves

pub returns-in_err-memory_only-clause-halts : goal.returns-in_err-memory_only-clause-halts
returns-in_err-memory_only-clause-halts g c =
    let d = c.args.d.now in
    let failed : is_ok c.step.result ≡ false = sym c.memory_only.ensures ∙ rw c.in_err-memory_only.was refl in
    let same : c.step.new.self ≡ d = err_holds c.step.result failed c.step.ensures.err in
    let p = err_from_is_err_and c.from_residual.result c.from_residual.ensures.1 in
    rw (p.1 ∙ ap (λ (e : Halt). Err e) p.2, same) (halts_still g.D.Disk.view d c.args.store.now.disk)

pub returns-clause-one : goal.returns-clause-one
returns-clause-one g c =
    let made : is_ok c.step.result ≡ true = sym c.memory_only.ensures ∙ rw c.in_ok-memory_only.was refl in
    let does = ok_holds c.step.result made c.step.ensures.does in
    (does.adds.entry, does.of_lane, does.adds.added)
