use Rattle.rm_lives.proofs.Common.{Bool, true, false}
use Rattle.std.proofs.Common.{◌≡◌}
use Rattle.rm_lives.proofs.Onward.{is_again, left_found, refused_again, unopened_again}
use Rattle.rm_lives.proofs.starts.open_again.Goals as goal

not_both : (b : Bool) → b ≡ false → b ≡ true → ⊥
not_both true h t = cc
not_both false h t = cc

pub returns-in-Err-clause-why : goal.returns-in-Err-clause-why
returns-in-Err-clause-why g c = λ opening k.
    unopened_again g.D.Disk.view opening c.args.d.now.core.log c.args.disk c.in-Err.unopened.disk c.in-Err.unopened.why c.in-Err.ensures.why

pub returns-in-Ok-false-clause-why : goal.returns-in-Ok-false-clause-why
returns-in-Ok-false-clause-why g c = λ opening k has.
    let left = left_found g.D.Disk.view c.args.disk c.in-Ok.store c.in-Ok.tree c.in-Ok.field-0-2 c.in-Ok.ensures.opened opening c.args.d.now.core k c.requires.dead ((c.law.ensures.tells opening k).none c.requires.dead) has in
    absurd (not_both c.in-Ok-false.field-0 c.in-Ok-false.field-0-test ((c.in-Ok-false.ensures.left opening k c.requires.some).1 left))

pub returns-in-Ok-can_begin-clause-again : goal.returns-in-Ok-can_begin-clause-again
returns-in-Ok-can_begin-clause-again g c =
    is_again g.D.Disk.view c.args.disk c.in-Ok.store c.in-Ok.tree c.in-Ok.field-0-2 c.in-Ok.ensures.opened c.args.d.now.core c.requires.dead (λ opening k. (c.law.ensures.tells opening k).none c.requires.dead)
    c.in-Ok-can_begin.ensures.epoch c.in-Ok-can_begin.ensures.stamp c.requires.some (c.in-Ok-true.ensures.own c.requires.some c.in-Ok-true.field-0-test) (λ opening k. (c.in-Ok-true.ensures.left opening k c.requires.some).0 c.in-Ok-true.field-0-test)

pub returns-in-Err-can_begin-clause-why : goal.returns-in-Err-can_begin-clause-why
returns-in-Err-can_begin-clause-why g c = λ opening k.
    rw c.close-in-Err-can_begin.ensures
    (refused_again g.D.Disk.view c.args.disk c.in-Ok.store c.in-Ok.tree c.in-Ok.field-0-2 c.in-Ok.ensures.opened opening c.args.d.now.core ((c.in-Ok-true.ensures.left opening k c.requires.some).0 c.in-Ok-true.field-0-test)
    c.in-Err-can_begin.why c.in-Err-can_begin.ensures.refused)
