use Rattle.std.proofs.Common.{◌≢◌, ◌≤◌, length, get_or, arith}
use Rattle.std.proofs.lemmas.Bool.Decides.{nat_tests}
use Rattle.rm_formats.proofs.ids.Refusals.{leaves_word}
use Rattle.rm_formats.proofs.ids.steps.after_word.Goals.{in_default-via-then-rest-lt1, in_default-via-in-len1-up+else-first-byte}
use Rattle.rm_formats.proofs.ids.steps.after_word.Goals as goal

pub returns-in_default-clause-stop : goal.returns-in_default-clause-stop
returns-in_default-clause-stop c =
    let other : 1 ≤ length c.loop-byte.rest.now → get_or c.loop-byte.rest.now 0 0 ≢ get_or c.args.word.now c.loop-byte.byte-index 0 = λ some. elim c.in_default.branch [
      | in_default-via-then-rest-lt1 w ↦ absurd (grind (arith, nat_tests))
      | in_default-via-in-len1-up+else-first-byte w ↦ w.if-first-byte.false
    ] in
    leaves_word c.args.word.now c.args.bytes.now c.loop-byte.rest.now c.loop-byte.byte-index c.loop-byte-test.true c.loop-byte.invariant other
