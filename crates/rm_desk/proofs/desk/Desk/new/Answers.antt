use Rattle.std.proofs.Common.{◌≡◌, false, refl}
use Rattle.rm_core.specs.Words.{stands}
use Rattle.rm_desk.proofs.Unbegun.{unbegun_runs, unbegun_sound}
use Rattle.rm_desk.proofs.desk.Desk.new.Goals as goal

pub invariant_of-result : goal.invariant_of-result
invariant_of-result c =
    let down : stands c.in_ok-core.core ≡ false = rw c.in_ok-core.ensures.tables refl in
    (unbegun_sound c.in_ok-core.core c.new-2.result c.args.script c.requires.script down c.new-2.ensures.place, c.new-2.ensures.entered)

pub returns-clause-run : goal.returns-clause-run
returns-clause-run c = λ opening. unbegun_runs c.in_ok-core.core c.new-2.result c.args.script opening (c.in_ok-core.ensures.stands opening) c.in_ok-core.ensures.log c.new-2.ensures.place
