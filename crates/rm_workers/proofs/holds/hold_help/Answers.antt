-- A helper's hold is one move.
use Rattle.rm_baton.specs.Views.{view}
use Rattle.rm_workers.specs.Holds.{HelpsOnce}
use Rattle.rm_workers.proofs.PassLemmas.{puts_common}
use Rattle.rm_workers.proofs.HoldLemmas.{holds, told_by, told_one}
use Rattle.std.proofs.Common.{refl}
use Rattle.rm_workers.proofs.holds.hold_help.Goals as goal

pub give-requires-clause-may : goal.give-requires-clause-may
give-requires-clause-may g c =
    puts_common (view c.args.pass.now) (view c.take.new.pass) c.in-Some.held c.help_once-next.new.held c.in-Some.ensures.took c.in-Some.ensures.meets (told_one _ _ _ _ c.help_once-next.ensures.told) c.help_once-next.ensures.common

pub give-requires-clause-lane : goal.give-requires-clause-lane
give-requires-clause-lane g c =
    told_by _ _ _ _ (view c.args.pass.now) (view c.take.new.pass) c.in-Some.held _ refl refl c.in-Some.ensures.took c.help_once-next.ensures.told

pub returns-clause-hold : goal.returns-clause-hold
returns-clause-hold g c =
    holds (HelpsOnce c.args.lane c.help_once-next.result.0) (view c.args.pass.now) (view c.take.new.pass) (view c.give.new.pass) c.in-Some.held c.help_once-next.new.held c.in-Some.ensures.took c.give.ensures.gave (c.help_once-next.ensures.once, c.help_once-next.ensures.next)
