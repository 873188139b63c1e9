use Rattle.std.proofs.Common.{◌≡◌, List, Some, slice_get, ap}
use Rattle.rm_tables.specs.declared.events.MainEvent.{MainEvent}
use Rattle.rm_tables.specs.Actions.{main_worked}
use Rattle.rm_dispatch.proofs.fronts.front.Goals as goal

pub returns-clause-ok : goal.returns-clause-ok
returns-clause-ok c = λ event rest e.
    let at : slice_get c.args.t.now.main 0 ≡ Some event = ap (λ (l : List MainEvent). slice_get l 0) e in
    let same : c.in-Some.event ≡ event = cc in
    rw (c.take_first.ensures.rest, ← same) (ap main_worked c.in_ok-entry.ensures.ok)
