use Rattle.std.proofs.Common.{rules, ◌≡◌, refl, ap, inr, ◌∷◌, [], ◌++◌, Ok, Err}
use Rattle.rm_types.proofs.items.Items.push_made.Goals as goal

pub returns-in-Err-clause-err_state : goal.returns-in-Err-clause-err_state
returns-in-Err-clause-err_state g c =
    inr (record { shown = _; shows = refl; left = _; met = c.in-Err.ensures; leaves = refl })

pub returns-in-Ok-clause-ok : goal.returns-in-Ok-clause-ok
returns-in-Ok-clause-ok g c =
    (c.in-Ok.item, record { shown = _; shows = refl; left = _; met = c.in-Ok.ensures; leaves = refl }, search rules)
