use Rattle.std.proofs.Common.{Ok, sym, ◌∙◌, subst, refl}
use Rattle.rm_types.proofs.TestLemmas.{on_ok}
use Rattle.rm_lives.specs.Later.{FirstTo}
use Rattle.rm_lives.proofs.Finishing.{all_lived, first_stops, none_left, none_lived, some_left}
use Rattle.rm_workers.specs.AnyOrder.{any_order}
use Rattle.rm_workers.proofs.runs.all_lives.Goals as goal

pub returns-then-not-ready-clause-all : goal.returns-then-not-ready-clause-all
returns-then-not-ready-clause-all g c =
    none_lived any_order g.D.Disk.view c.new.result c.args.d c.args.disk c.requires.dead c.requires.empty (none_left c.args.d c.requires.dead (sym c.ready.ensures ∙ c.if-not-ready.true)) c.requires.unarmed c.new.ensures (Ok tt) tt tt (λ ends. refl)

pub returns-in-Ok-clause-all : goal.returns-in-Ok-clause-all
returns-in-Ok-clause-all g c =
    let view = g.D.Disk.view in
    let a = c.args.d in
    let one = c.first_life-opening.result in
    let two = c.later_lives-desk.result in
    let first = subst (FirstTo any_order view one.opening a one.desk c.args.disk one.disk) c.in-Ok.is c.first_life-opening.ensures.first in
    all_lived any_order view one.opening a one.desk two.desk c.args.disk one.disk two.disk (some_left a (sym c.ready.ensures ∙ c.if-not-ready.false)) first two.ended c.later_lives-desk.ensures.later c.later_lives-desk.ensures.over
    (on_ok two.ended tt)

pub returns-in-Err-clause-all : goal.returns-in-Err-clause-all
returns-in-Err-clause-all g c =
    let one = c.first_life-opening.result in
    let first = subst (FirstTo any_order g.D.Disk.view one.opening c.args.d one.desk c.args.disk one.disk) c.in-Err.is c.first_life-opening.ensures.first in
    first_stops any_order g.D.Disk.view one.opening c.args.d one.desk c.args.disk one.disk c.in-Err.stop (some_left c.args.d (sym c.ready.ensures ∙ c.if-not-ready.false)) first
