use Rattle.std.proofs.Common.{◌≡◌, ◌&&◌, true, sym, ◌∙◌, List}
use Rattle.std.specs.Option.{option_copied}
use Rattle.rm_types.specs.declared.operations.Op.{Op}
use Rattle.rm_types.specs.Ranges.{IsOperation}
use Rattle.rm_core.specs.Seen.{IsToBeKept, Seen, StandsFor, handed_op}
use Rattle.rm_core.proofs.Listed.{if_copied}
use Rattle.rm_core.proofs.Moving.{handed_framed, handed_next}
use Rattle.rm_core.proofs.manager.Core.handed.Goals as goal

pub returns-then-is_ready-clause-framed : goal.returns-then-is_ready-clause-framed
returns-then-is_ready-clause-framed c =
    let t = c.self.inside.tables in
    let ready : (t.alive && t.handed) ≡ true = sym c.is_ready.ensures ∙ c.if-is_ready.true in
    let at : option_copied c.first.result ≡ handed_op t = rw ready c.first.ensures.first in
    if_copied IsOperation c.first.result (handed_op t) at (handed_framed t c.self.invariant.sound)

pub returns-then-is_ready-clause-next : goal.returns-then-is_ready-clause-next
returns-then-is_ready-clause-next c =
    let t = c.self.inside.tables in
    let ready : (t.alive && t.handed) ≡ true = sym c.is_ready.ensures ∙ c.if-is_ready.true in
    let at : option_copied c.first.result ≡ handed_op t = rw ready c.first.ensures.first in
    let seen : Seen = record { settings = t.settings; tables = t; log = c.self.inside.log } in
    rw (← c.self.view_is)
    (if_copied (λ (op : Op). (ops : List Op) → StandsFor ops seen → IsToBeKept ops seen op) c.first.result (handed_op t) at
    (λ op h ops k. handed_next t op h ops c.self.inside.log k))
