use Rattle.std.proofs.Common.{◌≡◌, ◌≤◌, ℕ, refl, sym, ◌∙◌, subst}
use Rattle.rm_core.specs.declared.manager.Move.TheVariants.{Begin}
use Rattle.rm_core.specs.Moves.{IsOwn}
use Rattle.rm_types.specs.Alike.{IsAlike}
use Rattle.rm_core.specs.Queues.{own_tree}
use Rattle.rm_core.specs.Seen.{Seen}
use Rattle.rm_core.proofs.Lives.{landed_few, landed_fits, own_over}
use Rattle.rm_core.proofs.Moving.{Done, begin_done, begun_sound}
use Rattle.rm_core.proofs.manager.Core.begin.Goals as goal

pub own_tree-requires-clause-one : goal.own_tree-requires-clause-one
own_tree-requires-clause-one c = subst (λ (n : ℕ). n ≤ 1) (sym c.landed_in-landed.ensures) (landed_few c.self.inside.tables c.args.tree)

pub own_tree-requires-clause-fits : goal.own_tree-requires-clause-fits
own_tree-requires-clause-fits c = λ one. landed_fits c.self.inside.tables c.args.tree c.self.invariant.sound c.if-self.false (sym c.landed_in-landed.ensures ∙ one)

done : (c : goal.After-begin) → Done (Begin c.args.tree c.args.handed) c.self.inside.tables c.begin.new.t c.self.inside.log c.begin.new.log c.begin.result
done c =
    let t = c.self.inside.tables in
    let tree = c.args.tree in
    let own = own_tree c.self.inside.log t tree in
    let is : c.in_ok-own.own ≡ own = c.in_ok-own.ensures in
    let like : IsAlike own tree = subst (λ (s : Seen). IsOwn s tree) (sym c.self.view_is) c.requires.own in
    begin_done t c.self.inside.log c.self.invariant.sound c.self.invariant.limits tree own c.args.handed c.if-self.false (own_over t c.self.inside.log tree c.self.invariant.sound c.if-self.false c.requires.over like) refl like c.requires.high c.begin.new.t c.begin.new.log c.begin.result
    (rw (c.max-stamp.ensures, c.stamp.ensures, c.landed_in-landed.ensures, is) at c.begin.ensures.ok) c.begin.ensures.err

pub invariant_of-self : goal.invariant_of-self
invariant_of-self c = rw c.in_err-ready_queues.ensures.err c.self.invariant

pub invariant_of-self-2 : goal.invariant_of-self-2
invariant_of-self-2 c =
    rw c.in_ok-ready_queues.ensures.ok
    (begun_sound c.self.inside.tables.settings (Begin c.args.tree c.args.handed) c.self.inside.tables c.begin.new.t c.self.inside.log c.begin.new.log c.begin.result c.self.invariant.rules c.self.invariant.limits refl (done c))

pub returns-clause-does : goal.returns-clause-does
returns-clause-does c = rw (← c.self.view_is) (done c).does
