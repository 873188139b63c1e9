-- The desk goes on from the one with which the life began.
use Rattle.std.proofs.Common.{◌≡◌, false, sym, subst}
use Rattle.std.specs.Prelude.{OnOk}
use Rattle.rm_types.specs.declared.messages.Lane.TheVariants.{End}
use Rattle.rm_core.specs.Words.{has_rest, is_blown}
use Rattle.rm_desk.specs.View.{DeskView}
use Rattle.rm_workers.specs.Came.{Moves, Went}
use Rattle.rm_workers.proofs.MoveLemmas.{stepped_moves, stepped_went}
use Rattle.rm_workers.proofs.held.Held.step.Goals as goal

pub invariant_of-self : goal.invariant_of-self
invariant_of-self g c =
    let rests = rw (← c.self.view_is) at c.requires.rests in
    let same = c.deref_mut-desk.ensures.value in
    stepped_went g.S.Since.began.desk c.deref_mut-desk.result.now c.step-made.new.self c.args.lane c.step-made.result (subst (Went g.S.Since.began.desk) (sym same) c.self.invariant) c.step-made.ensures.does c.step-made.ensures.ready c.step-made.ensures.err
    c.law.ensures.tells c.law-2.ensures.tells c.law.ensures.idle (subst (λ (d : DeskView). c.args.lane ≡ End → is_blown d.core ≡ false → has_rest d.core) (sym same) rests) c.requires.step

pub returns-clause-moves : goal.returns-clause-moves
returns-clause-moves g c =
    let rests = rw (← c.self.view_is) at c.requires.rests in
    let same = c.deref_mut-desk.ensures.value in
    rw (← c.self.view_is)
    (subst (λ (d : DeskView). OnOk c.step-made.result (Moves g.S.Since.began.desk c.args.lane d c.step-made.new.self)) same
    (stepped_moves g.S.Since.began.desk c.deref_mut-desk.result.now c.step-made.new.self c.args.lane c.step-made.result (subst (Went g.S.Since.began.desk) (sym same) c.self.invariant) c.step-made.ensures.does c.step-made.ensures.ready
    c.law.ensures.tells c.law-2.ensures.tells c.law.ensures.sound c.law.ensures.idle (subst (λ (d : DeskView). c.args.lane ≡ End → is_blown d.core ≡ false → has_rest d.core) (sym same) rests) c.requires.step))
