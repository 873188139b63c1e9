-- The desk goes on from the one with which the life began; and the operation that was with the store is kept.
use Rattle.std.proofs.Common.{◌≡◌, List, [], ◌∷◌, ◌++◌, sym, subst}
use Rattle.std.specs.Prelude.{OnOk}
use Rattle.rm_types.specs.declared.entries.Entry.TheVariants.{Kept}
use Rattle.rm_types.specs.declared.operations.Op.{Op}
use Rattle.rm_core.specs.Seen.{IsToBeKept, StandsFor}
use Rattle.rm_desk.specs.View.{DeskView}
use Rattle.rm_workers.specs.Came.{Went}
use Rattle.rm_workers.proofs.MoveLemmas.{learned_both, learned_says, learned_went}
use Rattle.rm_workers.proofs.held.Held.kept.Goals as goal

pub invariant_of-self : goal.invariant_of-self
invariant_of-self g c = subst (Went g.S.Since.began.desk) (sym c.deref_mut-desk.ensures.value) c.self.invariant

pub invariant_of-self-2 : goal.invariant_of-self-2
invariant_of-self-2 g c =
    learned_went g.S.Since.began.desk c.deref_mut-desk.result.now c.kept.new.self c.kept.result (subst (Went g.S.Since.began.desk) (sym c.deref_mut-desk.ensures.value) c.self.invariant) c.kept.ensures.does c.kept.ensures.ready c.kept.ensures.err

pub returns-clause-went : goal.returns-clause-went
returns-clause-went g c =
    let same = c.deref_mut-desk.ensures.value in
    rw (← c.self.view_is)
    (subst (λ (d : DeskView). OnOk c.kept.result (Went g.S.Since.began.desk d × Went g.S.Since.began.desk c.kept.new.self)) same
    (learned_both g.S.Since.began.desk c.deref_mut-desk.result.now c.kept.new.self c.kept.result (subst (Went g.S.Since.began.desk) (sym same) c.self.invariant) c.kept.ensures.does c.kept.ensures.ready))

pub returns-clause-kept : goal.returns-clause-kept
returns-clause-kept g c =
    rw (← c.self.view_is)
    (subst (λ (d : DeskView). OnOk c.kept.result ((opening : List Op) → StandsFor opening d.core → (op : Op) × IsToBeKept opening d.core op × (c.kept.new.self.core.log ≡ d.core.log ++ Kept op ∷ []))) c.deref_mut-desk.ensures.value
    (learned_says c.deref_mut-desk.result.now c.kept.new.self c.in-Some.field-0.now c.kept.result c.kept.ensures.does c.in-Some.ensures.op c.in-Some.ensures.next))
