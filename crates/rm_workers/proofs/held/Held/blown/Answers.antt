-- The desk goes on from the one with which the life began.
use Rattle.std.proofs.Common.{sym, subst}
use Rattle.std.specs.Prelude.{OnOk}
use Rattle.rm_desk.specs.View.{DeskView}
use Rattle.rm_workers.specs.Came.{Went}
use Rattle.rm_workers.proofs.MoveLemmas.{closes_at, refused_both, refused_went}
use Rattle.rm_workers.proofs.held.Held.blown.Goals as goal

pub blown-requires : goal.blown-requires
blown-requires g c =
    let same = c.deref_mut-desk.ensures.value in
    closes_at g.S.Since.began.desk c.deref_mut-desk.result.now c.args.passed (subst (Went g.S.Since.began.desk) (sym same) c.self.invariant) (rw same (rw (← c.self.view_is) at c.requires.closes))

pub invariant_of-self : goal.invariant_of-self
invariant_of-self g c =
    refused_went g.S.Since.began.desk c.deref_mut-desk.result.now c.blown.new.self c.args.passed c.blown.result (subst (Went g.S.Since.began.desk) (sym c.deref_mut-desk.ensures.value) c.self.invariant) c.blown.ensures.does c.blown.ensures.ready
    c.blown.ensures.err

pub returns-clause-went : goal.returns-clause-went
returns-clause-went g c =
    let same = c.deref_mut-desk.ensures.value in
    rw (← c.self.view_is)
    (subst (λ (d : DeskView). OnOk c.blown.result (Went g.S.Since.began.desk d × Went g.S.Since.began.desk c.blown.new.self)) same
    (refused_both g.S.Since.began.desk c.deref_mut-desk.result.now c.blown.new.self c.args.passed c.blown.result (subst (Went g.S.Since.began.desk) (sym same) c.self.invariant) c.blown.ensures.does c.blown.ensures.ready))
