use Rattle.rm_lives.proofs.Common.{[], List, ℕ, Err, ◌∙◌, ap, subst, err_from_is_err_and, seen}
use Rattle.rm_lives.specs.declared.halts.Halt.{Halt}
use Rattle.rm_lives.specs.Keeping.{HaltsBy, IsKeptOn}
use Rattle.rm_lives.specs.Lives.{EndsBy, TakesStep}
use Rattle.rm_plain.specs.Schedule.{by_letters, steps_of}
use Rattle.rm_lives.proofs.Ending.{ends_on, goes_trans, stores_trans, fuse_trans}
use Rattle.rm_lives.proofs.Halting.{halts_on}
use Rattle.rm_plain.proofs.lives.run_life.Goals as goal

pub returns-in_err-end-clause-halts : goal.returns-in_err-end-clause-halts
returns-in_err-end-clause-halts g c =
    let m = c.moves.invariant in
    let p = err_from_is_err_and c.from_residual.result c.from_residual.ensures.1 in
    let halts = subst (λ (w : List ℕ). HaltsBy (by_letters (steps_of w)) g.D.Disk.view c.moves.d c.tick.new.d c.moves.store.disk c.tick.new.store.disk c.in_err-end.field-0.0) m.whole c.in_err-end.ensures.halts in
    rw (p.1 ∙ ap (λ (e : Halt). Err e) p.2)
    (halts_on g.D.Disk.view (λ ops. Unit {0}) (λ ops. IsKeptOn ops c.args.d.now.core.log (seen g.D.Disk.view c.args.store.now.disk)) c.args.d.now c.moves.d c.tick.new.d c.args.store.now.disk c.moves.store.disk c.tick.new.store.disk m.goes (λ ops is k has. m.stores ops k has) m.fuse.faults
    c.in_err-end.field-0.0 halts)

pub moves-preserved : goal.moves-preserved
moves-preserved g c =
    let m = c.moves.invariant in
    let on = subst (λ (w : List ℕ). TakesStep (by_letters (steps_of w)) g.D.Disk.view c.moves.d c.tick.new.d c.moves.store c.tick.new.store) m.whole (rw c.in_default.is at c.in_ok-end.ensures.moves) in
    record {
      standing = on.stands;
      serves = on.serves;
      at = c.in_ok-end.ensures.at;
      whole = c.in_ok-end.ensures.whole ∙ m.whole;
      goes = goes_trans (λ ops. Unit {0}) [] [] c.args.d.now c.moves.d c.tick.new.d m.goes on.goes;
      stores = λ ops. stores_trans ops c.args.d.now c.moves.d c.tick.new.d (seen g.D.Disk.view c.args.store.now.disk) (seen g.D.Disk.view c.moves.store.disk) (seen g.D.Disk.view c.tick.new.store.disk)
          m.goes (m.stores ops) (on.stores.kept ops);
      fuse = fuse_trans g.D.Disk.view c.args.store.now.disk c.moves.store.disk c.tick.new.store.disk m.fuse c.in_ok-end.ensures.fuse;
    }

pub returns-in-Some-clause-ends : goal.returns-in-Some-clause-ends
returns-in-Some-clause-ends g c =
    let ended = subst (λ (w : List ℕ). EndsBy (by_letters (steps_of w)) g.D.Disk.view c.moves.d c.tick.new.d c.moves.store c.tick.new.store c.in-Some.end) c.moves.invariant.whole (rw c.in-Some.is at c.in_ok-end.ensures.moves) in
    ends_on g.D.Disk.view c.args.d.now c.moves.d c.tick.new.d c.args.store.now c.moves.store c.tick.new.store c.moves.invariant.goes c.moves.invariant.stores c.in-Some.end ended
