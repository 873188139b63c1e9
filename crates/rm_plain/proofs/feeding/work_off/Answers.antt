use Rattle.rm_lives.proofs.Common.{◌≢◌, [], Bool, false, None, Option, Err, inl, inr, ⊎_elim, sym, ◌∙◌, ap, err_from_is_err_and, Close, close_left, seen}
use Rattle.std.proofs.Common.{◌≡◌, not, is_some}
use Rattle.rm_lives.specs.declared.halts.Halt.{Halt}
use Rattle.rm_plain.specs.Feeding.{by_policy}
use Rattle.rm_lives.specs.Keeping.{IsKeptOn}
use Rattle.rm_lives.specs.Lives.{TakesStep, WentDown}
use Rattle.rm_lives.specs.declared.moves.LifeEnd.TheVariants.{Down}
use Rattle.rm_plain.proofs.Choosing.{chosen_ready}
use Rattle.rm_lives.proofs.Ending.{ends_on, fuse_trans, goes_trans, stores_trans}
use Rattle.rm_plain.proofs.Growing.{policy_may}
use Rattle.rm_lives.proofs.Halting.{halts_on}
use Rattle.rm_plain.proofs.feeding.work_off.Goals as goal

-- a segment is left where it isn't told that none is
some_left : (o : Option Close) (b : Bool) → is_some o ≡ not b → b ≡ false → o ≢ None
some_left o b e f = λ none. let x = rw (none, f) at e in cc

pub advance-requires-clause-ready : goal.advance-requires-clause-ready
advance-requires-clause-ready g c = chosen_ready [] c.moves.d c.next_lane-lane.result c.next_lane-lane.ensures

pub advance-requires-clause-chosen : goal.advance-requires-clause-chosen
advance-requires-clause-chosen g c =
    policy_may c.moves.d c.next_lane-lane.result c.next_lane-lane.ensures
    (λ end. some_left c.close_of.result c.is_none.result c.is_none.ensures c.if-is_none.false (c.close_of.ensures ∙ ap close_left end.segments))

pub returns-in_err-image-clause-halts : goal.returns-in_err-image-clause-halts
returns-in_err-image-clause-halts g c =
    let m = c.moves.invariant in
    let p = err_from_is_err_and c.from_residual.result c.from_residual.ensures.1 in
    rw (p.1 ∙ ap (λ (e : Halt). Err e) p.2)
    (halts_on g.D.Disk.view (λ ops. Unit {0}) (λ ops. IsKeptOn ops c.args.d.now.core.log (seen g.D.Disk.view c.args.store.now.disk)) c.args.d.now c.moves.d c.advance.new.d c.args.store.now.disk c.moves.store.disk c.advance.new.store.disk m.goes (λ ops is k has. m.stores ops k has) m.fuse.faults
    c.in_err-image.field-0.0 c.in_err-image.ensures.halts)

pub moves-preserved : goal.moves-preserved
moves-preserved g c =
    let m = c.moves.invariant in
    let on : TakesStep by_policy g.D.Disk.view c.moves.d c.advance.new.d c.moves.store c.advance.new.store = rw c.in_default.is at c.in_ok-image.ensures.moves in
    record {
      standing = on.stands;
      closes = ⊎_elim (λ same. inl (λ none. some_left c.close_of.result c.is_none.result c.is_none.ensures c.if-is_none.false (c.close_of.ensures ∙ sym same ∙ none))) (λ rest. inr rest) on.closes;
      serves = on.serves;
      goes = goes_trans (λ ops. Unit {0}) [] [] c.args.d.now c.moves.d c.advance.new.d m.goes on.goes;
      stores = λ ops. stores_trans ops c.args.d.now c.moves.d c.advance.new.d (seen g.D.Disk.view c.args.store.now.disk) (seen g.D.Disk.view c.moves.store.disk) (seen g.D.Disk.view c.advance.new.store.disk)
          m.goes (m.stores ops) (on.stores.kept ops);
      fuse = fuse_trans g.D.Disk.view c.args.store.now.disk c.moves.store.disk c.advance.new.store.disk m.fuse c.in_ok-image.ensures.fuse;
    }

pub returns-in-Some-clause-ends : goal.returns-in-Some-clause-ends
returns-in-Some-clause-ends g c =
    let down : WentDown by_policy g.D.Disk.view c.moves.d c.advance.new.d c.moves.store c.advance.new.store c.in-Some.image = rw c.in-Some.is at c.in_ok-image.ensures.moves in
    ends_on g.D.Disk.view c.args.d.now c.moves.d c.advance.new.d c.args.store.now c.moves.store c.advance.new.store c.moves.invariant.goes c.moves.invariant.stores (Down c.in-Some.image) down
