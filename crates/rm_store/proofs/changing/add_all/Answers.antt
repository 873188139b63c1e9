use Rattle.rm_store.proofs.Common.{true, false, List, map, subst, arith, err_from_is_err_and, nat_tests, Op, frame, IsBuilt}
use Rattle.std.proofs.lemmas.List.{take_all}
use Rattle.rm_store.proofs.Owned.{still_keeps, own_more}
use Rattle.rm_store.proofs.Changes.{got_there, all_after, all_same, built_on, on_same, room_there}
use Rattle.rm_store.proofs.changing.add_all.Goals as goal

pub ops-init : goal.ops-init
ops-init g c = (
  record {
    all = all_same (g.D.Disk.view c.args.disk.now) c.args.areas.now c.requires.stands c.requires.unbroken (λ image now. g.met.D.Disk.as_it_reads c.args.disk.now image now);
    on = on_same (g.D.Disk.view c.args.disk.now) c.args.areas.now c.requires.unbroken;
    builds = c.requires.builds;
  },
  g.met.D.Disk.keeps_same true c.args.disk.now,
  omega arith,
  λ _. still_keeps (g.D.Disk.view c.args.disk.now),
)

pub add_one-requires-clause-room : goal.add_one-requires-clause-room
add_one-requires-clause-room g c =
    room_there (g.D.Disk.view c.args.disk.now) (g.D.Disk.view c.ops.disk) c.args.areas.now c.ops.areas c.args.ops.now c.ops.place c.index-ops-place.result c.ops.invariant.0 (got_there c.args.ops.now c.ops.place c.index-ops-place.result c.index-ops-place.is (let t = c.ops-test.true in grind (arith, nat_tests))) c.requires.room

pub returns-in_err-add_one-clause-all : goal.returns-in_err-add_one-clause-all
returns-in_err-add_one-clause-all g c =
    all_after (g.D.Disk.view c.args.disk.now) (g.D.Disk.view c.ops.disk) (g.D.Disk.view c.add_one.new.disk) c.args.areas.now c.ops.areas c.add_one.new.areas c.ops.invariant.0.all c.ops.invariant.0.on c.requires.unbroken c.add_one.ensures.all

pub returns-in_err-add_one-clause-kept : goal.returns-in_err-add_one-clause-kept
returns-in_err-add_one-clause-kept g c =
    let p = err_from_is_err_and c.from_residual.result c.from_residual.ensures.1 in
    rw p.1 (g.met.D.Disk.keeps_on true false _ _ _ c.ops.invariant.1 c.in_err-add_one.ensures.kept)

pub returns-in_err-add_one-clause-own : goal.returns-in_err-add_one-clause-own
returns-in_err-add_one-clause-own g c =
    own_more (g.D.Disk.view c.args.disk.now) (g.D.Disk.view c.ops.disk) (g.D.Disk.view c.add_one.new.disk) c.args.areas.now.generation c.ops.areas.generation c.args.ops.now c.ops.place
    c.ops.invariant.0.all.goes_on c.ops.invariant.0.all.generation (let t = c.ops-test.true in grind (arith, nat_tests)) c.ops.invariant.3 c.add_one.ensures.own

pub ops-preserved : goal.ops-preserved
ops-preserved g c = (
  built_on (g.D.Disk.view c.args.disk.now) (g.D.Disk.view c.ops.disk) (g.D.Disk.view c.add_one.new.disk) c.args.areas.now c.ops.areas c.add_one.new.areas c.args.ops.now c.ops.place c.index-ops-place.result c.ops.invariant.0 c.requires.unbroken (got_there c.args.ops.now c.ops.place c.index-ops-place.result c.index-ops-place.is (let t = c.ops-test.true in grind (arith, nat_tests)))
      c.add_one.ensures.all c.in_ok-add_one.ensures.told c.in_ok-add_one.ensures.builds,
  g.met.D.Disk.keeps_on true true _ _ _ c.ops.invariant.1 c.in_ok-add_one.ensures.kept,
  (let a = c.ops.invariant.2 in let b = c.add_one.ensures.counted in omega (arith, a, b)),
  own_more (g.D.Disk.view c.args.disk.now) (g.D.Disk.view c.ops.disk) (g.D.Disk.view c.add_one.new.disk) c.args.areas.now.generation c.ops.areas.generation c.args.ops.now c.ops.place
      c.ops.invariant.0.all.goes_on c.ops.invariant.0.all.generation (let t = c.ops-test.true in grind (arith, nat_tests)) c.ops.invariant.3 c.add_one.ensures.own,
)

pub returns-clause-builds : goal.returns-clause-builds
returns-clause-builds g c =
    let past = c.ops-test.false in
    subst (λ (l : List Op). IsBuilt (g.D.Disk.view c.ops.disk) c.ops.areas (map frame l)) (take_all c.ops.place c.args.ops.now (grind (arith, nat_tests))) c.ops.invariant.0.builds
