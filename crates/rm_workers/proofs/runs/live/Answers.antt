use Rattle.std.proofs.Common.{ℕ, ◌<◌, length, Ok, Err, arith, List, Result, sym, subst}
use Rattle.std.specs.Prelude.{IfOk, OnOk}
use Rattle.rm_disk.specs.Disk.{DiskView}
use Rattle.rm_disk.specs.Fuse.{Fused}
use Rattle.rm_desk.specs.View.{DeskView}
use Rattle.rm_store.specs.Store.{StoreState}
use Rattle.rm_lives.specs.declared.halts.Halt.{Halt}
use Rattle.rm_lives.specs.declared.moves.LifeEnd.{LifeEnd}
use Rattle.rm_lives.specs.declared.moves.LifeEnd.TheVariants.{Rest, Down}
use Rattle.rm_lives.specs.Lives.{EndsBy}
use Rattle.rm_types.specs.declared.messages.Lane.TheVariants.{Begin}
use Rattle.rm_types.specs.declared.operations.Op.{Op}
use Rattle.rm_store.specs.Store.{seen}
use Rattle.rm_core.specs.Moves.{IsLeftAfter}
use Rattle.rm_lives.specs.Keeping.{IsFoundOn}
use Rattle.rm_lives.specs.declared.halts.Stop.{Stop}
use Rattle.rm_lives.specs.Starts.{LivesTo, LeavesAtEnd}
use Rattle.rm_lives.proofs.Finishing.{none_stands, some_left}
use Rattle.rm_lives.proofs.Starting.{lived, unbegun}
use Rattle.rm_workers.specs.AnyOrder.{any_order}
use Rattle.rm_workers.proofs.MoveLemmas.{may_any}
use Rattle.rm_workers.proofs.runs.live.Goals as goal

pub begin_life-requires-clause-may : goal.begin_life-requires-clause-may
begin_life-requires-clause-may g c = may_any Begin c.args.d c.requires.ready (λ end. cc)

pub begin_life-requires-clause-dead : goal.begin_life-requires-clause-dead
begin_life-requires-clause-dead g c = none_stands c.args.d c.requires.ready

pub begin_life-requires-clause-lives : goal.begin_life-requires-clause-lives
begin_life-requires-clause-lives g c = some_left c.args.d c.requires.ready

pub returns-in-Ok-clause-lived : goal.returns-in-Ok-clause-lived
returns-in-Ok-clause-lived g c =
    let d = c.args.d in
    let begun = c.in-Ok.ensures in
    let run = c.run_life-desk.ensures in
    let made = c.run_life-desk.result in
    rw c.left.ensures.desk
    (lived {order = any_order} g.D.Disk.view (λ ops. IsLeftAfter c.args.tree ops d.core.log) (λ ops. IsFoundOn ops d.core c.args.tree (seen g.D.Disk.view c.args.store.disk)) d c.begin_life.new.d made.0 c.args.store c.begin_life.new.store made.1
    begun.goes begun.begun begun.fuse run.fuse g.D.Disk.falls_to c.left.result.disk made.2 c.left.result.ended run.ends run.halts c.left.ensures.leaves)

pub returns-in-Err-clause-lived : goal.returns-in-Err-clause-lived
returns-in-Err-clause-lived g c =
    let d = c.args.d in
    let begun = c.in-Err.ensures in
    let left = c.left-in-Err.ensures.leaves in
    let over : List Op → Type 0 = λ ops. IsLeftAfter c.args.tree ops d.core.log in
    let found : List Op → Type 0 = λ ops. IsFoundOn ops d.core c.args.tree (seen g.D.Disk.view c.args.store.disk) in
    rw c.left-in-Err.ensures.desk
    (subst (λ (r : Result (Unit {0}) Stop). LivesTo any_order g.D.Disk.view over found d c.begin_life.new.d c.args.store.disk c.left-in-Err.result.disk r) (sym left.1)
    (unbegun {order = any_order} g.D.Disk.view over found d c.begin_life.new.d c.args.store c.begin_life.new.store c.left-in-Err.result.disk c.in-Err.halt begun.halts begun.inner begun.refused begun.fuse left.0 begun.memory))

fewer_by : {D : Type 0} (view : D → DiskView) (falls : ℕ → D → D → Type 0) (r : Result LifeEnd Halt) (ended : Result (Unit {0}) Stop) (desk : DeskView) (now : StoreState D) (mid : DeskView) (store : StoreState D) (d : DeskView) (new : Fused D) → length mid.place.lives < length d.place.lives
    → IfOk r (EndsBy any_order view mid desk store now) → LeavesAtEnd view falls now.disk new r ended → OnOk ended (length desk.place.lives < length d.place.lives)
fewer_by view falls (Ok Rest) ended desk now mid store d new less ends leaves = rw leaves.1 (let l = ends.goes.lives in omega (arith, l, less))
fewer_by view falls (Ok (Down image)) ended desk now mid store d new less ends leaves = rw leaves.1 (let l = ends.goes.lives in omega (arith, l, less))
fewer_by view falls (Err halt) ended desk now mid store d new less ends leaves = rw leaves.1 tt

pub returns-in-Ok-clause-fewer : goal.returns-in-Ok-clause-fewer
returns-in-Ok-clause-fewer g c =
    let made = c.run_life-desk.result in
    rw c.left.ensures.desk
    (fewer_by g.D.Disk.view g.D.Disk.falls_to made.2 c.left.result.ended made.0 made.1 c.begin_life.new.d c.begin_life.new.store c.args.d c.left.result.disk c.in-Ok.ensures.fewer c.run_life-desk.ensures.ends c.left.ensures.leaves)
