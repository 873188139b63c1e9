-- The operation was written, its fuse refused it, or the append failed otherwise.
use Rattle.std.proofs.Common.{true, false, Err, refl, sym, ◌∙◌, ap}
use Rattle.rm_store.specs.declared.fault.StoreError.{StoreError}
use Rattle.rm_store.specs.Store.{StoreState}
use Rattle.rm_workers.proofs.TurnLemmas.{failed_after, refused_after, wrote_after}
use Rattle.rm_workers.proofs.storing.write.Goals as goal

pub returns-in-Ok : goal.returns-in-Ok
returns-in-Ok g c = record {
  written = wrote_after g.D.Disk.view (g.D.Disk.keeps true) g.S.Since.began c.args.store.now c.append.new.self c.args.op.now true c.append.ensures.sound c.in-Ok.ensures.kept c.append.ensures.goes_on c.append.ensures.any_moment refl
      c.in-Ok.ensures.broken c.in-Ok.ensures.added;
}

pub returns-then-is_blown : goal.returns-then-is_blown
returns-then-is_blown g c = record {
  written =
      let same = c.passed_of.ensures.same ∙ c.is_blown.ensures.same in
      let blown = sym c.is_blown.ensures.blown ∙ c.if-is_blown.true in
      let passes = c.passed_of.ensures.passed ∙ ap (λ (s : StoreState _). s.disk.passed) c.is_blown.ensures.same in
      refused_after g.D.Disk.view (g.D.Disk.keeps false) g.S.Since.began c.args.store.now c.append.new.self c.args.op.now false c.append.ensures.sound c.in-Err.ensures.kept c.append.ensures.goes_on c.append.ensures.any_moment
      c.passed_of.result c.passed_of.new.store same blown passes (λ bytes told. g.met.D.Disk.as_it_reads c.append.new.self.disk.inner bytes told);
}

pub returns-else-is_blown : goal.returns-else-is_blown
returns-else-is_blown g c = record {
  written = λ log o.
      let whole = sym c.is_blown.ensures.blown ∙ c.if-is_blown.false in
      rw c.halt_of.ensures
      (failed_after g.D.Disk.view (g.D.Disk.keeps false) g.S.Since.began c.args.store.now c.append.new.self c.args.op.now false c.append.ensures.sound c.in-Err.ensures.kept c.append.ensures.goes_on c.append.ensures.any_moment
      c.in-Err.error
      (λ is. g.met.D.Disk.faulted_counts c.args.store.now.disk.inner c.append.new.self.disk.inner ((c.in-Err.ensures.fault (ap (λ (e : StoreError). Err e) is)).inside whole))
      (λ needed room is.
      let told = c.in-Err.ensures.only_full needed room (ap (λ (e : StoreError). Err e) is) in
      (told.0, told.1, λ ops has below. c.in-Err.ensures.room needed room (ap (λ (e : StoreError). Err e) is) ops has below)) log o c.is_blown.new.store c.is_blown.ensures.same);
}
