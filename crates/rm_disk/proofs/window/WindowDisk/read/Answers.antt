use Rattle.std.proofs.Common.{◌≡◌, length, take, drop, true, arith, ◌∙◌}
use Rattle.std.specs.Prelude.{is_ok}
use Rattle.rm_disk.proofs.Windows.{shown}
use Rattle.rm_disk.proofs.window.WindowDisk.read.Goals as goal

pub returns-then-shows-clause-bytes : goal.returns-then-shows-clause-bytes
returns-then-shows-clause-bytes g c bytes told =
    let among = c.shows.ensures.0 c.if-shows.true in
    let same : c.deref-then-shows.result.now ≡ take (length c.self.inside.bytes.items) (drop c.self.inside.first bytes) = c.deref-then-shows.ensures.value ∙ c.self.invariant.told bytes (rw c.self.view_is told) in
    c.copy_out.ensures ∙ shown c.self.inside.first c.args.at (length c.args.into.now) (length c.self.inside.bytes.items) c.deref-then-shows.result.now bytes same among.0 (omega (arith, among.1, c.deref.ensures.len))

pub returns-clause-kept : goal.returns-clause-kept
returns-clause-kept g c = g.met.D.Disk.keeps_on true (is_ok c.read.result) c.args.self.now c.read_ahead.new.disk c.read.new.self (rw (← c.self.view_is) c.in_ok-read_ahead.ensures.kept) c.read.ensures.kept
