use Rattle.std.proofs.Common.{ℕ, ◌-◌, ◌/◌, Bool, true, ◌≡◌, List, ◌++◌, length, drop, arith, length-append, sym, ◌∙◌, subst}
use Rattle.std.specs.Prelude.{◌↔◌, All}
use Rattle.rm_formats.specs.declared.TheConstants.{FIRST_END}
use Rattle.rm_disk.proofs.Scans.{clear_after, unclear_after}
use Rattle.rm_disk.proofs.scan.Scan.see.Goals.{then-self, else-self}
use Rattle.rm_disk.proofs.scan.Scan.see.Goals as goal

pub returns : goal.returns
returns c = λ size bytes seen.
    let was = c.args.self.now in
    let block = c.args.block.now in
    record {
      first = c.see.ensures 0 bytes seen.first;
      second = c.see-2.ensures (size / 2) bytes seen.second;
      front = omega (arith, seen.front, c.min-skipped.ensures, length-append bytes block);
      clear =
          elim c.if-self.branch [
            | then-self w ↦
                subst (λ (b : Bool). (b ≡ true) ↔ All (λ b. b ≡ 0) (drop FIRST_END (bytes ++ block))) (sym w.self-is)
                (clear_after FIRST_END was.front c.min-skipped.result bytes block was.is_clear w.are_zeros-self.result seen.front c.min-skipped.ensures seen.clear w.if-self.true w.are_zeros-self.ensures)
            | else-self w ↦ unclear_after FIRST_END bytes block was.is_clear c.if-self.self seen.clear w.if-self.false (w.self-is ∙ w.if-self.false)
          ];
    }
