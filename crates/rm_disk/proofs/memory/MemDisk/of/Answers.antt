use Rattle.std.proofs.Common.{Some, List, ℕ, refl, sym, ◌∙◌, ap}
use Rattle.rm_disk.proofs.Records.{fresh_durable}
use Rattle.rm_disk.proofs.memory.MemDisk.of.Goals as goal

pub returns : goal.returns
returns c = record {
  told = ap (λ (l : List ℕ). Some l) c.into_vec-bytes.ensures;
  durable = fresh_durable c.in_ok-first.first.items c.into_vec-bytes.result.items c.new.result.items 0 c.new.ensures.items (sym (c.in_ok-first.ensures.items ∙ c.deref.ensures.value));
  faults = refl;
  list = refl;
  none_made = refl;
}
