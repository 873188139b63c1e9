use Rattle.std.proofs.Common.{◌≡◌, ℕ, Some, List, ap, subst}
use Rattle.rm_disk.specs.Fuse.{Fused}
use Rattle.rm_store.specs.Causes.{IsWhy}
use Rattle.rm_tool.proofs.salvage.checks.open_areas.Goals as goal

pub returns-in-Damaged : goal.returns-in-Damaged
returns-in-Damaged c = subst (IsWhy c.args.disk) c.in-Damaged.is (c.in-Err.ensures.why c.args.disk (ap (λ (f : Fused (List ℕ)). Some f.inner) c.new.ensures))
