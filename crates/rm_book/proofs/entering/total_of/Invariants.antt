use Rattle.rm_book.proofs.Common.{◌≡◌, ◌+◌, map, take, total_of}
use Rattle.rm_book.proofs.entering.total_of.Given as goal

abbrev pub invariant-list : goal.invariant-list
invariant-list l = record {
  memory_mb : l.memory_mb + (total_of (map (λ held. held.size) (take l.held-index l.list))).memory_mb ≡ l.within.memory_mb;
  vcores : l.vcores + (total_of (map (λ held. held.size) (take l.held-index l.list))).vcores ≡ l.within.vcores;
}
