use Rattle.rm_store.proofs.Common.{◌≡◌, ◌-◌, ◌+◌, map, sum, take, length, frame}
use Rattle.rm_store.proofs.appending.room_of.Given as goal

abbrev pub invariant-ops : goal.invariant-ops
invariant-ops l = l.room ≡ l.fn.half - 13 - sum (map (λ op. length (frame op) + 5) (take l.place l.ops))
