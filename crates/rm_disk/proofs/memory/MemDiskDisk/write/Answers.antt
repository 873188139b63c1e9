use Rattle.std.proofs.Common.{◌≡◌, ◌+◌, ◌≤◌, ℕ, List, [], ◌∷◌, ◌++◌, length, ◌∙◌, ap, arith}
use Rattle.rm_disk.specs.declared.calls.Call.{Call}
use Rattle.rm_disk.specs.declared.memory.MemDisk.{MemDisk}
use Rattle.rm_disk.specs.declared.calls.Call.TheVariants.{Write}
use Rattle.rm_disk.proofs.Records.{write_replayed, may_write, fault_quiet}
use Rattle.rm_disk.proofs.Views.{quiet_writes}
use Rattle.rm_disk.specs.MemDisk.{memory_view}
use Rattle.rm_disk.proofs.memory.MemDiskDisk.write.Goals as goal

pub invariant_of-self-2-clause-replays : goal.invariant_of-self-2-clause-replays
invariant_of-self-2-clause-replays c =
    let s = c.fails.new.self in
    let first_is : s.first.items ≡ c.args.self.now.first.items = ap (λ (m : MemDisk). m.first.items) c.fails.ensures.same in
    let bytes_is : s.bytes.items ≡ c.args.self.now.bytes.items = ap (λ (m : MemDisk). m.bytes.items) c.fails.ensures.same in
    let calls_is : s.calls.items ≡ c.args.self.now.calls.items = ap (λ (m : MemDisk). m.calls.items) c.fails.ensures.same in
    let piece_is : c.from_vec.result ≡ c.args.bytes.now = c.from_vec.ensures ∙ c.in-Ok.ensures.items in
    let within : c.args.at + length c.args.bytes.now ≤ length s.first.items = omega (arith, c.requires, ap length first_is) in
    let calls : c.keep.new.calls.items ≡ s.calls.items ++ Write c.args.at c.args.bytes.now ∷ [] = c.keep.ensures.items ∙ ap (λ (l : List Call). l ++ Write c.args.at c.from_vec.result ∷ []) c.reserve.ensures.items ∙ ap (λ (l : List ℕ). s.calls.items ++ Write c.args.at l ∷ []) piece_is in
    rw (c.put_bytes.ensures, calls) (write_replayed s.first.items s.bytes.items s.synced.items s.calls.items s.settled s.replays c.args.at c.args.bytes.now within)

pub returns-clause-in_range : goal.returns-clause-in_range
returns-clause-in_range c =
    let s = c.fails.new.self in
    let first_is : s.first.items ≡ c.args.self.now.first.items = ap (λ (m : MemDisk). m.first.items) c.fails.ensures.same in
    let bytes_is : s.bytes.items ≡ c.args.self.now.bytes.items = ap (λ (m : MemDisk). m.bytes.items) c.fails.ensures.same in
    let calls_is : s.calls.items ≡ c.args.self.now.calls.items = ap (λ (m : MemDisk). m.calls.items) c.fails.ensures.same in
    let piece_is : c.from_vec.result ≡ c.args.bytes.now = c.from_vec.ensures ∙ c.in-Ok.ensures.items in
    let within : c.args.at + length c.args.bytes.now ≤ length s.first.items = omega (arith, c.requires, ap length first_is) in
    let calls : c.keep.new.calls.items ≡ s.calls.items ++ Write c.args.at c.args.bytes.now ∷ [] = c.keep.ensures.items ∙ ap (λ (l : List Call). l ++ Write c.args.at c.from_vec.result ∷ []) c.reserve.ensures.items ∙ ap (λ (l : List ℕ). s.calls.items ++ Write c.args.at l ∷ []) piece_is in
    rw (c.put_bytes.ensures, calls, ← first_is, ← bytes_is, ← calls_is) (may_write s.first.items s.bytes.items s.synced.items s.calls.items s.settled s.replays c.args.at c.args.bytes.now within c.args.self.now.faults s.faults c.fails.ensures.later)

pub returns-then-fails-clause-in_range : goal.returns-then-fails-clause-in_range
returns-then-fails-clause-in_range c =
    let s = c.fails.new.self in
    let first_is : s.first.items ≡ c.args.self.now.first.items = ap (λ (m : MemDisk). m.first.items) c.fails.ensures.same in
    let bytes_is : s.bytes.items ≡ c.args.self.now.bytes.items = ap (λ (m : MemDisk). m.bytes.items) c.fails.ensures.same in
    let calls_is : s.calls.items ≡ c.args.self.now.calls.items = ap (λ (m : MemDisk). m.calls.items) c.fails.ensures.same in
    quiet_writes c.args.at (length c.args.bytes.now) (memory_view c.args.self.now) (memory_view s)
    (rw (← first_is, ← bytes_is, ← calls_is) (fault_quiet s.first.items s.bytes.items s.calls.items c.args.self.now.faults s.faults c.fails.ensures.later))
