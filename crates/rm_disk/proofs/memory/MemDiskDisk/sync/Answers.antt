use Rattle.std.proofs.Common.{◌≡◌, ◌+◌, ℕ, Some, List, [], ◌∷◌, ◌++◌, length, refl, sym, ◌∙◌, ap, arith, length-append}
use Rattle.rm_disk.specs.declared.memory.MemDisk.{MemDisk}
use Rattle.rm_disk.specs.declared.calls.Call.TheVariants.{Sync}
use Rattle.rm_disk.specs.Memory.{settled_at, replayed}
use Rattle.rm_disk.proofs.Records.{already, synced_anew, settled_replayed, settled_durable, settled_quiet, fault_quiet}
use Rattle.rm_disk.proofs.memory.MemDiskDisk.sync.Goals as goal

pub returns-then-fails-clause-quiet : goal.returns-then-fails-clause-quiet
returns-then-fails-clause-quiet c =
    let s = c.fails.new.self in
    let first_is : s.first.items ≡ c.args.self.now.first.items = ap (λ (m : MemDisk). m.first.items) c.fails.ensures.same in
    let bytes_is : s.bytes.items ≡ c.args.self.now.bytes.items = ap (λ (m : MemDisk). m.bytes.items) c.fails.ensures.same in
    let calls_is : s.calls.items ≡ c.args.self.now.calls.items = ap (λ (m : MemDisk). m.calls.items) c.fails.ensures.same in
    rw (← first_is, ← bytes_is, ← calls_is) (fault_quiet s.first.items s.bytes.items s.calls.items c.args.self.now.faults s.faults c.fails.ensures.later)

pub returns-then-self-len-clause-durable : goal.returns-then-self-len-clause-durable
returns-then-self-len-clause-durable c = λ image is.
    let s = c.fails.new.self in
    ap (λ (l : List ℕ). Some l) (sym (already s.first.items s.bytes.items s.synced.items s.calls.items s.settled s.replays (omega (arith, c.if-self-len.true, c.len.ensures)) image is))

pub invariant_of-self-clause-replays : goal.invariant_of-self-clause-replays
invariant_of-self-clause-replays c =
    let s = c.fails.new.self in
    let calls : c.keep.new.calls.items ≡ s.calls.items ++ Sync ∷ [] = c.keep.ensures.items in
    let now_is : settled_at (replayed s.first.items s.calls.items).now ≡ settled_at s.bytes.items = ap settled_at (sym s.replays.now) in
    let synced = c.settle.ensures ∙ synced_anew s.first.items s.bytes.items s.synced.items s.calls.items s.settled s.replays in
    let counted : c.len-self.result ≡ length s.calls.items + 1 = omega (arith, c.len-self.ensures, ap length calls, length-append s.calls.items (Sync ∷ [])) in
    rw (synced, calls, counted) (settled_replayed s.first.items s.bytes.items s.synced.items s.calls.items s.settled s.replays Sync s.bytes.items now_is s.replays.image refl)

pub returns-clause-durable : goal.returns-clause-durable
returns-clause-durable c =
    let s = c.fails.new.self in
    let calls : c.keep.new.calls.items ≡ s.calls.items ++ Sync ∷ [] = c.keep.ensures.items in
    let now_is : settled_at (replayed s.first.items s.calls.items).now ≡ settled_at s.bytes.items = ap settled_at (sym s.replays.now) in
    rw calls (settled_durable s.first.items s.bytes.items s.synced.items s.calls.items s.settled s.replays Sync s.bytes.items now_is s.replays.image refl s.faults)

pub returns-clause-quiet : goal.returns-clause-quiet
returns-clause-quiet c =
    let s = c.fails.new.self in
    let first_is : s.first.items ≡ c.args.self.now.first.items = ap (λ (m : MemDisk). m.first.items) c.fails.ensures.same in
    let bytes_is : s.bytes.items ≡ c.args.self.now.bytes.items = ap (λ (m : MemDisk). m.bytes.items) c.fails.ensures.same in
    let calls_is : s.calls.items ≡ c.args.self.now.calls.items = ap (λ (m : MemDisk). m.calls.items) c.fails.ensures.same in
    let calls : c.keep.new.calls.items ≡ s.calls.items ++ Sync ∷ [] = c.keep.ensures.items in
    let now_is : settled_at (replayed s.first.items s.calls.items).now ≡ settled_at s.bytes.items = ap settled_at (sym s.replays.now) in
    rw (calls, ← first_is, ← bytes_is, ← calls_is) (settled_quiet s.first.items s.bytes.items s.synced.items s.calls.items s.settled s.replays Sync s.bytes.items now_is s.replays.image refl refl c.args.self.now.faults s.faults c.fails.ensures.later)
