use Rattle.std.proofs.Common.{◌≡◌, ◌+◌, ℕ, Some, List, [], ◌∷◌, ◌++◌, length, get_or, drop, refl, sym, ◌∙◌, ap, arith, length-append}
use Rattle.rm_disk.specs.declared.calls.Call.TheVariants.{Fall}
use Rattle.rm_disk.specs.Memory.{renewed, is_written, fallen}
use Rattle.rm_disk.specs.MemDisk.{state_of}
use Rattle.rm_disk.proofs.Records.{none_falls, none_fallen, fallen_size, fallen_step, fallen_here, fallen_anew, settled_replayed, falls}
use Rattle.rm_disk.proofs.memory.MemDiskDisk.fall.Goals as goal

pub returns-then-self-len-clause-falls : goal.returns-then-self-len-clause-falls
returns-then-self-len-clause-falls c =
    let s = c.args.self.now in
    none_falls s.first.items s.bytes.items s.synced.items s.calls.items s.settled s.replays (omega (arith, c.if-self-len.true, c.len.ensures)) s.faults

pub returns-then-self-len-clause-image : goal.returns-then-self-len-clause-image
returns-then-self-len-clause-image c =
    let s = c.args.self.now in
    let told = ap (λ (l : List ℕ). Some l) (sym (none_fallen s.first.items s.bytes.items s.synced.items s.calls.items s.settled s.replays (omega (arith, c.if-self-len.true, c.len.ensures)) c.args.image)) in
    record { told = told; number = refl; list = refl }

pub settle-requires-clause-size : goal.settle-requires-clause-size
settle-requires-clause-size c =
    let s = c.args.self.now in
    let left : List ℕ = fallen c.args.image (state_of s) in
    let bytes : c.fall_to.new.bytes.items ≡ left = c.fall_to.ensures in
    ap length bytes ∙ fallen_size s.first.items s.bytes.items s.synced.items s.calls.items s.settled s.replays c.args.image

pub invariant_of-self-clause-replays : goal.invariant_of-self-clause-replays
invariant_of-self-clause-replays c =
    let s = c.args.self.now in
    let left : List ℕ = fallen c.args.image (state_of s) in
    let bytes : c.fall_to.new.bytes.items ≡ left = c.fall_to.ensures in
    let calls : c.keep.new.calls.items ≡ s.calls.items ++ Fall c.args.image ∷ [] = c.keep.ensures.items in
    let synced : c.settle.new.synced.items ≡ left =
    c.settle.ensures ∙ ap (λ (l : List ℕ). renewed (is_written (drop s.settled s.calls.items)) (λ place. get_or l place 0) s.synced.items) bytes
    ∙ fallen_anew s.first.items s.bytes.items s.synced.items s.calls.items s.settled s.replays c.args.image in
    let counted : c.len-self.result ≡ length s.calls.items + 1 = omega (arith, c.len-self.ensures, ap length calls, length-append s.calls.items (Fall c.args.image ∷ [])) in
    rw (bytes, synced, calls, counted) (settled_replayed s.first.items s.bytes.items s.synced.items s.calls.items s.settled s.replays (Fall c.args.image) left (fallen_step s.first.items s.bytes.items s.synced.items s.calls.items s.settled s.replays c.args.image) (fallen_here s.first.items s.bytes.items s.synced.items s.calls.items s.settled s.replays c.args.image) refl)

pub returns-clause-falls : goal.returns-clause-falls
returns-clause-falls c =
    let s = c.args.self.now in
    let left : List ℕ = fallen c.args.image (state_of s) in
    let bytes : c.fall_to.new.bytes.items ≡ left = c.fall_to.ensures in
    rw (bytes, c.keep.ensures.items) (falls s.first.items s.bytes.items s.synced.items s.calls.items s.settled s.replays (Fall c.args.image) left (fallen_step s.first.items s.bytes.items s.synced.items s.calls.items s.settled s.replays c.args.image) (fallen_here s.first.items s.bytes.items s.synced.items s.calls.items s.settled s.replays c.args.image) refl s.faults)

pub returns-clause-image : goal.returns-clause-image
returns-clause-image c = record { told = ap (λ (l : List ℕ). Some l) c.fall_to.ensures; number = refl; list = refl }
