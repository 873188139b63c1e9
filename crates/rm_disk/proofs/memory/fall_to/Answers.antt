use Rattle.std.proofs.Common.{length, drop}
use Rattle.std.proofs.lemmas.List.{take_rest}
use Rattle.rm_disk.proofs.Written.{fit_drop, fallen_back, fallen_kept, fallen_scribbled}
use Rattle.rm_disk.proofs.memory.fall_to.Goals as goal

pub copy_written-requires-clause-fit : goal.copy_written-requires-clause-fit
copy_written-requires-clause-fit c =
    rw (take_rest, c.deref.ensures.value, c.requires.size) (fit_drop (length c.args.synced.now.items) c.args.settled c.args.calls.now.items c.requires.fit)

pub scribble_written-requires : goal.scribble_written-requires
scribble_written-requires c =
    rw (take_rest, c.deref.ensures.value, c.requires.size) (fit_drop (length c.args.synced.now.items) c.args.settled c.args.calls.now.items c.requires.fit)

pub returns-then-image-eq0 : goal.returns-then-image-eq0
returns-then-image-eq0 c =
    rw (c.copy_written.ensures, take_rest, c.deref.ensures.value, c.deref-then-image-eq0.ensures.value) (fallen_back c.args.image (record { now = c.args.bytes.now.items; synced = c.args.synced.now.items; unsynced = drop c.args.settled c.args.calls.now.items }) c.if-image-eq0.true)

pub returns-then-image-gt1 : goal.returns-then-image-gt1
returns-then-image-gt1 c =
    rw (c.scribble_written.ensures, take_rest, c.deref.ensures.value) (fallen_scribbled c.args.image (record { now = c.args.bytes.now.items; synced = c.args.synced.now.items; unsynced = drop c.args.settled c.args.calls.now.items }) c.if-image-gt1.true)

pub returns-else-image-gt1 : goal.returns-else-image-gt1
returns-else-image-gt1 c = fallen_kept c.args.image (record { now = c.args.bytes.now.items; synced = c.args.synced.now.items; unsynced = drop c.args.settled c.args.calls.now.items }) c.if-image-eq0.false c.if-image-gt1.false
