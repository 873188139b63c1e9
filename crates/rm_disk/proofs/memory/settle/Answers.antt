use Rattle.std.proofs.Common.{length, refl}
use Rattle.std.proofs.lemmas.List.{take_rest}
use Rattle.rm_disk.proofs.Written.{fit_drop}
use Rattle.rm_disk.proofs.memory.settle.Goals as goal

pub copy_written-requires-clause-fit : goal.copy_written-requires-clause-fit
copy_written-requires-clause-fit c =
    rw (take_rest, c.deref-2.ensures.value) (fit_drop (length c.args.synced.now.items) c.args.settled c.args.calls.now.items c.requires.fit)

pub returns : goal.returns
returns c =
    rw (c.copy_written.ensures, take_rest, c.deref-2.ensures.value, c.deref.ensures.value) refl
