use Rattle.std.proofs.Common.{rules}
use Rattle.std.proofs.lemmas.Fn.{filter_same}
use Rattle.rm_tables.specs.Leaving.{is_stale_in}
use Rattle.rm_sched.proofs.Picked.{picked_twice}
use Rattle.rm_sched.proofs.ending.stale_of.Goals as goal

pub returns : goal.returns
returns c =
    let stale = is_stale_in c.args.t.now.tree.apps in
    rw (filter_same _ stale _ (λ x b q t. search rules) _ _ c.retain.ensures, c.in_ok-ids.ensures) (picked_twice stale c.args.app c.args.t.now.book.rows)
