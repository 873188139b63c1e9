use Rattle.rm_types.proofs.TestLemmas.{on_ok_map}
use Rattle.rm_store.proofs.compaction.Walked.{looked}
use Rattle.rm_store.proofs.compaction.folding.look.Goals as goal

pub returns : goal.returns
returns c = on_ok_map c.precede.result (λ says. λ ops is rest. (says ops is, looked c.args.op.now ops _ _ c.leaves.result (c.leaves.ensures ops is) c.in_ok-put.ensures rest)) c.precede.ensures
