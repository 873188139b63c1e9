-- By what is ready.
use Rattle.std.proofs.Common.{rules}
use Rattle.rm_workers.proofs.CallLemmas.{ready_called}
use Rattle.rm_workers.proofs.held.Held.called.Goals as goal

pub returns-clause-ready : goal.returns-clause-ready
returns-clause-ready g c = ready_called c.args.self.now.desk _ (search rules)
