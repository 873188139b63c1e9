use Rattle.std.proofs.Common.{◌≡◌, ℕ, Option, sym, ◌∙◌, ap, subst}
use Rattle.std.specs.Prelude.{IfNone, IfSome}
use Rattle.rm_tool.specs.declared.salvage.checks.Fault.{Fault}
use Rattle.rm_tool.specs.salvage.Checks.{HasOldContent, IsOldFault, front_fault}
use Rattle.rm_tool.proofs.salvage.FaultLemmas.{fault_by, whole_by}
use Rattle.rm_tool.proofs.salvage.checks.journal_fault.Goals as goal

pub returns-clause-whole : goal.returns-clause-whole
returns-clause-whole c = λ bytes front stops.
    let same = c.fault_at.ensures ∙ ap (front_fault c.args.stop) c.len.ensures in
    subst (λ (o : Option Fault). IfNone o (HasOldContent bytes c.args.ops.now)) (sym same) (whole_by bytes c.args.ops.now c.args.stop front stops)

pub returns-clause-fault : goal.returns-clause-fault
returns-clause-fault c = λ bytes front stops.
    let same = c.fault_at.ensures ∙ ap (front_fault c.args.stop) c.len.ensures in
    subst (λ (o : Option Fault). IfSome o (IsOldFault bytes)) (sym same) (fault_by bytes c.args.ops.now c.args.stop front stops)
