use Rattle.std.proofs.Common.{ℕ, List, sym, subst}
use Rattle.std.specs.Prelude.{IfOk}
use Rattle.rm_tool.specs.salvage.Forms.{IsForm}
use Rattle.rm_tool.proofs.salvage.checks.judge.Goals as goal

pub judge_areas-requires-in-NoArea-clause-form : goal.judge_areas-requires-in-NoArea-clause-form
judge_areas-requires-in-NoArea-clause-form c = subst (λ (b : List ℕ). IsForm b c.in_ok-form.field-0.form) (sym c.salvage.ensures.same) c.in_ok-form.ensures.form

pub returns-in-TwoAreas-clause-form : goal.returns-in-TwoAreas-clause-form
returns-in-TwoAreas-clause-form c = subst (λ (b : List ℕ). IfOk c.judge_areas.result (λ judged. IsForm b judged.form)) c.salvage.ensures.same c.judge_areas.ensures.form
