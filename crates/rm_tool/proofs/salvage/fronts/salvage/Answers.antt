use Rattle.std.proofs.Common.{ℕ, List, sym, subst}
use Rattle.rm_tool.specs.salvage.Forms.{IsForm}
use Rattle.rm_tool.proofs.salvage.fronts.salvage.Goals as goal

pub front_of-requires : goal.front_of-requires
front_of-requires c = subst (λ (b : List ℕ). IsForm b c.in_ok-form.form) (sym c.form_of.ensures.same) c.in_ok-form.ensures.form
