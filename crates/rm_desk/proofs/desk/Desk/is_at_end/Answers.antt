use Rattle.std.proofs.Common.{◌≡◌, true, false, not, sym, ◌∙◌, subst}
use Rattle.std.proofs.lemmas.Bool.{not-false}
use Rattle.rm_core.specs.Words.{has_rest, stands}
use Rattle.rm_desk.specs.Feeds.{at}
use Rattle.rm_desk.specs.View.{DeskView}
use Rattle.rm_desk.specs.Runs.{IsScriptOver}
use Rattle.rm_desk.proofs.Resting.{ready_unless}
use Rattle.rm_desk.proofs.desk.Desk.is_at_end.Goals as goal

pub returns-else-is_down-clause-lane : goal.returns-else-is_down-clause-lane
returns-else-is_down-clause-lane c = λ idle.
    let d = at c.self.inside.core c.self.inside.feeds in
    let down : not (stands d.core) ≡ false = subst (λ (v : DeskView). not (stands v.core) ≡ false) (sym c.self.view_is) (sym c.is_down.ensures ∙ c.if-is_down.false) in
    let alive = not-false (stands d.core) down in
    rw (← c.self.view_is)
    (ready_unless d c.self.invariant.0 c.rest.ensures (λ (over : IsScriptOver d). let is = c.is_idle.ensures.1 (subst (λ (v : DeskView). (stands v.core ≡ true) × has_rest v.core) c.self.view_is (alive, over.rest alive)) in let no = idle in cc))

pub returns-else-is_at_end-clause-lane : goal.returns-else-is_at_end-clause-lane
returns-else-is_at_end-clause-lane c = λ no.
    let d = at c.self.inside.core c.self.inside.feeds in
    rw (← c.self.view_is)
    (ready_unless d c.self.invariant.0 c.rest.ensures (λ (over : IsScriptOver d). let is = c.is_at_end.ensures.1 (record { lives = over.lives; segments = over.segments }) in let n = no in cc))
