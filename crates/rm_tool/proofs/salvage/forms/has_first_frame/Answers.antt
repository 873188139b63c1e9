use Rattle.std.proofs.Common.{◌≡◌, List, ℕ, refl, sym, subst}
use Rattle.rm_store.specs.Content.{IsFrameOf}
use Rattle.rm_tool.specs.salvage.Forms.{HasFirst}
use Rattle.rm_tool.proofs.salvage.FormLemmas.{other_no_frame, whole_region}
use Rattle.rm_tool.proofs.salvage.forms.has_first_frame.Goals as goal

pub returns-in-Record-clause-has : goal.returns-in-Record-clause-has
returns-in-Record-clause-has c =
    let bytes = c.args.disk.now in
    let found = rw c.in-Record.is at c.in_ok-look.ensures.found in
    let first = subst (λ (l : List ℕ). HasFirst l c.look.new.payload.items) (whole_region bytes c.args.size c.requires.all) found in
    let none = rw c.in-None.is at c.in_ok-_op-in-Record.ensures.none in (
      λ t. cc,
      λ has. absurd (other_no_frame bytes c.look.new.payload.items first (λ op is. none op (subst (λ (l : List ℕ). IsFrameOf l op) (sym c.deref.ensures.value) is)) has),
    )

pub returns-in-Some-clause-has : goal.returns-in-Some-clause-has
returns-in-Some-clause-has c =
    let found = rw c.in-Record.is at c.in_ok-look.ensures.found in
    let first = subst (λ (l : List ℕ). HasFirst l c.look.new.payload.items) (whole_region c.args.disk.now c.args.size c.requires.all) found in
    let some = rw c.in-Some.is at c.in_ok-_op-in-Record.ensures.some in (
      λ t. record { payload = c.look.new.payload.items; op = c.in-Some._op; first = first; framed = subst (λ (l : List ℕ). IsFrameOf l c.in-Some._op) c.deref.ensures.value some },
      λ has. refl,
    )
