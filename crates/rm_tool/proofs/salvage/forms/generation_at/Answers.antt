use Rattle.std.proofs.Common.{◌≡◌, ℕ, Option, Some, None, ◌∙◌}
use Rattle.std.specs.Prelude.{IfNone}
use Rattle.rm_journal.specs.Journal.{region_of}
use Rattle.rm_tool.proofs.salvage.FormLemmas.{broken_never, other_never}
use Rattle.rm_tool.proofs.salvage.forms.generation_at.Goals as goal

none_so : {P Q : Type 0} (o : Option ℕ) → (P → Q) → IfNone o P → IfNone o Q
none_so None f p = f p
none_so (Some n) f p = p

pub returns-in-Record-clause-none : goal.returns-in-Record-clause-none
returns-in-Record-clause-none c =
    let area = region_of c.args.from c.args.end c.args.disk.now in
    let first = rw c.in-Record.is at c.in_ok-look.ensures.found in
    none_so c.generation_of.result (λ none. other_never area c.look.new.payload.items first (λ g low high is. none g low high (c.deref.ensures.value ∙ is))) c.generation_of.ensures.none

pub returns-clause-none : goal.returns-clause-none
returns-clause-none c =
    let area = region_of c.args.from c.args.end c.args.disk.now in
    broken_never area (rw c.in-Broken.is at c.in_ok-look.ensures.found)
