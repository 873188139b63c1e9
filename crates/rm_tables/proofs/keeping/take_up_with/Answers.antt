use Rattle.std.proofs.Common.{refl, sym, ◌∙◌}
use Rattle.rm_types.proofs.TestLemmas.{on_ok_map}
use Rattle.rm_tables.proofs.keeping.take_up_with.Goals as goal

pub returns-clause-ok : goal.returns-clause-ok
returns-clause-ok c = λ op rest e.
    on_ok_map c.push_made-taken.result
    (λ made.
    let taken = rw made.1.shows at made.1.met.1.0 in
    let after = sym made.1.leaves ∙ taken op rest e in
    rw (after, made.2, made.1.met.0, c.replace-main.ensures.value) refl)
    c.push_made-taken.ensures.ok
