use Rattle.std.proofs.Common.{[], ◌∷◌, ◌++◌, ap, sym, ◌∙◌}
use Rattle.rm_types.specs.declared.entries.Entry.{Entry}
use Rattle.rm_types.proofs.TestLemmas.{on_ok_map}
use Rattle.rm_core.proofs.moves.keep.Goals as goal

pub returns-clause-ok : goal.returns-clause-ok
returns-clause-ok c =
    on_ok_map c.push_made.result
    (λ made op rest front.
    let kept = rw made.1.shows at made.1.met.0 in
    let is = kept op rest front in
    (sym made.1.leaves ∙ is.1, made.2 ∙ ap (λ (entry : Entry). c.args.log.now ++ entry ∷ []) is.0))
    c.push_made.ensures.ok
