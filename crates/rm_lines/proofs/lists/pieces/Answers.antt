use Rattle.std.proofs.Common.{◌≡◌, map, rules, tests}
use Rattle.std.proofs.lemmas.Iterator.Consumers.{map_from_collect}
use Rattle.std.proofs.lemmas.Iterator.Splits.{YieldsList-from_slice_split}
use Rattle.std.proofs.lemmas.Result.{IfOk-at_ok}
use Rattle.std.specs.Vec.{vec_items}
use Rattle.rm_page.proofs.Bytes.{cut}
use Rattle.rm_lines.proofs.lists.pieces.Goals as goal

pub returns-clause-pieces : goal.returns-clause-pieces
returns-clause-pieces c =
    IfOk-at_ok (λ v. map (λ word. word.now) (vec_items v) ≡ cut c.args.byte c.args.text.now) c.in_ok-pieces.was
    (map_from_collect _ c.collect.ensures.ran (YieldsList-from_slice_split _ _ c.args.text.now c.split.ensures.rest c.split.ensures.done c.split.ensures.closure (λ x r q k. search (rules, tests))))
