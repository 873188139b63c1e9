use Rattle.std.proofs.Common.{length, sym, ap, ◌∙◌, rules, tests}
use Rattle.std.specs.List.{slice_split}
use Rattle.std.proofs.lemmas.Iterator.Splits.{YieldsList-from_slice_split}
use Rattle.std.proofs.lemmas.Iterator.Consumers.{YieldsList-turn, YieldsList-end}
use Rattle.std.proofs.lemmas.List.{length_push}
use Rattle.rm_types.specs.AclTexts.{is_comma}
use Rattle.rm_types.specs.Lists.{is_nil}
use Rattle.rm_queues.proofs.Items.{items_of_first, items_more-kept, items_more-dropped, is_nil_by_length, items_of_all}
use Rattle.rm_queues.proofs.acls.items_of.Goals as goal

pub loop-item-preserved-in_ok-push : goal.loop-item-preserved-in_ok-push
loop-item-preserved-in_ok-push c =
    let parts = slice_split is_comma c.args.part.now in
    let by = rw c.into_iter-item-iterator.ensures.into_iter_gives at c.loop-item.yielded_by in
    let t = YieldsList-turn (YieldsList-from_slice_split _ is_comma c.args.part.now c.split-item-items.ensures.rest c.split-item-items.ensures.done c.split-item-items.ensures.closure (λ x r q k. search (rules, tests))) c.loop-item.yielded c.loop-item.item-iterator by c.next.result c.next.new.self c.in-Some.item c.in-Some.is c.next.ensures.steps in
    let item = c.in_ok-from_bytes.ensures in
    let kept = ap is_nil item ∙ is_nil_by_length c.trimmed-item.result.now ∙ sym c.if-not-is_empty.ensures in
    items_more-kept parts (length c.loop-item.yielded) _ c.in-Some.item.now c.in_ok-from_bytes.field-0 c.loop-item.items _ t (length_push c.loop-item.yielded c.in-Some.item) (item ∙ c.trimmed-item.ensures) kept c.loop-item.invariant c.in_ok-push.ensures.ok

pub loop-item-preserved : goal.loop-item-preserved
loop-item-preserved c =
    let parts = slice_split is_comma c.args.part.now in
    let by = rw c.into_iter-item-iterator.ensures.into_iter_gives at c.loop-item.yielded_by in
    let t = YieldsList-turn (YieldsList-from_slice_split _ is_comma c.args.part.now c.split-item-items.ensures.rest c.split-item-items.ensures.done c.split-item-items.ensures.closure (λ x r q k. search (rules, tests))) c.loop-item.yielded c.loop-item.item-iterator by c.next.result c.next.new.self c.in-Some.item c.in-Some.is c.next.ensures.steps in
    let dropped = ap is_nil (sym c.trimmed-item.ensures) ∙ is_nil_by_length c.trimmed-item.result.now ∙ sym c.if-not-is_empty.ensures in
    let more = items_more-dropped parts (length c.loop-item.yielded) c.in-Some.item.now t dropped in
    let count = ap (items_of_first parts) (length_push c.loop-item.yielded c.in-Some.item) in
    cc

pub returns : goal.returns
returns c =
    let parts = slice_split is_comma c.args.part.now in
    let by = rw c.into_iter-item-iterator.ensures.into_iter_gives at c.loop-item.yielded_by in
    let t = YieldsList-end (YieldsList-from_slice_split _ is_comma c.args.part.now c.split-item-items.ensures.rest c.split-item-items.ensures.done c.split-item-items.ensures.closure (λ x r q k. search (rules, tests))) c.loop-item.yielded c.loop-item.item-iterator by c.next.result c.next.new.self c.in-None.is c.next.ensures.steps in
    let all = items_of_all parts (length c.loop-item.yielded) t.1 in
    cc
