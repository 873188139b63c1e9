use Rattle.std.proofs.Common.{[], ◌∷◌, ◌++◌, sym, ap, ◌∙◌}
use Rattle.std.specs.Map.{lookup}
use Rattle.rm_types.specs.Ids.{is_app}
use Rattle.rm_types.proofs.TestLemmas.{on_ok_map, none_from_is_some}
use Rattle.rm_sched.specs.ClosingLists.{with_lists}
use Rattle.rm_sched.proofs.Listed.{ending_first, ending_none, ending_there, ending_unknown}
use Rattle.rm_sched.proofs.closing_lists.take_ending.Goals as goal

pub returns-then-branch : goal.returns-then-branch
returns-then-branch c =
    ap (λ l. with_lists l c.args.rows.now) c.in_ok-add_ending.ensures.ok
    ∙ ending_there c.args.closing c.args.lists.now c.args.rows.now (sym c.in_ok-add_ending.ensures.there ∙ c.if-branch.true)

pub returns-in_default : goal.returns-in_default
returns-in_default c =
    let none = none_from_is_some (lookup (is_app c.args.closing.attempt.app) c.args.lists.now) (sym c.in_ok-add_ending.ensures.there ∙ c.if-branch.false) in
    let same = c.in_ok-add_ending.ensures.ok ∙ ending_none c.args.closing c.args.lists.now none in
    let unknown = rw c.in_default.is at c.find.ensures in
    ap (λ l. with_lists l c.args.rows.now) same ∙ ending_unknown c.args.closing c.args.lists.now c.args.rows.now none (sym unknown)

pub add-requires : goal.add-requires
add-requires c =
    let none = none_from_is_some (lookup (is_app c.args.closing.attempt.app) c.args.lists.now) (sym c.in_ok-add_ending.ensures.there ∙ c.if-branch.false) in
    let same = c.in_ok-add_ending.ensures.ok ∙ ending_none c.args.closing c.args.lists.now none in
    ap (lookup (is_app c.args.closing.attempt.app)) same ∙ none

pub returns : goal.returns
returns c =
    let none = none_from_is_some (lookup (is_app c.args.closing.attempt.app) c.args.lists.now) (sym c.in_ok-add_ending.ensures.there ∙ c.if-branch.false) in
    let same = c.in_ok-add_ending.ensures.ok ∙ ending_none c.args.closing c.args.lists.now none in
    let found = rw c.in-Some.is at c.find.ensures in
    on_ok_map _ (λ e. ending_first c.args.closing c.args.lists.now c.add.new.self c.args.rows.now c.in-Some.row.now none (sym found)
    (e ∙ ap (λ l. c.add_ending.new.self ++ (c.args.closing.attempt.app, l) ∷ []) c.in_ok-with_closing.ensures ∙ ap (λ l. l ++ (c.args.closing.attempt.app, c.in-Some.row.now.closings ++ c.args.closing ∷ []) ∷ []) same)) c.add.ensures
