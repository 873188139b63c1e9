use Rattle.std.proofs.Common.{◌≡◌, List, sym, ◌∙◌, ap, subst}
use Rattle.std.specs.Prelude.{All}
use Rattle.std.proofs.lemmas.Result.{IfOk-weaker}
use Rattle.rm_types.specs.declared.operations.Op.{Op}
use Rattle.rm_types.specs.Ranges.{IsOperation}
use Rattle.rm_types.specs.Records.{stray}
use Rattle.rm_store.proofs.compaction.Folded.{folded_none_stray}
use Rattle.rm_store.proofs.Contents.{framed_left}
use Rattle.rm_tool.proofs.salvage.FrontLemmas.{front_none_stray}
use Rattle.rm_tool.proofs.salvage.lists.old_operations.Goals as goal

pub returns-in-OneJournal-clause-framed : goal.returns-in-OneJournal-clause-framed
returns-in-OneJournal-clause-framed c =
    IfOk-weaker c.left_of.result _ _ (λ left is. subst (λ (l : List Op). All IsOperation l) (sym is) (framed_left c.in_ok-form.field-0.ops c.in_ok-form.ensures.framed)) c.left_of.ensures.folded

pub returns-in-OneJournal-clause-none_stray : goal.returns-in-OneJournal-clause-none_stray
returns-in-OneJournal-clause-none_stray c =
    IfOk-weaker c.left_of.result _ _
    (λ left is. ap stray is ∙ folded_none_stray c.in_ok-form.field-0.ops (front_none_stray c.in_ok-form.field-0.form c.args.disk.now c.in_ok-form.field-0.ops c.in_ok-form.ensures.front)) c.left_of.ensures.folded
