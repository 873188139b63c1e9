use Rattle.std.proofs.Common.{◌≡◌, ℕ, List, sym, ◌∙◌, ap, subst}
use Rattle.std.specs.Prelude.{All}
use Rattle.std.proofs.lemmas.Result.{IfOk-weaker}
use Rattle.rm_types.specs.declared.operations.Op.{Op}
use Rattle.rm_types.specs.Ranges.{IsOperation}
use Rattle.rm_types.specs.Records.{stray}
use Rattle.rm_store.proofs.compaction.Folded.{folded_none_stray}
use Rattle.rm_store.proofs.Contents.{framed_left}
use Rattle.rm_tool.proofs.salvage.FrontLemmas.{front_framed, front_none_stray}
use Rattle.rm_tool.proofs.salvage.lists.kept_operations.Goals as goal

pub returns-in-OneJournal-clause-framed : goal.returns-in-OneJournal-clause-framed
returns-in-OneJournal-clause-framed c =
    IfOk-weaker c.fold.result _ _ (λ kept is bytes front. subst (λ (l : List Op). All IsOperation l) (sym is) (framed_left c.args.front (front_framed c.args.form bytes c.args.front front))) c.fold.ensures

pub returns-in-OneJournal-clause-none_stray : goal.returns-in-OneJournal-clause-none_stray
returns-in-OneJournal-clause-none_stray c =
    IfOk-weaker c.fold.result _ _ (λ kept is bytes front. ap stray is ∙ folded_none_stray c.args.front (front_none_stray c.args.form bytes c.args.front front)) c.fold.ensures

pub returns-in-TwoAreas-clause-framed : goal.returns-in-TwoAreas-clause-framed
returns-in-TwoAreas-clause-framed c = λ bytes front. front_framed c.args.form bytes c.args.front front
