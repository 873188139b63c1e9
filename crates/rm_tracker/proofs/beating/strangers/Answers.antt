use Rattle.std.proofs.Common.{[], ◌∙◌, fold, ap, arith, not}
use Rattle.std.specs.Prelude.{List}
use Rattle.std.proofs.lemmas.List.{take_all}
use Rattle.rm_types.specs.declared.containers.Held.{Held}
use Rattle.rm_model.specs.NodeReplies.{reported}
use Rattle.rm_tables.proofs.Once.{take_one, taken_once}
use Rattle.rm_tracker.specs.Told.{lives_at}
use Rattle.rm_tracker.proofs.beating.strangers.Goals as goal

pub returns : goal.returns
returns c =
    c.running.invariant
    ∙ ap (λ (running : List Held). fold (take_one (λ id. not (lives_at c.args.book.now c.args.name.now id))) [] (reported running))
    (take_all c.running.held-index c.args.running.now (omega (arith, c.running-test.false)))
    ∙ taken_once (λ id. not (lives_at c.args.book.now c.args.name.now id)) (reported c.args.running.now)
