use Rattle.std.proofs.Common.{ap, ◌∙◌}
use Rattle.rm_book.specs.AskTables.{attempt_asks}
use Rattle.rm_sched.specs.fit.Conditions.{are_some_sizes}
use Rattle.rm_sched.specs.fit.Turns.{asks_by}
use Rattle.rm_sched.proofs.fit.Fitting.{found_sizes, no_sizes}
use Rattle.rm_sched.proofs.fit.Passing.{sizes_by}
use Rattle.rm_sched.proofs.fit.passes.has_sizes.Goals as goal

pub returns-in-Some : goal.returns-in-Some
returns-in-Some c =
    c.are_some_sizes.ensures ∙ sizes_by c.as_slice.result.now ∙ ap (λ lines. are_some_sizes (asks_by lines)) c.as_slice.ensures
    ∙ found_sizes (attempt_asks c.args.asks.now c.args.attempt) _ c.in-Some.ensures

pub returns-in-None : goal.returns-in-None
returns-in-None c = no_sizes (attempt_asks c.args.asks.now c.args.attempt) c.in-None.ensures
