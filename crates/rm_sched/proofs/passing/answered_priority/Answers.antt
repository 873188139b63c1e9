use Rattle.std.proofs.Common.{◌∙◌, List, option_map, ap}
use Rattle.std.specs.Prelude.{find}
use Rattle.rm_types.specs.declared.containers.Ask.{Ask}
use Rattle.rm_book.specs.AskTables.{attempt_asks}
use Rattle.rm_model.specs.Containers.{is_size}
use Rattle.rm_sched.proofs.Granting.{found_line, lines_are}
use Rattle.rm_sched.proofs.passing.answered_priority.Goals as goal

pub returns-in-Some : goal.returns-in-Some
returns-in-Some c =
    let lines = lines_are c.in-Some.lines.now (attempt_asks c.args.asks.now c.args.grant.now.id.attempt) (rw c.in-Some.is at c.of.ensures) in
    c.priority_of.ensures ∙ rw c.as_slice.ensures (found_line c.in-Some.lines.now c.args.grant.now.size)
    ∙ ap (λ (asks : List Ask). option_map (λ ask. ask.priority) (find (λ one. is_size one.size c.args.grant.now.size) asks)) lines
