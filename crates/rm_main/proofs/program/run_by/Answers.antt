use Rattle.std.proofs.Common.{Some, None, refl, inl, inr, sym}
use Rattle.std.specs.Prelude.{map, string_bytes}
use Rattle.rm_words.specs.Words.{asked}
use Rattle.rm_main.proofs.Calls.{by_words, none_told, none_told_of_words}
use Rattle.rm_main.proofs.program.run_by.Goals as goal

pub returns-in-Ok-Some-clause-came : goal.returns-in-Ok-Some-clause-came
returns-in-Ok-Some-clause-came g c =
    let line = c.in-Ok-Some.line in
    by_words g.D.Disk.view (map string_bytes c.args.words.now) (Some (asked line.mode)) line.is_in_file _ _ _ (rw c.in-Ok-Some.field-0-is at c.in-Ok-Some.ensures.some) (sym (rw c.in-Ok-Some.field-0-is at c.in-Ok-Some.ensures.file)) c.run_line.ensures.came

pub returns-in-Ok-None-clause-came : goal.returns-in-Ok-None-clause-came
returns-in-Ok-None-clause-came g c = by_words g.D.Disk.view (map string_bytes c.args.words.now) None _ _ _ _ (rw c.in-Ok-None.field-0-is at c.in-Ok-None.ensures.none) refl (inr (refl, c.unasked.ensures))

pub returns-in-Ok-None-clause-faults : goal.returns-in-Ok-None-clause-faults
returns-in-Ok-None-clause-faults g c = none_told_of_words _ _ _ c.unasked.ensures

pub returns-in-Err-clause-came : goal.returns-in-Err-clause-came
returns-in-Err-clause-came g c = record { either = inl (c.starved.ensures, refl) }

pub returns-in-Err-clause-faults : goal.returns-in-Err-clause-faults
returns-in-Err-clause-faults g c = none_told _ _ _ c.starved.ensures
