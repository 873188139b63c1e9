use Rattle.std.proofs.Common.{Some, inl, inr, sym}
use Rattle.std.specs.Prelude.{map, string_bytes}
use Rattle.rm_words.specs.Words.{asked}
use Rattle.rm_main.proofs.Calls.{by_words}
use Rattle.rm_main.proofs.program.run_asked.Goals as goal

pub returns-in-Ok-Some : goal.returns-in-Ok-Some
returns-in-Ok-Some g c =
    let line = c.in-Ok-Some.line in
    inl (record {
      words = map string_bytes c.args.words.now;
      old = _;
      new = _;
      came = by_words _ (map string_bytes c.args.words.now) (Some (asked line.mode)) line.is_in_file _ _ _ (rw c.in-Ok-Some.field-0-is at c.in-Ok-Some.ensures.some) (sym (rw c.in-Ok-Some.field-0-is at c.in-Ok-Some.ensures.file)) c.run_line.ensures.came;
    })

pub returns-in-Ok-None : goal.returns-in-Ok-None
returns-in-Ok-None g c = inr (inr (inl c.unasked.ensures))

pub returns-in-Err : goal.returns-in-Err
returns-in-Err g c = inr (inr (inr c.starved.ensures))
