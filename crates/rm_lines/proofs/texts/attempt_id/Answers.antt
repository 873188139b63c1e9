use Rattle.rm_lines.proofs.texts.attempt_id.Goals as goal

pub returns-in-Err : goal.returns-in-Err
returns-in-Err c = λ id is. absurd (let read = c.in-Err.ensures.only id is.fits is.same in cc)
