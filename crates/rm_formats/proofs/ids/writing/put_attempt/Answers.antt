use Rattle.std.proofs.lemmas.List.{append_assoc}
use Rattle.rm_formats.proofs.ids.writing.put_attempt.Goals as goal

pub returns-clause-ok : goal.returns-clause-ok
returns-clause-ok c = simp (c.from.ensures, c.in_ok-put_field.ensures.ok, c.in_ok-put_app.ensures.ok, append_assoc)
