use Rattle.std.proofs.Common.{◌≡◌, ◌++◌, replicate}
use Rattle.rm_formats.proofs.ids.writing.put_padded.Given as goal

-- so many zeros are written
abbrev pub invariant-zeros : goal.invariant-zeros
invariant-zeros l = l.text.items ≡ l.initial.text.items ++ replicate l._zero 48
