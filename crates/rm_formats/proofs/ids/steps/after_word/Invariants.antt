use Rattle.std.proofs.Common.{◌≡◌, ◌++◌, take}
use Rattle.rm_formats.proofs.ids.steps.after_word.Given as goal

-- the bytes are the word so far and the rest
abbrev pub invariant-loop-byte : goal.invariant-loop-byte
invariant-loop-byte l = l.bytes ≡ take l.byte-index l.word ++ l.rest
