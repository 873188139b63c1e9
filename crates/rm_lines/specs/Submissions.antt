-- What a submission says behind its fields, in the words of its text.
use Rattle.std.specs.Prelude.{ℕ, Bool, List, ◌++◌, codes}
use Rattle.rm_types.specs.declared.texts.TextKind.TheVariants.{AclText}
use Rattle.rm_types.specs.Ranges.{IsText}
use Rattle.rm_formats.specs.Wording.{yes_word}
use Rattle.rm_page.proofs.ReadOperations.{last_pieces}

-- the pieces behind the fields of a submission: whether it keeps its containers, and who else may modify it
abbrev pub keep_and_modify_pieces : Bool × List ℕ → List (List ℕ)
keep_and_modify_pieces said = yes_word (codes "keep=") said.0 ++ last_pieces (codes "modify=") said.1

-- what they say is in its range
abbrev pub IsKeepAndModify : Bool × List ℕ → Type 0
IsKeepAndModify said = IsText AclText said.1
