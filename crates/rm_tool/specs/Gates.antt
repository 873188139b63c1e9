-- How many gates a check walks over. This project's own.
use Rattle.std.specs.Prelude.{ℕ, ◌+◌}
use Rattle.rm_tool.specs.declared.salvage.forms.Form.{Form}
use Rattle.rm_tool.specs.declared.salvage.forms.Form.TheVariants.{OneJournal, TwoAreas, NoArea}

-- with so many frames of operations: a gate before each record and one behind the last, where an area has the record of its generation first
abbrev pub gates_walked : Form → ℕ → ℕ
gates_walked OneJournal frames = frames + 1
gates_walked (TwoAreas second generation) frames = frames + 2
gates_walked NoArea frames = 0
