-- What the operations that were read of a store are written as. This project's own.
use Rattle.std.specs.Prelude.{List}
use Rattle.rm_types.specs.declared.operations.Op.{Op}
use Rattle.rm_types.specs.Folded.{folded}
use Rattle.rm_tool.specs.declared.salvage.forms.Form.{Form}
use Rattle.rm_tool.specs.declared.salvage.forms.Form.TheVariants.{OneJournal, TwoAreas, NoArea}

-- the front of two areas is written as it is; of one journal, which may be longer than an area, what is left of it
abbrev pub left_by : Form → List Op → List Op
left_by OneJournal ops = folded ops
left_by (TwoAreas second generation) ops = ops
left_by NoArea ops = ops
