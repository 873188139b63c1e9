use Rattle.std.proofs.Common.{List, sym, subst}
use Rattle.std.specs.Prelude.{All}
use Rattle.rm_types.specs.declared.operations.Op.{Op}
use Rattle.rm_types.specs.Ranges.{IsOperation}
use Rattle.rm_store.proofs.Contents.{framed_left}
use Rattle.rm_tool.proofs.salvage.rooms.room_behind.Goals as goal

pub room_of-requires : goal.room_of-requires
room_of-requires c = subst (λ (l : List Op). All IsOperation l) (sym c.in_ok-left.ensures) (framed_left c.args.ops.now c.requires)
