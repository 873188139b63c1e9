-- What a store may hold.
use Rattle.std.specs.Prelude.{◌≡◌, List, All, None}
use Rattle.rm_types.specs.declared.operations.Op.{Op}
use Rattle.rm_types.specs.Ranges.{IsOperation}
use Rattle.rm_types.specs.Records.{Records, records, stray}

-- the tree is what some operations of a store amount to, whose parts are in their ranges
pub record IsOfStore (tree : Records) : Type 0 where
  pub ops : List Op
  pub framed : All IsOperation ops
  pub none_stray : stray ops ≡ None
  pub amounts : tree ≡ records ops
