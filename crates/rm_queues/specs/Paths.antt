-- A queue's name and its parent's.
use Rattle.std.specs.Prelude.{◌≡◌, ◌<◌, ℕ, List, length}
use Rattle.rm_types.specs.Rights.{parents_of, path_of}

-- a name is the nearest parent of another: the other's parents are its whole path
pub record IsParent (name parent : List ℕ) : Type 0 where
  pub path : parents_of name ≡ path_of parent
  pub shorter : length parent < length name
