-- The names of nodes.
use Rattle.std.specs.Prelude.{◌≡◌, List, [], ◌∷◌, None}
use Rattle.rm_model.specs.State.{NodeState}
use Rattle.rm_model.specs.Nodes.{judged_node}

-- no two nodes have one name
abbrev pub NamesApart : List NodeState → Type 0
NamesApart [] = Unit {0}
NamesApart (node ∷ nodes) = (judged_node nodes node.name ≡ None) × NamesApart nodes
