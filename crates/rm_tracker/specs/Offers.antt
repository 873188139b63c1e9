-- What holds of the tables beside what they show of the judge's scene. This project's own.
use Rattle.std.specs.Prelude.{◌≡◌, ℕ, List, None}
use Rattle.rm_book.specs.Books.{capability_of}
use Rattle.rm_tables.specs.declared.tables.Tables.{Tables}
use Rattle.rm_tables.specs.Nodes.{node_row}

-- only a node that registered in this life offers something
abbrev pub OnlyNodesOffer : Tables → Type 0
OnlyNodesOffer t = (name : List ℕ) → node_row t.nodes name ≡ None → capability_of t.book name ≡ None
