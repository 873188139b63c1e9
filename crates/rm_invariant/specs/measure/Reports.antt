-- What the weight stands on besides what holds of an open life: no node reported more than a thousand containers, and no pass grants more than
-- 256. This project's own.
use Rattle.std.specs.Prelude.{◌≡◌, ◌≤◌, ℕ, List, Some, length}
use Rattle.rm_tables.specs.declared.nodes.NodeRow.{NodeRow}
use Rattle.rm_tables.specs.declared.tables.Tables.{Tables}
use Rattle.rm_tables.specs.Nodes.{node_row}
use Rattle.rm_tables.specs.Passing.{grants_on}
use Rattle.rm_invariant.specs.measure.Measure.{most_grants, most_reported}

-- each node that registered reported few containers
abbrev pub ReportFew : List (List ℕ × NodeRow) → Type 0
ReportFew nodes = (name : List ℕ) (row : NodeRow) → node_row nodes name ≡ Some row → length row.running ≤ most_reported

-- each node of the tables reported few containers
abbrev pub FewReported : Tables → Type 0
FewReported t = ReportFew t.nodes

-- a pass on a node that registered grants few containers
abbrev pub FewGranted : Tables → Type 0
FewGranted t = (name : List ℕ) (row : NodeRow) → node_row t.nodes name ≡ Some row → length (grants_on name row t) ≤ most_grants
