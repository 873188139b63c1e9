-- What holds of an open life around a restart, where the cluster recovers ended containers: beside that tables and judge tell it alike. This
-- project's own.
use Rattle.std.specs.Prelude.{◌≡◌, ◌≤◌, ℕ, List, Option, None, Some}
use Rattle.rm_types.specs.declared.ids.AppId.{AppId}
use Rattle.rm_tables.specs.declared.rows.AppRow.{AppRow}
use Rattle.rm_tables.specs.declared.rows.Dialogue.{Dialogue}
use Rattle.rm_tables.specs.declared.tables.Tables.{Tables}
use Rattle.rm_tables.specs.Rows.{row_of}
use Rattle.rm_refinement.specs.History.{History, abstract_scene}
use Rattle.rm_refinement.specs.Services.{AgreesAround}

-- a master was told when no more rows had entered the book than this
abbrev pub IsToldUpTo : ℕ → Option Dialogue → Type 0
IsToldUpTo added None = Unit {0}
IsToldUpTo added (Some one) = one.told ≤ added

-- and so was that of each row
abbrev pub AreToldUpTo : ℕ → List (AppId × Option AppRow) → Type 0
AreToldUpTo added rows = (id : AppId) (row : AppRow) → row_of rows id ≡ Some row → IsToldUpTo added row.dialogue

-- both
pub record AroundInvariant (h : History) (t : Tables) : Type 0 where
  pub agrees : AgreesAround (abstract_scene h t) t
  pub told : AreToldUpTo t.book.added t.rows
