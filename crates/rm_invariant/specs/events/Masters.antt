-- Which attempts ask for their masters and which for something else, and that records are of applications that differ. This project's own.
use Rattle.std.specs.Prelude.{◌≡◌, ◌≤◌, ◌==◌, ◌||◌, List, Bool, true, false, not, Option, None, Some, count_by}
use Rattle.std.specs.List.{list_all}
use Rattle.rm_types.specs.declared.containers.Ask.{Ask}
use Rattle.rm_types.specs.declared.ids.AppId.{AppId}
use Rattle.rm_types.specs.declared.ids.AttemptId.{AttemptId}
use Rattle.rm_types.specs.Ids.{is_app}
use Rattle.rm_book.specs.AskTables.{attempt_asks}
use Rattle.rm_states.specs.attempt.Table.{is_alive}
use Rattle.rm_tables.specs.declared.rows.AppRow.{AppRow}
use Rattle.rm_tables.specs.declared.rows.Current.{Current}
use Rattle.rm_tables.specs.declared.tables.Tables.{Tables}
use Rattle.rm_tables.specs.Rows.{row_of}
use Rattle.rm_refinement.specs.Services.{is_ending}
use Rattle.rm_invariant.specs.events.Asking.{asks_others}

-- the current attempt lives, or its end is issued
abbrev pub goes_with : Option Current → Bool
goes_with None = false
goes_with (Some current) = is_alive current.state || is_ending current.state

-- the current attempt of a row lives, or its end is issued
abbrev pub goes_in : Option AppRow → Bool
goes_in None = false
goes_in (Some row) = goes_with row.current

-- an ask for a master's container is for one
abbrev pub is_single : Ask → Bool
is_single ask = not (ask.priority == 0) || (ask.count == 1)

-- each ask for a master's container is for one
abbrev pub are_single : List Ask → Bool
are_single asks = list_all is_single asks

-- each ask for a master's container is for one, and where an attempt asks for something besides, the current attempt of its application
-- lives, or its end is issued
pub record MastersAskOnce (t : Tables) : Type 0 where
  pub single : (attempt : AttemptId) → are_single (attempt_asks t.asks attempt) ≡ true
  pub others : (attempt : AttemptId) → asks_others (attempt_asks t.asks attempt) ≡ true → goes_in (row_of t.rows attempt.app) ≡ true

-- no two records are of one application
abbrev pub AppsOnce : Tables → Type 0
AppsOnce t = (id : AppId) → count_by (λ app. is_app app.id id) t.tree.apps ≤ 1
