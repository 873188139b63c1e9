-- Rows that came late to an attempt, which has them from earlier ones. Told as the judge does, read off the tables: a row that entered the
-- book after the master was last told has a later number than any had then.
use Rattle.std.specs.Prelude.{ℕ, Bool, ◌&&◌, not, nat_lt}
use Rattle.rm_types.specs.declared.containers.BookRow.{BookRow}
use Rattle.rm_types.specs.declared.ids.AttemptId.{AttemptId}
use Rattle.rm_model.specs.Containers.{is_earlier}
use Rattle.rm_model.specs.Facts.{keeps}
use Rattle.rm_tables.specs.declared.tables.Tables.{Tables}
use Rattle.rm_tables.specs.Actions.{found_in}
use Rattle.rm_tables.specs.Leaving.{is_masters_in}

-- a row came late to an attempt that was told of all rows up to a number: where the application keeps, it is of an earlier attempt, of a
-- later number, and no master's
abbrev pub is_late_row : Tables → AttemptId → ℕ → BookRow → Bool
is_late_row t attempt told row =
    keeps (found_in t attempt.app) && (is_earlier row.id.attempt attempt && (nat_lt told row.told && not (is_masters_in t.tree.apps row.id)))
