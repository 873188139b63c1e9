-- A step of an open life: its entry is allowed by the judge, the state that the tables stand for goes on by it, and what holds still
-- holds.
use Rattle.std.specs.Prelude.{◌≡◌, true}
use Rattle.rm_types.specs.declared.entries.Entry.{Entry}
use Rattle.rm_types.specs.declared.settings.Settings.{Settings}
use Rattle.rm_types.specs.Records.{records}
use Rattle.rm_model.specs.Changes.{after}
use Rattle.rm_model.specs.Rules.{Allowed}
use Rattle.rm_tables.specs.declared.tables.Tables.{Tables}
use Rattle.rm_invariant.specs.apps.Invariant.{AttemptsInvariant}
use Rattle.rm_refinement.specs.History.{History, live_state}

-- what holds of an open life at every moment
pub record AppsInvariant (settings : Settings) (h : History) (t : Tables) : Type 0 where
  pub is_open : t.is_open ≡ true
  pub recorded : records h.kept ≡ t.tree
  pub all : AttemptsInvariant settings h t

-- a step from a history and its tables to the next ones
pub record Step (settings : Settings) (h : History) (t : Tables) (entry : Entry) (g : History) (next : Tables) : Type 0 where
  pub lawful : Allowed settings (live_state h t) entry
  pub same : after (live_state h t) entry ≡ live_state g next
  pub keeps : AppsInvariant settings g next
