-- What else the events of the main queue stand on, besides all that holds of an open life. This project's own.
use Rattle.std.specs.Prelude.{◌≡◌, List, ◌∷◌, Bool, true, false, Option, None, Some}
use Rattle.rm_types.specs.declared.ids.AppId.{AppId}
use Rattle.rm_types.specs.declared.operations.Submission.{Submission}
use Rattle.rm_types.specs.declared.settings.Settings.{Settings}
use Rattle.rm_model.specs.Issuing.{MayIssueApp}
use Rattle.rm_states.specs.declared.attempt.states.AttemptState.{AttemptState}
use Rattle.rm_states.specs.declared.attempt.states.AttemptState.TheVariants as attempts
use Rattle.rm_tables.specs.declared.events.MainEvent.{MainEvent}
use Rattle.rm_tables.specs.declared.events.MainEvent.TheVariants as mains
use Rattle.rm_tables.specs.declared.rows.AppRow.{AppRow}
use Rattle.rm_tables.specs.declared.rows.Current.{Current}
use Rattle.rm_tables.specs.declared.rows.Dialogue.{Dialogue}
use Rattle.rm_tables.specs.declared.tables.Tables.{Tables}
use Rattle.rm_tables.specs.Rows.{row_of}
use Rattle.rm_invariant.specs.apps.Completed.{Completes}
use Rattle.rm_refinement.specs.History.{History, abstract_scene}
use Rattle.rm_invariant.specs.masters.Invariant.{MastersAreOwn}

-- an attempt isn't issued
abbrev pub is_unissued : AttemptState → Bool
is_unissued attempts.Scheduled = true
is_unissued attempts.Granted = true
is_unissued attempts.Saving = false
is_unissued attempts.Live = false
is_unissued attempts.Registered = false
is_unissued attempts.Finishing = false
is_unissued attempts.Ending = false
is_unissued attempts.Ended = false
is_unissued attempts.Dropped = false

-- an attempt that isn't issued has no dialogue with a master
abbrev pub IsSilent : Option Current → Option Dialogue → Type 0
IsSilent None dialogue = Unit {0}
IsSilent (Some current) dialogue = is_unissued current.state ≡ true → dialogue ≡ None

-- and so has none of any of these rows
abbrev pub AreSilent : List (AppId × Option AppRow) → Type 0
AreSilent rows = (id : AppId) (row : AppRow) → row_of rows id ≡ Some row → IsSilent row.current row.dialogue

-- in none of the rows does an attempt that is not issued have a dialogue with its master
abbrev pub UnissuedSilent : Tables → Type 0
UnissuedSilent t = AreSilent t.rows

-- where an AppStart is the first event, the App of the submission that waits may be issued
abbrev pub StartsLawful : History → Tables → Type 0
StartsLawful h t =
    (id : AppId) (rest : List MainEvent) (row : AppRow) (s : Submission) → t.main ≡ mains.AppStart id ∷ rest → row_of t.rows id ≡ Some row
    → row.pending ≡ Some s → MayIssueApp (abstract_scene h t) id s

-- all of it: the settings are the tables', the completed applications are told in order, the records name masters of their attempts, an
-- attempt that isn't issued has no dialogue, and what is to start may be issued
pub record MainFacts (settings : Settings) (h : History) (t : Tables) : Type 0 where
  pub set : settings ≡ t.settings
  pub completes : Completes t
  pub apt : MastersAreOwn t.tree.apps
  pub silent : UnissuedSilent t
  pub starts : StartsLawful h t
