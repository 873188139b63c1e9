-- What holds of the lists of submissions in an open life. This project's own.
use Rattle.std.specs.Prelude.{◌≡◌, ◌+◌, List, [], ◌∷◌, ◌++◌, length, map}
use Rattle.std.specs.List.{flat_map}
use Rattle.rm_types.specs.declared.ids.AppId.{AppId}
use Rattle.rm_types.specs.declared.operations.Op.{Op}
use Rattle.rm_types.specs.declared.operations.Op.TheVariants.{App}
use Rattle.rm_types.specs.declared.operations.Submitted.{Submitted}
use Rattle.rm_tables.specs.declared.events.MainEvent.{MainEvent}
use Rattle.rm_tables.specs.declared.events.MainEvent.TheVariants as mains
use Rattle.rm_tables.specs.declared.tables.Tables.{Tables}
use Rattle.rm_tables.specs.Opening.{going_in}
use Rattle.rm_refinement.specs.History.{History}

-- the applications that awaiting operations save, and those that events are to issue, in order
abbrev pub saving : Op → List AppId
saving (App id submission) = id ∷ []
saving _ = []

-- the application whose App an event is to issue
abbrev pub starting : MainEvent → List AppId
starting (mains.AppStart id) = id ∷ []
starting _ = []

-- the applications that were submitted and are not kept
abbrev pub submitted_ids : List Submitted → List AppId
submitted_ids submitted = map (λ one. one.id) submitted

-- the lists of a life: submissions are issued in their order, and as many applications go on as the tables count
pub record Lists (h : History) (t : Tables) : Type 0 where
  pub order : submitted_ids h.apps.submitted ≡ flat_map saving t.awaiting ++ flat_map starting t.main
  pub going : t.going ≡ length h.apps.submitted + going_in t.tree.apps
