-- All that holds of an open life between two moves. This project's own.
use Rattle.std.specs.Prelude.{◌≡◌, ◌≢◌, [], Bool, true, false, Some}
use Rattle.std.specs.List.{list_any}
use Rattle.rm_model.specs.Facts.{is_epoch_op}
use Rattle.rm_tables.specs.declared.events.MainEvent.{MainEvent}
use Rattle.rm_tables.specs.declared.events.MainEvent.TheVariants as mains
use Rattle.rm_tables.specs.declared.tables.Tables.{Tables}
use Rattle.rm_refinement.specs.History.{History, abstract_life}
use Rattle.rm_types.specs.declared.ids.ContainerId.{ContainerId}
use Rattle.rm_laws.specs.FirstAttempts.{FirstStays}
use Rattle.rm_invariant.specs.Core.{CoreInvariant}
use Rattle.rm_invariant.specs.messages.Ranges.{KeepsLimits}
use Rattle.rm_invariant.specs.messages.Fits.{EachRowFits}
use Rattle.rm_invariant.specs.messages.Released.{ReleasesOnWay}
use Rattle.rm_invariant.specs.auxiliary.Around.{AroundInvariant}
use Rattle.rm_invariant.specs.auxiliary.Invariant.{AuxInvariant}
use Rattle.rm_invariant.specs.measure.Reports.{FewReported}
use Rattle.rm_invariant.specs.bounds.InBounds.{InBounds}
use Rattle.rm_invariant.specs.nodes.Names.{NamesApart}

-- the event that a life begins with
abbrev pub is_epoch_start : MainEvent → Bool
is_epoch_start mains.EpochStart = true
is_epoch_start (mains.AppStart id) = false
is_epoch_start (mains.AppSaved id) = false
is_epoch_start (mains.AppAccepted id) = false
is_epoch_start (mains.AppKill id) = false
is_epoch_start (mains.MasterGranted container) = false
is_epoch_start (mains.AttemptSaved id) = false
is_epoch_start (mains.MasterLost container) = false
is_epoch_start (mains.AttemptExpired id) = false
is_epoch_start (mains.AttemptFinish id) = false
is_epoch_start (mains.AttemptDone id) = false
is_epoch_start mains.Retire = false

-- neither a life's first event nor its first operation is on its way
pub record NoneOpens (t : Tables) : Type 0 where
  pub main : list_any is_epoch_start t.main ≡ false
  pub awaiting : list_any is_epoch_op t.awaiting ≡ false

-- an operation that the store refused isn't with it any more
abbrev pub NoneHandedIfBlown : Tables → Type 0
NoneHandedIfBlown t = t.blown ≡ true → t.handed ≡ false

-- the life stands, whether or not the store refused an operation of it, and what is with the store awaits; of its settings, its applications,
-- masters, nodes, containers and messages, all that was gathered holds
pub record LifeInvariant (h : History) (t : Tables) : Type 0 where
  pub alive : t.alive ≡ true
  pub calm : NoneHandedIfBlown t
  pub handed : t.handed ≡ true → t.awaiting ≢ []
  pub limits : KeepsLimits t.settings
  pub whole : CoreInvariant t.settings h t
  pub sides : AuxInvariant h t
  pub fits : EachRowFits t
  pub ranged : InBounds t
  pub reported : FewReported t
  pub on_way : ReleasesOnWay h t
  pub apart : NamesApart h.nodes
  pub begun : NoneOpens t
  pub around : AroundInvariant h t
  pub held : (c : ContainerId) → FirstStays c.attempt h.kept (Some (abstract_life h t))
