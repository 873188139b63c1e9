-- What the events of the scheduler's queue stand on, besides all that holds of an open life. This project's own.
use Rattle.std.specs.Prelude.{◌≡◌}
use Rattle.rm_types.specs.declared.settings.Settings.{Settings}
use Rattle.rm_types.specs.declared.ids.ContainerId.{ContainerId}
use Rattle.rm_model.specs.Containers.{is_astray, is_pending}
use Rattle.rm_model.specs.Passing.{waits_for_nodes}
use Rattle.rm_tables.specs.declared.tables.Tables.{Tables}
use Rattle.rm_tables.specs.Absorbing.{is_pending_in}
use Rattle.rm_tables.specs.Missing.{is_astray_in}
use Rattle.rm_tables.specs.Passing.{still_waits}
use Rattle.rm_refinement.specs.History.{History, abstract_scene}
use Rattle.rm_invariant.specs.events.Asking.{OthersCurrent}
use Rattle.rm_invariant.specs.events.Here.{AreServed, FirstsKnown, NoneAbsent}
use Rattle.rm_invariant.specs.events.Masters.{AppsOnce, MastersAskOnce}

-- all of it: the rows know which attempts were kept when the life began, no node is absent, those that ask are current, one that waits for its
-- master asks for that alone, no two records are of one application, tables and judge wait for nodes alike, each release on its way was
-- served, and the same containers are astray and pending
pub record SchedFacts (settings : Settings) (h : History) (t : Tables) : Type 0 where
  pub firsts : FirstsKnown (abstract_scene h t) t.rows
  pub registered : NoneAbsent t.nodes
  pub current : OthersCurrent t
  pub once : MastersAskOnce t
  pub apps : AppsOnce t
  pub waits : still_waits t ≡ waits_for_nodes settings (abstract_scene h t)
  pub served : AreServed h.endings.releases t.sched
  pub astray : (id : ContainerId) → is_astray_in t id ≡ is_astray settings (abstract_scene h t) id
  pub pending : (id : ContainerId) → is_pending_in t id ≡ is_pending settings (abstract_scene h t) id
