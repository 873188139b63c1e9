-- All that holds of an open life between two moves: of applications and attempts, of masters' containers, of nodes, of the book, and that
-- the tables agree with the judge's life. This project's own.
use Rattle.rm_types.specs.declared.entries.Entry.{Entry}
use Rattle.rm_types.specs.declared.ids.ContainerId.{ContainerId}
use Rattle.rm_types.specs.declared.settings.Settings.{Settings}
use Rattle.rm_tables.specs.declared.tables.Tables.{Tables}
use Rattle.rm_invariant.specs.Step.{AppsInvariant, Step}
use Rattle.rm_refinement.specs.History.{History, abstract_life}
use Rattle.rm_invariant.specs.events.Here.{astray_at}
use Rattle.rm_invariant.specs.nodes.Invariant.{NodesInvariant}
use Rattle.rm_invariant.specs.nodes.Book.{BookInvariant}
use Rattle.rm_invariant.specs.masters.Invariant.{ContainersInvariant}
use Rattle.rm_invariant.specs.masters.Sound.{RecordsAreSound}
use Rattle.rm_invariant.specs.events.Refines.{Refines}

-- nothing more is said of a container in the book
abbrev pub Nothing : ContainerId → Type 0
Nothing id = Unit {0}

-- what holds of applications, of masters' containers, of what is recorded, of nodes and of the book, with tables and life that agree
pub record CoreInvariant (settings : Settings) (h : History) (t : Tables) : Type 0 where
  pub keeps : AppsInvariant settings h t
  pub marks : ContainersInvariant h t
  pub sound : RecordsAreSound t.tree.apps
  pub agrees : Refines (abstract_life h t) t
  pub nodes : NodesInvariant (astray_at settings h t) h.nodes h.book t.sched
  pub book : BookInvariant (abstract_life h t) Nothing

-- a step that keeps all of it, which goes to some history
pub record PreservesCore (settings : Settings) (h : History) (t : Tables) (done : Entry × Tables) : Type 0 where
  pub next : History
  pub step : Step settings h t done.0 next done.1
  pub whole : CoreInvariant settings next done.1
