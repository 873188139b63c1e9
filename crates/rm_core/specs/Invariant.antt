-- What holds of the tables and the log between two moves. This project's own.
use Rattle.std.specs.Prelude.{◌≢◌, ◌≡◌, List, [], ◌∷◌, Option, None, Some, true, false}
use Rattle.rm_types.specs.declared.entries.Entry.{Entry}
use Rattle.rm_types.specs.declared.operations.Op.{Op}
use Rattle.rm_types.specs.declared.settings.Settings.{Settings}
use Rattle.rm_types.specs.Ranges.{IsOperation}
use Rattle.rm_types.specs.Records.{records}
use Rattle.rm_queues.specs.Rules.{KeepsRules}
use Rattle.rm_model.specs.State.{opening_state}
use Rattle.rm_model.specs.Lawful.{AllAllowed, state_after}
use Rattle.rm_tables.specs.declared.tables.Tables.{Tables}
use Rattle.rm_tables.specs.Lives.{no_life}
use Rattle.rm_refinement.specs.History.{History, abstract_state}
use Rattle.rm_invariant.specs.messages.Ranges.{KeepsLimits}
use Rattle.rm_invariant.specs.Phases.{LifePhase}
use Rattle.rm_core.specs.Queues.{tables_after}
use Rattle.rm_core.specs.Stores.{IsOfStore}

-- the parts of the operation that the store refused, which awaits first, are in their ranges
abbrev pub IsRefusedFramed : Tables → Type 0
IsRefusedFramed t = t.blown ≡ true → (op : Op) (rest : List Op) → t.awaiting ≡ op ∷ rest → IsOperation op

-- what holds of the tables by themselves: with some history a phase of the life is reached, and what is recorded is of a store
pub record HasPhase (t : Tables) : Type 0 where
  pub history : History
  pub phase : LifePhase history t
  pub stored : IsOfStore t.tree
  pub framed : IsRefusedFramed t

-- from the first life on the manager has the queues of its settings
abbrev pub QueuesAre : Option Settings → Tables → Type 0
QueuesAre None t = t.alive ≡ false
QueuesAre (Some queues) t = queues ≡ t.settings

-- what holds of a manager: its settings keep the rules that its queues rest on, and their limits
pub record IsSoundCore (queues : Option Settings) (t : Tables) : Type 0 where
  pub rules : KeepsRules t.settings
  pub limits : KeepsLimits t.settings
  pub queues_are : QueuesAre queues t
  pub sound : HasPhase t

-- over a store that held the opening list, the log is one that a manager could have made; the tables stand for the state after it and,
-- once a life began, for what is recorded; and they are those that the log tells
pub record LogInvariant (opening : List Op) (log : List Entry) (t : Tables) : Type 0 where
  pub allowed : AllAllowed t.settings (opening_state opening) log
  pub history : History
  pub same : state_after opening log ≡ abstract_state history t
  pub recorded : log ≢ [] → records history.kept ≡ t.tree
  pub phase : LifePhase history t
  pub fresh : log ≡ [] → t ≡ no_life t.alloc t.settings
  pub told_by : log ≢ [] → t ≡ tables_after t.alloc t.settings opening log
