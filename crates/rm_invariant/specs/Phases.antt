-- How far a life has come, and what a move leads to in each phase of it. This project's own.
use Rattle.std.specs.Prelude.{◌≡◌, ◌≢◌, ◌+◌, ◌<◌, List, [], ◌∷◌, true, false}
use Rattle.rm_types.specs.declared.entries.Entry.{Entry}
use Rattle.rm_types.specs.declared.operations.Op.{Op}
use Rattle.rm_types.specs.declared.operations.Op.TheVariants.{Epoch}
use Rattle.rm_types.specs.declared.limits.TheConstants.{STAMPS}
use Rattle.rm_types.specs.Records.{fits_records, records}
use Rattle.rm_model.specs.Changes.{after}
use Rattle.rm_model.specs.Rules.{Allowed}
use Rattle.rm_tables.specs.declared.events.MainEvent.TheVariants.{EpochStart}
use Rattle.rm_tables.specs.declared.tables.Tables.{Tables}
use Rattle.rm_refinement.specs.History.{History, abstract_state}
use Rattle.rm_invariant.specs.messages.Ranges.{KeepsLimits}
use Rattle.rm_invariant.specs.opening.Begun.{IsBegun}
use Rattle.rm_invariant.specs.bounds.InBounds.{InBounds}
use Rattle.rm_invariant.specs.measure.Measure.{measure}
use Rattle.rm_invariant.specs.Invariant.{LifeInvariant}

-- no life stands; where the last one blew, the first operation that awaits fits what is recorded
pub record NoLife (h : History) (t : Tables) : Type 0 where
  pub alive : t.alive ≡ false
  pub main : t.main ≡ []
  pub sched : t.sched ≡ []
  pub recorded : t.blown ≡ true → records h.kept ≡ t.tree
  pub fits : t.blown ≡ true → (op : Op) (rest : List Op) → t.awaiting ≡ op ∷ rest → fits_records t.tree op ≡ true

-- a life began over what is recorded, whatever that is, and isn't open; its stamp is above the recorded one
pub record Beginning (h : History) (t : Tables) : Type 0 where
  pub begun : IsBegun h t
  pub limits : KeepsLimits t.settings
  pub ranged : InBounds t
  pub rises : t.tree.stamp < t.stamp
  pub fits : t.stamp < STAMPS

-- its first event waits
pub record Starting (h : History) (t : Tables) : Type 0 where
  pub begins : Beginning h t
  pub main : t.main ≡ EpochStart ∷ []
  pub awaiting : t.awaiting ≡ []
  pub handed : t.handed ≡ false

-- its Epoch awaits
pub record Saving (h : History) (t : Tables) : Type 0 where
  pub begins : Beginning h t
  pub main : t.main ≡ []
  pub awaiting : t.awaiting ≡ Epoch (t.epoch + 1) t.stamp ∷ []

-- the store refused its Epoch, which awaits for ever: it never opens
pub record Shut (h : History) (t : Tables) : Type 0 where
  pub alive : t.alive ≡ true
  pub blown : t.blown ≡ true
  pub closed : t.is_open ≡ false
  pub free : t.handed ≡ false
  pub main : t.main ≡ []
  pub sched : t.sched ≡ []
  pub awaiting : t.awaiting ≢ []
  pub fits : (op : Op) (rest : List Op) → t.awaiting ≡ op ∷ rest → fits_records t.tree op ≡ true
  pub recorded : records h.kept ≡ t.tree

-- how far a life has come
pub data LifePhase (h : History) (t : Tables) : Type 0 where
  none : NoLife h t → LifePhase h t
  starting : Starting h t → LifePhase h t
  saving : Saving h t → LifePhase h t
  shut : Shut h t → LifePhase h t
  running : LifeInvariant h t → LifePhase h t

-- what a move does to the tables, with a history: its entry is allowed, the state goes on by it, and a phase is reached
pub record Simulates (h : History) (t : Tables) (e : Entry) (next : Tables) : Type 0 where
  pub history : History
  pub lawful : Allowed t.settings (abstract_state h t) e
  pub same : after (abstract_state h t) e ≡ abstract_state history next
  pub recorded : records history.kept ≡ next.tree
  pub phase : LifePhase history next
  pub settings : next.settings ≡ t.settings
  pub alloc : next.alloc ≡ t.alloc

-- and a move of the manager's own: the life stands before and after it, with no more operations refused, less is left to do, and no message is
-- served
pub record SimulatesInternal (h : History) (t : Tables) (e : Entry) (next : Tables) : Type 0 where
  pub leads : Simulates h t e next
  pub decreases : measure next < measure t
  pub stood : t.alive ≡ true
  pub stands : next.alive ≡ true
  pub blown : next.blown ≡ t.blown
  pub served : next.served ≡ t.served
