-- What a move of an open life leads to. This project's own.
use Rattle.std.specs.Prelude.{◌≡◌, ◌≢◌, ◌<◌, [], true}
use Rattle.rm_types.specs.declared.entries.Entry.{Entry}
use Rattle.rm_tables.specs.declared.tables.Tables.{Tables}
use Rattle.rm_invariant.specs.Step.{Step}
use Rattle.rm_refinement.specs.History.{History}
use Rattle.rm_invariant.specs.measure.Measure.{measure}
use Rattle.rm_invariant.specs.Invariant.{NoneHandedIfBlown, NoneOpens, LifeInvariant}

-- a move leaves the life with its settings, its allocator and its epoch, and no more operations refused; a refused operation isn't with the store
-- again, what is with it awaits still, and nothing begins
pub record KeepsFixed (t next : Tables) : Type 0 where
  pub settings : next.settings ≡ t.settings
  pub alloc : next.alloc ≡ t.alloc
  pub alive : next.alive ≡ t.alive
  pub epoch : next.epoch ≡ t.epoch
  pub blown : next.blown ≡ t.blown
  pub calm : NoneHandedIfBlown t → NoneHandedIfBlown next
  pub handed : (t.handed ≡ true → t.awaiting ≢ []) → next.handed ≡ true → next.awaiting ≢ []
  pub begun : NoneOpens t → NoneOpens next

-- a move leads to a life that is open still, as the judge allows
pub record PreservesLife (h : History) (t : Tables) (e : Entry) (next : Tables) : Type 0 where
  pub history : History
  pub step : Step t.settings h t e history next
  pub runs : LifeInvariant history next
  pub stays : KeepsFixed t next

-- and so does a move of the manager's own, which leaves less to do and serves no message
pub record PreservesLifeInternal (h : History) (t : Tables) (e : Entry) (next : Tables) : Type 0 where
  pub goes : PreservesLife h t e next
  pub decreases : measure next < measure t
  pub given : next.given ≡ t.given
  pub served : next.served ≡ t.served
