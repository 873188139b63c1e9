-- Whose bell rings after a hold, and what a helper does next. This project's own.
use Rattle.std.specs.Prelude.{◌≡◌, Bool, true, false, ◌&&◌, ◌||◌, not, None}
use Rattle.rm_types.specs.declared.messages.Lane.{Lane}
use Rattle.rm_types.specs.declared.messages.Lane.TheVariants.{Client, Master, Node, Clock, Main, Sched, Hand, Write, End, Begin}
use Rattle.rm_core.specs.Words.{stands}
use Rattle.rm_desk.specs.Lanes.{is_ready_at}
use Rattle.rm_desk.specs.Runs.{IsScriptOver}
use Rattle.rm_desk.specs.View.{DeskView}
use Rattle.rm_workers.specs.declared.called.Called.{Called}
use Rattle.rm_workers.specs.declared.turns.Helped.{Helped}
use Rattle.rm_workers.specs.declared.turns.Helped.TheVariants.{Moved, Still, Over}
use Rattle.rm_workers.specs.declared.turns.Next.{Next}
use Rattle.rm_workers.specs.declared.turns.Next.TheVariants.{GoesOn, GivesWay, Sleeps, Leaves}
use Rattle.rm_workers.specs.Carried.{HeldView}

-- the worker of a lane is called: one has three lanes, and none has that in which a life begins
abbrev pub is_called : Called → Lane → Bool
is_called c Client = c.client
is_called c Master = c.master
is_called c Node = c.node
is_called c Clock = c.clock
is_called c Main = c.main
is_called c Sched = c.sched
is_called c Hand = c.store
is_called c Write = c.store
is_called c End = c.store
is_called c Begin = true

-- the same, but that the worker of a lane isn't called
abbrev pub without_worker : Lane → Called → Called
without_worker Client c = record c { client = false }
without_worker Master c = record c { master = false }
without_worker Node c = record c { node = false }
without_worker Clock c = record c { clock = false }
without_worker Main c = record c { main = false }
without_worker Sched c = record c { sched = false }
without_worker Hand c = record c { store = false }
without_worker Write c = record c { store = false }
without_worker End c = record c { store = false }
without_worker Begin c = c

-- some worker is called
abbrev pub calls_any : Called → Bool
calls_any c = c.client || (c.master || (c.node || (c.clock || (c.main || (c.sched || c.store)))))

-- each worker is called of whom a lane is ready
abbrev pub CallsReady : DeskView → Called → Type 0
CallsReady d called = (lane : Lane) → is_ready_at d lane ≡ true → is_called called lane ≡ true

-- each worker is called
abbrev pub CallsAll : Called → Type 0
CallsAll called = (lane : Lane) → is_called called lane ≡ true

-- some worker has something left to do: no halt stands, the life stands, and the run isn't at its end
abbrev pub IsGoing : HeldView → Type 0
IsGoing held = (held.halt ≡ None) × (stands held.desk.core ≡ true) × (IsScriptOver held.desk → ⊥)

-- those who are called and weren't before
abbrev pub newly_called : (before now : Called) → Called
newly_called before now =
    record {
      client = now.client && not before.client;
      master = now.master && not before.master;
      node = now.node && not before.node;
      clock = now.clock && not before.clock;
      main = now.main && not before.main;
      sched = now.sched && not before.sched;
      store = now.store && not before.store;
    }

-- what a helper does next: it leaves where nothing is left to do, and sleeps where its lane isn't ready any more. Else it goes on at once, as often as it may; where
-- it mayn't any more, it gives way if another worker is called
abbrev pub next_of : Helped → (again others may : Bool) → Next
next_of Moved true true false = GivesWay
next_of Moved true others may = GoesOn
next_of Moved false others may = Sleeps
next_of Still again others may = Sleeps
next_of Over again others may = Leaves

-- whose bells ring behind its hold: those of all others who are called; where it goes on at once, of those alone who weren't called before
abbrev pub rung_by : Next → (before others : Called) → Called
rung_by GoesOn before others = newly_called before others
rung_by _ before others = others
