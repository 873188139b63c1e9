-- What a move asks, and what it adds to the log.
use Rattle.std.specs.Prelude.{◌≡◌, ℕ, ◌+◌, ◌-◌, ◌<◌, ◌≤◌, ◌⊎◌, max, List, [], ◌∷◌, ◌++◌, Bool, true, false, Some, slice_get}
use Rattle.rm_types.specs.declared.entries.Entry.{Entry}
use Rattle.rm_types.specs.declared.entries.Entry.TheVariants.{Opened, Handed, Kept as KeptEntry, Blown as BlownEntry, Served, Settled, Down as DownEntry}
use Rattle.rm_types.specs.declared.messages.Lane.{Lane}
use Rattle.rm_types.specs.declared.messages.Lane.TheVariants.{Main as MainLane, Sched as SchedLane, Hand as HandLane, Write, End, Begin as BeginLane}
use Rattle.rm_types.specs.declared.operations.Op.{Op}
use Rattle.rm_types.specs.declared.replies.Reply.{Reply}
use Rattle.rm_types.specs.declared.settings.Settings.{Settings}
use Rattle.rm_types.specs.declared.limits.TheConstants.{EPOCHS, STAMPS}
use Rattle.rm_types.specs.Alike.{IsAlike}
use Rattle.rm_types.specs.Records.{Records, records}
use Rattle.rm_model.specs.Lawful.{state_after}
use Rattle.rm_model.specs.State.{Manager}
use Rattle.rm_types.specs.Lanes.{feed_lane, lane_of_entry, sender_of}
use Rattle.rm_types.specs.Limits.{greatest_stamp, most_served}
use Rattle.rm_core.specs.Seen.{Seen, StandsFor, handed_op}
use Rattle.rm_core.specs.Queues.{landed_in, own_tree}
use Rattle.rm_core.specs.Stores.{IsOfStore}
use Rattle.rm_core.specs.Words.{as_new}
use Rattle.rm_tables.specs.declared.tables.Tables.{Tables}
use Rattle.rm_tables.specs.Lives.{is_ready_lane, may_go_down}
use Rattle.rm_invariant.specs.messages.Ranges.{IsMessage}
use Rattle.rm_invariant.specs.measure.Measure.{begin_measure, message_measure, measure}
use Rattle.rm_invariant.specs.Transitions.{BookFollowsTable, NodesFollowTable, RowsFollowTables}
use Rattle.rm_core.specs.declared.manager.Move.{Move}
use Rattle.rm_core.specs.declared.manager.Move.TheVariants.{Serve, Main, Sched, Hand, Kept, Blown, Settle, Down, Begin}

-- a life may begin over what is recorded, whatever that is: there is an epoch and a stamp left
pub record CanBeginOver (tree : Records) : Type 0 where
  pub of_store : IsOfStore tree
  pub epoch : tree.next_epoch < EPOCHS
  pub stamp : tree.stamp < STAMPS - 1

-- what is handed to a life is its own but for the numbers of ends
abbrev pub IsOwn : Seen → Records → Type 0
IsOwn seen tree = IsAlike (own_tree seen.log seen.tables tree) tree

-- a move may be asked for: what is handed to a life is its own but for the numbers of ends, and its number is 1 to 10^15; the parts of a
-- message are in their ranges, and fewer than 2^31 are served in a life
abbrev pub CanMake : Seen → Move → Type 0
CanMake seen (Begin tree handed) = CanBeginOver tree × IsOwn seen tree × (1 ≤ handed) × (handed ≤ greatest_stamp)
CanMake seen (Serve message) = IsMessage message × (seen.tables.served < most_served)
CanMake seen _ = Unit {0}

-- the lane of a move
abbrev pub lane_of : Move → Lane
lane_of (Serve message) = feed_lane (sender_of message)
lane_of Main = MainLane
lane_of Sched = SchedLane
lane_of Hand = HandLane
lane_of Kept = Write
lane_of (Blown passed) = Write
lane_of Settle = End
lane_of Down = End
lane_of (Begin tree handed) = BeginLane

-- a move may be made: its lane is ready; a life may go down before all is worked off
abbrev pub may_make : Tables → Move → Bool
may_make t Down = may_go_down t
may_make t next = is_ready_lane t (lane_of next)

-- the entry that a move adds to a log
abbrev pub IsEntryOfMove : Move → Tables → Entry → Type 0
IsEntryOfMove (Begin tree handed) t e = e ≡ Opened (landed_in t tree) tree.next_epoch (max handed (tree.stamp + 1))
IsEntryOfMove Main t e = lane_of_entry e ≡ MainLane
IsEntryOfMove (Serve message) t e = (reply : Reply) × (e ≡ Served (sender_of message) message reply)
IsEntryOfMove Sched t e = lane_of_entry e ≡ SchedLane
IsEntryOfMove Hand t e = e ≡ Handed
IsEntryOfMove Kept t e = (op : Op) × (handed_op t ≡ Some op) × (e ≡ KeptEntry op)
IsEntryOfMove (Blown passed) t e = e ≡ BlownEntry passed
IsEntryOfMove Settle t e = e ≡ Settled
IsEntryOfMove Down t e = e ≡ DownEntry

-- a move adds one entry, which is of its kind
pub record AddsEntry (next : Move) (t : Tables) (log longer : List Entry) : Type 0 where
  pub entry : Entry
  pub of_move : IsEntryOfMove next t entry
  pub added : longer ≡ log ++ entry ∷ []

-- the last life blew, and the tree is what is kept and the first operation that awaits amount to, but for the numbers of ends
pub record HasLanded (tree : Records) (s : Manager) : Type 0 where
  pub blew : s.blew ≡ true
  pub op : Op
  pub first : slice_get s.awaiting 0 ≡ Some op
  pub amounts : IsAlike tree (records (s.kept ++ op ∷ []))

-- what a life can have left of its store: what is kept, or this and the operation that the store refused, but for the numbers of ends
abbrev pub IsLeft : Records → Manager → Type 0
IsLeft tree s = IsAlike tree (records s.kept) ⊎ HasLanded tree s

-- a life begins over what the last one left, the first one over just what the store held
pub record IsLeftAfter (tree : Records) (opening : List Op) (log : List Entry) : Type 0 where
  pub left : IsLeft tree (state_after opening log)
  pub first : log ≡ [] → tree ≡ records opening

-- so does it begin; of other moves this says nothing
abbrev pub GoesOnFrom : Move → List Op → Seen → Type 0
GoesOnFrom (Begin tree handed) opening seen = IsLeftAfter tree opening seen.log
GoesOnFrom _ opening seen = Unit {0}

-- a move of the manager's own makes the weight less; a message adds a fixed weight at most; a life begins with the weight of its
-- first event and of what is recorded
abbrev pub MeasureChanges : Move → Settings → ℕ → ℕ → Type 0
MeasureChanges (Begin tree handed) settings old new = new ≤ begin_measure settings tree
MeasureChanges Settle settings old new = new ≤ old
MeasureChanges Down settings old new = new ≤ old
MeasureChanges (Serve message) settings old new = new ≤ old + message_measure
MeasureChanges _ settings old new = new < old

-- a life stands after each move but the one that it goes down by, and before each that doesn't begin one
abbrev pub LifeAround : Move → Bool → Bool → Type 0
LifeAround (Begin tree handed) before now = (before ≡ false) × (now ≡ true)
LifeAround Down before now = (before ≡ true) × (now ≡ false)
LifeAround _ before now = (before ≡ true) × (now ≡ true)

-- how many messages were served in the life after a move
abbrev pub served_after : Move → ℕ → ℕ
served_after (Begin tree handed) served = 0
served_after Down served = 0
served_after (Serve message) served = served + 1
served_after _ served = served

-- whether an operation of the life was refused after a move; of a life that went down, whether one was
abbrev pub blown_after : Move → Bool → Bool
blown_after (Begin tree handed) blown = false
blown_after (Blown passed) blown = true
blown_after _ blown = blown

-- a segment settles with the tables as they were; of other moves this says nothing
abbrev pub TablesStay : Move → Tables → Tables → Type 0
TablesStay Settle old new = new ≡ old
TablesStay _ old new = Unit {0}

-- by a move the state of each application, that of its current attempt, and that of each node and container goes along a row of its
-- table, or stays, and containers come into the book and leave it likewise; of a life that begins or goes down this says nothing
abbrev pub StatesFollowTables : Move → Tables → Tables → Type 0
StatesFollowTables (Begin tree handed) old new = Unit {0}
StatesFollowTables Down old new = Unit {0}
StatesFollowTables _ old new = RowsFollowTables old.rows new.rows × NodesFollowTable old.nodes new.nodes × BookFollowsTable old.book new.book

-- what a move that is made does: it adds its entry; over each store for which the log was lawful, and over which a life that begins
-- begins, it is lawful still; it was ready; less is left to do, as far as its kind says
pub record MoveEffect (next : Move) (old new : Seen) : Type 0 where
  pub added : AddsEntry next old.tables old.log new.log
  pub lawful : (opening : List Op) → StandsFor opening old → GoesOnFrom next opening old → StandsFor opening new
  pub ready : may_make old.tables next ≡ true
  pub weighs : MeasureChanges next old.settings (measure old.tables) (measure new.tables)
  pub stands : LifeAround next old.tables.alive new.tables.alive
  pub served : new.tables.served ≡ served_after next old.tables.served
  pub blown : new.tables.blown ≡ blown_after next old.tables.blown
  pub tables : TablesStay next old.tables new.tables
  pub states : StatesFollowTables next old.tables new.tables
  pub settings : new.settings ≡ old.settings
  pub began : as_new new ≡ as_new old
