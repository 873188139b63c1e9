-- Which lanes of a desk are ready.
use Rattle.std.specs.Prelude.{◌≡◌, Bool, true, false, ◌&&◌, not, Option, None, Some, is_some}
use Rattle.rm_types.specs.declared.messages.Lane.{Lane}
use Rattle.rm_types.specs.declared.messages.Lane.TheVariants.{Client, Master, Node, Clock, Main, Sched, Hand, Write, End, Begin}
use Rattle.rm_types.specs.declared.messages.Sender.{Sender}
use Rattle.rm_types.specs.declared.messages.Sender.TheVariants as senders
use Rattle.rm_types.specs.declared.scripts.Close.{Close}
use Rattle.rm_types.specs.declared.scripts.Close.TheVariants.{Settle, Crash}
use Rattle.rm_types.specs.Lanes.{feed_lane}
use Rattle.rm_types.specs.Lists.{is_nil}
use Rattle.rm_model.specs.Place.{close_left, first_from, messages_left}
use Rattle.rm_core.specs.Words.{can_go_down, ready_at, stands}
use Rattle.rm_desk.specs.View.{DeskView}

-- the current segment may close, where its feeds are empty: it settles where nothing is left to do, and crashes where no
-- operation is with the store
abbrev pub may_close : DeskView → Option Close → Bool
may_close d None = false
may_close d (Some Settle) = ready_at d.core End && is_nil (messages_left d.place.segments)
may_close d (Some (Crash calls image)) = can_go_down d.core && is_nil (messages_left d.place.segments)

-- a message of the sender is left in the current segment, and may be served
abbrev pub has_message : Sender → DeskView → Bool
has_message sender d = ready_at d.core (feed_lane sender) && is_some (first_from sender (messages_left d.place.segments))

-- the manager is ready there, and the script is at it: a message is served where one is left in its sender's feed, a segment closes
-- where it may, and a life begins where one is left
abbrev pub is_ready_at : DeskView → Lane → Bool
is_ready_at d Client = has_message senders.Client d
is_ready_at d Master = has_message senders.Master d
is_ready_at d Node = has_message senders.Node d
is_ready_at d Clock = has_message senders.Clock d
is_ready_at d Main = ready_at d.core Main
is_ready_at d Sched = ready_at d.core Sched
is_ready_at d Hand = ready_at d.core Hand
is_ready_at d Write = ready_at d.core Write
is_ready_at d End = may_close d (close_left d.place.segments)
is_ready_at d Begin = not (stands d.core) && not (is_nil d.place.lives)

-- the lanes that a desk moves by itself: not the store's, nor that in which a life begins over a store
abbrev pub IsStep : Lane → Type 0
IsStep Write = ⊥
IsStep Begin = ⊥
IsStep _ = Unit {0}

-- the lanes of what the manager has left to do
abbrev pub IsWork : Lane → Type 0
IsWork Main = Unit {0}
IsWork Sched = Unit {0}
IsWork Hand = Unit {0}
IsWork Write = Unit {0}
IsWork _ = ⊥

-- none of them is ready
abbrev pub HasNoWork : DeskView → Type 0
HasNoWork d = (lane : Lane) → IsWork lane → is_ready_at d lane ≡ false

-- a life stands behind a lane's move, unless its segment crashed
abbrev pub life_goes_on : Lane → Option Close → Bool
life_goes_on End (Some (Crash calls image)) = false
life_goes_on _ _ = true
