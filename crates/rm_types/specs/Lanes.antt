-- Who sends a message, and the lane whose move adds an entry of the log. This project's own.
use Rattle.std.specs.Prelude.{Option, Some, None}
use Rattle.rm_types.specs.declared.entries.Entry.{Entry}
use Rattle.rm_types.specs.declared.entries.Entry.TheVariants as entries
use Rattle.rm_types.specs.declared.messages.Lane.{Lane}
use Rattle.rm_types.specs.declared.messages.Lane.TheVariants as lanes
use Rattle.rm_types.specs.declared.messages.Message.{Message}
use Rattle.rm_types.specs.declared.messages.Message.TheVariants as messages
use Rattle.rm_types.specs.declared.messages.Sender.{Sender}
use Rattle.rm_types.specs.declared.messages.Sender.TheVariants as senders

-- who sends a message
abbrev pub sender_of : Message → Sender
sender_of (messages.Client user ask) = senders.Client
sender_of (messages.Master attempt ask) = senders.Master
sender_of (messages.Node node ask) = senders.Node
sender_of (messages.Clock ask) = senders.Clock

-- the lane of a sender's feed
abbrev pub feed_lane : Sender → Lane
feed_lane senders.Client = lanes.Client
feed_lane senders.Master = lanes.Master
feed_lane senders.Node = lanes.Node
feed_lane senders.Clock = lanes.Clock

-- the sender whose feed a lane serves, if it serves one
abbrev pub sender_of_lane : Lane → Option Sender
sender_of_lane lanes.Client = Some senders.Client
sender_of_lane lanes.Master = Some senders.Master
sender_of_lane lanes.Node = Some senders.Node
sender_of_lane lanes.Clock = Some senders.Clock
sender_of_lane lanes.Main = None
sender_of_lane lanes.Sched = None
sender_of_lane lanes.Hand = None
sender_of_lane lanes.Write = None
sender_of_lane lanes.End = None
sender_of_lane lanes.Begin = None

-- the lane whose move adds the entry
abbrev pub lane_of_entry : Entry → Lane
lane_of_entry (entries.Opened landed epoch stamp) = lanes.Begin
lane_of_entry (entries.Issued op) = lanes.Main
lane_of_entry entries.Handed = lanes.Hand
lane_of_entry (entries.Kept op) = lanes.Write
lane_of_entry (entries.Blown passed) = lanes.Write
lane_of_entry (entries.Served sender message reply) = feed_lane sender
lane_of_entry (entries.Accepted app) = lanes.Main
lane_of_entry (entries.Queued attempt) = lanes.Sched
lane_of_entry (entries.Absorbed node taken ended) = lanes.Sched
lane_of_entry (entries.Pass node grants) = lanes.Sched
lane_of_entry (entries.Ordered container node) = lanes.Main
lane_of_entry (entries.Ended cause list) = lanes.Sched
lane_of_entry entries.Settled = lanes.End
lane_of_entry entries.Down = lanes.End
lane_of_entry (entries.Quiet lane) = lane
