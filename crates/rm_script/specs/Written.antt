-- A script as it is written, with the messages that are lost, and the lives that it tells the manager.
use Rattle.std.specs.Prelude.{ℕ, List, [], ◌∷◌, ◌++◌, map, Option, Some, None}
use Rattle.std.specs.List.{flat_map}
use Rattle.rm_types.specs.declared.messages.Message.{Message}
use Rattle.rm_types.specs.declared.scripts.Close.TheVariants.{Settle, Crash}
use Rattle.rm_types.specs.declared.scripts.Segment.{Segment}
use Rattle.rm_types.specs.declared.scripts.Life.{Life}
use Rattle.rm_types.specs.declared.scripts.Script.{Script}

-- a message is sent: it is delivered, or lost on its way
pub data Sent : Type 0 where
  Delivered : (message : Message) → Sent
  Lost : (message : Message) → Sent

-- the crash that ends a life: what is sent in the segment that it closes, how many device calls pass, and the image that the
-- device falls to
pub record Crashing : Type 0 where
  pub sent : List Sent
  pub calls : ℕ
  pub image : ℕ

-- a life as it is written: its stamp, what is sent in each of its segments that settle, and the crash that may end it
pub record WrittenLife : Type 0 where
  pub stamp : ℕ
  pub settled : List (List Sent)
  pub crash : Option Crashing

-- the message that was sent
abbrev pub message_of : Sent → Message
message_of (Delivered message) = message
message_of (Lost message) = message

-- what is delivered of it
abbrev pub delivered : Sent → List Message
delivered (Delivered message) = message ∷ []
delivered (Lost message) = []

-- the segment that settles after this was sent
abbrev pub settled_segment : List Sent → Segment
settled_segment sent = record { messages = flat_map delivered sent; close = Settle }

-- the segment that ends with the crash, where there is one
abbrev pub crash_segments : Option Crashing → List Segment
crash_segments None = []
crash_segments (Some crash) = record { messages = flat_map delivered crash.sent; close = Crash crash.calls crash.image } ∷ []

-- the life that the manager is told
abbrev pub life_of : WrittenLife → Life
life_of life = record { stamp = life.stamp; segments = map settled_segment life.settled ++ crash_segments life.crash }

-- the script of these lives
abbrev pub script_of_lives : List WrittenLife → Script
script_of_lives lives = record { lives = map life_of lives }
