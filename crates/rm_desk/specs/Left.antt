-- What is left of a segment's messages, by four cursors. This project's own.
use Rattle.std.specs.Prelude.{◌≡◌, ℕ, ◌+◌, ◌≤◌, List, [], ◌∷◌, true, false, length, drop, ltb}
use Rattle.rm_types.specs.declared.messages.Message.{Message}
use Rattle.rm_types.specs.declared.messages.Sender.{Sender}
use Rattle.rm_types.specs.declared.messages.Sender.TheVariants.{Client, Master, Node, Clock}
use Rattle.rm_model.specs.Place.{is_from}
use Rattle.rm_desk.specs.declared.cursors.Cursors.{Cursors}
use Rattle.rm_types.specs.Lanes.{sender_of}

-- the cursor of a sender
abbrev pub cursor_of : Cursors → Sender → ℕ
cursor_of cursors Client = cursors.client
cursor_of cursors Master = cursors.master
cursor_of cursors Node = cursors.node
cursor_of cursors Clock = cursors.clock

-- the cursors with one sender's moved to a place
abbrev pub with_cursor : Sender → ℕ → Cursors → Cursors
with_cursor Client place cursors = record cursors { client = place }
with_cursor Master place cursors = record cursors { master = place }
with_cursor Node place cursors = record cursors { node = place }
with_cursor Clock place cursors = record cursors { clock = place }

-- how many messages stand before the first of a sender; all of them where there is none
abbrev pub steps_to : Sender → List Message → ℕ
steps_to sender [] = 0
steps_to sender (message ∷ more) = elim (is_from sender message) [ true ↦ 0 | false ↦ steps_to sender more + 1 ]

-- the messages whose place isn't below the cursor of their own sender, in order, where the first of the list stands at the given place
abbrev pub left_from : (Sender → ℕ) → ℕ → List Message → List Message
left_from cursor place [] = []
left_from cursor place (message ∷ more) = elim (ltb place (cursor (sender_of message))) [ true ↦ left_from cursor (place + 1) more | false ↦ message ∷ left_from cursor (place + 1) more ]

-- the messages that are left: those whose place isn't below the cursor of their own sender
abbrev pub unsent : Cursors → List Message → List Message
unsent cursors messages = left_from (cursor_of cursors) 0 messages

-- each cursor is at a message of its own sender, or at the end
pub record PointsRight (cursors : Cursors) (messages : List Message) : Type 0 where
  -- no cursor is past the end
  pub within : (sender : Sender) → cursor_of cursors sender ≤ length messages
  -- no message stands between a cursor and the first of its sender from there on
  pub own : (sender : Sender) → steps_to sender (drop (cursor_of cursors sender) messages) ≡ 0
