-- What the feeds of a desk stand for.
use Rattle.std.specs.Prelude.{◌≡◌, List, [], ◌∷◌, ◌++◌, Option, None, Some}
use Rattle.rm_types.specs.declared.messages.Message.{Message}
use Rattle.rm_types.specs.declared.scripts.Close.{Close}
use Rattle.rm_types.specs.declared.scripts.Segment.{Segment}
use Rattle.rm_model.specs.Place.{Place}
use Rattle.rm_core.specs.Seen.{Seen}
use Rattle.rm_desk.specs.declared.feeds.Feeds.{Feeds}
use Rattle.rm_desk.specs.View.{DeskView}

-- the current segment, where there is one
abbrev pub current_in : Option Close → List Message → List Segment
current_in None feed = []
current_in (Some close) feed = record { messages = feed; close = close } ∷ []

-- where the feeds are in their script
abbrev pub feeds_place : Feeds → Place
feeds_place f = record { lives = f.lives; segments = current_in f.close f.feed ++ f.segments }

-- a manager with these feeds
abbrev pub at : Seen → Feeds → DeskView
at core f = record { core = core; place = feeds_place f }

-- where no segment is current, none is left of the life, nor a message
abbrev pub IsEntered : Feeds → Type 0
IsEntered f = f.close ≡ None → (f.segments ≡ []) × (f.feed ≡ [])
