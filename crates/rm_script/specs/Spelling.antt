-- The lines of a script, put together as the grammar reads. A message has one text, which a page prints too.
use Rattle.std.specs.Prelude.{ℕ, List, [], ◌∷◌, ◌++◌, map, Option, Some, None, codes}
use Rattle.std.specs.List.{flat_map}
use Rattle.std.specs.Fmt.{decimal}
use Rattle.rm_formats.specs.Wording.{spaced, message_words, message_text}
use Rattle.rm_script.specs.Written.{Sent, Delivered, Lost, Crashing, WrittenLife}

-- the line of a message that is sent: the message's text, after `lose` where it is lost
abbrev pub sent_text : Sent → List ℕ
sent_text (Delivered message) = message_text message
sent_text (Lost message) = spaced (codes "lose" ∷ message_words message)

-- the line that starts a life
abbrev pub start_text : ℕ → List ℕ
start_text stamp = spaced (codes "start" ∷ decimal stamp ∷ [])

-- the line that crashes a life
abbrev pub crash_text : Crashing → List ℕ
crash_text crash = spaced (codes "crash" ∷ decimal crash.calls ∷ decimal crash.image ∷ [])

-- the lines of a segment that settles: what is sent, and then `settle`
abbrev pub settled_lines : List Sent → List (List ℕ)
settled_lines sent = map sent_text sent ++ codes "settle" ∷ []

-- the lines of the segment that crashes, where there is one: what is sent, and then the crash
abbrev pub crash_lines : Option Crashing → List (List ℕ)
crash_lines None = []
crash_lines (Some crash) = map sent_text crash.sent ++ crash_text crash ∷ []

-- the lines of a life: its start, those of its segments that settle, and those of the one that crashes
abbrev pub life_lines : WrittenLife → List (List ℕ)
life_lines life = (start_text life.stamp ∷ flat_map settled_lines life.settled) ++ crash_lines life.crash

-- the lines of a script: those of its lives
abbrev pub script_lines : List WrittenLife → List (List ℕ)
script_lines lives = flat_map life_lines lives
