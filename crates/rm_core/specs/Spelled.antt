-- The script that a log spells. This project's own.
use Rattle.std.specs.Prelude.{List, [], ◌∷◌}
use Rattle.rm_types.specs.declared.entries.Entry.{Entry}
use Rattle.rm_types.specs.declared.entries.Entry.TheVariants.{Absorbed, Accepted, Blown, Down, Ended, Handed, Issued, Kept, Opened, Ordered, Pass, Queued, Quiet, Served, Settled}
use Rattle.rm_types.specs.declared.scripts.Close.TheVariants.{Crash, Settle}
use Rattle.rm_types.specs.declared.scripts.Life.{Life}
use Rattle.rm_types.specs.declared.scripts.Script.{Script}
use Rattle.rm_types.specs.declared.scripts.Segment.{Segment}

-- a segment without messages that closes with a crash, before whose fuse no call passes
abbrev pub closing : Segment
closing = record { messages = []; close = Crash 0 0 }

-- the segment that a life is in where this is left of the log: the messages that are served yet, and how it closes; where the log ends
-- amid it, it closes as if the life went down there. Where the life is blown, the segment closes with a crash before whose fuse as many
-- calls pass
abbrev pub first_segment : List Entry → Segment
first_segment [] = closing
first_segment (Served sender message reply ∷ log) = record (first_segment log) { messages = message ∷ (first_segment log).messages }
first_segment (Settled ∷ log) = record { messages = []; close = Settle }
first_segment (Down ∷ log) = closing
first_segment (Opened landed epoch stamp ∷ log) = closing
first_segment (Issued op ∷ log) = first_segment log
first_segment (Handed ∷ log) = first_segment log
first_segment (Kept op ∷ log) = first_segment log
first_segment (Blown passed ∷ log) = record (first_segment log) { close = Crash passed 0 }
first_segment (Accepted app ∷ log) = first_segment log
first_segment (Queued attempt ∷ log) = first_segment log
first_segment (Absorbed node taken ended ∷ log) = first_segment log
first_segment (Pass node grants ∷ log) = first_segment log
first_segment (Ordered container node ∷ log) = first_segment log
first_segment (Ended cause list ∷ log) = first_segment log
first_segment (Quiet lane ∷ log) = first_segment log

-- the segments of this life behind it
abbrev pub more_in : List Entry → List Segment
more_in [] = []
more_in (Served sender message reply ∷ log) = more_in log
more_in (Settled ∷ log) = first_segment log ∷ more_in log
more_in (Down ∷ log) = []
more_in (Opened landed epoch stamp ∷ log) = []
more_in (Issued op ∷ log) = more_in log
more_in (Handed ∷ log) = more_in log
more_in (Kept op ∷ log) = more_in log
more_in (Blown passed ∷ log) = more_in log
more_in (Accepted app ∷ log) = more_in log
more_in (Queued attempt ∷ log) = more_in log
more_in (Absorbed node taken ended ∷ log) = more_in log
more_in (Pass node grants ∷ log) = more_in log
more_in (Ordered container node ∷ log) = more_in log
more_in (Ended cause list ∷ log) = more_in log
more_in (Quiet lane ∷ log) = more_in log

-- the lives that begin in the log, each with its stamp
abbrev pub spelled_lives : List Entry → List Life
spelled_lives [] = []
spelled_lives (Opened landed epoch stamp ∷ log) = record { stamp = stamp; segments = first_segment log ∷ more_in log } ∷ spelled_lives log
spelled_lives (Served sender message reply ∷ log) = spelled_lives log
spelled_lives (Settled ∷ log) = spelled_lives log
spelled_lives (Down ∷ log) = spelled_lives log
spelled_lives (Issued op ∷ log) = spelled_lives log
spelled_lives (Handed ∷ log) = spelled_lives log
spelled_lives (Kept op ∷ log) = spelled_lives log
spelled_lives (Blown passed ∷ log) = spelled_lives log
spelled_lives (Accepted app ∷ log) = spelled_lives log
spelled_lives (Queued attempt ∷ log) = spelled_lives log
spelled_lives (Absorbed node taken ended ∷ log) = spelled_lives log
spelled_lives (Pass node grants ∷ log) = spelled_lives log
spelled_lives (Ordered container node ∷ log) = spelled_lives log
spelled_lives (Ended cause list ∷ log) = spelled_lives log
spelled_lives (Quiet lane ∷ log) = spelled_lives log

-- the script that a log spells
abbrev pub spelled : List Entry → Script
spelled log = record { lives = spelled_lives log }
