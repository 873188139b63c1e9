-- Which scripts a desk goes along.
use Rattle.std.specs.Prelude.{◌≡◌, ◌≢◌, ℕ, ◌≤◌, List, [], ◌∷◌}
use Rattle.rm_types.specs.declared.messages.Message.{Message}
use Rattle.rm_types.specs.declared.scripts.Close.{Close}
use Rattle.rm_types.specs.declared.scripts.Close.TheVariants.{Settle, Crash}
use Rattle.rm_types.specs.declared.scripts.Life.{Life}
use Rattle.rm_types.specs.declared.scripts.Segment.{Segment}
use Rattle.rm_types.specs.declared.scripts.Script.{Script}
use Rattle.rm_types.specs.Limits.{greatest_stamp, most_served}
use Rattle.rm_core.specs.Words.{IsServable}
use Rattle.rm_types.specs.Segments.{messages_in}

-- each message is of a kind that is served
abbrev pub AllServed : List Message → Type 0
AllServed [] = Unit {0}
AllServed (message ∷ more) = IsServable message × AllServed more

-- a segment settles, or it is the last of its life
abbrev pub Closes : Close → List Segment → Type 0
Closes Settle more = Unit {0}
Closes (Crash calls image) more = more ≡ []

-- these segments can come one after the other, to the end of a life
abbrev pub CanFollow : List Segment → Type 0
CanFollow [] = Unit {0}
CanFollow (segment ∷ more) = AllServed segment.messages × Closes segment.close more × CanFollow more

-- the segment ends with its life
abbrev pub ClosesByCrash : Close → Type 0
ClosesByCrash Settle = ⊥
ClosesByCrash (Crash calls image) = Unit {0}

-- the last of the segments crashes
abbrev pub EndsInCrash : List Segment → Type 0
EndsInCrash [] = ⊥
EndsInCrash (segment ∷ []) = ClosesByCrash segment.close
EndsInCrash (segment ∷ next ∷ more) = EndsInCrash (next ∷ more)

-- a life can be lived: its stamp is 1 to 10^15, its segments can follow each other, and it has no more messages than are
-- served in a life
pub record CanLive (life : Life) : Type 0 where
  pub low : 1 ≤ life.stamp
  pub high : life.stamp ≤ greatest_stamp
  pub segments : CanFollow life.segments
  pub few : messages_in life.segments ≤ most_served

-- each life can be lived, and crashes where another follows it
abbrev pub AllLive : List Life → Type 0
AllLive [] = Unit {0}
AllLive (life ∷ more) = CanLive life × (more ≢ [] → EndsInCrash life.segments) × AllLive more

-- a script that a desk goes along
pub record CanGoAlong (script : Script) : Type 0 where
  pub lives : AllLive script.lives
