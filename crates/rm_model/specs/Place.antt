-- Where a log stands in its script: the script says which life begins, which messages are served and how a segment closes. This
-- project's own.
use Rattle.std.specs.Prelude.{◌≡◌, ◌≢◌, ℕ, ◌+◌, max, List, [], ◌∷◌, ◌++◌, Bool, true, false, Option, None, Some, find}
use Rattle.rm_types.specs.declared.entries.Entry.{Entry}
use Rattle.rm_types.specs.declared.entries.Entry.TheVariants.{Opened, Blown, Served, Settled, Down}
use Rattle.rm_types.specs.declared.messages.Message.{Message}
use Rattle.rm_types.specs.declared.messages.Message.TheVariants.{Client as FromClient, Master as FromMaster, Node as FromNode, Clock as FromClock}
use Rattle.rm_types.specs.declared.messages.Sender.{Sender}
use Rattle.rm_types.specs.declared.messages.Sender.TheVariants.{Client, Master, Node, Clock}
use Rattle.rm_types.specs.declared.scripts.Close.{Close}
use Rattle.rm_types.specs.declared.scripts.Close.TheVariants.{Settle, Crash}
use Rattle.rm_types.specs.declared.scripts.Life.{Life}
use Rattle.rm_types.specs.declared.scripts.Segment.{Segment}
use Rattle.rm_types.specs.declared.scripts.Script.{Script}
use Rattle.rm_types.specs.Records.{records}
use Rattle.rm_model.specs.State.{Manager}
use Rattle.rm_model.specs.Changes.{kept_after_landing}

-- what is left of a script
pub record Place : Type 0 where
  -- the lives that have not begun
  pub lives : List Life
  -- the segments of this life that have not closed; the first is the current one, with the messages left in its feeds
  pub segments : List Segment

-- the beginning of a script
abbrev pub beginning : Script → Place
beginning script = record { lives = script.lives; segments = [] }

-- nothing is left of the script
pub record IsAtEnd (p : Place) : Type 0 where
  pub lives : p.lives ≡ []
  pub segments : p.segments ≡ []

-- the message is of this sender
abbrev pub is_from : Sender → Message → Bool
is_from Client (FromClient user ask) = true
is_from Master (FromMaster attempt ask) = true
is_from Node (FromNode node ask) = true
is_from Clock (FromClock ask) = true
is_from _ _ = false

-- the first message of a sender's feed
abbrev pub first_from : Sender → List Message → Option Message
first_from sender messages = find (is_from sender) messages

-- the messages without the first of a sender
abbrev pub without_first : Sender → List Message → List Message
without_first sender [] = []
without_first sender (message ∷ more) = elim (is_from sender message) [ true ↦ more | false ↦ message ∷ without_first sender more ]

-- the messages that are left in the current segment
abbrev pub messages_left : List Segment → List Message
messages_left [] = []
messages_left (segment ∷ more) = segment.messages

-- how the current segment closes, where there is one
abbrev pub close_left : List Segment → Option Close
close_left [] = None
close_left (segment ∷ more) = Some segment.close

-- the current segment without the first message of a sender
abbrev pub segments_without : Sender → List Segment → List Segment
segments_without sender [] = []
segments_without sender (segment ∷ more) = record segment { messages = without_first sender segment.messages } ∷ more

-- the stamp of a life that begins: the one on its `start` line, or one above the recorded stamp where that is greater
abbrev pub stamp_of : Life → ℕ → ℕ
stamp_of life recorded = max life.stamp (recorded + 1)

-- a life begins where the script's next life has this stamp
pub record BeginsAsScripted (s : Manager) (p : Place) (landed stamp : ℕ) : Type 0 where
  pub life : Life
  pub more : List Life
  pub next : p.lives ≡ life ∷ more
  pub at_end : p.segments ≡ []
  pub stamped : stamp ≡ stamp_of life (records (kept_after_landing s landed)).stamp

-- a life blows after as many calls as its segment's crash says
pub record Blows (p : Place) (passed : ℕ) : Type 0 where
  pub image : ℕ
  pub closes : close_left p.segments ≡ Some (Crash passed image)

-- a segment settles where it closes so and its feeds are empty
pub record Settles (p : Place) : Type 0 where
  pub none_left : messages_left p.segments ≡ []
  pub closes : close_left p.segments ≡ Some Settle

-- a life goes down where its segment closes with a crash and its feeds are empty
pub record Crashes (p : Place) : Type 0 where
  pub none_left : messages_left p.segments ≡ []
  pub calls : ℕ
  pub image : ℕ
  pub closes : close_left p.segments ≡ Some (Crash calls image)

-- the script's next thing is this entry; of entries that it doesn't name it says nothing
abbrev pub IsNext : Manager → Place → Entry → Type 0
IsNext s p (Opened landed epoch stamp) = BeginsAsScripted s p landed stamp
IsNext s p (Blown passed) = Blows p passed
IsNext s p (Served sender message reply) = first_from sender (messages_left p.segments) ≡ Some message
IsNext s p Settled = Settles p
IsNext s p Down = Crashes p
IsNext s p _ = Unit {0}

-- the place where a life has begun
abbrev pub place_begun : List Life → Place → Place
place_begun [] p = p
place_begun (life ∷ more) p = record { lives = more; segments = life.segments }

-- the segments after the current one
abbrev pub rest_of : List Segment → List Segment
rest_of [] = []
rest_of (segment ∷ more) = more

-- the place after an entry
abbrev pub moved : Place → Entry → Place
moved p (Opened landed epoch stamp) = place_begun p.lives p
moved p (Served sender message reply) = record p { segments = segments_without sender p.segments }
moved p Settled = record p { segments = rest_of p.segments }
moved p Down = record p { segments = rest_of p.segments }
moved p _ = p

-- what a script has more at its end: a life, or a segment of its last life. This project's own
pub data Growth : Type 0 where
  ByLife : (life : Life) → Growth
  BySegment : (segment : Segment) → Growth

-- the lives, of which the last has this segment more at its end
abbrev pub lives_grown : Segment → List Life → List Life
lives_grown segment [] = []
lives_grown segment (life ∷ []) = record life { segments = life.segments ++ segment ∷ [] } ∷ []
lives_grown segment (life ∷ next ∷ more) = life ∷ lives_grown segment (next ∷ more)

-- the segments that are left of the current life, which has this one more at its end where no life is left behind it
abbrev pub segments_grown : Segment → List Life → List Segment → List Segment
segments_grown segment [] segments = segments ++ segment ∷ []
segments_grown segment (life ∷ more) segments = segments

-- the script with this more at its end. This project's own
abbrev pub script_grown : Growth → Script → Script
script_grown (ByLife life) script = record { lives = script.lives ++ life ∷ [] }
script_grown (BySegment segment) script = record { lives = lives_grown segment script.lives }

-- what is left of the script that has this more at its end, where this is left of it without. This project's own
abbrev pub place_grown : Growth → Place → Place
place_grown (ByLife life) p = record { lives = p.lives ++ life ∷ []; segments = p.segments }
place_grown (BySegment segment) p = record { lives = lives_grown segment p.lives; segments = segments_grown segment p.lives p.segments }

-- a script may have this more at its end: a segment needs a life that it is of
abbrev pub MayGrow : Growth → Script → Type 0
MayGrow (ByLife life) script = Unit {0}
MayGrow (BySegment segment) script = script.lives ≢ []
