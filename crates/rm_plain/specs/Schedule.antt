-- The schedule of a run: letters that say which lane moves next. After its end the plain policy goes on. This project's own.
use Rattle.std.specs.Prelude.{◌≡◌, ℕ, ◌+◌, nat_le, List, [], ◌∷◌, ◌++◌, Bool, true, false, ◌&&◌, not, Option, None, Some, is_some, find, codes, if◌then◌else◌}
use Rattle.std.specs.List.{fold}
use Rattle.std.specs.Str.{bytes_eq}
use Rattle.rm_types.specs.declared.entries.Entry.{Entry}
use Rattle.rm_types.specs.declared.messages.Lane.{Lane}
use Rattle.rm_types.specs.declared.messages.Lane.TheVariants.{End}
use Rattle.rm_types.specs.declared.operations.Op.{Op}
use Rattle.rm_types.specs.declared.scripts.Script.{Script}
use Rattle.rm_types.specs.Lanes.{lane_of_entry}
use Rattle.rm_formats.specs.Page.{lane_letter}
use Rattle.rm_model.specs.Place.{close_left}
use Rattle.rm_core.specs.Seen.{Seen}
use Rattle.rm_desk.specs.Lanes.{is_ready_at}
use Rattle.rm_desk.specs.View.{DeskView}
use Rattle.rm_lives.specs.declared.halts.Halt.{Halt}
use Rattle.rm_lives.specs.declared.halts.Halt.TheVariants as halts
use Rattle.rm_plain.specs.declared.schedule.TheConstants.{MOST_SCHEDULED}
use Rattle.rm_plain.specs.declared.schedule.Letter.{Letter}
use Rattle.rm_plain.specs.declared.schedule.Letter.TheVariants.{Moves, Plain, Unknown}
use Rattle.rm_plain.specs.declared.schedule.Step.{Step}
use Rattle.rm_lives.specs.Order.{Order}
use Rattle.rm_lives.specs.Order.{run_after}
use Rattle.rm_plain.specs.Policy.{first_ready, policy}

-- how many bytes of a schedule may have letters
abbrev pub most_scheduled : ℕ
most_scheduled = MOST_SCHEDULED

-- a letter for a lane, if there is one
abbrev pub of_lane : Option Lane → Letter
of_lane None = Unknown
of_lane (Some lane) = Moves lane

-- `p` is for moves of the plain policy, and the letter of a lane for its move; no other byte is a letter
unfoldable pub letter_of : ℕ → Letter
letter_of byte = if bytes_eq (byte ∷ []) (codes "p") then Plain else of_lane (find (λ lane. bytes_eq (lane_letter lane) (byte ∷ [])) policy)

-- a byte past the most is none either
unfoldable pub letter_at : ℕ → ℕ → Letter
letter_at place byte = if nat_le most_scheduled place then Unknown else letter_of byte

-- line feeds are skipped
abbrev pub is_skipped_byte : ℕ → ℕ → Bool
is_skipped_byte place byte = not (nat_le most_scheduled place) && bytes_eq (byte ∷ []) (codes "\n")

-- the letters that begin at a place, with theirs
unfoldable pub steps_from : ℕ → List ℕ → List Step
steps_from place [] = []
steps_from place (byte ∷ more) =
    if is_skipped_byte place byte then steps_from (place + 1) more else record { place = place; letter = letter_at place byte } ∷ steps_from (place + 1) more

-- the letters of a schedule
abbrev pub steps_of : List ℕ → List Step
steps_of bytes = steps_from 0 bytes

-- a letter is used up by the move that it says, and `p` by the one that closes the segment
abbrev pub is_used_up : Letter → Lane → Bool
is_used_up Plain End = true
is_used_up Plain lane = false
is_used_up letter lane = true

-- what a move of this lane leaves of the letters
abbrev pub used_by : Lane → List Step → List Step
used_by lane [] = []
used_by lane (step ∷ more) = if is_used_up step.letter lane then more else step ∷ more

-- what is left of the letters after a log
abbrev pub letters_left : List Step → List Entry → List Step
letters_left steps log = fold (λ left e. used_by (lane_of_entry e) left) steps log

-- the lane that a letter moves: its own where this is ready, and for `p` the policy's first where a segment is left in the life that stands
abbrev pub moved_by : Letter → DeskView → Option Lane
moved_by (Moves lane) d = if is_ready_at d lane then Some lane else None
moved_by Plain d = if is_some (close_left d.place.segments) then first_ready d else None
moved_by Unknown d = None

-- the lane that moves next: the first letter's, and after the last one the policy's first
abbrev pub chosen : List Step → DeskView → Option Lane
chosen [] d = first_ready d
chosen (step ∷ more) d = moved_by step.letter d

-- each entry of the log is of the lane that was to move after the entries before it
abbrev pub MovesBy : List Step → Seen → Script → List Op → List Entry → Type 0
MovesBy steps new script opening log =
    (past : List Entry) (e : Entry) (more : List Entry) → log ≡ past ++ e ∷ more
    → chosen (letters_left steps past) (run_after new script opening past) ≡ Some (lane_of_entry e)

-- a letter stands at the place that can't move its lane
abbrev pub StopsAt : List Step → DeskView → ℕ → Type 0
StopsAt [] d place = ⊥
StopsAt (step ∷ more) d place = (step.place ≡ place) × (moved_by step.letter d ≡ None)

-- a letter that can't move its lane halts a life at its place
abbrev pub Stops : List Step → DeskView → Halt → Type 0
Stops steps d (halts.Schedule place) = StopsAt steps d place
Stops steps d halt = ⊥

-- a schedule and how far a run has come in it: all its bytes, those that are left, and how many stand before these
pub record Course : Type 0 where
  pub whole : List ℕ
  pub rest : List ℕ
  pub place : ℕ

-- the letters that are left
abbrev pub course_left : Course → List Step
course_left course = steps_from course.place course.rest

-- the order that letters give, and after them the policy
abbrev pub by_letters : List Step → Order
by_letters steps =
    record {
      keeps = MovesBy steps;
      rests = steps ≡ [];
      stops = λ new script opening log place. StopsAt (letters_left steps log) (run_after new script opening log) place;
      ends = λ log. letters_left steps log ≡ [];
    }

-- that of a schedule
abbrev pub order_of : Course → Order
order_of course = by_letters (steps_of course.whole)

-- the schedule has come as far as the log
abbrev pub IsAt : Course → List Entry → Type 0
IsAt course log = course_left course ≡ letters_left (steps_of course.whole) log
