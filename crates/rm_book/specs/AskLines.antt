-- How a table of asks keeps them: of each attempt lines in the order of a pass, each with the number of its first asking,
-- which gives back the order of first asking. This project's own.
use Rattle.std.specs.Prelude.{◌≡◌, ℕ, ◌+◌, ◌==◌, nat_lt, Bool, true, not, ◌&&◌, ◌||◌, List, [], ◌∷◌, map, filter, if◌then◌else◌}
use Rattle.std.specs.List.{list_any, list_all}
use Rattle.rm_types.specs.declared.containers.Ask.{Ask}
use Rattle.rm_types.specs.declared.containers.AskLine.{AskLine}
use Rattle.rm_types.specs.declared.ids.AttemptId.{AttemptId}
use Rattle.rm_types.specs.declared.resources.Resource.{Resource}
use Rattle.rm_types.specs.Ids.{is_attempt}
use Rattle.rm_book.specs.AskTables.{AsksOf, is_for, renewed_ask, one_less}

-- an attempt, and the lines of its asks
pub record AttemptAsks : Type 0 where
  pub attempt : AttemptId
  pub lines : List AskLine

-- the lines of an attempt: the first list that is its own
abbrev pub lines_in : List AttemptAsks → AttemptId → List AskLine
lines_in [] attempt = []
lines_in (entry ∷ entries) attempt = if is_attempt entry.attempt attempt then entry.lines else lines_in entries attempt

-- the lists with these lines in the place of an attempt's, or at the end
abbrev pub with_lines : AttemptId → List AskLine → List AttemptAsks → List AttemptAsks
with_lines attempt lines [] = record { attempt = attempt; lines = lines } ∷ []
with_lines attempt lines (entry ∷ entries) =
    if is_attempt entry.attempt attempt then record entry { lines = lines } ∷ entries else entry ∷ with_lines attempt lines entries

-- what a line asks for
abbrev pub ask_of : AskLine → Ask
ask_of line = line.ask

-- a change of what a line asks for
abbrev pub in_line : (Ask → Ask) → AskLine → AskLine
in_line change line = record line { ask = change line.ask }

-- the line is of this priority and size
abbrev pub is_line_for : ℕ → Resource → AskLine → Bool
is_line_for priority size line = is_for priority size line.ask

-- a line comes before another in a pass: its priority is less, or the same and it was asked first
abbrev pub is_asked_before : AskLine → AskLine → Bool
is_asked_before line other = nat_lt line.ask.priority other.ask.priority || ((line.ask.priority == other.ask.priority) && nat_lt line.order other.order)

-- lines in the order of a pass with one more at its place
abbrev pub placed : AskLine → List AskLine → List AskLine
placed line [] = line ∷ []
placed line (other ∷ lines) = if is_asked_before other line then other ∷ placed line lines else line ∷ other ∷ lines

-- the lines after an ask, whose number is this: as the asks, but that a new line stands at its place in the order of a pass
abbrev pub lines_set : Ask → ℕ → List AskLine → List AskLine
lines_set ask order lines =
    if ask.count == 0 then filter (λ line. not (is_line_for ask.priority ask.size line)) lines else
    (if list_any (is_line_for ask.priority ask.size) lines then map (in_line (renewed_ask ask)) lines else placed (record { ask = ask; order = order }) lines)

-- the lines after a grant: a line that falls to 0 goes
abbrev pub lines_granted : ℕ → Resource → List AskLine → List AskLine
lines_granted priority size lines = filter (λ line. nat_lt 0 line.ask.count) (map (in_line (one_less priority size)) lines)

module _ {X : Type 0} (number : X → ℕ) where
  -- a list by its numbers with one more at its place
  abbrev pub put_by : X → List X → List X
  put_by x [] = x ∷ []
  put_by x (y ∷ ys) = if nat_lt (number y) (number x) then y ∷ put_by x ys else x ∷ y ∷ ys

  -- a list by its numbers
  abbrev pub sorted_by : List X → List X
  sorted_by [] = []
  sorted_by (x ∷ xs) = put_by x (sorted_by xs)

-- the number of a line's first asking
abbrev pub asking_order : AskLine → ℕ
asking_order line = line.order

-- lines by their numbers
abbrev pub by_order : List AskLine → List AskLine
by_order lines = sorted_by asking_order lines

-- what lines ask for, in the order of first asking
abbrev pub asks_in : List AskLine → List Ask
asks_in lines = map ask_of (by_order lines)

-- an attempt with what it asks for, as contracts see it
abbrev pub asks_of_entry : AttemptAsks → AsksOf
asks_of_entry entry = record { attempt = entry.attempt; asks = asks_in entry.lines }

-- the lines are in the order of a pass
abbrev pub AreInOrder : List AskLine → Type 0
AreInOrder [] = Unit {0}
AreInOrder (line ∷ lines) = (list_all (is_asked_before line) lines ≡ true) × AreInOrder lines

-- what holds of an attempt's lines, where so many asks were set: they are in the order of a pass, the order of each is the
-- number of an ask, and of each something is outstanding
pub record AreLines (asked : ℕ) (lines : List AskLine) : Type 0 where
  pub order : AreInOrder lines
  pub numbers : list_all (λ line. nat_lt line.order (asked + 1)) lines ≡ true
  pub outstanding : list_all (λ line. nat_lt 0 line.ask.count) lines ≡ true

-- and of the lines of each attempt
abbrev pub IsAskTable : ℕ → List AttemptAsks → Type 0
IsAskTable asked [] = Unit {0}
IsAskTable asked (entry ∷ entries) = AreLines asked entry.lines × IsAskTable asked entries
