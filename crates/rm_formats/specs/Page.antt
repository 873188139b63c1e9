-- The page of a log: a line for each entry but those that are silent. This project's own.
use Rattle.std.specs.Prelude.{ℕ, List, [], ◌∷◌, ◌++◌, Bool, if◌then◌else◌, map, codes}
use Rattle.std.specs.List.{flat_map}
use Rattle.std.specs.Fmt.{decimal}
use Rattle.rm_types.specs.declared.entries.Entry.{Entry}
use Rattle.rm_types.specs.declared.entries.Entry.TheVariants as entries
use Rattle.rm_types.specs.declared.messages.Lane.{Lane}
use Rattle.rm_types.specs.declared.messages.Lane.TheVariants as lanes
use Rattle.rm_types.specs.declared.operations.Op.{Op}
use Rattle.rm_formats.specs.IdTexts.{app_text, attempt_text, container_text}
use Rattle.rm_types.specs.Lanes.{lane_of_entry}
use Rattle.rm_types.specs.Lists.{is_nil}
use Rattle.rm_formats.specs.Wording.{spaced, bracketed, message_words, op_words, reply_words, cause_text}

-- a line: its words, and a line feed
abbrev pub line : List (List ℕ) → List ℕ
line words = spaced words ++ codes "\n"

-- the line of an entry; Handed and Quiet are silent
abbrev pub line_of : Entry → List ℕ
line_of (entries.Opened landed epoch stamp) =
    line (codes "opened" ∷ (codes "landed=" ++ decimal landed) ∷ (codes "epoch=" ++ decimal epoch) ∷ (codes "stamp=" ++ decimal stamp) ∷ [])
line_of (entries.Issued op) = line (codes "issued" ∷ op_words op)
line_of entries.Handed = []
line_of (entries.Kept op) = line (codes "kept" ∷ op_words op)
line_of (entries.Blown passed) = line (codes "blown" ∷ (codes "passed=" ++ decimal passed) ∷ [])
line_of (entries.Served sender message reply) = line (codes "served" ∷ message_words message ++ codes "->" ∷ reply_words reply)
line_of (entries.Accepted app) = line (codes "accepted" ∷ app_text app ∷ [])
line_of (entries.Queued attempt) = line (codes "queued" ∷ attempt_text attempt ∷ [])
line_of (entries.Absorbed node taken ended) =
    line
    (codes "absorbed"
    ∷ node
    ∷ (codes "taken=" ++ bracketed (map (λ held. container_text held.id) taken))
    ∷ (codes "ended=" ++ bracketed (map container_text ended))
    ∷ [])
line_of (entries.Pass node grants) = line (codes "pass" ∷ node ∷ (codes "grants=" ++ bracketed (map (λ grant. container_text grant.id) grants)) ∷ [])
line_of (entries.Ordered container node) = line (codes "ordered" ∷ container_text container ∷ node ∷ [])
line_of (entries.Ended cause list) = line (codes "ended" ∷ cause_text cause ∷ bracketed (map container_text list) ∷ [])
line_of entries.Settled = line (codes "settled" ∷ [])
line_of entries.Down = line (codes "down" ∷ [])
line_of (entries.Quiet lane) = []

-- the letter of a lane
abbrev pub lane_letter : Lane → List ℕ
lane_letter lanes.Client = codes "c"
lane_letter lanes.Master = codes "m"
lane_letter lanes.Node = codes "n"
lane_letter lanes.Clock = codes "k"
lane_letter lanes.Main = codes "d"
lane_letter lanes.Sched = codes "s"
lane_letter lanes.Hand = codes "h"
lane_letter lanes.Write = codes "w"
lane_letter lanes.End = codes "e"
lane_letter lanes.Begin = codes "o"

-- the letters of a log, one for each entry, silent ones too
abbrev pub letters : List Entry → List ℕ
letters log = flat_map (λ e. lane_letter (lane_of_entry e)) log

-- the last line of a page that shows the moves, where there are any
abbrev pub moves_line : List Entry → List ℕ
moves_line log = if is_nil log then [] else codes "moves " ++ (letters log ++ codes "\n")

-- the page of a log, with the moves or without
abbrev pub page : List Entry → Bool → List ℕ
page log moves = flat_map line_of log ++ (if moves then moves_line log else [])

-- the page of a store: a line for each operation
abbrev pub store_page : List Op → List ℕ
store_page ops = flat_map (λ op. line (codes "kept" ∷ op_words op)) ops
