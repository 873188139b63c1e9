-- What an attempt asks for after many asks, which are set one after the other. This project's own.
use Rattle.std.specs.Prelude.{ℕ, ◌+◌, List, [], ◌∷◌, fold}
use Rattle.rm_types.specs.declared.containers.Ask.{Ask}
use Rattle.rm_types.specs.declared.containers.AskLine.{AskLine}
use Rattle.rm_types.specs.declared.ids.AttemptId.{AttemptId}
use Rattle.rm_book.specs.AskLines.{lines_set}
use Rattle.rm_book.specs.AskTables.{AsksOf, attempt_asks, asks_set, with_asks_of}

-- the asks of an attempt after these were set
abbrev pub asks_after : List Ask → List Ask → List Ask
asks_after asks new = fold (λ so_far ask. asks_set ask so_far) asks new

-- the table after an ask of an attempt was set, and after many were
abbrev pub one_asked : AttemptId → List AsksOf → Ask → List AsksOf
one_asked attempt table ask = with_asks_of attempt (asks_set ask (attempt_asks table attempt)) table

-- the table after many asks of an attempt were set, one after the other
abbrev pub all_asked : AttemptId → List AsksOf → List Ask → List AsksOf
all_asked attempt table new = fold (one_asked attempt) table new

-- the lines after these asks, which are numbered from behind so many that were set before
abbrev pub lines_after : List Ask → ℕ → List AskLine → List AskLine
lines_after [] asked lines = lines
lines_after (ask ∷ more) asked lines = lines_after more (asked + 1) (lines_set ask (asked + 1) lines)
