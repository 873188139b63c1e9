-- The walk of `clap` over words whose flags are right, word by word.
use Rattle.std.proofs.Common.{◌≡◌, ◌∙◌, ◌⊎◌, inl, inr, ◌<◌, ◌+◌, ℕ, Bool, cond, true, false, not, ◌&&◌, ◌||◌, refl, sym, ap, subst, arith, List, [], ◌∷◌, ◌++◌, Option, Some, None, is_some, codes, append-nil, append_assoc}
use Rattle.std.specs.List.{count_by, fold}
use Rattle.std.specs.Str.{bytes_eq}
use Rattle.std.specs.Prelude.{option_map}
use Rattle.std.proofs.lemmas.Slice.Eq.{bytes_eq-Decides}
use Rattle.std.proofs.lemmas.List.Sums.{sum_by-cons}
use Rattle.clap.specs.Walk.{Row, Rule, Text, Waiting, Walk, idle, has_row, positional, used, walked}
use Rattle.clap.specs.Simple.{Shape, built}
use Rattle.clap.specs.Takes.{turn_passes, walk_passes}
use Rattle.rm_words.specs.Words.{is_unknown, names, times_said}
use Rattle.rm_types.specs.Texts.{is_flag}
use Rattle.rm_words.specs.Reading.{program}
use Rattle.rm_words.proofs.Rows.{has_row_is}
use Rattle.rm_words.proofs.Uses.{RowsHold, file_used, flag_row_of, flag_rule, moves_used, name_used, names_row_of, names_rule}

-- the arguments as building fills them in, and the command that is built, whose rules they are
abbrev pub rules : List Rule
rules = flag_rule (codes "file") ∷ flag_rule (codes "moves") ∷ names_rule ∷ []

abbrev pub top : Shape
top = (built program).top

-- what takes a next word, by the name that was met last where no flag was met behind it
abbrev pub waits : Option Text → Waiting
waits None = idle
waits (Some name) = positional

-- the walk between two words: the rows so far, and that name, which is in none of them yet
abbrev pub at : List Row → Option Text → Walk
at rows name = record {
  held = record { rows = rows; pending = option_map (λ n. (codes "names", n ∷ [])) name; skip = 0 };
  waiting = waits name;
  position = 1;
  is_trailing = false;
  stopped = None;
}

-- the rows with that name among them
abbrev pub settled_with : List Row → Option Text → List Row
settled_with rows None = rows
settled_with rows (Some name) = used names_rule (name ∷ []) rows

-- ---- the kinds of words

pub kinds : (word : Text) → is_unknown word ≡ false → (word ≡ codes "--file") ⊎ ((word ≡ codes "--moves") ⊎ (is_flag word ≡ false))
kinds word known = go (bytes_eq word (codes "--file")) (bytes_eq word (codes "--moves")) (is_flag word) refl refl refl known
  where
    go : (file moves flag : Bool) → bytes_eq word (codes "--file") ≡ file → bytes_eq word (codes "--moves") ≡ moves → is_flag word ≡ flag → (flag && not (file || moves)) ≡ false
        → (word ≡ codes "--file") ⊎ ((word ≡ codes "--moves") ⊎ (is_flag word ≡ false))
    go true moves flag is_file is_moves is none = inl ((bytes_eq-Decides word (codes "--file")).0 is_file)
    go false true flag is_file is_moves is none = inr (inl ((bytes_eq-Decides word (codes "--moves")).0 is_moves))
    go false false false is_file is_moves is none = inr (inr is)
    go false false true is_file is_moves is none = cc

-- ---- one word

file_walked : (rows : List Row) (name : Option Text) → walked rules [] (at rows name) (codes "--file") ≡ at (used (flag_rule (codes "file")) [] (settled_with rows name)) None
unfolding walked
file_walked rows None = refl
file_walked rows (Some name) = refl

moves_walked : (rows : List Row) (name : Option Text) → walked rules [] (at rows name) (codes "--moves") ≡ at (used (flag_rule (codes "moves")) [] (settled_with rows name)) None
unfolding walked
moves_walked rows None = refl
moves_walked rows (Some name) = refl

name_walked : (rows : List Row) (name : Option Text) (word : Text) → is_flag word ≡ false → walked rules [] (at rows name) word ≡ at (settled_with rows name) (Some word)
unfolding walked
name_walked rows None [] plain = refl
name_walked rows (Some name) [] plain = refl
name_walked rows None (byte ∷ bytes) plain = rw plain (rw plain refl)
name_walked rows (Some name) (byte ∷ bytes) plain = rw plain (rw plain refl)

file_passes : (rows : List Row) (name : Option Text) → has_row (codes "file") (settled_with rows name) ≡ false → turn_passes top [] (at rows name) (codes "--file") ≡ true
unfolding walked
file_passes rows None none = rw none refl
file_passes rows (Some name) none = rw none refl

moves_passes : (rows : List Row) (name : Option Text) → has_row (codes "moves") (settled_with rows name) ≡ false → turn_passes top [] (at rows name) (codes "--moves") ≡ true
unfolding walked
moves_passes rows None none = rw none refl
moves_passes rows (Some name) none = rw none refl

name_passes : (rows : List Row) (name : Option Text) (word : Text) → is_flag word ≡ false → turn_passes top [] (at rows name) word ≡ true
unfolding walked
name_passes rows None [] plain = refl
name_passes rows (Some name) [] plain = refl
name_passes rows None (byte ∷ bytes) plain = rw plain (rw plain refl)
name_passes rows (Some name) (byte ∷ bytes) plain = rw plain (rw plain refl)

-- ---- the words

-- where no word is unknown, neither the first nor one behind it is
known_first : (word : Text) (words : List Text) → count_by is_unknown (word ∷ words) ≡ 0 → (is_unknown word ≡ false) × (count_by is_unknown words ≡ 0)
known_first word words none = go (is_unknown word) refl (sym (sum_by-cons (λ (w : Text). cond (is_unknown w) 1 0) word words) ∙ none)
  where
    go : (b : Bool) → is_unknown word ≡ b → cond b 1 0 + count_by is_unknown words ≡ 0 → (is_unknown word ≡ false) × (count_by is_unknown words ≡ 0)
    go true e sum = absurd (omega arith)
    go false e sum = (e, omega arith)

pub times_first : (word one : Text) (words : List Text) → times_said word (one ∷ words) ≡ cond (bytes_eq one word) 1 0 + times_said word words
times_first word one words = sum_by-cons (λ (w : Text). cond (bytes_eq w word) 1 0) one words

-- a name is neither flag
pub no_file : (word : Text) → is_flag word ≡ false → bytes_eq word (codes "--file") ≡ false
no_file [] plain = refl
no_file (byte ∷ bytes) plain = rw plain refl

pub no_moves : (word : Text) → is_flag word ≡ false → bytes_eq word (codes "--moves") ≡ false
no_moves [] plain = refl
no_moves (byte ∷ bytes) plain = rw plain refl

pub name_first : (word : Text) (words : List Text) → is_flag word ≡ false → names (word ∷ words) ≡ word ∷ names words
name_first word words plain = rw plain refl

-- the walk passes over the words, and ends with rows that hold these names, and each flag so often
pub record Walked (rows : List Row) (name : Option Text) (words met : List Text) (files moves : ℕ) : Type 0 where
  pub rows_then : List Row
  pub name_then : Option Text
  pub walk : fold (walked rules []) (at rows name) words ≡ at rows_then name_then
  pub passes : walk_passes top [] (at rows name) words ≡ true
  pub holds : RowsHold (settled_with rows_then name_then) met files moves

-- the same names and times in other words
pub counted_as : (rows : List Row) (name : Option Text) (words met all : List Text) (files file_times moves move_times : ℕ) → met ≡ all → files ≡ file_times → moves ≡ move_times
    → Walked rows name words met files moves → Walked rows name words all file_times move_times
counted_as rows name words met all files file_times moves move_times same files_same moves_same w = record {
  rows_then = w.rows_then;
  name_then = w.name_then;
  walk = w.walk;
  passes = w.passes;
  holds = record { file = w.holds.file ∙ ap (flag_row_of (codes "file")) files_same; moves = w.holds.moves ∙ ap (flag_row_of (codes "moves")) moves_same; named = w.holds.named ∙ ap names_row_of same };
}

-- the walk over a word and over those behind it is one over all
one_more : (rows rows_next : List Row) (name name_next : Option Text) (word : Text) (words met : List Text) (files moves : ℕ) → walked rules [] (at rows name) word ≡ at rows_next name_next
    → turn_passes top [] (at rows name) word ≡ true → Walked rows_next name_next words met files moves → Walked rows name (word ∷ words) met files moves
unfolding walk_passes
one_more rows rows_next name name_next word words met files moves next passes w = record {
  rows_then = w.rows_then;
  name_then = w.name_then;
  walk = ap (λ (s : Walk). fold (walked rules []) s words) next ∙ w.walk;
  passes = rw passes (ap (λ (s : Walk). walk_passes top [] s words) next ∙ w.passes);
  holds = w.holds;
}

-- from rows that hold what was met so far, the walk over the words adds what stands among them
abbrev AllPassed : List Text → Type 0
AllPassed words = (rows : List Row) (name : Option Text) (met : List Text) (files moves : ℕ) → RowsHold (settled_with rows name) met files moves
    → files + times_said (codes "--file") words < 2 → moves + times_said (codes "--moves") words < 2
    → Walked rows name words (met ++ names words) (files + times_said (codes "--file") words) (moves + times_said (codes "--moves") words)

file_first : (words : List Text) → AllPassed words → AllPassed (codes "--file" ∷ words)
file_first words rest rows name met files moves holds file_once moves_once =
    let one : times_said (codes "--file") (codes "--file" ∷ words) ≡ 1 + times_said (codes "--file") words = times_first (codes "--file") (codes "--file") words in
    let other : times_said (codes "--moves") (codes "--file" ∷ words) ≡ 0 + times_said (codes "--moves") words = times_first (codes "--moves") (codes "--file") words in
    let unused : files ≡ 0 = omega arith in
    let before : RowsHold (settled_with rows name) met 0 moves = subst (λ (n : ℕ). RowsHold (settled_with rows name) met n moves) unused holds in
    one_more rows _ name None (codes "--file") words _ _ _ (file_walked rows name) (file_passes rows name (has_row_is (codes "file") (settled_with rows name) ∙ ap is_some before.file))
    (counted_as _ None words _ _ _ _ _ _ refl (omega arith) (omega arith)
    (rest (used (flag_rule (codes "file")) [] (settled_with rows name)) None met 1 moves (file_used (settled_with rows name) met moves before) (omega arith) (omega arith)))

moves_first : (words : List Text) → AllPassed words → AllPassed (codes "--moves" ∷ words)
moves_first words rest rows name met files moves holds file_once moves_once =
    let one : times_said (codes "--moves") (codes "--moves" ∷ words) ≡ 1 + times_said (codes "--moves") words = times_first (codes "--moves") (codes "--moves") words in
    let other : times_said (codes "--file") (codes "--moves" ∷ words) ≡ 0 + times_said (codes "--file") words = times_first (codes "--file") (codes "--moves") words in
    let unused : moves ≡ 0 = omega arith in
    let before : RowsHold (settled_with rows name) met files 0 = subst (λ (n : ℕ). RowsHold (settled_with rows name) met files n) unused holds in
    one_more rows _ name None (codes "--moves") words _ _ _ (moves_walked rows name) (moves_passes rows name (has_row_is (codes "moves") (settled_with rows name) ∙ ap is_some before.moves))
    (counted_as _ None words _ _ _ _ _ _ refl (omega arith) (omega arith)
    (rest (used (flag_rule (codes "moves")) [] (settled_with rows name)) None met files 1 (moves_used (settled_with rows name) met files before) (omega arith) (omega arith)))

named_first : (word : Text) (words : List Text) → is_flag word ≡ false → AllPassed words → AllPassed (word ∷ words)
named_first word words plain rest rows name met files moves holds file_once moves_once =
    let file : times_said (codes "--file") (word ∷ words) ≡ 0 + times_said (codes "--file") words = times_first (codes "--file") word words ∙ ap (λ (b : Bool). cond b 1 0 + times_said (codes "--file") words) (no_file word plain) in
    let other : times_said (codes "--moves") (word ∷ words) ≡ 0 + times_said (codes "--moves") words = times_first (codes "--moves") word words ∙ ap (λ (b : Bool). cond b 1 0 + times_said (codes "--moves") words) (no_moves word plain) in
    one_more rows _ name (Some word) word words _ _ _ (name_walked rows name word plain) (name_passes rows name word plain)
    (counted_as _ (Some word) words _ _ _ _ _ _ (append_assoc met (word ∷ []) (names words) ∙ ap (λ (more : List Text). met ++ more) (sym (name_first word words plain))) (omega arith) (omega arith)
    (rest (settled_with rows name) (Some word) (met ++ word ∷ []) files moves (name_used (settled_with rows name) met files moves word holds) (omega arith) (omega arith)))

nothing_left : (rows : List Row) (name : Option Text) → walk_passes top [] (at rows name) [] ≡ true
unfolding walk_passes
nothing_left rows name = refl

none_passed : AllPassed []
none_passed rows name met files moves holds file_once moves_once =
    counted_as rows name [] met (met ++ []) files _ moves _ (sym (append-nil met)) (omega arith) (omega arith)
    (record { rows_then = rows; name_then = name; walk = refl; passes = nothing_left rows name; holds = holds })

-- by induction over the words
pub all_passed : (words : List Text) → count_by is_unknown words ≡ 0 → AllPassed words
all_passed [] known = none_passed
all_passed (word ∷ words) known = elim (kinds word (known_first word words known).0) [
  | inl is_file ↦ subst (λ (w : Text). AllPassed (w ∷ words)) (sym is_file) (file_first words (all_passed words (known_first word words known).1))
  | inr (inl is_moves) ↦ subst (λ (w : Text). AllPassed (w ∷ words)) (sym is_moves) (moves_first words (all_passed words (known_first word words known).1))
  | inr (inr plain) ↦ named_first word words plain (all_passed words (known_first word words known).1)
]
