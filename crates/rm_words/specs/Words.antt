-- The words of the program. This project's own.
use Rattle.std.specs.Prelude.{ℕ, List, [], ◌∷◌, filter, Bool, true, false, ◌&&◌, ◌||◌, not, ◌==◌, nat_lt, Option, None, Some, option_map, if◌then◌else◌, codes}
use Rattle.std.specs.List.{count_by}
use Rattle.std.specs.Str.{bytes_eq}
use Rattle.rm_formats.specs.declared.TheConstants.{STORE_SIZE}
use Rattle.rm_types.specs.Ranges.{IsWithin}
use Rattle.rm_lines.specs.Numbers.{number_between}
use Rattle.rm_soak.specs.Limits.{most_soaked}
use Rattle.rm_words.specs.declared.modes.Mode.{Mode}
use Rattle.rm_words.specs.declared.modes.Mode.TheVariants as modes
use Rattle.rm_words.specs.declared.modes.ModeName.{ModeName}
use Rattle.rm_words.specs.declared.modes.ModeName.TheVariants as rows
use Rattle.rm_types.specs.Texts.{is_flag}

-- who moves the lanes of a run: one thread, or seven workers in threads of their own
pub data Mover : Type 0 where
  OneThread : Mover
  Workers : Mover

-- what the words ask for: a run of a script under a cluster file, by the names of the two files and, where its moves are told, of that of
-- their schedule, and who moves its lanes; a soak of so many applications; or what the store keeps
pub data Asked : Type 0 where
  Run : (cluster script : List ℕ) (schedule : Option (List ℕ)) (mover : Mover) → Asked
  Soak : (number : ℕ) → Asked
  Listing : Asked

-- a mode as it is asked for, with names as lists of bytes
abbrev pub asked : Mode → Asked
asked (modes.Plain cluster script) = Run cluster.now script.now None OneThread
asked (modes.Replay cluster script schedule) = Run cluster.now script.now (Some schedule.now) OneThread
asked (modes.Threads cluster script) = Run cluster.now script.now None Workers
asked (modes.Soak number) = Soak number
asked modes.Store = Listing

-- a soak is of at least one application, and of no more than the most
abbrev pub IsWithinSoak : Mode → Type 0
IsWithinSoak (modes.Soak number) = IsWithin 1 most_soaked number
IsWithinSoak mode = Unit {0}

-- the words that name something: those that are no flags
abbrev pub names : List (List ℕ) → List (List ℕ)
names words = filter (λ word. not (is_flag word)) words

-- no word begins with `-`: there are no flags
abbrev pub are_names : List (List ℕ) → Bool
are_names words = count_by is_flag words == 0

-- how often a word stands among the words
abbrev pub times_said : List ℕ → List (List ℕ) → ℕ
times_said word words = count_by (λ one. bytes_eq one word) words

-- a word that begins with `-` and is none of the two flags that there are
abbrev pub is_unknown : List ℕ → Bool
is_unknown word = is_flag word && not (bytes_eq word (codes "--file") || bytes_eq word (codes "--moves"))

-- a word stands once at most
abbrev pub stands_once : List ℕ → List (List ℕ) → Bool
stands_once word words = nat_lt (times_said word words) 2

-- no flag is unknown, and each stands once at most; where among the words is free
abbrev pub has_flags : List (List ℕ) → Bool
has_flags words = (count_by is_unknown words == 0) && (stands_once (codes "--file") words && stands_once (codes "--moves") words)

-- whether the page of a run is to show its moves
abbrev pub shows_moves : List (List ℕ) → Bool
shows_moves words = not (times_said (codes "--moves") words == 0)

-- whether the device is to be one in a file
abbrev pub is_in_file : List (List ℕ) → Bool
is_in_file words = not (times_said (codes "--file") words == 0)

-- the word of a mode
abbrev pub word_of : ModeName → List ℕ
word_of rows.Plain = codes "plain"
word_of rows.Replay = codes "replay"
word_of rows.Threads = codes "threads"
word_of rows.Soak = codes "soak"
word_of rows.Store = codes "store"

-- the mode that a word names
abbrev pub mode_named : List ℕ → Option ModeName
mode_named word =
    if bytes_eq word (word_of rows.Plain) then Some rows.Plain
    else if bytes_eq word (word_of rows.Threads) then Some rows.Threads
    else if bytes_eq word (word_of rows.Replay) then Some rows.Replay
    else if bytes_eq word (word_of rows.Soak) then Some rows.Soak
    else if bytes_eq word (word_of rows.Store) then Some rows.Store
    else None

-- a mode writes a page that may show moves
abbrev pub has_moves : ModeName → Bool
has_moves rows.Plain = true
has_moves rows.Replay = true
has_moves rows.Threads = true
has_moves rows.Soak = false
has_moves rows.Store = false

-- what a mode asks for with these names behind it: `plain` and two a run, `threads` and two one by workers, `replay` and three one by a schedule, `soak` and a
-- number, from 1 to the most and with no zero before it, a soak, and `store` with none a listing
abbrev pub asked_with : ModeName → List (List ℕ) → Option Asked
asked_with rows.Plain (cluster ∷ script ∷ []) = Some (Run cluster script None OneThread)
asked_with rows.Replay (cluster ∷ script ∷ schedule ∷ []) = Some (Run cluster script (Some schedule) OneThread)
asked_with rows.Threads (cluster ∷ script ∷ []) = Some (Run cluster script None Workers)
asked_with rows.Soak (number ∷ []) = option_map (λ n. Soak n) (number_between 1 most_soaked number)
asked_with rows.Store [] = Some Listing
asked_with _ _ = None

-- the same of what a word names, where it is a mode, and has moves if they are to be shown
abbrev pub asked_as : Bool → Option ModeName → List (List ℕ) → Option Asked
asked_as moves None names = None
asked_as moves (Some name) names = if moves && not (has_moves name) then None else asked_with name names

-- what names ask for, of which the first is the mode's
abbrev pub asked_by : Bool → List (List ℕ) → Option Asked
asked_by moves [] = None
asked_by moves (word ∷ names) = asked_as moves (mode_named word) names

-- what the words ask for; with another flag, or one that is repeated, nothing
abbrev pub mode_of : List (List ℕ) → Option Asked
mode_of words = if has_flags words then asked_by (shows_moves words) (names words) else None

-- what may be done without threads: a run by workers is none of it
abbrev pub without_threads : Option Asked → Option Asked
without_threads (Some (Run cluster script schedule Workers)) = None
without_threads other = other

-- what the words ask for that is done without threads
abbrev pub plain_mode_of : List (List ℕ) → Option Asked
plain_mode_of words = without_threads (mode_of words)

-- how many bytes the device has over which a call is made, by what was asked for
abbrev pub device_size : Asked → ℕ
device_size (Run cluster script schedule mover) = STORE_SIZE
device_size (Soak number) = STORE_SIZE
device_size Listing = STORE_SIZE
