-- What `summary` tells of a page. This project's own.
use Rattle.std.specs.Prelude.{◌≡◌, ℕ, ◌+◌, ◌-◌, List, [], ◌∷◌, ◌++◌, Bool, false, if◌then◌else◌, Option, Some, None, length, sum_by, count_by, max, nat_le, codes}
use Rattle.std.specs.List.{list_any}
use Rattle.std.specs.Str.{bytes_eq}
use Rattle.std.specs.Fmt.{decimal}
use Rattle.rm_types.specs.declared.entries.Entry.{Entry}
use Rattle.rm_types.specs.declared.entries.Entry.TheVariants as entries
use Rattle.rm_types.specs.declared.messages.MasterAsk.TheVariants as masters
use Rattle.rm_types.specs.declared.messages.Message.{Message}
use Rattle.rm_types.specs.declared.messages.Message.TheVariants as messages
use Rattle.rm_types.specs.declared.messages.NodeAsk.TheVariants as nodes
use Rattle.rm_types.specs.declared.replies.Reply.{Reply}
use Rattle.rm_types.specs.declared.replies.Reply.TheVariants as replies
use Rattle.rm_page_reader.specs.declared.pages.Page.{Page}
use Rattle.rm_page_reader.specs.declared.pages.Page.TheVariants.{Log, Soak}
use Rattle.rm_page_reader.specs.declared.soaks.SoakLine.{SoakLine}
use Rattle.rm_page_reader.specs.Told.{Tells}
use Rattle.rm_report.specs.declared.lives.LifeEnd.{LifeEnd}
use Rattle.rm_report.specs.declared.lives.LifeEnd.TheVariants.{AtCrash, AtRefusal, AtPageEnd}
use Rattle.rm_report.specs.declared.tallies.TheConstants.{MOST_NAMES}
use Rattle.rm_report.specs.Counting.{life_count, served_count, passes_in, taken_count, issued_in, kept_in, kept_bytes_in, jobs_in, finished_count, failed_in, killed_in, removed_in, done_in, released_in, lost_count, over_in, gone_in}
use Rattle.rm_types.specs.Entries.{granted_count}

-- ---- lives

-- how the life that goes on before these entries ends: the device refused a call, the manager went down, or neither by the
-- end of the page
abbrev pub end_of : List Entry → LifeEnd
end_of [] = AtPageEnd
end_of (entries.Opened landed epoch stamp ∷ rest) = AtPageEnd
end_of (entries.Blown passed ∷ rest) = AtRefusal passed
end_of (entries.Down ∷ rest) = AtCrash
end_of (entry ∷ rest) = end_of rest

-- how a life ended, at the end of its line
abbrev pub life_end_text : LifeEnd → List ℕ
life_end_text AtCrash = codes ", went down\n"
life_end_text (AtRefusal passed) = codes ", kept no more after " ++ decimal passed ++ codes " device calls\n"
life_end_text AtPageEnd = codes ", open at the end of the page\n"

-- a life: its number, epoch, stamp and what had landed, and how it ended
abbrev pub life_text : ℕ → ℕ → ℕ → ℕ → LifeEnd → List ℕ
life_text number landed epoch stamp ending =
    codes "life " ++ decimal number ++ codes ": epoch " ++ decimal epoch ++ codes ", stamp " ++ decimal stamp ++ codes ", landed " ++ decimal landed ++ life_end_text ending

-- each life, with so many before them
abbrev pub lives_text : ℕ → List Entry → List ℕ
lives_text before [] = []
lives_text before (entries.Opened landed epoch stamp ∷ rest) = life_text (before + 1) landed epoch stamp (end_of rest) ++ lives_text (before + 1) rest
lives_text before (entry ∷ rest) = lives_text before rest

-- ---- names and how often they come

-- both have a name, and it is the same
abbrev pub is_same_name : Option (List ℕ) → Option (List ℕ) → Bool
is_same_name None other = false
is_same_name (Some name) None = false
is_same_name (Some name) (Some other) = bytes_eq name other

-- a name and how often it comes
abbrev pub counted : List ℕ → ℕ → List ℕ
counted name count = codes " " ++ decimal count ++ codes " " ++ name

-- how often the name comes among the entries
unfoldable pub times : (Entry → Option (List ℕ)) → Option (List ℕ) → List Entry → ℕ
times name_of name es = count_by (λ other. is_same_name name (name_of other)) es

-- what the entry adds to a tally: its name with how often it comes from here on, where it is none of those before, and no more than
-- so many names
unfoldable pub tally_step : List (List ℕ) → Option (List ℕ) → ℕ → List ℕ
tally_step before None count = []
tally_step before (Some name) count =
    if list_any (λ other. bytes_eq other name) before then [] else if nat_le MOST_NAMES (length before) then [] else counted name count

-- the names that were told, with the entry's
unfoldable pub told_with : List (List ℕ) → Option (List ℕ) → List (List ℕ)
told_with before None = before
told_with before (Some name) =
    if list_any (λ other. bytes_eq other name) before then before else if nat_le MOST_NAMES (length before) then before else before ++ name ∷ []

-- each name of the entries, in the order in which they come first, and how often it comes
abbrev pub tally : (Entry → Option (List ℕ)) → List (List ℕ) → List Entry → List ℕ
tally name_of before [] = []
tally name_of before (entry ∷ rest) =
    tally_step before (name_of entry) (times name_of (name_of entry) (entry ∷ rest))
    ++ tally name_of (told_with before (name_of entry)) rest

-- the word with which a reply begins
abbrev pub reply_name : Reply → List ℕ
reply_name replies.NotOpen = codes "NOTOPEN"
reply_name (replies.New id) = codes "new"
reply_name replies.Submitted = codes "submitted"
reply_name replies.BadId = codes "BADID"
reply_name replies.Retired = codes "RETIRED"
reply_name replies.NoQueue = codes "NOQUEUE"
reply_name (replies.Denied denial) = codes "DENIED"
reply_name replies.TooLarge = codes "TOOLARGE"
reply_name replies.Full = codes "FULL"
reply_name replies.Unknown = codes "UNKNOWN"
reply_name (replies.Report report) = codes "report"
reply_name replies.Killing = codes "killing"
reply_name replies.AppEnded = codes "ended"
reply_name replies.MasterRegistered = codes "registered"
reply_name (replies.Took kept) = codes "registered"
reply_name replies.Already = codes "ALREADY"
reply_name replies.Gone = codes "GONE"
reply_name replies.Resync = codes "RESYNC"
reply_name replies.WrongId = codes "WRONGID"
reply_name replies.NotRegistered = codes "NOTREGISTERED"
reply_name replies.Finishing = codes "finishing"
reply_name replies.Finished = codes "finished"
reply_name (replies.Allocated id grants ended) = codes "allocated"
reply_name (replies.NodeRegistered turn epoch) = codes "registered"
reply_name (replies.Beat id launch clean) = codes "beat"
reply_name replies.Ok = codes "ok"

-- the word of the reply with which the entry answers
abbrev pub answer_in : Entry → Option (List ℕ)
answer_in (entries.Served sender message reply) = Some (reply_name reply)
answer_in entry = None

-- the queue of the right that wasn't there
abbrev pub denied_by : Reply → Option (List ℕ)
denied_by (replies.Denied denial) = Some denial.queue
denied_by reply = None

-- the queue of the right that wasn't there where the entry answers a denial
abbrev pub denial_in : Entry → Option (List ℕ)
denial_in (entries.Served sender message reply) = denied_by reply
denial_in entry = None

-- ---- the longest list

-- the longest list of a message
abbrev pub longest_said : Message → ℕ
longest_said (messages.Master attempt (masters.Allocate id asks release)) = max (length asks) (length release)
longest_said (messages.Node node (nodes.Register turn capability running)) = length running
longest_said (messages.Node node (nodes.Beat id running done)) = max (length running) (length done)
longest_said message = 0

-- and of a reply
abbrev pub longest_answered : Reply → ℕ
longest_answered (replies.Denied denial) = length denial.lists
longest_answered (replies.Took kept) = length kept
longest_answered (replies.Allocated id grants ended) = max (length grants) (length ended)
longest_answered (replies.Beat id launch clean) = max (length launch) (length clean)
longest_answered reply = 0

-- and of an entry's line
abbrev pub longest_in : Entry → ℕ
longest_in (entries.Served sender message reply) = max (longest_said message) (longest_answered reply)
longest_in (entries.Absorbed node taken ended) = max (length taken) (length ended)
longest_in (entries.Pass node grants) = length grants
longest_in (entries.Ended cause list) = length list
longest_in entry = 0

-- the longest of all entries' lines
abbrev pub longest : List Entry → ℕ
longest [] = 0
longest (entry ∷ rest) = max (longest_in entry) (longest rest)

-- ---- the whole

-- the lines, and whether the moves are shown
abbrev pub head_text : List Entry → Bool → List ℕ
head_text es moves =
    decimal (length es) ++ codes " lines, " ++ decimal (sum_by life_count es) ++ codes " lives" ++ (if moves then codes ", with the moves" else []) ++ codes "\n"

-- the jobs whose submission is kept, and how they ended; the others live, unless they were submitted before the page began
abbrev pub jobs_text : List Entry → List ℕ
jobs_text es =
    codes "jobs: " ++ decimal (sum_by jobs_in es) ++ codes " kept, " ++ decimal (sum_by finished_count es) ++ codes " FINISHED, " ++ decimal (sum_by failed_in es)
    ++ codes " FAILED, " ++ decimal (sum_by killed_in es) ++ codes " KILLED, "
    ++ decimal (sum_by jobs_in es - sum_by finished_count es - sum_by failed_in es - sum_by killed_in es) ++ codes " live, " ++ decimal (sum_by removed_in es) ++ codes " removed\n"

-- the messages that were answered, by the word of the reply; and the denials, by queue
abbrev pub replies_text : List Entry → List ℕ
replies_text es =
    codes "replies: " ++ decimal (sum_by served_count es) ++ codes ":" ++ tally answer_in [] es ++ codes "\ndenials:" ++ tally denial_in [] es ++ codes "\n"

-- the containers that ended, by their cause
abbrev pub endings_text : List Entry → List ℕ
endings_text es =
    codes "endings: " ++ decimal (sum_by done_in es) ++ codes " done, " ++ decimal (sum_by released_in es) ++ codes " released, " ++ decimal (sum_by lost_count es)
    ++ codes " node, " ++ decimal (sum_by over_in es) ++ codes " attempt, " ++ decimal (sum_by gone_in es) ++ codes " gone\n"

-- the containers that were granted, and those that were taken in again; and the longest list of a line
abbrev pub grants_text : List Entry → List ℕ
grants_text es =
    codes "containers: " ++ decimal (sum_by granted_count es) ++ codes " granted in " ++ decimal (sum_by passes_in es) ++ codes " passes, " ++ decimal (sum_by taken_count es)
    ++ codes " taken in again\n"

-- the longest list, and the operations
abbrev pub store_text : List Entry → List ℕ
store_text es =
    codes "longest list: " ++ decimal (longest es) ++ codes "\noperations: " ++ decimal (sum_by issued_in es) ++ codes " issued, " ++ decimal (sum_by kept_in es)
    ++ codes " kept of " ++ decimal (sum_by kept_bytes_in es) ++ codes " bytes\n"

-- the summary of a log, told with moves or without
abbrev pub log_text : List Entry → Bool → List ℕ
log_text es moves =
    head_text es moves ++ lives_text 0 es ++ jobs_text es ++ replies_text es ++ grants_text es ++ endings_text es ++ store_text es

-- the summary of a soak
abbrev pub soak_summary : SoakLine → List ℕ
soak_summary soak =
    codes "a soak of " ++ decimal soak.apps ++ codes " applications\nlives: " ++ decimal soak.lives ++ codes "\nmessages: " ++ decimal soak.served ++ codes " served\ncontainers: "
    ++ decimal soak.grants ++ codes " granted\njobs: " ++ decimal soak.finished ++ codes " FINISHED\noperations: " ++ decimal soak.kept ++ codes " kept\n"

-- the summary of what a page tells
abbrev pub summary_text : Page → List ℕ
summary_text (Log es moves) = log_text es moves
summary_text (Soak soak) = soak_summary soak

-- the report is of this page
pub record IsSummary (bytes report : List ℕ) : Type 0 where
  pub page : Page
  pub page_is : Tells bytes page
  pub same : report ≡ summary_text page
