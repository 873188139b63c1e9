-- The texts of a page cut at their spaces: a text in which spaces may stand comes in pieces, and any other word is one.
use Rattle.std.specs.Prelude.{◌≡◌, ℕ, List, [], ◌∷◌, ◌++◌, map, codes}
use Rattle.std.specs.Fmt.{decimal}
use Rattle.rm_types.specs.declared.entries.Entry.{Entry}
use Rattle.rm_types.specs.declared.entries.Entry.TheVariants as entries
use Rattle.rm_types.specs.declared.operations.Op.{Op}
use Rattle.rm_types.specs.declared.operations.Op.TheVariants as ops
use Rattle.rm_types.specs.declared.replies.Reply.{Reply}
use Rattle.rm_types.specs.declared.replies.Reply.TheVariants as replies
use Rattle.rm_types.specs.declared.replies.Report.{Report}
use Rattle.rm_formats.specs.IdTexts.{app_text, attempt_text, container_text}
use Rattle.rm_formats.specs.Wording.{bracketed, how_text, state_text, cause_text, op_words, reply_words}
use Rattle.rm_page.proofs.Bytes.{cut}
use Rattle.rm_page.proofs.ReadOperations.{submission_pieces}

-- the pieces of an operation's text
abbrev pub op_pieces : Op → List (List ℕ)
op_pieces (ops.App id submission) = codes "app" ∷ app_text id ∷ (codes "user=" ++ submission.user) ∷ submission_pieces submission
op_pieces (ops.AttemptEnd id how text) = codes "attempt-end" ∷ attempt_text id ∷ how_text how ∷ cut 32 (codes "text=" ++ text)
op_pieces (ops.AppEnd id how text) = codes "app-end" ∷ app_text id ∷ how_text how ∷ cut 32 (codes "text=" ++ text)
op_pieces op = op_words op

-- the pieces of a report, behind its first word
abbrev pub report_pieces : Report → List (List ℕ)
report_pieces report =
    (codes "state=" ++ state_text report.state)
    ∷ (codes "user=" ++ report.user)
    ∷ (codes "queue=" ++ report.queue)
    ∷ (codes "name=" ++ report.name)
    ∷ (codes "attempts=" ++ decimal report.attempts)
    ∷ (codes "live=" ++ decimal report.live)
    ∷ cut 32 (codes "text=" ++ report.text)

-- the pieces of a reply's text
abbrev pub reply_pieces : Reply → List (List ℕ)
reply_pieces (replies.Report report) = codes "report" ∷ report_pieces report
reply_pieces reply = reply_words reply

-- the reply's text is this word, and it answers a master or a node
abbrev pub IsServiceWord : List ℕ → Reply → Type 0
IsServiceWord word replies.MasterRegistered = word ≡ codes "registered"
IsServiceWord word replies.Already = word ≡ codes "ALREADY"
IsServiceWord word replies.Gone = word ≡ codes "GONE"
IsServiceWord word replies.Resync = word ≡ codes "RESYNC"
IsServiceWord word replies.WrongId = word ≡ codes "WRONGID"
IsServiceWord word replies.NotRegistered = word ≡ codes "NOTREGISTERED"
IsServiceWord word replies.Finishing = word ≡ codes "finishing"
IsServiceWord word replies.Finished = word ≡ codes "finished"
IsServiceWord word replies.Ok = word ≡ codes "ok"
IsServiceWord word reply = ⊥

-- the reply's text is this word
abbrev pub IsBare : List ℕ → Reply → Type 0
IsBare word replies.NotOpen = word ≡ codes "NOTOPEN"
IsBare word replies.Submitted = word ≡ codes "submitted"
IsBare word replies.BadId = word ≡ codes "BADID"
IsBare word replies.Retired = word ≡ codes "RETIRED"
IsBare word replies.NoQueue = word ≡ codes "NOQUEUE"
IsBare word replies.TooLarge = word ≡ codes "TOOLARGE"
IsBare word replies.Full = word ≡ codes "FULL"
IsBare word replies.Unknown = word ≡ codes "UNKNOWN"
IsBare word replies.Killing = word ≡ codes "killing"
IsBare word replies.AppEnded = word ≡ codes "ended"
IsBare word reply = IsServiceWord word reply

-- the pieces of an entry's line; an entry with no line has none, and those of an answered message are told elsewhere
abbrev pub entry_pieces : Entry → List (List ℕ)
entry_pieces (entries.Opened landed epoch stamp) =
    codes "opened" ∷ (codes "landed=" ++ decimal landed) ∷ (codes "epoch=" ++ decimal epoch) ∷ (codes "stamp=" ++ decimal stamp) ∷ []
entry_pieces (entries.Issued op) = codes "issued" ∷ op_pieces op
entry_pieces (entries.Kept op) = codes "kept" ∷ op_pieces op
entry_pieces (entries.Blown passed) = codes "blown" ∷ (codes "passed=" ++ decimal passed) ∷ []
entry_pieces (entries.Accepted app) = codes "accepted" ∷ app_text app ∷ []
entry_pieces (entries.Queued attempt) = codes "queued" ∷ attempt_text attempt ∷ []
entry_pieces (entries.Absorbed node taken ended) =
    codes "absorbed"
    ∷ node
    ∷ (codes "taken=" ++ bracketed (map (λ held. container_text held.id) taken))
    ∷ (codes "ended=" ++ bracketed (map container_text ended))
    ∷ []
entry_pieces (entries.Pass node grants) = codes "pass" ∷ node ∷ (codes "grants=" ++ bracketed (map (λ grant. container_text grant.id) grants)) ∷ []
entry_pieces (entries.Ordered container node) = codes "ordered" ∷ container_text container ∷ node ∷ []
entry_pieces (entries.Ended cause list) = codes "ended" ∷ cause_text cause ∷ bracketed (map container_text list) ∷ []
entry_pieces entries.Settled = codes "settled" ∷ []
entry_pieces entries.Down = codes "down" ∷ []
entry_pieces entry = []
