-- The parts of replies, by the words behind the first.
use Rattle.std.proofs.Common.{◌≡◌, ℕ, List, [], ◌∷◌, ◌++◌, map, All, false, Result, refl, ap, ◌∙◌, length}
use Rattle.std.specs.Prelude.{codes}
use Rattle.std.specs.Fmt.{decimal}
use Rattle.std.specs.Str.{bytes_eq}
use Rattle.rm_types.specs.declared.containers.Closing.{Closing}
use Rattle.rm_types.specs.declared.containers.Grant.{Grant}
use Rattle.rm_types.specs.declared.ids.AppId.{AppId}
use Rattle.rm_types.specs.declared.ids.ContainerId.{ContainerId}
use Rattle.rm_types.specs.declared.replies.Denial.{Denial}
use Rattle.rm_types.specs.declared.replies.Reply.{Reply}
use Rattle.rm_types.specs.declared.replies.Reply.TheVariants as replies
use Rattle.rm_types.specs.declared.replies.Report.{Report}
use Rattle.rm_types.specs.Ranges.{IsAppId, IsContainerId}
use Rattle.rm_formats.specs.IdTexts.{app_text, container_text}
use Rattle.rm_formats.specs.Wording.{bracketed, grant_text, closing_text, denial_words}
use Rattle.rm_page.specs.Ranges.{IsWord32, IsGrant, IsClosing, IsPageReply, IsDenial, IsPageReport}
use Rattle.rm_lines.proofs.Parts.{differ, found_as}
use Rattle.rm_page_reader.specs.Pieces.{IsBare, IsServiceWord, reply_pieces, report_pieces}
use Rattle.rm_lines.specs.Results.{Finds, IsOf}
use Rattle.rm_lines.specs.declared.errors.LineError.{LineError}
use Rattle.rm_page_reader.proofs.OpParts.{first_word, behind_first}

-- a reply of one word is that word alone
pub bare_is : (word : List ℕ) (reply : Reply) → IsBare word reply → IsOf reply_pieces IsPageReply (word ∷ []) reply
bare_is word (replies.New id) e = absurd e
bare_is word (replies.Denied denial) e = absurd e
bare_is word (replies.Report report) e = absurd e
bare_is word (replies.Took kept) e = absurd e
bare_is word (replies.Allocated id grants ended) e = absurd e
bare_is word (replies.NodeRegistered turn epoch) e = absurd e
bare_is word (replies.Beat id launch clean) e = absurd e
bare_is word reply e = record { same = ap (λ (one : List ℕ). one ∷ []) e; fits = tt }

pub bare_said : (word : List ℕ) (reply : Reply) → IsOf reply_pieces IsPageReply (word ∷ []) reply → IsBare word reply
bare_said word (replies.New id) of = absurd (let e = ap behind_first of.same in cc)
bare_said word (replies.Denied denial) of = absurd (let e = ap behind_first of.same in cc)
bare_said word (replies.Report report) of = absurd (let e = ap behind_first of.same in cc)
bare_said word (replies.Took kept) of = absurd (let e = ap behind_first of.same in cc)
bare_said word (replies.Allocated id grants ended) of = absurd (let e = ap behind_first of.same in cc)
bare_said word (replies.NodeRegistered turn epoch) of = absurd (let e = ap behind_first of.same in cc)
bare_said word (replies.Beat id launch clean) of = absurd (let e = ap behind_first of.same in cc)
bare_said word reply of = ap first_word of.same

pub bare_found : (word : List ℕ) (words left : List (List ℕ)) (answer : Result Reply LineError) → words ≡ word ∷ left → left ≡ [] → Finds answer (IsBare word) → Finds answer (IsOf reply_pieces IsPageReply words)
bare_found word words left answer first none finds =
    let whole : words ≡ word ∷ [] = first ∙ ap (λ (more : List (List ℕ)). word ∷ more) none in
    rw whole (found_as (IsBare word) (IsOf reply_pieces IsPageReply (word ∷ [])) answer (bare_is word) (bare_said word) finds)

service_bare : (word : List ℕ) (reply : Reply) → IsServiceWord word reply → IsBare word reply
service_bare word replies.NotOpen e = absurd e
service_bare word replies.Submitted e = absurd e
service_bare word replies.BadId e = absurd e
service_bare word replies.Retired e = absurd e
service_bare word replies.NoQueue e = absurd e
service_bare word replies.TooLarge e = absurd e
service_bare word replies.Full e = absurd e
service_bare word replies.Unknown e = absurd e
service_bare word replies.Killing e = absurd e
service_bare word replies.AppEnded e = absurd e
service_bare word reply e = e

bare_service : (word : List ℕ)
    → bytes_eq word (codes "NOTOPEN") ≡ false → bytes_eq word (codes "submitted") ≡ false → bytes_eq word (codes "BADID") ≡ false → bytes_eq word (codes "RETIRED") ≡ false
    → bytes_eq word (codes "NOQUEUE") ≡ false → bytes_eq word (codes "TOOLARGE") ≡ false → bytes_eq word (codes "FULL") ≡ false → bytes_eq word (codes "UNKNOWN") ≡ false
    → bytes_eq word (codes "killing") ≡ false → bytes_eq word (codes "ended") ≡ false → (reply : Reply) → IsBare word reply → IsServiceWord word reply
bare_service word notopen submitted badid retired noqueue toolarge full unknown killing ended replies.NotOpen e = absurd (differ word (codes "NOTOPEN") notopen e)
bare_service word notopen submitted badid retired noqueue toolarge full unknown killing ended replies.Submitted e = absurd (differ word (codes "submitted") submitted e)
bare_service word notopen submitted badid retired noqueue toolarge full unknown killing ended replies.BadId e = absurd (differ word (codes "BADID") badid e)
bare_service word notopen submitted badid retired noqueue toolarge full unknown killing ended replies.Retired e = absurd (differ word (codes "RETIRED") retired e)
bare_service word notopen submitted badid retired noqueue toolarge full unknown killing ended replies.NoQueue e = absurd (differ word (codes "NOQUEUE") noqueue e)
bare_service word notopen submitted badid retired noqueue toolarge full unknown killing ended replies.TooLarge e = absurd (differ word (codes "TOOLARGE") toolarge e)
bare_service word notopen submitted badid retired noqueue toolarge full unknown killing ended replies.Full e = absurd (differ word (codes "FULL") full e)
bare_service word notopen submitted badid retired noqueue toolarge full unknown killing ended replies.Unknown e = absurd (differ word (codes "UNKNOWN") unknown e)
bare_service word notopen submitted badid retired noqueue toolarge full unknown killing ended replies.Killing e = absurd (differ word (codes "killing") killing e)
bare_service word notopen submitted badid retired noqueue toolarge full unknown killing ended replies.AppEnded e = absurd (differ word (codes "ended") ended e)
bare_service word notopen submitted badid retired noqueue toolarge full unknown killing ended reply e = e

-- a word that is none of those to a client
pub to_service : (word : List ℕ) (answer : Result Reply LineError) → Finds answer (IsServiceWord word)
    → bytes_eq word (codes "NOTOPEN") ≡ false → bytes_eq word (codes "submitted") ≡ false → bytes_eq word (codes "BADID") ≡ false → bytes_eq word (codes "RETIRED") ≡ false
    → bytes_eq word (codes "NOQUEUE") ≡ false → bytes_eq word (codes "TOOLARGE") ≡ false → bytes_eq word (codes "FULL") ≡ false → bytes_eq word (codes "UNKNOWN") ≡ false
    → bytes_eq word (codes "killing") ≡ false → bytes_eq word (codes "ended") ≡ false → Finds answer (IsBare word)
to_service word answer finds notopen submitted badid retired noqueue toolarge full unknown killing ended =
    found_as (IsServiceWord word) (IsBare word) answer (service_bare word) (bare_service word notopen submitted badid retired noqueue toolarge full unknown killing ended) finds

-- a word that is none of those
pub no_service : (word : List ℕ)
    → bytes_eq word (codes "registered") ≡ false → bytes_eq word (codes "ALREADY") ≡ false → bytes_eq word (codes "GONE") ≡ false → bytes_eq word (codes "RESYNC") ≡ false
    → bytes_eq word (codes "WRONGID") ≡ false → bytes_eq word (codes "NOTREGISTERED") ≡ false → bytes_eq word (codes "finishing") ≡ false → bytes_eq word (codes "finished") ≡ false
    → bytes_eq word (codes "ok") ≡ false → (reply : Reply) → IsServiceWord word reply → ⊥
no_service word registered already gone resync wrongid notregistered finishing finished ok replies.MasterRegistered e = differ word (codes "registered") registered e
no_service word registered already gone resync wrongid notregistered finishing finished ok replies.Already e = differ word (codes "ALREADY") already e
no_service word registered already gone resync wrongid notregistered finishing finished ok replies.Gone e = differ word (codes "GONE") gone e
no_service word registered already gone resync wrongid notregistered finishing finished ok replies.Resync e = differ word (codes "RESYNC") resync e
no_service word registered already gone resync wrongid notregistered finishing finished ok replies.WrongId e = differ word (codes "WRONGID") wrongid e
no_service word registered already gone resync wrongid notregistered finishing finished ok replies.NotRegistered e = differ word (codes "NOTREGISTERED") notregistered e
no_service word registered already gone resync wrongid notregistered finishing finished ok replies.Finishing e = differ word (codes "finishing") finishing e
no_service word registered already gone resync wrongid notregistered finishing finished ok replies.Finished e = differ word (codes "finished") finished e
no_service word registered already gone resync wrongid notregistered finishing finished ok replies.Ok e = differ word (codes "ok") ok e
no_service word registered already gone resync wrongid notregistered finishing finished ok reply e = absurd e

-- a reply of more words begins with one of these
pub no_reply : (word : List ℕ) (words : List (List ℕ)) → (words ≡ [] → ⊥) → bytes_eq word (codes "new") ≡ false → bytes_eq word (codes "DENIED") ≡ false → bytes_eq word (codes "report") ≡ false
    → bytes_eq word (codes "allocated") ≡ false → bytes_eq word (codes "registered") ≡ false → bytes_eq word (codes "beat") ≡ false → (reply : Reply) → IsOf reply_pieces IsPageReply (word ∷ words) reply → ⊥
no_reply word words more new denied report allocated registered beat (replies.New id) of = differ word (codes "new") new (ap first_word of.same)
no_reply word words more new denied report allocated registered beat (replies.Denied denial) of = differ word (codes "DENIED") denied (ap first_word of.same)
no_reply word words more new denied report allocated registered beat (replies.Report one) of = differ word (codes "report") report (ap first_word of.same)
no_reply word words more new denied report allocated registered beat (replies.Allocated id grants ended) of = differ word (codes "allocated") allocated (ap first_word of.same)
no_reply word words more new denied report allocated registered beat (replies.Took kept) of = differ word (codes "registered") registered (ap first_word of.same)
no_reply word words more new denied report allocated registered beat (replies.NodeRegistered turn epoch) of = differ word (codes "registered") registered (ap first_word of.same)
no_reply word words more new denied report allocated registered beat (replies.Beat id launch clean) of = differ word (codes "beat") beat (ap first_word of.same)
no_reply word words more new denied report allocated registered beat reply of = more (ap behind_first of.same)

-- a new application
pub record IsNew (words : List (List ℕ)) : Type 0 where
  pub id : AppId
  pub same : words ≡ app_text id ∷ []
  pub id_is : IsAppId id

pub new_parts : (words : List (List ℕ)) (reply : Reply) → IsOf reply_pieces IsPageReply (codes "new" ∷ words) reply → IsNew words
new_parts words (replies.New id) of = record { id = id; same = ap behind_first of.same; id_is = of.fits }
new_parts words reply of = absurd (differ (codes "new") (first_word (reply_pieces reply)) refl (ap first_word of.same))

-- what was allocated
pub record IsAllocated (words : List (List ℕ)) : Type 0 where
  pub id : ℕ
  pub grants : List Grant
  pub ended : List Closing
  pub same : words ≡ (codes "id=" ++ decimal id) ∷ (codes "grants=" ++ bracketed (map grant_text grants)) ∷ (codes "ended=" ++ bracketed (map closing_text ended)) ∷ []
  pub id_is : IsWord32 id
  pub grants_are : All IsGrant grants
  pub ended_are : All IsClosing ended

pub allocated_parts : (words : List (List ℕ)) (reply : Reply) → IsOf reply_pieces IsPageReply (codes "allocated" ∷ words) reply → IsAllocated words
allocated_parts words (replies.Allocated id grants ended) of = record { id = id; grants = grants; ended = ended; same = ap behind_first of.same; id_is = of.fits.0; grants_are = of.fits.1; ended_are = of.fits.2 }
allocated_parts words reply of = absurd (differ (codes "allocated") (first_word (reply_pieces reply)) refl (ap first_word of.same))

-- the answer to a beat
pub record IsBeat (words : List (List ℕ)) : Type 0 where
  pub id : ℕ
  pub launch : List ContainerId
  pub clean : List ContainerId
  pub same : words ≡ (codes "id=" ++ decimal id) ∷ (codes "launch=" ++ bracketed (map container_text launch)) ∷ (codes "clean=" ++ bracketed (map container_text clean)) ∷ []
  pub id_is : IsWord32 id
  pub launch_are : All IsContainerId launch
  pub clean_are : All IsContainerId clean

pub beat_parts : (words : List (List ℕ)) (reply : Reply) → IsOf reply_pieces IsPageReply (codes "beat" ∷ words) reply → IsBeat words
beat_parts words (replies.Beat id launch clean) of = record { id = id; launch = launch; clean = clean; same = ap behind_first of.same; id_is = of.fits.0; launch_are = of.fits.1; clean_are = of.fits.2 }
beat_parts words reply of = absurd (differ (codes "beat") (first_word (reply_pieces reply)) refl (ap first_word of.same))

-- a node that registered; a master's registration says no more than its first word, or one word behind it
pub record IsRegistered (words : List (List ℕ)) : Type 0 where
  pub turn : ℕ
  pub epoch : ℕ
  pub same : words ≡ (codes "turn=" ++ decimal turn) ∷ (codes "epoch=" ++ decimal epoch) ∷ []
  pub turn_is : IsWord32 turn
  pub epoch_is : IsWord32 epoch

pub registered_parts : (words : List (List ℕ)) → (words ≡ [] → ⊥) → (length words ≡ 1 → ⊥) → (reply : Reply) → IsOf reply_pieces IsPageReply (codes "registered" ∷ words) reply → IsRegistered words
registered_parts words more long replies.MasterRegistered of = absurd (more (ap behind_first of.same))
registered_parts words more long (replies.Took kept) of = absurd (long (ap (λ (all : List (List ℕ)). length (behind_first all)) of.same))
registered_parts words more long (replies.NodeRegistered turn epoch) of = record { turn = turn; epoch = epoch; same = ap behind_first of.same; turn_is = of.fits.0; epoch_is = of.fits.1 }
registered_parts words more long reply of = absurd (differ (codes "registered") (first_word (reply_pieces reply)) refl (ap first_word of.same))

-- a master that registered and is handed containers, which are the one word behind the first
pub record IsTook (words : List (List ℕ)) : Type 0 where
  pub kept : List Grant
  pub same : words ≡ (codes "kept=" ++ bracketed (map grant_text kept)) ∷ []
  pub kept_are : All IsGrant kept

pub took_parts : (words : List (List ℕ)) → length words ≡ 1 → (reply : Reply) → IsOf reply_pieces IsPageReply (codes "registered" ∷ words) reply → IsTook words
took_parts words one replies.MasterRegistered of = absurd (let e = ap (λ (all : List (List ℕ)). length (behind_first all)) of.same in cc)
took_parts words one (replies.Took kept) of = record { kept = kept; same = ap behind_first of.same; kept_are = of.fits }
took_parts words one (replies.NodeRegistered turn epoch) of = absurd (let e = ap (λ (all : List (List ℕ)). length (behind_first all)) of.same in cc)
took_parts words one reply of = absurd (differ (codes "registered") (first_word (reply_pieces reply)) refl (ap first_word of.same))

-- a right that wasn't there, and a report
pub denied_parts : (words : List (List ℕ)) (reply : Reply) → IsOf reply_pieces IsPageReply (codes "DENIED" ∷ words) reply → (denial : Denial) × IsOf denial_words IsDenial (codes "DENIED" ∷ words) denial
denied_parts words (replies.Denied denial) of = (denial, record { same = of.same; fits = of.fits })
denied_parts words reply of = absurd (differ (codes "DENIED") (first_word (reply_pieces reply)) refl (ap first_word of.same))

pub told_parts : (words : List (List ℕ)) (reply : Reply) → IsOf reply_pieces IsPageReply (codes "report" ∷ words) reply → (report : Report) × IsOf report_pieces IsPageReport words report
told_parts words (replies.Report report) of = (report, record { same = ap behind_first of.same; fits = of.fits })
told_parts words reply of = absurd (differ (codes "report") (first_word (reply_pieces reply)) refl (ap first_word of.same))
