-- The pieces of the lines of entries.
use Rattle.std.proofs.Common.{◌≡◌, ℕ, true, false, List, [], ◌∷◌, ◌++◌, map, All, Result, Ok, Err, refl, sym, ap, subst, ◌∙◌, arith, codes, append_assoc}
use Rattle.std.specs.Fmt.{decimal}
use Rattle.std.proofs.lemmas.List.Elements.{All-weaker}
use Rattle.rm_types.specs.declared.containers.Grant.{Grant}
use Rattle.rm_types.specs.declared.containers.Held.{Held}
use Rattle.rm_types.specs.declared.entries.Entry.{Entry}
use Rattle.rm_types.specs.declared.entries.Entry.TheVariants as entries
use Rattle.rm_types.specs.declared.messages.Message.{Message}
use Rattle.rm_types.specs.declared.messages.Message.TheVariants as messages
use Rattle.rm_types.specs.declared.operations.How.{How}
use Rattle.rm_types.specs.declared.operations.How.TheVariants.{Finished}
use Rattle.rm_types.specs.declared.operations.Op.{Op}
use Rattle.rm_types.specs.declared.operations.Op.TheVariants as ops
use Rattle.rm_types.specs.declared.replies.Reply.{Reply}
use Rattle.rm_types.specs.declared.replies.Reply.TheVariants as replies
use Rattle.rm_types.specs.Lists.{is_nil}
use Rattle.rm_types.specs.Ranges.{IsOperation}
use Rattle.rm_formats.specs.IdTexts.{app_text, attempt_text, container_text}
use Rattle.rm_formats.specs.Page.{line, line_of}
use Rattle.rm_formats.specs.Wording.{spaced, bracketed, how_text, cause_text, message_words, message_text, op_words, op_text, reply_words, reply_text}
use Rattle.rm_page.specs.Ranges.{IsEntry, IsPageHeld, IsGrant, IsPageReply, MayAnswer}
use Rattle.rm_page.specs.Shown.{is_silent, listed_held, listed_grant, shown_reply}
use Rattle.rm_page.proofs.Bytes.{made_of, lacks, cut, cut_at, is_word_byte, number_word, name_word, node_word, AreWords}
use Rattle.rm_page.proofs.ReadIds.{app_word, attempt_word, container_word, read_container}
use Rattle.rm_page.proofs.ReadOperations.{cut_words, cut_with_last, cut_words_last, submission_front, submission_are}
use Rattle.rm_page.proofs.ReadLists.{ComesBack, without_last, without_last-push, bracketed_word, cause_word, read_listed_held, listed_held_comes_back, read_listed_grant, listed_grant_comes_back}
use Rattle.rm_page.proofs.ReadMessages.{ids_back}
use Rattle.rm_page.proofs.ReadReplies.{reply_pieces as pieces_of, cut_reply, replies_show}
use Rattle.rm_page.proofs.ReadEntries.{has_line}
use Rattle.rm_lines.specs.declared.errors.LineError.{LineError}
use Rattle.rm_lines.specs.declared.errors.LineError.TheVariants.{Refused, Memory}
use Rattle.rm_lines.proofs.Parts.{differ}
use Rattle.rm_page_reader.specs.Answers.{GivesLine, IsPlain, served_text}
use Rattle.rm_page_reader.specs.Pieces.{op_pieces, reply_pieces, entry_pieces}
use Rattle.rm_lines.specs.Results.{Finds, IsOf}
use Rattle.rm_lines.proofs.Splits.{cut_same}

-- a line without its line feed
pub body_is : (one other : List ℕ) → one ++ codes "\n" ≡ other ++ codes "\n" → one ≡ other
body_is one other e = sym (without_last-push one 10) ∙ ap without_last e ∙ without_last-push other 10

-- ---- operations

how_word : (how : How) → made_of is_word_byte (how_text how) ≡ true
how_word Finished = refl
how_word how = refl

pub cut_op : (op : Op) → IsOperation op → cut 32 (op_text op) ≡ op_pieces op
cut_op (ops.Epoch next stamp) is =
    cut_words (codes "epoch") ((codes "next=" ++ decimal next) ∷ (codes "stamp=" ++ decimal stamp) ∷ []) (refl, (number_word next (omega (arith, is.0.1)), (number_word stamp (omega (arith, is.1.1)), tt)))
cut_op (ops.App id submission) is =
    cut_with_last (codes "app") (app_text id ∷ (codes "user=" ++ submission.user) ∷ submission_front submission) (codes "modify=") submission.modify
    (refl, (app_word id is.0, (name_word submission.user is.1.user, submission_are submission is.1)))
cut_op (ops.Attempt id master node) is =
    cut_words (codes "attempt") (attempt_text id ∷ (codes "master=" ++ container_text master) ∷ (codes "node=" ++ node) ∷ []) (refl, (attempt_word id is.0, (container_word master is.1.container, (node_word node is.2, tt))))
cut_op (ops.AttemptEnd id how text) is =
    cut_words_last (codes "attempt-end" ∷ attempt_text id ∷ how_text how ∷ []) (codes "text=" ++ text) (refl, (attempt_word id is.0, (how_word how, tt)))
cut_op (ops.AppEnd id how text) is = cut_words_last (codes "app-end" ∷ app_text id ∷ how_text how ∷ []) (codes "text=" ++ text) (refl, (app_word id is.0, (how_word how, tt)))
cut_op (ops.Remove id) is = cut_words (codes "remove") (app_text id ∷ []) (refl, (app_word id is, tt))

pub cut_first : (word : List ℕ) (words : List (List ℕ)) → lacks 32 word ≡ true → is_nil words ≡ false → cut 32 (spaced (word ∷ words)) ≡ word ∷ cut 32 (spaced words)
cut_first word [] lack some = absurd cc
cut_first word (next ∷ words) lack some = cut_at 32 word (spaced (next ∷ words)) lack

op_some : (op : Op) → is_nil (op_words op) ≡ false
op_some (ops.Epoch next stamp) = refl
op_some op = refl

-- ---- lines that say of no message that it was answered

taken_back : (taken : List Held) → All IsPageHeld taken → All (ComesBack (λ one. container_text one.id) read_listed_held listed_held) taken
taken_back taken all = All-weaker IsPageHeld (ComesBack (λ one. container_text one.id) read_listed_held listed_held) listed_held_comes_back taken all

passed_back : (grants : List Grant) → All IsGrant grants → All (ComesBack (λ one. container_text one.id) read_listed_grant listed_grant) grants
passed_back grants all = All-weaker IsGrant (ComesBack (λ one. container_text one.id) read_listed_grant listed_grant) listed_grant_comes_back grants all

plain_words : (text : List ℕ) (word : List ℕ) (words : List (List ℕ)) → line (word ∷ words) ≡ text ++ codes "\n" → AreWords (word ∷ words) → cut 32 text ≡ word ∷ words
plain_words text word words e are = ap (cut 32) (body_is text (spaced (word ∷ words)) (sym e)) ∙ cut_words word words are

plain_op : (text word : List ℕ) (op : Op) → IsOperation op → lacks 32 word ≡ true → line (word ∷ op_words op) ≡ text ++ codes "\n" → cut 32 text ≡ word ∷ op_pieces op
plain_op text word op is lack e =
    ap (cut 32) (body_is text (spaced (word ∷ op_words op)) (sym e)) ∙ cut_first word (op_words op) lack (op_some op) ∙ ap (λ (ps : List (List ℕ)). word ∷ ps) (cut_op op is)

pub plain_line : (entry : Entry) → IsPlain entry → (text : List ℕ) → line_of entry ≡ text ++ codes "\n" → cut 32 text ≡ entry_pieces entry
plain_line (entries.Opened landed epoch stamp) is text e =
    plain_words text (codes "opened") ((codes "landed=" ++ decimal landed) ∷ (codes "epoch=" ++ decimal epoch) ∷ (codes "stamp=" ++ decimal stamp) ∷ []) e
    (refl, (number_word landed (omega (arith, is.0)), (number_word epoch (omega (arith, is.1)), (number_word stamp is.2, tt))))
plain_line (entries.Issued op) is text e = plain_op text (codes "issued") op is refl e
plain_line entries.Handed is text e = absurd is
plain_line (entries.Kept op) is text e = plain_op text (codes "kept") op is refl e
plain_line (entries.Blown passed) is text e = plain_words text (codes "blown") ((codes "passed=" ++ decimal passed) ∷ []) e (refl, (number_word passed (omega (arith, is)), tt))
plain_line (entries.Served sender message reply) is text e = absurd is
plain_line (entries.Accepted app) is text e = plain_words text (codes "accepted") (app_text app ∷ []) e (refl, (app_word app is, tt))
plain_line (entries.Queued attempt) is text e = plain_words text (codes "queued") (attempt_text attempt ∷ []) e (refl, (attempt_word attempt is, tt))
plain_line (entries.Absorbed node taken ended) is text e =
    plain_words text (codes "absorbed") (node ∷ (codes "taken=" ++ bracketed (map (λ one. container_text one.id) taken)) ∷ (codes "ended=" ++ bracketed (map container_text ended)) ∷ []) e (
      refl,
      (
        node_word node is.0,
        (
          bracketed_word (λ one. container_text one.id) read_listed_held listed_held taken (taken_back taken is.1),
          (bracketed_word container_text read_container (λ x. x) ended (ids_back ended is.2), tt),
        ),
      ),
    )
plain_line (entries.Pass node grants) is text e =
    plain_words text (codes "pass") (node ∷ (codes "grants=" ++ bracketed (map (λ one. container_text one.id) grants)) ∷ []) e
    (refl, (node_word node is.0, (bracketed_word (λ one. container_text one.id) read_listed_grant listed_grant grants (passed_back grants is.1), tt)))
plain_line (entries.Ordered container node) is text e =
    plain_words text (codes "ordered") (container_text container ∷ node ∷ []) e (refl, (container_word container is.0, (node_word node is.1, tt)))
plain_line (entries.Ended cause list) is text e =
    plain_words text (codes "ended") (cause_text cause ∷ bracketed (map container_text list) ∷ []) e
    (refl, (cause_word cause, (bracketed_word container_text read_container (λ x. x) list (ids_back list is), tt)))
plain_line entries.Settled is text e = plain_words text (codes "settled") [] e (refl, tt)
plain_line entries.Down is text e = plain_words text (codes "down") [] e (refl, tt)
plain_line (entries.Quiet lane) is text e = absurd is

pub plain_is : (entry : Entry) → IsPlain entry → IsEntry entry × (is_silent entry ≡ false)
plain_is entries.Handed is = absurd is
plain_is (entries.Quiet lane) is = absurd is
plain_is (entries.Served sender message reply) is = absurd is
plain_is entry is = (is, refl)

-- an entry with the pieces of a line has that line
pub plain_same : (entry : Entry) (text : List ℕ) → IsPlain entry → cut 32 text ≡ entry_pieces entry → line_of entry ≡ text ++ codes "\n"
plain_same entry text is e =
    let own = plain_is entry is in
    let has = has_line entry own.0 own.1 in
    has.same ∙ ap (λ (t : List ℕ). t ++ codes "\n") (cut_same 32 has.body text (plain_line entry is has.body has.same ∙ sym e))

first_word : List (List ℕ) → List ℕ
first_word [] = []
first_word (word ∷ words) = word

pub not_served : (entry : Entry) (more : List (List ℕ)) → IsPlain entry → entry_pieces entry ≡ codes "served" ∷ more → ⊥
unfolding first_word
not_served entries.Handed more is e = absurd is
not_served (entries.Quiet lane) more is e = absurd is
not_served (entries.Served sender message reply) more is e = absurd is
not_served (entries.Opened landed epoch stamp) more is e = differ (codes "opened") (codes "served") refl (ap first_word e)
not_served (entries.Issued op) more is e = differ (codes "issued") (codes "served") refl (ap first_word e)
not_served (entries.Kept op) more is e = differ (codes "kept") (codes "served") refl (ap first_word e)
not_served (entries.Blown passed) more is e = differ (codes "blown") (codes "served") refl (ap first_word e)
not_served (entries.Accepted app) more is e = differ (codes "accepted") (codes "served") refl (ap first_word e)
not_served (entries.Queued attempt) more is e = differ (codes "queued") (codes "served") refl (ap first_word e)
not_served (entries.Absorbed node taken ended) more is e = differ (codes "absorbed") (codes "served") refl (ap first_word e)
not_served (entries.Pass node grants) more is e = differ (codes "pass") (codes "served") refl (ap first_word e)
not_served (entries.Ordered container node) more is e = differ (codes "ordered") (codes "served") refl (ap first_word e)
not_served (entries.Ended cause list) more is e = differ (codes "ended") (codes "served") refl (ap first_word e)
not_served entries.Settled more is e = differ (codes "settled") (codes "served") refl (ap first_word e)
not_served entries.Down more is e = differ (codes "down") (codes "served") refl (ap first_word e)

-- what is found of a line that says of no message that it was answered has that line
pub plain_found : (entry : Entry) (text : List ℕ) (answer : Result Entry LineError) → Finds answer (IsOf entry_pieces IsPlain (cut 32 text)) → IsPlain entry → line_of entry ≡ text ++ codes "\n" → GivesLine answer entry
plain_found entry text (Ok found) of is e = plain_same found text of.fits of.same ∙ sym e
plain_found entry text (Err (Refused fault)) none is e = none entry (record { same = plain_line entry is text e; fits = is })
plain_found entry text (Err Memory) none is e = tt

-- ---- lines of answered messages

message_some : (message : Message) → is_nil (message_words message) ≡ false
message_some (messages.Client user ask) = refl
message_some message = refl

reply_some : (reply : Reply) → is_nil (reply_words reply) ≡ false
reply_some replies.NotOpen = refl
reply_some reply = refl

spaced-first : (word : List ℕ) (words : List (List ℕ)) → is_nil words ≡ false → spaced (word ∷ words) ≡ word ++ 32 ∷ spaced words
spaced-first word [] some = absurd cc
spaced-first word (next ∷ words) some = refl

spaced-append : (front back : List (List ℕ)) → is_nil front ≡ false → is_nil back ≡ false → spaced (front ++ back) ≡ spaced front ++ 32 ∷ spaced back
spaced-append [] back some more = absurd cc
spaced-append (one ∷ []) back some more = spaced-first one back more
spaced-append (one ∷ next ∷ front) back some more =
    ap (λ (text : List ℕ). one ++ 32 ∷ text) (spaced-append (next ∷ front) back refl more) ∙ sym (append_assoc one (32 ∷ spaced (next ∷ front)) (32 ∷ spaced back))

some_front : (front back : List (List ℕ)) → is_nil front ≡ false → is_nil (front ++ back) ≡ false
some_front [] back some = absurd cc
some_front (word ∷ front) back some = refl

-- the line of an answered message, behind its first word
pub served_line : (message : Message) (reply : Reply) → spaced (codes "served" ∷ (message_words message ++ codes "->" ∷ reply_words reply)) ≡ codes "served " ++ served_text message reply
served_line message reply =
    spaced-first (codes "served") (message_words message ++ codes "->" ∷ reply_words reply) (some_front (message_words message) (codes "->" ∷ reply_words reply) (message_some message))
    ∙ ap (λ (text : List ℕ). codes "served " ++ text)
    (spaced-append (message_words message) (codes "->" ∷ reply_words reply) (message_some message) refl
    ∙ ap (λ (text : List ℕ). message_text message ++ 32 ∷ text) (spaced-first (codes "->") (reply_words reply) (reply_some reply)))

pub cut_reply_text : (reply : Reply) → IsPageReply reply → cut 32 (reply_text reply) ≡ reply_pieces reply
unfolding pieces_of
cut_reply_text (replies.Report report) is = cut_reply (replies.Report report) is
cut_reply_text reply is = cut_reply reply is

-- replies with the same pieces have one text
pub same_reply_text : (one other : Reply) → IsPageReply one → IsPageReply other → reply_pieces one ≡ reply_pieces other → reply_text one ≡ reply_text other
same_reply_text one other is_one is_other e = cut_same 32 (reply_text one) (reply_text other) (cut_reply_text one is_one ∙ e ∙ sym (cut_reply_text other is_other))

to_shown : (message : Message) (reply : Reply) → MayAnswer message reply → MayAnswer message (shown_reply reply)
to_shown message (replies.Allocated id grants ended) may = tt
to_shown message reply may = may

from_shown : (message : Message) (reply : Reply) → MayAnswer message (shown_reply reply) → MayAnswer message reply
from_shown message (replies.Allocated id grants ended) may = tt
from_shown message reply may = may

-- and answer the same messages
pub same_answers : (message : Message) (one other : Reply) → IsPageReply one → IsPageReply other → reply_text one ≡ reply_text other → MayAnswer message one → MayAnswer message other
same_answers message one other is_one is_other e may =
    from_shown message other (subst (MayAnswer message) ((replies_show one other is_one is_other).0 e) (to_shown message one may))
