-- The entry that a line tells.
use Rattle.std.proofs.Common.{◌≡◌, ℕ, true, false, List, [], ◌∷◌, ◌++◌, Result, Ok, Err, refl, sym, ap, subst, ◌∙◌, codes, inl, inr, ◌⊎◌}
use Rattle.std.specs.Prelude.{IsErrAnd}
use Rattle.std.specs.Str.{bytes_eq}
use Rattle.rm_types.specs.declared.entries.Entry.{Entry}
use Rattle.rm_types.specs.declared.entries.Entry.TheVariants as entries
use Rattle.rm_types.specs.declared.messages.Message.{Message}
use Rattle.rm_types.specs.declared.replies.Reply.{Reply}
use Rattle.rm_types.proofs.TestLemmas.{same_text}
use Rattle.rm_formats.specs.Page.{line_of}
use Rattle.rm_formats.specs.Wording.{spaced, message_words, message_text, reply_words, reply_text}
use Rattle.rm_page.specs.Ranges.{IsPageReply, IsPageServed, MayAnswer}
use Rattle.rm_page.proofs.Bytes.{cut, cut_at}
use Rattle.rm_lines.proofs.Parts.{differ}
use Rattle.rm_page_reader.specs.Answers.{GivesLine, HasSender, IsPlain, IsToldEntry, served_entry, served_text}
use Rattle.rm_page_reader.specs.Pieces.{entry_pieces, reply_pieces}
use Rattle.rm_lines.specs.Results.{Finds, FindsNone, IsOf}
use Rattle.rm_lines.proofs.Splits.{behind_same, cut_same}
use Rattle.rm_page_reader.proofs.Lines.{body_is, plain_line, plain_is, not_served, plain_found, served_line, cut_reply_text, same_answers}
use Rattle.rm_lines.specs.declared.errors.LineError.{LineError}
use Rattle.rm_lines.specs.declared.errors.LineError.TheVariants.{Refused, Memory}
use Rattle.rm_page_reader.specs.Told.{IsOfScript, IsManagerEntry}

-- an answered message's entry has the line of this message and this reply
record IsAnswered (entry : Entry) : Type 0 where
  pub message : Message
  pub reply : Reply
  pub scripted : IsOfScript message
  pub served : IsPageServed message reply
  pub same : line_of entry ≡ line_of (served_entry message reply)

no_end : (text : List ℕ) → [] ≡ text ++ codes "\n" → ⊥
no_end [] e = cc
no_end (byte ∷ text) e = cc

kind_of : (entry : Entry) → IsManagerEntry entry → (text : List ℕ) → line_of entry ≡ text ++ codes "\n" → IsPlain entry ⊎ IsAnswered entry
kind_of (entries.Served sender message reply) is text e = inr (record { message = message; reply = reply; scripted = is.manager.0; served = is.ranges; same = refl })
kind_of entries.Handed is text e = absurd (no_end text e)
kind_of (entries.Quiet lane) is text e = absurd (no_end text e)
kind_of entry is text e = inl is.ranges

answered_text : (entry : Entry) (is : IsAnswered entry) (text : List ℕ) → line_of entry ≡ text ++ codes "\n" → text ≡ codes "served " ++ served_text is.message is.reply
answered_text entry is text e =
    body_is text (spaced (codes "served" ∷ (message_words is.message ++ codes "->" ∷ reply_words is.reply))) (sym (sym is.same ∙ e)) ∙ served_line is.message is.reply

gives_line : (answer : Result Entry LineError) (one other : Entry) → line_of other ≡ line_of one → GivesLine answer one → GivesLine answer other
gives_line (Ok found) one other e gives = gives ∙ sym e
gives_line (Err error) one other e gives = gives

-- a line whose first word is `served`
pub served_found : (text word rest : List ℕ) (more : List (List ℕ)) (answer : Result Entry LineError) → cut 32 text ≡ word ∷ more → bytes_eq word (codes "served") ≡ true → more ≡ cut 32 rest
    → ((message : Message) (reply : Reply) → IsOfScript message → IsPageServed message reply → rest ≡ served_text message reply → GivesLine answer (served_entry message reply))
    → (entry : Entry) → IsManagerEntry entry → line_of entry ≡ text ++ codes "\n" → GivesLine answer entry
served_found text word rest more answer first is_served behind gives entry is e = by_kind (kind_of entry is text e)
  where
    pieces : cut 32 text ≡ codes "served" ∷ cut 32 rest
    pieces = first ∙ ap (λ (w : List ℕ). w ∷ more) (same_text word (codes "served") is_served) ∙ ap (λ (ps : List (List ℕ)). codes "served" ∷ ps) behind

    whole : text ≡ codes "served " ++ rest
    whole = cut_same 32 text (codes "served " ++ rest) (pieces ∙ sym (cut_at 32 (codes "served") rest refl))

    by_kind : IsPlain entry ⊎ IsAnswered entry → GivesLine answer entry
    by_kind (inl plain) = absurd (not_served entry (cut 32 rest) plain (sym (plain_line entry plain text e) ∙ pieces))
    by_kind (inr is_answered) =
        gives_line answer (served_entry is_answered.message is_answered.reply) entry is_answered.same
        (gives is_answered.message is_answered.reply is_answered.scripted is_answered.served
        (behind_same (codes "served ") rest (served_text is_answered.message is_answered.reply) (sym whole ∙ answered_text entry is_answered text e)))

-- a line of that word alone
pub lone_served : (text word : List ℕ) (more : List (List ℕ)) → cut 32 text ≡ word ∷ more → bytes_eq word (codes "served") ≡ true → more ≡ [] → (entry : Entry) → IsManagerEntry entry → line_of entry ≡ text ++ codes "\n" → ⊥
lone_served text word more first is_served behind entry is e = by_kind (kind_of entry is text e)
  where
    pieces : cut 32 text ≡ codes "served" ∷ []
    pieces = first ∙ ap (λ (w : List ℕ). w ∷ more) (same_text word (codes "served") is_served) ∙ ap (λ (ps : List (List ℕ)). codes "served" ∷ ps) behind

    by_kind : IsPlain entry ⊎ IsAnswered entry → ⊥
    by_kind (inl plain) = not_served entry [] plain (sym (plain_line entry plain text e) ∙ pieces)
    by_kind (inr is_answered) =
        let whole : text ≡ codes "served" = cut_same 32 text (codes "served") pieces in
        let both = sym whole ∙ answered_text entry is_answered text e in
        cc

-- a line whose first word is another
pub other_found : (text word : List ℕ) (more : List (List ℕ)) (answer : Result Entry LineError) → cut 32 text ≡ word ∷ more → bytes_eq word (codes "served") ≡ false → Finds answer (IsOf entry_pieces IsPlain (word ∷ more))
    → (entry : Entry) → IsManagerEntry entry → line_of entry ≡ text ++ codes "\n" → GivesLine answer entry
other_found text word more answer first other finds entry is e = by_kind (kind_of entry is text e)
  where
    by_kind : IsPlain entry ⊎ IsAnswered entry → GivesLine answer entry
    by_kind (inl plain) = plain_found entry text answer (rw first finds) plain e
    by_kind (inr is_answered) =
        let whole = answered_text entry is_answered text e in
        let pieces = sym first ∙ ap (cut 32) whole ∙ cut_at 32 (codes "served") (served_text is_answered.message is_answered.reply) refl in
        let same : word ≡ codes "served" = cc in
        absurd (differ word (codes "served") other same)

plain_sender : (entry : Entry) → IsPlain entry → HasSender entry
plain_sender entries.Handed is = tt
plain_sender (entries.Served sender message reply) is = absurd is
plain_sender entry is = tt

pub plain_told : (entry : Entry) → IsPlain entry → IsToldEntry entry
plain_told entry is = let own = plain_is entry is in record { ranges = own.0; heard = own.1; sender = plain_sender entry is }

-- ---- answered messages

pub reply_there : (reply : Reply) (text : List ℕ) → IsPageReply reply → text ≡ reply_text reply → IsOf reply_pieces IsPageReply (cut 32 text) reply
reply_there reply text is e = record { same = ap (cut 32) e ∙ cut_reply_text reply is; fits = is }

pub reply_same : (reply found : Reply) (text : List ℕ) → text ≡ reply_text reply → IsOf reply_pieces IsPageReply (cut 32 text) found → reply_text found ≡ reply_text reply
reply_same reply found text e of = cut_same 32 (reply_text found) (reply_text reply) (cut_reply_text found of.fits ∙ sym of.same ∙ ap (cut 32) e)

pub answered_line : (message : Message) (one other : Reply) → reply_text one ≡ reply_text other → line_of (served_entry message one) ≡ line_of (served_entry message other)
answered_line message one other e =
    ap (λ (text : List ℕ). text ++ codes "\n")
    (served_line message one ∙ ap (λ (text : List ℕ). codes "served " ++ (message_text message ++ (codes " -> " ++ text))) e ∙ sym (served_line message other))

pub served_told : (message : Message) (reply : Reply) → IsPageServed message reply → IsToldEntry (served_entry message reply)
served_told message reply is = record { ranges = is; heard = refl; sender = refl }

-- what `?` hands on where no reply is found says that memory ran out, where there is one
pub stops_line : (answer : Result Entry LineError) (error : LineError) (entry : Entry) (IsPart : Reply → Type 0) (reply : Reply) → IsErrAnd answer (λ returned. returned ≡ error) → FindsNone error IsPart → IsPart reply → GivesLine answer entry
stops_line (Ok value) error entry IsPart reply same none is = absurd same
stops_line (Err returned) (Refused fault) entry IsPart reply same none is = absurd (none reply is)
stops_line (Err returned) Memory entry IsPart reply same none is = rw same tt

-- a reply with this one's text answers the same message
pub still_answers : (message asked : Message) (reply found : Reply) (text : List ℕ) → IsPageServed message reply → asked ≡ message → text ≡ reply_text reply → IsOf reply_pieces IsPageReply (cut 32 text) found → MayAnswer asked found
still_answers message asked reply found text is e same of =
    subst (λ (one : Message). MayAnswer one found) (sym e) (same_answers message reply found is.reply_is of.fits (sym (reply_same reply found text same of)) is.answers)
