-- Where the arrow stands between a message and its reply.
use Rattle.std.proofs.Common.{◌≡◌, ℕ, Bool, true, false, not, eqb, List, [], ◌∷◌, ◌++◌, refl, sym, ap, ◌∙◌, codes, append_assoc}
use Rattle.std.specs.Prelude.{Result, Ok, Err}
use Rattle.std.proofs.lemmas.Bool.{and_parts, eq-eqb, true≢false}
use Rattle.rm_types.specs.declared.messages.ClientAsk.TheVariants as clients
use Rattle.rm_types.specs.declared.messages.ClockAsk.TheVariants as clocks
use Rattle.rm_types.specs.declared.messages.MasterAsk.TheVariants as masters
use Rattle.rm_types.specs.declared.messages.Message.{Message}
use Rattle.rm_types.specs.declared.messages.Message.TheVariants as messages
use Rattle.rm_types.specs.declared.messages.NodeAsk.TheVariants as nodes
use Rattle.rm_types.specs.declared.replies.Reply.{Reply}
use Rattle.rm_types.specs.declared.replies.Reply.TheVariants as replies
use Rattle.rm_formats.specs.Wording.{message_words, message_text, reply_words, reply_text}
use Rattle.rm_page.specs.Ranges.{IsPageMessage, IsPageServed, AsksForReport}
use Rattle.rm_page.proofs.Bytes.{lacks, lacks-append, cut, cut_at, cut_last, cut-append, AreWords, words_lack, joined_lacks}
use Rattle.rm_page.proofs.ReadLists.{without_last, without_last-push}
use Rattle.rm_page.proofs.ReadMessages.{message_front, message_are, message_pieces, cut_message}
use Rattle.rm_page.proofs.ReadReplies.{reply_front, reply_are}
use Rattle.rm_lines.specs.declared.errors.LineError.{LineError}
use Rattle.rm_page_reader.specs.Answers.{frees, is_free, served_text}
use Rattle.rm_lines.specs.Cuts.{IsFirstCut}
use Rattle.rm_page_reader.specs.Results.{IsLastCut}
use Rattle.rm_lines.proofs.Splits.{behind_same, cut_same}

-- ---- cuts

-- a byte is where it stands
pub lacks_not : (byte : ℕ) (front back : List ℕ) → lacks byte (front ++ byte ∷ back) ≡ true → ⊥
lacks_not byte [] back e = true≢false (sym (and_parts (not (eqb byte byte)) (lacks byte back) e).0 ∙ ap not (eq-eqb byte byte refl))
lacks_not byte (one ∷ front) back e = lacks_not byte front back (and_parts (not (eqb one byte)) (lacks byte (front ++ byte ∷ back)) e).1

pub same_first : (byte : ℕ) (text front back one other : List ℕ) → text ≡ front ++ byte ∷ back → lacks byte front ≡ true → IsFirstCut byte text one other → (one ≡ front) × (other ≡ back)
same_first byte text front back one other e h is =
    let both : front ∷ cut byte back ≡ one ∷ cut byte other = sym (cut_at byte front back h) ∙ ap (cut byte) (sym e ∙ is.whole) ∙ cut_at byte one other is.front_lacks in
    let rest : cut byte other ≡ cut byte back = cc in
    (cc, cut_same byte other back rest)

last_pieces : (byte : ℕ) (front back : List ℕ) → lacks byte back ≡ true → cut byte (front ++ byte ∷ back) ≡ cut byte front ++ back ∷ []
last_pieces byte front back h = cut-append byte front back ∙ ap (λ (ps : List (List ℕ)). cut byte front ++ ps) (cut_last byte back h)

pub same_last : (byte : ℕ) (text front back one other : List ℕ) → text ≡ front ++ byte ∷ back → lacks byte back ≡ true → IsLastCut byte text one other → (one ≡ front) × (other ≡ back)
same_last byte text front back one other e h is =
    let pieces : cut byte one ++ other ∷ [] ≡ cut byte front ++ back ∷ [] = sym (last_pieces byte one other is.back_lacks) ∙ ap (cut byte) (sym is.whole ∙ e) ∙ last_pieces byte front back h in
    let fronts : one ≡ front = cut_same byte one front (sym (without_last-push (cut byte one) other) ∙ ap without_last pieces ∙ without_last-push (cut byte front) back) in
    let backs : byte ∷ other ≡ byte ∷ back = behind_same front (byte ∷ other) (byte ∷ back) (ap (λ (t : List ℕ). t ++ byte ∷ other) (sym fronts) ∙ sym is.whole ∙ e) in
    (fronts, cc)

-- ---- messages and replies

unfree_words : (message : Message) → IsPageMessage message → frees message ≡ false → AreWords (message_words message)
unfolding message_front
unfree_words (messages.Client user (clients.Submit id submission)) is e = absurd cc
unfree_words (messages.Master attempt (masters.Finish text)) is e = absurd cc
unfree_words message is e = message_are message is

no_report : (message : Message) → frees message ≡ true → AsksForReport message → ⊥
no_report (messages.Client user (clients.Report id)) e wants = cc
no_report message e wants = wants

free_words : (message : Message) (reply : Reply) → IsPageServed message reply → frees message ≡ true → AreWords (reply_words reply)
unfolding reply_front
free_words message (replies.Report report) is e = absurd (no_report message e is.answers)
free_words message reply is e = reply_are reply is.reply_is

-- the text of an answered message, at its arrow
at_arrow : (message : Message) (reply : Reply) → served_text message reply ≡ (message_text message ++ codes " -") ++ 62 ∷ (32 ∷ reply_text reply)
at_arrow message reply = sym (append_assoc (message_text message) (codes " -") (62 ∷ (32 ∷ reply_text reply)))

front_lacks : (message : Message) → IsPageMessage message → frees message ≡ false → lacks 62 (message_text message ++ codes " -") ≡ true
front_lacks message is e = lacks-append 62 (message_text message) (codes " -") (joined_lacks 62 32 (message_words message) refl (words_lack 62 (message_words message) refl (unfree_words message is e))) refl

back_lacks : (message : Message) (reply : Reply) → IsPageServed message reply → frees message ≡ true → lacks 62 (32 ∷ reply_text reply) ≡ true
back_lacks message reply is e = joined_lacks 62 32 (reply_words reply) refl (words_lack 62 (reply_words reply) refl (free_words message reply is e))

pub first_arrow : (message : Message) (reply : Reply) (text front back : List ℕ) → IsPageServed message reply → text ≡ served_text message reply → frees message ≡ false → IsFirstCut 62 text front back
    → (front ≡ message_text message ++ codes " -") × (back ≡ codes " " ++ reply_text reply)
first_arrow message reply text front back is e free cut_is =
    same_first 62 text (message_text message ++ codes " -") (32 ∷ reply_text reply) front back (e ∙ at_arrow message reply) (front_lacks message is.message_is free) cut_is

pub last_arrow : (message : Message) (reply : Reply) (text front back : List ℕ) → IsPageServed message reply → text ≡ served_text message reply → frees message ≡ true → IsLastCut 62 text front back
    → (front ≡ message_text message ++ codes " -") × (back ≡ codes " " ++ reply_text reply)
last_arrow message reply text front back is e free cut_is =
    same_last 62 text (message_text message ++ codes " -") (32 ∷ reply_text reply) front back (e ∙ at_arrow message reply) (back_lacks message reply is free) cut_is

pub some_arrow : (message : Message) (reply : Reply) (text : List ℕ) → text ≡ served_text message reply → lacks 62 text ≡ true → ⊥
some_arrow message reply text e none = lacks_not 62 (message_text message ++ codes " -") (32 ∷ reply_text reply) (ap (lacks 62) (sym (e ∙ at_arrow message reply)) ∙ none)

-- ---- whether spaces may stand in the message

-- the first three words, and whether they say so
record Begins (message : Message) (pieces : List (List ℕ)) : Type 0 where
  pub sender : List ℕ
  pub name : List ℕ
  pub verb : List ℕ
  pub more : List (List ℕ)
  pub same : pieces ≡ sender ∷ name ∷ verb ∷ more
  pub free : is_free sender verb ≡ frees message

begin_pieces : (message : Message) (more : List (List ℕ)) → Begins message (message_pieces message ++ more)
unfolding message_pieces
begin_pieces (messages.Client user clients.New) more = record { sender = codes "client"; name = user; verb = codes "new"; more = _; same = refl; free = refl }
begin_pieces (messages.Client user (clients.Submit id submission)) more = record { sender = codes "client"; name = user; verb = codes "submit"; more = _; same = refl; free = refl }
begin_pieces (messages.Client user (clients.Report id)) more = record { sender = codes "client"; name = user; verb = codes "report"; more = _; same = refl; free = refl }
begin_pieces (messages.Client user (clients.Kill id)) more = record { sender = codes "client"; name = user; verb = codes "kill"; more = _; same = refl; free = refl }
begin_pieces (messages.Master attempt masters.Register) more = record { sender = codes "master"; name = _; verb = codes "register"; more = _; same = refl; free = refl }
begin_pieces (messages.Master attempt (masters.Finish text)) more = record { sender = codes "master"; name = _; verb = codes "finish"; more = _; same = refl; free = refl }
begin_pieces (messages.Master attempt (masters.Allocate id asks release)) more = record { sender = codes "master"; name = _; verb = codes "allocate"; more = _; same = refl; free = refl }
begin_pieces (messages.Node node (nodes.Register turn capability running)) more = record { sender = codes "node"; name = node; verb = codes "register"; more = _; same = refl; free = refl }
begin_pieces (messages.Node node (nodes.Beat id running done)) more = record { sender = codes "node"; name = node; verb = codes "beat"; more = _; same = refl; free = refl }
begin_pieces (messages.Clock (clocks.Tick time)) more = record { sender = codes "clock"; name = _; verb = _; more = _; same = refl; free = refl }
begin_pieces (messages.Clock (clocks.ExpireNode node)) more = record { sender = codes "clock"; name = _; verb = _; more = _; same = refl; free = refl }
begin_pieces (messages.Clock (clocks.ExpireMaster attempt)) more = record { sender = codes "clock"; name = _; verb = _; more = _; same = refl; free = refl }

pub free_is : (message : Message) (reply : Reply) (text : List ℕ) (found : Result Bool LineError) → IsPageServed message reply → text ≡ served_text message reply
    → ((sender name verb : List ℕ) (more : List (List ℕ)) → cut 32 text ≡ sender ∷ name ∷ verb ∷ more → found ≡ Ok (is_free sender verb)) → found ≡ Ok (frees message)
free_is message reply text found is e of =
    let rest : List ℕ = codes "-> " ++ reply_text reply in
    let begins = begin_pieces message (cut 32 rest) in
    let pieces : cut 32 text ≡ message_pieces message ++ cut 32 rest =
    ap (cut 32) e ∙ cut-append 32 (message_text message) rest ∙ ap (λ (ps : List (List ℕ)). ps ++ cut 32 rest) (cut_message message is.message_is) in
    of begins.sender begins.name begins.verb begins.more (pieces ∙ begins.same) ∙ ap (λ (b : Bool). Ok b) begins.free

pub free_found : (message : Message) (reply : Reply) (text : List ℕ) (found : Bool) → IsPageServed message reply → text ≡ served_text message reply
    → ((sender name verb : List ℕ) (more : List (List ℕ)) → cut 32 text ≡ sender ∷ name ∷ verb ∷ more → ◌≡◌ {A = Result Bool LineError} (Ok found) (Ok (is_free sender verb))) → frees message ≡ found
free_found message reply text found is e of = let same = free_is message reply text (Ok found) is e of in cc

pub free_fails : (message : Message) (reply : Reply) (text : List ℕ) (error : LineError) → IsPageServed message reply → text ≡ served_text message reply
    → ((sender name verb : List ℕ) (more : List (List ℕ)) → cut 32 text ≡ sender ∷ name ∷ verb ∷ more → ◌≡◌ {A = Result Bool LineError} (Err error) (Ok (is_free sender verb))) → ⊥
free_fails message reply text error is e of = let same = free_is message reply text (Err error) is e of in cc
