-- Entries, read back from their lines.
use Rattle.std.proofs.Common.{◌≡◌, ℕ, Bool, true, false, cond, ◌||◌, List, [], ◌∷◌, ◌++◌, map, All, refl, sym, ap, ◌∙◌, arith, codes}
use Rattle.std.specs.Prelude.{◌↔◌}
use Rattle.std.specs.Fmt.{decimal}
use Rattle.std.specs.Str.{bytes_eq}
use Rattle.std.proofs.lemmas.Bool.{true≢false}
use Rattle.std.proofs.lemmas.List.{append_assoc, map-id}
use Rattle.std.proofs.lemmas.List.Elements.{All-weaker}
use Rattle.std.proofs.lemmas.Slice.Eq.{bytes_eq-Decides}
use Rattle.rm_types.specs.declared.containers.Grant.{Grant}
use Rattle.rm_types.specs.declared.containers.Held.{Held}
use Rattle.rm_types.specs.declared.entries.Entry.{Entry}
use Rattle.rm_types.specs.declared.entries.Entry.TheVariants as entries
use Rattle.rm_types.specs.declared.messages.ClientAsk.TheVariants as clients
use Rattle.rm_types.specs.declared.messages.ClockAsk.TheVariants as clocks
use Rattle.rm_types.specs.declared.messages.MasterAsk.TheVariants as masters
use Rattle.rm_types.specs.declared.messages.Message.{Message}
use Rattle.rm_types.specs.declared.messages.Message.TheVariants as messages
use Rattle.rm_types.specs.declared.messages.NodeAsk.TheVariants as nodes
use Rattle.rm_types.specs.declared.messages.Sender.{Sender}
use Rattle.rm_types.specs.declared.operations.Op.{Op}
use Rattle.rm_types.specs.declared.operations.Op.TheVariants as ops
use Rattle.rm_types.specs.declared.replies.Reply.{Reply}
use Rattle.rm_types.specs.declared.replies.Reply.TheVariants as replies
use Rattle.rm_types.specs.Ranges.{IsOperation}
use Rattle.rm_formats.specs.IdTexts.{app_text, attempt_text, container_text}
use Rattle.rm_types.specs.Lists.{is_nil}
use Rattle.rm_formats.specs.Page.{line, line_of}
use Rattle.rm_types.specs.Lanes.{sender_of}
use Rattle.rm_formats.specs.Wording.{spaced, bracketed, cause_text, message_words, message_text, op_words, reply_words}
use Rattle.rm_formats.specs.ids.Digits.{value_of}
use Rattle.rm_page.specs.Ranges.{IsEntry, IsPageServed, IsPageMessage, IsPageHeld, IsGrant, AsksForReport}
use Rattle.rm_page.specs.Shown.{listed_held, listed_grant, shown_reply, shown, is_silent}
use Rattle.rm_page.proofs.Bytes.{made_of, lacks, number_back, cut, cut_at, cut-append, EachLacks, behind, is_word_byte, number_word, node_word, AreWords, words_lack, EachLacks-append, joined_lacks}
use Rattle.rm_page.proofs.ReadIds.{app_word, attempt_word, container_word, read_app, read_attempt, read_container, app_back, attempt_back, container_back}
use Rattle.rm_page.proofs.ReadOperations.{cut_words, read_op, op_back, op_lacks_feed}
use Rattle.rm_page.proofs.ReadLists.{ComesBack, without_last, without_last-push, read_bracketed, bracketed_back, bracketed_word, read_cause, cause_back, cause_word, read_listed_held, listed_held_comes_back, read_listed_grant, listed_grant_comes_back}
use Rattle.rm_page.proofs.ReadMessages.{read_message, ids_back, message_front, message_are, message_pieces, cut_message, message_lacks_feed, message_pieces_back}
use Rattle.rm_page.proofs.ReadReplies.{read_reply, reply_front, reply_are, reply_pieces, cut_reply, reply_lacks_feed, reply_pieces_back, same_texts, reply_words-shown}

-- ---- the arrow between a message and its reply

is_arrow : List ℕ → Bool
is_arrow word = bytes_eq word (codes "->")

has_arrow : List (List ℕ) → Bool
has_arrow [] = false
has_arrow (word ∷ words) = is_arrow word || has_arrow words

record Halves : Type 0 where
  pub front : List (List ℕ)
  pub back : List (List ℕ)

-- what stands before the first arrow, and what behind it
split_first : List (List ℕ) → Halves
split_first [] = record { front = []; back = [] }
split_first (word ∷ words) =
    cond (is_arrow word) (record { front = []; back = words }) (record { front = word ∷ (split_first words).front; back = (split_first words).back })

-- the same of the last arrow
split_last : List (List ℕ) → Halves
split_last [] = record { front = []; back = [] }
split_last (word ∷ words) =
    cond (has_arrow words) (record { front = word ∷ (split_last words).front; back = (split_last words).back }) (record { front = []; back = words })

no_arrow : (word : List ℕ) → made_of is_word_byte word ≡ true → is_arrow word ≡ false
unfolding is_arrow
no_arrow word is = by_test (bytes_eq word (codes "->")) refl
  where
    by_test : (b : Bool) → bytes_eq word (codes "->") ≡ b → b ≡ false
    by_test true e = absurd (true≢false (sym is ∙ ap (made_of is_word_byte) ((bytes_eq-Decides word (codes "->")).0 e)))
    by_test false e = refl

no_arrows : (words : List (List ℕ)) → AreWords words → has_arrow words ≡ false
unfolding has_arrow
no_arrows [] are = refl
no_arrows (word ∷ words) are = rw (no_arrow word are.0, no_arrows words are.1) refl

split_first_at : (front back : List (List ℕ)) → AreWords front → split_first (front ++ codes "->" ∷ back) ≡ record { front = front; back = back }
unfolding split_first is_arrow
split_first_at [] back are = refl
split_first_at (word ∷ front) back are =
    let other : bytes_eq word (codes "->") ≡ false = no_arrow_bytes word are.0 in
    rw (other, split_first_at front back are.1) refl
  where
    no_arrow_bytes : (word : List ℕ) → made_of is_word_byte word ≡ true → bytes_eq word (codes "->") ≡ false
    no_arrow_bytes word is = no_arrow word is

arrow_within : (front back : List (List ℕ)) → has_arrow (front ++ codes "->" ∷ back) ≡ true
unfolding has_arrow is_arrow
arrow_within [] back = refl
arrow_within (word ∷ front) back = either (bytes_eq word (codes "->")) (has_arrow (front ++ codes "->" ∷ back)) (arrow_within front back)
  where
    either : (b c : Bool) → c ≡ true → (b || c) ≡ true
    either true c e = refl
    either false c e = e

split_last_at : (front back : List (List ℕ)) → AreWords back → split_last (front ++ codes "->" ∷ back) ≡ record { front = front; back = back }
unfolding split_last
split_last_at [] back are = rw (no_arrows back are) refl
split_last_at (word ∷ front) back are = rw (arrow_within front back, split_last_at front back are) refl

-- spaces may stand in the last word of such a message
frees : Message → Bool
frees (messages.Client user (clients.Submit id submission)) = true
frees (messages.Master attempt (masters.Finish text)) = true
frees message = false

-- the same by the pieces of a line
are_free : List (List ℕ) → Bool
are_free (sender ∷ name ∷ word ∷ pieces) =
    cond (bytes_eq sender (codes "client")) (bytes_eq word (codes "submit")) (cond (bytes_eq sender (codes "master")) (bytes_eq word (codes "finish")) false)
are_free pieces = false

free_start : (message : Message) (more : List (List ℕ)) → are_free (message_pieces message ++ more) ≡ frees message
unfolding are_free frees message_pieces
free_start (messages.Client user clients.New) more = refl
free_start (messages.Master attempt masters.Register) more = refl
free_start (messages.Node node (nodes.Register turn capability running)) more = refl
free_start (messages.Clock (clocks.Tick time)) more = refl
free_start message more = refl

-- any other message has words alone
unfree_are : (message : Message) → IsPageMessage message → frees message ≡ false → AreWords (message_pieces message)
unfolding frees message_pieces message_front
unfree_are (messages.Client user (clients.Submit id submission)) is e = absurd cc
unfree_are (messages.Master attempt (masters.Finish text)) is e = absurd cc
unfree_are message is e = message_are message is

no_report : (message : Message) → frees message ≡ true → AsksForReport message → ⊥
unfolding frees
no_report (messages.Client user (clients.Report id)) e wants = cc
no_report message e wants = wants

-- and the reply to such a message has
free_are : (message : Message) (reply : Reply) → IsPageServed message reply → frees message ≡ true → AreWords (reply_pieces reply)
unfolding reply_pieces reply_front
free_are message (replies.Report report) is e = absurd (no_report message e is.answers)
free_are message reply is e = reply_are reply is.reply_is

-- ---- how entries are read

data Keyword : Type 0 where
  OpenedWord : Keyword
  IssuedWord : Keyword
  KeptWord : Keyword
  BlownWord : Keyword
  ServedWord : Keyword
  AcceptedWord : Keyword
  QueuedWord : Keyword
  AbsorbedWord : Keyword
  PassWord : Keyword
  OrderedWord : Keyword
  EndedWord : Keyword
  SettledWord : Keyword
  DownWord : Keyword

keyword : List ℕ → Keyword
keyword word =
    cond (bytes_eq word (codes "opened")) OpenedWord
    (cond (bytes_eq word (codes "issued")) IssuedWord
    (cond (bytes_eq word (codes "kept")) KeptWord
    (cond (bytes_eq word (codes "blown")) BlownWord
    (cond (bytes_eq word (codes "served")) ServedWord
    (cond (bytes_eq word (codes "accepted")) AcceptedWord
    (cond (bytes_eq word (codes "queued")) QueuedWord
    (cond (bytes_eq word (codes "absorbed")) AbsorbedWord
    (cond (bytes_eq word (codes "pass")) PassWord
    (cond (bytes_eq word (codes "ordered")) OrderedWord
    (cond (bytes_eq word (codes "ended")) EndedWord
    (cond (bytes_eq word (codes "settled")) SettledWord DownWord)))))))))))

served_of : Halves → Entry
served_of halves = entries.Served (sender_of (read_message halves.front)) (read_message halves.front) (read_reply halves.back)

read_served : List (List ℕ) → Entry
read_served pieces = served_of (cond (are_free pieces) (split_last pieces) (split_first pieces))

entry_by : Keyword → List (List ℕ) → Entry
entry_by OpenedWord (landed ∷ epoch ∷ stamp ∷ []) =
    entries.Opened (value_of (behind (codes "landed=") landed)) (value_of (behind (codes "epoch=") epoch)) (value_of (behind (codes "stamp=") stamp))
entry_by IssuedWord pieces = entries.Issued (read_op pieces)
entry_by KeptWord pieces = entries.Kept (read_op pieces)
entry_by BlownWord (passed ∷ []) = entries.Blown (value_of (behind (codes "passed=") passed))
entry_by ServedWord pieces = read_served pieces
entry_by AcceptedWord (app ∷ []) = entries.Accepted (read_app app)
entry_by QueuedWord (attempt ∷ []) = entries.Queued (read_attempt attempt)
entry_by AbsorbedWord (node ∷ taken ∷ ended ∷ []) = entries.Absorbed node (read_bracketed read_listed_held (codes "taken=[") taken) (read_bracketed read_container (codes "ended=[") ended)
entry_by PassWord (node ∷ grants ∷ []) = entries.Pass node (read_bracketed read_listed_grant (codes "grants=[") grants)
entry_by OrderedWord (container ∷ node ∷ []) = entries.Ordered (read_container container) node
entry_by EndedWord (cause ∷ list ∷ []) = entries.Ended (read_cause cause) (read_bracketed read_container (codes "[") list)
entry_by SettledWord pieces = entries.Settled
entry_by word pieces = entries.Down

-- an entry by the pieces of its line
read_entry : List (List ℕ) → Entry
read_entry (word ∷ pieces) = entry_by (keyword word) pieces
read_entry [] = entries.Down

-- an entry by its line without the line feed
pub read_line : List ℕ → Entry
read_line body = read_entry (cut 32 body)

-- ---- and come back

-- the entry has a line, in which a line feed stands at the end alone, and which shows the entry
pub record HasLine (entry : Entry) : Type 0 where
  pub body : List ℕ
  pub same : line_of entry ≡ body ++ codes "\n"
  pub no_feed : lacks 10 body ≡ true
  pub back : read_line body ≡ shown entry

-- words with no line feed make a line with none
spaced_lacks_feed : (words : List (List ℕ)) → EachLacks 10 words → lacks 10 (spaced words) ≡ true
spaced_lacks_feed words lack = joined_lacks 10 32 words refl lack

-- a line of words alone
words_line : (entry : Entry) (word : List ℕ) (words : List (List ℕ)) → line_of entry ≡ line (word ∷ words) → AreWords (word ∷ words) → read_entry (word ∷ words) ≡ shown entry → HasLine entry
unfolding read_line
words_line entry word words same are back = record {
  body = spaced (word ∷ words);
  same = same;
  no_feed = spaced_lacks_feed (word ∷ words) (words_lack 10 (word ∷ words) refl are);
  back = ap read_entry (cut_words word words are) ∙ back;
}

first_word : (word : List ℕ) (words : List (List ℕ)) → lacks 32 word ≡ true → is_nil words ≡ false → cut 32 (spaced (word ∷ words)) ≡ word ∷ cut 32 (spaced words)
first_word word [] lack some = absurd cc
first_word word (next ∷ words) lack some = cut_at 32 word (spaced (next ∷ words)) lack

op_some : (op : Op) → is_nil (op_words op) ≡ false
op_some (ops.Epoch next stamp) = refl
op_some op = refl

issued_line : (op : Op) → IsOperation op → HasLine (entries.Issued op)
unfolding read_line read_entry entry_by keyword
issued_line op is = record {
  body = spaced (codes "issued" ∷ op_words op);
  same = refl;
  no_feed = spaced_lacks_feed (codes "issued" ∷ op_words op) (refl, op_lacks_feed op is);
  back = ap read_entry (first_word (codes "issued") (op_words op) refl (op_some op)) ∙ ap entries.Issued (op_back op is);
}

kept_line : (op : Op) → IsOperation op → HasLine (entries.Kept op)
unfolding read_line read_entry entry_by keyword
kept_line op is = record {
  body = spaced (codes "kept" ∷ op_words op);
  same = refl;
  no_feed = spaced_lacks_feed (codes "kept" ∷ op_words op) (refl, op_lacks_feed op is);
  back = ap read_entry (first_word (codes "kept") (op_words op) refl (op_some op)) ∙ ap entries.Kept (op_back op is);
}

-- ---- answered messages

message_some : (message : Message) → is_nil (message_words message) ≡ false
message_some (messages.Client user ask) = refl
message_some message = refl

spaced-append : (front : List (List ℕ)) (word : List ℕ) (words : List (List ℕ)) → is_nil front ≡ false → spaced (front ++ word ∷ words) ≡ spaced front ++ 32 ∷ spaced (word ∷ words)
spaced-append [] word words some = absurd cc
spaced-append (one ∷ []) word words some = refl
spaced-append (one ∷ next ∷ front) word words some =
    ap (λ (text : List ℕ). one ++ 32 ∷ text) (spaced-append (next ∷ front) word words refl) ∙ sym (append_assoc one (32 ∷ spaced (next ∷ front)) (32 ∷ spaced (word ∷ words)))

reply_some : (reply : Reply) → is_nil (reply_words reply) ≡ false
reply_some replies.NotOpen = refl
reply_some reply = refl

served_pieces : (message : Message) (reply : Reply) → IsPageServed message reply
    → cut 32 (spaced (codes "served" ∷ (message_words message ++ codes "->" ∷ reply_words reply))) ≡ codes "served" ∷ (message_pieces message ++ codes "->" ∷ reply_pieces reply)
served_pieces message reply is =
    let words : List (List ℕ) = message_words message ++ codes "->" ∷ reply_words reply in
    first_word (codes "served") words refl (some_front (message_words message) (codes "->" ∷ reply_words reply) (message_some message))
    ∙ ap (λ (ps : List (List ℕ)). codes "served" ∷ ps)
    (ap (cut 32) (spaced-append (message_words message) (codes "->") (reply_words reply) (message_some message))
    ∙ cut-append 32 (message_text message) (spaced (codes "->" ∷ reply_words reply))
    ∙ ap (λ (ps : List (List ℕ)). ps ++ cut 32 (spaced (codes "->" ∷ reply_words reply))) (cut_message message is.message_is)
    ∙ ap (λ (ps : List (List ℕ)). message_pieces message ++ ps) (first_word (codes "->") (reply_words reply) refl (reply_some reply)
    ∙ ap (λ (ps : List (List ℕ)). codes "->" ∷ ps) (cut_reply reply is.reply_is)))
  where
    some_front : (front back : List (List ℕ)) → is_nil front ≡ false → is_nil (front ++ back) ≡ false
    some_front [] back some = absurd cc
    some_front (word ∷ front) back some = refl

served_halves : (message : Message) (reply : Reply) → IsPageServed message reply
    → cond (are_free (message_pieces message ++ codes "->" ∷ reply_pieces reply)) (split_last (message_pieces message ++ codes "->" ∷ reply_pieces reply)) (split_first (message_pieces message ++ codes "->" ∷ reply_pieces reply))
    ≡ record { front = message_pieces message; back = reply_pieces reply }
served_halves message reply is =
    let pieces : List (List ℕ) = message_pieces message ++ codes "->" ∷ reply_pieces reply in
    ap (λ b. cond b (split_last pieces) (split_first pieces)) (free_start message (codes "->" ∷ reply_pieces reply)) ∙ by_kind (frees message) refl
  where
    by_kind : (b : Bool) → frees message ≡ b
        → cond b (split_last (message_pieces message ++ codes "->" ∷ reply_pieces reply)) (split_first (message_pieces message ++ codes "->" ∷ reply_pieces reply)) ≡ record { front = message_pieces message; back = reply_pieces reply }
    by_kind true e = split_last_at (message_pieces message) (reply_pieces reply) (free_are message reply is e)
    by_kind false e = split_first_at (message_pieces message) (reply_pieces reply) (unfree_are message is.message_is e)

served_back : (message : Message) (reply : Reply) → IsPageServed message reply
    → read_served (message_pieces message ++ codes "->" ∷ reply_pieces reply) ≡ entries.Served (sender_of message) message (shown_reply reply)
unfolding read_served served_of
served_back message reply is =
    ap served_of (served_halves message reply is) ∙ rw (message_pieces_back message is.message_is, reply_pieces_back reply is.reply_is) refl

served_line : (sender : Sender) (message : Message) (reply : Reply) → IsPageServed message reply → HasLine (entries.Served sender message reply)
unfolding read_line read_entry entry_by keyword
served_line sender message reply is = record {
  body = spaced (codes "served" ∷ (message_words message ++ codes "->" ∷ reply_words reply));
  same = refl;
  no_feed = spaced_lacks_feed (codes "served" ∷ (message_words message ++ codes "->" ∷ reply_words reply))
      (refl, EachLacks-append 10 (message_words message) (codes "->" ∷ reply_words reply) (message_lacks_feed message is.message_is) (refl, reply_lacks_feed reply is.reply_is));
  back = ap read_entry (served_pieces message reply is) ∙ served_back message reply is;
}

-- ---- each entry

taken_back : (taken : List Held) → All IsPageHeld taken → All (ComesBack (λ one. container_text one.id) read_listed_held listed_held) taken
taken_back taken all = All-weaker IsPageHeld (ComesBack (λ one. container_text one.id) read_listed_held listed_held) listed_held_comes_back taken all

passed_back : (grants : List Grant) → All IsGrant grants → All (ComesBack (λ one. container_text one.id) read_listed_grant listed_grant) grants
passed_back grants all = All-weaker IsGrant (ComesBack (λ one. container_text one.id) read_listed_grant listed_grant) listed_grant_comes_back grants all

pub has_line : (entry : Entry) → IsEntry entry → is_silent entry ≡ false → HasLine entry
unfolding read_entry entry_by keyword
has_line (entries.Opened landed epoch stamp) is heard =
    words_line (entries.Opened landed epoch stamp) (codes "opened") ((codes "landed=" ++ decimal landed) ∷ (codes "epoch=" ++ decimal epoch) ∷ (codes "stamp=" ++ decimal stamp) ∷ []) refl
    (refl, (number_word landed (omega (arith, is.0)), (number_word epoch (omega (arith, is.1)), (number_word stamp is.2, tt))))
    (rw (number_back landed (omega (arith, is.0)), number_back epoch (omega (arith, is.1)), number_back stamp is.2) refl)
has_line (entries.Issued op) is heard = issued_line op is
has_line entries.Handed is heard = absurd cc
has_line (entries.Kept op) is heard = kept_line op is
has_line (entries.Blown passed) is heard =
    words_line (entries.Blown passed) (codes "blown") ((codes "passed=" ++ decimal passed) ∷ []) refl (refl, (number_word passed (omega (arith, is)), tt)) (rw (number_back passed (omega (arith, is))) refl)
has_line (entries.Served sender message reply) is heard = served_line sender message reply is
has_line (entries.Accepted app) is heard = words_line (entries.Accepted app) (codes "accepted") (app_text app ∷ []) refl (refl, (app_word app is, tt)) (rw (app_back app is) refl)
has_line (entries.Queued attempt) is heard = words_line (entries.Queued attempt) (codes "queued") (attempt_text attempt ∷ []) refl (refl, (attempt_word attempt is, tt)) (rw (attempt_back attempt is) refl)
has_line (entries.Absorbed node taken ended) is heard =
    let texts : List (List ℕ) = map (λ one. container_text one.id) taken in
    words_line (entries.Absorbed node taken ended) (codes "absorbed") (node ∷ (codes "taken=" ++ bracketed texts) ∷ (codes "ended=" ++ bracketed (map container_text ended)) ∷ []) refl (
      refl,
      (
        node_word node is.0,
        (
          bracketed_word (λ one. container_text one.id) read_listed_held listed_held taken (taken_back taken is.1),
          (bracketed_word container_text read_container (λ x. x) ended (ids_back ended is.2), tt),
        ),
      ),
    )
    (rw (
      bracketed_back (λ one. container_text one.id) read_listed_held listed_held (codes "taken=[") taken (taken_back taken is.1),
      bracketed_back container_text read_container (λ x. x) (codes "ended=[") ended (ids_back ended is.2),
      map-id ended,
    ) refl)
has_line (entries.Pass node grants) is heard =
    let texts : List (List ℕ) = map (λ one. container_text one.id) grants in
    words_line (entries.Pass node grants) (codes "pass") (node ∷ (codes "grants=" ++ bracketed texts) ∷ []) refl
    (refl, (node_word node is.0, (bracketed_word (λ one. container_text one.id) read_listed_grant listed_grant grants (passed_back grants is.1), tt)))
    (rw (bracketed_back (λ one. container_text one.id) read_listed_grant listed_grant (codes "grants=[") grants (passed_back grants is.1)) refl)
has_line (entries.Ordered container node) is heard =
    words_line (entries.Ordered container node) (codes "ordered") (container_text container ∷ node ∷ []) refl (refl, (container_word container is.0, (node_word node is.1, tt))) (rw (container_back container is.0) refl)
has_line (entries.Ended cause list) is heard =
    words_line (entries.Ended cause list) (codes "ended") (cause_text cause ∷ bracketed (map container_text list) ∷ []) refl
    (refl, (cause_word cause, (bracketed_word container_text read_container (λ x. x) list (ids_back list is), tt)))
    (rw (cause_back cause, bracketed_back container_text read_container (λ x. x) (codes "[") list (ids_back list is), map-id list) refl)
has_line entries.Settled is heard = words_line entries.Settled (codes "settled") [] refl (refl, tt) refl
has_line entries.Down is heard = words_line entries.Down (codes "down") [] refl (refl, tt) refl
has_line (entries.Quiet lane) is heard = absurd cc

-- what a line shows of an entry has the entry's line
pub line_of-shown : (entry : Entry) → line_of (shown entry) ≡ line_of entry
line_of-shown (entries.Served sender message reply) = rw (reply_words-shown reply) refl
line_of-shown (entries.Absorbed node taken ended) = rw (same_texts (λ one. container_text one.id) listed_held (λ one. container_text one.id) taken (λ held. refl)) refl
line_of-shown (entries.Pass node grants) = rw (same_texts (λ one. container_text one.id) listed_grant (λ one. container_text one.id) grants (λ grant. refl)) refl
line_of-shown entry = refl

pub lines_show : (a b : Entry) → IsEntry a → IsEntry b → is_silent a ≡ false → is_silent b ≡ false → (line_of a ≡ line_of b) ↔ (shown a ≡ shown b)
lines_show a b is_a is_b heard_a heard_b =
    let line_a = has_line a is_a heard_a in
    let line_b = has_line b is_b heard_b in (
      λ e.
          let bodies : line_a.body ≡ line_b.body = sym (without_last-push line_a.body 10) ∙ ap without_last (sym line_a.same ∙ e ∙ line_b.same) ∙ without_last-push line_b.body 10 in
          sym line_a.back ∙ ap read_line bodies ∙ line_b.back,
      λ e. sym (line_of-shown a) ∙ ap line_of e ∙ line_of-shown b,
    )
