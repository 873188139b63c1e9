-- Messages, read back from their texts.
use Rattle.std.proofs.Common.{◌≡◌, ℕ, cond, List, [], ◌∷◌, map, All, refl, sym, ap, ◌∙◌, arith, codes}
use Rattle.std.specs.Str.{bytes_eq}
use Rattle.std.proofs.lemmas.List.Elements.{All-weaker}
use Rattle.rm_types.specs.declared.containers.Ask.{Ask}
use Rattle.rm_types.specs.declared.containers.Held.{Held}
use Rattle.rm_types.specs.declared.ids.ContainerId.{ContainerId}
use Rattle.rm_types.specs.declared.messages.ClientAsk.{ClientAsk}
use Rattle.rm_types.specs.declared.messages.ClientAsk.TheVariants.{New, Submit, Report, Kill}
use Rattle.rm_types.specs.declared.messages.ClockAsk.{ClockAsk}
use Rattle.rm_types.specs.declared.messages.ClockAsk.TheVariants.{Tick, ExpireNode, ExpireMaster}
use Rattle.rm_types.specs.declared.messages.MasterAsk.{MasterAsk}
use Rattle.rm_types.specs.declared.messages.MasterAsk.TheVariants.{Register, Finish, Allocate}
use Rattle.rm_types.specs.declared.messages.Message.{Message}
use Rattle.rm_types.specs.declared.messages.Message.TheVariants.{Client, Master, Node, Clock}
use Rattle.rm_types.specs.declared.messages.NodeAsk.{NodeAsk}
use Rattle.rm_types.specs.declared.messages.NodeAsk.TheVariants.{Register as Join, Beat}
use Rattle.rm_types.specs.declared.operations.Submission.{Submission}
use Rattle.rm_types.specs.declared.resources.Resource.{Resource}
use Rattle.rm_types.specs.declared.texts.TextKind.TheVariants.{Note, AclText}
use Rattle.rm_formats.specs.IdTexts.{app_text, attempt_text, container_text}
use Rattle.rm_types.specs.Ranges.{IsContainerId}
use Rattle.rm_formats.specs.Wording.{spaced, list_word, text_word, held_text, ask_text, message_words, message_text}
use Rattle.rm_formats.specs.ids.Digits.{value_of}
use Rattle.rm_page.specs.Ranges.{IsPageMessage, IsPageHeld, IsPageAsk}
use Rattle.rm_page.proofs.Bytes.{number_back, text_lacks, cut, join_cut, EachMade-append, EachLacks, behind, is_word_byte, number_word, name_word, node_word, AreWords, words_lack, EachLacks-append}
use Rattle.rm_page.proofs.ReadIds.{app_word, attempt_word, read_app, read_attempt, read_container, app_back, attempt_back}
use Rattle.rm_page.proofs.ReadOperations.{cut_all, cut_words_last, cut_with_last, last_lacks, read_submission, submission_pieces, submission_front, submission_are, submission_back}
use Rattle.rm_page.proofs.ReadLists.{ComesBack, read_list, whole_list_back, list_word_is, word_at, ask_word, release_word, running_word, done_word, lone_running_word, containers_come_back, read_held, held_comes_back, read_ask, ask_comes_back}

-- ---- how they are read

data Keyword : Type 0 where
  ClientWord : Keyword
  MasterWord : Keyword
  NodeWord : Keyword
  ClockWord : Keyword
  NewWord : Keyword
  SubmitWord : Keyword
  ReportWord : Keyword
  KillWord : Keyword
  RegisterWord : Keyword
  FinishWord : Keyword
  AllocateWord : Keyword
  BeatWord : Keyword
  TickWord : Keyword
  OtherWord : Keyword

keyword : List ℕ → Keyword
keyword word =
    cond (bytes_eq word (codes "client")) ClientWord
    (cond (bytes_eq word (codes "master")) MasterWord
    (cond (bytes_eq word (codes "node")) NodeWord
    (cond (bytes_eq word (codes "clock")) ClockWord
    (cond (bytes_eq word (codes "new")) NewWord
    (cond (bytes_eq word (codes "submit")) SubmitWord
    (cond (bytes_eq word (codes "report")) ReportWord
    (cond (bytes_eq word (codes "kill")) KillWord
    (cond (bytes_eq word (codes "register")) RegisterWord
    (cond (bytes_eq word (codes "finish")) FinishWord
    (cond (bytes_eq word (codes "allocate")) AllocateWord
    (cond (bytes_eq word (codes "beat")) BeatWord
    (cond (bytes_eq word (codes "tick")) TickWord OtherWord))))))))))))

client_by : Keyword → List ℕ → List (List ℕ) → ClientAsk
client_by SubmitWord user (id ∷ pieces) = Submit (read_app id) (read_submission user pieces)
client_by ReportWord user (id ∷ pieces) = Report (read_app id)
client_by KillWord user (id ∷ pieces) = Kill (read_app id)
client_by word user pieces = New

master_by : Keyword → List (List ℕ) → MasterAsk
master_by FinishWord pieces = Finish (spaced pieces)
master_by AllocateWord (id ∷ pieces) = Allocate (value_of id) (read_list read_ask (word_at (codes "ask=") pieces)) (read_list read_container (word_at (codes "release=") pieces))
master_by word pieces = Register

no_size : Resource
no_size = record { memory_mb = 0; vcores = 0 }

node_by : Keyword → List (List ℕ) → NodeAsk
node_by RegisterWord (turn ∷ memory ∷ vcores ∷ pieces) =
    Join (value_of turn) (record { memory_mb = value_of (behind (codes "memory=") memory); vcores = value_of (behind (codes "vcores=") vcores) }) (read_list read_held (word_at (codes "running=") pieces))
node_by BeatWord (id ∷ pieces) = Beat (value_of id) (read_list read_held (word_at (codes "running=") pieces)) (read_list read_container (word_at (codes "done=") pieces))
node_by word pieces = Join 0 no_size []

expire_by : Keyword → List ℕ → ClockAsk
expire_by NodeWord name = ExpireNode name
expire_by word name = ExpireMaster (read_attempt name)

clock_by : Keyword → List (List ℕ) → ClockAsk
clock_by TickWord (time ∷ pieces) = Tick (value_of time)
clock_by OtherWord (what ∷ name ∷ pieces) = expire_by (keyword what) name
clock_by word pieces = Tick 0

message_by : Keyword → List (List ℕ) → Message
message_by ClientWord (user ∷ word ∷ pieces) = Client user (client_by (keyword word) user pieces)
message_by MasterWord (attempt ∷ word ∷ pieces) = Master (read_attempt attempt) (master_by (keyword word) pieces)
message_by NodeWord (node ∷ word ∷ pieces) = Node node (node_by (keyword word) pieces)
message_by ClockWord (word ∷ pieces) = Clock (clock_by (keyword word) pieces)
message_by word pieces = Clock (Tick 0)

-- a message by the pieces of its text
pub read_message : List (List ℕ) → Message
read_message (word ∷ pieces) = message_by (keyword word) pieces
read_message [] = Clock (Tick 0)

-- ---- their words

asks_back : (asks : List Ask) → All IsPageAsk asks → All (ComesBack ask_text read_ask (λ x. x)) asks
asks_back asks all = All-weaker IsPageAsk (ComesBack ask_text read_ask (λ x. x)) ask_comes_back asks all

helds_back : (running : List Held) → All IsPageHeld running → All (ComesBack held_text read_held (λ x. x)) running
helds_back running all = All-weaker IsPageHeld (ComesBack held_text read_held (λ x. x)) held_comes_back running all

pub ids_back : (ids : List ContainerId) → All IsContainerId ids → All (ComesBack container_text read_container (λ x. x)) ids
ids_back ids all = All-weaker IsContainerId (ComesBack container_text read_container (λ x. x)) containers_come_back ids all

-- the words of a message but a text in which spaces may stand
unfoldable pub message_front : Message → List (List ℕ)
message_front (Client user (Submit id submission)) = codes "client" ∷ user ∷ codes "submit" ∷ app_text id ∷ submission_front submission
message_front (Master attempt (Finish text)) = codes "master" ∷ attempt_text attempt ∷ codes "finish" ∷ []
message_front message = message_words message

pub message_are : (message : Message) → IsPageMessage message → AreWords (message_front message)
unfolding message_front
message_are (Client user New) is = (refl, (name_word user is.0, (refl, tt)))
message_are (Client user (Submit id submission)) is = (refl, (name_word user is.0, (refl, (app_word id is.1.0, submission_are submission is.1.1))))
message_are (Client user (Report id)) is = (refl, (name_word user is.0, (refl, (app_word id is.1, tt))))
message_are (Client user (Kill id)) is = (refl, (name_word user is.0, (refl, (app_word id is.1, tt))))
message_are (Master attempt Register) is = (refl, (attempt_word attempt is.0, (refl, tt)))
message_are (Master attempt (Finish text)) is = (refl, (attempt_word attempt is.0, (refl, tt)))
message_are (Master attempt (Allocate id asks release)) is = (
  refl,
  (
    attempt_word attempt is.0,
    (
      refl,
      (
        number_word id (omega (arith, is.1.0)),
        EachMade-append is_word_byte (list_word (codes "ask=") (map ask_text asks)) (list_word (codes "release=") (map container_text release))
            (list_word_is ask_text read_ask (λ x. x) (codes "ask=") asks refl (asks_back asks is.1.1))
            (list_word_is container_text read_container (λ x. x) (codes "release=") release refl (ids_back release is.1.2)),
      ),
    ),
  ),
)
message_are (Node node (Join turn capability running)) is = (
  refl,
  (
    node_word node is.0,
    (
      refl,
      (
        number_word turn (omega (arith, is.1.0)),
        (
          number_word capability.memory_mb (omega (arith, is.1.1.0)),
          (
            number_word capability.vcores (omega (arith, is.1.1.1)),
            list_word_is held_text read_held (λ x. x) (codes "running=") running refl (helds_back running is.1.2),
          ),
        ),
      ),
    ),
  ),
)
message_are (Node node (Beat id running done)) is = (
  refl,
  (
    node_word node is.0,
    (
      refl,
      (
        number_word id (omega (arith, is.1.0)),
        EachMade-append is_word_byte (list_word (codes "running=") (map held_text running)) (list_word (codes "done=") (map container_text done))
            (list_word_is held_text read_held (λ x. x) (codes "running=") running refl (helds_back running is.1.1))
            (list_word_is container_text read_container (λ x. x) (codes "done=") done refl (ids_back done is.1.2)),
      ),
    ),
  ),
)
message_are (Clock (Tick time)) is = (refl, (refl, (number_word time is, tt)))
message_are (Clock (ExpireNode node)) is = (refl, (refl, (refl, (node_word node is, tt))))
message_are (Clock (ExpireMaster attempt)) is = (refl, (refl, (refl, (attempt_word attempt is, tt))))

-- the pieces of a message's text
unfoldable pub message_pieces : Message → List (List ℕ)
message_pieces (Client user (Submit id submission)) = codes "client" ∷ user ∷ codes "submit" ∷ app_text id ∷ submission_pieces submission
message_pieces (Master attempt (Finish text)) = codes "master" ∷ attempt_text attempt ∷ codes "finish" ∷ cut 32 text
message_pieces message = message_words message

pub cut_message : (message : Message) → IsPageMessage message → cut 32 (message_text message) ≡ message_pieces message
unfolding message_front message_pieces
cut_message (Client user (Submit id submission)) is =
    cut_with_last (codes "client") (user ∷ codes "submit" ∷ app_text id ∷ submission_front submission) (codes "modify=") submission.modify (message_are (Client user (Submit id submission)) is)
cut_message (Master attempt (Finish text)) is = cut_words_last (codes "master" ∷ attempt_text attempt ∷ codes "finish" ∷ []) text (message_are (Master attempt (Finish text)) is)
cut_message message is = cut_all (message_words message) refl (message_are message is)

-- no line feed stands in a message's words
pub message_lacks_feed : (message : Message) → IsPageMessage message → EachLacks 10 (message_words message)
unfolding message_front
message_lacks_feed (Client user (Submit id submission)) is =
    EachLacks-append 10 (message_front (Client user (Submit id submission))) (text_word (codes "modify=") submission.modify)
    (words_lack 10 (message_front (Client user (Submit id submission))) refl (message_are (Client user (Submit id submission)) is))
    (last_lacks 10 (codes "modify=") submission.modify refl (text_lacks AclText 10 submission.modify refl is.1.1.modify))
message_lacks_feed (Master attempt (Finish text)) is =
    EachLacks-append 10 (message_front (Master attempt (Finish text))) (text ∷ [])
    (words_lack 10 (message_front (Master attempt (Finish text))) refl (message_are (Master attempt (Finish text)) is)) (text_lacks Note 10 text refl is.1, tt)
message_lacks_feed message is = words_lack 10 (message_words message) refl (message_are message is)

-- ---- and come back

pub message_pieces_back : (message : Message) → IsPageMessage message → read_message (message_pieces message) ≡ message
unfolding read_message message_by keyword client_by master_by node_by clock_by expire_by message_pieces
message_pieces_back (Client user New) is = refl
message_pieces_back (Client user (Submit id submission)) is =
    rw (app_back id is.1.0) (ap (λ (s : Submission). Client user (Submit id s)) (ap (λ (name : List ℕ). read_submission name (submission_pieces submission)) (sym is.1.2) ∙ submission_back submission is.1.1))
message_pieces_back (Client user (Report id)) is = rw (app_back id is.1) refl
message_pieces_back (Client user (Kill id)) is = rw (app_back id is.1) refl
message_pieces_back (Master attempt Register) is = rw (attempt_back attempt is.0) refl
message_pieces_back (Master attempt (Finish text)) is = rw (attempt_back attempt is.0, join_cut 32 text) refl
message_pieces_back (Master attempt (Allocate id asks release)) is =
    rw (
      attempt_back attempt is.0,
      number_back id (omega (arith, is.1.0)),
      ask_word (map ask_text asks) (map container_text release),
      release_word (map ask_text asks) (map container_text release),
      whole_list_back ask_text read_ask asks (asks_back asks is.1.1),
      whole_list_back container_text read_container release (ids_back release is.1.2),
    ) refl
message_pieces_back (Node node (Join turn capability running)) is =
    rw (
      number_back turn (omega (arith, is.1.0)),
      number_back capability.memory_mb (omega (arith, is.1.1.0)),
      number_back capability.vcores (omega (arith, is.1.1.1)),
      lone_running_word (map held_text running),
      whole_list_back held_text read_held running (helds_back running is.1.2),
    ) refl
message_pieces_back (Node node (Beat id running done)) is =
    rw (
      number_back id (omega (arith, is.1.0)),
      running_word (map held_text running) (map container_text done),
      done_word (map held_text running) (map container_text done),
      whole_list_back held_text read_held running (helds_back running is.1.1),
      whole_list_back container_text read_container done (ids_back done is.1.2),
    ) refl
message_pieces_back (Clock (Tick time)) is = rw (number_back time is) refl
message_pieces_back (Clock (ExpireNode node)) is = refl
message_pieces_back (Clock (ExpireMaster attempt)) is = rw (attempt_back attempt is) refl

pub message_back : (message : Message) → IsPageMessage message → read_message (cut 32 (message_text message)) ≡ message
message_back message is = ap read_message (cut_message message is) ∙ message_pieces_back message is

pub messages_apart : (a b : Message) → IsPageMessage a → IsPageMessage b → message_text a ≡ message_text b → a ≡ b
messages_apart a b is_a is_b e = sym (message_back a is_a) ∙ ap (λ (text : List ℕ). read_message (cut 32 text)) e ∙ message_back b is_b
