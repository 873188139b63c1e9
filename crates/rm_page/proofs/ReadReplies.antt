-- Replies, read back from their texts.
use Rattle.std.proofs.Common.{◌≡◌, ℕ, true, cond, List, [], ◌∷◌, ◌++◌, map, All, refl, sym, ap, ◌∙◌, arith, codes}
use Rattle.std.specs.Prelude.{◌↔◌}
use Rattle.std.specs.Fmt.{decimal}
use Rattle.std.specs.Str.{bytes_eq}
use Rattle.std.proofs.lemmas.List.{map-id}
use Rattle.std.proofs.lemmas.List.Elements.{All-weaker}
use Rattle.rm_types.specs.declared.containers.Closing.{Closing}
use Rattle.rm_types.specs.declared.containers.Grant.{Grant}
use Rattle.rm_types.specs.declared.replies.AclOp.{AclOp}
use Rattle.rm_types.specs.declared.replies.AclOp.TheVariants.{Submit as ToSubmit, Kill as ToKill}
use Rattle.rm_types.specs.declared.replies.Report.{Report as ReportOf}
use Rattle.rm_types.specs.declared.replies.Reply.{Reply}
use Rattle.rm_types.specs.declared.replies.Reply.TheVariants as replies
use Rattle.rm_types.specs.declared.replies.StateWord.{StateWord}
use Rattle.rm_types.specs.declared.replies.StateWord.TheVariants as states
use Rattle.rm_types.specs.declared.texts.TextKind.TheVariants.{Note, Queue}
use Rattle.rm_types.specs.Ranges.{IsText}
use Rattle.rm_formats.specs.IdTexts.{container_text}
use Rattle.rm_formats.specs.Wording.{spaced, listed, acl_op_text, state_text, grant_text, closing_text, reply_words, reply_text}
use Rattle.rm_formats.specs.ids.Digits.{value_of}
use Rattle.rm_page.specs.Ranges.{IsPageReply, IsGrant, IsClosing}
use Rattle.rm_page.specs.Shown.{told_grant, shown_reply}
use Rattle.rm_page.proofs.Bytes.{made_of, number_back, text_lacks, cut, EachLacks, behind, is_word_byte, number_word, name_word, queue_word, AreWords, words_lack, EachLacks-append}
use Rattle.rm_page.proofs.ReadIds.{app_word, read_app, read_container, app_back}
use Rattle.rm_page.proofs.ReadOperations.{cut_all, cut_words_last, read_last, last_back}
use Rattle.rm_page.proofs.ReadLists.{ComesBack, read_list, whole_list_back, listed_word, read_bracketed, bracketed_back, bracketed_word, texts_come_back, read_grant, grant_comes_back, read_closing, closing_comes_back}
use Rattle.rm_page.proofs.ReadMessages.{ids_back}

-- ---- how they are read

read_acl_op : List ℕ → AclOp
read_acl_op word = cond (bytes_eq word (codes "submit")) ToSubmit ToKill

read_state : List ℕ → StateWord
read_state word =
    cond (bytes_eq word (codes "NEW")) states.New
    (cond (bytes_eq word (codes "NEW_SAVING")) states.NewSaving
    (cond (bytes_eq word (codes "SUBMITTED")) states.Submitted
    (cond (bytes_eq word (codes "ACCEPTED")) states.Accepted
    (cond (bytes_eq word (codes "RUNNING")) states.Running
    (cond (bytes_eq word (codes "FINISHED")) states.Finished
    (cond (bytes_eq word (codes "FAILED")) states.Failed states.Killed))))))

-- a reply of one word
read_plain : List ℕ → Reply
read_plain word =
    cond (bytes_eq word (codes "NOTOPEN")) replies.NotOpen
    (cond (bytes_eq word (codes "submitted")) replies.Submitted
    (cond (bytes_eq word (codes "BADID")) replies.BadId
    (cond (bytes_eq word (codes "RETIRED")) replies.Retired
    (cond (bytes_eq word (codes "NOQUEUE")) replies.NoQueue
    (cond (bytes_eq word (codes "TOOLARGE")) replies.TooLarge
    (cond (bytes_eq word (codes "FULL")) replies.Full
    (cond (bytes_eq word (codes "UNKNOWN")) replies.Unknown
    (cond (bytes_eq word (codes "killing")) replies.Killing
    (cond (bytes_eq word (codes "ended")) replies.AppEnded
    (cond (bytes_eq word (codes "registered")) replies.MasterRegistered
    (cond (bytes_eq word (codes "ALREADY")) replies.Already
    (cond (bytes_eq word (codes "GONE")) replies.Gone
    (cond (bytes_eq word (codes "RESYNC")) replies.Resync
    (cond (bytes_eq word (codes "WRONGID")) replies.WrongId
    (cond (bytes_eq word (codes "NOTREGISTERED")) replies.NotRegistered
    (cond (bytes_eq word (codes "finishing")) replies.Finishing
    (cond (bytes_eq word (codes "finished")) replies.Finished replies.Ok)))))))))))))))))

data Keyword : Type 0 where
  DeniedWord : Keyword
  ReportWord : Keyword
  AllocatedWord : Keyword
  BeatWord : Keyword

keyword : List ℕ → Keyword
keyword word =
    cond (bytes_eq word (codes "DENIED")) DeniedWord
    (cond (bytes_eq word (codes "report")) ReportWord
    (cond (bytes_eq word (codes "allocated")) AllocatedWord BeatWord))

reply_by : Keyword → List (List ℕ) → Reply
reply_by DeniedWord (op ∷ queue ∷ by ∷ lists ∷ []) = replies.Denied (record { op = read_acl_op op; queue = queue; lists = read_list (λ name. name) lists })
reply_by ReportWord (state ∷ user ∷ queue ∷ name ∷ attempts ∷ live ∷ text) = replies.Report (record {
  state = read_state (behind (codes "state=") state);
  user = behind (codes "user=") user;
  queue = behind (codes "queue=") queue;
  name = behind (codes "name=") name;
  attempts = value_of (behind (codes "attempts=") attempts);
  live = value_of (behind (codes "live=") live);
  text = read_last (codes "text=") text;
})
reply_by AllocatedWord (id ∷ grants ∷ ended ∷ []) =
    replies.Allocated (value_of (behind (codes "id=") id)) (read_bracketed read_grant (codes "grants=[") grants) (read_bracketed read_closing (codes "ended=[") ended)
reply_by BeatWord (id ∷ launch ∷ clean ∷ []) =
    replies.Beat (value_of (behind (codes "id=") id)) (read_bracketed read_container (codes "launch=[") launch) (read_bracketed read_container (codes "clean=[") clean)
reply_by word pieces = replies.Ok

-- a reply by the pieces of its text
pub read_reply : List (List ℕ) → Reply
read_reply (word ∷ []) = read_plain word
read_reply (word ∷ id ∷ []) = cond (bytes_eq word (codes "registered")) (replies.Took (read_bracketed read_grant (codes "kept=[") id)) (replies.New (read_app id))
read_reply (word ∷ turn ∷ epoch ∷ []) = replies.NodeRegistered (value_of (behind (codes "turn=") turn)) (value_of (behind (codes "epoch=") epoch))
read_reply (word ∷ pieces) = reply_by (keyword word) pieces
read_reply [] = replies.Ok

-- ---- their words

acl_op_word : (op : AclOp) → made_of is_word_byte (acl_op_text op) ≡ true
acl_op_word ToSubmit = refl
acl_op_word ToKill = refl

acl_op_back : (op : AclOp) → read_acl_op (acl_op_text op) ≡ op
unfolding read_acl_op
acl_op_back ToSubmit = refl
acl_op_back ToKill = refl

state_word : (state : StateWord) → made_of is_word_byte (state_text state) ≡ true
state_word states.New = refl
state_word state = refl

state_back : (state : StateWord) → read_state (state_text state) ≡ state
unfolding read_state
state_back states.New = refl
state_back state = refl

names_come_back : (names : List (List ℕ)) → All (IsText Queue) names → All (ComesBack (λ x. x) (λ x. x) (λ x. x)) names
names_come_back names all = All-weaker (IsText Queue) (ComesBack (λ x. x) (λ x. x) (λ x. x)) texts_come_back names all

names_word : (names : List (List ℕ)) → All (IsText Queue) names → made_of is_word_byte (listed names) ≡ true
names_word names all =
    ap (λ (ns : List (List ℕ)). made_of is_word_byte (listed ns)) (sym (map-id names)) ∙ listed_word (λ x. x) (λ x. x) (λ x. x) names (names_come_back names all)

names_back : (names : List (List ℕ)) → All (IsText Queue) names → read_list (λ name. name) (listed names) ≡ names
names_back names all =
    ap (λ (ns : List (List ℕ)). read_list (λ name. name) (listed ns)) (sym (map-id names)) ∙ whole_list_back (λ x. x) (λ x. x) names (names_come_back names all)

grants_back : (grants : List Grant) → All IsGrant grants → All (ComesBack grant_text read_grant told_grant) grants
grants_back grants all = All-weaker IsGrant (ComesBack grant_text read_grant told_grant) grant_comes_back grants all

closings_back : (ended : List Closing) → All IsClosing ended → All (ComesBack closing_text read_closing (λ x. x)) ended
closings_back ended all = All-weaker IsClosing (ComesBack closing_text read_closing (λ x. x)) closing_comes_back ended all

abbrev report_front : ReportOf → List (List ℕ)
report_front report =
    codes "report"
    ∷ (codes "state=" ++ state_text report.state)
    ∷ (codes "user=" ++ report.user)
    ∷ (codes "queue=" ++ report.queue)
    ∷ (codes "name=" ++ report.name)
    ∷ (codes "attempts=" ++ decimal report.attempts)
    ∷ (codes "live=" ++ decimal report.live)
    ∷ []

-- the words of a reply but a text in which spaces may stand
unfoldable pub reply_front : Reply → List (List ℕ)
reply_front (replies.Report report) = report_front report
reply_front reply = reply_words reply

pub reply_are : (reply : Reply) → IsPageReply reply → AreWords (reply_front reply)
unfolding reply_front
reply_are (replies.New id) is = (refl, (app_word id is, tt))
reply_are (replies.Denied denial) is = (refl, (acl_op_word denial.op, (queue_word denial.queue is.queue, (refl, (names_word denial.lists is.lists, tt)))))
reply_are (replies.Report report) is = (
  refl,
  (
    state_word report.state,
    (
      name_word report.user is.user,
      (
        queue_word report.queue is.queue,
        (
          name_word report.name is.name,
          (number_word report.attempts (omega (arith, is.attempts)), (number_word report.live (omega (arith, is.live)), tt)),
        ),
      ),
    ),
  ),
)
reply_are (replies.Took kept) is = (refl, (bracketed_word grant_text read_grant told_grant kept (grants_back kept is), tt))
reply_are (replies.Allocated id grants ended) is = (
  refl,
  (
    number_word id (omega (arith, is.0)),
    (bracketed_word grant_text read_grant told_grant grants (grants_back grants is.1), (bracketed_word closing_text read_closing (λ x. x) ended (closings_back ended is.2), tt)),
  ),
)
reply_are (replies.NodeRegistered turn epoch) is = (refl, (number_word turn (omega (arith, is.0)), (number_word epoch (omega (arith, is.1)), tt)))
reply_are (replies.Beat id launch clean) is = (
  refl,
  (
    number_word id (omega (arith, is.0)),
    (bracketed_word container_text read_container (λ x. x) launch (ids_back launch is.1), (bracketed_word container_text read_container (λ x. x) clean (ids_back clean is.2), tt)),
  ),
)
reply_are reply is = (refl, tt)

-- the pieces of a reply's text
unfoldable pub reply_pieces : Reply → List (List ℕ)
reply_pieces (replies.Report report) = report_front report ++ cut 32 (codes "text=" ++ report.text)
reply_pieces reply = reply_words reply

pub cut_reply : (reply : Reply) → IsPageReply reply → cut 32 (reply_text reply) ≡ reply_pieces reply
unfolding reply_front reply_pieces
cut_reply (replies.Report report) is = cut_words_last (report_front report) (codes "text=" ++ report.text) (reply_are (replies.Report report) is)
cut_reply reply is = cut_all (reply_words reply) refl (reply_are reply is)

-- no line feed stands in a reply's words
pub reply_lacks_feed : (reply : Reply) → IsPageReply reply → EachLacks 10 (reply_words reply)
unfolding reply_front
reply_lacks_feed (replies.Report report) is =
    EachLacks-append 10 (report_front report) ((codes "text=" ++ report.text) ∷ []) (words_lack 10 (report_front report) refl (reply_are (replies.Report report) is)) (text_lacks Note 10 report.text refl is.text, tt)
reply_lacks_feed reply is = words_lack 10 (reply_words reply) refl (reply_are reply is)

-- ---- and come back

pub reply_pieces_back : (reply : Reply) → IsPageReply reply → read_reply (reply_pieces reply) ≡ shown_reply reply
unfolding read_reply reply_by keyword read_plain reply_pieces
reply_pieces_back (replies.New id) is = rw (app_back id is) refl
reply_pieces_back (replies.Denied denial) is = rw (acl_op_back denial.op, names_back denial.lists is.lists) refl
reply_pieces_back (replies.Report report) is =
    rw (state_back report.state, number_back report.attempts (omega (arith, is.attempts)), number_back report.live (omega (arith, is.live)), last_back (codes "text=") report.text) refl
reply_pieces_back (replies.Took kept) is = rw (bracketed_back grant_text read_grant told_grant (codes "kept=[") kept (grants_back kept is)) refl
reply_pieces_back (replies.Allocated id grants ended) is =
    rw (
      number_back id (omega (arith, is.0)),
      bracketed_back grant_text read_grant told_grant (codes "grants=[") grants (grants_back grants is.1),
      bracketed_back closing_text read_closing (λ x. x) (codes "ended=[") ended (closings_back ended is.2),
      map-id ended,
    ) refl
reply_pieces_back (replies.NodeRegistered turn epoch) is = rw (number_back turn (omega (arith, is.0)), number_back epoch (omega (arith, is.1))) refl
reply_pieces_back (replies.Beat id launch clean) is =
    rw (
      number_back id (omega (arith, is.0)),
      bracketed_back container_text read_container (λ x. x) (codes "launch=[") launch (ids_back launch is.1),
      bracketed_back container_text read_container (λ x. x) (codes "clean=[") clean (ids_back clean is.2),
      map-id launch,
      map-id clean,
    ) refl
reply_pieces_back reply is = refl

pub reply_back : (reply : Reply) → IsPageReply reply → read_reply (cut 32 (reply_text reply)) ≡ shown_reply reply
reply_back reply is = ap read_reply (cut_reply reply is) ∙ reply_pieces_back reply is

-- items have the same texts where what is left out isn't shown
pub same_texts : {X Y : Type 0} (text : X → List ℕ) (shown : Y → X) (whole : Y → List ℕ) (items : List Y) → ((item : Y) → text (shown item) ≡ whole item)
    → map text (map shown items) ≡ map whole items
same_texts text shown whole [] same = refl
same_texts text shown whole (item ∷ items) same = rw (same item, same_texts text shown whole items same) refl

-- what a text shows of a reply has the reply's words
pub reply_words-shown : (reply : Reply) → reply_words (shown_reply reply) ≡ reply_words reply
reply_words-shown (replies.Took kept) = rw (same_texts grant_text told_grant grant_text kept (λ grant. refl)) refl
reply_words-shown (replies.Allocated id grants ended) = rw (same_texts grant_text told_grant grant_text grants (λ grant. refl)) refl
reply_words-shown reply = refl

pub replies_show : (a b : Reply) → IsPageReply a → IsPageReply b → (reply_text a ≡ reply_text b) ↔ (shown_reply a ≡ shown_reply b)
replies_show a b is_a is_b = (
  λ e. sym (reply_back a is_a) ∙ ap (λ (text : List ℕ). read_reply (cut 32 text)) e ∙ reply_back b is_b,
  λ e. ap spaced (sym (reply_words-shown a) ∙ ap reply_words e ∙ reply_words-shown b),
)
