-- Store operations, read back from their texts.
use Rattle.std.proofs.Common.{◌≡◌, ℕ, true, false, cond, List, [], ◌∷◌, ◌++◌, refl, sym, ap, ◌∙◌, arith, codes, Bool}
use Rattle.std.specs.Fmt.{decimal}
use Rattle.std.specs.Str.{bytes_eq}
use Rattle.std.proofs.lemmas.List.{append-nil}
use Rattle.rm_types.specs.declared.operations.How.{How}
use Rattle.rm_types.specs.declared.operations.How.TheVariants.{Finished, Failed, Killed}
use Rattle.rm_types.specs.declared.operations.Op.{Op}
use Rattle.rm_types.specs.declared.operations.Op.TheVariants.{Epoch, App, Attempt, AttemptEnd, AppEnd, Remove}
use Rattle.rm_types.specs.declared.operations.Submission.{Submission}
use Rattle.rm_types.specs.declared.texts.TextKind.TheVariants.{Note, AclText}
use Rattle.rm_types.specs.Empty.{no_submission}
use Rattle.rm_types.specs.Lists.{is_nil}
use Rattle.rm_types.specs.Ranges.{IsSubmission, IsOperation}
use Rattle.rm_formats.specs.IdTexts.{app_text, attempt_text, container_text}
use Rattle.rm_formats.specs.Wording.{spaced, text_word, how_text, op_words, op_text, yes_word}
use Rattle.rm_formats.specs.ids.Digits.{value_of}
use Rattle.rm_page.proofs.Bytes.{made_of, lacks, lacks-append, number_back, text_lacks, cut, join_cut, EachLacks, cut_joined, cut_joined_last, behind, behind_is, is_word_byte, number_word, name_word, node_word, queue_word, AreWords, words_lack, EachLacks-append}
use Rattle.rm_page.proofs.ReadIds.{app_word, attempt_word, container_word, read_app, read_attempt, read_container, app_back, attempt_back, container_back}
use Rattle.std.specs.List.{onto_first}

-- ---- words between spaces

pub cut_words : (word : List ℕ) (words : List (List ℕ)) → AreWords (word ∷ words) → cut 32 (spaced (word ∷ words)) ≡ word ∷ words
cut_words word words are = cut_joined 32 word words (words_lack 32 (word ∷ words) refl are)

-- the same of words of which there are some
pub cut_all : (words : List (List ℕ)) → is_nil words ≡ false → AreWords words → cut 32 (spaced words) ≡ words
cut_all [] some are = absurd cc
cut_all (word ∷ words) some are = cut_words word words are

pub cut_words_last : (words : List (List ℕ)) (last : List ℕ) → AreWords words → cut 32 (spaced (words ++ last ∷ [])) ≡ words ++ cut 32 last
cut_words_last words last are = cut_joined_last 32 words last (words_lack 32 words refl are)

-- ---- a text at the end of a line, in which spaces may stand

-- the pieces of a word that stands only where its text isn't empty
abbrev pub last_pieces : List ℕ → List ℕ → List (List ℕ)
last_pieces label [] = []
last_pieces label (byte ∷ bytes) = cut 32 (label ++ byte ∷ bytes)

pub cut_with_last : (word : List ℕ) (words : List (List ℕ)) (label text : List ℕ) → AreWords (word ∷ words)
    → cut 32 (spaced ((word ∷ words) ++ text_word label text)) ≡ (word ∷ words) ++ last_pieces label text
cut_with_last word words label [] are =
    ap (λ (ws : List (List ℕ)). cut 32 (spaced ws)) (append-nil (word ∷ words)) ∙ cut_words word words are ∙ sym (append-nil (word ∷ words))
cut_with_last word words label (byte ∷ bytes) are = cut_words_last (word ∷ words) (label ++ byte ∷ bytes) are

-- and it has no line feed where its text has none
pub last_lacks : (byte : ℕ) (label text : List ℕ) → lacks byte label ≡ true → lacks byte text ≡ true → EachLacks byte (text_word label text)
last_lacks byte label [] one other = tt
last_lacks byte label (first ∷ bytes) one other = (lacks-append byte label (first ∷ bytes) one other, tt)

-- what stands behind a label at the end of a line
abbrev pub read_last : List ℕ → List (List ℕ) → List ℕ
read_last label pieces = behind label (spaced pieces)

pub last_back : (label text : List ℕ) → read_last label (cut 32 (label ++ text)) ≡ text
last_back label text = ap (behind label) (join_cut 32 (label ++ text)) ∙ behind_is label text

pub last_word_back : (byte : ℕ) (label text : List ℕ) → read_last (byte ∷ label) (last_pieces (byte ∷ label) text) ≡ text
last_word_back byte label [] = refl
last_word_back byte label (one ∷ bytes) = last_back (byte ∷ label) (one ∷ bytes)

-- ---- submissions

-- whether a word that says so stands first, and what stands behind it
is_kept : List (List ℕ) → Bool
is_kept [] = false
is_kept (word ∷ words) = bytes_eq word (codes "keep=yes")

behind_keep : List (List ℕ) → List (List ℕ)
behind_keep [] = []
behind_keep (word ∷ words) = cond (bytes_eq word (codes "keep=yes")) words (word ∷ words)

-- what a user submits, by the pieces behind the application's id
pub read_submission : List ℕ → List (List ℕ) → Submission
read_submission user (queue ∷ name ∷ memory ∷ vcores ∷ attempts ∷ rest) = record {
  user = user;
  queue = behind (codes "queue=") queue;
  name = behind (codes "name=") name;
  master = record { memory_mb = value_of (behind (codes "memory=") memory); vcores = value_of (behind (codes "vcores=") vcores) };
  attempts = value_of (behind (codes "attempts=") attempts);
  keep = is_kept rest;
  modify = read_last (codes "modify=") (behind_keep rest);
}
read_submission user pieces = no_submission

abbrev pub submission_pieces : Submission → List (List ℕ)
submission_pieces submission =
    (codes "queue=" ++ submission.queue)
    ∷ (codes "name=" ++ submission.name)
    ∷ (codes "memory=" ++ decimal submission.master.memory_mb)
    ∷ (codes "vcores=" ++ decimal submission.master.vcores)
    ∷ (codes "attempts=" ++ decimal submission.attempts)
    ∷ (yes_word (codes "keep=") submission.keep ++ last_pieces (codes "modify=") submission.modify)

abbrev pub submission_front : Submission → List (List ℕ)
submission_front submission =
    (codes "queue=" ++ submission.queue)
    ∷ (codes "name=" ++ submission.name)
    ∷ (codes "memory=" ++ decimal submission.master.memory_mb)
    ∷ (codes "vcores=" ++ decimal submission.master.vcores)
    ∷ (codes "attempts=" ++ decimal submission.attempts)
    ∷ yes_word (codes "keep=") submission.keep

keep_are : (keep : Bool) → AreWords (yes_word (codes "keep=") keep)
keep_are true = (refl, tt)
keep_are false = tt

pub submission_are : (submission : Submission) → IsSubmission submission → AreWords (submission_front submission)
submission_are submission is = (
  queue_word submission.queue is.queue,
  (
    name_word submission.name is.name,
    (
      number_word submission.master.memory_mb (omega (arith, is.memory_mb.1)),
      (
        number_word submission.master.vcores (omega (arith, is.vcores.1)),
        (number_word submission.attempts (omega (arith, is.attempts.1)), keep_are submission.keep),
      ),
    ),
  ),
)

keep_back : (keep : Bool) (modify : List ℕ) → (is_kept (yes_word (codes "keep=") keep ++ last_pieces (codes "modify=") modify) ≡ keep)
    × (behind_keep (yes_word (codes "keep=") keep ++ last_pieces (codes "modify=") modify) ≡ last_pieces (codes "modify=") modify)
unfolding is_kept behind_keep
keep_back true modify = (refl, refl)
keep_back false [] = (refl, refl)
keep_back false (byte ∷ bytes) = other (cut 32 (codes "odify=" ++ byte ∷ bytes))
  where
    other : (pieces : List (List ℕ)) → (is_kept (onto_first 109 pieces) ≡ false) × (behind_keep (onto_first 109 pieces) ≡ onto_first 109 pieces)
    other [] = (refl, refl)
    other (piece ∷ pieces) = (refl, refl)

pub submission_back : (submission : Submission) → IsSubmission submission → read_submission submission.user (submission_pieces submission) ≡ submission
unfolding read_submission
submission_back submission is =
    let keep = keep_back submission.keep submission.modify in
    rw (number_back submission.master.memory_mb (omega (arith, is.memory_mb.1)), number_back submission.master.vcores (omega (arith, is.vcores.1)), number_back submission.attempts (omega (arith, is.attempts.1)), keep.0, keep.1)
    (ap (λ (modify : List ℕ). record submission { modify = modify }) (last_word_back 109 (codes "odify=") submission.modify))

-- ---- operations

data OpWord : Type 0 where
  EpochWord : OpWord
  AppWord : OpWord
  AttemptWord : OpWord
  AttemptEndWord : OpWord
  AppEndWord : OpWord
  RemoveWord : OpWord

op_word : List ℕ → OpWord
op_word word =
    cond (bytes_eq word (codes "epoch")) EpochWord
    (cond (bytes_eq word (codes "app")) AppWord
    (cond (bytes_eq word (codes "attempt")) AttemptWord
    (cond (bytes_eq word (codes "attempt-end")) AttemptEndWord
    (cond (bytes_eq word (codes "app-end")) AppEndWord RemoveWord))))

read_how : List ℕ → How
read_how word = cond (bytes_eq word (codes "FINISHED")) Finished (cond (bytes_eq word (codes "FAILED")) Failed Killed)

op_by : OpWord → List (List ℕ) → Op
op_by EpochWord (next ∷ stamp ∷ []) = Epoch (value_of (behind (codes "next=") next)) (value_of (behind (codes "stamp=") stamp))
op_by AppWord (id ∷ user ∷ pieces) = App (read_app id) (read_submission (behind (codes "user=") user) pieces)
op_by AttemptWord (id ∷ master ∷ node ∷ []) = Attempt (read_attempt id) (read_container (behind (codes "master=") master)) (behind (codes "node=") node)
op_by AttemptEndWord (id ∷ how ∷ text) = AttemptEnd (read_attempt id) (read_how how) (read_last (codes "text=") text)
op_by AppEndWord (id ∷ how ∷ text) = AppEnd (read_app id) (read_how how) (read_last (codes "text=") text)
op_by RemoveWord (id ∷ []) = Remove (read_app id)
op_by word pieces = Epoch 0 0

-- an operation by the pieces of its text
pub read_op : List (List ℕ) → Op
read_op (word ∷ pieces) = op_by (op_word word) pieces
read_op [] = Epoch 0 0

how_word : (how : How) → made_of is_word_byte (how_text how) ≡ true
how_word Finished = refl
how_word how = refl

how_back : (how : How) → read_how (how_text how) ≡ how
unfolding read_how
how_back Finished = refl
how_back how = refl

-- the words of an operation but a text in which spaces may stand
op_front : Op → List (List ℕ)
op_front (App id submission) = codes "app" ∷ app_text id ∷ (codes "user=" ++ submission.user) ∷ submission_front submission
op_front (AttemptEnd id how text) = codes "attempt-end" ∷ attempt_text id ∷ how_text how ∷ []
op_front (AppEnd id how text) = codes "app-end" ∷ app_text id ∷ how_text how ∷ []
op_front op = op_words op

op_are : (op : Op) → IsOperation op → AreWords (op_front op)
unfolding op_front
op_are (Epoch next stamp) is = (refl, (number_word next (omega (arith, is.0.1)), (number_word stamp (omega (arith, is.1.1)), tt)))
op_are (App id submission) is = (refl, (app_word id is.0, (name_word submission.user is.1.user, submission_are submission is.1)))
op_are (Attempt id master node) is = (refl, (attempt_word id is.0, (container_word master is.1.container, (node_word node is.2, tt))))
op_are (AttemptEnd id how text) is = (refl, (attempt_word id is.0, (how_word how, tt)))
op_are (AppEnd id how text) is = (refl, (app_word id is.0, (how_word how, tt)))
op_are (Remove id) is = (refl, (app_word id is, tt))

pub op_back : (op : Op) → IsOperation op → read_op (cut 32 (op_text op)) ≡ op
unfolding read_op op_by op_word op_front
op_back (Epoch next stamp) is =
    ap read_op (cut_words (codes "epoch") ((codes "next=" ++ decimal next) ∷ (codes "stamp=" ++ decimal stamp) ∷ []) (op_are (Epoch next stamp) is))
    ∙ rw (number_back next (omega (arith, is.0.1)), number_back stamp (omega (arith, is.1.1))) refl
op_back (App id submission) is =
    ap read_op (cut_with_last (codes "app") (app_text id ∷ (codes "user=" ++ submission.user) ∷ submission_front submission) (codes "modify=") submission.modify (op_are (App id submission) is))
    ∙ rw (app_back id is.0, submission_back submission is.1) refl
op_back (Attempt id master node) is =
    ap read_op (cut_words (codes "attempt") (attempt_text id ∷ (codes "master=" ++ container_text master) ∷ (codes "node=" ++ node) ∷ []) (op_are (Attempt id master node) is))
    ∙ rw (attempt_back id is.0, container_back master is.1.container) refl
op_back (AttemptEnd id how text) is =
    ap read_op (cut_words_last (codes "attempt-end" ∷ attempt_text id ∷ how_text how ∷ []) (codes "text=" ++ text) (op_are (AttemptEnd id how text) is))
    ∙ rw (attempt_back id is.0, how_back how, last_back (codes "text=") text) refl
op_back (AppEnd id how text) is =
    ap read_op (cut_words_last (codes "app-end" ∷ app_text id ∷ how_text how ∷ []) (codes "text=" ++ text) (op_are (AppEnd id how text) is))
    ∙ rw (app_back id is.0, how_back how, last_back (codes "text=") text) refl
op_back (Remove id) is = ap read_op (cut_words (codes "remove") (app_text id ∷ []) (op_are (Remove id) is)) ∙ rw (app_back id is) refl

-- no line feed stands in an operation's words
pub op_lacks_feed : (op : Op) → IsOperation op → EachLacks 10 (op_words op)
unfolding op_front
op_lacks_feed (App id submission) is =
    EachLacks-append 10 (op_front (App id submission)) (text_word (codes "modify=") submission.modify) (words_lack 10 (op_front (App id submission)) refl (op_are (App id submission) is))
    (last_lacks 10 (codes "modify=") submission.modify refl (text_lacks AclText 10 submission.modify refl is.1.modify))
op_lacks_feed (AttemptEnd id how text) is =
    EachLacks-append 10 (op_front (AttemptEnd id how text)) ((codes "text=" ++ text) ∷ []) (words_lack 10 (op_front (AttemptEnd id how text)) refl (op_are (AttemptEnd id how text) is))
    (text_lacks Note 10 text refl is.1, tt)
op_lacks_feed (AppEnd id how text) is =
    EachLacks-append 10 (op_front (AppEnd id how text)) ((codes "text=" ++ text) ∷ []) (words_lack 10 (op_front (AppEnd id how text)) refl (op_are (AppEnd id how text) is))
    (text_lacks Note 10 text refl is.1, tt)
op_lacks_feed op is = words_lack 10 (op_words op) refl (op_are op is)

pub ops_apart : (a b : Op) → IsOperation a → IsOperation b → op_text a ≡ op_text b → a ≡ b
ops_apart a b is_a is_b e = sym (op_back a is_a) ∙ ap (λ (text : List ℕ). read_op (cut 32 text)) e ∙ op_back b is_b
