-- The parts of operations, by the words behind the first.
use Rattle.std.proofs.Common.{◌≡◌, ℕ, List, [], ◌∷◌, ◌++◌, true, false, not, eqb, ◌&&◌, refl, sym, ap, ◌∙◌, arith}
use Rattle.std.specs.Prelude.{codes}
use Rattle.std.specs.Str.{bytes_eq}
use Rattle.std.proofs.lemmas.Bool.Decides.{nat_tests}
use Rattle.rm_types.specs.declared.ids.AppId.{AppId}
use Rattle.rm_types.specs.declared.ids.AttemptId.{AttemptId}
use Rattle.rm_types.specs.declared.ids.ContainerId.{ContainerId}
use Rattle.rm_types.specs.declared.operations.How.{How}
use Rattle.rm_types.specs.declared.operations.Op.{Op}
use Rattle.rm_types.specs.declared.operations.Op.TheVariants as ops
use Rattle.rm_types.specs.declared.operations.Submission.{Submission}
use Rattle.rm_types.specs.declared.texts.TextKind.TheVariants.{Node, Note}
use Rattle.rm_types.specs.Ranges.{IsText, IsOperation, IsSubmission, IsAppId, IsAttemptId, IsContainerId, IsMasterOf}
use Rattle.rm_formats.specs.IdTexts.{app_text, attempt_text, container_text}
use Rattle.rm_formats.specs.Wording.{how_text}
use Rattle.rm_page.proofs.Bytes.{cut}
use Rattle.rm_page.proofs.ReadIds.{read_attempt, read_container, attempt_back, container_back}
use Rattle.rm_page.proofs.ReadOperations.{submission_pieces}
use Rattle.rm_lines.proofs.Parts.{differ, first_same, left_same}
use Rattle.rm_page_reader.specs.Pieces.{op_pieces}
use Rattle.rm_lines.specs.Results.{IsOf}
use Rattle.rm_lines.proofs.Splits.{behind_same}

-- the first word, and those behind it
abbrev pub first_word : List (List ℕ) → List ℕ
first_word [] = []
first_word (word ∷ words) = word

abbrev pub behind_first : List (List ℕ) → List (List ℕ)
behind_first [] = []
behind_first (word ∷ words) = words

-- the end of an application
pub record IsAppEnd (words : List (List ℕ)) : Type 0 where
  pub id : AppId
  pub how : How
  pub text : List ℕ
  pub same : words ≡ app_text id ∷ how_text how ∷ cut 32 (codes "text=" ++ text)
  pub id_is : IsAppId id
  pub text_is : IsText Note text

pub app_end_parts : (words : List (List ℕ)) (op : Op) → IsOf op_pieces IsOperation (codes "app-end" ∷ words) op → IsAppEnd words
app_end_parts words (ops.Epoch next stamp) of = absurd (differ (codes "app-end") (codes "epoch") refl (ap first_word of.same))
app_end_parts words (ops.App id submission) of = absurd (differ (codes "app-end") (codes "app") refl (ap first_word of.same))
app_end_parts words (ops.Attempt id master node) of = absurd (differ (codes "app-end") (codes "attempt") refl (ap first_word of.same))
app_end_parts words (ops.AttemptEnd id how text) of = absurd (differ (codes "app-end") (codes "attempt-end") refl (ap first_word of.same))
app_end_parts words (ops.AppEnd id how text) of = record { id = id; how = how; text = text; same = ap behind_first of.same; id_is = of.fits.0; text_is = of.fits.1 }
app_end_parts words (ops.Remove id) of = absurd (differ (codes "app-end") (codes "remove") refl (ap first_word of.same))

-- the end of an attempt
pub record IsAttemptEnd (words : List (List ℕ)) : Type 0 where
  pub id : AttemptId
  pub how : How
  pub text : List ℕ
  pub same : words ≡ attempt_text id ∷ how_text how ∷ cut 32 (codes "text=" ++ text)
  pub id_is : IsAttemptId id
  pub text_is : IsText Note text

pub attempt_end_parts : (words : List (List ℕ)) (op : Op) → IsOf op_pieces IsOperation (codes "attempt-end" ∷ words) op → IsAttemptEnd words
attempt_end_parts words (ops.Epoch next stamp) of = absurd (differ (codes "attempt-end") (codes "epoch") refl (ap first_word of.same))
attempt_end_parts words (ops.App id submission) of = absurd (differ (codes "attempt-end") (codes "app") refl (ap first_word of.same))
attempt_end_parts words (ops.Attempt id master node) of = absurd (differ (codes "attempt-end") (codes "attempt") refl (ap first_word of.same))
attempt_end_parts words (ops.AttemptEnd id how text) of = record { id = id; how = how; text = text; same = ap behind_first of.same; id_is = of.fits.0; text_is = of.fits.1 }
attempt_end_parts words (ops.AppEnd id how text) of = absurd (differ (codes "attempt-end") (codes "app-end") refl (ap first_word of.same))
attempt_end_parts words (ops.Remove id) of = absurd (differ (codes "attempt-end") (codes "remove") refl (ap first_word of.same))

-- an attempt
pub record IsAttempt (words : List (List ℕ)) : Type 0 where
  pub id : AttemptId
  pub master : ContainerId
  pub node : List ℕ
  pub same : words ≡ attempt_text id ∷ (codes "master=" ++ container_text master) ∷ (codes "node=" ++ node) ∷ []
  pub id_is : IsAttemptId id
  pub master_is : IsMasterOf id master
  pub node_is : IsText Node node

pub attempt_parts : (words : List (List ℕ)) (op : Op) → IsOf op_pieces IsOperation (codes "attempt" ∷ words) op → IsAttempt words
attempt_parts words (ops.Epoch next stamp) of = absurd (differ (codes "attempt") (codes "epoch") refl (ap first_word of.same))
attempt_parts words (ops.App id submission) of = absurd (differ (codes "attempt") (codes "app") refl (ap first_word of.same))
attempt_parts words (ops.Attempt id master node) of = record { id = id; master = master; node = node; same = ap behind_first of.same; id_is = of.fits.0; master_is = of.fits.1; node_is = of.fits.2 }
attempt_parts words (ops.AttemptEnd id how text) of = absurd (differ (codes "attempt") (codes "attempt-end") refl (ap first_word of.same))
attempt_parts words (ops.AppEnd id how text) of = absurd (differ (codes "attempt") (codes "app-end") refl (ap first_word of.same))
attempt_parts words (ops.Remove id) of = absurd (differ (codes "attempt") (codes "remove") refl (ap first_word of.same))

self_attempt : (id : AttemptId) → not ((eqb id.app.stamp id.app.stamp && eqb id.app.number id.app.number) && eqb id.number id.number) ≡ true → ⊥
self_attempt id t = absurd (grind (arith, nat_tests))

-- an attempt's parts are its own
pub same_attempt : (one other : AttemptId) → one ≡ other → not ((eqb one.app.stamp other.app.stamp && eqb one.app.number other.app.number) && eqb one.number other.number) ≡ true → ⊥
same_attempt one other e t = self_attempt other (rw e at t)

-- whichever the words say, its master is what stands behind that name
pub other_master : (words left more : List (List ℕ)) (id : AttemptId) (master : ContainerId) (text : List ℕ) → IsAttemptId id → words ≡ attempt_text id ∷ left → left ≡ (codes "master=" ++ text) ∷ more
    → IsOf container_text IsContainerId text master → (master.attempt ≡ id → ⊥) → (op : Op) → IsOf op_pieces IsOperation (codes "attempt" ∷ words) op → ⊥
other_master words left more id master text id_is first second master_is other op of =
    let parts = attempt_parts words op of in
    let id_text : attempt_text id ≡ attempt_text parts.id = first_same first parts.same in
    let same_id : id ≡ parts.id = sym (attempt_back id id_is) ∙ ap read_attempt id_text ∙ attempt_back parts.id parts.id_is in
    let word : codes "master=" ++ text ≡ codes "master=" ++ container_text parts.master = first_same second (left_same first parts.same) in
    let master_text : container_text master ≡ container_text parts.master = sym master_is.same ∙ behind_same (codes "master=") text (container_text parts.master) word in
    let same_master : master ≡ parts.master = sym (container_back master master_is.fits) ∙ ap read_container master_text ∙ container_back parts.master parts.master_is.container in
    other (ap (λ (one : ContainerId). one.attempt) same_master ∙ parts.master_is.attempt ∙ sym same_id)

-- an application
pub record IsApp (words : List (List ℕ)) : Type 0 where
  pub id : AppId
  pub submission : Submission
  pub same : words ≡ app_text id ∷ (codes "user=" ++ submission.user) ∷ submission_pieces submission
  pub id_is : IsAppId id
  pub submission_is : IsSubmission submission

pub app_parts : (words : List (List ℕ)) (op : Op) → IsOf op_pieces IsOperation (codes "app" ∷ words) op → IsApp words
app_parts words (ops.Epoch next stamp) of = absurd (differ (codes "app") (codes "epoch") refl (ap first_word of.same))
app_parts words (ops.App id submission) of = record { id = id; submission = submission; same = ap behind_first of.same; id_is = of.fits.0; submission_is = of.fits.1 }
app_parts words (ops.Attempt id master node) of = absurd (differ (codes "app") (codes "attempt") refl (ap first_word of.same))
app_parts words (ops.AttemptEnd id how text) of = absurd (differ (codes "app") (codes "attempt-end") refl (ap first_word of.same))
app_parts words (ops.AppEnd id how text) of = absurd (differ (codes "app") (codes "app-end") refl (ap first_word of.same))
app_parts words (ops.Remove id) of = absurd (differ (codes "app") (codes "remove") refl (ap first_word of.same))

-- an application that is removed
pub record IsRemove (words : List (List ℕ)) : Type 0 where
  pub id : AppId
  pub same : words ≡ app_text id ∷ []
  pub id_is : IsAppId id

pub remove_parts : (words : List (List ℕ)) (op : Op) → IsOf op_pieces IsOperation (codes "remove" ∷ words) op → IsRemove words
remove_parts words (ops.Epoch next stamp) of = absurd (differ (codes "remove") (codes "epoch") refl (ap first_word of.same))
remove_parts words (ops.App id submission) of = absurd (differ (codes "remove") (codes "app") refl (ap first_word of.same))
remove_parts words (ops.Attempt id master node) of = absurd (differ (codes "remove") (codes "attempt") refl (ap first_word of.same))
remove_parts words (ops.AttemptEnd id how text) of = absurd (differ (codes "remove") (codes "attempt-end") refl (ap first_word of.same))
remove_parts words (ops.AppEnd id how text) of = absurd (differ (codes "remove") (codes "app-end") refl (ap first_word of.same))
remove_parts words (ops.Remove id) of = record { id = id; same = ap behind_first of.same; id_is = of.fits }

-- each operation begins with one of these words
pub no_op : (word : List ℕ) (words : List (List ℕ)) → bytes_eq word (codes "epoch") ≡ false → bytes_eq word (codes "app") ≡ false → bytes_eq word (codes "attempt") ≡ false
    → bytes_eq word (codes "attempt-end") ≡ false → bytes_eq word (codes "app-end") ≡ false → bytes_eq word (codes "remove") ≡ false → (op : Op) → IsOf op_pieces IsOperation (word ∷ words) op → ⊥
no_op word words epoch app attempt attempt_end app_end remove (ops.Epoch next stamp) of = differ word (codes "epoch") epoch (ap first_word of.same)
no_op word words epoch app attempt attempt_end app_end remove (ops.App id submission) of = differ word (codes "app") app (ap first_word of.same)
no_op word words epoch app attempt attempt_end app_end remove (ops.Attempt id master node) of = differ word (codes "attempt") attempt (ap first_word of.same)
no_op word words epoch app attempt attempt_end app_end remove (ops.AttemptEnd id how text) of = differ word (codes "attempt-end") attempt_end (ap first_word of.same)
no_op word words epoch app attempt attempt_end app_end remove (ops.AppEnd id how text) of = differ word (codes "app-end") app_end (ap first_word of.same)
no_op word words epoch app attempt attempt_end app_end remove (ops.Remove id) of = differ word (codes "remove") remove (ap first_word of.same)
