-- Frames that begin the same bytes are of one operation.
use Rattle.std.proofs.Common.{◌≡◌, ℕ, ◌-◌, ◌^◌, ◌<◌, ◌≤◌, Bool, true, false, cond, List, ◌∷◌, ◌++◌, length, get_or, take, drop, Option, Some, None, refl, sym, ap, ◌∙◌, append_assoc, subst, arith, ◌+◌}
use Rattle.std.specs.Prelude.{nat_le, nat_lt, unwrap_or}
use Rattle.std.specs.Int.{w16, w32, w64, to_be_bytes}
use Rattle.std.proofs.lemmas.Bool.{leb-true}
use Rattle.std.proofs.lemmas.List.{take_at, drop_at, length-drop, take-append-drop, length-append}
use Rattle.rm_types.specs.declared.ids.AppId.{AppId}
use Rattle.rm_types.specs.declared.ids.AttemptId.{AttemptId}
use Rattle.rm_types.specs.declared.ids.ContainerId.{ContainerId}
use Rattle.rm_types.specs.declared.operations.How.{How}
use Rattle.rm_types.specs.declared.operations.How.TheVariants.{Finished, Failed, Killed}
use Rattle.rm_types.specs.declared.operations.Op.{Op}
use Rattle.rm_types.specs.declared.operations.Op.TheVariants.{Epoch, App, Attempt, AttemptEnd, AppEnd, Remove}
use Rattle.rm_types.specs.declared.operations.Submission.{Submission}
use Rattle.rm_types.specs.declared.resources.Resource.{Resource}
use Rattle.rm_types.specs.declared.texts.TextKind.{TextKind}
use Rattle.rm_types.specs.declared.texts.TextKind.TheVariants.{Name, Node, Queue, Note, AclText}
use Rattle.rm_formats.specs.Frames.{frame, text_frame, app_id_frame, attempt_id_frame, master_frame, submission_frame, older_submission_frame, how_code, yes_code, Reads as ReadsAs, now, older}
use Rattle.rm_types.specs.Ranges.{IsOperation, IsText, IsSubmission}
use Rattle.rm_types.specs.Ranges.{IsAppId, IsAttemptId, IsContainerId}
use Rattle.rm_types.specs.Texts.{fault_of, first_not_allowed, least_length, greatest_length}
use Rattle.rm_types.proofs.IdLemmas.{container_of_parts, attempt_of_parts, app_of_parts}
use Rattle.rm_formats.specs.declared.codes.TheConstants.{EPOCH_CODE, OLDER_APP_CODE, APP_CODE, ATTEMPT_CODE, ATTEMPT_END_CODE, APP_END_CODE, REMOVE_CODE}
use Rattle.rm_frame.specs.Framed.{IsFramed, keep_frame, submission_frame_by}
use Rattle.rm_frame.specs.Reads.{ReadsOp}
use Rattle.rm_frame.proofs.Numbers.{wide16, wide32, wide64, number_alike}

-- ---- a text is short enough for its length to stand in two bytes

short_test : (small long : Bool) (place : ℕ) (rest : Option ℕ) → (cond small (Some 0) (cond long rest (Some place))) ≡ None → long ≡ true
short_test true long place rest e = absurd cc
short_test false true place rest e = refl
short_test false false place rest e = absurd cc

short_by : (kind : TextKind) (text : List ℕ) → fault_of kind text ≡ None → length text ≤ greatest_length kind
short_by kind text e =
    leb-true (length text) (greatest_length kind)
    (short_test (nat_lt (length text) (least_length kind)) (nat_le (length text) (greatest_length kind))
    (unwrap_or (first_not_allowed kind (take (greatest_length kind) text)) (greatest_length kind)) (first_not_allowed kind text) e)

greatest_below : (kind : TextKind) → greatest_length kind < 2 ^ 16
greatest_below Name = omega arith
greatest_below Node = omega arith
greatest_below Queue = omega arith
greatest_below Note = omega arith
greatest_below AclText = omega arith

pub text_short : (kind : TextKind) (text : List ℕ) → IsText kind text → length text < 2 ^ 16
text_short kind text h = omega (arith, short_by kind text h, greatest_below kind)

-- ---- parts that begin the same bytes are equal, and so is what follows

text_alike_so : (s t x y : List ℕ) → length s < 2 ^ 16 → length t < 2 ^ 16 → text_frame s ++ x ≡ text_frame t ++ y → (s ≡ t) × (x ≡ y)
text_alike_so s t x y short_s short_t e =
    let both : to_be_bytes w16 (length s) ++ (s ++ x) ≡ to_be_bytes w16 (length t) ++ (t ++ y) =
    sym (append_assoc (to_be_bytes w16 (length s)) s x) ∙ e ∙ append_assoc (to_be_bytes w16 (length t)) t y in
    let n = number_alike w16 (2 ^ 16) wide16 (length s) (length t) (s ++ x) (t ++ y) short_s short_t both in (
      sym (take_at s x (length t) n.0) ∙ ap (take (length t)) n.1 ∙ take_at t y (length t) refl,
      sym (drop_at s x (length t) n.0) ∙ ap (drop (length t)) n.1 ∙ drop_at t y (length t) refl,
    )

text_alike : (kind : TextKind) (s t x y : List ℕ) → IsText kind s → IsText kind t → text_frame s ++ x ≡ text_frame t ++ y → (s ≡ t) × (x ≡ y)
text_alike kind s t x y is_s is_t e = text_alike_so s t x y (text_short kind s is_s) (text_short kind t is_t) e

-- behind more bytes
text_alike_before : (kind : TextKind) (s t back_s back_t x y : List ℕ) → IsText kind s → IsText kind t → (text_frame s ++ back_s) ++ x ≡ (text_frame t ++ back_t) ++ y → (s ≡ t) × (back_s ++ x ≡ back_t ++ y)
text_alike_before kind s t back_s back_t x y is_s is_t e =
    text_alike kind s t (back_s ++ x) (back_t ++ y) is_s is_t (sym (append_assoc (text_frame s) back_s x) ∙ e ∙ append_assoc (text_frame t) back_t y)

number32_alike : (m n : ℕ) (x y : List ℕ) → m < 2 ^ 32 → n < 2 ^ 32 → to_be_bytes w32 m ++ x ≡ to_be_bytes w32 n ++ y → (m ≡ n) × (x ≡ y)
number32_alike m n x y lt_m lt_n e = number_alike w32 (2 ^ 32) wide32 m n x y lt_m lt_n e

number64_alike : (m n : ℕ) (x y : List ℕ) → m < 2 ^ 64 → n < 2 ^ 64 → to_be_bytes w64 m ++ x ≡ to_be_bytes w64 n ++ y → (m ≡ n) × (x ≡ y)
number64_alike m n x y lt_m lt_n e = number_alike w64 (2 ^ 64) wide64 m n x y lt_m lt_n e

-- records whose parts are equal are equal

resource_same : (a b : Resource) → a.memory_mb ≡ b.memory_mb → a.vcores ≡ b.vcores → a ≡ b
resource_same a b p q =
    let make : ℕ → ℕ → Resource = λ memory_mb vcores. record { memory_mb = memory_mb; vcores = vcores } in
    ap (λ (memory_mb : ℕ). make memory_mb a.vcores) p ∙ ap (make b.memory_mb) q

submission_same : (a b : Submission) → a.user ≡ b.user → a.queue ≡ b.queue → a.name ≡ b.name → a.master ≡ b.master → a.attempts ≡ b.attempts → a.keep ≡ b.keep → a.modify ≡ b.modify → a ≡ b
submission_same a b p q r s t k u =
    let make : List ℕ → List ℕ → List ℕ → Resource → ℕ → Bool → List ℕ → Submission =
    λ user queue name master attempts keep modify. record { user = user; queue = queue; name = name; master = master; attempts = attempts; keep = keep; modify = modify } in
    ap (λ (user : List ℕ). make user a.queue a.name a.master a.attempts a.keep a.modify) p
    ∙ ap (λ (queue : List ℕ). make b.user queue a.name a.master a.attempts a.keep a.modify) q
    ∙ ap (λ (name : List ℕ). make b.user b.queue name a.master a.attempts a.keep a.modify) r
    ∙ ap (λ (master : Resource). make b.user b.queue b.name master a.attempts a.keep a.modify) s
    ∙ ap (λ (attempts : ℕ). make b.user b.queue b.name b.master attempts a.keep a.modify) t
    ∙ ap (λ (keep : Bool). make b.user b.queue b.name b.master b.attempts keep a.modify) k
    ∙ ap (make b.user b.queue b.name b.master b.attempts b.keep) u

app_id_alike : (a b : AppId) (x y : List ℕ) → IsAppId a → IsAppId b → app_id_frame a ++ x ≡ app_id_frame b ++ y → (a ≡ b) × (x ≡ y)
app_id_alike a b x y is_a is_b e =
    let s = number64_alike a.stamp b.stamp (to_be_bytes w32 a.number ++ x) (to_be_bytes w32 b.number ++ y) (omega (arith, is_a.stamp)) (omega (arith, is_b.stamp)) e in
    let n = number32_alike a.number b.number x y (omega (arith, is_a.number)) (omega (arith, is_b.number)) s.1 in
    (app_of_parts a b s.0 n.0, n.1)

attempt_id_alike : (a b : AttemptId) (x y : List ℕ) → IsAttemptId a → IsAttemptId b → attempt_id_frame a ++ x ≡ attempt_id_frame b ++ y → (a ≡ b) × (x ≡ y)
attempt_id_alike a b x y is_a is_b e =
    let i = app_id_alike a.app b.app (to_be_bytes w32 a.number ++ x) (to_be_bytes w32 b.number ++ y) is_a.app is_b.app e in
    let n = number32_alike a.number b.number x y (omega (arith, is_a.number)) (omega (arith, is_b.number)) i.1 in
    (attempt_of_parts a b i.0 n.0, n.1)

master_alike : (a b : ContainerId) (x y : List ℕ) → IsContainerId a → IsContainerId b → a.attempt ≡ b.attempt → master_frame a ++ x ≡ master_frame b ++ y → (a ≡ b) × (x ≡ y)
master_alike a b x y is_a is_b one e =
    let p = number32_alike a.epoch b.epoch (to_be_bytes w64 a.seq ++ x) (to_be_bytes w64 b.seq ++ y) (omega (arith, is_a.epoch)) (omega (arith, is_b.epoch)) e in
    let n = number64_alike a.seq b.seq x y (omega (arith, is_a.seq)) (omega (arith, is_b.seq)) p.1 in
    (container_of_parts a b one p.0 n.0, n.1)

how_alike : (a b : How) → how_code a ≡ how_code b → a ≡ b
how_alike Finished Finished e = refl
how_alike Finished Failed e = absurd (omega arith)
how_alike Finished Killed e = absurd (omega arith)
how_alike Failed Finished e = absurd (omega arith)
how_alike Failed Failed e = refl
how_alike Failed Killed e = absurd (omega arith)
how_alike Killed Finished e = absurd (omega arith)
how_alike Killed Failed e = absurd (omega arith)
how_alike Killed Killed e = refl

heads_alike : (m n : ℕ) (x y : List ℕ) → ◌≡◌ {A = List ℕ} (m ∷ x) (n ∷ y) → (m ≡ n) × (x ≡ y)
heads_alike m n x y e = (cc, cc)

end_alike : (a b : How) (s t x y : List ℕ) → IsText Note s → IsText Note t → how_code a ∷ (text_frame s ++ x) ≡ how_code b ∷ (text_frame t ++ y) → (a ≡ b) × (s ≡ t) × (x ≡ y)
end_alike a b s t x y is_s is_t e =
    let h = heads_alike (how_code a) (how_code b) (text_frame s ++ x) (text_frame t ++ y) e in
    let u = text_alike Note s t x y is_s is_t h.1 in
    (how_alike a b h.0, u.0, u.1)

yes_alike : (a b : Bool) → yes_code a ≡ yes_code b → a ≡ b
yes_alike true true e = refl
yes_alike true false e = absurd (omega arith)
yes_alike false true e = absurd (omega arith)
yes_alike false false e = refl

keep_alike : (chosen a b : Bool) (s t x y : List ℕ) → IsText AclText s → IsText AclText t → (chosen ≡ false → a ≡ b) → (keep_frame chosen a ++ text_frame s) ++ x ≡ (keep_frame chosen b ++ text_frame t) ++ y → (a ≡ b) × (s ≡ t) × (x ≡ y)
keep_alike true a b s t x y is_s is_t same e =
    let h = heads_alike (yes_code a) (yes_code b) (text_frame s ++ x) (text_frame t ++ y) e in
    let u = text_alike AclText s t x y is_s is_t h.1 in
    (yes_alike a b h.0, u.0, u.1)
keep_alike false a b s t x y is_s is_t same e = let u = text_alike AclText s t x y is_s is_t e in (same refl, u.0, u.1)

submission_alike : (chosen : Bool) (a b : Submission) (x y : List ℕ) → IsSubmission a → IsSubmission b → (chosen ≡ false → a.keep ≡ b.keep) → submission_frame_by chosen a ++ x ≡ submission_frame_by chosen b ++ y → (a ≡ b) × (x ≡ y)
submission_alike chosen a b x y is_a is_b unkept e =
    let last : Submission → List ℕ = λ one. keep_frame chosen one.keep ++ text_frame one.modify in
    let numbers : Submission → List ℕ = λ one. to_be_bytes w32 one.master.memory_mb ++ (to_be_bytes w32 one.master.vcores ++ (to_be_bytes w32 one.attempts ++ last one)) in
    let user = text_alike_before Name a.user b.user (text_frame a.queue ++ (text_frame a.name ++ numbers a)) (text_frame b.queue ++ (text_frame b.name ++ numbers b)) x y is_a.user is_b.user e in
    let queue = text_alike_before Queue a.queue b.queue (text_frame a.name ++ numbers a) (text_frame b.name ++ numbers b) x y is_a.queue is_b.queue user.1 in
    let name = text_alike_before Name a.name b.name (numbers a) (numbers b) x y is_a.name is_b.name queue.1 in
    let memory = number32_alike a.master.memory_mb b.master.memory_mb (to_be_bytes w32 a.master.vcores ++ (to_be_bytes w32 a.attempts ++ (last a ++ x)))
    (to_be_bytes w32 b.master.vcores ++ (to_be_bytes w32 b.attempts ++ (last b ++ y))) (omega (arith, is_a.memory_mb)) (omega (arith, is_b.memory_mb)) name.1 in
    let cores = number32_alike a.master.vcores b.master.vcores (to_be_bytes w32 a.attempts ++ (last a ++ x)) (to_be_bytes w32 b.attempts ++ (last b ++ y)) (omega (arith, is_a.vcores)) (omega (arith, is_b.vcores)) memory.1 in
    let bound = number32_alike a.attempts b.attempts (last a ++ x) (last b ++ y) (omega (arith, is_a.attempts)) (omega (arith, is_b.attempts)) cores.1 in
    let modify = keep_alike chosen a.keep b.keep a.modify b.modify x y is_a.modify is_b.modify unkept bound.1 in
    let master = resource_same a.master b.master memory.0 cores.0 in
    (submission_same a b user.0 queue.0 name.0 master bound.0 modify.0 modify.1, modify.2)

-- ---- operations

pub now_alike : (a b : Op) (x y : List ℕ) → IsOperation a → IsOperation b → frame a ++ x ≡ frame b ++ y → (a ≡ b) × (x ≡ y)
now_alike (Epoch next stamp) (Epoch next2 stamp2) x y can_a can_b e =
    let h = heads_alike EPOCH_CODE EPOCH_CODE (to_be_bytes w32 next ++ (to_be_bytes w64 stamp ++ x)) (to_be_bytes w32 next2 ++ (to_be_bytes w64 stamp2 ++ y)) e in
    let n = number32_alike next next2 (to_be_bytes w64 stamp ++ x) (to_be_bytes w64 stamp2 ++ y) (omega (arith, can_a.0)) (omega (arith, can_b.0)) h.1 in
    let s = number64_alike stamp stamp2 x y (omega (arith, can_a.1)) (omega (arith, can_b.1)) n.1 in
    (ap (λ (k : ℕ). Epoch k stamp) n.0 ∙ ap (Epoch next2) s.0, s.1)
now_alike (App id submission) (App id2 submission2) x y can_a can_b e =
    let h = heads_alike APP_CODE APP_CODE (app_id_frame id ++ (submission_frame submission ++ x)) (app_id_frame id2 ++ (submission_frame submission2 ++ y)) e in
    let i = app_id_alike id id2 (submission_frame submission ++ x) (submission_frame submission2 ++ y) can_a.0 can_b.0 h.1 in
    let s = submission_alike true submission submission2 x y can_a.1 can_b.1 (λ e. cc) i.1 in
    (ap (λ (k : AppId). App k submission) i.0 ∙ ap (App id2) s.0, s.1)
now_alike (Attempt id master node) (Attempt id2 master2 node2) x y can_a can_b e =
    let h = heads_alike ATTEMPT_CODE ATTEMPT_CODE (attempt_id_frame id ++ (master_frame master ++ (text_frame node ++ x))) (attempt_id_frame id2 ++ (master_frame master2 ++ (text_frame node2 ++ y))) e in
    let i = attempt_id_alike id id2 (master_frame master ++ (text_frame node ++ x)) (master_frame master2 ++ (text_frame node2 ++ y)) can_a.0 can_b.0 h.1 in
    let m = master_alike master master2 (text_frame node ++ x) (text_frame node2 ++ y) can_a.1.container can_b.1.container (can_a.1.attempt ∙ i.0 ∙ sym can_b.1.attempt) i.1 in
    let t = text_alike Node node node2 x y can_a.2 can_b.2 m.1 in
    (ap (λ (k : AttemptId). Attempt k master node) i.0 ∙ ap (λ (k : ContainerId). Attempt id2 k node) m.0 ∙ ap (Attempt id2 master2) t.0, t.1)
now_alike (AttemptEnd id how text) (AttemptEnd id2 how2 text2) x y can_a can_b e =
    let h = heads_alike ATTEMPT_END_CODE ATTEMPT_END_CODE (attempt_id_frame id ++ (how_code how ∷ (text_frame text ++ x))) (attempt_id_frame id2 ++ (how_code how2 ∷ (text_frame text2 ++ y))) e in
    let i = attempt_id_alike id id2 (how_code how ∷ (text_frame text ++ x)) (how_code how2 ∷ (text_frame text2 ++ y)) can_a.0 can_b.0 h.1 in
    let t = end_alike how how2 text text2 x y can_a.1 can_b.1 i.1 in
    (ap (λ (k : AttemptId). AttemptEnd k how text) i.0 ∙ ap (λ (k : How). AttemptEnd id2 k text) t.0 ∙ ap (AttemptEnd id2 how2) t.1, t.2)
now_alike (AppEnd id how text) (AppEnd id2 how2 text2) x y can_a can_b e =
    let h = heads_alike APP_END_CODE APP_END_CODE (app_id_frame id ++ (how_code how ∷ (text_frame text ++ x))) (app_id_frame id2 ++ (how_code how2 ∷ (text_frame text2 ++ y))) e in
    let i = app_id_alike id id2 (how_code how ∷ (text_frame text ++ x)) (how_code how2 ∷ (text_frame text2 ++ y)) can_a.0 can_b.0 h.1 in
    let t = end_alike how how2 text text2 x y can_a.1 can_b.1 i.1 in
    (ap (λ (k : AppId). AppEnd k how text) i.0 ∙ ap (λ (k : How). AppEnd id2 k text) t.0 ∙ ap (AppEnd id2 how2) t.1, t.2)
now_alike (Remove id) (Remove id2) x y can_a can_b e =
    let h = heads_alike REMOVE_CODE REMOVE_CODE (app_id_frame id ++ x) (app_id_frame id2 ++ y) e in
    let i = app_id_alike id id2 x y can_a can_b h.1 in
    (ap Remove i.0, i.1)
now_alike a b x y can_a can_b e = absurd (omega (arith, ap (λ (l : List ℕ). get_or l 0 0) e))

-- ---- texts that read as operations

-- the kind of an App as it was kept before is no kind of a frame
no_older : (op : Op) (x y : List ℕ) → ◌≡◌ {A = List ℕ} (OLDER_APP_CODE ∷ x) (frame op ++ y) → ⊥
no_older (Epoch next stamp) x y e = omega (arith, ap (λ (l : List ℕ). get_or l 0 0) e)
no_older (App id submission) x y e = omega (arith, ap (λ (l : List ℕ). get_or l 0 0) e)
no_older (Attempt id master node) x y e = omega (arith, ap (λ (l : List ℕ). get_or l 0 0) e)
no_older (AttemptEnd id how text) x y e = omega (arith, ap (λ (l : List ℕ). get_or l 0 0) e)
no_older (AppEnd id how text) x y e = omega (arith, ap (λ (l : List ℕ). get_or l 0 0) e)
no_older (Remove id) x y e = omega (arith, ap (λ (l : List ℕ). get_or l 0 0) e)

older_alike : (id id2 : AppId) (one other : Submission) (x y : List ℕ) → IsOperation (App id one) → IsOperation (App id2 other) → one.keep ≡ false → other.keep ≡ false
    → OLDER_APP_CODE ∷ ((app_id_frame id ++ older_submission_frame one) ++ x) ≡ OLDER_APP_CODE ∷ ((app_id_frame id2 ++ older_submission_frame other) ++ y) → (id ≡ id2) × (one ≡ other) × (x ≡ y)
older_alike id id2 one other x y can_a can_b none_a none_b e =
    let h = heads_alike OLDER_APP_CODE OLDER_APP_CODE (app_id_frame id ++ (older_submission_frame one ++ x)) (app_id_frame id2 ++ (older_submission_frame other ++ y)) e in
    let i = app_id_alike id id2 (older_submission_frame one ++ x) (older_submission_frame other ++ y) can_a.0 can_b.0 h.1 in
    let s = submission_alike false one other x y can_a.1 can_b.1 (λ f. none_a ∙ sym none_b) i.1 in
    (i.0, s.0, s.1)

pub frames_alike : (a b : Op) (p q x y : List ℕ) → IsOperation a → IsOperation b → ReadsAs p a → ReadsAs q b → p ++ x ≡ q ++ y → (a ≡ b) × (p ≡ q) × (x ≡ y)
frames_alike a b p q x y can_a can_b (now e) (now f) same =
    let s = now_alike a b x y can_a can_b (ap (λ (l : List ℕ). l ++ x) (sym e) ∙ same ∙ ap (λ (l : List ℕ). l ++ y) f) in
    (s.0, e ∙ ap frame s.0 ∙ sym f, s.1)
frames_alike a b p q x y can_a can_b (older id one is none e) (now f) same =
    absurd (no_older b ((app_id_frame id ++ older_submission_frame one) ++ x) y (ap (λ (l : List ℕ). l ++ x) (sym e) ∙ same ∙ ap (λ (l : List ℕ). l ++ y) f))
frames_alike a b p q x y can_a can_b (now e) (older id one is none f) same =
    absurd (no_older a ((app_id_frame id ++ older_submission_frame one) ++ y) x (ap (λ (l : List ℕ). l ++ y) (sym f) ∙ sym same ∙ ap (λ (l : List ℕ). l ++ x) e))
frames_alike a b p q x y can_a can_b (older id one is none e) (older id2 other is2 none2 f) same =
    let s = older_alike id id2 one other x y (subst IsOperation is can_a) (subst IsOperation is2 can_b) none none2 (ap (λ (l : List ℕ). l ++ x) (sym e) ∙ same ∙ ap (λ (l : List ℕ). l ++ y) f) in (
      is ∙ ap (λ (k : AppId). App k one) s.0 ∙ ap (App id2) s.1 ∙ sym is2,
      e ∙ ap (λ (k : AppId). OLDER_APP_CODE ∷ (app_id_frame k ++ older_submission_frame one)) s.0 ∙ ap (λ (k : Submission). OLDER_APP_CODE ∷ (app_id_frame id2 ++ older_submission_frame k)) s.1 ∙ sym f,
      s.2,
    )

-- ---- bytes that begin with two of them

pub read_alike : (bytes : List ℕ) (a : Op) (rest : List ℕ) (b : Op) (count : ℕ) → ReadsOp bytes a rest → IsFramed bytes b count → (a ≡ b) × (length bytes - length rest ≡ count)
read_alike bytes a rest b count reads is =
    let same = frames_alike a b reads.front (take count bytes) rest (drop count bytes) reads.can is.can reads.reads is.is (sym reads.parts ∙ sym (take-append-drop count bytes)) in
    (same.0, omega (arith, ap length same.2, length-drop count bytes, is.within))

-- what was read is a frame at the front
pub framed : (bytes : List ℕ) (op : Op) (rest : List ℕ) → ReadsOp bytes op rest → IsFramed bytes op (length bytes - length rest)
framed bytes op rest reads =
    let long : length bytes ≡ length reads.front + length rest = ap length reads.parts ∙ length-append reads.front rest in
    let count : length reads.front ≡ length bytes - length rest = omega (arith, long) in
    let front : take (length bytes - length rest) bytes ≡ reads.front = ap (take (length bytes - length rest)) reads.parts ∙ take_at reads.front rest (length bytes - length rest) count in
    record { can = reads.can; within = omega arith; is = subst (λ (l : List ℕ). ReadsAs l op) (sym front) reads.reads }
