-- A frame has no fault, whatever follows it.
use Rattle.std.proofs.Common.{◌≡◌, ℕ, Bool, true, false, subst, ◌+◌, ◌-◌, ◌^◌, ◌<◌, ◌≤◌, List, [], ◌∷◌, ◌++◌, length, take, drop, None, refl, sym, ap, ◌∙◌, append_assoc, append-nil, arith}
use Rattle.std.specs.Int.{Width, w16, w32, w64, byte_len, from_be_bytes, to_be_bytes}
use Rattle.std.proofs.lemmas.List.{take_at, drop_at, length-append, take-append-drop, drop-drop}
use Rattle.rm_types.specs.declared.ids.AppId.{AppId}
use Rattle.rm_types.specs.declared.ids.AttemptId.{AttemptId}
use Rattle.rm_types.specs.declared.ids.ContainerId.{ContainerId}
use Rattle.rm_types.specs.declared.operations.How.{How}
use Rattle.rm_types.specs.declared.operations.How.TheVariants.{Finished, Failed, Killed}
use Rattle.rm_types.specs.declared.operations.Op.{Op}
use Rattle.rm_types.specs.declared.operations.Op.TheVariants.{Epoch, App, Attempt, AttemptEnd, AppEnd, Remove}
use Rattle.rm_types.specs.declared.operations.Submission.{Submission}
use Rattle.rm_types.specs.declared.texts.TextKind.{TextKind}
use Rattle.rm_types.specs.declared.texts.TextKind.TheVariants.{Name, Node, Queue, Note, AclText}
use Rattle.rm_formats.specs.Frames.{frame, text_frame, app_id_frame, attempt_id_frame, master_frame, submission_frame, older_submission_frame, how_code, Reads as ReadsAs, now, older}
use Rattle.rm_types.specs.Ranges.{IsOperation, IsText, IsSubmission}
use Rattle.rm_types.specs.Ranges.{IsWithin, IsAppId, IsAttemptId, IsContainerId}
use Rattle.rm_types.specs.Limits.{greatest_attempts, greatest_memory_mb, greatest_vcores}
use Rattle.rm_types.specs.declared.limits.TheConstants.{EPOCHS, SEQUENCES, NUMBERS, STAMPS}
use Rattle.rm_formats.specs.declared.codes.TheConstants.{EPOCH_CODE, OLDER_APP_CODE, APP_CODE, ATTEMPT_CODE, ATTEMPT_END_CODE, APP_END_CODE, REMOVE_CODE, FINISHED_CODE, KILLED_CODE}
use Rattle.rm_frame.specs.Fields.{Field, keep_fields, NumberFrom, TextOf, told_length, left_at_fault, stamp_field, number_field, kind_field, how_field, app_id_fields, attempt_id_fields, master_fields, submission_fields, end_fields, epoch_fields, layout, attempts_field, cores_field, memory_field}
use Rattle.rm_frame.specs.Framed.{IsFramed, keep_frame, submission_frame_by}
use Rattle.rm_frame.specs.Reads.{TakesFields, StopsReading}
use Rattle.rm_frame.proofs.Numbers.{IsWide, wide16, wide32, wide64, again_before}
use Rattle.rm_frame.proofs.Faults.{goes_past, stands_number, stands_text, byte_reads, reads_then, stops_left}
use Rattle.rm_frame.proofs.Apart.{text_short}

-- ---- one field

number_written : (w : Width) (limit : ℕ) (wide : IsWide w limit) (least greatest n : ℕ) (rest : List ℕ) → greatest < limit → IsWithin least greatest n → TakesFields (NumberFrom w least greatest ∷ []) (to_be_bytes w n ++ rest) (to_be_bytes w n) rest
number_written w limit wide least greatest n rest small h =
    let bytes : List ℕ = to_be_bytes w n ++ rest in
    let again : from_be_bytes w (take (byte_len w) (to_be_bytes w n ++ rest)) ≡ n = again_before w limit wide n rest (omega (arith, h.1)) in
    let within : IsWithin least greatest (from_be_bytes w (take (byte_len w) (to_be_bytes w n ++ rest))) = rw again h in
    let long : byte_len w ≤ length (to_be_bytes w n ++ rest) = omega (arith, length-append (to_be_bytes w n) rest, wide.len n) in
    record {
      parts = refl;
      goes = λ more. goes_past (NumberFrom w least greatest) (to_be_bytes w n ++ rest) more (stands_number w least greatest (to_be_bytes w n ++ rest) long within)
          ∙ ap (left_at_fault more) (drop_at (to_be_bytes w n) rest (byte_len w) (wide.len n));
    }

text_written : (kind : TextKind) (text rest : List ℕ) → IsText kind text → TakesFields (TextOf kind ∷ []) (text_frame text ++ rest) (text_frame text) rest
text_written kind text rest h =
    let head : List ℕ = to_be_bytes w16 (length text) in
    let grouped : text_frame text ++ rest ≡ to_be_bytes w16 (length text) ++ (text ++ rest) = append_assoc (to_be_bytes w16 (length text)) text rest in
    let told : told_length (text_frame text ++ rest) ≡ length text =
    ap told_length grouped ∙ again_before w16 (2 ^ 16) wide16 (length text) (text ++ rest) (text_short kind text h) in
    let behind : drop 2 (text_frame text ++ rest) ≡ text ++ rest = ap (drop 2) grouped ∙ drop_at (to_be_bytes w16 (length text)) (text ++ rest) 2 refl in
    let size : length (text_frame text ++ rest) ≡ 2 + length (text ++ rest) = ap length grouped ∙ length-append (to_be_bytes w16 (length text)) (text ++ rest) in
    let front : take (told_length (text_frame text ++ rest)) (drop 2 (text_frame text ++ rest)) ≡ text =
    ap (λ (n : ℕ). take n (drop 2 (text_frame text ++ rest))) told ∙ ap (take (length text)) behind ∙ take_at text rest (length text) refl in
    let back : drop (told_length (text_frame text ++ rest)) (drop 2 (text_frame text ++ rest)) ≡ rest =
    ap (λ (n : ℕ). drop n (drop 2 (text_frame text ++ rest))) told ∙ ap (drop (length text)) behind ∙ drop_at text rest (length text) refl in
    let long : 2 + told_length (text_frame text ++ rest) ≤ length (text_frame text ++ rest) = omega (arith, told, size, length-append text rest) in
    let same : IsText kind (take (told_length (text_frame text ++ rest)) (drop 2 (text_frame text ++ rest))) = rw front h in
    record {
      parts = refl;
      goes = λ more. goes_past (TextOf kind) (text_frame text ++ rest) more (stands_text kind (text_frame text ++ rest) long same)
          ∙ ap (left_at_fault more) (sym (drop-drop (told_length (text_frame text ++ rest)) 2 (text_frame text ++ rest)) ∙ back);
    }

-- ---- fields one after another

written_then : (fields others : List Field) (front back rest : List ℕ) → TakesFields fields (front ++ (back ++ rest)) front (back ++ rest) → TakesFields others (back ++ rest) back rest
    → TakesFields (fields ++ others) ((front ++ back) ++ rest) (front ++ back) rest
written_then fields others front back rest first second = record {
  parts = refl;
  goes = λ more. ap (left_at_fault ((fields ++ others) ++ more)) (append_assoc front back rest)
      ∙ (reads_then fields others (front ++ (back ++ rest)) front (back ++ rest) back rest first second).goes more;
}

number32_written : (least greatest n : ℕ) (rest : List ℕ) → greatest < 2 ^ 32 → IsWithin least greatest n → TakesFields (NumberFrom w32 least greatest ∷ []) (to_be_bytes w32 n ++ rest) (to_be_bytes w32 n) rest
number32_written least greatest n rest small h = number_written w32 (2 ^ 32) wide32 least greatest n rest small h

number64_written : (least greatest n : ℕ) (rest : List ℕ) → greatest < 2 ^ 64 → IsWithin least greatest n → TakesFields (NumberFrom w64 least greatest ∷ []) (to_be_bytes w64 n ++ rest) (to_be_bytes w64 n) rest
number64_written least greatest n rest small h = number_written w64 (2 ^ 64) wide64 least greatest n rest small h

app_id_written : (id : AppId) (rest : List ℕ) → IsAppId id → TakesFields app_id_fields (app_id_frame id ++ rest) (app_id_frame id) rest
app_id_written id rest h =
    written_then (stamp_field ∷ []) (number_field ∷ []) (to_be_bytes w64 id.stamp) (to_be_bytes w32 id.number) rest
    (number64_written 1 (STAMPS - 1) id.stamp (to_be_bytes w32 id.number ++ rest) (omega arith) h.stamp) (number32_written 1 (NUMBERS - 1) id.number rest (omega arith) h.number)

attempt_id_written : (id : AttemptId) (rest : List ℕ) → IsAttemptId id → TakesFields attempt_id_fields (attempt_id_frame id ++ rest) (attempt_id_frame id) rest
attempt_id_written id rest h =
    written_then app_id_fields (number_field ∷ []) (app_id_frame id.app) (to_be_bytes w32 id.number) rest
    (app_id_written id.app (to_be_bytes w32 id.number ++ rest) h.app) (number32_written 1 (NUMBERS - 1) id.number rest (omega arith) h.number)

master_written : (master : ContainerId) (rest : List ℕ) → IsContainerId master → TakesFields master_fields (master_frame master ++ rest) (master_frame master) rest
master_written master rest h =
    written_then (NumberFrom w32 0 (EPOCHS - 1) ∷ []) (NumberFrom w64 1 (SEQUENCES - 1) ∷ []) (to_be_bytes w32 master.epoch) (to_be_bytes w64 master.seq) rest
    (number32_written 0 (EPOCHS - 1) master.epoch (to_be_bytes w64 master.seq ++ rest) (omega arith) h.epoch) (number64_written 1 (SEQUENCES - 1) master.seq rest (omega arith) h.seq)

code_within : (how : How) → IsWithin FINISHED_CODE KILLED_CODE (how_code how)
code_within Finished = (omega arith, omega arith)
code_within Failed = (omega arith, omega arith)
code_within Killed = (omega arith, omega arith)

end_written : (how : How) (text rest : List ℕ) → IsText Note text → TakesFields end_fields ((how_code how ∷ text_frame text) ++ rest) (how_code how ∷ text_frame text) rest
end_written how text rest h =
    let code = code_within how in
    written_then (how_field ∷ []) (TextOf Note ∷ []) (how_code how ∷ []) (text_frame text) rest
    (byte_reads FINISHED_CODE KILLED_CODE (how_code how) (how_code how ∷ (text_frame text ++ rest)) (text_frame text ++ rest) refl code.0 code.1) (text_written Note text rest h)

keep_written : (chosen keep : Bool) (rest : List ℕ) → TakesFields (keep_fields chosen) (keep_frame chosen keep ++ rest) (keep_frame chosen keep) rest
keep_written true true rest = byte_reads 0 1 1 (1 ∷ rest) rest refl (omega arith) (omega arith)
keep_written true false rest = byte_reads 0 1 0 (0 ∷ rest) rest refl (omega arith) (omega arith)
keep_written false keep rest = record { parts = refl; goes = λ more. refl }

submission_written : (chosen : Bool) (one : Submission) (rest : List ℕ) → IsSubmission one → TakesFields (submission_fields chosen) (submission_frame_by chosen one ++ rest) (submission_frame_by chosen one) rest
submission_written chosen one rest h =
    let modify = text_written AclText one.modify rest h.modify in
    let last = written_then (keep_fields chosen) (TextOf AclText ∷ []) (keep_frame chosen one.keep) (text_frame one.modify) rest (keep_written chosen one.keep (text_frame one.modify ++ rest)) modify in
    let back0 : List ℕ = keep_frame chosen one.keep ++ text_frame one.modify in
    let bound = written_then (attempts_field ∷ []) (keep_fields chosen ++ TextOf AclText ∷ []) (to_be_bytes w32 one.attempts) back0 rest
    (number32_written 0 greatest_attempts one.attempts (back0 ++ rest) (omega arith) h.attempts) last in
    let back1 : List ℕ = to_be_bytes w32 one.attempts ++ back0 in
    let cores = written_then (cores_field ∷ []) (attempts_field ∷ (keep_fields chosen ++ TextOf AclText ∷ [])) (to_be_bytes w32 one.master.vcores) back1 rest
    (number32_written 1 greatest_vcores one.master.vcores (back1 ++ rest) (omega arith) h.vcores) bound in
    let back2 : List ℕ = to_be_bytes w32 one.master.vcores ++ back1 in
    let memory = written_then (memory_field ∷ []) (cores_field ∷ attempts_field ∷ (keep_fields chosen ++ TextOf AclText ∷ [])) (to_be_bytes w32 one.master.memory_mb) back2 rest
    (number32_written 1 greatest_memory_mb one.master.memory_mb (back2 ++ rest) (omega arith) h.memory_mb) cores in
    let back3 : List ℕ = to_be_bytes w32 one.master.memory_mb ++ back2 in
    let name = written_then (TextOf Name ∷ []) (memory_field ∷ cores_field ∷ attempts_field ∷ (keep_fields chosen ++ TextOf AclText ∷ [])) (text_frame one.name) back3 rest
    (text_written Name one.name (back3 ++ rest) h.name) memory in
    let back4 : List ℕ = text_frame one.name ++ back3 in
    let queue = written_then (TextOf Queue ∷ []) (TextOf Name ∷ memory_field ∷ cores_field ∷ attempts_field ∷ (keep_fields chosen ++ TextOf AclText ∷ [])) (text_frame one.queue) back4 rest
    (text_written Queue one.queue (back4 ++ rest) h.queue) name in
    let back5 : List ℕ = text_frame one.queue ++ back4 in
    written_then (TextOf Name ∷ []) (TextOf Queue ∷ TextOf Name ∷ memory_field ∷ cores_field ∷ attempts_field ∷ (keep_fields chosen ++ TextOf AclText ∷ [])) (text_frame one.user) back5 rest
    (text_written Name one.user (back5 ++ rest) h.user) queue

-- ---- operations

kind_written : (kind : ℕ) (fields : List Field) (front rest : List ℕ) → IsWithin EPOCH_CODE APP_CODE kind → TakesFields fields (front ++ rest) front rest → TakesFields (kind_field ∷ fields) (kind ∷ (front ++ rest)) (kind ∷ front) rest
kind_written kind fields front rest h reads =
    written_then (kind_field ∷ []) fields (kind ∷ []) front rest (byte_reads EPOCH_CODE APP_CODE kind (kind ∷ (front ++ rest)) (front ++ rest) refl h.0 h.1) reads

op_written : (op : Op) (rest : List ℕ) → IsOperation op → TakesFields (layout (frame op ++ rest)) (frame op ++ rest) (frame op) rest
op_written (Epoch next stamp) rest h =
    kind_written EPOCH_CODE epoch_fields (to_be_bytes w32 next ++ to_be_bytes w64 stamp) rest (omega arith, omega arith)
    (written_then (NumberFrom w32 1 EPOCHS ∷ []) (stamp_field ∷ []) (to_be_bytes w32 next) (to_be_bytes w64 stamp) rest
    (number32_written 1 EPOCHS next (to_be_bytes w64 stamp ++ rest) (omega arith) h.0) (number64_written 1 (STAMPS - 1) stamp rest (omega arith) h.1))
op_written (App id submission) rest h =
    kind_written APP_CODE (app_id_fields ++ submission_fields true) (app_id_frame id ++ submission_frame submission) rest (omega arith, omega arith)
    (written_then app_id_fields (submission_fields true) (app_id_frame id) (submission_frame submission) rest
    (app_id_written id (submission_frame submission ++ rest) h.0) (submission_written true submission rest h.1))
op_written (Attempt id master node) rest h =
    kind_written ATTEMPT_CODE (attempt_id_fields ++ (master_fields ++ TextOf Node ∷ [])) (attempt_id_frame id ++ (master_frame master ++ text_frame node)) rest (omega arith, omega arith)
    (written_then attempt_id_fields (master_fields ++ TextOf Node ∷ []) (attempt_id_frame id) (master_frame master ++ text_frame node) rest
    (attempt_id_written id ((master_frame master ++ text_frame node) ++ rest) h.0)
    (written_then master_fields (TextOf Node ∷ []) (master_frame master) (text_frame node) rest
    (master_written master (text_frame node ++ rest) h.1.container) (text_written Node node rest h.2)))
op_written (AttemptEnd id how text) rest h =
    kind_written ATTEMPT_END_CODE (attempt_id_fields ++ end_fields) (attempt_id_frame id ++ (how_code how ∷ text_frame text)) rest (omega arith, omega arith)
    (written_then attempt_id_fields end_fields (attempt_id_frame id) (how_code how ∷ text_frame text) rest
    (attempt_id_written id ((how_code how ∷ text_frame text) ++ rest) h.0) (end_written how text rest h.1))
op_written (AppEnd id how text) rest h =
    kind_written APP_END_CODE (app_id_fields ++ end_fields) (app_id_frame id ++ (how_code how ∷ text_frame text)) rest (omega arith, omega arith)
    (written_then app_id_fields end_fields (app_id_frame id) (how_code how ∷ text_frame text) rest
    (app_id_written id ((how_code how ∷ text_frame text) ++ rest) h.0) (end_written how text rest h.1))
op_written (Remove id) rest h = kind_written REMOVE_CODE app_id_fields (app_id_frame id) rest (omega arith, omega arith) (app_id_written id rest h)

-- ---- bytes that begin with a frame

none_left : (rest : List ℕ) → left_at_fault [] rest ≡ None
unfolding left_at_fault
none_left rest = refl

frame_has_none : (op : Op) (rest : List ℕ) → IsOperation op → left_at_fault (layout (frame op ++ rest)) (frame op ++ rest) ≡ None
frame_has_none op rest h =
    ap (λ (all : List Field). left_at_fault all (frame op ++ rest)) (sym (append-nil (layout (frame op ++ rest)))) ∙ (op_written op rest h).goes [] ∙ none_left rest

older_written : (id : AppId) (submission : Submission) (rest : List ℕ) → IsOperation (App id submission)
    → TakesFields (kind_field ∷ (app_id_fields ++ submission_fields false)) (OLDER_APP_CODE ∷ ((app_id_frame id ++ older_submission_frame submission) ++ rest)) (OLDER_APP_CODE ∷ (app_id_frame id ++ older_submission_frame submission)) rest
older_written id submission rest h =
    kind_written OLDER_APP_CODE (app_id_fields ++ submission_fields false) (app_id_frame id ++ older_submission_frame submission) rest (omega arith, omega arith)
    (written_then app_id_fields (submission_fields false) (app_id_frame id) (older_submission_frame submission) rest
    (app_id_written id (older_submission_frame submission ++ rest) h.0) (submission_written false submission rest h.1))

reads_has_none : (front : List ℕ) (op : Op) (rest : List ℕ) → IsOperation op → ReadsAs front op → left_at_fault (layout (front ++ rest)) (front ++ rest) ≡ None
reads_has_none front op rest h (now e) = subst (λ (l : List ℕ). left_at_fault (layout (l ++ rest)) (l ++ rest) ≡ None) (sym e) (frame_has_none op rest h)
reads_has_none front op rest h (older id submission is none e) =
    let all : List ℕ = OLDER_APP_CODE ∷ (app_id_frame id ++ older_submission_frame submission) in
    subst (λ (l : List ℕ). left_at_fault (layout (l ++ rest)) (l ++ rest) ≡ None) (sym e)
    (ap (λ (fields : List Field). left_at_fault fields (all ++ rest)) (sym (append-nil (layout (all ++ rest)))) ∙ (older_written id submission rest (subst IsOperation is h)).goes [] ∙ none_left rest)

pub framed_has_none : (bytes : List ℕ) (op : Op) (count : ℕ) → IsFramed bytes op count → left_at_fault (layout bytes) bytes ≡ None
framed_has_none bytes op count is =
    ap (λ (l : List ℕ). left_at_fault (layout l) l) (sym (take-append-drop count bytes)) ∙ reads_has_none (take count bytes) op (drop count bytes) is.can is.is

pub never_framed : (bytes : List ℕ) (left : ℕ) → StopsReading (layout bytes) bytes left → (op : Op) (count : ℕ) → IsFramed bytes op count → ⊥
never_framed bytes left stops op count is =
    let fault = stops_left (layout bytes) bytes left stops in
    let none = framed_has_none bytes op count is in
    absurd cc
