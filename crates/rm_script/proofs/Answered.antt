-- What is answered is the script that the bytes are, or the first line that is refused, and nothing else could be.
use Rattle.std.proofs.Common.{◌≡◌, ℕ, ◌+◌, ◌<◌, true, false, ltb, List, length, Some, None, Result, Ok, Err, refl, sym, ap, subst, ◌∙◌, arith, inl, inr}
use Rattle.std.specs.Prelude.{◌⊎◌, IfOk}
use Rattle.std.proofs.lemmas.Bool.{ltb-true, ltb-false}
use Rattle.std.proofs.lemmas.Option.{same_Some}
use Rattle.rm_types.specs.declared.scripts.Script.{Script}
use Rattle.rm_script.specs.declared.errors.ScriptError.{ScriptError}
use Rattle.rm_script.specs.declared.errors.ScriptError.TheVariants.{Refused, Memory}
use Rattle.rm_lines.specs.Lines.{lines_of}
use Rattle.rm_script.specs.Scripts.{Spell, IsScript}
use Rattle.rm_script.specs.Refusals.{Stand, StopAfter, StopAtEnd, IsFirstRefused}
use Rattle.rm_script.specs.Reading.{script_of_draft, FailsAfter, FailsAtEnd, AnswersReading}
use Rattle.rm_script.proofs.Standing.{reads_stand, read_is_script, stand_reads, script_is_read, one_draft, stand_fewer, script_stands}

-- ---- what the code tells

stops_after : (count : ℕ) (bytes : List ℕ) → FailsAfter count bytes → StopAfter count bytes
stops_after count bytes fails = record {
  there = fails.there;
  before = reads_stand count bytes fails.draft fails.before;
  refused = λ stand. let read = stand_reads (count + 1) bytes stand in fails.fails read.0 read.1;
}

no_script : (bytes : List ℕ) → FailsAtEnd bytes → (script : Script) → Spell (lines_of bytes) script → ⊥
no_script bytes fails script spelled =
    let limits = (reads_stand (length (lines_of bytes)) bytes fails.draft fails.before).limits in
    let all = script_is_read bytes script (record { limits = limits; spelled = spelled }) in
    let same : all.draft ≡ fails.draft = one_draft (length (lines_of bytes)) bytes all.draft fails.draft all.before fails.before in
    let none : Some script ≡ None = sym all.script_is ∙ ap script_of_draft same ∙ fails.fails in
    absurd cc

stops_at_end : (bytes : List ℕ) → FailsAtEnd bytes → StopAtEnd bytes
stops_at_end bytes fails = record { before = reads_stand (length (lines_of bytes)) bytes fails.draft fails.before; refused = no_script bytes fails }

first_refused : (bytes : List ℕ) (line : ℕ) → ((count : ℕ) × (line ≡ count + 1) × FailsAfter count bytes) ⊎ ((line ≡ length (lines_of bytes) + 1) × FailsAtEnd bytes) → IsFirstRefused bytes line
first_refused bytes line (inl w) = inl (w.0, w.1, stops_after w.0 bytes w.2)
first_refused bytes line (inr w) = inr (w.0, stops_at_end bytes w.1)

pub is_read : (result : Result Script ScriptError) (bytes : List ℕ) → AnswersReading bytes result → IfOk result (λ script. IsScript bytes script)
is_read (Ok script) bytes tells = read_is_script bytes script tells
is_read (Err error) bytes tells = tt

pub is_refused : (result : Result Script ScriptError) (bytes : List ℕ) → AnswersReading bytes result → (line : ℕ) → result ≡ Err (Refused line) → IsFirstRefused bytes line
is_refused (Ok script) bytes tells line e = absurd cc
is_refused (Err Memory) bytes tells line e = absurd cc
is_refused (Err (Refused told)) bytes tells line e =
    let same : told ≡ line = cc in
    subst (IsFirstRefused bytes) same (first_refused bytes told tells)

-- ---- one answer at most

-- the same bytes are one script at most
pub one_script : (bytes : List ℕ) (one other : Script) → IsScript bytes one → IsScript bytes other → one ≡ other
one_script bytes one other is again =
    let all = script_is_read bytes one is in
    let more = script_is_read bytes other again in
    let same : all.draft ≡ more.draft = one_draft (length (lines_of bytes)) bytes all.draft more.draft all.before more.before in
    same_Some one other (sym all.script_is ∙ ap script_of_draft same ∙ more.script_is)

-- no line of a script is refused
pub not_both : (bytes : List ℕ) (script : Script) (line : ℕ) → IsScript bytes script → IsFirstRefused bytes line → ⊥
not_both bytes script line is (inl w) =
    w.2.refused (stand_fewer (w.0 + 1) (length (lines_of bytes)) bytes (omega (arith, w.2.there)) (script_stands bytes script is))
not_both bytes script line is (inr w) = w.1.refused script is.spelled

not_before : (one other : ℕ) (bytes : List ℕ) → StopAfter one bytes → Stand other bytes → one < other → ⊥
not_before one other bytes stop stand h = stop.refused (stand_fewer (one + 1) other bytes (omega arith) stand)

same_count : (one other : ℕ) (bytes : List ℕ) → StopAfter one bytes → StopAfter other bytes → one ≡ other
same_count one other bytes stop again =
    let no_less : one < other → ⊥ = not_before one other bytes stop again.before in
    let no_more : other < one → ⊥ = not_before other one bytes again stop.before in
    elim (ltb one other) as (λ t. ltb one other ≡ t → one ≡ other) [
      | true ↦ λ e. absurd (no_less (ltb-true _ _ e))
      | false ↦ λ e.
          elim (ltb other one) as (λ t. ltb other one ≡ t → one ≡ other) [ true ↦ λ f. absurd (no_more (ltb-true _ _ f)) | false ↦ λ f. omega (arith, ltb-false _ _ e, ltb-false _ _ f) ] refl
    ] refl

-- one line is the first that is refused
pub one_line : (bytes : List ℕ) (one other : ℕ) → IsFirstRefused bytes one → IsFirstRefused bytes other → one ≡ other
one_line bytes one other (inl w) (inl v) = w.1 ∙ ap (λ (n : ℕ). n + 1) (same_count w.0 v.0 bytes w.2 v.2) ∙ sym v.1
one_line bytes one other (inl w) (inr v) = absurd (not_before w.0 (length (lines_of bytes)) bytes w.2 v.1.before w.2.there)
one_line bytes one other (inr w) (inl v) = absurd (not_before v.0 (length (lines_of bytes)) bytes v.2 w.1.before v.2.there)
one_line bytes one other (inr w) (inr v) = w.0 ∙ sym v.0

-- ---- so nothing else is told

pub script_told : (result : Result Script ScriptError) (bytes : List ℕ) → AnswersReading bytes result → (script : Script) → IsScript bytes script → (result ≡ Ok script) ⊎ (result ≡ Err Memory)
script_told (Ok told) bytes tells script is = inl (ap Ok (one_script bytes told script (read_is_script bytes told tells) is))
script_told (Err Memory) bytes tells script is = inr refl
script_told (Err (Refused line)) bytes tells script is = absurd (not_both bytes script line is (first_refused bytes line tells))

pub line_told : (result : Result Script ScriptError) (bytes : List ℕ) → AnswersReading bytes result → (line : ℕ) → IsFirstRefused bytes line → (result ≡ Err (Refused line)) ⊎ (result ≡ Err Memory)
line_told (Ok told) bytes tells line is = absurd (not_both bytes told line (read_is_script bytes told tells) is)
line_told (Err Memory) bytes tells line is = inr refl
line_told (Err (Refused told)) bytes tells line is = inl (ap (λ (n : ℕ). Err (Refused n)) (one_line bytes told line (first_refused bytes told tells) is))
