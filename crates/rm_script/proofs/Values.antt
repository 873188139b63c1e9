-- What holds of each script that is read.
use Rattle.std.proofs.Common.{◌≡◌, ℕ, ◌+◌, ◌≤◌, true, false, cond, not, List, [], ◌∷◌, ◌++◌, length, map, Option, Some, None, refl, sym, ap, subst, ◌∙◌, arith, inl, inr}
use Rattle.std.specs.Prelude.{All, IfSome, IsSome, ◌⊎◌}
use Rattle.std.specs.List.{flat_map, AllByRecursion}
use Rattle.std.proofs.lemmas.List.{length-append, length-map}
use Rattle.std.proofs.lemmas.List.Concat.{flat_map-cons}
use Rattle.std.proofs.lemmas.List.Elements.{All-nil, All-cons, All-append, All-from_recursion, recursion_from_All}
use Rattle.std.proofs.lemmas.List.Sums.{sum_by-cons, sum_by-append}
use Rattle.rm_types.specs.declared.scripts.Close.TheVariants.{Crash}
use Rattle.rm_types.specs.declared.scripts.Life.{Life}
use Rattle.rm_types.specs.declared.scripts.Segment.{Segment}
use Rattle.rm_types.specs.declared.scripts.Script.{Script}
use Rattle.rm_types.specs.Limits.{most_lines}
use Rattle.rm_lines.specs.Lines.{lines_of, is_skipped, kept_lines}
use Rattle.rm_script.specs.Written.{Sent, Delivered, Lost, Crashing, WrittenLife, delivered, settled_segment, crash_segments, life_of}
use Rattle.rm_script.specs.Spelling.{sent_text, start_text, settled_lines, crash_lines, life_lines, script_lines}
use Rattle.rm_script.specs.Scripts.{IsReadMessage, IsSent, IsCrash, IsLife, EndsByCrash, EachButLast, IsScript}
use Rattle.rm_script.specs.Values.{ClosesSettled, EndInCrash, IsToldLife, IsToldScript}
use Rattle.rm_types.specs.Segments.{messages_in}

-- ---- messages

delivered_read : (sent : List Sent) → AllByRecursion IsSent sent → AllByRecursion IsReadMessage (flat_map delivered sent)
delivered_read [] fit = tt
delivered_read (Delivered message ∷ sent) fit = (fit.0, delivered_read sent fit.1)
delivered_read (Lost message ∷ sent) fit = delivered_read sent fit.1

abbrev AreRead : Segment → Type 0
AreRead segment = All IsReadMessage segment.messages

settled_read : (done : List (List Sent)) → AllByRecursion (All IsSent) done → AllByRecursion AreRead (map settled_segment done)
settled_read [] fit = tt
settled_read (sent ∷ done) fit = (All-from_recursion IsReadMessage (flat_map delivered sent) (delivered_read sent (recursion_from_All IsSent sent fit.0)), settled_read done fit.1)

crash_read : (crash : Option Crashing) → IfSome crash IsCrash → All AreRead (crash_segments crash)
crash_read None fit = All-nil AreRead
crash_read (Some crash) fit =
    All-cons AreRead _ [] (All-from_recursion IsReadMessage (flat_map delivered crash.sent) (delivered_read crash.sent (recursion_from_All IsSent crash.sent fit.sent))) (All-nil AreRead)

-- ---- closes

all_settle : (done : List (List Sent)) → AllByRecursion ClosesSettled (map settled_segment done)
all_settle [] = tt
all_settle (sent ∷ done) = (refl, all_settle done)

ends : (life : WrittenLife) (crash : Option Crashing) → IfSome crash IsCrash → IsSome crash → EndInCrash (map settled_segment life.settled ++ crash_segments crash)
ends life None fit crashes = absurd cc
ends life (Some crash) fit crashes = record {
  before = map settled_segment life.settled;
  messages = flat_map delivered crash.sent;
  calls = crash.calls;
  image = crash.image;
  apart = refl;
  settle = All-from_recursion ClosesSettled (map settled_segment life.settled) (all_settle life.settled);
  calls_fit = fit.calls;
  image_fits = fit.image;
}

closes : (life : WrittenLife) (crash : Option Crashing) → IfSome crash IsCrash
    → All ClosesSettled (map settled_segment life.settled ++ crash_segments crash) ⊎ EndInCrash (map settled_segment life.settled ++ crash_segments crash)
closes life None fit =
    inl (All-append ClosesSettled (map settled_segment life.settled) [] (All-from_recursion ClosesSettled (map settled_segment life.settled) (all_settle life.settled)) (All-nil ClosesSettled))
closes life (Some crash) fit = inr (ends life (Some crash) fit refl)

-- ---- how many

fewer_delivered : (sent : List Sent) → length (flat_map delivered sent) ≤ length sent
fewer_delivered [] = omega arith
fewer_delivered (Delivered message ∷ sent) = omega (arith, fewer_delivered sent)
fewer_delivered (Lost message ∷ sent) = omega (arith, fewer_delivered sent)

fewer_settled : (done : List (List Sent)) → messages_in (map settled_segment done) ≤ length (flat_map settled_lines done)
fewer_settled [] = omega arith
fewer_settled (sent ∷ done) =
    let count : messages_in (settled_segment sent ∷ map settled_segment done) ≡ length (flat_map delivered sent) + messages_in (map settled_segment done) =
    sum_by-cons (λ (segment : Segment). length segment.messages) (settled_segment sent) (map settled_segment done) in
    let own : length (settled_lines sent) ≡ length sent + 1 = length-append (map sent_text sent) _ ∙ ap (λ (n : ℕ). n + 1) (length-map sent sent_text) in
    let lines : length (flat_map settled_lines (sent ∷ done)) ≡ length (settled_lines sent) + length (flat_map settled_lines done) =
    ap length (flat_map-cons settled_lines sent done) ∙ length-append (settled_lines sent) (flat_map settled_lines done) in
    omega (arith, count, own, lines, fewer_delivered sent, fewer_settled done)

fewer_in_crash : (crash : Option Crashing) → messages_in (crash_segments crash) ≤ length (crash_lines crash)
fewer_in_crash None = omega arith
fewer_in_crash (Some crash) =
    let count : messages_in (crash_segments (Some crash)) ≡ length (flat_map delivered crash.sent) + 0 =
    sum_by-cons (λ (segment : Segment). length segment.messages) (record { messages = flat_map delivered crash.sent; close = Crash crash.calls crash.image }) [] in
    let lines : length (crash_lines (Some crash)) ≡ length crash.sent + 1 = length-append (map sent_text crash.sent) _ ∙ ap (λ (n : ℕ). n + 1) (length-map crash.sent sent_text) in
    omega (arith, count, lines, fewer_delivered crash.sent)

fewer_in_life : (life : WrittenLife) → messages_in (life_of life).segments ≤ length (life_lines life)
fewer_in_life life =
    let front : List Segment = map settled_segment life.settled in
    let all : messages_in (front ++ crash_segments life.crash) ≡ messages_in front + messages_in (crash_segments life.crash) =
    sum_by-append (λ (segment : Segment). length segment.messages) front (crash_segments life.crash) in
    let lines : length (life_lines life) ≡ length (start_text life.stamp ∷ flat_map settled_lines life.settled) + length (crash_lines life.crash) =
    length-append (start_text life.stamp ∷ flat_map settled_lines life.settled) (crash_lines life.crash) in
    omega (arith, all, lines, fewer_in_crash life.crash, fewer_settled life.settled)

fewer_kept : (lines : List (List ℕ)) → length (kept_lines lines) ≤ length lines
fewer_kept [] = omega arith
fewer_kept (line ∷ lines) =
    elim (is_skipped line) as (λ t. length (cond (not t) (line ∷ kept_lines lines) (kept_lines lines)) ≤ length (line ∷ lines)) [
      | true ↦ omega (arith, fewer_kept lines)
      | false ↦ omega (arith, fewer_kept lines)
    ]

-- ---- lives

told_life : (life : WrittenLife) → IsLife life → length (life_lines life) ≤ most_lines → IsToldLife (life_of life)
told_life life fit few = record {
  stamp = fit.stamp;
  messages = All-append AreRead (map settled_segment life.settled) (crash_segments life.crash)
      (All-from_recursion AreRead (map settled_segment life.settled) (settled_read life.settled (recursion_from_All (All IsSent) life.settled fit.settled))) (crash_read life.crash fit.crash);
  closes = closes life life.crash fit.crash;
  few = omega (arith, fewer_in_life life);
}

told_lives : (lives : List WrittenLife) → AllByRecursion IsLife lives → length (script_lines lives) ≤ most_lines → AllByRecursion IsToldLife (map life_of lives)
told_lives [] fit few = tt
told_lives (life ∷ lives) fit few =
    let lines : length (script_lines (life ∷ lives)) ≡ length (life_lines life) + length (script_lines lives) =
    ap length (flat_map-cons life_lines life lives) ∙ length-append (life_lines life) (script_lines lives) in
    (told_life life fit.0 (omega (arith, lines)), told_lives lives fit.1 (omega (arith, lines)))

abbrev CrashesSo : Life → Type 0
CrashesSo life = EndInCrash life.segments

told_crashes : (lives : List WrittenLife) → AllByRecursion IsLife lives → EachButLast EndsByCrash lives → EachButLast CrashesSo (map life_of lives)
told_crashes [] fit crash = tt
told_crashes (life ∷ []) fit crash = tt
told_crashes (life ∷ next ∷ lives) fit crash = (ends life life.crash fit.0.crash crash.0, told_crashes (next ∷ lives) fit.1 crash.1)

-- a script that is read has this
pub told_values : (bytes : List ℕ) (script : Script) → IsScript bytes script → IsToldScript script
told_values bytes script is =
    let lives : List WrittenLife = is.spelled.lives in
    let fit : AllByRecursion IsLife lives = recursion_from_All IsLife lives is.spelled.fit.each in
    let few : length (script_lines lives) ≤ most_lines = omega (arith, ap length is.spelled.text, fewer_kept (lines_of bytes), is.limits.few) in
    subst IsToldScript (sym is.spelled.same) (record {
      each = All-from_recursion IsToldLife (map life_of lives) (told_lives lives fit few);
      crash = told_crashes lives fit is.spelled.fit.crash;
    })
