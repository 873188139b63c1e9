-- The letters of moves, and the logs that have them.
use Rattle.std.proofs.Common.{◌≡◌, ℕ, suc, ◌+◌, ◌-◌, ◌<◌, ◌≤◌, Bool, true, false, not, cond, List, [], ◌∷◌, ◌++◌, length, drop, take, get_or, All, refl, sym, ap, subst, ◌∙◌, arith, codes, append_assoc, inl, inr, ◌⊎◌}
use Rattle.std.specs.List.{flat_map, AllByRecursion}
use Rattle.std.proofs.lemmas.List.{length-append, drop_at, take_at, drop_all, append-nil}
use Rattle.std.proofs.Math.Seq.{drop-cons, take-suc}
use Rattle.std.proofs.lemmas.Grind.{flat_map-append}
use Rattle.std.proofs.lemmas.List.Elements.{recursion_from_All}
use Rattle.rm_types.specs.declared.entries.Entry.{Entry}
use Rattle.rm_types.specs.declared.entries.Entry.TheVariants as entries
use Rattle.rm_types.specs.declared.messages.Lane.{Lane}
use Rattle.rm_types.specs.declared.messages.Lane.TheVariants as lanes
use Rattle.rm_types.specs.Lanes.{lane_of_entry}
use Rattle.rm_formats.specs.Page.{line_of, lane_letter, letters, page}
use Rattle.rm_page.specs.Shown.{is_silent}
use Rattle.rm_page_reader.specs.Answers.{Fit, IsSilentLetter}
use Rattle.rm_page_reader.specs.Told.{IsManagerEntry, heard}

-- ---- letters

one_letter : (lane : Lane) → length (lane_letter lane) ≡ 1
one_letter lanes.Client = refl
one_letter lane = refl

pub length-letters : (log : List Entry) → length (letters log) ≡ length log
length-letters [] = refl
length-letters (entry ∷ log) =
    omega (arith, length-append (lane_letter (lane_of_entry entry)) (letters log), one_letter (lane_of_entry entry), length-letters log)

first_letter : (lane : Lane) → (letter : ℕ) × (lane_letter lane ≡ letter ∷ [])
first_letter lanes.Client = (99, refl)
first_letter lanes.Master = (109, refl)
first_letter lanes.Node = (110, refl)
first_letter lanes.Clock = (107, refl)
first_letter lanes.Main = (100, refl)
first_letter lanes.Sched = (115, refl)
first_letter lanes.Hand = (104, refl)
first_letter lanes.Write = (119, refl)
first_letter lanes.End = (101, refl)
first_letter lanes.Begin = (111, refl)

-- ---- which letters fit

-- a letter of the entries with lines that is a silent one's may be left out
left_out : (letter : ℕ) (moves rest : List ℕ) → IsSilentLetter letter → Fit moves (letter ∷ rest) → Fit moves rest
left_out letter [] rest silent fit = absurd cc
left_out letter (first ∷ moves) rest silent (inl taken) =
    let same : letter ≡ first = let both = taken.1 in cc in
    let more : rest ≡ taken.0 = let both = taken.1 in cc in
    inr (subst IsSilentLetter same silent, subst (Fit moves) (sym more) taken.2)
left_out letter (first ∷ moves) rest silent (inr skipped) = inr (skipped.0, left_out letter moves rest silent skipped.1)

-- a letter is taken for the next line's wherever it may be
pub fit_taken : (letter : ℕ) (moves rest : List ℕ) → Fit (letter ∷ moves) (letter ∷ rest) → Fit moves rest
fit_taken letter moves rest (inl taken) =
    let more : rest ≡ taken.0 = let both = taken.1 in cc in
    subst (Fit moves) (sym more) taken.2
fit_taken letter moves rest (inr skipped) = left_out letter moves rest skipped.0 skipped.1

-- and else for a silent entry's
pub fit_skipped : (letter : ℕ) (moves own : List ℕ) → ((rest : List ℕ) → own ≡ letter ∷ rest → ⊥) → Fit (letter ∷ moves) own → IsSilentLetter letter × Fit moves own
fit_skipped letter moves own other (inl taken) = absurd (other taken.0 taken.1)
fit_skipped letter moves own other (inr skipped) = skipped

silent_letter : (entry : Entry) → IsManagerEntry entry → is_silent entry ≡ true → (letter : ℕ) × (lane_letter (lane_of_entry entry) ≡ letter ∷ []) × IsSilentLetter letter
silent_letter entries.Handed is e = (104, refl, inl refl)
silent_letter (entries.Quiet lane) is e = by_lane is.manager
  where
    by_lane : (lane ≡ lanes.Main) ⊎ (lane ≡ lanes.Sched) → (letter : ℕ) × (lane_letter lane ≡ letter ∷ []) × IsSilentLetter letter
    by_lane (inl main) = (100, ap lane_letter main, inr (inl refl))
    by_lane (inr sched) = (115, ap lane_letter sched, inr (inr refl))
silent_letter entry is e = absurd cc

pub heard-silent : (entry : Entry) (log : List Entry) → is_silent entry ≡ true → heard (entry ∷ log) ≡ heard log
heard-silent entry log e = ap (λ b. cond (not b) (entry ∷ heard log) (heard log)) e

pub heard-heard : (entry : Entry) (log : List Entry) → is_silent entry ≡ false → heard (entry ∷ log) ≡ entry ∷ heard log
heard-heard entry log e = ap (λ b. cond (not b) (entry ∷ heard log) (heard log)) e

-- the letters of a log fit those of its entries with lines
fit_by : (log : List Entry) → AllByRecursion IsManagerEntry log → Fit (letters log) (letters (heard log))
fit_by [] all = refl
fit_by (entry ∷ log) all = by_silence (fit_by log all.1) (is_silent entry) refl
  where
    by_silence : Fit (letters log) (letters (heard log)) → (b : Bool) → is_silent entry ≡ b → Fit (letters (entry ∷ log)) (letters (heard (entry ∷ log)))
    by_silence fit true e =
        let letter = silent_letter entry all.0 e in
        rw (letter.1, heard-silent entry log e) (inr (letter.2, fit))
    by_silence fit false e =
        let letter = first_letter (lane_of_entry entry) in
        rw (heard-heard entry log e) (rw letter.1 (inl (letters (heard log), refl, fit)))

pub fit_log : (log : List Entry) → All IsManagerEntry log → Fit (letters log) (letters (heard log))
fit_log log all = fit_by log (recursion_from_All IsManagerEntry log all)

-- ---- lines

silent_line : (entry : Entry) → is_silent entry ≡ true → line_of entry ≡ []
silent_line entries.Handed silent = refl
silent_line (entries.Quiet lane) silent = refl
silent_line entry silent = absurd cc

pub lines-heard : (log : List Entry) → flat_map line_of (heard log) ≡ flat_map line_of log
lines-heard [] = refl
lines-heard (entry ∷ log) = by_silence (lines-heard log) (is_silent entry) refl
  where
    by_silence : flat_map line_of (heard log) ≡ flat_map line_of log → (b : Bool) → is_silent entry ≡ b → flat_map line_of (heard (entry ∷ log)) ≡ flat_map line_of (entry ∷ log)
    by_silence others true e = ap (flat_map line_of) (heard-silent entry log e) ∙ others ∙ ap (λ (text : List ℕ). text ++ flat_map line_of log) (sym (silent_line entry e))
    by_silence others false e = ap (flat_map line_of) (heard-heard entry log e) ∙ ap (λ (text : List ℕ). line_of entry ++ text) others

-- the last letters of a page with moves
pub at_end : (text front own : List ℕ) (count : ℕ) → text ≡ front ++ (own ++ codes "\n") → count ≡ length own
    → take (length text - 1 - (length text - 1 - count)) (drop (length text - 1 - count) text) ≡ own
at_end text front own count e c =
    let size : length text ≡ length front + (length own + 1) = ap length e ∙ length-append front (own ++ codes "\n") ∙ ap (λ n. length front + n) (length-append own (codes "\n")) in
    let from : length text - 1 - count ≡ length front = omega (arith, size, c) in
    let many : length text - 1 - length front ≡ length own = omega (arith, size) in
    rw (from, many, e, drop_at front (own ++ codes "\n") (length front) refl, take_at own (codes "\n") (length own) refl) refl

pub own_letters : (log : List Entry) (text own : List ℕ) → text ≡ page log true → (text ≡ [] → own ≡ [])
    → ((front : List ℕ) (last : List ℕ) → text ≡ front ++ (last ++ codes "\n") → length log ≡ length last → own ≡ last) → own ≡ letters log
own_letters [] text own e none last = none e
own_letters (entry ∷ log) text own e none last =
    let lines : List ℕ = flat_map line_of (entry ∷ log) in
    last (lines ++ codes "moves ") (letters (entry ∷ log)) (e ∙ sym (append_assoc lines (codes "moves ") (letters (entry ∷ log) ++ codes "\n"))) (sym (length-letters (entry ∷ log)))

-- entries that are left have letters that are left
pub none_left : (moves own : List ℕ) (index place : ℕ) (left rest : List Entry) (entry : Entry) → length moves ≤ index → Fit (drop index moves) (drop place own) → letters left ≡ drop place own → left ≡ entry ∷ rest → ⊥
none_left moves own index place left rest entry h fit same e =
    let none : drop place own ≡ [] = subst (λ (ms : List ℕ). Fit ms (drop place own)) (drop_all index moves h) fit in
    absurd (omega (arith, length-letters left, ap length (same ∙ none), ap length e))

-- ---- one letter more

pub pushed : {X : Type 0} (text : X → List ℕ) (front : List X) (one : X) (back : List ℕ) → flat_map text (front ++ one ∷ []) ++ back ≡ flat_map text front ++ (text one ++ back)
pushed text front one back =
    ap (λ (t : List ℕ). t ++ back) (flat_map-append text front (one ∷ []) ∙ ap (λ (t : List ℕ). flat_map text front ++ t) (append-nil (text one)))
    ∙ append_assoc (flat_map text front) (text one) back

pub taken_lines : (whole log left rest : List Entry) (entry : Entry) → flat_map line_of log ++ flat_map line_of left ≡ flat_map line_of whole → left ≡ entry ∷ rest
    → flat_map line_of (log ++ entry ∷ []) ++ flat_map line_of rest ≡ flat_map line_of whole
taken_lines whole log left rest entry lines e = pushed line_of log entry (flat_map line_of rest) ∙ ap (λ (es : List Entry). flat_map line_of log ++ flat_map line_of es) (sym e) ∙ lines

pub silent_lines : (whole log left : List Entry) (entry : Entry) → is_silent entry ≡ true → flat_map line_of log ++ flat_map line_of left ≡ flat_map line_of whole
    → flat_map line_of (log ++ entry ∷ []) ++ flat_map line_of left ≡ flat_map line_of whole
silent_lines whole log left entry silent lines =
    pushed line_of log entry (flat_map line_of left) ∙ ap (λ (t : List ℕ). flat_map line_of log ++ (t ++ flat_map line_of left)) (silent_line entry silent) ∙ lines

pub more_letters : (log : List Entry) (entry : Entry) (moves : List ℕ) (index : ℕ) → letters log ≡ take index moves → lane_letter (lane_of_entry entry) ≡ get_or moves index 0 ∷ [] → index < length moves
    → letters (log ++ entry ∷ []) ≡ take (index + 1) moves
more_letters log entry moves index same e h =
    sym (append-nil (letters (log ++ entry ∷ []))) ∙ pushed (λ one. lane_letter (lane_of_entry one)) log entry []
    ∙ ap (λ (t : List ℕ). letters log ++ t) (append-nil (lane_letter (lane_of_entry entry)) ∙ e) ∙ ap (λ (t : List ℕ). t ++ get_or moves index 0 ∷ []) same
    ∙ sym (take-suc moves index 0 h) ∙ (let on : suc index ≡ index + 1 = omega arith in ap (λ n. take n moves) on)

pub taken_letter : (left rest : List Entry) (entry : Entry) (own : List ℕ) (place letter : ℕ) → letters left ≡ drop place own → left ≡ entry ∷ rest → drop place own ≡ letter ∷ drop (place + 1) own
    → (lane_letter (lane_of_entry entry) ≡ letter ∷ []) × (letters rest ≡ drop (place + 1) own)
taken_letter left rest entry own place letter same e there =
    let own_first = first_letter (lane_of_entry entry) in
    let both : own_first.0 ∷ letters rest ≡ letter ∷ drop (place + 1) own = ap (λ (t : List ℕ). t ++ letters rest) (sym own_first.1) ∙ ap letters (sym e) ∙ same ∙ there in
    let one : own_first.0 ≡ letter = cc in
    (own_first.1 ∙ ap (λ (x : ℕ). x ∷ []) one, cc)

drop_step : (moves : List ℕ) (index : ℕ) → index < length moves → drop index moves ≡ get_or moves index 0 ∷ drop (index + 1) moves
drop_step moves index h = drop-cons moves index 0 h ∙ (let on : suc index ≡ index + 1 = omega arith in ap (λ n. get_or moves index 0 ∷ drop n moves) on)

pub fits_taken : (moves own : List ℕ) (index place : ℕ) → index < length moves → drop place own ≡ get_or moves index 0 ∷ drop (place + 1) own → Fit (drop index moves) (drop place own)
    → Fit (drop (index + 1) moves) (drop (place + 1) own)
fits_taken moves own index place h there fit =
    fit_taken (get_or moves index 0) (drop (index + 1) moves) (drop (place + 1) own)
    (subst (λ (ms : List ℕ). Fit ms (get_or moves index 0 ∷ drop (place + 1) own)) (drop_step moves index h) (subst (Fit (drop index moves)) there fit))

pub fits_skipped : (moves own : List ℕ) (index place : ℕ) → index < length moves → ((rest : List ℕ) → drop place own ≡ get_or moves index 0 ∷ rest → ⊥) → Fit (drop index moves) (drop place own)
    → IsSilentLetter (get_or moves index 0) × Fit (drop (index + 1) moves) (drop place own)
fits_skipped moves own index place h other fit =
    fit_skipped (get_or moves index 0) (drop (index + 1) moves) (drop place own) other (subst (λ (ms : List ℕ). Fit ms (drop place own)) (drop_step moves index h) fit)
