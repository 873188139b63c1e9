-- Taking the lines of a script one after the other.
use Rattle.std.proofs.Common.{◌≡◌, ℕ, zero, suc, ◌+◌, ◌<◌, ◌≤◌, Bool, true, false, not, cond, List, [], ◌∷◌, ◌++◌, length, map, take, drop, Option, Some, Ok, Err, refl, sym, ap, subst, ◌∙◌, arith, inl, inr}
use Rattle.std.specs.Prelude.{◌⊎◌, min, All}
use Rattle.std.specs.List.{flat_map, AllByRecursion}
use Rattle.std.proofs.lemmas.List.{append-nil, map-append, length-append, length-drop}
use Rattle.std.proofs.lemmas.List.Concat.{flat_map-append}
use Rattle.std.proofs.lemmas.List.Elements.{All-push, filter-append, recursion_from_All}
use Rattle.std.proofs.lemmas.Option.{same_Some}
use Rattle.rm_types.specs.declared.scripts.Script.{Script}
use Rattle.rm_lines.specs.declared.errors.LineError.{LineError}
use Rattle.rm_lines.specs.declared.errors.LineError.TheVariants as faults
use Rattle.rm_script.specs.declared.errors.ScriptError.TheVariants as scripts
use Rattle.rm_script.specs.declared.drafts.Draft.{Draft}
use Rattle.rm_script.specs.declared.lines.Line.{Line}
use Rattle.rm_script.specs.declared.lines.Line.TheVariants.{Skipped}
use Rattle.rm_types.specs.Limits.{most_lines}
use Rattle.rm_script.specs.Limits.{most_bytes}
use Rattle.rm_lines.specs.Lines.{lines_of, ended, size_of_first, is_skipped, kept_lines}
use Rattle.rm_script.specs.Lines.{IsLineText}
use Rattle.rm_lines.specs.Results.{◌>>=◌, Fails, FindsNone}
use Rattle.rm_script.specs.Results.{at_line}
use Rattle.rm_lines.proofs.Parts.{heads, bound}
use Rattle.rm_script.specs.Reading.{line_text, with_line, with_each_line, no_lines, script_of_draft, IsLine, IsTextOf, Takes, ReadsLines, AnswersReading}
use Rattle.rm_script.proofs.OneLine.{is_told, text_said, none_said, says}
use Rattle.rm_script.proofs.Running.{with_lines-append, one_lines}

-- all of a list with one more at its end
recursion_last : {A : Type 0} (P : A → Type 0) (xs : List A) (x : A) → AllByRecursion P (xs ++ x ∷ []) → P x
recursion_last P [] x h = h.0
recursion_last P (one ∷ xs) x h = recursion_last P xs x h.1

recursion_front : {A : Type 0} (P : A → Type 0) (xs : List A) (x : A) → AllByRecursion P (xs ++ x ∷ []) → AllByRecursion P xs
recursion_front P [] x h = tt
recursion_front P (one ∷ xs) x h = (h.0, recursion_front P xs x h.1)

-- so many lines were read as the draft, and the rest is left
pub record IsAt (count : ℕ) (bytes rest : List ℕ) (draft : Draft) : Type 0 where
  pub reads : ReadsLines count bytes draft
  pub within : count ≤ length (lines_of bytes)
  pub left : lines_of rest ≡ drop count (lines_of bytes)
  pub size : size_of_first count bytes + length rest ≡ length bytes

-- so many lines were passed, and the rest is left
pub record IsCut (count : ℕ) (bytes rest : List ℕ) : Type 0 where
  pub within : count ≤ length (lines_of bytes)
  pub left : lines_of rest ≡ drop count (lines_of bytes)
  pub size : size_of_first count bytes + length rest ≡ length bytes

-- the one line more is this, and this is left after it
pub record IsNext (count : ℕ) (bytes text after : List ℕ) : Type 0 where
  pub there : count < length (lines_of bytes)
  pub taken : take (count + 1) (lines_of bytes) ≡ take count (lines_of bytes) ++ text ∷ []
  pub left : lines_of after ≡ drop (count + 1) (lines_of bytes)
  pub size : size_of_first (count + 1) bytes + length after ≡ length bytes

take_next : {A : Type 0} (count : ℕ) (xs : List A) (x : A) (ys : List A) → drop count xs ≡ x ∷ ys → (take (suc count) xs ≡ take count xs ++ x ∷ []) × (drop (suc count) xs ≡ ys)
take_next zero [] x ys e = absurd cc
take_next zero (first ∷ xs) x ys e =
    let same : first ≡ x = cc in
    let more : xs ≡ ys = cc in
    (ap (λ y. y ∷ []) same, more)
take_next (suc count) [] x ys e = absurd cc
take_next (suc count) (first ∷ xs) x ys e =
    let rest = take_next count xs x ys e in
    (ap (λ zs. first ∷ zs) rest.0, rest.1)

next_size : (done text rest after all : ℕ) → min all done + rest ≡ all → 0 < rest → (rest ≡ text + (1 + after)) ⊎ ((rest ≡ text) × (after ≡ 0)) → min all (done + (text + 1)) + after ≡ all
next_size done text rest after all e some (inl cut) = omega arith
next_size done text rest after all e some (inr cut) = omega (arith, cut.0, cut.1)

length-next : (lines : List (List ℕ)) (text : List ℕ) → length (flat_map ended (lines ++ text ∷ [])) ≡ length (flat_map ended lines) + (length text + 1)
length-next lines text =
    let apart : flat_map ended (lines ++ text ∷ []) ≡ flat_map ended lines ++ ended text =
    flat_map-append ended lines (text ∷ []) ∙ ap (λ (bs : List ℕ). flat_map ended lines ++ bs) (append-nil (ended text)) in
    omega (arith, ap length apart, length-append (flat_map ended lines) (ended text), length-append text (10 ∷ []))

pub next_line : (count : ℕ) (bytes rest text after : List ℕ) → IsCut count bytes rest → 0 < length rest → lines_of rest ≡ text ∷ lines_of after
    → (length rest ≡ length text + (1 + length after)) ⊎ ((length rest ≡ length text) × (length after ≡ 0)) → IsNext count bytes text after
next_line count bytes rest text after is some lines cut =
    let all : List (List ℕ) = lines_of bytes in
    let dropped : drop count all ≡ text ∷ lines_of after = sym is.left ∙ lines in
    let step = take_next count all text (lines_of after) dropped in
    let one_on : count + 1 ≡ suc count = omega arith in
    let taken : take (count + 1) all ≡ take count all ++ text ∷ [] = ap (λ (n : ℕ). take n all) one_on ∙ step.0 in
    let done : length (flat_map ended (take (count + 1) all)) ≡ length (flat_map ended (take count all)) + (length text + 1) =
    ap (λ (ls : List (List ℕ)). length (flat_map ended ls)) taken ∙ length-next (take count all) text in
    let grown = next_size (length (flat_map ended (take count all))) (length text) (length rest) (length after) (length bytes) is.size some cut in
    record {
      there = omega (arith, length-drop count all, ap length dropped);
      taken = taken;
      left = sym (ap (λ (n : ℕ). drop n all) one_on ∙ step.1);
      size = ap (λ (n : ℕ). min (length bytes) n + length after) done ∙ grown;
    }

pub is_next : (count : ℕ) (bytes rest : List ℕ) (draft : Draft) (text after : List ℕ) → IsAt count bytes rest draft → 0 < length rest → lines_of rest ≡ text ∷ lines_of after
    → (length rest ≡ length text + (1 + length after)) ⊎ ((length rest ≡ length text) × (length after ≡ 0)) → IsNext count bytes text after
is_next count bytes rest draft text after is some lines cut =
    let passed : IsCut count bytes rest = record { within = is.within; left = is.left; size = is.size } in
    next_line count bytes rest text after passed some lines cut

-- one line on, where no draft is made
pub cut_on : (count : ℕ) (bytes text after : List ℕ) → IsNext count bytes text after → IsCut (count + 1) bytes after
cut_on count bytes text after line = record { within = omega (arith, line.there); left = line.left; size = line.size }

-- the lines of the texts so far and one more

-- a text that says a line more
kept_more : (texts : List (List ℕ)) (text : List ℕ) (lines : List Line) (line : Line) → kept_lines texts ≡ map line_text lines → IsTextOf text line
    → kept_lines (texts ++ text ∷ []) ≡ map line_text (lines ++ line ∷ [])
kept_more texts text lines line so_far is =
    let told : is_skipped text ≡ false = ap is_skipped is.same ∙ is_told line is.fits in
    filter-append (λ one. not (is_skipped one)) texts (text ∷ [])
    ∙ ap (λ (b : Bool). kept_lines texts ++ cond (not b) (text ∷ []) []) told
    ∙ ap (λ (ls : List (List ℕ)). ls ++ text ∷ []) so_far
    ∙ ap (λ (one : List ℕ). map line_text lines ++ one ∷ []) is.same
    ∙ sym (map-append line_text lines (line ∷ []))

-- and one that is skipped
kept_same : (texts : List (List ℕ)) (text : List ℕ) → is_skipped text ≡ true → kept_lines (texts ++ text ∷ []) ≡ kept_lines texts
kept_same texts text skipped =
    filter-append (λ one. not (is_skipped one)) texts (text ∷ []) ∙ ap (λ (b : Bool). kept_lines texts ++ cond (not b) (text ∷ []) []) skipped ∙ append-nil (kept_lines texts)

run_more : (draft next : Draft) (lines : List Line) (line : Line) → with_each_line no_lines lines ≡ Some draft → with_line draft line ≡ Some next → with_each_line no_lines (lines ++ line ∷ []) ≡ Some next
run_more draft next lines line so_far e =
    with_lines-append no_lines lines (line ∷ []) ∙ ap (λ (o : Option Draft). o >>= λ last. with_each_line last (line ∷ [])) so_far
    ∙ ap (λ (o : Option Draft). o >>= λ last. Some last) e

-- one line on
pub goes_on : (count : ℕ) (bytes rest : List ℕ) (draft next : Draft) (text after : List ℕ) → IsAt count bytes rest draft → IsNext count bytes text after
    → count + 1 ≤ most_lines → length bytes ≤ most_bytes + length after → Takes draft text next → IsAt (count + 1) bytes after next
goes_on count bytes rest draft next text after is line few size takes = record {
  reads = by (is_skipped text) refl;
  within = omega (arith, line.there);
  left = line.left;
  size = line.size;
}
  where
    texts : List (List ℕ)
    texts = take count (lines_of bytes)

    each : All IsLineText (take (count + 1) (lines_of bytes))
    each = subst (All IsLineText) (sym line.taken) (All-push IsLineText (take count (lines_of bytes)) text is.reads.each takes.is.fine)

    by : (b : Bool) → is_skipped text ≡ b → ReadsLines (count + 1) bytes next
    by true e =
        let none : takes.line ≡ Skipped = none_said text takes.line e takes.is.says in
        let same : draft ≡ next = same_Some draft next (sym (ap (with_line draft) none) ∙ takes.next_is) in
        record {
          few = few;
          size = omega (arith, line.size);
          each = each;
          lines = is.reads.lines;
          fit = is.reads.fit;
          texts = ap kept_lines line.taken ∙ kept_same (take count (lines_of bytes)) text e ∙ is.reads.texts;
          draft_is = is.reads.draft_is ∙ ap Some same;
        }
    by false e =
        let said = text_said text takes.line e takes.is.says in
        record {
          few = few;
          size = omega (arith, line.size);
          each = each;
          lines = is.reads.lines ++ takes.line ∷ [];
          fit = All-push IsLine is.reads.lines takes.line is.reads.fit said.fits;
          texts = ap kept_lines line.taken ∙ kept_more (take count (lines_of bytes)) text is.reads.lines takes.line is.reads.texts said;
          draft_is = run_more draft next is.reads.lines takes.line is.reads.draft_is takes.next_is;
        }

fails_after : (count : ℕ) (bytes rest : List ℕ) (draft : Draft) (text after : List ℕ) → IsAt count bytes rest draft → IsNext count bytes text after
    → ((next : Draft) → ReadsLines (count + 1) bytes next → ⊥) → AnswersReading bytes (Err (scripts.Refused (count + 1)))
fails_after count bytes rest draft text after is line fails = inl (count, refl, record { there = line.there; draft = draft; before = is.reads; fails = fails })

-- a line too many
pub too_many : (count : ℕ) (bytes rest : List ℕ) (draft : Draft) (text after : List ℕ) → IsAt count bytes rest draft → IsNext count bytes text after → most_lines < count + 1
    → AnswersReading bytes (Err (scripts.Refused (count + 1)))
too_many count bytes rest draft text after is line h = fails_after count bytes rest draft text after is line (λ next reads. absurd (omega (arith, reads.few)))

-- a line too far
pub too_far : (count : ℕ) (bytes rest : List ℕ) (draft : Draft) (text after : List ℕ) → IsAt count bytes rest draft → IsNext count bytes text after → most_bytes + length after < length bytes
    → AnswersReading bytes (Err (scripts.Refused (count + 1)))
too_far count bytes rest draft text after is line h = fails_after count bytes rest draft text after is line (λ next reads. absurd (omega (arith, reads.size, line.size)))

-- the texts of lines that end with one are those of the lines before the last, and the last has that text
record EndWith (front : List (List ℕ)) (text : List ℕ) (lines : List Line) : Type 0 where
  pub before : List Line
  pub last : Line
  pub apart : lines ≡ before ++ last ∷ []
  pub front_is : front ≡ map line_text before
  pub text_is : text ≡ line_text last

end_with : (front : List (List ℕ)) (text : List ℕ) (lines : List Line) → front ++ text ∷ [] ≡ map line_text lines → EndWith front text lines
end_with [] text [] e = absurd cc
end_with [] text (line ∷ []) e = record { before = []; last = line; apart = refl; front_is = refl; text_is = (heads e).0 }
end_with [] text (line ∷ next ∷ lines) e = absurd (let f = (heads e).1 in cc)
end_with (one ∷ front) text [] e = absurd cc
end_with (one ∷ front) text (line ∷ lines) e =
    let parts = heads e in
    let rest = end_with front text lines parts.1 in
    record {
      before = line ∷ rest.before;
      last = rest.last;
      apart = ap (λ (ls : List Line). line ∷ ls) rest.apart;
      front_is = ap (λ (t : List ℕ). t ∷ front) parts.0 ∙ ap (λ (ls : List (List ℕ)). line_text line ∷ ls) rest.front_is;
      text_is = rest.text_is;
    }

-- what the lines so far and the next one read as, the next line gives
took : (count : ℕ) (bytes rest : List ℕ) (draft next : Draft) (text after : List ℕ) → IsAt count bytes rest draft → IsNext count bytes text after → ReadsLines (count + 1) bytes next → (last : Draft) × Takes draft text last
took count bytes rest draft next text after is line reads = by (is_skipped text) refl
  where
    fine : IsLineText text
    fine = (recursion_last IsLineText (take count (lines_of bytes)) text (recursion_from_All IsLineText (take count (lines_of bytes) ++ text ∷ []) (subst (All IsLineText) line.taken reads.each)))

    by : (b : Bool) → is_skipped text ≡ b → (last : Draft) × Takes draft text last
    by true e = (draft, record { line = Skipped; is = record { fine = fine; says = e }; next_is = refl })
    by false e =
        let whole : kept_lines (take count (lines_of bytes)) ++ text ∷ [] ≡ map line_text reads.lines =
        sym (filter-append (λ one. not (is_skipped one)) (take count (lines_of bytes)) (text ∷ []) ∙ ap (λ (b : Bool). kept_lines (take count (lines_of bytes)) ++ cond (not b) (text ∷ []) []) e)
        ∙ ap kept_lines (sym line.taken) ∙ reads.texts in
        let ends = end_with (kept_lines (take count (lines_of bytes))) text reads.lines whole in
        let fit : AllByRecursion IsLine (ends.before ++ ends.last ∷ []) = subst (AllByRecursion IsLine) {y = ends.before ++ ends.last ∷ []} ends.apart (recursion_from_All IsLine reads.lines reads.fit) in
        let before : ends.before ≡ is.reads.lines =
        one_lines ends.before is.reads.lines (recursion_front IsLine ends.before ends.last fit) (recursion_from_All IsLine is.reads.lines is.reads.fit) (sym ends.front_is ∙ is.reads.texts) in
        let run : (with_each_line no_lines ends.before >>= λ d. with_each_line d (ends.last ∷ [])) ≡ Some next =
        sym (with_lines-append no_lines ends.before (ends.last ∷ [])) ∙ ap (with_each_line no_lines) (sym ends.apart) ∙ reads.draft_is in
        let at : (with_line draft ends.last >>= λ d. Some d) ≡ Some next =
        sym (ap (λ (o : Option Draft). o >>= λ d. with_each_line d (ends.last ∷ [])) (ap (with_each_line no_lines) before ∙ is.reads.draft_is)) ∙ run in
        let made = bound (with_line draft ends.last) (λ d. Some d) next at in (
          made.0,
          record {
            line = ends.last;
            is = record { fine = fine; says = says text ends.last (record { same = ends.text_is; fits = recursion_last IsLine ends.before ends.last fit }) };
            next_is = made.1;
          },
        )

-- a line that fails
pub refuses : (error : LineError) (count : ℕ) (bytes rest : List ℕ) (draft : Draft) (text after : List ℕ) → IsAt count bytes rest draft → IsNext count bytes text after
    → FindsNone error (Takes draft text) → AnswersReading bytes (Err (at_line error (count + 1)))
refuses faults.Memory count bytes rest draft text after is line fails = tt
refuses (faults.Refused fault) count bytes rest draft text after is line none =
    fails_after count bytes rest draft text after is line
    (λ next reads. let last = took count bytes rest draft next text after is line reads in none last.0 last.1)

-- ---- with no line left

all_read : (count : ℕ) (bytes rest : List ℕ) (draft : Draft) → rest ≡ [] → IsAt count bytes rest draft → count ≡ length (lines_of bytes)
all_read count bytes rest draft none is =
    let dropped : drop count (lines_of bytes) ≡ [] = sym is.left ∙ ap lines_of none in
    omega (arith, ap length dropped, length-drop count (lines_of bytes), is.within)

reads_all : (count : ℕ) (bytes rest : List ℕ) (draft : Draft) → rest ≡ [] → IsAt count bytes rest draft → ReadsLines (length (lines_of bytes)) bytes draft
reads_all count bytes rest draft none is = subst (λ (n : ℕ). ReadsLines n bytes draft) (all_read count bytes rest draft none is) is.reads

pub ends : (script : Script) (count : ℕ) (bytes rest : List ℕ) (draft : Draft) → rest ≡ [] → IsAt count bytes rest draft → script_of_draft draft ≡ Some script → AnswersReading bytes (Ok script)
ends script count bytes rest draft none is made = record { draft = draft; before = reads_all count bytes rest draft none is; script_is = made }

pub ends_open : (error : LineError) (count : ℕ) (bytes rest : List ℕ) (draft : Draft) → rest ≡ [] → IsAt count bytes rest draft → Fails error (script_of_draft draft)
    → AnswersReading bytes (Err (at_line error (count + 1)))
ends_open faults.Memory count bytes rest draft none is fails = tt
ends_open (faults.Refused fault) count bytes rest draft none is fails =
    inr (ap (λ (n : ℕ). n + 1) (all_read count bytes rest draft none is), record { draft = draft; before = reads_all count bytes rest draft none is; fails = fails })
