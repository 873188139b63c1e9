-- The lines of lives, put together to the script that these lives are.
use Rattle.std.proofs.Common.{◌≡◌, ℕ, List, [], ◌∷◌, ◌++◌, map, Option, Some, None, refl, sym, ap, ◌∙◌, append_assoc}
use Rattle.std.specs.Prelude.{codes, All, IfSome, IsSome}
use Rattle.std.specs.List.{flat_map, AllByRecursion}
use Rattle.std.proofs.lemmas.List.{append-nil, map-append}
use Rattle.std.proofs.lemmas.List.Elements.{recursion_from_All}
use Rattle.rm_types.specs.declared.scripts.Life.{Life}
use Rattle.rm_types.specs.declared.scripts.Segment.{Segment}
use Rattle.rm_script.specs.declared.lines.Line.{Line}
use Rattle.rm_script.specs.declared.lines.Line.TheVariants.{Start, Settle, Crash, Deliver, Lose}
use Rattle.rm_script.specs.declared.drafts.Draft.{Draft}
use Rattle.rm_script.specs.Written.{Sent, Delivered, Lost, Crashing, WrittenLife, settled_segment, crash_segments, life_of, script_of_lives}
use Rattle.rm_script.specs.Spelling.{sent_text, start_text, crash_text, settled_lines, crash_lines, life_lines, script_lines}
use Rattle.rm_script.specs.Scripts.{IsSent, IsCrash, IsLife, EndsByCrash, IsLineOf, EachButLast, AreLives}
use Rattle.rm_lines.specs.Results.{◌>>=◌}
use Rattle.rm_lines.proofs.Parts.{heads}
use Rattle.rm_script.specs.Reading.{line_text, with_line, with_each_line, script_of_draft, IsLine}
use Rattle.rm_script.proofs.OneLine.{one_line}
use Rattle.rm_script.proofs.Drafting.{Between, Going, draft_of, crashed_life, delivered_is, lost_is, settled_is, crashed_is}

-- ---- the lines of lives as values

abbrev mark_of : Sent → Line
mark_of (Delivered message) = Deliver message
mark_of (Lost message) = Lose message

abbrev settled_marks : List Sent → List Line
settled_marks sent = map mark_of sent ++ Settle ∷ []

abbrev crash_marks : Option Crashing → List Line
crash_marks None = []
crash_marks (Some crash) = map mark_of crash.sent ++ Crash crash.calls crash.image ∷ []

abbrev life_marks : WrittenLife → List Line
life_marks life = (Start life.stamp ∷ flat_map settled_marks life.settled) ++ crash_marks life.crash

abbrev pub script_marks : List WrittenLife → List Line
script_marks lives = flat_map life_marks lives

texts-sent : (sent : List Sent) → map line_text (map mark_of sent) ≡ map sent_text sent
texts-sent [] = refl
texts-sent (Delivered message ∷ sent) = ap (λ (ls : List (List ℕ)). sent_text (Delivered message) ∷ ls) (texts-sent sent)
texts-sent (Lost message ∷ sent) = ap (λ (ls : List (List ℕ)). sent_text (Lost message) ∷ ls) (texts-sent sent)

texts-settled : (sent : List Sent) → map line_text (settled_marks sent) ≡ settled_lines sent
texts-settled sent = map-append line_text (map mark_of sent) (Settle ∷ []) ∙ ap (λ (ls : List (List ℕ)). ls ++ codes "settle" ∷ []) (texts-sent sent)

texts-segments : (done : List (List Sent)) → map line_text (flat_map settled_marks done) ≡ flat_map settled_lines done
texts-segments [] = refl
texts-segments (sent ∷ done) =
    map-append line_text (settled_marks sent) (flat_map settled_marks done) ∙ ap (λ (ls : List (List ℕ)). ls ++ map line_text (flat_map settled_marks done)) (texts-settled sent)
    ∙ ap (λ (ls : List (List ℕ)). settled_lines sent ++ ls) (texts-segments done)

texts-crash : (crash : Option Crashing) → map line_text (crash_marks crash) ≡ crash_lines crash
texts-crash None = refl
texts-crash (Some crash) =
    map-append line_text (map mark_of crash.sent) (Crash crash.calls crash.image ∷ []) ∙ ap (λ (ls : List (List ℕ)). ls ++ crash_text crash ∷ []) (texts-sent crash.sent)

texts-life : (life : WrittenLife) → map line_text (life_marks life) ≡ life_lines life
texts-life life =
    map-append line_text (Start life.stamp ∷ flat_map settled_marks life.settled) (crash_marks life.crash)
    ∙ ap (λ (ls : List (List ℕ)). (start_text life.stamp ∷ ls) ++ map line_text (crash_marks life.crash)) (texts-segments life.settled)
    ∙ ap (λ (ls : List (List ℕ)). (start_text life.stamp ∷ flat_map settled_lines life.settled) ++ ls) (texts-crash life.crash)

-- their texts are the script's lines
pub texts-lives : (lives : List WrittenLife) → map line_text (script_marks lives) ≡ script_lines lives
texts-lives [] = refl
texts-lives (life ∷ lives) =
    map-append line_text (life_marks life) (script_marks lives) ∙ ap (λ (ls : List (List ℕ)). ls ++ map line_text (script_marks lives)) (texts-life life)
    ∙ ap (λ (ls : List (List ℕ)). life_lines life ++ ls) (texts-lives lives)

pub append_both : {A : Type 0} (P : A → Type 0) (xs ys : List A) → AllByRecursion P xs → AllByRecursion P ys → AllByRecursion P (xs ++ ys)
append_both P [] ys h k = k
append_both P (x ∷ xs) ys h k = (h.0, append_both P xs ys h.1 k)

marks-sent : (sent : List Sent) → AllByRecursion IsSent sent → AllByRecursion IsLine (map mark_of sent)
marks-sent [] fit = tt
marks-sent (Delivered message ∷ sent) fit = (fit.0, marks-sent sent fit.1)
marks-sent (Lost message ∷ sent) fit = (fit.0, marks-sent sent fit.1)

marks-segments : (done : List (List Sent)) → AllByRecursion (All IsSent) done → AllByRecursion IsLine (flat_map settled_marks done)
marks-segments [] fit = tt
marks-segments (sent ∷ done) fit =
    append_both IsLine (settled_marks sent) (flat_map settled_marks done)
    (append_both IsLine (map mark_of sent) (Settle ∷ []) (marks-sent sent (recursion_from_All IsSent sent fit.0)) (tt, tt)) (marks-segments done fit.1)

marks-crash : (crash : Option Crashing) → IfSome crash IsCrash → AllByRecursion IsLine (crash_marks crash)
marks-crash None fit = tt
marks-crash (Some crash) fit =
    append_both IsLine (map mark_of crash.sent) (Crash crash.calls crash.image ∷ []) (marks-sent crash.sent (recursion_from_All IsSent crash.sent fit.sent)) (record { calls_fit = fit.calls; image_fits = fit.image }, tt)

marks-life : (life : WrittenLife) → IsLife life → AllByRecursion IsLine (life_marks life)
marks-life life fit =
    append_both IsLine (Start life.stamp ∷ flat_map settled_marks life.settled) (crash_marks life.crash)
    (fit.stamp, marks-segments life.settled (recursion_from_All (All IsSent) life.settled fit.settled)) (marks-crash life.crash fit.crash)

-- each of them is such a line
pub marks-lives : (lives : List WrittenLife) → AllByRecursion IsLife lives → AllByRecursion IsLine (script_marks lives)
marks-lives [] fit = tt
marks-lives (life ∷ lives) fit = append_both IsLine (life_marks life) (script_marks lives) (marks-life life fit.0) (marks-lives lives fit.1)

-- ---- lines one after the other

pub associated : (o : Option Draft) (f g h : Draft → Option Draft) → ((draft : Draft) → f draft ≡ (g draft >>= h)) → (o >>= f) ≡ ((o >>= g) >>= h)
associated None f g h e = refl
associated (Some draft) f g h e = e draft

pub with_lines-append : (draft : Draft) (xs ys : List Line) → with_each_line draft (xs ++ ys) ≡ (with_each_line draft xs >>= λ next. with_each_line next ys)
with_lines-append draft [] ys = refl
with_lines-append draft (line ∷ xs) ys = associated (with_line draft line) (λ next. with_each_line next (xs ++ ys)) (λ next. with_each_line next xs) (λ next. with_each_line next ys) (λ next. with_lines-append next xs ys)

-- lines with the same texts are the same
pub one_lines : (ones others : List Line) → AllByRecursion IsLine ones → AllByRecursion IsLine others → map line_text ones ≡ map line_text others → ones ≡ others
one_lines [] [] marks marks' e = refl
one_lines [] (other ∷ others) marks marks' e = absurd cc
one_lines (one ∷ ones) [] marks marks' e = absurd cc
one_lines (one ∷ ones) (other ∷ others) marks marks' e =
    let parts = heads e in
    ap (λ (line : Line). line ∷ ones) (one_line one other marks.0 marks'.0 parts.0) ∙ ap (λ (lines : List Line). other ∷ lines) (one_lines ones others marks.1 marks'.1 parts.1)

-- ---- their draft

run_on : (draft next : Draft) (line : Line) (more : List Line) → with_line draft line ≡ Some next → with_each_line draft (line ∷ more) ≡ with_each_line next more
run_on draft next line more e = ap (λ (o : Option Draft). o >>= λ n. with_each_line n more) e

run_sent : (lives : List WrittenLife) (stamp : ℕ) (done : List (List Sent)) (before sent : List Sent) (more : List Line)
    → with_each_line (draft_of (Going lives stamp done before)) (map mark_of sent ++ more) ≡ with_each_line (draft_of (Going lives stamp done (before ++ sent))) more
run_sent lives stamp done before [] more = ap (λ (s : List Sent). with_each_line (draft_of (Going lives stamp done s)) more) (sym (append-nil before))
run_sent lives stamp done before (Delivered message ∷ sent) more =
    ap (λ (d : Draft). with_each_line d (map mark_of sent ++ more)) (delivered_is lives stamp done before message)
    ∙ run_sent lives stamp done (before ++ Delivered message ∷ []) sent more
    ∙ ap (λ (s : List Sent). with_each_line (draft_of (Going lives stamp done s)) more) (append_assoc before (Delivered message ∷ []) sent)
run_sent lives stamp done before (Lost message ∷ sent) more =
    ap (λ (d : Draft). with_each_line d (map mark_of sent ++ more)) (lost_is lives stamp done before message)
    ∙ run_sent lives stamp done (before ++ Lost message ∷ []) sent more
    ∙ ap (λ (s : List Sent). with_each_line (draft_of (Going lives stamp done s)) more) (append_assoc before (Lost message ∷ []) sent)

run_segment : (lives : List WrittenLife) (stamp : ℕ) (done : List (List Sent)) (sent : List Sent) (more : List Line)
    → with_each_line (draft_of (Going lives stamp done [])) (settled_marks sent ++ more) ≡ with_each_line (draft_of (Going lives stamp (done ++ sent ∷ []) [])) more
run_segment lives stamp done sent more =
    ap (with_each_line (draft_of (Going lives stamp done []))) (append_assoc (map mark_of sent) (Settle ∷ []) more)
    ∙ run_sent lives stamp done [] sent (Settle ∷ more)
    ∙ ap (λ (d : Draft). with_each_line d more) (settled_is lives stamp done sent)

run_segments : (lives : List WrittenLife) (stamp : ℕ) (before done : List (List Sent)) (more : List Line)
    → with_each_line (draft_of (Going lives stamp before [])) (flat_map settled_marks done ++ more) ≡ with_each_line (draft_of (Going lives stamp (before ++ done) [])) more
run_segments lives stamp before [] more = ap (λ (d : List (List Sent)). with_each_line (draft_of (Going lives stamp d [])) more) (sym (append-nil before))
run_segments lives stamp before (sent ∷ done) more =
    ap (with_each_line (draft_of (Going lives stamp before []))) (append_assoc (settled_marks sent) (flat_map settled_marks done) more)
    ∙ run_segment lives stamp before sent (flat_map settled_marks done ++ more)
    ∙ run_segments lives stamp (before ++ sent ∷ []) done more
    ∙ ap (λ (d : List (List Sent)). with_each_line (draft_of (Going lives stamp d [])) more) (append_assoc before (sent ∷ []) done)

-- the crash of the life that goes on
run_crash : (lives : List WrittenLife) (stamp : ℕ) (done : List (List Sent)) (sent : List Sent) (calls image : ℕ)
    → with_line (draft_of (Going lives stamp done sent)) (Crash calls image) ≡ Some (draft_of (Between (lives ++ crashed_life stamp done sent calls image ∷ [])))
run_crash lives stamp done sent calls image = ap Some (crashed_is lives (crashed_life stamp done sent calls image))

-- the lines of a life up to the segment that crashes
run_life : (lives : List WrittenLife) (life : WrittenLife) (more : List Line)
    → with_each_line (draft_of (Between lives)) (life_marks life ++ more) ≡ with_each_line (draft_of (Going lives life.stamp life.settled [])) (crash_marks life.crash ++ more)
run_life lives life more =
    ap (with_each_line (draft_of (Between lives))) (append_assoc (Start life.stamp ∷ flat_map settled_marks life.settled) (crash_marks life.crash) more)
    ∙ run_segments lives life.stamp [] life.settled (crash_marks life.crash ++ more)

run_end : (lives : List WrittenLife) (life : WrittenLife) (crash : Option Crashing) (more : List Line) → life.crash ≡ crash → IfSome crash IsCrash → IsSome crash
    → with_each_line (draft_of (Going lives life.stamp life.settled [])) (crash_marks crash ++ more) ≡ with_each_line (draft_of (Between (lives ++ life ∷ []))) more
run_end lives life None more e fit crashes = absurd cc
run_end lives life (Some crash) more e fit crashes =
    let marks : crash_marks (Some crash) ++ more ≡ map mark_of crash.sent ++ (Crash crash.calls crash.image ∷ more) = append_assoc (map mark_of crash.sent) (Crash crash.calls crash.image ∷ []) more in
    ap (with_each_line (draft_of (Going lives life.stamp life.settled []))) marks
    ∙ run_sent lives life.stamp life.settled [] crash.sent (Crash crash.calls crash.image ∷ more)
    ∙ run_on (draft_of (Going lives life.stamp life.settled crash.sent)) (draft_of (Between (lives ++ crashed_life life.stamp life.settled crash.sent crash.calls crash.image ∷ []))) (Crash crash.calls crash.image) more
    (run_crash lives life.stamp life.settled crash.sent crash.calls crash.image)
    ∙ ap (λ (c : Option Crashing). with_each_line (draft_of (Between (lives ++ record { stamp = life.stamp; settled = life.settled; crash = c } ∷ []))) more) (sym e)

-- the last life, with a crash or without
run_last : (lives : List WrittenLife) (life : WrittenLife) (crash : Option Crashing) → life.crash ≡ crash → IfSome crash IsCrash
    → (with_each_line (draft_of (Going lives life.stamp life.settled [])) (crash_marks crash ++ []) >>= script_of_draft) ≡ Some (script_of_lives (lives ++ life ∷ []))
run_last lives life None e fit =
    ap (λ (ls : List Life). Some (record { lives = ls }))
    (ap (λ (segments : List Segment). map life_of lives ++ record { stamp = life.stamp; segments = segments } ∷ []) (sym (ap (λ (c : Option Crashing). map settled_segment life.settled ++ crash_segments c) e ∙ append-nil (map settled_segment life.settled)))
    ∙ sym (map-append life_of lives (life ∷ [])))
run_last lives life (Some crash) e fit = ap (λ (o : Option Draft). o >>= script_of_draft) (run_end lives life (Some crash) [] e fit refl)

-- the lines of lives make the script that they are
run_lives : (done lives : List WrittenLife) → AllByRecursion IsLife lives → EachButLast EndsByCrash lives
    → (with_each_line (draft_of (Between done)) (script_marks lives) >>= script_of_draft) ≡ Some (script_of_lives (done ++ lives))
run_lives done [] fit crash = ap (λ (ls : List WrittenLife). Some (script_of_lives ls)) (sym (append-nil done))
run_lives done (life ∷ []) fit crash =
    ap (λ (o : Option Draft). o >>= script_of_draft) (run_life done life []) ∙ run_last done life life.crash refl fit.0.crash
run_lives done (life ∷ next ∷ lives) fit crash =
    ap (λ (o : Option Draft). o >>= script_of_draft) (run_life done life (script_marks (next ∷ lives)) ∙ run_end done life life.crash (script_marks (next ∷ lives)) refl fit.0.crash crash.0)
    ∙ run_lives (done ++ life ∷ []) (next ∷ lives) fit.1 crash.1
    ∙ ap (λ (ls : List WrittenLife). Some (script_of_lives ls)) (append_assoc done (life ∷ []) (next ∷ lives))

pub script_runs : (lives : List WrittenLife) → AreLives lives → (with_each_line (draft_of (Between [])) (script_marks lives) >>= script_of_draft) ≡ Some (script_of_lives lives)
script_runs lives fit = run_lives [] lives (recursion_from_All IsLife lives fit.each) fit.crash

-- ---- one line for each message that is sent, and one message for each line

pub one_text : (one other : List ℕ) (sent : Sent) → IsLineOf one sent → IsLineOf other sent → one ≡ other
one_text one other sent is again = is.text ∙ sym again.text

text_of_mark : (sent : Sent) → line_text (mark_of sent) ≡ sent_text sent
text_of_mark (Delivered message) = refl
text_of_mark (Lost message) = refl

mark_fits : (sent : Sent) → IsSent sent → IsLine (mark_of sent)
mark_fits (Delivered message) fits = fits
mark_fits (Lost message) fits = fits

same_sent : (one other : Sent) → mark_of one ≡ mark_of other → one ≡ other
same_sent (Delivered message) (Delivered again) e =
    let same : message ≡ again = cc in
    ap Delivered same
same_sent (Delivered message) (Lost again) e = absurd cc
same_sent (Lost message) (Delivered again) e = absurd cc
same_sent (Lost message) (Lost again) e =
    let same : message ≡ again = cc in
    ap Lost same

pub one_sent : (line : List ℕ) (one other : Sent) → IsLineOf line one → IsLineOf line other → one ≡ other
one_sent line one other is again =
    same_sent one other
    (one_line (mark_of one) (mark_of other) (mark_fits one is.fits) (mark_fits other again.fits) (text_of_mark one ∙ sym is.text ∙ again.text ∙ sym (text_of_mark other)))
