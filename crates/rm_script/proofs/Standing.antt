-- The first lines of bytes stand exactly where they read as a draft, and the bytes are a script where all do and the
-- draft is it.
use Rattle.std.proofs.Common.{◌≡◌, ℕ, ◌≤◌, not, List, [], ◌∷◌, ◌++◌, length, map, take, drop, Some, None, refl, sym, ap, subst, ◌∙◌, append_assoc, arith}
use Rattle.std.specs.Prelude.{codes, All}
use Rattle.std.specs.List.{flat_map, AllByRecursion}
use Rattle.std.proofs.lemmas.Option.{same_Some}
use Rattle.std.proofs.lemmas.List.{append-nil, map-append, take-take, take-map, take_all, take-append-drop, length-append}
use Rattle.std.proofs.lemmas.List.Concat.{flat_map-append}
use Rattle.std.proofs.lemmas.List.Elements.{All-nil, All-push, All-take, filter-append, All-from_recursion, recursion_from_All}
use Rattle.std.proofs.Math.Seq.{take-append_seam}
use Rattle.rm_types.specs.Lists.{is_nil}
use Rattle.rm_types.specs.Ranges.{IsWithin}
use Rattle.rm_types.specs.declared.scripts.Life.{Life}
use Rattle.rm_types.specs.declared.scripts.Segment.{Segment}
use Rattle.rm_types.specs.declared.scripts.Script.{Script}
use Rattle.rm_script.specs.declared.lines.Line.{Line}
use Rattle.rm_script.specs.declared.drafts.Draft.{Draft}
use Rattle.rm_lines.specs.Lines.{lines_of, ended, is_skipped, kept_lines}
use Rattle.rm_script.specs.Lines.{IsLineText}
use Rattle.rm_lines.specs.Results.{◌>>=◌}
use Rattle.rm_lines.proofs.Parts.{bound, not_chosen}
use Rattle.rm_script.specs.Written.{Sent, WrittenLife, settled_segment, life_of, script_of_lives}
use Rattle.rm_script.specs.Spelling.{start_text, life_lines, script_lines}
use Rattle.rm_script.specs.Scripts.{IsSent, IsLife, EndsByCrash, EachButLast, AreLives, Spell, IsScript}
use Rattle.rm_script.specs.Refusals.{CanBegin, Stand}
use Rattle.rm_types.specs.Limits.{greatest_stamp}
use Rattle.rm_script.specs.Reading.{told_life, line_text, with_each_line, no_lines, script_of_draft, IsLine, ReadsLines, ReadsAll}
use Rattle.rm_script.proofs.Drafting.{Written, Between, Going, living_of, draft_of, written_lines, AreCrashed, Fits, Grown, nothing_sent, settled_text, lines_of-push, with_lines_are}
use Rattle.rm_script.proofs.Running.{script_marks, texts-lives, marks-lives, with_lines-append, one_lines, script_runs}

-- ---- lives at the end of others

last_apart : (lives : List WrittenLife) (last : WrittenLife) → AllByRecursion EndsByCrash lives → EachButLast EndsByCrash (lives ++ last ∷ [])
last_apart [] last crash = tt
last_apart (life ∷ []) last crash = (crash.0, tt)
last_apart (life ∷ next ∷ lives) last crash = (crash.0, last_apart (next ∷ lives) last crash.1)

each_apart : (lives : List WrittenLife) → AllByRecursion EndsByCrash lives → EachButLast EndsByCrash lives
each_apart [] crash = tt
each_apart (life ∷ []) crash = tt
each_apart (life ∷ next ∷ lives) crash = (crash.0, each_apart (next ∷ lives) crash.1)

crashed_are_lives : (lives : List WrittenLife) → AreCrashed lives → AreLives lives
crashed_are_lives lives fit = record { each = fit.each; crash = each_apart lives (recursion_from_All EndsByCrash lives fit.crash) }

-- a life that hasn't crashed
abbrev open_life : ℕ → List (List Sent) → WrittenLife
open_life stamp done = record { stamp = stamp; settled = done; crash = None }

with_open_life : (lives : List WrittenLife) (stamp : ℕ) (done : List (List Sent)) → AreCrashed lives → IsWithin 1 greatest_stamp stamp → All (All IsSent) done
    → AreLives (lives ++ open_life stamp done ∷ [])
with_open_life lives stamp done fit stamp_fits done_fit =
    let life : WrittenLife = open_life stamp done in
    let is : IsLife life = record { stamp = stamp_fits; settled = done_fit; crash = tt } in
    record { each = All-push IsLife lives life fit.each is; crash = last_apart lives life (recursion_from_All EndsByCrash lives fit.crash) }

-- ---- a draft can be finished

finish : (written : Written) (lines : List (List ℕ)) → Fits written → written_lines written ≡ kept_lines lines → CanBegin lines
finish (Between lives) lines fits same = record {
  more = [];
  script = script_of_lives lives;
  spelled = record { lives = lives; fit = crashed_are_lives lives fits; text = ap kept_lines (append-nil lines) ∙ sym same; same = refl };
}
finish (Going lives stamp done sent) lines fits same =
    let life : WrittenLife = open_life stamp (done ++ sent ∷ []) in
    let settle : List (List ℕ) = codes "settle" ∷ [] in
    let kept : kept_lines (lines ++ settle) ≡ kept_lines lines ++ settle = filter-append (λ line. not (is_skipped line)) lines settle in
    let added : kept_lines lines ++ settle ≡ written_lines (Going lives stamp done sent) ++ settle = ap (λ (ls : List (List ℕ)). ls ++ settle) (sym same) in
    let whole : script_lines (lives ++ life ∷ []) ≡ written_lines (Going lives stamp done sent) ++ settle =
    lines_of-push lives life ∙ settled_text (script_lines lives) (start_text stamp ∷ []) done sent in
    record {
      more = settle;
      script = script_of_lives (lives ++ life ∷ []);
      spelled = record {
        lives = lives ++ life ∷ [];
        fit = with_open_life lives stamp (done ++ sent ∷ []) fits.lives_fit fits.stamp_fits (All-push (All IsSent) done sent fits.done_fit fits.sent_fit);
        text = kept ∙ added ∙ sym whole;
        same = refl;
      };
    }

no_lives : AreCrashed []
no_lives = record { each = All-nil IsLife; crash = All-nil EndsByCrash }

-- what was written of the lines that read as a draft
grown_of : (count : ℕ) (bytes : List ℕ) (draft : Draft) → ReadsLines count bytes draft → Grown (Between []) (kept_lines (take count (lines_of bytes))) draft
grown_of count bytes draft reads =
    subst (λ (ls : List (List ℕ)). Grown (Between []) ls draft) (sym reads.texts)
    (with_lines_are (Between []) reads.lines draft reads.draft_is no_lives (recursion_from_All IsLine reads.lines reads.fit))

-- lines that read as a draft stand
pub reads_stand : (count : ℕ) (bytes : List ℕ) (draft : Draft) → ReadsLines count bytes draft → Stand count bytes
reads_stand count bytes draft reads =
    let grew = grown_of count bytes draft reads in
    record {
      limits = record { few = reads.few; size = reads.size; each = reads.each };
      begin = finish grew.after (take count (lines_of bytes)) grew.fits grew.lines;
    }

-- ---- a draft that is a script

done_spells : (written : Written) (lines : List (List ℕ)) (script : Script) → Fits written → written_lines written ≡ kept_lines lines → script_of_draft (draft_of written) ≡ Some script → Spell lines script
done_spells (Between lives) lines script fits same e = record {
  lives = lives;
  fit = crashed_are_lives lives fits;
  text = sym same;
  same = sym (same_Some (script_of_lives lives) script e);
}
done_spells (Going lives stamp done sent) lines script fits same e =
    let life : WrittenLife = open_life stamp done in
    let made : Script = record { lives = map life_of lives ++ told_life (living_of stamp done sent) ∷ [] } in
    let parts = not_chosen (not (is_nil sent)) (Some made) script e in
    let segments : map settled_segment done ≡ map settled_segment done ++ [] = sym (append-nil (map settled_segment done)) in
    let one : made ≡ record { lives = map life_of lives ++ life_of life ∷ [] } =
    ap (λ (ss : List Segment). record { lives = map life_of lives ++ record { stamp = stamp; segments = ss } ∷ [] }) segments in
    let all : record { lives = map life_of lives ++ life_of life ∷ [] } ≡ script_of_lives (lives ++ life ∷ []) =
    ap (λ (ls : List Life). record { lives = ls }) (sym (map-append life_of lives (life ∷ []))) in
    let open_lines : written_lines (Going lives stamp done sent) ≡ script_lines lives ++ life_lines life =
    ap (λ (s : List Sent). written_lines (Going lives stamp done s)) (nothing_sent sent parts.0) in
    record {
      lives = lives ++ life ∷ [];
      fit = with_open_life lives stamp done fits.lives_fit fits.stamp_fits fits.done_fit;
      text = sym same ∙ open_lines ∙ sym (lines_of-push lives life);
      same = sym (same_Some made script parts.1) ∙ one ∙ all;
    }

pub all_lines : (bytes : List ℕ) → take (length (lines_of bytes)) (lines_of bytes) ≡ lines_of bytes
all_lines bytes = take_all (length (lines_of bytes)) (lines_of bytes) (omega arith)

-- bytes all lines of which read as a draft that is a script are the script
pub read_is_script : (bytes : List ℕ) (script : Script) → ReadsAll bytes script → IsScript bytes script
read_is_script bytes script all =
    let grew = grown_of (length (lines_of bytes)) bytes all.draft all.before in
    let made : script_of_draft (draft_of grew.after) ≡ Some script = ap script_of_draft (sym grew.is) ∙ all.script_is in
    let lines : written_lines grew.after ≡ kept_lines (lines_of bytes) = grew.lines ∙ ap kept_lines (all_lines bytes) in
    record {
      limits = (reads_stand (length (lines_of bytes)) bytes all.draft all.before).limits;
      spelled = done_spells grew.after (lines_of bytes) script grew.fits lines made;
    }

-- ---- what stands is read

-- the first lines of a script are the texts of its first lines as values
front_marks : (lives : List WrittenLife) (front back : List (List ℕ)) → front ++ back ≡ script_lines lives → front ≡ map line_text (take (length front) (script_marks lives))
front_marks lives front back same =
    sym (take-append_seam front back) ∙ ap (take (length front)) (same ∙ sym (texts-lives lives)) ∙ take-map line_text (length front) (script_marks lives)

-- the first lines of bytes that stand read as a draft
pub stand_reads : (count : ℕ) (bytes : List ℕ) → Stand count bytes → (draft : Draft) × ReadsLines count bytes draft
stand_reads count bytes stand =
    let lines : List (List ℕ) = take count (lines_of bytes) in
    let lives : List WrittenLife = stand.begin.spelled.lives in
    let fit : AreLives lives = stand.begin.spelled.fit in
    let marks : List Line = script_marks lives in
    let front : List (List ℕ) = kept_lines lines in
    let first : List Line = take (length front) marks in
    let apart : front ++ kept_lines stand.begin.more ≡ script_lines lives = sym (filter-append (λ line. not (is_skipped line)) lines stand.begin.more) ∙ stand.begin.spelled.text in
    let all_fit : AllByRecursion IsLine marks = marks-lives lives (recursion_from_All IsLife lives fit.each) in
    let run = bound (with_each_line no_lines marks) script_of_draft (script_of_lives lives) (script_runs lives fit) in
    let split : (with_each_line no_lines first >>= λ next. with_each_line next (drop (length front) marks)) ≡ Some run.0 =
    sym (with_lines-append no_lines first (drop (length front) marks)) ∙ ap (with_each_line no_lines) (take-append-drop (length front) marks) ∙ run.1 in
    let made = bound (with_each_line no_lines first) (λ next. with_each_line next (drop (length front) marks)) run.0 split in (
      made.0,
      record {
        few = stand.limits.few;
        size = stand.limits.size;
        each = stand.limits.each;
        lines = first;
        fit = All-take IsLine (length front) marks (All-from_recursion IsLine marks all_fit);
        texts = front_marks lives front (kept_lines stand.begin.more) apart;
        draft_is = made.1;
      },
    )

-- all lines of a script read as a draft that is it
pub script_is_read : (bytes : List ℕ) (script : Script) → IsScript bytes script → ReadsAll bytes script
script_is_read bytes script is =
    let lives : List WrittenLife = is.spelled.lives in
    let fit : AreLives lives = is.spelled.fit in
    let run = bound (with_each_line no_lines (script_marks lives)) script_of_draft (script_of_lives lives) (script_runs lives fit) in
    record {
      draft = run.0;
      before = record {
        few = is.limits.few;
        size = is.limits.size;
        each = is.limits.each;
        lines = script_marks lives;
        fit = All-from_recursion IsLine (script_marks lives) (marks-lives lives (recursion_from_All IsLife lives fit.each));
        texts = ap kept_lines (all_lines bytes) ∙ is.spelled.text ∙ sym (texts-lives lives);
        draft_is = run.1;
      };
      script_is = run.2 ∙ ap Some (sym is.spelled.same);
    }

-- the same lines read as one draft
pub one_draft : (count : ℕ) (bytes : List ℕ) (one other : Draft) → ReadsLines count bytes one → ReadsLines count bytes other → one ≡ other
one_draft count bytes one other reads again =
    let lines : reads.lines ≡ again.lines =
    one_lines reads.lines again.lines (recursion_from_All IsLine reads.lines reads.fit) (recursion_from_All IsLine again.lines again.fit) (sym reads.texts ∙ again.texts) in
    same_Some one other (sym reads.draft_is ∙ ap (with_each_line no_lines) lines ∙ again.draft_is)

-- ---- fewer lines stand too

length-first : (fewer count : ℕ) (lines : List (List ℕ)) → fewer ≤ count → length (flat_map ended (take fewer lines)) ≤ length (flat_map ended (take count lines))
length-first fewer count lines h =
    let front : List (List ℕ) = take fewer (take count lines) in
    let back : List (List ℕ) = drop fewer (take count lines) in
    let apart : flat_map ended (take count lines) ≡ flat_map ended front ++ flat_map ended back =
    ap (flat_map ended) (sym (take-append-drop fewer (take count lines))) ∙ flat_map-append ended front back in
    let first : flat_map ended front ≡ flat_map ended (take fewer lines) = ap (flat_map ended) (take-take fewer count lines h) in
    omega (arith, ap length apart, length-append (flat_map ended front) (flat_map ended back), ap length first)

pub stand_fewer : (fewer count : ℕ) (bytes : List ℕ) → fewer ≤ count → Stand count bytes → Stand fewer bytes
stand_fewer fewer count bytes h stand =
    let lines : List (List ℕ) = lines_of bytes in
    let first : take fewer (take count lines) ≡ take fewer lines = take-take fewer count lines h in
    let back : List (List ℕ) = drop fewer (take count lines) in
    let apart : take fewer lines ++ (back ++ stand.begin.more) ≡ take count lines ++ stand.begin.more =
    sym (append_assoc (take fewer lines) back stand.begin.more)
    ∙ ap (λ (ls : List (List ℕ)). (ls ++ back) ++ stand.begin.more) (sym first)
    ∙ ap (λ (ls : List (List ℕ)). ls ++ stand.begin.more) (take-append-drop fewer (take count lines)) in
    let spell : Spell (take fewer lines ++ (back ++ stand.begin.more)) stand.begin.script = subst (λ (ls : List (List ℕ)). Spell ls stand.begin.script) (sym apart) stand.begin.spelled in
    record {
      limits = record {
        few = omega (arith, stand.limits.few);
        size = omega (arith, stand.limits.size, length-first fewer count lines h);
        each = subst (All IsLineText) first (All-take IsLineText fewer (take count lines) stand.limits.each);
      };
      begin = record { more = back ++ stand.begin.more; script = stand.begin.script; spelled = spell };
    }

-- all lines of a script stand
pub script_stands : (bytes : List ℕ) (script : Script) → IsScript bytes script → Stand (length (lines_of bytes)) bytes
script_stands bytes script is =
    let all = script_is_read bytes script is in
    reads_stand (length (lines_of bytes)) bytes all.draft all.before
