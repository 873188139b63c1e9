-- The lines of a page, as they are read one after the other.
use Rattle.std.proofs.Common.{◌≡◌, ◌==◌, suc, ℕ, ◌<◌, Bool, true, false, List, [], ◌∷◌, ◌++◌, length, take, All, Some, None, refl, sym, ap, subst, ◌∙◌, arith, codes, append_assoc, inl, inr, if◌then◌else◌}
use Rattle.std.specs.Prelude.{IfErr, Result, Err, drop}
use Rattle.std.specs.List.{flat_map, AllByRecursion}
use Rattle.std.proofs.lemmas.List.{length-append, append-nil}
use Rattle.std.proofs.lemmas.Bool.{ne_eqb}
use Rattle.std.proofs.lemmas.List.Elements.{recursion_from_All}
use Rattle.std.proofs.lemmas.Grind.{flat_map-append}
use Rattle.rm_formats.specs.Wording.{message_words, op_words, reply_words}
use Rattle.rm_page.proofs.Joining.{join_with_byte-cons}
use Rattle.rm_types.specs.declared.entries.Entry.{Entry}
use Rattle.rm_types.specs.declared.entries.Entry.TheVariants as entries
use Rattle.rm_types.specs.declared.messages.Lane.{Lane}
use Rattle.rm_types.specs.declared.messages.Lane.TheVariants as lanes
use Rattle.rm_types.specs.Lanes.{feed_lane, lane_of_entry}
use Rattle.rm_formats.specs.Page.{line, line_of, lane_letter, letters, moves_line, page}
use Rattle.rm_page.specs.Shown.{is_silent, shown}
use Rattle.rm_page.proofs.Bytes.{lacks, lacks-append, cut, cut_at, cut_last}
use Rattle.rm_page.proofs.ReadEntries.{has_line, lines_show}
use Rattle.rm_lines.proofs.Parts.{differ}
use Rattle.rm_page_reader.specs.Answers.{AreHeard, AreLetters, Fit, HasSender, IsMemory, IsToldEntry, IsWant}
use Rattle.rm_lines.specs.Cuts.{IsFirstLine, IsFirstCut}
use Rattle.rm_page_reader.specs.Results.{at_page_line}
use Rattle.rm_lines.proofs.Splits.{behind_same, cut_some, cut_same}
use Rattle.rm_lines.specs.declared.errors.LineError.{LineError}
use Rattle.rm_lines.specs.declared.errors.LineError.TheVariants.{Refused, Memory}
use Rattle.rm_page_reader.specs.declared.errors.PageError.{PageError}
use Rattle.rm_page_reader.specs.declared.errors.PageError.TheVariants as page_errors
use Rattle.rm_page_reader.specs.declared.pages.Page.{Page}
use Rattle.rm_page_reader.specs.declared.soaks.SoakLine.{SoakLine}
use Rattle.rm_page_reader.specs.Soaks.{IsSoak, soak_text}
use Rattle.rm_page_reader.specs.Told.{IsManagerEntry, IsNoPage, heard}
use Rattle.rm_page_reader.proofs.Moving.{heard-silent, heard-heard, lines-heard, fit_log}

-- ---- first lines

same_cut : (byte : ℕ) (front back line after : List ℕ) → lacks byte front ≡ true → IsFirstCut byte (front ++ byte ∷ back) line after → (line ≡ front) × (after ≡ back)
same_cut byte front back line after h is =
    let both : front ∷ cut byte back ≡ line ∷ cut byte after = sym (cut_at byte front back h) ∙ ap (cut byte) is.whole ∙ cut_at byte line after is.front_lacks in
    let rest : cut byte after ≡ cut byte back = cc in
    (cc, cut_same byte after back rest)

-- the first line of bytes that begin with a line
pub first_line_is : (body more line after : List ℕ) → lacks 10 body ≡ true → IsFirstLine (body ++ 10 ∷ more) line after → (line ≡ body) × (after ≡ more)
first_line_is body more line after h (inl is) = same_cut 10 body more line after h is
first_line_is body more line after h (inr none) =
    absurd (
    let both : body ∷ cut 10 more ≡ (body ++ 10 ∷ more) ∷ [] = sym (cut_at 10 body more h) ∙ cut_last 10 (body ++ 10 ∷ more) none.0 in
    let nothing : cut 10 more ≡ [] = cc in
    cut_some 10 more nothing
    )

-- a line begins with its first word
begins : (word : List ℕ) (words : List (List ℕ)) → line (word ∷ words) ≡ word ++ (flat_map (λ one. 32 ∷ one) words ++ codes "\n")
begins word words = ap (λ (text : List ℕ). text ++ codes "\n") (join_with_byte-cons 32 word words) ∙ append_assoc word (flat_map (λ one. 32 ∷ one) words) (codes "\n")

-- no line of an entry begins as that of the moves
pub no_moves : (entry : Entry) (rest : List ℕ) → line_of entry ≡ codes "moves " ++ rest → ⊥
no_moves (entries.Opened landed epoch stamp) rest e = differ (codes "op") (codes "mo") refl (ap (take 2) e)
no_moves (entries.Issued op) rest e = let both = sym (begins (codes "issued") (op_words op)) ∙ e in differ (codes "is") (codes "mo") refl (ap (take 2) both)
no_moves entries.Handed rest e = cc
no_moves (entries.Kept op) rest e = let both = sym (begins (codes "kept") (op_words op)) ∙ e in differ (codes "ke") (codes "mo") refl (ap (take 2) both)
no_moves (entries.Blown passed) rest e = differ (codes "bl") (codes "mo") refl (ap (take 2) e)
no_moves (entries.Served sender message reply) rest e = let both = sym (begins (codes "served") (message_words message ++ codes "->" ∷ reply_words reply)) ∙ e in differ (codes "se") (codes "mo") refl (ap (take 2) both)
no_moves (entries.Accepted app) rest e = differ (codes "ac") (codes "mo") refl (ap (take 2) e)
no_moves (entries.Queued attempt) rest e = differ (codes "qu") (codes "mo") refl (ap (take 2) e)
no_moves (entries.Absorbed node taken ended) rest e = differ (codes "ab") (codes "mo") refl (ap (take 2) e)
no_moves (entries.Pass node grants) rest e = differ (codes "pa") (codes "mo") refl (ap (take 2) e)
no_moves (entries.Ordered container node) rest e = differ (codes "or") (codes "mo") refl (ap (take 2) e)
no_moves (entries.Ended cause list) rest e = differ (codes "en") (codes "mo") refl (ap (take 2) e)
no_moves entries.Settled rest e = differ (codes "se") (codes "mo") refl (ap (take 2) e)
no_moves entries.Down rest e = differ (codes "do") (codes "mo") refl (ap (take 2) e)
no_moves (entries.Quiet lane) rest e = cc

-- ---- no log has a soak's page

-- bytes that come after a line which begins with another word
regrouped : (word rest lines tail : List ℕ) → ((word ++ rest) ++ lines) ++ tail ≡ word ++ (rest ++ (lines ++ tail))
regrouped word rest lines tail = simp append_assoc

other_line : (word : List ℕ) (words : List (List ℕ)) (lines tail more : List ℕ) → (line (word ∷ words) ++ lines) ++ tail ≡ codes "soak " ++ more
    → word ++ ((flat_map (λ one. 32 ∷ one) words ++ codes "\n") ++ (lines ++ tail)) ≡ codes "soak " ++ more
other_line word words lines tail more e =
    sym (ap (λ (text : List ℕ). (text ++ lines) ++ tail) (begins word words) ∙ regrouped word (flat_map (λ one. 32 ∷ one) words ++ codes "\n") lines tail) ∙ e

no_soak_lines : (log : List Entry) (tail more : List ℕ) → ((rest : List ℕ) → tail ≡ codes "soak " ++ rest → ⊥) → flat_map line_of log ++ tail ≡ codes "soak " ++ more → ⊥
no_soak_lines [] tail more none e = none more e
no_soak_lines (entries.Opened landed epoch stamp ∷ log) tail more none e = differ (codes "op") (codes "so") refl (ap (take 2) e)
no_soak_lines (entries.Issued op ∷ log) tail more none e = let both = other_line (codes "issued") (op_words op) (flat_map line_of log) tail more e in differ (codes "is") (codes "so") refl (ap (take 2) both)
no_soak_lines (entries.Handed ∷ log) tail more none e = no_soak_lines log tail more none e
no_soak_lines (entries.Kept op ∷ log) tail more none e = let both = other_line (codes "kept") (op_words op) (flat_map line_of log) tail more e in differ (codes "ke") (codes "so") refl (ap (take 2) both)
no_soak_lines (entries.Blown passed ∷ log) tail more none e = differ (codes "bl") (codes "so") refl (ap (take 2) e)
no_soak_lines (entries.Served sender message reply ∷ log) tail more none e =
    let both = other_line (codes "served") (message_words message ++ codes "->" ∷ reply_words reply) (flat_map line_of log) tail more e in differ (codes "se") (codes "so") refl (ap (take 2) both)
no_soak_lines (entries.Accepted app ∷ log) tail more none e = differ (codes "ac") (codes "so") refl (ap (take 2) e)
no_soak_lines (entries.Queued attempt ∷ log) tail more none e = differ (codes "qu") (codes "so") refl (ap (take 2) e)
no_soak_lines (entries.Absorbed node taken ended ∷ log) tail more none e = differ (codes "ab") (codes "so") refl (ap (take 2) e)
no_soak_lines (entries.Pass node grants ∷ log) tail more none e = differ (codes "pa") (codes "so") refl (ap (take 2) e)
no_soak_lines (entries.Ordered container node ∷ log) tail more none e = differ (codes "or") (codes "so") refl (ap (take 2) e)
no_soak_lines (entries.Ended cause list ∷ log) tail more none e = differ (codes "en") (codes "so") refl (ap (take 2) e)
no_soak_lines (entries.Settled ∷ log) tail more none e = differ (codes "se") (codes "so") refl (ap (take 2) e)
no_soak_lines (entries.Down ∷ log) tail more none e = differ (codes "do") (codes "so") refl (ap (take 2) e)
no_soak_lines (entries.Quiet lane ∷ log) tail more none e = no_soak_lines log tail more none e

-- the last line of a page
abbrev pub tail_of : List Entry → Bool → List ℕ
tail_of log moves = if moves then moves_line log else []

no_soak_tail : (log : List Entry) (moves : Bool) (rest : List ℕ) → tail_of log moves ≡ codes "soak " ++ rest → ⊥
no_soak_tail log false rest e = cc
no_soak_tail [] true rest e = cc
no_soak_tail (entry ∷ log) true rest e = differ (codes "mo") (codes "so") refl (ap (take 2) e)

pub no_soak_page : (log : List Entry) (moves : Bool) (more : List ℕ) → page log moves ≡ codes "soak " ++ more → ⊥
no_soak_page log moves more e = no_soak_lines log (tail_of log moves) more (no_soak_tail log moves) e

-- ---- what is left of a page

-- an entry with a line
abbrev pub IsHeard : Entry → Type 0
IsHeard entry = IsManagerEntry entry × (is_silent entry ≡ false)

-- the lines that were read tell the first entries with lines of the log, and the others are left
pub record IsLeft (log : List Entry) (moves : Bool) (told : List Entry) (rest : List ℕ) : Type 0 where
  pub left : List Entry
  pub are : AllByRecursion IsHeard left
  pub text : rest ≡ flat_map line_of left ++ tail_of log moves
  pub lines : flat_map line_of told ++ flat_map line_of left ≡ flat_map line_of log
  pub same_letters : letters told ++ letters left ≡ letters (heard log)

are_heard : (log : List Entry) → AllByRecursion IsManagerEntry log → AllByRecursion IsHeard (heard log)
are_heard [] all = tt
are_heard (entry ∷ log) all = by_silence (are_heard log all.1) (is_silent entry) refl
  where
    by_silence : AllByRecursion IsHeard (heard log) → (b : Bool) → is_silent entry ≡ b → AllByRecursion IsHeard (heard (entry ∷ log))
    by_silence others true e = rw (heard-silent entry log e) others
    by_silence others false e = rw (heard-heard entry log e) ((all.0, e), others)

-- at first all of it
pub all_left : (log : List Entry) (moves : Bool) → All IsManagerEntry log → IsLeft log moves [] (page log moves)
all_left log moves all = record {
  left = heard log;
  are = are_heard log (recursion_from_All IsManagerEntry log all);
  text = ap (λ (lines : List ℕ). lines ++ tail_of log moves) (sym (lines-heard log));
  lines = lines-heard log;
  same_letters = refl;
}

-- ---- the letters of an entry by its line

own_sender : (entry : Entry) → IsManagerEntry entry → HasSender entry
own_sender (entries.Served sender message reply) is = is.manager.1
own_sender entries.Handed is = tt
own_sender entry is = tt

lane_shown : (entry : Entry) → HasSender entry → lane_of_entry (shown entry) ≡ lane_of_entry entry
lane_shown (entries.Served sender message reply) own = ap feed_lane (sym own)
lane_shown entries.Handed own = refl
lane_shown entry own = refl

same_letter : (found entry : Entry) → IsToldEntry found → IsHeard entry → line_of found ≡ line_of entry → lane_of_entry found ≡ lane_of_entry entry
same_letter found entry told is e =
    sym (lane_shown found told.sender) ∙ ap lane_of_entry ((lines_show found entry told.ranges is.0.ranges told.heard is.1).0 e) ∙ lane_shown entry (own_sender entry is.0)

-- ---- one line more

-- the line is that of an entry of the log, and an entry that has it too is the next that is told
pub record IsNext (log : List Entry) (moves : Bool) (told : List Entry) (line after : List ℕ) : Type 0 where
  pub entry : Entry
  pub is : IsManagerEntry entry
  pub line_is : line_of entry ≡ line ++ codes "\n"
  pub goes_on : (found : Entry) → IsToldEntry found → line_of found ≡ line_of entry → IsLeft log moves (told ++ found ∷ []) after

pushed : {X : Type 0} (text : X → List ℕ) (front : List X) (one : X) (back : List ℕ) → flat_map text (front ++ one ∷ []) ++ back ≡ flat_map text front ++ (text one ++ back)
pushed text front one back =
    ap (λ (t : List ℕ). t ++ back) (flat_map-append text front (one ∷ []) ∙ ap (λ (t : List ℕ). flat_map text front ++ t) (append-nil (text one)))
    ∙ append_assoc (flat_map text front) (text one) back

text_of : (body lines tail : List ℕ) → ((body ++ codes "\n") ++ lines) ++ tail ≡ body ++ 10 ∷ (lines ++ tail)
text_of body lines tail = simp append_assoc

one_more : (log : List Entry) (moves : Bool) (told : List Entry) (line after : List ℕ) (entry : Entry) (left : List Entry) → AllByRecursion IsHeard (entry ∷ left)
    → flat_map line_of told ++ flat_map line_of (entry ∷ left) ≡ flat_map line_of log → letters told ++ letters (entry ∷ left) ≡ letters (heard log)
    → IsFirstLine (flat_map line_of (entry ∷ left) ++ tail_of log moves) line after → IsNext log moves told line after
one_more log moves told line after entry left are lines moved cut =
    let has = has_line entry are.0.0.ranges are.0.1 in
    let more : List ℕ = flat_map line_of left ++ tail_of log moves in
    let whole : flat_map line_of (entry ∷ left) ++ tail_of log moves ≡ has.body ++ 10 ∷ more =
    ap (λ (text : List ℕ). (text ++ flat_map line_of left) ++ tail_of log moves) has.same ∙ text_of has.body (flat_map line_of left) (tail_of log moves) in
    let first = first_line_is has.body more line after has.no_feed (subst (λ (text : List ℕ). IsFirstLine text line after) whole cut) in
    record {
      entry = entry;
      is = are.0.0;
      line_is = has.same ∙ ap (λ (text : List ℕ). text ++ codes "\n") (sym first.0);
      goes_on = λ found told_is e. record {
        left = left;
        are = are.1;
        text = first.1;
        lines = pushed line_of told found (flat_map line_of left) ∙ ap (λ (text : List ℕ). flat_map line_of told ++ (text ++ flat_map line_of left)) e ∙ lines;
        same_letters = pushed (λ one. lane_letter (lane_of_entry one)) told found (letters left)
            ∙ ap (λ (lane : Lane). letters told ++ (lane_letter lane ++ letters left)) (same_letter found entry told_is are.0 e) ∙ moved;
      };
    }

lane_feedless : (lane : Lane) → lacks 10 (lane_letter lane) ≡ true
lane_feedless lanes.Client = refl
lane_feedless lane = refl

letters_feedless : (log : List Entry) → lacks 10 (letters log) ≡ true
letters_feedless [] = refl
letters_feedless (entry ∷ log) = lacks-append 10 (lane_letter (lane_of_entry entry)) (letters log) (lane_feedless (lane_of_entry entry)) (letters_feedless log)

-- where no line of an entry is left, that of the moves is
moves_left : (log : List Entry) (moves : Bool) (line after : List ℕ) → 0 < length (tail_of log moves) → IsFirstLine (tail_of log moves) line after
    → (moves ≡ true) × (line ≡ codes "moves " ++ letters log)
moves_left log false line after some cut = absurd (omega arith)
moves_left [] true line after some cut = absurd (omega arith)
moves_left (entry ∷ log) true line after some cut =
    let body : List ℕ = codes "moves " ++ letters (entry ∷ log) in
    (refl, (first_line_is body [] line after (lacks-append 10 (codes "moves ") (letters (entry ∷ log)) refl (letters_feedless (entry ∷ log))) cut).0)

-- a line that isn't that of the moves
pub next_line : (log : List Entry) (moves : Bool) (told : List Entry) (rest line after : List ℕ) → IsLeft log moves told rest → 0 < length rest → IsFirstLine rest line after
    → ((found : List ℕ) → line ≡ codes "moves " ++ found → ⊥) → IsNext log moves told line after
next_line log moves told rest line after is some cut none = by_left is.left is.are is.text is.lines is.same_letters
  where
    by_left : (left : List Entry) → AllByRecursion IsHeard left → rest ≡ flat_map line_of left ++ tail_of log moves → flat_map line_of told ++ flat_map line_of left ≡ flat_map line_of log
        → letters told ++ letters left ≡ letters (heard log) → IsNext log moves told line after
    by_left [] are text lines moved =
        absurd (none (letters log) (moves_left log moves line after (subst (λ (t : List ℕ). 0 < length t) text some) (subst (λ (t : List ℕ). IsFirstLine t line after) text cut)).1)
    by_left (entry ∷ left) are text lines moved = one_more log moves told line after entry left are lines moved (subst (λ (t : List ℕ). IsFirstLine t line after) text cut)

told_all : (log told : List Entry) → flat_map line_of told ++ [] ≡ flat_map line_of log → letters told ++ [] ≡ letters (heard log) → AreHeard log told
told_all log told lines moved = record { lines = sym (append-nil (flat_map line_of told)) ∙ lines; moves = sym (append-nil (letters told)) ∙ moved }

-- the line of the moves
pub moves_line_is : (log : List Entry) (moves : Bool) (told : List Entry) (rest line after found : List ℕ) → IsLeft log moves told rest → 0 < length rest → IsFirstLine rest line after
    → line ≡ codes "moves " ++ found → AreHeard log told × AreLetters (Some found) log moves
moves_line_is log moves told rest line after found is some cut e = by_left is.left is.are is.text is.lines is.same_letters
  where
    by_left : (left : List Entry) → AllByRecursion IsHeard left → rest ≡ flat_map line_of left ++ tail_of log moves → flat_map line_of told ++ flat_map line_of left ≡ flat_map line_of log
        → letters told ++ letters left ≡ letters (heard log) → AreHeard log told × AreLetters (Some found) log moves
    by_left [] are text lines moved =
        let last = moves_left log moves line after (subst (λ (t : List ℕ). 0 < length t) text some) (subst (λ (t : List ℕ). IsFirstLine t line after) text cut) in
        (told_all log told lines moved, (last.0, behind_same (codes "moves ") found (letters log) (sym e ∙ last.1)))
    by_left (entry ∷ left) are text lines moved =
        let next = one_more log moves told line after entry left are lines moved (subst (λ (t : List ℕ). IsFirstLine t line after) text cut) in
        absurd (no_moves next.entry (found ++ codes "\n") (next.line_is ∙ ap (λ (t : List ℕ). t ++ codes "\n") e ∙ append_assoc (codes "moves ") found (codes "\n")))

no_bytes : (text more : List ℕ) → text ++ more ≡ [] → more ≡ []
no_bytes [] more e = e
no_bytes (byte ∷ text) more e = absurd cc

line_some : (entry : Entry) → IsHeard entry → (more : List ℕ) → line_of entry ++ more ≡ [] → ⊥
line_some entry is more e =
    let has = has_line entry is.0.ranges is.1 in
    absurd (omega (arith, ap length e, length-append (line_of entry) more, ap length has.same, length-append has.body (codes "\n")))

-- the end of a page without moves
pub end_is : (log : List Entry) (moves : Bool) (told : List Entry) → IsLeft log moves told [] → AreHeard log told × AreLetters None log moves
end_is log moves told is = by_left is.left is.are is.text is.lines is.same_letters
  where
    by_left : (left : List Entry) → AllByRecursion IsHeard left → [] ≡ flat_map line_of left ++ tail_of log moves → flat_map line_of told ++ flat_map line_of left ≡ flat_map line_of log
        → letters told ++ letters left ≡ letters (heard log) → AreHeard log told × AreLetters None log moves
    by_left [] are text lines moved = (told_all log told lines moved, ap (λ (t : List ℕ). flat_map line_of log ++ t) (sym text))
    by_left (entry ∷ left) are text lines moved =
        absurd (line_some entry are.0 (flat_map line_of left ++ tail_of log moves) (sym (text ∙ append_assoc (line_of entry) (flat_map line_of left) (tail_of log moves))))

-- ---- what a page's error says

pub want_at : (error : LineError) (line : ℕ) → IsMemory error → IsWant (at_page_line error line)
want_at (Refused fault) line is = absurd is
want_at Memory line is = tt

-- whether bytes are left
pub some_bytes : (bytes : List ℕ) → (length bytes == 0) ≡ false → 0 < length bytes
some_bytes [] e = absurd cc
some_bytes (byte ∷ bytes) e = omega arith

pub none_left : (bytes : List ℕ) → (length bytes == 0) ≡ true → bytes ≡ []
none_left [] e = refl
none_left (byte ∷ bytes) e = absurd (let not : (suc (length bytes) == 0) ≡ false = ne_eqb (suc (length bytes)) 0 (λ e. absurd (omega (arith, e))) in let both = sym e ∙ not in cc)

-- the letters of a log fit the entries that have its lines
pub fits_letters : (log told : List Entry) (found : List ℕ) → All IsManagerEntry log → letters told ≡ letters (heard log) → found ≡ letters log → Fit found (letters told)
fits_letters log told found all same e = subst (λ (own : List ℕ). Fit own (letters told)) (sym e) (subst (Fit (letters log)) (sym same) (fit_log log all))

-- where bytes that begin as a soak's line are refused, they are no page
pub soak_refused : (answer : Result Page PageError) (bytes : List ℕ) (line : ℕ) → answer ≡ Err (page_errors.NotAPage line) → IfErr answer (λ error. (soak : SoakLine) → IsSoak soak → bytes ≡ soak_text soak → IsWant error)
    → (more : List ℕ) × (bytes ≡ codes "soak " ++ more) → IsNoPage bytes
soak_refused answer bytes line e only begin = record {
  no_log = λ log moves all same. no_soak_page log moves begin.0 (sym same ∙ begin.1);
  no_soak = subst (λ (one : Result Page PageError). IfErr one (λ error. (soak : SoakLine) → IsSoak soak → bytes ≡ soak_text soak → IsWant error)) e only;
}

-- and so where others are
pub log_refused : (answer : Result Page PageError) (bytes : List ℕ) (line : ℕ) → answer ≡ Err (page_errors.NotAPage line)
    → IfErr answer (λ error. (log : List Entry) (moves : Bool) → All IsManagerEntry log → bytes ≡ page log moves → IsWant error) → ((more : List ℕ) → bytes ≡ codes "soak " ++ more → ⊥) → IsNoPage bytes
log_refused answer bytes line e only none = record {
  no_log = subst (λ (one : Result Page PageError). IfErr one (λ error. (log : List Entry) (moves : Bool) → All IsManagerEntry log → bytes ≡ page log moves → IsWant error)) e only;
  no_soak = λ soak is same. none (drop 5 (soak_text soak)) same;
}
