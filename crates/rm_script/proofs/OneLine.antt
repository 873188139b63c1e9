-- A line by itself: what its text says, and that no other line has it.
use Rattle.std.proofs.Common.{◌≡◌, ℕ, ◌^◌, ◌<◌, Bool, true, false, cond, leb, ◌&&◌, List, [], ◌∷◌, length, Result, Ok, Err, refl, sym, ap, ◌∙◌, arith}
use Rattle.std.specs.Prelude.{codes}
use Rattle.std.specs.Fmt.{decimal}
use Rattle.std.specs.List.{list_all, AllByRecursion}
use Rattle.std.specs.Str.{bytes_eq}
use Rattle.std.proofs.lemmas.Bool.{le-leb, leb-true, and_parts, and_from, false≢true}
use Rattle.std.proofs.lemmas.List.Elements.{All-from_recursion, recursion_from_All}
use Rattle.rm_types.specs.Ranges.{IsWithin}
use Rattle.rm_types.specs.Texts.{is_printable}
use Rattle.rm_types.specs.declared.messages.ClockAsk.TheVariants.{Tick, ExpireNode, ExpireMaster}
use Rattle.rm_types.specs.declared.messages.Message.{Message}
use Rattle.rm_types.specs.declared.messages.Message.TheVariants.{Client, Master, Node, Clock}
use Rattle.rm_formats.specs.Wording.{message_text}
use Rattle.rm_formats.specs.ids.Digits.{value_of}
use Rattle.rm_page.proofs.Bytes.{cut, number_back}
use Rattle.rm_page.proofs.ReadMessages.{messages_apart}
use Rattle.rm_script.specs.declared.drafts.Draft.{Draft}
use Rattle.rm_lines.specs.declared.errors.LineError.{LineError}
use Rattle.rm_lines.specs.declared.errors.LineError.TheVariants.{Refused, Memory}
use Rattle.rm_script.specs.declared.lines.Line.{Line}
use Rattle.rm_script.specs.declared.lines.Line.TheVariants.{Skipped, Start, Settle, Crash, Deliver, Lose}
use Rattle.rm_lines.specs.Lines.{is_skipped}
use Rattle.rm_script.specs.Lines.{IsLineText}
use Rattle.rm_script.specs.Limits.{most_line_bytes}
use Rattle.rm_script.specs.Messages.{IsScriptMessage}
use Rattle.rm_script.specs.Pieces.{said_pieces}
use Rattle.rm_script.specs.Scripts.{IsLineOfMessage}
use Rattle.rm_lines.specs.Results.{Finds, Gives, IsOf}
use Rattle.rm_lines.proofs.Parts.{found_as, heads, not_some}
use Rattle.rm_lines.proofs.Splits.{cut_same}
use Rattle.rm_script.specs.Reading.{line_pieces, line_text, IsLine, IsTextOf, Says, IsLineAs, with_line, Takes}
use Rattle.rm_script.proofs.LinePieces.{cut_said, cut_line_text}
use Rattle.rm_script.proofs.Ranges.{shown_message}

-- ---- kinds of lines

-- the kind of a line, as a number
abbrev kind : Line → ℕ
kind Skipped = 0
kind (Start stamp) = 1
kind Settle = 2
kind (Crash calls image) = 3
kind (Lose message) = 4
kind (Deliver message) = 5

-- the kind of the line that words say, by the first of them
abbrev kind_of : List (List ℕ) → ℕ
kind_of [] = 0
kind_of (word ∷ more) =
    cond (bytes_eq word (codes "start")) 1
    (cond (bytes_eq word (codes "settle")) 2 (cond (bytes_eq word (codes "crash")) 3 (cond (bytes_eq word (codes "lose")) 4 5)))

kind_pieces : (line : Line) → kind_of (line_pieces line) ≡ kind line
kind_pieces Skipped = refl
kind_pieces (Start stamp) = refl
kind_pieces Settle = refl
kind_pieces (Crash calls image) = refl
kind_pieces (Deliver (Client user ask)) = refl
kind_pieces (Deliver (Master attempt ask)) = refl
kind_pieces (Deliver (Node node ask)) = refl
kind_pieces (Deliver (Clock ask)) = refl
kind_pieces (Lose message) = refl

-- ---- lines with the same text

same_decimal : (one other : ℕ) → one < 2 ^ 64 → other < 2 ^ 64 → decimal one ≡ decimal other → one ≡ other
same_decimal one other fits fits' e = sym (number_back one fits) ∙ ap value_of e ∙ number_back other fits'

same_message : (one other : Message) → IsScriptMessage one → IsScriptMessage other → said_pieces one ≡ said_pieces other → one ≡ other
same_message one other is is' e =
    messages_apart one other (shown_message one is) (shown_message other is') (cut_same 32 (message_text one) (message_text other) (cut_said one is ∙ e ∙ sym (cut_said other is')))

same_line : (one other : Line) → kind one ≡ kind other → IsLine one → IsLine other → line_pieces one ≡ line_pieces other → one ≡ other
same_line Skipped other k is is' e = absurd is
same_line (Start stamp) (Start stamp') k is is' e =
    ap Start (same_decimal stamp stamp' (omega (arith, is.1)) (omega (arith, is'.1)) (heads (heads e).1).0)
same_line Settle Settle k is is' e = refl
same_line (Crash calls image) (Crash calls' image') k is is' e =
    let more = heads (heads e).1 in
    ap (λ (n : ℕ). Crash n image) (same_decimal calls calls' (omega (arith, is.calls_fit.1)) (omega (arith, is'.calls_fit.1)) more.0)
    ∙ ap (Crash calls') (same_decimal image image' (omega (arith, is.image_fits.1)) (omega (arith, is'.image_fits.1)) (heads more.1).0)
same_line (Deliver message) (Deliver message') k is is' e = ap Deliver (same_message message message' is is' e)
same_line (Lose message) (Lose message') k is is' e = ap Lose (same_message message message' is is' (heads e).1)
same_line one other k is is' e = absurd (omega (arith, k))

-- two lines with one text are one
pub one_line : (one other : Line) → IsLine one → IsLine other → line_text one ≡ line_text other → one ≡ other
one_line one other is is' e =
    let pieces : line_pieces one ≡ line_pieces other = sym (cut_line_text one is) ∙ ap (cut 32) e ∙ cut_line_text other is' in
    same_line one other (sym (kind_pieces one) ∙ ap kind_of pieces ∙ kind_pieces other) is is' pieces

-- the text says something
pub is_told : (line : Line) → IsLine line → is_skipped (line_text line) ≡ false
is_told Skipped is = absurd is
is_told (Start stamp) is = refl
is_told Settle is = refl
is_told (Crash calls image) is = refl
is_told (Deliver (Client user ask)) is = refl
is_told (Deliver (Master attempt ask)) is = refl
is_told (Deliver (Node node ask)) is = refl
is_told (Deliver (Clock (Tick time))) is = refl
is_told (Deliver (Clock (ExpireNode node))) is = refl
is_told (Deliver (Clock (ExpireMaster attempt))) is = refl
is_told (Lose (Client user ask)) is = refl
is_told (Lose (Master attempt ask)) is = refl
is_told (Lose (Node node ask)) is = refl
is_told (Lose (Clock ask)) is = refl

-- ---- what a text says

pub says : (text : List ℕ) (line : Line) → IsTextOf text line → Says text line
says text Skipped is = absurd is.fits
says text line is = is

-- a text that isn't skipped says a line that says something
pub text_said : (text : List ℕ) (line : Line) → is_skipped text ≡ false → Says text line → IsTextOf text line
text_said text Skipped told is = absurd (false≢true (sym told ∙ is))
text_said text line told is = is

text_told : (text : List ℕ) (line : Line) → IsTextOf text line → is_skipped text ≡ false
text_told text line is = ap is_skipped is.same ∙ is_told line is.fits

-- and one that is skipped says nothing
pub none_said : (text : List ℕ) (line : Line) → is_skipped text ≡ true → Says text line → line ≡ Skipped
none_said text Skipped skipped is = refl
none_said text line skipped is = absurd (false≢true (sym (text_told text line is) ∙ skipped))

-- it says one line
one_says : (text : List ℕ) (one other : Line) → Says text one → Says text other → one ≡ other
one_says text one other is again = by (is_skipped text) refl
  where
    by : (b : Bool) → is_skipped text ≡ b → one ≡ other
    by true e = none_said text one e is ∙ sym (none_said text other e again)
    by false e =
        let first = text_said text one e is in
        let second = text_said text other e again in
        one_line one other first.fits second.fits (sym first.same ∙ second.same)

-- what a draft gives with the line is what it gives with the text
pub line_taken : (answer : Result Draft LineError) (draft : Draft) (line : Line) (text : List ℕ) → IsLineAs text line → Gives answer (with_line draft line) → Finds answer (Takes draft text)
line_taken (Ok next) draft line text is given = record { line = line; is = is; next_is = given }
line_taken (Err (Refused fault)) draft line text is none = λ next takes.
    let same : takes.line ≡ line = one_says text takes.line line takes.is.says is.says in
    not_some (with_line draft line) next none (ap (with_line draft) (sym same) ∙ takes.next_is)
line_taken (Err Memory) draft line text is none = tt

-- a text that may stand in a script, by its tests
printable : (text : List ℕ) → list_all is_printable text ≡ true → AllByRecursion (IsWithin 0x20 0x7e) text
printable [] e = tt
printable (byte ∷ text) e =
    let tests = and_parts (is_printable byte) (list_all is_printable text) e in
    let own = and_parts (leb 32 byte) (leb byte 126) tests.0 in
    ((leb-true _ _ own.0, leb-true _ _ own.1), printable text tests.1)

printable_test : (text : List ℕ) → AllByRecursion (IsWithin 0x20 0x7e) text → list_all is_printable text ≡ true
printable_test [] all = refl
printable_test (byte ∷ text) all =
    and_from (is_printable byte) (list_all is_printable text) (and_from (leb 32 byte) (leb byte 126) (le-leb 32 byte all.0.0) (le-leb byte 126 all.0.1)) (printable_test text all.1)

pub fine_text : (text : List ℕ) → (leb (length text) most_line_bytes && list_all is_printable text) ≡ true → IsLineText text
fine_text text e =
    let parts = and_parts (leb (length text) most_line_bytes) (list_all is_printable text) e in
    record { printable = All-from_recursion (IsWithin 0x20 0x7e) text (printable text parts.1); short = leb-true _ _ parts.0 }

pub fine_test : (text : List ℕ) → IsLineText text → (leb (length text) most_line_bytes && list_all is_printable text) ≡ true
fine_test text fine =
    and_from (leb (length text) most_line_bytes) (list_all is_printable text) (le-leb (length text) most_line_bytes fine.short) (printable_test text (recursion_from_All (IsWithin 0x20 0x7e) text fine.printable))

-- ---- what is found by the pieces of a text is what the text says

line_found : (line : Line) (text : List ℕ) → IsLineText text → IsOf line_pieces IsLine (cut 32 text) line → IsLineAs text line
line_found line text fine is = record { fine = fine; says = says text line (record { same = cut_same 32 text (line_text line) (is.same ∙ sym (cut_line_text line is.fits)); fits = is.fits }) }

pub pieces_found : (answer : Result Line LineError) (text : List ℕ) → IsLineText text → is_skipped text ≡ false → Finds answer (IsOf line_pieces IsLine (cut 32 text)) → Finds answer (IsLineAs text)
pieces_found (Ok line) text fine told is = line_found line text fine is
pieces_found (Err (Refused fault)) text fine told none = λ line is.
    let said = text_said text line told is.says in
    none line (record { same = ap (cut 32) said.same ∙ cut_line_text line said.fits; fits = said.fits })
pieces_found (Err Memory) text fine told none = tt

-- and so of a message
pub message_found : (answer : Result Message LineError) (text : List ℕ) → IsLineText text → Finds answer (IsOf said_pieces IsScriptMessage (cut 32 text)) → Finds answer (IsLineOfMessage text)
message_found answer text fine finds =
    found_as _ _ answer (λ message of. record { limits = fine; fits = of.fits; text = cut_same 32 text (message_text message) (of.same ∙ sym (cut_said message of.fits)) })
    (λ message is. record { same = ap (cut 32) is.text ∙ cut_said message is.fits; fits = is.fits }) finds
