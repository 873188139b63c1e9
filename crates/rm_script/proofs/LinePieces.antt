-- The pieces of a line's text.
use Rattle.std.proofs.Common.{◌≡◌, List, ℕ, [], ◌∷◌, ◌++◌, refl, ap, ◌∙◌, arith}
use Rattle.std.specs.Prelude.{codes}
use Rattle.std.specs.Fmt.{decimal}
use Rattle.rm_types.specs.declared.messages.ClientAsk.TheVariants.{New, Submit, Report, Kill}
use Rattle.rm_types.specs.declared.messages.MasterAsk.TheVariants.{Register, Finish, Allocate}
use Rattle.rm_types.specs.declared.messages.Message.{Message}
use Rattle.rm_types.specs.declared.messages.Message.TheVariants.{Client, Master, Node, Clock}
use Rattle.rm_formats.specs.Wording.{spaced, message_words, message_text}
use Rattle.rm_page.proofs.Bytes.{cut, cut_at, number_word}
use Rattle.rm_page.proofs.ReadOperations.{cut_words}
use Rattle.rm_page.proofs.ReadMessages.{message_pieces, cut_message}
use Rattle.rm_script.specs.declared.lines.Line.{Line}
use Rattle.rm_script.specs.declared.lines.Line.TheVariants.{Skipped, Start, Settle, Crash, Deliver, Lose}
use Rattle.rm_script.specs.Messages.{IsScriptMessage}
use Rattle.rm_script.specs.Pieces.{said_pieces}
use Rattle.rm_script.specs.Reading.{line_pieces, line_text, IsLine}
use Rattle.rm_script.proofs.Ranges.{shown_message}

same_pieces : (message : Message) → message_pieces message ≡ said_pieces message
unfolding message_pieces
same_pieces (Client user New) = refl
same_pieces (Client user (Submit id submission)) = refl
same_pieces (Client user (Report id)) = refl
same_pieces (Client user (Kill id)) = refl
same_pieces (Master attempt Register) = refl
same_pieces (Master attempt (Finish text)) = refl
same_pieces (Master attempt (Allocate id asks release)) = refl
same_pieces (Node node ask) = refl
same_pieces (Clock ask) = refl

-- of a message
pub cut_said : (message : Message) → IsScriptMessage message → cut 32 (message_text message) ≡ said_pieces message
cut_said message is = cut_message message (shown_message message is) ∙ same_pieces message

-- of one that is lost
lost_text : (message : Message) → spaced (codes "lose" ∷ message_words message) ≡ codes "lose" ++ 32 ∷ message_text message
lost_text (Client user ask) = refl
lost_text (Master attempt ask) = refl
lost_text (Node node ask) = refl
lost_text (Clock ask) = refl

-- and of a line
pub cut_line_text : (line : Line) → IsLine line → cut 32 (line_text line) ≡ line_pieces line
cut_line_text Skipped is = absurd is
cut_line_text (Start stamp) is = cut_words (codes "start") (decimal stamp ∷ []) (refl, (number_word stamp (omega (arith, is.1)), tt))
cut_line_text Settle is = cut_words (codes "settle") [] (refl, tt)
cut_line_text (Crash calls image) is =
    cut_words (codes "crash") (decimal calls ∷ decimal image ∷ []) (refl, (number_word calls (omega (arith, is.calls_fit.1)), (number_word image (omega (arith, is.image_fits.1)), tt)))
cut_line_text (Deliver message) is = cut_said message is
cut_line_text (Lose message) is =
    ap (cut 32) (lost_text message) ∙ cut_at 32 (codes "lose") (message_text message) refl ∙ ap (λ (pieces : List (List ℕ)). codes "lose" ∷ pieces) (cut_said message is)
