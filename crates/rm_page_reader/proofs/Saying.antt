-- A message that is read of its line.
use Rattle.std.proofs.Common.{◌≡◌, ℕ, List, Result, Ok, Err, sym, subst, ◌∙◌}
use Rattle.std.specs.Prelude.{IfOk}
use Rattle.rm_types.specs.declared.messages.Message.{Message}
use Rattle.rm_formats.specs.Wording.{message_text}
use Rattle.rm_page.specs.Ranges.{IsPageMessage}
use Rattle.rm_page.proofs.ReadMessages.{messages_apart}
use Rattle.rm_lines.specs.declared.errors.LineError.{LineError}
use Rattle.rm_lines.specs.declared.errors.LineError.TheVariants.{Refused, Memory}
use Rattle.rm_lines.specs.Results.{Finds}
use Rattle.rm_script.specs.Lines.{IsLineText}
use Rattle.rm_script.specs.Scripts.{IsLineOfMessage}
use Rattle.rm_script.proofs.Ranges.{shown_message}
use Rattle.rm_page_reader.specs.Answers.{GivesValue}
use Rattle.rm_page_reader.specs.Told.{IsOfScript}

pub said_ranges : (answer : Result Message LineError) (text : List ℕ) → Finds answer (IsLineOfMessage text) → IfOk answer IsPageMessage
said_ranges (Ok found) text is = shown_message found is.fits
said_ranges (Err error) text none = tt

pub said_value : (answer : Result Message LineError) (text : List ℕ) (message : Message) → Finds answer (IsLineOfMessage text) → IsOfScript message → text ≡ message_text message → GivesValue answer message
said_value (Ok found) text message is of e = messages_apart found message (shown_message found is.fits) (shown_message message of.parts) (sym is.text ∙ e)
said_value (Err (Refused fault)) text message none of e = none message (record { limits = subst IsLineText (sym e) of.line; fits = of.parts; text = e })
said_value (Err Memory) text message none of e = tt
