-- What a line may say is in the ranges of a page, so that its text tells it from all else.
use Rattle.std.proofs.Common.{ℕ, List, All, arith}
use Rattle.std.proofs.lemmas.List.Elements.{All-weaker}
use Rattle.rm_types.specs.Ranges.{IsSubmission as IsFramed}
use Rattle.rm_types.specs.declared.containers.Held.{Held}
use Rattle.rm_types.specs.declared.messages.ClientAsk.TheVariants.{New, Submit, Report, Kill}
use Rattle.rm_types.specs.declared.messages.ClockAsk.TheVariants.{Tick, ExpireNode, ExpireMaster}
use Rattle.rm_types.specs.declared.messages.MasterAsk.TheVariants.{Register, Finish, Allocate}
use Rattle.rm_types.specs.declared.messages.Message.{Message}
use Rattle.rm_types.specs.declared.messages.Message.TheVariants.{Client, Master, Node, Clock}
use Rattle.rm_types.specs.declared.messages.NodeAsk.TheVariants.{Register as Join, Beat}
use Rattle.rm_types.specs.declared.operations.Submission.{Submission}
use Rattle.rm_types.specs.declared.texts.TextKind.TheVariants.{Name}
use Rattle.rm_types.specs.Ranges.{IsText}
use Rattle.rm_page.specs.Ranges.{IsPageMessage as IsShown, IsPageHeld as IsShownHeld, IsPageAsk as IsShownAsk}
use Rattle.rm_script.specs.Messages.{IsScriptSubmission, IsScriptMessage}
use Rattle.rm_script.specs.Laws.{shown_size, shown_held, shown_ask}
use Rattle.rm_types.specs.Messages.{IsHeld, IsAsk}
use Rattle.std.proofs.Common.{sym, subst}

framed : (user : List ℕ) (submission : Submission) → IsText Name user → IsScriptSubmission user submission → IsFramed submission
framed user submission name is = record {
  user = subst (IsText Name) (sym is.by_user) name;
  queue = is.queue;
  name = is.name;
  memory_mb = is.memory;
  vcores = is.vcores;
  attempts = is.attempts;
  modify = is.modify;
}

helds : (running : List Held) → All IsHeld running → All IsShownHeld running
helds running all = All-weaker IsHeld IsShownHeld shown_held running all

pub shown_message : (message : Message) → IsScriptMessage message → IsShown message
shown_message (Client user New) is = is
shown_message (Client user (Submit id submission)) is = (is.0, (is.1.0, framed user submission is.0 is.1.1, is.1.1.by_user))
shown_message (Client user (Report id)) is = is
shown_message (Client user (Kill id)) is = is
shown_message (Master attempt Register) is = is
shown_message (Master attempt (Finish text)) is = (is.0, is.1.note)
shown_message (Master attempt (Allocate id asks release)) is = (is.0, (omega (arith, is.1.0), All-weaker IsAsk IsShownAsk shown_ask asks is.1.1.each, is.1.2.each))
shown_message (Node node (Join turn capability running)) is = (is.0, (omega (arith, is.1.0), shown_size capability is.1.1, helds running is.1.2.each))
shown_message (Node node (Beat id running done)) is = (is.0, (omega (arith, is.1.0), helds running is.1.1.each, is.1.2.each))
shown_message (Clock (Tick time)) is = omega (arith, is.1)
shown_message (Clock (ExpireNode node)) is = is
shown_message (Clock (ExpireMaster attempt)) is = is
