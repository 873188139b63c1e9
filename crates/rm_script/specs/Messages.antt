-- The messages that a line may say: each part is in its range. The ranges are this project's own.
use Rattle.std.specs.Prelude.{◌≡◌, ℕ, ◌<◌, List, length}
use Rattle.rm_types.specs.Ranges.{IsText, IsWithin, IsAppId, IsAttemptId, IsContainerId}
use Rattle.rm_types.specs.declared.messages.ClientAsk.{ClientAsk}
use Rattle.rm_types.specs.declared.messages.ClientAsk.TheVariants as clients
use Rattle.rm_types.specs.declared.messages.ClockAsk.{ClockAsk}
use Rattle.rm_types.specs.declared.messages.ClockAsk.TheVariants as clocks
use Rattle.rm_types.specs.declared.messages.MasterAsk.{MasterAsk}
use Rattle.rm_types.specs.declared.messages.MasterAsk.TheVariants as masters
use Rattle.rm_types.specs.declared.messages.NodeAsk.{NodeAsk}
use Rattle.rm_types.specs.declared.messages.NodeAsk.TheVariants as nodes
use Rattle.rm_types.specs.declared.messages.Message.{Message}
use Rattle.rm_types.specs.declared.messages.Message.TheVariants as messages
use Rattle.rm_types.specs.declared.operations.Submission.{Submission}
use Rattle.rm_types.specs.declared.texts.TextKind.TheVariants.{Name, Node, Queue, Note, AclText}
use Rattle.rm_types.specs.Limits.{greatest_attempts, greatest_memory_mb, greatest_vcores}
use Rattle.rm_script.specs.Limits.{greatest_response, greatest_turn, greatest_tick}
use Rattle.rm_types.specs.Messages.{IsSize, IsList, IsHeld, IsAsk}

-- what the user submits is by that user, and each part of it is in its range
pub record IsScriptSubmission (user : List ℕ) (submission : Submission) : Type 0 where
  pub by_user : submission.user ≡ user
  pub queue : IsText Queue submission.queue
  pub name : IsText Name submission.name
  pub memory : IsWithin 1 greatest_memory_mb submission.master.memory_mb
  pub vcores : IsWithin 1 greatest_vcores submission.master.vcores
  pub attempts : IsWithin 0 greatest_attempts submission.attempts
  pub modify : IsText AclText submission.modify

-- how a master says that it ended: in one byte at least
pub record IsLastWord (text : List ℕ) : Type 0 where
  pub note : IsText Note text
  pub some : 0 < length text

-- what the user asks has its parts in their ranges
abbrev pub IsScriptClientAsk : List ℕ → ClientAsk → Type 0
IsScriptClientAsk user clients.New = Unit {0}
IsScriptClientAsk user (clients.Submit id submission) = IsAppId id × IsScriptSubmission user submission
IsScriptClientAsk user (clients.Report id) = IsAppId id
IsScriptClientAsk user (clients.Kill id) = IsAppId id

-- and what a master asks
abbrev pub IsScriptMasterAsk : MasterAsk → Type 0
IsScriptMasterAsk masters.Register = Unit {0}
IsScriptMasterAsk (masters.Finish text) = IsLastWord text
IsScriptMasterAsk (masters.Allocate id asks release) = IsWithin 0 greatest_response id × IsList IsAsk asks × IsList IsContainerId release

-- and what a node says
abbrev pub IsScriptNodeAsk : NodeAsk → Type 0
IsScriptNodeAsk (nodes.Register turn capability running) = IsWithin 1 greatest_turn turn × IsSize capability × IsList IsHeld running
IsScriptNodeAsk (nodes.Beat id running done) = IsWithin 0 greatest_response id × IsList IsHeld running × IsList IsContainerId done

-- and what the clock says
abbrev pub IsScriptClockAsk : ClockAsk → Type 0
IsScriptClockAsk (clocks.Tick time) = IsWithin 1 greatest_tick time
IsScriptClockAsk (clocks.ExpireNode node) = IsText Node node
IsScriptClockAsk (clocks.ExpireMaster attempt) = IsAttemptId attempt

-- the parts of a message are in their ranges
abbrev pub IsScriptMessage : Message → Type 0
IsScriptMessage (messages.Client user ask) = IsText Name user × IsScriptClientAsk user ask
IsScriptMessage (messages.Master attempt ask) = IsAttemptId attempt × IsScriptMasterAsk ask
IsScriptMessage (messages.Node node ask) = IsText Node node × IsScriptNodeAsk ask
IsScriptMessage (messages.Clock ask) = IsScriptClockAsk ask
