-- The messages that a manager serves: each part is in its range, as a script says it. The ranges are this project's own.
use Rattle.std.specs.Prelude.{◌≡◌, ◌≤◌, ℕ}
use Rattle.rm_types.specs.declared.messages.ClientAsk.{ClientAsk}
use Rattle.rm_types.specs.declared.messages.ClientAsk.TheVariants as clients
use Rattle.rm_types.specs.declared.messages.ClockAsk.{ClockAsk}
use Rattle.rm_types.specs.declared.messages.ClockAsk.TheVariants as clocks
use Rattle.rm_types.specs.declared.messages.MasterAsk.{MasterAsk}
use Rattle.rm_types.specs.declared.messages.MasterAsk.TheVariants as masters
use Rattle.rm_types.specs.declared.messages.Message.{Message}
use Rattle.rm_types.specs.declared.messages.Message.TheVariants as messages
use Rattle.rm_types.specs.declared.messages.NodeAsk.{NodeAsk}
use Rattle.rm_types.specs.declared.messages.NodeAsk.TheVariants as nodes
use Rattle.rm_types.specs.declared.operations.Op.TheVariants.{App}
use Rattle.rm_types.specs.declared.settings.Settings.{Settings}
use Rattle.rm_types.specs.declared.texts.TextKind.TheVariants.{Node, Note}
use Rattle.rm_types.specs.Limits.{greatest_attempts}
use Rattle.rm_types.specs.Ranges.{IsContainerId, IsOperation, IsText, IsWithin}
use Rattle.rm_types.specs.Messages.{IsSize, IsList, IsHeld, IsAsk}

-- the settings allow at least one attempt of an application, and no more than the most
abbrev pub KeepsLimits : Settings → Type 0
KeepsLimits settings = IsWithin 1 greatest_attempts settings.max_attempts

-- a response id has a next one
abbrev pub IsResponse : ℕ → Type 0
IsResponse id = id ≤ 4294967294

-- what clients, masters, nodes and the clock say has its parts in their ranges
abbrev pub IsClientAsk : ClientAsk → Type 0
IsClientAsk clients.New = Unit {0}
IsClientAsk (clients.Submit id submission) = IsOperation (App id submission)
IsClientAsk (clients.Report id) = Unit {0}
IsClientAsk (clients.Kill id) = Unit {0}

-- what masters say has its parts in their ranges
abbrev pub IsMasterAsk : MasterAsk → Type 0
IsMasterAsk masters.Register = Unit {0}
IsMasterAsk (masters.Finish text) = IsText Note text
IsMasterAsk (masters.Allocate id asks release) = IsResponse id × IsList IsAsk asks × IsList IsContainerId release

-- what nodes say has its parts in their ranges
abbrev pub IsNodeAsk : NodeAsk → Type 0
IsNodeAsk (nodes.Register turn capability running) = IsSize capability × IsList IsHeld running
IsNodeAsk (nodes.Beat id running done) = IsResponse id × IsList IsHeld running × IsList IsContainerId done

-- what the clock says has its parts in their ranges
abbrev pub IsClockAsk : ClockAsk → Type 0
IsClockAsk (clocks.Tick time) = time ≤ 1000000000
IsClockAsk (clocks.ExpireNode node) = Unit {0}
IsClockAsk (clocks.ExpireMaster attempt) = Unit {0}

-- a message of whatever sender has its parts in their ranges
abbrev pub IsMessage : Message → Type 0
IsMessage (messages.Client user ask) = IsClientAsk ask
IsMessage (messages.Master attempt ask) = IsMasterAsk ask
IsMessage (messages.Node node ask) = IsText Node node × IsNodeAsk ask
IsMessage (messages.Clock ask) = IsClockAsk ask
