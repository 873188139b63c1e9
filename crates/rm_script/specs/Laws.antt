-- The law that items of lists keep: no comma stands in their texts. The proofs stand here, since the items' own code names them.
use Rattle.std.proofs.Common.{refl, arith}
use Rattle.rm_types.specs.Ranges.{IsContainerId}
use Rattle.rm_types.specs.Resources.{IsInRange}
use Rattle.rm_types.specs.declared.containers.Ask.{Ask}
use Rattle.rm_types.specs.declared.containers.Held.{Held}
use Rattle.rm_types.specs.declared.ids.ContainerId.{ContainerId}
use Rattle.rm_types.specs.declared.resources.Resource.{Resource}
use Rattle.rm_formats.specs.IdTexts.{container_text}
use Rattle.rm_formats.specs.Wording.{held_text, ask_text}
use Rattle.rm_page.specs.Ranges.{IsPageHeld as IsShownHeld, IsPageAsk as IsShownAsk}
use Rattle.rm_page.proofs.ReadIds.{container_lacks}
use Rattle.rm_page.proofs.ReadLists.{held_comes_back, ask_comes_back}
use Rattle.rm_lines.specs.Cuts.{HasNoComma}
use Rattle.rm_types.specs.Messages.{IsSize, IsHeld, IsAsk}

-- a size that a line may say may stand on a page
pub shown_size : (size : Resource) → IsSize size → IsInRange size
shown_size size is = (omega (arith, is.memory.1), omega (arith, is.vcores.1))

-- a container that a line may report may stand on a page
pub shown_held : (held : Held) → IsHeld held → IsShownHeld held
shown_held held is = record { id = is.id; size = shown_size held.size is.size }

-- an ask that a line may make may stand on a page
pub shown_ask : (ask : Ask) → IsAsk ask → IsShownAsk ask
shown_ask ask is = record { priority = omega (arith, is.priority.1); count = omega (arith, is.count.1); size = shown_size ask.size is.size }

-- no comma stands in the text of a container's id
pub container_lacks_comma : (id : ContainerId) → IsContainerId id → HasNoComma (container_text id)
container_lacks_comma id is = container_lacks 44 id refl is

-- nor in that of a reported container
pub held_lacks_comma : (held : Held) → IsHeld held → HasNoComma (held_text held)
held_lacks_comma held is = (held_comes_back held (shown_held held is)).no_comma

-- nor in that of an ask
pub ask_lacks_comma : (ask : Ask) → IsAsk ask → HasNoComma (ask_text ask)
ask_lacks_comma ask is = (ask_comes_back ask (shown_ask ask is)).no_comma
