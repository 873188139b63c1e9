-- The texts of lines cut at their spaces: a text in which spaces may stand comes in pieces, and any other word is one. And the parts
-- of items of lists, and lists that aren't left out.
use Rattle.std.specs.Prelude.{ℕ, ◌<◌, List, [], ◌∷◌, length, codes}
use Rattle.std.specs.Fmt.{decimal}
use Rattle.rm_types.specs.declared.containers.Ask.{Ask}
use Rattle.rm_types.specs.declared.containers.Held.{Held}
use Rattle.rm_types.specs.declared.messages.ClientAsk.{ClientAsk}
use Rattle.rm_types.specs.declared.messages.ClientAsk.TheVariants as clients
use Rattle.rm_types.specs.declared.messages.MasterAsk.{MasterAsk}
use Rattle.rm_types.specs.declared.messages.MasterAsk.TheVariants as masters
use Rattle.rm_types.specs.declared.messages.Message.{Message}
use Rattle.rm_types.specs.declared.messages.Message.TheVariants as messages
use Rattle.rm_types.specs.Messages.{IsList}
use Rattle.rm_formats.specs.IdTexts.{app_text, attempt_text, container_text}
use Rattle.rm_formats.specs.Wording.{client_words, master_words, node_words, clock_words}
use Rattle.rm_page.proofs.Bytes.{cut}
use Rattle.rm_page.proofs.ReadOperations.{submission_pieces}

-- the pieces of what a client asks, behind its name
abbrev pub client_pieces : ClientAsk → List (List ℕ)
client_pieces (clients.Submit id submission) = codes "submit" ∷ app_text id ∷ submission_pieces submission
client_pieces ask = client_words ask

-- and of what a master asks, behind its attempt
abbrev pub master_pieces : MasterAsk → List (List ℕ)
master_pieces (masters.Finish text) = codes "finish" ∷ cut 32 text
master_pieces ask = master_words ask

-- the pieces of a message
abbrev pub said_pieces : Message → List (List ℕ)
said_pieces (messages.Client user ask) = codes "client" ∷ user ∷ client_pieces ask
said_pieces (messages.Master attempt ask) = codes "master" ∷ attempt_text attempt ∷ master_pieces ask
said_pieces (messages.Node node ask) = codes "node" ∷ node ∷ node_words ask
said_pieces (messages.Clock ask) = codes "clock" ∷ clock_words ask

-- the parts of the text of a container that runs
abbrev pub held_parts : Held → List (List ℕ)
held_parts held = container_text held.id ∷ decimal held.size.memory_mb ∷ decimal held.size.vcores ∷ []

-- and of an ask's
abbrev pub ask_parts : Ask → List (List ℕ)
ask_parts ask = decimal ask.priority ∷ decimal ask.count ∷ decimal ask.size.memory_mb ∷ decimal ask.size.vcores ∷ []

-- a list that isn't left out
pub record IsSomeList {X : Type 0} (Fits : X → Type 0) (items : List X) : Type 0 where
  pub some : 0 < length items
  pub list : IsList Fits items
