-- What the service promises, by what it answers and how the tables change.
use Rattle.std.proofs.Common.{◌≡◌, ℕ, List, Err, Ok, Result, sym, subst}
use Rattle.std.specs.Prelude.{IfOk}
use Rattle.rm_types.specs.declared.duplicate.NoMemory.{NoMemory}
use Rattle.rm_types.specs.declared.ids.AppId.{AppId}
use Rattle.rm_types.specs.declared.messages.ClientAsk.{ClientAsk}
use Rattle.rm_types.specs.declared.messages.ClientAsk.TheVariants.{Report}
use Rattle.rm_types.specs.declared.replies.Reply.{Reply}
use Rattle.rm_model.specs.State.{Scene}
use Rattle.rm_model.specs.ClientReplies.{client_reply, life_after_client}
use Rattle.rm_tables.specs.declared.tables.Tables.{Tables}
use Rattle.rm_refinement.specs.Clients.{RefinesForClients}
use Rattle.rm_refinement.specs.Services.{RefinesLife}
use Rattle.rm_client.specs.Answers.{after_client}
use Rattle.rm_client.proofs.Same.{client_same}
use Rattle.rm_client.proofs.SameLife.{client_life_same}

pub client_served : (m : Scene) (t new : Tables) (user : List ℕ) (ask : ClientAsk) (r : Result Reply NoMemory) → IfOk r (λ reply. reply ≡ client_reply t.settings m user ask)
    → IfOk r (λ reply. new ≡ after_client ask reply t) → RefinesForClients m t → IfOk r (λ reply. RefinesForClients (record m { life = life_after_client m ask reply }) new)
client_served m t new user ask (Err refused) is changed shows = tt
client_served m t new user ask (Ok reply) is changed shows =
    subst (λ (one : Tables). RefinesForClients (record m { life = life_after_client m ask reply }) one) (sym changed) (client_same m t shows t.settings user ask reply is)

pub client_life_served : (m : Scene) (t new : Tables) (user : List ℕ) (ask : ClientAsk) (r : Result Reply NoMemory) → IfOk r (λ reply. reply ≡ client_reply t.settings m user ask)
    → IfOk r (λ reply. new ≡ after_client ask reply t) → RefinesForClients m t → RefinesLife m t → IfOk r (λ reply. RefinesLife (record m { life = life_after_client m ask reply }) new)
client_life_served m t new user ask (Err refused) is changed shows life = tt
client_life_served m t new user ask (Ok reply) is changed shows life =
    subst (λ (one : Tables). RefinesLife (record m { life = life_after_client m ask reply }) one) (sym changed) (client_life_same m t shows life t.settings user ask reply is)

-- a report changes nothing
pub report_served : (m : Scene) (t : Tables) (id : AppId) (r : Result Reply NoMemory) → RefinesForClients m t → IfOk r (λ reply. RefinesForClients (record m { life = life_after_client m (Report id) reply }) t)
report_served m t id (Err refused) shows = tt
report_served m t id (Ok reply) shows = shows

pub report_life_served : (m : Scene) (t : Tables) (id : AppId) (r : Result Reply NoMemory) → RefinesLife m t → IfOk r (λ reply. RefinesLife (record m { life = life_after_client m (Report id) reply }) t)
report_life_served m t id (Err refused) life = tt
report_life_served m t id (Ok reply) life = life
