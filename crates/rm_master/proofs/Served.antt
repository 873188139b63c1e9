-- What the service promises, by what it answers and how the tables change.
use Rattle.rm_master.proofs.Common.{◌≡◌, sym, ◌∙◌, subst, AttemptId, MasterAsk, Register, Finish, Allocate, Reply, Scene, Tables, RefinesLife}
use Rattle.std.proofs.Common.{Err, Ok, Result}
use Rattle.std.specs.Prelude.{IfOk}
use Rattle.rm_types.specs.declared.duplicate.NoMemory.{NoMemory}
use Rattle.rm_model.specs.MasterReplies.{life_after_master, master_reply}
use Rattle.rm_master.specs.Answers.{after_master}
use Rattle.rm_master.specs.Told.{master_told}
use Rattle.rm_master.proofs.Allocations.{allocate_answer}
use Rattle.rm_master.proofs.Replies.{finish_answer, register_answer}
use Rattle.rm_master.proofs.Same.{master_same}

-- a master is answered as the judge does
pub master_answer : (m : Scene) (t : Tables) (attempt : AttemptId) (ask : MasterAsk) → RefinesLife m t → master_told t attempt ask ≡ master_reply t.settings m attempt ask
master_answer m t attempt Register shows = register_answer m t attempt shows
master_answer m t attempt (Finish text) shows = finish_answer m t attempt shows
master_answer m t attempt (Allocate id asks release) shows = allocate_answer m t attempt id asks shows

pub master_answered : (m : Scene) (t : Tables) (attempt : AttemptId) (ask : MasterAsk) (r : Result Reply NoMemory) → IfOk r (λ reply. reply ≡ master_told t attempt ask) → RefinesLife m t
    → IfOk r (λ reply. reply ≡ master_reply t.settings m attempt ask)
master_answered m t attempt ask (Err refused) is shows = tt
master_answered m t attempt ask (Ok reply) is shows = is ∙ master_answer m t attempt ask shows

pub master_served : (m : Scene) (t new : Tables) (attempt : AttemptId) (ask : MasterAsk) (r : Result Reply NoMemory) → IfOk r (λ reply. reply ≡ master_told t attempt ask)
    → IfOk r (λ reply. new ≡ after_master attempt ask reply t) → RefinesLife m t → IfOk r (λ reply. RefinesLife (record m { life = life_after_master m attempt ask reply }) new)
master_served m t new attempt ask (Err refused) is changed shows = tt
master_served m t new attempt ask (Ok reply) is changed shows =
    subst (λ (one : Tables). RefinesLife (record m { life = life_after_master m attempt ask reply }) one) (sym changed)
    (master_same m t attempt ask reply shows (is ∙ master_answer m t attempt ask shows))
