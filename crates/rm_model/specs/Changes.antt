-- How each entry changes the state. This project's own, but for what each reply and each rule takes from YARN.
use Rattle.std.specs.Prelude.{ℕ, List, [], ◌∷◌, ◌++◌, true, false, Option, None, Some, fold, take, drop, filter, not}
use Rattle.rm_types.specs.declared.entries.Entry.{Entry}
use Rattle.rm_types.specs.declared.entries.Entry.TheVariants.{Opened, Issued, Handed, Kept, Blown, Served, Accepted, Queued, Absorbed, Pass, Ordered, Ended, Settled, Down, Quiet}
use Rattle.rm_types.specs.declared.ids.ContainerId.{ContainerId}
use Rattle.rm_types.specs.declared.operations.Op.{Op}
use Rattle.rm_types.specs.declared.operations.Op.TheVariants.{Epoch, App, Attempt, AttemptEnd, AppEnd, Remove}
use Rattle.rm_types.specs.declared.operations.Submission.{Submission}
use Rattle.rm_types.specs.declared.containers.AskOf.{AskOf}
use Rattle.rm_types.specs.declared.ids.AttemptId.{AttemptId}
use Rattle.rm_types.specs.Ids.{is_app, is_attempt}
use Rattle.rm_types.specs.Records.{records}
use Rattle.rm_model.specs.State.{Manager, LifeState, Scene, scene, new_life}
use Rattle.rm_model.specs.Facts.{next_attempt, submission_of}
use Rattle.rm_model.specs.Containers.{leave}
use Rattle.rm_model.specs.Nodes.{tidied, with_judged_node}
use Rattle.rm_model.specs.Replies.{life_after}
use Rattle.rm_model.specs.Absorbing.{absorbs}
use Rattle.rm_model.specs.Passing.{passes}

-- what is kept once so many of the awaiting operations have landed
abbrev pub kept_after_landing : Manager → ℕ → List Op
kept_after_landing s landed = s.kept ++ take landed s.awaiting

-- a life begins: what landed is kept, the rest of what awaited is gone
abbrev pub opened : Manager → ℕ → ℕ → ℕ → Manager
opened s landed epoch stamp =
    record {
      kept = kept_after_landing s landed;
      awaiting = [];
      blew = false;
      life = Some (new_life epoch stamp (records (kept_after_landing s landed)));
    }

-- the asks without those of an attempt
abbrev pub asks_without : AttemptId → List AskOf → List AskOf
asks_without attempt asks = filter (λ one. not (is_attempt one.attempt attempt)) asks

-- the ask for an attempt's master: one container of the submission's size, at priority 0
abbrev pub master_ask : AttemptId → Option Submission → List AskOf
master_ask attempt None = []
master_ask attempt (Some submission) = record { attempt = attempt; ask = record { priority = 0; count = 1; size = submission.master } } ∷ []

-- what an operation changes in the life once it is issued: an application that ends asks for no more attempt
abbrev pub life_issues : Scene → Op → LifeState
life_issues m (AppEnd id how text) = record m.life { asks = asks_without (next_attempt m id) m.life.asks }
life_issues m _ = m.life

-- what an operation changes in the life once it is kept: an Epoch opens it, with the clock at 0; an application whose App
-- is kept waits no longer; an attempt that ended asks for nothing more; an id whose application was removed is retired
abbrev pub life_keeps : LifeState → Op → LifeState
life_keeps life (Epoch next stamp) = record life { is_open = true; now = 0 }
life_keeps life (App id submission) =
    record life { apps = record life.apps { submitted = filter (λ one. not (is_app one.id id)) life.apps.submitted } }
life_keeps life (Attempt id master node) = life
life_keeps life (AttemptEnd id how text) = record life { asks = asks_without id life.asks }
life_keeps life (AppEnd id how text) = life
life_keeps life (Remove id) = record life { apps = record life.apps { retired = life.apps.retired ++ id ∷ [] } }

-- a master's container is ordered on a node: it is the last of the node's launches
abbrev pub orders : LifeState → ContainerId → List ℕ → LifeState
orders life container name =
    record life {
      masters = record life.masters { ordered = life.masters.ordered ++ container ∷ [] };
      nodes = with_judged_node (λ node. record node { launches = node.launches ++ container ∷ [] }) name life.nodes;
    }

-- the state with the life changed
abbrev pub in_life : Manager → LifeState → Manager
in_life s life = record s { life = Some life }

-- a life goes down: what is kept and what awaits is left, and whether the life blew
abbrev pub gone_down : Manager → LifeState → Manager
gone_down s life = record { kept = s.kept; awaiting = s.awaiting; blew = life.blown; life = None }

-- the state after an entry in a life
abbrev pub after_in : Manager → Scene → Entry → Manager
after_in s m (Opened landed epoch stamp) = in_life s m.life
after_in s m (Issued op) = in_life (record s { awaiting = s.awaiting ++ op ∷ [] }) (life_issues m op)
after_in s m Handed = in_life s (record m.life { handed = true })
after_in s m (Kept op) =
    in_life (record s { kept = s.kept ++ op ∷ []; awaiting = drop 1 s.awaiting }) (record (life_keeps m.life op) { handed = false })
after_in s m (Blown passed) = in_life s (record m.life { handed = false; blown = true })
after_in s m (Served sender message reply) = in_life s (life_after m message reply)
after_in s m (Accepted app) = in_life s (record m.life { apps = record m.life.apps { accepted = m.life.apps.accepted ++ app ∷ [] } })
after_in s m (Queued attempt) = in_life s (record m.life { asks = m.life.asks ++ master_ask attempt (submission_of m attempt.app) })
after_in s m (Absorbed node taken ended) = in_life s (absorbs m node taken ended)
after_in s m (Pass node grants) = in_life s (passes m node grants)
after_in s m (Ordered container node) = in_life s (orders m.life container node)
after_in s m (Ended cause list) = in_life s (tidied (leave m cause list))
after_in s m Settled = in_life s (record m.life { endings = record m.life.endings { releases = [] } })
after_in s m Down = gone_down s m.life
after_in s m (Quiet lane) = in_life s m.life

-- where no life stands only Opened changes the state
abbrev pub after_where : Manager → Option LifeState → Entry → Manager
after_where s None (Opened landed epoch stamp) = opened s landed epoch stamp
after_where s None _ = s
after_where s (Some life) e = after_in s (scene s life) e

-- the state after an entry
abbrev pub after : Manager → Entry → Manager
after s e = after_where s s.life e

-- the state after a log
abbrev pub after_all : Manager → List Entry → Manager
after_all s log = fold after s log
