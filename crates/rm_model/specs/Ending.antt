-- Which containers may end together, and for which cause. That a container ends when its node reports it done, its master
-- releases it, its node is lost or nobody has it any more is after YARN's `RMContainer`; that they end in these lists is this
-- project's own.
use Rattle.std.specs.Prelude.{◌≡◌, ◌≢◌, List, [], map, filter, true, ◌||◌, unwrap_or, Contains}
use Rattle.rm_types.specs.declared.containers.Cause.{Cause}
use Rattle.rm_types.specs.declared.containers.Cause.TheVariants.{Done, Released, Node as NodeLost, Attempt as AttemptOver, Gone}
use Rattle.rm_types.specs.declared.ids.AppId.{AppId}
use Rattle.rm_types.specs.declared.ids.ContainerId.{ContainerId}
use Rattle.rm_types.specs.declared.settings.Settings.{Settings}
use Rattle.rm_types.specs.Order.{Ascend}
use Rattle.rm_model.specs.State.{NodeState, Scene}
use Rattle.rm_model.specs.Containers.{ids_on, is_astray, lives_on, once, released_by, stale_of}
use Rattle.rm_model.specs.Nodes.{beat_at, expiry_at}

-- the containers that the beat at a node's front reports as done and that are astray or in the book on the node; in the done
-- list's order, each once
abbrev pub done_on : Settings → Scene → NodeState → List ContainerId
done_on settings m node =
    once (filter (λ id. is_astray settings m id || lives_on m.life.book node.name id) (unwrap_or (beat_at node.undone) []))

-- the list is one that a cause ends now: what a node's beat reports as done; what a release served since the last Settled
-- names; all on a node that expired, ascending; all of an application that are stale, ascending. What an absorption ends, it ends
-- itself
abbrev pub EndsNow : Settings → Scene → Cause → List ContainerId → Type 0
EndsNow settings m Done list = Contains (map (done_on settings m) m.life.nodes) list
EndsNow settings m Released list = Contains (map (released_by m) m.life.endings.releases) list
EndsNow settings m NodeLost list = (node : NodeState) × Contains m.life.nodes node × (expiry_at node.undone ≡ true) × Ascend (ids_on m.life.book node.name) list
EndsNow settings m AttemptOver list = (id : AppId) × Ascend (stale_of m id) list
EndsNow settings m Gone list = ⊥

-- containers may end for a cause where they are a list that it ends now, and are some
pub record MayEnd (settings : Settings) (m : Scene) (cause : Cause) (list : List ContainerId) : Type 0 where
  pub some : list ≢ []
  pub ends : EndsNow settings m cause list
