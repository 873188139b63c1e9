-- Where nobody asks for kept containers, or for the recovery of ended ones, the rules are those of a manager that has neither. This
-- project's own promise.
use Rattle.std.specs.Prelude.{◌≡◌, ℕ, ◌+◌, List, [], ◌∷◌, ◌++◌, Bool, false, ◌&&◌, ◌||◌, not, if◌then◌else◌, Option, None, Some, is_some, unwrap_or, filter, map, fold}
use Rattle.rm_types.specs.declared.containers.Held.{Held}
use Rattle.rm_types.specs.declared.entries.Entry.{Entry}
use Rattle.rm_types.specs.declared.ids.AttemptId.{AttemptId}
use Rattle.rm_types.specs.declared.ids.ContainerId.{ContainerId}
use Rattle.rm_types.specs.declared.operations.Op.{Op}
use Rattle.rm_types.specs.declared.replies.Reply.TheVariants.{Allocated, MasterRegistered}
use Rattle.rm_types.specs.declared.settings.Settings.{Settings}
use Rattle.rm_types.specs.Containers.{is_held}
use Rattle.rm_types.specs.Ids.{is_attempt}
use Rattle.rm_types.specs.Resources.{fits}
use Rattle.rm_model.specs.Absorbing.{as_counted, left_beside, taken_of}
use Rattle.rm_model.specs.Attempts.{attempt_end, attempt_is_kept, is_masters, is_stale, is_wanted}
use Rattle.rm_model.specs.Containers.{is_astray, is_at_disposal, is_pending, is_told, lives_elsewhere, lives_on, once}
use Rattle.rm_model.specs.Ending.{done_on}
use Rattle.rm_model.specs.Facts.{is_kept, keeps, kept_end, kept_record}
use Rattle.rm_model.specs.MasterReplies.{allocated_reply, grant_of, new_grants, outbox_of, registered_reply}
use Rattle.rm_model.specs.Nodes.{beat_at}
use Rattle.rm_model.specs.State.{LifeState, Manager, NodeState, Scene, scene}
use Rattle.rm_laws.specs.Laws.{InEachState}

-- an attempt is over where its application has no record, or the application's or the attempt's end is kept
abbrev pub is_over : Scene → AttemptId → Bool
is_over m id = not (is_kept m id.app) || is_some (kept_end m id.app) || is_some (attempt_end m id)

-- a container of an application that doesn't keep is wanted while its attempt is kept and not over, and stale where that is over;
-- and its end is told unless it is a master's or its attempt is over
pub record IsOfAttempt (m : Scene) (id : ContainerId) : Type 0 where
  pub wanted : is_wanted m id ≡ (attempt_is_kept m id.attempt && not (is_over m id.attempt))
  pub stale : is_stale m id ≡ is_over m id.attempt
  pub told : is_told m id ≡ not (is_masters m id || is_over m id.attempt)

-- an attempt of an application that doesn't keep has its own containers at its disposal, and registers without any
pub record HasItsOwn (m : Scene) (attempt : AttemptId) : Type 0 where
  pub disposal : (id : ContainerId) → is_at_disposal m attempt id ≡ is_attempt id.attempt attempt
  pub registered : registered_reply m attempt ≡ MasterRegistered

-- of each application that doesn't keep, containers live and end with their attempt, in the life that stands if one does
abbrev pub EndWithAttempt : Manager → Option LifeState → Type 0
EndWithAttempt s None = Unit {0}
EndWithAttempt s (Some life) =
    ((id : ContainerId) → keeps (kept_record (scene s life) id.attempt.app) ≡ false → IsOfAttempt (scene s life) id)
    × ((attempt : AttemptId) → keeps (kept_record (scene s life) attempt.app) ≡ false → HasItsOwn (scene s life) attempt)

-- Without keep: in every state the containers of an application that doesn't keep live and end with their attempt.
abbrev pub WithoutKeep : List Op → List Entry → Type 0
WithoutKeep opening log = InEachState (λ s. EndWithAttempt s s.life) opening log

-- an absorption may take a container that it hasn't taken, which is wanted, lives on no other node and fits beside what was taken
abbrev pub takes_wanted : Scene → NodeState → List Held → Held → Bool
takes_wanted m node taken held =
    not (is_held taken held.id) && (is_wanted m held.id && (not (lives_elsewhere m.life.book node.name held.id) && fits held.size (left_beside node taken)))

-- what it has taken after one more of the report, where that counts
abbrev pub with_wanted : Scene → NodeState → List Held → Option Held → List Held
with_wanted m node taken None = taken
with_wanted m node taken (Some held) = if takes_wanted m node taken held then taken ++ held ∷ [] else taken

-- no container is astray or pending; a beat ends what it names as done of what lives on its node; an absorption takes what is wanted
-- and fits, of the report in its order; and a master is told of what was granted to its own attempt
pub record RecoversRunning (settings : Settings) (m : Scene) : Type 0 where
  pub astray : (id : ContainerId) → is_astray settings m id ≡ false
  pub pending : (id : ContainerId) → is_pending settings m id ≡ false
  pub done : (node : NodeState) → done_on settings m node ≡ once (filter (lives_on m.life.book node.name) (unwrap_or (beat_at node.undone) []))
  pub taken : (node : NodeState) → taken_of settings m node ≡ fold (λ taken held. with_wanted m node taken (as_counted m node held)) [] node.last.running
  pub allocated : (attempt : AttemptId) (last : ℕ) → allocated_reply settings m attempt last ≡ Allocated (last + 1) (map grant_of (new_grants m attempt)) (outbox_of m attempt)

-- so it is in the life that stands, if one does
abbrev pub RecoversRunningIn : Settings → Manager → Option LifeState → Type 0
RecoversRunningIn settings s None = Unit {0}
RecoversRunningIn settings s (Some life) = RecoversRunning settings (scene s life)

-- Without recovery: where the cluster doesn't recover ended containers, in every state what ended is looked for in the book alone.
abbrev pub WithoutRecovery : Settings → List Op → List Entry → Type 0
WithoutRecovery settings opening log = settings.recover_ended_containers ≡ false → InEachState (λ s. RecoversRunningIn settings s s.life) opening log
