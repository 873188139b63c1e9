-- Where the cluster doesn't recover ended containers, each rule that asks for it is what it is without: no container is astray or pending, a beat
-- ends what is in the book on its node, an absorption takes what is wanted and fits, and a master is told of its own grants.
use Rattle.std.proofs.Common.{◌≡◌, ℕ, ◌+◌, List, [], ◌∷◌, ◌++◌, Bool, false, ◌||◌, ◌&&◌, not, if◌then◌else◌, Option, None, Some, filter, map, fold, refl, ap}
use Rattle.std.specs.Prelude.{unwrap_or}
use Rattle.rm_types.specs.declared.containers.Held.{Held}
use Rattle.rm_types.specs.declared.ids.AttemptId.{AttemptId}
use Rattle.rm_types.specs.declared.ids.ContainerId.{ContainerId}
use Rattle.rm_types.specs.declared.entries.Entry.{Entry}
use Rattle.rm_types.specs.declared.operations.Op.{Op}
use Rattle.rm_types.specs.declared.replies.Reply.TheVariants.{Allocated}
use Rattle.rm_types.specs.declared.settings.Settings.{Settings}
use Rattle.rm_model.specs.Absorbing.{as_counted, may_take, taken_of, with_counted}
use Rattle.rm_model.specs.Containers.{is_astray, is_missing, is_pending, lives_on, once}
use Rattle.rm_model.specs.Ending.{done_on}
use Rattle.rm_model.specs.Facts.{has_container}
use Rattle.rm_model.specs.MasterReplies.{allocated_reply, grant_of, is_late, is_new_grant, new_grants, outbox_of, untold_rows}
use Rattle.rm_model.specs.Nodes.{beat_at}
use Rattle.rm_model.specs.Lawful.{state_after}
use Rattle.rm_model.specs.State.{LifeState, Manager, NodeState, Row, Scene, scene}
use Rattle.rm_laws.specs.Reductions.{RecoversRunningIn, WithoutRecovery, takes_wanted, with_wanted}

module _ (settings : Settings) (off : settings.recover_ended_containers ≡ false) (m : Scene) where
  none_astray : (id : ContainerId) → is_astray settings m id ≡ false
  none_astray id = ap (λ (b : Bool). b && is_missing m id) off

  none_pending : (id : ContainerId) → is_pending settings m id ≡ false
  none_pending id = ap (λ (b : Bool). b && has_container m.life.endings.pending id) off

  done_here : (node : NodeState) → done_on settings m node ≡ once (filter (lives_on m.life.book node.name) (unwrap_or (beat_at node.undone) []))
  done_here node = ap (λ (b : Bool). once (filter (λ id. (b && is_missing m id) || lives_on m.life.book node.name id) (unwrap_or (beat_at node.undone) []))) off

  may_take_wanted : (node : NodeState) (taken : List Held) (held : Held) → may_take settings m node taken held ≡ takes_wanted m node taken held
  may_take_wanted node taken held = ap (λ (b : Bool). not (b && has_container m.life.endings.pending held.id) && takes_wanted m node taken held) off

  counted : (node : NodeState) (taken : List Held) (o : Option Held) → with_counted settings m node taken o ≡ with_wanted m node taken o
  counted node taken None = refl
  counted node taken (Some held) = ap (λ (b : Bool). if b then taken ++ held ∷ [] else taken) (may_take_wanted node taken held)

  folded : (node : NodeState) (running taken : List Held)
      → fold (λ taken held. with_counted settings m node taken (as_counted m node held)) taken running ≡ fold (λ taken held. with_wanted m node taken (as_counted m node held)) taken running
  folded node [] taken = refl
  folded node (held ∷ running) taken =
      let same : with_counted settings m node taken (as_counted m node held) ≡ with_wanted m node taken (as_counted m node held) = counted node taken (as_counted m node held) in
      rw same (folded node running (with_wanted m node taken (as_counted m node held)))

  taken_wanted : (node : NodeState) → taken_of settings m node ≡ fold (λ taken held. with_wanted m node taken (as_counted m node held)) [] node.last.running
  taken_wanted node = folded node node.last.running []

  -- what a master is told
  untold_own : (attempt : AttemptId) → untold_rows settings m attempt ≡ new_grants m attempt
  untold_own attempt = ap (λ (b : Bool). filter (λ row. (b && is_late m attempt row) || is_new_grant m attempt row) m.life.book) off

  allocated_own : (attempt : AttemptId) (last : ℕ) → allocated_reply settings m attempt last ≡ Allocated (last + 1) (map grant_of (new_grants m attempt)) (outbox_of m attempt)
  allocated_own attempt last = ap (λ (rows : List Row). Allocated (last + 1) (map grant_of rows) (outbox_of m attempt)) (untold_own attempt)

recovers_running : (settings : Settings) (s : Manager) (life : Option LifeState) → settings.recover_ended_containers ≡ false → RecoversRunningIn settings s life
recovers_running settings s None off = tt
recovers_running settings s (Some life) off =
    record {
      astray = none_astray settings off (scene s life);
      pending = none_pending settings off (scene s life);
      done = done_here settings off (scene s life);
      taken = taken_wanted settings off (scene s life);
      allocated = allocated_own settings off (scene s life);
    }

-- in every state
pub without_recovery : (settings : Settings) (opening : List Op) (log : List Entry) → WithoutRecovery settings opening log
without_recovery settings opening log off before rest e = recovers_running settings (state_after opening before) (state_after opening before).life off
