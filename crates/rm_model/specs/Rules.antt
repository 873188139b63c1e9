-- When an entry is allowed in the state before it: a rule for each kind of entry. Where a rule doesn't name its source, it is
-- this project's own.
use Rattle.std.specs.Prelude.{◌≡◌, ◌≢◌, ℕ, ◌<◌, ◌⊎◌, List, [], true, false, ◌||◌, Option, None, Some, is_some, slice_get, IsSomeAnd}
use Rattle.std.specs.List.{list_any}
use Rattle.rm_types.specs.declared.containers.Grant.{Grant}
use Rattle.rm_types.specs.declared.containers.Held.{Held}
use Rattle.rm_types.specs.declared.entries.Entry.{Entry}
use Rattle.rm_types.specs.declared.entries.Entry.TheVariants.{Opened, Issued, Handed, Kept, Blown, Served, Accepted, Queued, Absorbed, Pass, Ordered, Ended, Settled, Down, Quiet}
use Rattle.rm_types.specs.declared.ids.AppId.{AppId}
use Rattle.rm_types.specs.declared.ids.AttemptId.{AttemptId}
use Rattle.rm_types.specs.declared.ids.ContainerId.{ContainerId}
use Rattle.rm_types.specs.declared.messages.Lane.{Lane}
use Rattle.rm_types.specs.declared.messages.Lane.TheVariants.{Main, Sched}
use Rattle.rm_types.specs.declared.messages.Message.{Message}
use Rattle.rm_types.specs.declared.messages.Sender.{Sender}
use Rattle.rm_types.specs.declared.operations.Op.{Op}
use Rattle.rm_types.specs.declared.replies.Reply.{Reply}
use Rattle.rm_types.specs.declared.settings.Settings.{Settings}
use Rattle.rm_types.specs.declared.limits.TheConstants.{EPOCHS, STAMPS}
use Rattle.rm_types.specs.Ids.{is_attempt}
use Rattle.rm_types.specs.Lanes.{sender_of}
use Rattle.rm_types.specs.Order.{Ascend}
use Rattle.rm_types.specs.Records.{records, is_some_and, all_ended, last_attempt}
use Rattle.rm_model.specs.State.{Manager, LifeState, NodeState, Registered, Scene, scene}
use Rattle.rm_model.specs.Facts.{app_end_issued, awaits, has_container, is_accepted, is_attempt_op, is_kept, is_known, is_wished, kept_attempts, kept_record, next_attempt, reaches_bound}
use Rattle.rm_model.specs.Attempts.{attempt_end_issued, has_failed, has_master_ask, is_own_master, kept_here}
use Rattle.rm_model.specs.Containers.{lives_on}
use Rattle.rm_model.specs.Nodes.{beat_at, judged_node}
use Rattle.rm_model.specs.Replies.{reply_to}
use Rattle.rm_model.specs.Absorbing.{not_taken, taken_of}
use Rattle.rm_model.specs.Passing.{pass_of}
use Rattle.rm_model.specs.Ending.{done_on, MayEnd}
use Rattle.rm_model.specs.Issuing.{MayIssue}
use Rattle.rm_model.specs.Changes.{kept_after_landing}
use Rattle.rm_model.specs.Owed.{Owed}

-- a life may open: an operation has landed only where the last life blew, and then one; the epoch is the recorded next one
-- (YARN-556), and the stamp is above the recorded one
pub record MayOpen (s : Manager) (landed epoch stamp : ℕ) : Type 0 where
  pub landing : (landed ≡ 0) ⊎ ((landed ≡ 1) × (s.blew ≡ true))
  pub next : epoch ≡ (records (kept_after_landing s landed)).next_epoch
  pub in_range : epoch < EPOCHS
  pub rises : (records (kept_after_landing s landed)).stamp < stamp
  pub fits : stamp < STAMPS

-- the first awaiting operation may be handed to the store where there is one, none is with the store, and the life is not blown
pub record MayHand (m : Scene) : Type 0 where
  pub some_awaits : m.awaiting ≢ []
  pub none_handed : m.life.handed ≡ false
  pub not_blown : m.life.blown ≡ false

-- an operation may be kept where it is the first awaiting one and is with the store
pub record MayKeep (m : Scene) (op : Op) : Type 0 where
  pub handed : m.life.handed ≡ true
  pub first : slice_get m.awaiting 0 ≡ Some op

-- a life may be blown where an operation is with the store, which refused it
pub record MayBlow (m : Scene) : Type 0 where
  pub handed : m.life.handed ≡ true

-- a message may be served where the life is open or blown, as its sender's, with the reply that the scene gives
pub record MayServe (settings : Settings) (m : Scene) (sender : Sender) (message : Message) (reply : Reply) : Type 0 where
  pub serving : (m.life.is_open || m.life.blown) ≡ true
  pub of_sender : sender ≡ sender_of message
  pub answers : reply ≡ reply_to settings m message

-- an application may be accepted once in a life: its App is kept, it has no kept attempt, and its AppEnd isn't issued. After the
-- states of YARN's `RMApp`: it is accepted once it was saved
pub record MayAccept (m : Scene) (id : AppId) : Type 0 where
  pub opened : m.life.is_open ≡ true
  pub kept : is_kept m id ≡ true
  pub no_attempt : kept_attempts m id ≡ []
  pub no_end : app_end_issued m id ≡ false
  pub once : is_accepted m id ≡ false

-- an attempt is a first one or retries another: a first one follows acceptance, and a later one an attempt that ended FAILED while the
-- bound isn't reached (YARN's `am.max-attempts`)
abbrev pub MayFollow : Settings → Scene → AttemptId → Type 0
MayFollow settings m attempt =
    ((attempt.number ≡ 1) × (is_accepted m attempt.app ≡ true))
    ⊎ ((is_some_and has_failed (last_attempt (kept_attempts m attempt.app)) ≡ true) × (reaches_bound settings (kept_record m attempt.app) ≡ false))

-- an attempt may be queued where it is the next one of a known application, each kept attempt of which has ended and whose
-- AppEnd isn't issued; it doesn't await, asks for no master, and has no living container
pub record MayQueue (settings : Settings) (m : Scene) (attempt : AttemptId) : Type 0 where
  pub opened : m.life.is_open ≡ true
  pub known : is_known m attempt.app ≡ true
  pub next : attempt ≡ next_attempt m attempt.app
  pub no_end : app_end_issued m attempt.app ≡ false
  pub ended : all_ended (kept_attempts m attempt.app) ≡ true
  pub not_issued : awaits m (is_attempt_op attempt) ≡ false
  pub not_asked : has_master_ask m attempt ≡ false
  pub not_granted : list_any (λ row. is_attempt row.id.attempt attempt) m.life.book ≡ false
  pub follows : MayFollow settings m attempt

-- a container may be ordered on a node where it lives there and is the master of an attempt that was kept in this life; once,
-- while the attempt's end isn't issued and no client wished to kill it. A master that an earlier life ordered is not launched a
-- second time (YARN-556)
pub record MayOrder (m : Scene) (container : ContainerId) (node : List ℕ) : Type 0 where
  pub opened : m.life.is_open ≡ true
  pub master : is_own_master m container ≡ true
  pub here : kept_here m container.attempt ≡ true
  pub living : lives_on m.life.book node container ≡ true
  pub once : has_container m.life.masters.ordered container ≡ false
  pub no_end : attempt_end_issued m container.attempt ≡ false
  pub no_wish : is_wished m container.attempt.app ≡ false

-- a node may be absorbed where its last registration is the first thing that is not worked off: what is taken is what its report
-- gives, and what stood on it and isn't taken ends, in ascending order
pub record MayAbsorb (settings : Settings) (m : Scene) (node : NodeState) (taken : List Held) (ended : List ContainerId) : Type 0 where
  pub registration : slice_get node.undone 0 ≡ Some (Registered node.last.turn)
  pub takes : taken ≡ taken_of settings m node
  pub ends : Ascend (not_taken m node taken) ended

-- a beat may be answered by a pass where it is the first thing that is not worked off, and nothing that it reports as done is
-- astray or in the book on the node; what is granted is what the pass gives
pub record MayPass (settings : Settings) (m : Scene) (node : NodeState) (grants : List Grant) : Type 0 where
  pub beat : is_some (beat_at node.undone) ≡ true
  pub none_done : done_on settings m node ≡ []
  pub grants_are : grants ≡ pass_of settings m node

-- a segment may settle where nothing awaits and nothing is owed
pub record MaySettle (settings : Settings) (m : Scene) : Type 0 where
  pub none_awaits : m.awaiting ≡ []
  pub owes_nothing : Owed settings m → ⊥

-- a life may go down where no operation is with the store
pub record MayGoDown (m : Scene) : Type 0 where
  pub none_handed : m.life.handed ≡ false

-- the lane of one of the two dispatchers
abbrev pub IsDispatcher : Lane → Type 0
IsDispatcher lane = (lane ≡ Main) ⊎ (lane ≡ Sched)

-- when an entry is allowed in a life
abbrev pub AllowedIn : Settings → Scene → Entry → Type 0
AllowedIn settings m (Opened landed epoch stamp) = ⊥
AllowedIn settings m (Issued op) = MayIssue settings m op
AllowedIn settings m Handed = MayHand m
AllowedIn settings m (Kept op) = MayKeep m op
AllowedIn settings m (Blown passed) = MayBlow m
AllowedIn settings m (Served sender message reply) = MayServe settings m sender message reply
AllowedIn settings m (Accepted app) = MayAccept m app
AllowedIn settings m (Queued attempt) = MayQueue settings m attempt
AllowedIn settings m (Absorbed name taken ended) = IsSomeAnd (judged_node m.life.nodes name) (λ node. MayAbsorb settings m node taken ended)
AllowedIn settings m (Pass name grants) = IsSomeAnd (judged_node m.life.nodes name) (λ node. MayPass settings m node grants)
AllowedIn settings m (Ordered container node) = MayOrder m container node
AllowedIn settings m (Ended cause list) = MayEnd settings m cause list
AllowedIn settings m Settled = MaySettle settings m
AllowedIn settings m Down = MayGoDown m
AllowedIn settings m (Quiet lane) = IsDispatcher lane

-- Opened is allowed where no life stands, and every other entry only in a life
abbrev pub AllowedWhere : Settings → Manager → Option LifeState → Entry → Type 0
AllowedWhere settings s None (Opened landed epoch stamp) = MayOpen s landed epoch stamp
AllowedWhere settings s None _ = ⊥
AllowedWhere settings s (Some life) e = AllowedIn settings (scene s life) e

-- when an entry is allowed, whatever the script says
abbrev pub Allowed : Settings → Manager → Entry → Type 0
Allowed settings s e = AllowedWhere settings s s.life e
