-- The laws of lawful logs: what follows from the rules for who reads a page, or operates a cluster. That a restart loses no
-- accepted application, repeats no id and kills no running work is what YARN's page on ResourceManager Restart promises; that
-- it is said so is this project's own.
use Rattle.std.specs.Prelude.{◌≡◌, ◌≢◌, ◌<◌, ◌≤◌, ◌⊎◌, ◌+◌, ℕ, List, [], ◌∷◌, ◌++◌, map, flat_map, fold, drop, length, Bool, true, false, ◌&&◌, ◌||◌, not, Option, None, Some, unwrap_or, option_and_then, All, AllPairs, IsSomeAnd}
use Rattle.std.specs.List.{list_any}
use Rattle.std.specs.Str.{bytes_eq}
use Rattle.rm_types.specs.declared.containers.Held.{Held}
use Rattle.rm_types.specs.declared.entries.Entry.{Entry}
use Rattle.rm_types.specs.declared.entries.Entry.TheVariants.{Opened, Kept, Served, Absorbed, Pass, Ended, Settled, Down}
use Rattle.rm_types.specs.declared.ids.AppId.{AppId}
use Rattle.rm_types.specs.declared.ids.AttemptId.{AttemptId}
use Rattle.rm_types.specs.declared.ids.ContainerId.{ContainerId}
use Rattle.rm_types.specs.declared.messages.ClientAsk.TheVariants.{New as AskNew, Report as AskReport, Kill as AskKill}
use Rattle.rm_types.specs.declared.messages.MasterAsk.TheVariants.{Finish}
use Rattle.rm_types.specs.declared.messages.Message.{Message}
use Rattle.rm_types.specs.declared.messages.Message.TheVariants.{Client as FromClient, Master as FromMaster, Node as FromNode}
use Rattle.rm_types.specs.declared.messages.NodeAsk.TheVariants.{Beat as AskBeat}
use Rattle.rm_types.specs.declared.messages.Sender.{Sender}
use Rattle.rm_types.specs.declared.operations.Op.{Op}
use Rattle.rm_types.specs.declared.operations.Op.TheVariants.{Epoch}
use Rattle.rm_types.specs.declared.operations.Submission.{Submission}
use Rattle.rm_types.specs.declared.replies.Reply.{Reply}
use Rattle.rm_types.specs.declared.replies.Reply.TheVariants.{New as Gives, Report as Tells, AppEnded, Finished, Allocated, Beat as TellBeat}
use Rattle.rm_types.specs.declared.replies.Report.{Report}
use Rattle.rm_types.specs.declared.replies.StateWord.{StateWord}
use Rattle.rm_types.specs.declared.replies.StateWord.TheVariants as states
use Rattle.rm_types.specs.declared.resources.Resource.{Resource}
use Rattle.rm_types.specs.declared.settings.Settings.{Settings}
use Rattle.rm_types.specs.Ids.{is_attempt, is_container}
use Rattle.rm_types.specs.Passes.{total_of}
use Rattle.rm_types.specs.Records.{Records, is_some_and, record_of, records, stray}
use Rattle.rm_types.specs.Resources.{Fits}
use Rattle.rm_model.specs.State.{LifeState, Manager, Scene, scene}
use Rattle.rm_model.specs.Facts.{has_app, has_container, is_attempt_end_op, is_remove_op}
use Rattle.rm_model.specs.Attempts.{attempt_is_kept, has_lost_master, heir, is_wanted}
use Rattle.rm_model.specs.Containers.{is_astray, is_living, is_missing, lives_elsewhere, lives_on, rows_on}
use Rattle.rm_model.specs.Nodes.{is_ready, judged_node}
use Rattle.rm_model.specs.NodeReplies.{is_new_to_node}
use Rattle.rm_types.specs.Containers.{is_held}
use Rattle.rm_model.specs.Changes.{after}
use Rattle.rm_model.specs.Lawful.{state_after}

-- something holds of each state of a log: of the one after each beginning of it
abbrev pub InEachState : (Manager → Type 0) → List Op → List Entry → Type 0
InEachState P opening log = (before rest : List Entry) → log ≡ before ++ rest → P (state_after opening before)

-- an entry of a log, what comes before it and, up to some later place, after it
pub record Passage (log : List Entry) : Type 0 where
  pub before : List Entry
  pub entry : Entry
  pub after : List Entry
  pub rest : List Entry
  pub whole : log ≡ before ++ entry ∷ (after ++ rest)

-- the state before the entry
abbrev pub state_before : {log : List Entry} → List Op → Passage log → Manager
state_before opening p = state_after opening p.before

-- the state at the later place
abbrev pub state_later : {log : List Entry} → List Op → Passage log → Manager
state_later opening p = state_after opening (p.before ++ p.entry ∷ p.after)

-- the operations that are kept in a state beyond those of a former one
abbrev pub kept_since : Manager → Manager → List Op
kept_since former s = drop (length former.kept) s.kept

-- Kept stays: what is kept in a state is kept in each later one, in later lives too, in its order and before what is kept since.
abbrev pub KeptStays : List Op → List Entry → Type 0
KeptStays opening log = (p : Passage log) → (state_later opening p).kept ≡ (state_before opening p).kept ++ kept_since (state_before opening p) (state_later opening p)

-- an application is still remembered at the later place: no Remove of it was kept in between, and none landed
abbrev pub IsRemembered : {log : List Entry} → List Op → Passage log → AppId → Type 0
IsRemembered opening p id = list_any (is_remove_op id) (kept_since (state_before opening p) (state_later opening p)) ≡ false

-- what a reply reports of an application, where it answers a client's question
abbrev pub told_in : Message → Reply → Option (AppId × Report)
told_in (FromClient user (AskReport id)) (Tells report) = Some (id, report)
told_in _ _ = None

-- what an entry reports of an application, where it does
abbrev pub told_by : Entry → Option (AppId × Report)
told_by (Served sender message reply) = told_in message reply
told_by _ = None

-- an application is told by a word past NEW_SAVING
abbrev pub is_told_word : StateWord → Bool
is_told_word states.New = false
is_told_word states.NewSaving = false
is_told_word states.Submitted = true
is_told_word states.Accepted = true
is_told_word states.Running = true
is_told_word states.Finished = true
is_told_word states.Failed = true
is_told_word states.Killed = true

-- a final word
abbrev pub is_final_word : StateWord → Bool
is_final_word states.New = false
is_final_word states.NewSaving = false
is_final_word states.Submitted = false
is_final_word states.Accepted = false
is_final_word states.Running = false
is_final_word states.Finished = true
is_final_word states.Failed = true
is_final_word states.Killed = true

-- a submission is the reported one
pub record IsReported (report : Report) (submission : Submission) : Type 0 where
  pub user : submission.user ≡ report.user
  pub queue : submission.queue ≡ report.queue
  pub name : submission.name ≡ report.name

-- an application has a record with the reported submission
abbrev pub HasReported : Manager → AppId → Report → Type 0
HasReported s id report = IsSomeAnd (record_of (records s.kept).apps id) (λ app. IsReported report app.submission)

-- What was told stays: after a report with a word past NEW_SAVING the application has a record with the reported submission in
-- every later state, in later lives too, until its Remove is kept or lands.
abbrev pub ToldStays : List Op → List Entry → Type 0
ToldStays opening log =
    (p : Passage log) (id : AppId) (report : Report) → told_by p.entry ≡ Some (id, report) → is_told_word report.state ≡ true → IsRemembered opening p id
    → HasReported (state_later opening p) id report

-- of which application a reply tells that it has ended: a report with a final word, a kill's `ended`, a master's `finished`
abbrev pub application_ended : Message → Reply → Option AppId
application_ended (FromClient user (AskReport id)) (Tells report) = elim (is_final_word report.state) [ true ↦ Some id | false ↦ None ]
application_ended (FromClient user (AskKill id)) AppEnded = Some id
application_ended (FromMaster attempt (Finish text)) Finished = Some attempt.app
application_ended _ _ = None

-- of which application an entry tells that it has ended
abbrev pub entry_ended : Entry → Option AppId
entry_ended (Served sender message reply) = application_ended message reply
entry_ended _ = None

-- an entry reports this of an application, next after a passage
abbrev pub ReportsNext : {log : List Entry} → Passage log → AppId → Report → Type 0
ReportsNext p id report = (next : Entry) × (more : List Entry) × (p.rest ≡ next ∷ more) × (told_by next ≡ Some (id, report))

-- Ends stay: after an application's end was told, each later report of it has a final word, and all of them have the same one
-- and the same text; and where a report told it, they have that report's word and text; until its Remove is kept or lands.
pub record EndsStay (opening : List Op) (log : List Entry) : Type 0 where
  pub final : (p : Passage log) (id : AppId) (later : Report) → entry_ended p.entry ≡ Some id → IsRemembered opening p id → ReportsNext p id later
      → is_final_word later.state ≡ true
  -- of two passages from the same entry
  pub one : (p q : Passage log) (id : AppId) (first second : Report) → p.before ≡ q.before → entry_ended p.entry ≡ Some id → IsRemembered opening p id → IsRemembered opening q id
      → ReportsNext p id first → ReportsNext q id second → (first.state ≡ second.state) × (first.text ≡ second.text)
  pub same : (p : Passage log) (id : AppId) (report later : Report) → told_by p.entry ≡ Some (id, report) → is_final_word report.state ≡ true
      → IsRemembered opening p id → ReportsNext p id later → (later.state ≡ report.state) × (later.text ≡ report.text)

-- the containers that an entry grants
abbrev pub granted_by : Entry → List ContainerId
granted_by (Pass node grants) = map (λ grant. grant.id) grants
granted_by _ = []

-- Grants differ: all containers that are granted, in all lives, differ, and their epochs are at least the opening's next one.
pub record GrantsDiffer (opening : List Op) (log : List Entry) : Type 0 where
  pub differ : AllPairs ◌≢◌ (flat_map granted_by log)
  pub epochs : All (λ id. (records opening).next_epoch ≤ id.epoch) (flat_map granted_by log)

-- the id that an answer gives
abbrev pub given_in : Message → Reply → List AppId
given_in (FromClient user AskNew) (Gives id) = id ∷ []
given_in _ _ = []

-- the ids that an entry gives
abbrev pub given_by : Entry → List AppId
given_by (Served sender message reply) = given_in message reply
given_by _ = []

-- Ids differ: all ids that were given, in all lives, differ, and their stamps are above the opening's.
pub record IdsDiffer (opening : List Op) (log : List Entry) : Type 0 where
  pub differ : AllPairs ◌≢◌ (flat_map given_by log)
  pub stamps : All (λ id. (records opening).stamp < id.stamp) (flat_map given_by log)

-- what a node offers in a life; nothing before it was absorbed
abbrev pub offered : LifeState → List ℕ → Resource
offered life name = unwrap_or (option_and_then (λ node. node.capability) (judged_node life.nodes name)) (record { memory_mb = 0; vcores = 0 })

-- what stands on a node fits what it offers
abbrev pub FitsOn : LifeState → List ℕ → Type 0
FitsOn life name = Fits (total_of (map (λ row. row.size) (rows_on life.book name))) (offered life name)

-- each node of the life that stands, if one does
abbrev pub AllFit : Option LifeState → Type 0
AllFit None = Unit {0}
AllFit (Some life) = (name : List ℕ) → FitsOn life name

-- Fits: in every state the sum of a node's rows fits its capability.
abbrev pub RowsFit : List Op → List Entry → Type 0
RowsFit opening log = InEachState (λ s. AllFit s.life) opening log

-- whether a container stands on a node after an entry, where it did before or didn't: an absorption of the node took it, or a
-- pass of it granted it, and no ending and no absorption has named it as ended since; with its life it falls
abbrev pub stands_by : List ℕ → ContainerId → Bool → Entry → Bool
stands_by name id stood (Opened landed epoch stamp) = false
stands_by name id stood (Absorbed node taken ended) = (stood || (bytes_eq node name && is_held taken id)) && not (has_container ended id)
stands_by name id stood (Pass node grants) = stood || (bytes_eq node name && has_container (map (λ grant. grant.id) grants) id)
stands_by name id stood (Ended cause list) = stood && not (has_container list id)
stands_by name id stood Down = false
stands_by name id stood _ = stood

-- whether it stands there after a log
abbrev pub stands_after : List ℕ → ContainerId → List Entry → Bool
stands_after name id log = fold (stands_by name id) false log

-- a container lives on a node, in the life that stands if one does
abbrev pub lives_on_node : Option LifeState → List ℕ → ContainerId → Bool
lives_on_node None name id = false
lives_on_node (Some life) name id = lives_on life.book name id

-- each row is of another container, in the life that stands if one does
abbrev pub RowsDiffer : Option LifeState → Type 0
RowsDiffer None = Unit {0}
RowsDiffer (Some life) = AllPairs (λ a b. a.id ≢ b.id) life.book

-- Book: in every state the rows of a node are exactly the containers that stand there by what the log says; and each container
-- has one row at most, so that it lives on one node and counts once.
pub record BookIsOfLog (opening : List Op) (log : List Entry) : Type 0 where
  pub rows : (before rest : List Entry) (name : List ℕ) (id : ContainerId) → log ≡ before ++ rest
      → lives_on_node (state_after opening before).life name id ≡ stands_after name id before
  pub once : InEachState (λ s. RowsDiffer s.life) opening log

-- Store: in every state no operation is stray, of those that are kept and of those that await after them.
abbrev pub NoneStray : List Op → List Entry → Type 0
NoneStray opening log = InEachState (λ s. stray (s.kept ++ s.awaiting) ≡ None) opening log

-- a number of the Epoch that an entry keeps, where it keeps one: by that a life opens
abbrev pub number_kept : (ℕ → ℕ → ℕ) → Entry → List ℕ
number_kept number (Kept (Epoch next stamp)) = number next stamp ∷ []
number_kept number _ = []

-- the next epoch of the Epochs that a log keeps
abbrev pub epochs_kept : List Entry → List ℕ
epochs_kept log = flat_map (number_kept (λ next stamp. next)) log

-- and their stamps
abbrev pub stamps_kept : List Entry → List ℕ
stamps_kept log = flat_map (number_kept (λ next stamp. stamp)) log

-- a life's numbers are the recorded ones: its stamp is the recorded one, and the recorded next epoch is its own and 1 more
pub record HasNumbers (r : Records) (life : LifeState) : Type 0 where
  pub stamp : r.stamp ≡ life.stamp
  pub epoch : r.next_epoch ≡ life.epoch + 1

-- where a life stands that is open, its numbers are the recorded ones
abbrev pub OpenIsRecorded : Manager → Option LifeState → Type 0
OpenIsRecorded s None = Unit {0}
OpenIsRecorded s (Some life) = life.is_open ≡ true → HasNumbers (records s.kept) life

-- Lives differ: the next epochs of the Epochs that are kept rise, and so do their stamps, from above the opening's on; and an
-- open life's numbers are the recorded ones, in every state. So no two lives that opened have an epoch or a stamp in common. A
-- life that went down before its Epoch was kept leaves its epoch to the next.
pub record LivesDiffer (opening : List Op) (log : List Entry) : Type 0 where
  pub epochs : AllPairs ◌<◌ (epochs_kept log)
  pub stamps : AllPairs ◌<◌ (stamps_kept log)
  pub later_epochs : All (λ next. (records opening).next_epoch < next) (epochs_kept log)
  pub later_stamps : All (λ stamp. (records opening).stamp < stamp) (stamps_kept log)
  pub open_lives : InEachState (λ s. OpenIsRecorded s s.life) opening log

-- a beat of this id is a new one of the node, in the life that stands if one does
abbrev pub is_new_beat : Manager → Option LifeState → List ℕ → ℕ → Bool
is_new_beat s None name id = false
is_new_beat s (Some life) name id = is_new_to_node (scene s life) name id

-- the node was absorbed in the life that stands, if one does, and is not lost or registered again since
abbrev pub is_ready_in : Option LifeState → List ℕ → Bool
is_ready_in None name = false
is_ready_in (Some life) name = is_some_and (λ node. is_ready node.phase) (judged_node life.nodes name)

-- an answer to a node's new beat, and where it stands in a log
pub record NewBeat (opening : List Op) (log : List Entry) : Type 0 where
  pub before : List Entry
  pub sender : Sender
  pub name : List ℕ
  pub id : ℕ
  pub running : List Held
  pub done : List ContainerId
  pub next : ℕ
  pub launch : List ContainerId
  pub clean : List ContainerId
  pub rest : List Entry
  pub whole : log ≡ before ++ Served sender (FromNode name (AskBeat id running done)) (TellBeat next launch clean) ∷ rest
  pub is_new : is_new_beat (state_after opening before) (state_after opening before).life name id ≡ true

-- the state before it
abbrev pub state_at : {opening : List Op} {log : List Entry} → NewBeat opening log → Manager
state_at {opening} b = state_after opening b.before

-- and the state after it
abbrev pub state_past : {opening : List Op} {log : List Entry} → NewBeat opening log → Manager
state_past b = after (state_at b) (Served b.sender (FromNode b.name (AskBeat b.id b.running b.done)) (TellBeat b.next b.launch b.clean))

-- none of these containers lives on a node
abbrev pub NoneLives : Manager → List ℕ → List ContainerId → Type 0
NoneLives s name list = All (λ id. lives_on_node s.life name id ≡ false) list

-- Cleans: no container that a node is to clean by the answer to a new beat lives on that node, in the state before and in that
-- after; each other container that a ready node's new beat reports as running is to be cleaned; and a node that isn't ready is to
-- clean nothing and to launch nothing. A repeated beat is answered as before, whatever happened since, and of it this says nothing.
pub record CleansStrangers (opening : List Op) (log : List Entry) : Type 0 where
  pub strangers : (b : NewBeat opening log) → NoneLives (state_at b) b.name b.clean × NoneLives (state_past b) b.name b.clean
  pub all : (b : NewBeat opening log) (id : ContainerId) → is_ready_in (state_at b).life b.name ≡ true → is_held b.running id ≡ true
      → lives_on_node (state_at b).life b.name id ≡ false → has_container b.clean id ≡ true
  pub waits : (b : NewBeat opening log) → is_ready_in (state_at b).life b.name ≡ false → (b.clean ≡ []) × (b.launch ≡ [])

-- an attempt is kept, or its application was retired in this life
abbrev pub IsKeptOrRetired : Scene → AttemptId → Type 0
IsKeptOrRetired m attempt = (attempt_is_kept m attempt ≡ true) ⊎ (has_app m.life.apps.retired attempt.app ≡ true)

-- so is the attempt of each master that registered in the life that stands, if one does
abbrev pub AllKeptOrRetired : Manager → Option LifeState → Type 0
AllKeptOrRetired s None = Unit {0}
AllKeptOrRetired s (Some life) = All (λ master. IsKeptOrRetired (scene s life) master.attempt) life.masters.registered

-- Registered: in every state the attempt of each master that registered in the life that stands is kept, or its application was
-- retired in this life.
abbrev pub RegisteredAreKept : List Op → List Entry → Type 0
RegisteredAreKept opening log = InEachState (λ s. AllKeptOrRetired s s.life) opening log

-- the pending containers of the life that stands, if one does, are not in its book
abbrev pub PendingAreOut : Option LifeState → Type 0
PendingAreOut None = Unit {0}
PendingAreOut (Some life) = All (λ id. is_living life.book id ≡ false) life.endings.pending

-- Released: where the cluster recovers ended containers, no container that was released while it was missing is in the book, in
-- every state of the life in which it was released.
abbrev pub ReleasedStay : Settings → List Op → List Entry → Type 0
ReleasedStay settings opening log = settings.recover_ended_containers ≡ true → InEachState (λ s. PendingAreOut s.life) opening log

-- by an entry an attempt is over for its life: its end is kept, or the life goes down
abbrev pub stops_attempt : AttemptId → Entry → Bool
stops_attempt id (Kept op) = is_attempt_end_op id op
stops_attempt id Down = true
stops_attempt id _ = false

-- a master is told of a container's end
abbrev pub tells_closing : AttemptId → ContainerId → Message → Reply → Bool
tells_closing attempt id (FromMaster one ask) (Allocated next grants ended) = is_attempt one attempt && list_any (λ closing. is_container closing.id id) ended
tells_closing attempt id _ _ = false

-- by an entry the master of an attempt is told of a container's end
abbrev pub tells_end : AttemptId → ContainerId → Entry → Bool
tells_end attempt id (Served sender message reply) = tells_closing attempt id message reply
tells_end attempt id _ = false

-- a container that a node names as done counts: it is astray, or in the book on the node; it is wanted; and this attempt is the heir of its
-- application
pub record CountsAsDone (settings : Settings) (m : Scene) (name : List ℕ) (id : ContainerId) (attempt : AttemptId) : Type 0 where
  pub here : (is_astray settings m id || lives_on m.life.book name id) ≡ true
  pub wanted : is_wanted m id ≡ true
  pub told : heir m id.attempt.app ≡ Some attempt

-- a new beat that names a container as done which counts, and a later place of its life up to which the heir's end is not kept
pub record DoneNamed (settings : Settings) (opening : List Op) (log : List Entry) : Type 0 where
  pub passage : Passage log
  pub sender : Sender
  pub name : List ℕ
  pub id : ℕ
  pub running : List Held
  pub done : List ContainerId
  pub next : ℕ
  pub launch : List ContainerId
  pub clean : List ContainerId
  pub container : ContainerId
  pub attempt : AttemptId
  pub beat : passage.entry ≡ Served sender (FromNode name (AskBeat id running done)) (TellBeat next launch clean)
  pub is_new : is_new_beat (state_before opening passage) (state_before opening passage).life name id ≡ true
  pub named : has_container done container ≡ true
  pub counts : IsSomeAnd (state_before opening passage).life (λ life. CountsAsDone settings (scene (state_before opening passage) life) name container attempt)
  pub lasts : list_any (stops_attempt attempt) passage.after ≡ false

-- what the node said is worked off, in the life that stands if one does
abbrev pub IsWorkedOff : Option LifeState → List ℕ → Type 0
IsWorkedOff None name = ⊥
IsWorkedOff (Some life) name = IsSomeAnd (judged_node life.nodes name) (λ node. node.undone ≡ [])

-- the end of a container that a node named as done is told, unless the container runs elsewhere
pub data IsEndTold (m : Scene) (name : List ℕ) (id : ContainerId) (attempt : AttemptId) (since : List Entry) : Type 0 where
  -- it is in the book on another node, which reported it as running
  elsewhere : lives_elsewhere m.life.book name id ≡ true → IsEndTold m name id attempt since
  -- its end waits for the attempt's master
  to_be_told : list_any (λ one. is_attempt one.attempt attempt && is_container one.closing.id id) m.life.endings.outbox ≡ true → IsEndTold m name id attempt since
  -- the attempt's master was told of its end since
  was_told : list_any (tells_end attempt id) since ≡ true → IsEndTold m name id attempt since

-- Ends are told: of a container that a new beat named as done and that counted then, in the same life and until the end of its
-- application's heir is kept: as soon as what the node said is worked off the end is told to the heir or waits for it, or the container was its
-- attempt's master, which is lost; and where the log settles next, the end is told or waits.
pub record EndsAreTold (settings : Settings) (opening : List Op) (log : List Entry) : Type 0 where
  pub worked_off : (d : DoneNamed settings opening log) → IsWorkedOff (state_later opening d.passage).life d.name
      → IsSomeAnd (state_later opening d.passage).life
      (λ life. (has_lost_master (scene (state_later opening d.passage) life) d.container.attempt ≡ true)
      ⊎ IsEndTold (scene (state_later opening d.passage) life) d.name d.container d.attempt d.passage.after)
  pub settled : (d : DoneNamed settings opening log) (more : List Entry) → d.passage.rest ≡ Settled ∷ more
      → IsSomeAnd (state_later opening d.passage).life (λ life. IsEndTold (scene (state_later opening d.passage) life) d.name d.container d.attempt d.passage.after)

-- a container is missing, in the life that stands if one does
abbrev pub is_missing_now : Manager → Option LifeState → ContainerId → Bool
is_missing_now s None id = false
is_missing_now s (Some life) id = is_missing (scene s life) id

-- an entry begins a life, or ends one
abbrev pub is_bound : Entry → Bool
is_bound (Opened landed epoch stamp) = true
is_bound Down = true
is_bound _ = false

-- Missing falls: inside a life no container becomes missing, so that what a node's beat named as done and the manager worked off stays worked
-- off.
abbrev pub MissingFalls : List Op → List Entry → Type 0
MissingFalls opening log =
    (p : Passage log) (id : ContainerId) → list_any is_bound (p.entry ∷ p.after) ≡ false → is_missing_now (state_later opening p) (state_later opening p).life id ≡ true
    → is_missing_now (state_before opening p) (state_before opening p).life id ≡ true
