-- The script of a soak: one node, and applications that run from their submission to their end, one after the other. This
-- project's own.
use Rattle.std.specs.Prelude.{ℕ, ◌+◌, ◌-◌, ◌*◌, ◌/◌, ◌%◌, ◌==◌, min, List, [], ◌∷◌, ◌++◌, Bool, if◌then◌else◌, map, codes}
use Rattle.std.specs.Fmt.{decimal}
use Rattle.std.specs.List.{flat_map, range_with_len}
use Rattle.rm_types.specs.declared.containers.Ask.{Ask}
use Rattle.rm_types.specs.declared.ids.AppId.{AppId}
use Rattle.rm_types.specs.declared.ids.AttemptId.{AttemptId}
use Rattle.rm_types.specs.declared.messages.ClientAsk.{ClientAsk}
use Rattle.rm_types.specs.declared.messages.ClientAsk.TheVariants as clients
use Rattle.rm_types.specs.declared.messages.MasterAsk.{MasterAsk}
use Rattle.rm_types.specs.declared.messages.MasterAsk.TheVariants as masters
use Rattle.rm_types.specs.declared.messages.Message.{Message}
use Rattle.rm_types.specs.declared.messages.Message.TheVariants as messages
use Rattle.rm_types.specs.declared.messages.NodeAsk.TheVariants as nodes
use Rattle.rm_types.specs.declared.operations.Submission.{Submission}
use Rattle.rm_types.specs.declared.resources.Resource.{Resource}
use Rattle.rm_types.specs.declared.scripts.Close.TheVariants.{Settle, Crash}
use Rattle.rm_types.specs.declared.scripts.Life.{Life}
use Rattle.rm_types.specs.declared.scripts.Script.{Script}
use Rattle.rm_types.specs.declared.scripts.Segment.{Segment}
use Rattle.rm_types.specs.Empty.{no_submission}
use Rattle.rm_soak.specs.Limits.{first_stamp, most_in_life}

-- the size of a container
abbrev pub container_size : Resource
container_size = record { memory_mb = 1024; vcores = 1 }

-- the k-th application of a life with the stamp
abbrev pub app_of : ℕ → ℕ → AppId
app_of stamp k = record { stamp = stamp; number = k }

-- its first attempt
abbrev pub attempt_of : ℕ → ℕ → AttemptId
attempt_of stamp k = record { app = app_of stamp k; number = 1 }

-- its user, one of seven in turn
abbrev pub user_of : ℕ → List ℕ
user_of k = codes "u" ++ decimal (k % 7)

-- what is submitted
abbrev pub soak_submission : ℕ → Submission
soak_submission k =
    record no_submission { user = user_of k; queue = codes "root.default"; name = codes "job"; master = container_size }

-- its user asks
abbrev pub client_asks : ℕ → ClientAsk → Message
client_asks k ask = messages.Client (user_of k) ask

-- its master asks
abbrev pub master_asks : ℕ → ℕ → MasterAsk → Message
master_asks stamp k ask = messages.Master (attempt_of stamp k) ask

-- the node registers
abbrev pub registration : Message
registration = messages.Node (codes "n1") (nodes.Register 1 (record { memory_mb = 8192; vcores = 8 }) [])

-- the node beats, with nothing to report
abbrev pub beat : ℕ → Message
beat id = messages.Node (codes "n1") (nodes.Beat id [] [])

-- the response id with which the node beats first for the k-th application: it beats three times for each
abbrev pub first_beat : ℕ → ℕ
first_beat k = 3 * (k - 1)

-- two containers for the master
abbrev pub two_containers : Ask
two_containers = record { priority = 1; count = 2; size = container_size }

-- the application is submitted, the node's beats bring its master, and the master registers
abbrev pub start_messages : ℕ → ℕ → List Message
start_messages stamp k =
    client_asks k clients.New
    ∷ client_asks k (clients.Submit (app_of stamp k) (soak_submission k))
    ∷ beat (first_beat k)
    ∷ beat (first_beat k + 1)
    ∷ master_asks stamp k masters.Register
    ∷ []

-- the master asks for two containers, a beat grants them, it takes them and finishes, and the user asks for a report
abbrev pub work_messages : ℕ → ℕ → List Message
work_messages stamp k =
    master_asks stamp k (masters.Allocate 0 (two_containers ∷ []) [])
    ∷ beat (first_beat k + 2)
    ∷ master_asks stamp k (masters.Allocate 1 [] [])
    ∷ master_asks stamp k (masters.Finish (codes "done"))
    ∷ client_asks k (clients.Report (app_of stamp k))
    ∷ []

-- the ten messages of the k-th application of a life with the stamp
abbrev pub app_messages : ℕ → ℕ → List Message
app_messages stamp k = start_messages stamp k ++ work_messages stamp k

-- how many lives so many applications are cut into
abbrev pub lives_of : ℕ → ℕ
lives_of number = (number + (most_in_life - 1)) / most_in_life

-- how many of so many applications are in a life, the first of which is life 0: those that are left for it, up to fifty
abbrev pub apps_in : ℕ → ℕ → ℕ
apps_in number life = min most_in_life (number - most_in_life * life)

-- the messages of a life with the stamp and so many applications, which are counted from 1: the node registers, and then
-- come those of each application
abbrev pub messages_of : ℕ → ℕ → List Message
messages_of stamp apps = registration ∷ flat_map (app_messages stamp) (range_with_len 1 apps)

-- a message in a segment of its own, which settles
abbrev pub own_segment : Message → Segment
own_segment message = record { messages = message ∷ []; close = Settle }

-- a crash right after what settled: no device call passes, and what wasn't synced is lost
abbrev pub crash_segment : Segment
crash_segment = record { messages = []; close = Crash 0 0 }

-- no life follows
abbrev pub is_last_life : ℕ → ℕ → Bool
is_last_life number life = life + 1 == lives_of number

-- how a life ends
abbrev pub ending_of : ℕ → ℕ → List Segment
ending_of number life = if is_last_life number life then [] else crash_segment ∷ []

-- a life of a soak of so many applications: each message settles, and the stamp rises by one from life to life
abbrev pub soak_life : ℕ → ℕ → Life
soak_life number life =
    record { stamp = first_stamp; segments = map own_segment (messages_of (first_stamp + life) (apps_in number life)) ++ ending_of number life }

-- the script of a soak of so many applications
abbrev pub soak_of : ℕ → Script
soak_of number = record { lives = map (soak_life number) (range_with_len 0 (lives_of number)) }
