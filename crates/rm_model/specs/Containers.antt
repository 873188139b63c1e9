-- What is said of containers: which live, where, whose they are; lists of them; and how they leave the book. The book of
-- living containers, and what is told of one that leaves it, are this project's own.
use Rattle.std.specs.Prelude.{ℕ, List, [], ◌∷◌, ◌++◌, map, filter, find, Bool, ◌&&◌, ◌||◌, not, ◌==◌, nat_lt, Option, None, Some, flat_map}
use Rattle.std.specs.List.{list_any}
use Rattle.std.specs.Str.{bytes_eq}
use Rattle.rm_types.specs.declared.containers.Ask.{Ask}
use Rattle.rm_types.specs.declared.containers.Cause.{Cause}
use Rattle.rm_types.specs.declared.containers.ClosingOf.{ClosingOf}
use Rattle.rm_types.specs.declared.ids.AppId.{AppId}
use Rattle.rm_types.specs.declared.ids.AttemptId.{AttemptId}
use Rattle.rm_types.specs.declared.ids.ContainerId.{ContainerId}
use Rattle.rm_types.specs.declared.resources.Resource.{Resource}
use Rattle.rm_types.specs.declared.settings.Settings.{Settings}
use Rattle.rm_types.specs.Ids.{is_app, is_attempt, is_container}
use Rattle.rm_model.specs.State.{Scene, LifeState, NodeState, Release, Row}
use Rattle.rm_model.specs.Facts.{has_container, keeps, kept_record}
use Rattle.rm_model.specs.Attempts.{attempt_was_first, heir, is_masters, is_stale, is_wanted}

-- two sizes are the same
abbrev pub is_size : Resource → Resource → Bool
is_size a b = (a.memory_mb == b.memory_mb) && (a.vcores == b.vcores)

-- two asks are of one priority and size
abbrev pub is_same_ask : Ask → Ask → Bool
is_same_ask a b = (a.priority == b.priority) && is_size a.size b.size

-- the row of a container, if it lives
abbrev pub judged_row : List Row → ContainerId → Option Row
judged_row book id = find (λ row. is_container row.id id) book

-- a container lives: it is in the book
abbrev pub is_living : List Row → ContainerId → Bool
is_living book id = list_any (λ row. is_container row.id id) book

-- it lives on this node
abbrev pub lives_on : List Row → List ℕ → ContainerId → Bool
lives_on book node id = list_any (λ row. is_container row.id id && bytes_eq row.node node) book

-- it lives on another
abbrev pub lives_elsewhere : List Row → List ℕ → ContainerId → Bool
lives_elsewhere book node id = list_any (λ row. is_container row.id id && not (bytes_eq row.node node)) book

-- the rows on a node
abbrev pub rows_on : List Row → List ℕ → List Row
rows_on book node = filter (λ row. bytes_eq row.node node) book

-- the containers that live on a node
abbrev pub ids_on : List Row → List ℕ → List ContainerId
ids_on book node = map (λ row. row.id) (rows_on book node)

-- the containers of an application that live and are stale
abbrev pub stale_of : Scene → AppId → List ContainerId
stale_of m id = map (λ row. row.id) (filter (λ row. is_app row.id.attempt.app id && is_stale m row.id) m.life.book)

-- a list with each container once, at its first place
abbrev pub once : List ContainerId → List ContainerId
once [] = []
once (id ∷ ids) = id ∷ filter (λ other. not (is_container other id)) (once ids)

-- an attempt is an earlier one of the same application
abbrev pub is_earlier : AttemptId → AttemptId → Bool
is_earlier one attempt = is_app one.app attempt.app && nat_lt one.number attempt.number

-- a container is at the disposal of an attempt: it is of that one or, where the application keeps, of an earlier one
abbrev pub is_at_disposal : Scene → AttemptId → ContainerId → Bool
is_at_disposal m attempt id = is_attempt id.attempt attempt || (keeps (kept_record m attempt.app) && is_earlier id.attempt attempt)

-- the containers that a release ends (ApplicationMasterProtocol's list of containers to release): those that it names which
-- live, are at the disposal of the attempt that released them and are no master's; in its order, each once
abbrev pub released_by : Scene → Release → List ContainerId
released_by m release =
    once (filter (λ id. is_living m.life.book id && (is_at_disposal m release.attempt id && not (is_masters m id))) release.list)

-- a container is missing: it is not in the book, and did not leave it in this life, though its epoch is below the life's, its attempt
-- was kept when the life began, and it is wanted; so it may run on a node that has not registered yet, or have ended meanwhile
abbrev pub is_missing : Scene → ContainerId → Bool
is_missing m id =
    not (is_living m.life.book id)
    && (not (has_container m.life.endings.left id)
    && (nat_lt id.epoch m.life.epoch
    && (attempt_was_first m id.attempt && is_wanted m id)))

-- a container is astray where the cluster recovers ended containers and it is missing. That a node tells of containers that ended
-- while the manager was down, and that these are recovered as complete, is after YARN-1372; the cluster's choice is this
-- project's own
abbrev pub is_astray : Settings → Scene → ContainerId → Bool
is_astray settings m id = settings.recover_ended_containers && is_missing m id

-- the containers that a release names while they are missing, which are at the disposal of the attempt that released them and
-- are no master's
abbrev pub missing_released : Scene → Release → List ContainerId
missing_released m release = filter (λ id. is_missing m id && (is_at_disposal m release.attempt id && not (is_masters m id))) release.list

-- a container is pending where the cluster recovers ended containers and it was released in this life while it was missing
abbrev pub is_pending : Settings → Scene → ContainerId → Bool
is_pending settings m id = settings.recover_ended_containers && has_container m.life.endings.pending id

-- a container's end is told where it was wanted and is no master's
abbrev pub is_told : Scene → ContainerId → Bool
is_told m id = is_wanted m id && not (is_masters m id)

-- a container's end, as the master of an attempt is to be told, where there is such an attempt
abbrev pub closing_for : Cause → ContainerId → Option AttemptId → List ClosingOf
closing_for cause id None = []
closing_for cause id (Some attempt) = record { attempt = attempt; closing = record { id = id; cause = cause } } ∷ []

-- what masters are to be told of these containers: of each the heir of its application is told
abbrev pub closings : Scene → Cause → List ContainerId → List ClosingOf
closings m cause list = flat_map (λ id. closing_for cause id (heir m id.attempt.app)) (filter (is_told m) list)

-- a node without the launches of these containers
abbrev pub without_launches : List ContainerId → NodeState → NodeState
without_launches list node = record node { launches = filter (λ id. not (has_container list id)) node.launches }

-- the life after these containers left the book for a cause: their rows go, launches of them go, masters are to be told, and they
-- join those that left
abbrev pub leave : Scene → Cause → List ContainerId → LifeState
leave m cause list =
    record m.life {
      book = filter (λ row. not (has_container list row.id)) m.life.book;
      nodes = map (without_launches list) m.life.nodes;
      endings = record m.life.endings { outbox = m.life.endings.outbox ++ closings m cause list; left = m.life.endings.left ++ list };
    }
