-- How the tables change where a master is answered. This project's own.
use Rattle.std.specs.Prelude.{ℕ, ◌+◌, List, [], ◌∷◌, ◌++◌, Bool, false, ◌&&◌, ◌==◌, filter, map, Option, None, Some, if◌then◌else◌}
use Rattle.rm_types.specs.declared.containers.Ask.{Ask}
use Rattle.rm_types.specs.declared.containers.BookRow.{BookRow}
use Rattle.rm_types.specs.declared.containers.ContainerState.TheVariants.{Acquired}
use Rattle.rm_types.specs.declared.containers.Grant.{Grant}
use Rattle.rm_types.specs.declared.ids.AttemptId.{AttemptId}
use Rattle.rm_types.specs.declared.ids.ContainerId.{ContainerId}
use Rattle.rm_types.specs.declared.messages.MasterAsk.{MasterAsk}
use Rattle.rm_types.specs.declared.messages.MasterAsk.TheVariants.{Register, Finish, Allocate}
use Rattle.rm_types.specs.declared.replies.Reply.{Reply}
use Rattle.rm_types.specs.declared.replies.Reply.TheVariants.{MasterRegistered, Took, Allocated, Finishing}
use Rattle.rm_types.specs.Containers.{is_granted}
use Rattle.rm_types.specs.Ids.{is_attempt}
use Rattle.rm_book.specs.Books.{BookOf}
use Rattle.rm_book.specs.ManyAsks.{all_asked}
use Rattle.rm_model.specs.Facts.{has_container}
use Rattle.rm_tables.specs.declared.events.MainEvent.TheVariants as mains
use Rattle.rm_tables.specs.declared.events.SchedEvent.{SchedEvent}
use Rattle.rm_tables.specs.declared.events.SchedEvent.TheVariants as scheds
use Rattle.rm_tables.specs.declared.rows.Dialogue.{Dialogue}
use Rattle.rm_tables.specs.declared.tables.Tables.{Tables}
use Rattle.rm_tables.specs.ContainerSets.{with_containers}
use Rattle.rm_tables.specs.Missing.{astray_released}
use Rattle.rm_tables.specs.Rows.{row_of, with_row}
use Rattle.rm_tables.specs.Talks.{dialogue_begun, registered_row, said_row, told_row, with_answer, with_text, without_closings}
use Rattle.rm_master.specs.Told.{goes_on, spoken_by}

-- the containers of grants
abbrev pub ids_granted : List Grant → List ContainerId
ids_granted grants = map (λ grant. grant.id) grants

-- a row after these containers were handed over to a master: Acquired where nobody was told of it before
abbrev pub handed_row : List ContainerId → BookRow → BookRow
handed_row told row = record row { state = if has_container told row.id && is_granted row.state then Acquired else row.state }

-- the book in which these containers were handed over
abbrev pub handed_over : List ContainerId → BookOf → BookOf
handed_over told book = record book { rows = map (handed_row told) book.rows }

-- the book after a reply that may hand over containers to the master
abbrev pub handed_by : Reply → BookOf → BookOf
handed_by (Took kept) book = handed_over (ids_granted kept) book
handed_by _ book = book

-- a master registered, and was answered so: what it has from earlier attempts is handed over
abbrev pub registered : AttemptId → Reply → Tables → Tables
registered attempt reply t =
    record t {
      rows = with_row (registered_row (dialogue_begun reply t.book.added)) attempt.app t.rows;
      book = handed_by reply t.book;
    }

-- a master finishes, and says this: its attempt is to be worked off
abbrev pub said : AttemptId → List ℕ → Tables → Tables
said attempt text t =
    record t { rows = with_row (said_row (with_text text)) attempt.app t.rows; main = t.main ++ mains.AttemptFinish attempt ∷ [] }

-- what a release posts, if anything is released
abbrev pub release_events : AttemptId → List ContainerId → List SchedEvent
release_events attempt [] = []
release_events attempt (id ∷ ids) = scheds.Release attempt (id ∷ ids) ∷ []

-- the grants of which a reply tells the master
abbrev pub grants_in : Reply → List Grant
grants_in (Allocated id grants ended) = grants
grants_in _ = []

-- those of grants that are an attempt's own
abbrev pub own_grants : AttemptId → List Grant → List Grant
own_grants attempt grants = filter (λ grant. is_attempt grant.id.attempt attempt) grants

-- the containers of an attempt of which a reply tells its master
abbrev pub containers_told : AttemptId → Reply → List ContainerId
containers_told attempt reply = ids_granted (own_grants attempt (grants_in reply))

-- a row of which its master was told, where it is of one of these containers; and the book with such rows
abbrev pub acquired_row : List ContainerId → BookRow → BookRow
acquired_row told row = record row { state = if has_container told row.id then Acquired else row.state }

-- the book in which the masters were told of these containers
abbrev pub acquired : List ContainerId → BookOf → BookOf
acquired told book = record book { rows = map (acquired_row told) book.rows }

-- a master was told something under the id after this one: it is its last reply, and what it was told of is Acquired
abbrev pub after_told : AttemptId → ℕ → Reply → Tables → Tables
after_told attempt id reply t =
    record t {
      rows = with_row (told_row (with_answer (id + 1) reply t.book.added) (without_closings attempt)) attempt.app t.rows;
      book = acquired (containers_told attempt reply) t.book;
    }

-- a new allocation, which was answered so: its master is told it, its asks are set, its release is posted, and what that names and is
-- astray is pending
abbrev pub allocated_with : AttemptId → ℕ → List Ask → List ContainerId → Reply → Tables → Tables
allocated_with attempt id asks release reply t =
    record (after_told attempt id reply t) {
      asks = all_asked attempt t.asks asks;
      sched = t.sched ++ release_events attempt release;
      pending = with_containers t.pending (astray_released t attempt release);
    }

-- the id is the last one that a master was answered, so that the message is new
abbrev pub is_new_to : ℕ → Option Dialogue → Bool
is_new_to id None = false
is_new_to id (Some one) = id == one.last_id

-- the tables after a master was answered
abbrev pub after_master : AttemptId → MasterAsk → Reply → Tables → Tables
after_master attempt Register MasterRegistered t = registered attempt MasterRegistered t
after_master attempt Register (Took kept) t = registered attempt (Took kept) t
after_master attempt (Finish text) Finishing t = if goes_on (spoken_by attempt (row_of t.rows attempt.app)) then said attempt text t else t
after_master attempt (Allocate id asks release) (Allocated next grants ended) t =
    if is_new_to id (spoken_by attempt (row_of t.rows attempt.app)) then allocated_with attempt id asks release (Allocated next grants ended) t else t
after_master attempt _ _ t = t
