-- What masters are answered, read off the tables, and the range of what they say. This project's own.
use Rattle.std.specs.Prelude.{ℕ, ◌+◌, List, [], Bool, false, ◌&&◌, ◌||◌, not, ◌==◌, nat_lt, filter, map, length, Option, None, Some, is_some, if◌then◌else◌}
use Rattle.std.specs.List.{list_any}
use Rattle.rm_types.specs.declared.containers.Ask.{Ask}
use Rattle.rm_types.specs.declared.containers.BookRow.{BookRow}
use Rattle.rm_types.specs.declared.containers.Closing.{Closing}
use Rattle.rm_types.specs.declared.containers.ClosingOf.{ClosingOf}
use Rattle.rm_types.specs.declared.containers.Grant.{Grant}
use Rattle.rm_types.specs.declared.ids.AttemptId.{AttemptId}
use Rattle.rm_types.specs.declared.messages.MasterAsk.{MasterAsk}
use Rattle.rm_types.specs.declared.messages.MasterAsk.TheVariants.{Register, Finish, Allocate}
use Rattle.rm_types.specs.declared.operations.How.{How}
use Rattle.rm_types.specs.declared.records.AppRecord.{AppRecord}
use Rattle.rm_types.specs.declared.records.AttemptRecord.{AttemptRecord}
use Rattle.rm_types.specs.declared.replies.Reply.{Reply}
use Rattle.rm_types.specs.declared.replies.Reply.TheVariants.{MasterRegistered, Took, Already, Gone, Resync, WrongId, TooLarge, Full, Allocated, NotRegistered, Finishing, Finished}
use Rattle.rm_types.specs.declared.resources.Resource.{Resource}
use Rattle.rm_types.specs.Ids.{is_attempt}
use Rattle.rm_types.specs.Records.{is_some_and, last_attempt, is_finished}
use Rattle.rm_types.specs.Resources.{fits}
use Rattle.rm_refinement.specs.Services.{finishes_by, lives_with}
use Rattle.rm_book.specs.AskTables.{AsksOf, attempt_asks}
use Rattle.rm_book.specs.Granted.{row_grant}
use Rattle.rm_book.specs.ManyAsks.{asks_after}
use Rattle.rm_types.specs.Containers.{is_granted}
use Rattle.rm_model.specs.Containers.{is_earlier}
use Rattle.rm_model.specs.Facts.{attempts_in, end_in, keeps}
use Rattle.rm_tables.specs.declared.rows.AppRow.{AppRow}
use Rattle.rm_tables.specs.declared.rows.Dialogue.{Dialogue}
use Rattle.rm_tables.specs.declared.tables.Tables.{Tables}
use Rattle.rm_tables.specs.Actions.{found_in}
use Rattle.rm_tables.specs.LateRows.{is_late_row}
use Rattle.rm_tables.specs.Leaving.{attempt_in, is_masters_in}
use Rattle.rm_tables.specs.Rows.{row_of}

-- the response id that a master says it was answered last, where it allocates
abbrev pub allocation_id : MasterAsk → ℕ
allocation_id Register = 0
allocation_id (Finish text) = 0
allocation_id (Allocate id asks release) = id

-- the row of an attempt's application, where the attempt is the current one and lives
abbrev pub living_row : AttemptId → Option AppRow → Option AppRow
living_row attempt None = None
living_row attempt (Some row) = if lives_with attempt row.current then Some row else None

-- the dialogue with the master of an attempt that lives, where it registered
abbrev pub spoken_in : Option AppRow → Option Dialogue
spoken_in None = None
spoken_in (Some row) = row.dialogue

-- the dialogue with the master of an attempt that lives, where it registered, by the row of its application
abbrev pub spoken_by : AttemptId → Option AppRow → Option Dialogue
spoken_by attempt row = spoken_in (living_row attempt row)

-- the master of a dialogue registered and didn't finish
abbrev pub goes_on : Option Dialogue → Bool
goes_on None = false
goes_on (Some one) = not (is_some one.finishing)

-- a row is of an earlier attempt of the same application, and no master's
abbrev pub is_left_row : Tables → AttemptId → BookRow → Bool
is_left_row t attempt row = is_earlier row.id.attempt attempt && not (is_masters_in t.tree.apps row.id)

-- what a master has from earlier attempts, in the order of entering
abbrev pub kept_told : Tables → AttemptId → List Grant
kept_told t attempt = map row_grant (filter (is_left_row t attempt) t.book.rows)

-- what a registration is answered that isn't refused: where the application keeps, with what its master has from earlier attempts
abbrev pub registered_told : Tables → AttemptId → Reply
registered_told t attempt = if keeps (found_in t attempt.app) then Took (kept_told t attempt) else MasterRegistered

-- what a registration is answered, of an attempt that doesn't live, and of one that does: it registers once
abbrev pub master_register_told : Tables → AttemptId → Option AppRow → Reply
master_register_told t attempt None = Gone
master_register_told t attempt (Some row) = if is_some row.dialogue then Already else registered_told t attempt

-- an application has ended, with this attempt as its last
abbrev pub has_ended_with : AttemptId → Option AppRecord → Bool
has_ended_with attempt found = is_some (end_in found) && is_some_and (λ last. is_attempt last.id attempt) (last_attempt (attempts_in found))

-- an attempt has a kept end, FINISHED
abbrev pub is_finished_end : Option (How × List ℕ) → Bool
is_finished_end None = false
is_finished_end (Some ending) = is_finished ending.0

-- an attempt that is recorded has a kept end, FINISHED
abbrev pub has_finished : Option AttemptRecord → Bool
has_finished None = false
has_finished (Some one) = is_finished_end one.ending

-- an attempt of an application that is recorded has a kept end, FINISHED
abbrev pub finished_in : AttemptId → Option AppRecord → Bool
finished_in attempt None = false
finished_in attempt (Some app) = has_finished (attempt_in app attempt)

-- what a master that finishes is answered, the first that holds: its application has ended, with this attempt; it registered, or its end
-- is issued or kept as FINISHED; it isn't registered
abbrev pub finish_told : AttemptId → Option AppRecord → Option AppRow → Reply
finish_told attempt found row =
    if has_ended_with attempt found then Finished else
    (if is_some (spoken_by attempt row) || (finishes_by attempt row || finished_in attempt found) then Finishing else NotRegistered)

-- one of these asks is for more than the greatest size
abbrev pub asks_too_much : Resource → List Ask → Bool
asks_too_much greatest asks = list_any (λ ask. not (fits ask.size greatest)) asks

-- an attempt would ask for more than 64 different ones
abbrev pub asks_too_many : List AsksOf → AttemptId → List Ask → Bool
asks_too_many table attempt asks = nat_lt 64 (length (asks_after (attempt_asks table attempt) asks))

-- a row was granted to an attempt, which is to be told of it: it is of the attempt, still Granted, and no master's
abbrev pub is_new_row : Tables → AttemptId → BookRow → Bool
is_new_row t attempt row = is_attempt row.id.attempt attempt && (is_granted row.state && not (is_masters_in t.tree.apps row.id))

-- a master is to be told of a row: it was granted to its attempt or, where the cluster recovers ended containers, came late to it
abbrev pub is_told_row : Tables → AttemptId → ℕ → BookRow → Bool
is_told_row t attempt told row = (t.settings.recover_ended_containers && is_late_row t attempt told row) || is_new_row t attempt row

-- the grants that a master is told of, in the order of entering
abbrev pub grants_told : Tables → AttemptId → ℕ → List Grant
grants_told t attempt told = map row_grant (filter (is_told_row t attempt told) t.book.rows)

-- the endings that a master is told of
abbrev pub closings_told : AttemptId → List ClosingOf → List Closing
closings_told attempt closings = map (λ one. one.closing) (filter (λ one. is_attempt one.attempt attempt) closings)

-- what an allocation is answered that isn't refused
abbrev pub allocated_told : Tables → AttemptId → ℕ → ℕ → AppRow → Reply
allocated_told t attempt id told row = Allocated (id + 1) (grants_told t attempt told) (closings_told attempt row.closings)

-- what an allocation is answered that is new: it asks for too much; it would ask for too many; it is taken
abbrev pub new_told : Tables → AttemptId → ℕ → ℕ → List Ask → AppRow → Reply
new_told t attempt id told asks row =
    if asks_too_much t.settings.greatest asks then TooLarge else
    (if asks_too_many t.asks attempt asks then Full else allocated_told t attempt id told row)

-- what an allocation is answered in a dialogue: the master finished; it is repeated, is of another id, or is new
abbrev pub said_told : Tables → AttemptId → ℕ → List Ask → AppRow → Dialogue → Reply
said_told t attempt id asks row one =
    if is_some one.finishing then Resync else
    (if id + 1 == one.last_id then one.last_reply else
    (if not (id == one.last_id) then WrongId else new_told t attempt id one.told asks row))

-- what an allocation is answered, of an attempt that doesn't live, and of one that does: its master registered, or didn't
abbrev pub spoken_told : Tables → AttemptId → ℕ → List Ask → AppRow → Option Dialogue → Reply
spoken_told t attempt id asks row None = Resync
spoken_told t attempt id asks row (Some one) = said_told t attempt id asks row one

-- what an allocation is answered: RESYNC where the attempt doesn't live, and else by its dialogue
abbrev pub allocate_told : Tables → AttemptId → ℕ → List Ask → Option AppRow → Reply
allocate_told t attempt id asks None = Resync
allocate_told t attempt id asks (Some row) = spoken_told t attempt id asks row row.dialogue

-- what a master is answered
abbrev pub master_told : Tables → AttemptId → MasterAsk → Reply
master_told t attempt Register = master_register_told t attempt (living_row attempt (row_of t.rows attempt.app))
master_told t attempt (Finish text) = finish_told attempt (found_in t attempt.app) (row_of t.rows attempt.app)
master_told t attempt (Allocate id asks release) = allocate_told t attempt id asks (living_row attempt (row_of t.rows attempt.app))
