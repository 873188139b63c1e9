-- What a summary counts. This project's own.
use Rattle.std.specs.Prelude.{ℕ, length}
use Rattle.rm_types.specs.declared.containers.Cause.TheVariants as causes
use Rattle.rm_types.specs.declared.entries.Entry.{Entry}
use Rattle.rm_types.specs.declared.entries.Entry.TheVariants.{Opened, Issued, Kept, Served, Absorbed, Pass, Ended}
use Rattle.rm_types.specs.declared.operations.How.TheVariants as hows
use Rattle.rm_types.specs.declared.operations.Op.TheVariants as ops
use Rattle.rm_formats.specs.Frames.{frame}

-- a life begins
abbrev pub life_count : Entry → ℕ
life_count (Opened landed epoch stamp) = 1
life_count entry = 0

-- a message is answered
abbrev pub served_count : Entry → ℕ
served_count (Served sender message reply) = 1
served_count entry = 0

-- a beat is answered with grants
abbrev pub passes_in : Entry → ℕ
passes_in (Pass node grants) = 1
passes_in entry = 0

-- the containers that are taken in again
abbrev pub taken_count : Entry → ℕ
taken_count (Absorbed node taken ended) = length taken
taken_count entry = 0

-- an operation is issued
abbrev pub issued_in : Entry → ℕ
issued_in (Issued op) = 1
issued_in entry = 0

-- an operation is kept
abbrev pub kept_in : Entry → ℕ
kept_in (Kept op) = 1
kept_in entry = 0

-- the bytes of its frame
abbrev pub kept_bytes_in : Entry → ℕ
kept_bytes_in (Kept op) = length (frame op)
kept_bytes_in entry = 0

-- a submission is kept
abbrev pub jobs_in : Entry → ℕ
jobs_in (Kept (ops.App id submission)) = 1
jobs_in entry = 0

-- an application is kept as finished
abbrev pub finished_count : Entry → ℕ
finished_count (Kept (ops.AppEnd id hows.Finished text)) = 1
finished_count entry = 0

-- an application is kept as failed
abbrev pub failed_in : Entry → ℕ
failed_in (Kept (ops.AppEnd id hows.Failed text)) = 1
failed_in entry = 0

-- an application is kept as killed
abbrev pub killed_in : Entry → ℕ
killed_in (Kept (ops.AppEnd id hows.Killed text)) = 1
killed_in entry = 0

-- it is kept that an application is forgotten
abbrev pub removed_in : Entry → ℕ
removed_in (Kept (ops.Remove id)) = 1
removed_in entry = 0

-- the containers that end since they are done
abbrev pub done_in : Entry → ℕ
done_in (Ended causes.Done list) = length list
done_in entry = 0

-- the containers that end since they were released
abbrev pub released_in : Entry → ℕ
released_in (Ended causes.Released list) = length list
released_in entry = 0

-- the containers that end since their node was lost
abbrev pub lost_count : Entry → ℕ
lost_count (Ended causes.Node list) = length list
lost_count entry = 0

-- the containers that end with their attempt
abbrev pub over_in : Entry → ℕ
over_in (Ended causes.Attempt list) = length list
over_in entry = 0

-- the containers that are gone: those that a report doesn't name any more, which an absorption ends too
abbrev pub gone_in : Entry → ℕ
gone_in (Ended causes.Gone list) = length list
gone_in (Absorbed node taken ended) = length ended
gone_in entry = 0
