-- What the master of an attempt is answered, and how that changes the life. After YARN's ApplicationMasterProtocol: a master
-- registers, allocates in a dialogue of response ids, and finishes; a resync asks it to register again and to send what it
-- asked for again (YARN-556). The words, the limits and the order of refusals are this project's own.
use Rattle.std.specs.Prelude.{ℕ, ◌+◌, List, [], ◌∷◌, ◌++◌, map, filter, fold, Bool, false, ◌&&◌, ◌||◌, not, ◌==◌, nat_lt, Option, None, Some, is_some, if◌then◌else◌, count_by}
use Rattle.std.specs.List.{list_any}
use Rattle.rm_types.specs.declared.containers.Ask.{Ask}
use Rattle.rm_types.specs.declared.containers.AskOf.{AskOf}
use Rattle.rm_types.specs.declared.containers.Closing.{Closing}
use Rattle.rm_types.specs.declared.containers.ContainerState.TheVariants.{Acquired}
use Rattle.rm_types.specs.declared.containers.Grant.{Grant}
use Rattle.rm_types.specs.declared.ids.AttemptId.{AttemptId}
use Rattle.rm_types.specs.declared.ids.ContainerId.{ContainerId}
use Rattle.rm_types.specs.declared.messages.MasterAsk.{MasterAsk}
use Rattle.rm_types.specs.declared.messages.MasterAsk.TheVariants.{Register, Finish, Allocate}
use Rattle.rm_types.specs.declared.operations.Op.{Op}
use Rattle.rm_types.specs.declared.operations.Op.TheVariants.{AttemptEnd}
use Rattle.rm_types.specs.declared.replies.Reply.{Reply}
use Rattle.rm_types.specs.declared.replies.Reply.TheVariants.{MasterRegistered, Took, Already, Gone, Resync, WrongId, TooLarge, Full, Allocated, NotRegistered, Finishing, Finished}
use Rattle.rm_types.specs.declared.settings.Settings.{Settings}
use Rattle.rm_types.specs.Ids.{is_attempt}
use Rattle.rm_types.specs.Records.{is_some_and, is_finished}
use Rattle.rm_types.specs.Resources.{fits}
use Rattle.rm_model.specs.State.{Scene, LifeState, Masters, MasterState, Row}
use Rattle.rm_model.specs.Facts.{awaits, has_container, keeps, kept_end, kept_record}
use Rattle.rm_model.specs.Attempts.{attempt_end, has_registered, is_finishing, is_last, is_live, is_masters, is_registered, master_of}
use Rattle.rm_model.specs.Containers.{is_earlier, is_same_ask, missing_released, released_by}
use Rattle.rm_types.specs.Containers.{is_granted}

-- a row as its master is told
abbrev pub grant_of : Row → Grant
grant_of row = record { id = row.id; node = row.node; size = row.size }

-- what a master has from earlier attempts: their rows that are no master's, in the order of entering (YARN's containers from
-- previous attempts)
abbrev pub earlier_rows : Scene → AttemptId → List Row
earlier_rows m attempt = filter (λ row. is_earlier row.id.attempt attempt && not (is_masters m row.id)) m.life.book

-- what a registration is answered that isn't refused: where the application keeps, with what its master has from earlier attempts
abbrev pub registered_reply : Scene → AttemptId → Reply
registered_reply m attempt = if keeps (kept_record m attempt.app) then Took (map grant_of (earlier_rows m attempt)) else MasterRegistered

-- what a registration is answered: an attempt that isn't live is gone; the master of a live one registers once in a life
abbrev pub register_reply : Scene → AttemptId → Reply
register_reply m attempt =
    if not (is_live m attempt) then Gone else
    (if has_registered m attempt then Already else registered_reply m attempt)

-- a line of an attempt is the one that an ask speaks of: they agree in priority and size
abbrev pub is_line_of : AttemptId → Ask → AskOf → Bool
is_line_of attempt ask line = is_attempt line.attempt attempt && is_same_ask line.ask ask

-- the lines after an ask, which sets how many containers of its priority and size are outstanding (YARN's `ResourceRequest`): a
-- number of 0 takes its line away; another number stands in its line, which is a new last one where there was none
abbrev pub with_ask : AttemptId → List AskOf → Ask → List AskOf
with_ask attempt lines ask =
    if ask.count == 0 then filter (λ line. not (is_line_of attempt ask line)) lines else
    (if list_any (is_line_of attempt ask) lines then map (λ line. if is_line_of attempt ask line then record line { ask = ask } else line) lines
    else lines ++ record { attempt = attempt; ask = ask } ∷ [])

-- the lines after an attempt's asks, one after the other
abbrev pub with_asks : AttemptId → List AskOf → List Ask → List AskOf
with_asks attempt lines asks = fold (with_ask attempt) lines asks

-- an attempt would have more than 64 lines
abbrev pub has_too_many : AttemptId → List AskOf → Bool
has_too_many attempt lines = nat_lt 64 (count_by (λ line. is_attempt line.attempt attempt) lines)

-- a row was granted to an attempt, which is to be told of it: it is of the attempt, still Granted, and no master's
abbrev pub is_new_grant : Scene → AttemptId → Row → Bool
is_new_grant m attempt row = is_attempt row.id.attempt attempt && (is_granted row.state && not (is_masters m row.id))

-- a row came late to an attempt, which has it from an earlier one: where the application keeps, it is of an earlier attempt,
-- untold, and no master's
abbrev pub is_late : Scene → AttemptId → Row → Bool
is_late m attempt row = keeps (kept_record m attempt.app) && (is_earlier row.id.attempt attempt && (row.untold && not (is_masters m row.id)))

-- the rows that were granted to an attempt, in the order of entering
abbrev pub new_grants : Scene → AttemptId → List Row
new_grants m attempt = filter (is_new_grant m attempt) m.life.book

-- and those that came late to it
abbrev pub late_rows : Scene → AttemptId → List Row
late_rows m attempt = filter (is_late m attempt) m.life.book

-- what a master is to be told of, in the order of entering: the rows that were granted to its attempt and, where the cluster
-- recovers ended containers, those that came late to it (YARN's containers from previous attempts in an allocation's answer)
abbrev pub untold_rows : Settings → Scene → AttemptId → List Row
untold_rows settings m attempt = filter (λ row. (settings.recover_ended_containers && is_late m attempt row) || is_new_grant m attempt row) m.life.book

-- the endings that it was not told yet
abbrev pub outbox_of : Scene → AttemptId → List Closing
outbox_of m attempt = map (λ one. one.closing) (filter (λ one. is_attempt one.attempt attempt) m.life.endings.outbox)

-- what an allocation is answered that isn't refused: the next id, the containers granted and the endings, both since the
-- last reply
abbrev pub allocated_reply : Settings → Scene → AttemptId → ℕ → Reply
allocated_reply settings m attempt last_id = Allocated (last_id + 1) (map grant_of (untold_rows settings m attempt)) (outbox_of m attempt)

-- what an allocation of a registered master is answered, the first that holds: its id is one below the last, and it is answered
-- as before; its id isn't the last; it asks for more than the greatest size; its attempt would have too many lines; it is taken
abbrev pub allocation_reply : Settings → Scene → AttemptId → ℕ → List Ask → MasterState → Reply
allocation_reply settings m attempt id asks master =
    if id + 1 == master.last_id then master.last_reply else
    (if not (id == master.last_id) then WrongId else
    (if list_any (λ ask. not (fits ask.size settings.greatest)) asks then TooLarge else
    (if has_too_many attempt (with_asks attempt m.life.asks asks) then Full else allocated_reply settings m attempt master.last_id)))

-- what an allocation is answered, where the master registered in this life, and where it didn't
abbrev pub allocate_reply : Settings → Scene → AttemptId → ℕ → List Ask → Option MasterState → Reply
allocate_reply settings m attempt id asks None = Resync
allocate_reply settings m attempt id asks (Some master) =
    if is_registered m attempt then allocation_reply settings m attempt id asks master else Resync

-- the operation is the AttemptEnd of this attempt, FINISHED
abbrev pub is_finished_op : AttemptId → Op → Bool
is_finished_op id (AttemptEnd one how text) = is_attempt one id && is_finished how
is_finished_op id _ = false

-- the attempt's end is issued or kept as FINISHED
abbrev pub finished_issued : Scene → AttemptId → Bool
finished_issued m attempt = awaits m (is_finished_op attempt) || is_some_and (λ ending. is_finished ending.0) (attempt_end m attempt)

-- what a master that finishes is answered, the first that holds: its application has ended, with this attempt; it said so
-- before, or says so now; it isn't registered
abbrev pub finish_reply : Scene → AttemptId → Reply
finish_reply m attempt =
    if is_some (kept_end m attempt.app) && is_last m attempt then Finished else
    (if is_finishing m attempt || finished_issued m attempt || is_registered m attempt then Finishing else NotRegistered)

-- what the master of an attempt is answered
abbrev pub master_reply : Settings → Scene → AttemptId → MasterAsk → Reply
master_reply settings m attempt Register = register_reply m attempt
master_reply settings m attempt (Allocate id asks release) = allocate_reply settings m attempt id asks (master_of m attempt)
master_reply settings m attempt (Finish text) = finish_reply m attempt

-- the masters with one of them changed
abbrev pub with_master : (MasterState → MasterState) → AttemptId → Masters → Masters
with_master change attempt masters =
    record masters { registered = map (λ one. if is_attempt one.attempt attempt then change one else one) masters.registered }

-- a master that registered is one more, whose last id is 0
abbrev pub registers : Scene → AttemptId → Reply → LifeState
registers m attempt reply =
    record m.life {
      masters = record m.life.masters {
        registered = m.life.masters.registered ++ record { attempt = attempt; last_id = 0; last_reply = reply; finishing = None } ∷ [];
      };
    }

-- a row after a registration that told of these: Acquired where nobody was told of it before, and no more untold
abbrev pub row_kept : List ContainerId → Row → Row
row_kept told row =
    record row {
      state = if has_container told row.id && is_granted row.state then Acquired else row.state;
      untold = row.untold && not (has_container told row.id);
    }

-- a master that registered and has containers from earlier attempts
abbrev pub takes_over : Scene → AttemptId → List Grant → LifeState
takes_over m attempt kept =
    record (registers m attempt (Took kept)) { book = map (row_kept (map (λ one. one.id) kept)) m.life.book }

-- a row after an allocation: Acquired where it was granted to the attempt, no more untold where it came late to it, and marked
-- where it is released
abbrev pub row_allocated : List ContainerId → List ContainerId → List ContainerId → Row → Row
row_allocated granted late released row =
    record row {
      state = if has_container granted row.id then Acquired else row.state;
      released = row.released || has_container released row.id;
      untold = row.untold && not (has_container late row.id);
    }

-- an allocation that is new: its asks are set; what was granted to the attempt is Acquired, what came late to it is told, and what
-- it released and can end is marked; its outbox is empty, and its release is served, of which the missing ones are pending; the
-- reply is its last one
abbrev pub allocates : Scene → AttemptId → List Ask → List ContainerId → Reply → LifeState
allocates m attempt asks release reply =
    record m.life {
      masters = with_master (λ one. record one { last_id = one.last_id + 1; last_reply = reply }) attempt m.life.masters;
      asks = with_asks attempt m.life.asks asks;
      book =
          map
          (row_allocated (map (λ row. row.id) (new_grants m attempt)) (map (λ row. row.id) (late_rows m attempt))
          (released_by m (record { attempt = attempt; list = release })))
          m.life.book;
      endings = record m.life.endings {
        outbox = filter (λ one. not (is_attempt one.attempt attempt)) m.life.endings.outbox;
        releases = m.life.endings.releases ++ record { attempt = attempt; list = release } ∷ [];
        pending = m.life.endings.pending ++ missing_released m (record { attempt = attempt; list = release });
      };
    }

-- the id is the last one that the master was answered, so that the message is new
abbrev pub is_new_to_master : Scene → AttemptId → ℕ → Bool
is_new_to_master m attempt id = is_some_and (λ master. id == master.last_id) (master_of m attempt)

-- the life after a master was answered: it registered; an allocation that isn't refused or repeated is served; a registered
-- one that finishes leaves its text
abbrev pub life_after_master : Scene → AttemptId → MasterAsk → Reply → LifeState
life_after_master m attempt Register MasterRegistered = registers m attempt MasterRegistered
life_after_master m attempt Register (Took kept) = takes_over m attempt kept
life_after_master m attempt (Allocate id asks release) (Allocated next grants ended) =
    if is_new_to_master m attempt id then allocates m attempt asks release (Allocated next grants ended) else m.life
life_after_master m attempt (Finish text) Finishing =
    if is_registered m attempt then record m.life { masters = with_master (λ one. record one { finishing = Some text }) attempt m.life.masters } else m.life
life_after_master m attempt _ _ = m.life
