-- What a client is answered, and how that changes the life. The four requests are those of YARN's ApplicationClientProtocol
-- (a new application, a submission, a report, a forced kill); the rights are after the page on the Capacity Scheduler's queue
-- ACLs; the refusals and their order are this project's own.
use Rattle.std.specs.Prelude.{ℕ, ◌+◌, List, [], ◌∷◌, ◌++◌, Bool, ◌&&◌, ◌||◌, not, ◌==◌, nat_le, nat_lt, Option, None, Some, is_some, is_none, if◌then◌else◌, length, count_by}
use Rattle.rm_types.specs.declared.ids.AppId.{AppId}
use Rattle.rm_types.specs.declared.messages.ClientAsk.{ClientAsk}
use Rattle.rm_types.specs.declared.messages.ClientAsk.TheVariants.{New as AskNew, Submit as AskSubmit, Report as AskReport, Kill as AskKill}
use Rattle.rm_types.specs.declared.operations.How.{How}
use Rattle.rm_types.specs.declared.operations.How.TheVariants as ways
use Rattle.rm_types.specs.declared.operations.Submission.{Submission}
use Rattle.rm_types.specs.declared.replies.AclOp.TheVariants.{Submit as ToSubmit, Kill as ToKill}
use Rattle.rm_types.specs.declared.replies.Reply.{Reply}
use Rattle.rm_types.specs.declared.replies.Reply.TheVariants.{New as Gives, Submitted as Taken, BadId, Retired, NoQueue, Denied, TooLarge, Full, Unknown, Report as Tells, Killing, AppEnded}
use Rattle.rm_types.specs.declared.replies.StateWord.{StateWord}
use Rattle.rm_types.specs.declared.replies.StateWord.TheVariants as states
use Rattle.rm_types.specs.declared.settings.Settings.{Settings}
use Rattle.rm_types.specs.Ids.{is_app}
use Rattle.rm_types.specs.Lists.{is_nil}
use Rattle.rm_types.specs.Records.{last_attempt, is_some_and}
use Rattle.rm_types.specs.Resources.{fits}
use Rattle.rm_types.specs.Rights.{denial, is_leaf, may_kill, may_submit}
use Rattle.rm_model.specs.State.{Scene, LifeState}
use Rattle.rm_model.specs.Facts.{awaits, has_app, is_accepted, is_app_op, is_kept, is_known, kept_attempts, kept_end, submission_of}
use Rattle.rm_model.specs.Attempts.{has_failed, has_registered}

-- the id that a new application gets: the stamp of the life, and one more than the ids that it gave (YARN's `ApplicationId`)
abbrev pub next_app : Scene → AppId
next_app m = record { stamp = m.life.stamp; number = m.life.given + 1 }

-- an id that this life or one before it may have given
abbrev pub is_given : Scene → AppId → Bool
is_given m id = nat_lt id.stamp m.life.stamp || ((id.stamp == m.life.stamp) && nat_le id.number m.life.given)

-- how many known applications have no kept end, by which FULL is decided: those submitted and not kept, and those kept without an end
-- (YARN's bound on these is `maximum-applications` of its capacity scheduler)
abbrev pub going : Scene → ℕ
going m = length m.life.apps.submitted + count_by (λ app. is_none app.ending) m.records.apps

-- what a submission is answered, the first that holds: its id wasn't given; its application was removed in this life; it is
-- known, and nothing changes; its queue isn't there or has queues below it; its user has no right there; its master's container
-- is larger than the greatest; as many applications go on as may; it is taken
abbrev pub submit_reply : Settings → Scene → AppId → Submission → Reply
submit_reply settings m id submission =
    if not (is_given m id) then BadId else
    (if has_app m.life.apps.retired id then Retired else
    (if is_known m id then Taken else
    (if not (is_leaf settings.queues submission.queue) then NoQueue else
    (if not (may_submit settings submission.user submission.queue) then Denied (denial ToSubmit settings.queues submission.queue) else
    (if not (fits submission.master settings.greatest) then TooLarge else
    (if nat_le settings.max_apps (going m) then Full else Taken))))))

-- the word of a kept end
abbrev pub end_word : How → StateWord
end_word ways.Finished = states.Finished
end_word ways.Failed = states.Failed
end_word ways.Killed = states.Killed

-- an application runs where its last kept attempt registered in this life and has no kept end FAILED
abbrev pub is_running : Scene → AppId → Bool
is_running m id = is_some_and (λ attempt. has_registered m attempt.id && not (has_failed attempt)) (last_attempt (kept_attempts m id))

-- the state of an application without a kept end, the first that holds: it runs; it was accepted or has a kept attempt; its
-- App is kept; its App awaits. The words are those of YARN's `YarnApplicationState`
abbrev pub going_word : Scene → AppId → StateWord
going_word m id =
    if is_running m id then states.Running else
    (if is_accepted m id || not (is_nil (kept_attempts m id)) then states.Accepted else
    (if is_kept m id then states.Submitted else
    (if awaits m (is_app_op id) then states.NewSaving else states.New)))

-- the state of an application in a report: that of its kept end, if it has one. So no end is told before it is kept
abbrev pub state_word : Scene → AppId → Option (How × List ℕ) → StateWord
state_word m id None = going_word m id
state_word m id (Some ending) = end_word ending.0

-- the text of a kept end, else no text
abbrev pub end_text : Option (How × List ℕ) → List ℕ
end_text None = []
end_text (Some ending) = ending.1

-- how many containers of an application live
abbrev pub live_of : Scene → AppId → ℕ
live_of m id = count_by (λ row. is_app row.id.attempt.app id) m.life.book

-- what a client is told of an application that is known by this submission, and of one that isn't known
abbrev pub report_of : Scene → AppId → Option Submission → Reply
report_of m id None = Unknown
report_of m id (Some submission) =
    Tells (record {
      state = state_word m id (kept_end m id);
      user = submission.user;
      queue = submission.queue;
      name = submission.name;
      attempts = length (kept_attempts m id);
      live = live_of m id;
      text = end_text (kept_end m id);
    })

-- what a kill is answered of an application that is known by this submission, and of one that isn't known: the user has no
-- right to kill it; its end is kept; else it is wished for
abbrev pub kill_reply : Settings → Scene → List ℕ → AppId → Option Submission → Reply
kill_reply settings m user id None = Unknown
kill_reply settings m user id (Some submission) =
    if not (may_kill settings user submission) then Denied (denial ToKill settings.queues submission.queue) else
    (if is_some (kept_end m id) then AppEnded else Killing)

-- what a client is answered
abbrev pub client_reply : Settings → Scene → List ℕ → ClientAsk → Reply
client_reply settings m user AskNew = Gives (next_app m)
client_reply settings m user (AskSubmit id submission) = submit_reply settings m id submission
client_reply settings m user (AskReport id) = report_of m id (submission_of m id)
client_reply settings m user (AskKill id) = kill_reply settings m user id (submission_of m id)

-- a submission that is taken joins the submitted ones, where its application isn't known
abbrev pub joins : Scene → AppId → Submission → LifeState
joins m id submission =
    if is_known m id then m.life
    else record m.life { apps = record m.life.apps { submitted = m.life.apps.submitted ++ record { id = id; submission = submission } ∷ [] } }

-- the life after a client was answered: a new id counts as given, a submission that is taken joins, and a kill that isn't
-- refused is wished for
abbrev pub life_after_client : Scene → ClientAsk → Reply → LifeState
life_after_client m AskNew (Gives id) = record m.life { given = id.number }
life_after_client m (AskSubmit id submission) Taken = joins m id submission
life_after_client m (AskKill id) Killing = record m.life { apps = record m.life.apps { wishes = m.life.apps.wishes ++ id ∷ [] } }
life_after_client m _ _ = m.life
