-- The current attempt of an application is the last recorded one, or the next one, with whose master nobody spoke: each message and each kept
-- operation keeps it, and a life opens so.
use Rattle.rm_invariant.proofs.Common.{◌&&◌, ◌≡◌, ℕ, ◌+◌, ◌≤◌, ◌⊎◌, drop, inl, inr, List, [], ◌∷◌, ◌++◌, Bool, true, false, Option, None, Some, map, length, refl, sym, ◌∙◌, ap, subst, arith, false≢true, AppId, AttemptId, ContainerId, How, Op, Submission, AppRecord, AttemptRecord, Reply, Settings, is_app, last_attempt, new_record, record_of, with_end, app_itself, attempts_in, is_epoch_op, AppState, AttemptState, is_alive, lives_by, is_live, master_reply, AppRow, Current, Dialogue, Tables, after_failure, changed, kept, recovered_attempt, recovered_row, recovered_rows, row_of, dialogue_begun, registered_row, said_row, told_row, with_answer, with_text, without_closings, submitted_row, registered, History, abstract_scene, Message, Entry}
use Rattle.std.proofs.Common.{◌==◌, option_map}
use Rattle.rm_types.specs.declared.entries.Entry.TheVariants.{Kept}
use Rattle.rm_types.specs.declared.messages.Message.TheVariants as messages
use Rattle.rm_types.specs.declared.operations.How.TheVariants as ways
use Rattle.rm_types.specs.declared.operations.Op.TheVariants as ops
use Rattle.rm_types.proofs.TestLemmas.{number_itself}
use Rattle.rm_states.specs.declared.app.states.AppState.TheVariants as apps
use Rattle.rm_states.specs.declared.attempt.states.AttemptEvent.TheVariants as attempt_events
use Rattle.rm_states.specs.attempt.Table.{next_attempt_state as next_attempt_state}
use Rattle.rm_invariant.proofs.masters.Saying.{goes_on as attempt_goes_on}
use Rattle.rm_tables.specs.declared.changes.AttemptChange.TheVariants as of_attempt
use Rattle.rm_tables.specs.declared.changes.RowChange.TheVariants as of_app
use Rattle.rm_invariant.specs.apps.Invariant.{RowInvariant, is_active}
use Rattle.rm_invariant.specs.Step.{AppsInvariant}
use Rattle.rm_invariant.specs.apps.View.{View, changed_if, gone_if, op_view, put_if, view}
use Rattle.rm_invariant.proofs.apps.Effects.{op_taken}
use Rattle.rm_invariant.proofs.apps.Found.{found_gone, record_put}
use Rattle.rm_invariant.proofs.opening.Apps.{recovered_found}
use Rattle.rm_invariant.proofs.apps.KeptEnds.{end_awaits, with_end_op}
use Rattle.rm_invariant.proofs.apps.Recorded.{record_changed}
use Rattle.rm_invariant.proofs.apps.Removing.{row_gone}
use Rattle.rm_invariant.specs.masters.Sound.{RecordsAreSound}
use Rattle.rm_invariant.proofs.masters.AwaitingAttempts.{attempt_awaits, with_attempt_op}
use Rattle.rm_invariant.proofs.masters.Sounding.{numbered_last}
use Rattle.rm_invariant.specs.Core.{PreservesCore}
use Rattle.rm_invariant.specs.messages.Fits.{FitsCurrent, EachRowFits}
use Rattle.rm_invariant.proofs.messages.Fitting.{is_recorded, RowGoes, SameCurrent, change_same, goes_with, rows_fit, same_current}
use Rattle.rm_invariant.specs.messages.Outcomes.{registers_master, MessageOutcome, after_message}
use Rattle.rm_invariant.specs.messages.Outcomes as comes
use Rattle.rm_invariant.proofs.messages.Outcomes.{message_outcome, registers_live}

-- MESSAGES

-- a row that is put behind the others is found, or another one is as before
pub put_found : (id : AppId) (row : AppRow) (rows : List (AppId × Option AppRow)) (q : AppId) (now : AppRow) → row_of (rows ++ (id, Some row) ∷ []) q ≡ Some now → (row_of rows q ≡ Some now) ⊎ (row ≡ now)
put_found id row [] q now found = by (is_app q id) refl
  where
    by : (b : Bool) → is_app q id ≡ b → (row_of [] q ≡ Some now) ⊎ (row ≡ now)
    by true e = let x : Some row ≡ Some now = rw e at found in inr (let y : row ≡ now = cc in y)
    by false e = let x : None ≡ Some now = rw e at found in cc
put_found id row (one ∷ rows) q now found = by (is_app q one.0) refl (put_found id row rows q now)
  where
    by : (b : Bool) → is_app q one.0 ≡ b → (row_of (rows ++ (id, Some row) ∷ []) q ≡ Some now → (row_of rows q ≡ Some now) ⊎ (row ≡ now)) → (row_of (one ∷ rows) q ≡ Some now) ⊎ (row ≡ now)
    by true e rest = inl (rw e (rw e at found))
    by false e rest = rw e (rest (rw e at found))

-- of an attempt that lives, and whose master registers
alive_with : (s : AttemptState) (b : Bool) → (b && is_alive s) ≡ true → is_alive s ≡ true
alive_with s true e = e
alive_with s false e = cc

alive_goes : (s : AttemptState) → is_alive s ≡ true → attempt_goes_on (next_attempt_state s attempt_events.Register) ≡ true
alive_goes s e = grind arith

alive_recorded : (s : AttemptState) → is_alive s ≡ true → is_recorded (next_attempt_state s attempt_events.Register) ≡ true
alive_recorded s e = grind arith

module _ (settings : Settings) (h : History) (t : Tables) (fit : EachRowFits t) where
  -- a step that goes to these tables, whose rows go so
  abbrev RowMoves : Tables → Type 0
  RowMoves next = (q : AppId) (now : AppRow) → row_of next.rows q ≡ Some now → RowGoes t next q now

  -- tables with the same rows and records
  still : (next : Tables) → next.rows ≡ t.rows → next.tree ≡ t.tree → RowMoves next
  still next rows tree q now found = inr (inr (now, ap (λ (l : List (AppId × Option AppRow)). row_of l q) (sym rows) ∙ found, same_current now, rw tree refl))

  -- of a master: it registers only where its attempt is recorded
  none_spoken : (f : Dialogue → Dialogue) (d : Option Dialogue) → d ≡ None → option_map f d ≡ None
  none_spoken f None e = refl
  none_spoken f (Some one) e = cc

  registered_goes : (attempt : AttemptId) (reply : Reply) (row : AppRow) → lives_by attempt (Some row) ≡ true → RowGoes t (registered attempt reply t) attempt.app (registered_row (dialogue_begun reply t.book.added) row)
  registered_goes attempt reply row lives = by row.current refl
    where
      by : (c : Option Current) → row.current ≡ c → RowGoes t (registered attempt reply t) attempt.app (registered_row (dialogue_begun reply t.book.added) row)
      by None is = inl (rw is refl)
      by (Some current) is =
          let alive : is_alive current.state ≡ true = alive_with current.state (current.number == attempt.number) (rw is at lives) in
          inr (inl (inr (rw is (alive_goes current.state alive)), inr (rw is (alive_recorded current.state alive))))

  said_same : (text : List ℕ) (row : AppRow) → SameCurrent row (said_row (with_text text) row)
  said_same text row = record { number = (change_same (of_app.OfAttempt of_attempt.Finish) row refl).number; silent = none_spoken (λ one. record one { finishing = Some text }) row.dialogue }

  told_same : (attempt : AttemptId) (id : ℕ) (reply : Reply) (told : ℕ) (row : AppRow) → SameCurrent row (told_row (with_answer id reply told) (without_closings attempt) row)
  told_same attempt id reply told row = record { number = refl; silent = none_spoken (λ one. record one { last_id = id; last_reply = reply; told = told }) row.dialogue }

  -- a master is told that it registered only where its attempt lives
  abbrev AnswersSo : Message → Reply → Type 0
  AnswersSo (messages.Master attempt ask) reply = reply ≡ master_reply settings (abstract_scene h t) attempt ask
  AnswersSo _ reply = Unit {0}

  message_goes : ((attempt : AttemptId) → is_live (abstract_scene h t) attempt ≡ lives_by attempt (row_of t.rows attempt.app)) → (message : Message) (reply : Reply) (next : Tables) → AnswersSo message reply → MessageOutcome t message reply next → RowMoves next
  message_goes live message reply next is (comes.idles one other) = still t refl refl
  message_goes live message reply next is (comes.joins user id submission found) = λ q now there. by q now (put_found id (submitted_row submission) t.rows q now there)
    where
      by : (q : AppId) (now : AppRow) → (row_of t.rows q ≡ Some now) ⊎ (submitted_row submission ≡ now) → RowGoes t next q now
      by q now (inl there) = inr (inr (now, there, same_current now, refl))
      by q now (inr new) = inl (ap (λ (row : AppRow). row.current) (sym new))
  message_goes live message reply next is (comes.wishes user id row found new) = goes_with t next id (changed of_app.Wish) refl (λ q apart. refl) (λ row there. inr (inr (row, there, change_same of_app.Wish row refl, refl)))
  message_goes live message reply next is (comes.registers attempt answer so) =
      goes_with t next attempt.app (registered_row (dialogue_begun answer t.book.added)) refl (λ q apart. refl)
      (λ row there. registered_goes attempt answer row (ap (lives_by attempt) (sym there) ∙ sym (live attempt) ∙ registers_live (abstract_scene h t) attempt answer so is))
  message_goes live message reply next is (comes.finishes attempt text goes) = goes_with t next attempt.app (said_row (with_text text)) refl (λ q apart. refl) (λ row there. inr (inr (row, there, said_same text row, refl)))
  message_goes live message reply next is (comes.allocates attempt id asks release answer so new) =
      goes_with t next attempt.app (told_row (with_answer (id + 1) answer t.book.added) (without_closings attempt)) refl (λ q apart. refl)
      (λ row there. inr (inr (row, there, told_same attempt (id + 1) answer t.book.added row, refl)))
  message_goes live message reply next is _ = still next refl refl

  pub message_fits : ((attempt : AttemptId) → is_live (abstract_scene h t) attempt ≡ lives_by attempt (row_of t.rows attempt.app)) → (message : Message) (reply : Reply) → AnswersSo message reply → (entry : Entry)
      → (s : PreservesCore settings h t (entry, after_message message reply t)) → EachRowFits (after_message message reply t)
  message_fits live message reply is entry s = rows_fit settings s.next t (after_message message reply t) s.whole.keeps fit (message_goes live message reply (after_message message reply t) is (message_outcome t message reply))

-- KEPT OPERATIONS

-- what awaits is of the operation alone
active_still : (how : How) (s : AppState) → is_active s ≡ true → is_active (after_failure how s) ≡ true
active_still how apps.New e = cc
active_still how apps.NewSaving e = cc
active_still how apps.Submitted e = cc
active_still ways.Finished apps.Accepted e = refl
active_still ways.Failed apps.Accepted e = refl
active_still ways.Killed apps.Accepted e = refl
active_still ways.Finished apps.Running e = refl
active_still ways.Failed apps.Running e = refl
active_still ways.Killed apps.Running e = refl
active_still ways.Finished apps.Killing e = refl
active_still ways.Failed apps.Killing e = refl
active_still ways.Killed apps.Killing e = refl
active_still how apps.FinalSaving e = cc
active_still how apps.Finished e = cc
active_still how apps.Failed e = cc
active_still how apps.Killed e = cc

-- an application whose record changes or is put has as many attempts, if those stay
put_attempts : (b : Bool) (id : AppId) (s : Submission) (o : Option AppRecord) → attempts_in (put_if b (new_record id s) o) ≡ attempts_in o
put_attempts true id s None = refl
put_attempts true id s (Some one) = refl
put_attempts false id s o = refl

ended_attempts : (b : Bool) (how : How) (text : List ℕ) (order : ℕ) (o : Option AppRecord) → attempts_in (changed_if b (λ (one : AppRecord). record one { ending = Some (how, text); end_order = order }) o) ≡ attempts_in o
ended_attempts true how text order None = refl
ended_attempts true how text order (Some one) = refl
ended_attempts false how text order o = refl

module _ (settings : Settings) (h : History) (t : Tables) (k : AppsInvariant settings h t) (fit : EachRowFits t) where
  abbrev Going : Tables → Type 0
  Going next = (q : AppId) (now : AppRow) → row_of next.rows q ≡ Some now → RowGoes t next q now

  -- an App
  app_goes : (id : AppId) (s : Submission) → Going (kept (ops.App id s) t)
  app_goes id s =
      goes_with t (kept (ops.App id s) t) id (changed of_app.Keep) refl (λ q apart. attempts q)
      (λ row there. inr (inr (row, there, change_same of_app.Keep row refl, attempts id)))
    where
      attempts : (q : AppId) → attempts_in (record_of (kept (ops.App id s) t).tree.apps q) ≡ attempts_in (record_of t.tree.apps q)
      attempts q = ap attempts_in (record_put (new_record id s) q t.tree.apps) ∙ put_attempts (is_app id q) id s (record_of t.tree.apps q)

  -- an Attempt
  attempt_goes : (id : AttemptId) (master : ContainerId) (node : List ℕ) (rest : List Op) → t.awaiting ≡ ops.Attempt id master node ∷ rest → Going (kept (ops.Attempt id master node) t)
  attempt_goes id master node rest front = goes_with t next id.app (changed (of_app.OfAttempt of_attempt.Keep)) refl others own
    where
      op : Op
      op = ops.Attempt id master node

      next : Tables
      next = kept (ops.Attempt id master node) t

      left : Tables
      left = record t { awaiting = drop 1 t.awaiting }

      others : (q : AppId) → is_app id.app q ≡ false → attempts_in (record_of next.tree.apps q) ≡ attempts_in (record_of t.tree.apps q)
      others q apart =
          ap attempts_in
          (record_changed (λ app. record app { attempts = app.attempts ++ record { id = id; master = master; node = node; ending = None } ∷ [] }) (λ app. refl) id.app q t.tree.apps
          ∙ ap (λ (b : Bool). changed_if b (λ (app : AppRecord). record app { attempts = app.attempts ++ record { id = id; master = master; node = node; ending = None } ∷ [] }) (record_of t.tree.apps q)) apart)

      own : (row : AppRow) → row_of t.rows id.app ≡ Some row → RowGoes t next id.app (changed (of_app.OfAttempt of_attempt.Keep) row)
      own row there =
          let with_self : op_view id op (view h left id) ≡ with_attempt_op id (view h left id) = rw (app_itself id.app, number_itself id.number) refl in
          let awaits =
          attempt_awaits settings id (view h left id) (row_of t.rows id.app) (subst (λ (v : View). RowInvariant settings id (row_of t.rows id.app) v) (op_taken h t id op rest front ∙ with_self) (k.all id)) in
          let same : awaits.one ≡ row = let x : Some awaits.one ≡ Some row = sym awaits.is ∙ there in cc in
          let active : is_active row.state ≡ true = ap (λ (one : AppRow). is_active one.state) (sym same) ∙ awaits.active in
          let is : row.current ≡ Some awaits.current = ap (λ (one : AppRow). one.current) (sym same) ∙ awaits.current_is in
          inr (inl (inl active, inr (let saving = awaits.state in rw (is, saving) refl)))

  -- the end of an attempt
  end_goes : (id : AttemptId) (how : How) (text : List ℕ) (rest : List Op) → t.awaiting ≡ ops.AttemptEnd id how text ∷ rest → Going (kept (ops.AttemptEnd id how text) t)
  end_goes id how text rest front = goes_with t next id.app (changed (of_app.OfAttempt (of_attempt.KeepEnd how))) refl others own
    where
      op : Op
      op = ops.AttemptEnd id how text

      next : Tables
      next = kept (ops.AttemptEnd id how text) t

      left : Tables
      left = record t { awaiting = drop 1 t.awaiting }

      others : (q : AppId) → is_app id.app q ≡ false → attempts_in (record_of next.tree.apps q) ≡ attempts_in (record_of t.tree.apps q)
      others q apart =
          ap attempts_in
          (record_changed (λ app. record app { attempts = map (with_end id how text) app.attempts }) (λ app. refl) id.app q t.tree.apps
          ∙ ap (λ (b : Bool). changed_if b (λ (app : AppRecord). record app { attempts = map (with_end id how text) app.attempts }) (record_of t.tree.apps q)) apart)

      own : (row : AppRow) → row_of t.rows id.app ≡ Some row → RowGoes t next id.app (changed (of_app.OfAttempt (of_attempt.KeepEnd how)) row)
      own row there =
          let with_self : op_view id op (view h left id) ≡ with_end_op id (view h left id) = rw (app_itself id.app, number_itself id.number) refl in
          let awaits = end_awaits settings id (view h left id) (row_of t.rows id.app) (subst (λ (v : View). RowInvariant settings id (row_of t.rows id.app) v) (op_taken h t id op rest front ∙ with_self) (k.all id)) in
          let same : awaits.one ≡ row = let x : Some awaits.one ≡ Some row = sym awaits.is ∙ there in cc in
          let active : is_active row.state ≡ true = ap (λ (one : AppRow). is_active one.state) (sym same) ∙ awaits.active in
          let is : row.current ≡ Some awaits.current = ap (λ (one : AppRow). one.current) (sym same) ∙ awaits.current_is in
          inr (inl (inl (active_still how row.state active), inr (let ending = awaits.state in rw (is, ending) refl)))

  -- the end of an application
  over_goes : (id : AppId) (how : How) (text : List ℕ) → Going (kept (ops.AppEnd id how text) t)
  over_goes id how text =
      goes_with t (kept (ops.AppEnd id how text) t) id (changed (of_app.KeepEnd how)) refl (λ q apart. attempts q)
      (λ row there. inr (inr (row, there, change_same (of_app.KeepEnd how) row refl, attempts id)))
    where
      attempts : (q : AppId) → attempts_in (record_of (kept (ops.AppEnd id how text) t).tree.apps q) ≡ attempts_in (record_of t.tree.apps q)
      attempts q =
          ap attempts_in (record_changed (λ app. record app { ending = Some (how, text); end_order = t.tree.applied }) (λ app. refl) id q t.tree.apps)
          ∙ ended_attempts (is_app id q) how text t.tree.applied (record_of t.tree.apps q)

  -- a Remove
  remove_goes : (id : AppId) → Going (kept (ops.Remove id) t)
  remove_goes id q now found = by (is_app id q) refl (sym (row_gone id q t.rows) ∙ found)
    where
      by : (b : Bool) → is_app id q ≡ b → gone_if b (row_of t.rows q) ≡ Some now → RowGoes t (kept (ops.Remove id) t) q now
      by true e gone = cc
      by false e there =
          inr (inr (now, there, same_current now, ap attempts_in (found_gone (λ (app : AppRecord). app.id) id q t.tree.apps ∙ ap (λ (b : Bool). gone_if b (record_of t.tree.apps q)) e)))

  op_goes : (op : Op) (rest : List Op) → t.awaiting ≡ op ∷ rest → is_epoch_op op ≡ false → Going (kept op t)
  op_goes (ops.Epoch next stamp) rest front e = absurd (false≢true (sym e))
  op_goes (ops.App id s) rest front e = app_goes id s
  op_goes (ops.Attempt id master node) rest front e = attempt_goes id master node rest front
  op_goes (ops.AttemptEnd id how text) rest front e = end_goes id how text rest front
  op_goes (ops.AppEnd id how text) rest front e = over_goes id how text
  op_goes (ops.Remove id) rest front e = remove_goes id

  pub kept_fits : (op : Op) (rest : List Op) → t.awaiting ≡ op ∷ rest → is_epoch_op op ≡ false → (s : PreservesCore settings h t (Kept op, kept op t)) → EachRowFits (kept op t)
  kept_fits op rest front not_epoch s = rows_fit settings s.next t (kept op t) s.whole.keeps fit (op_goes op rest front not_epoch)

-- A LIFE OPENS

-- over rows that were recovered, each of whose attempts is the last recorded one
pub opened_fits : (t : Tables) → RecordsAreSound t.tree.apps → t.rows ≡ recovered_rows t.tree.apps → EachRowFits t
opened_fits t sound is id row found = by (record_of t.tree.apps id) refl (sym (recovered_found t.tree.apps id) ∙ ap (λ (rows : List (AppId × Option AppRow)). row_of rows id) (sym is) ∙ found)
  where
    some_length : (attempts : List AttemptRecord) (last : AttemptRecord) → last_attempt attempts ≡ Some last → 1 ≤ length attempts
    some_length [] last e = cc
    some_length (one ∷ more) last e = omega arith

    latest : (app : AppRecord) → record_of t.tree.apps id ≡ Some app → (o : Option AttemptRecord) → last_attempt app.attempts ≡ o → FitsCurrent (Some app) None (option_map recovered_attempt o)
    latest app there None e = tt
    latest app there (Some last) e =
        let number : last.id ≡ record { app = id; number = 0 + length app.attempts } = numbered_last id 0 app.attempts last (sound id app there).numbered e in
        let n : last.id.number ≡ 0 + length app.attempts = ap (λ (a : AttemptId). a.number) number in
        let some = some_length app.attempts last e in
        inl (omega (arith, n, some), omega (arith, n))

    by : (o : Option AppRecord) → record_of t.tree.apps id ≡ o → option_map recovered_row o ≡ Some row → FitsCurrent (record_of t.tree.apps id) row.dialogue row.current
    by None there e = cc
    by (Some app) there e =
        let same : recovered_row app ≡ row = cc in
        rw there (subst (λ (r : AppRow). FitsCurrent (Some app) r.dialogue r.current) same (latest app there (last_attempt app.attempts) refl))
