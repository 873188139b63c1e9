-- A client is answered, as whole steps that keep all that holds of an open life: it is given an id, it submits, it is told, it wishes to kill.
use Rattle.rm_invariant.proofs.Common.{◌≡◌, ℕ, ◌+◌, List, [], ◌∷◌, ◌++◌, Bool, true, false, not, Option, None, Some, refl, sym, ◌∙◌, subst, if◌then◌else◌, Served, AppId, AttemptId, ClientAsk, Submission, Reply, Settings, is_app, same_app, client_reply, has_app, life_after, AppRow, Tables, changed, row_of, with_row, after_client, taken_by, wished_by, ClosingsAgree, RowAgrees, History, abstract_life, abstract_scene}
use Rattle.rm_types.specs.declared.messages.ClientAsk.TheVariants as asks
use Rattle.rm_types.specs.declared.messages.Message.TheVariants as messages
use Rattle.rm_types.specs.declared.messages.Sender.TheVariants as senders
use Rattle.rm_types.specs.declared.replies.Reply.TheVariants as replies
use Rattle.rm_model.specs.ClientReplies.{is_given, kill_reply, next_app}
use Rattle.rm_model.specs.Facts.{submission_of}
use Rattle.rm_tables.specs.declared.changes.RowChange.TheVariants as of_app
use Rattle.rm_tables.specs.declared.events.MainEvent.TheVariants as mains
use Rattle.rm_client.specs.Answers.{with_submission}
use Rattle.rm_invariant.specs.Step.{AppsInvariant}
use Rattle.rm_invariant.specs.apps.View.{put_if, view}
use Rattle.rm_invariant.proofs.apps.Found.{row_changed, row_put}
use Rattle.rm_invariant.proofs.apps.Saving.{joined_says, row_new, submitting}
use Rattle.rm_invariant.proofs.apps.Wishing.{again_says, wished_says, wishing}
use Rattle.rm_invariant.proofs.masters.KeptApps.{joined_marks, wished_marks}
use Rattle.rm_invariant.proofs.masters.Stepping.{marks_stay}
use Rattle.rm_invariant.specs.events.Refines.{Refines}
use Rattle.rm_invariant.specs.Core.{CoreInvariant, PreservesCore}
use Rattle.rm_invariant.proofs.events.Changes.{kept_agrees}
use Rattle.rm_invariant.specs.messages.Clients.{RetiredSame}
use Rattle.rm_invariant.proofs.messages.Answered.{given_whole, served_whole, still_whole}
use Rattle.rm_invariant.proofs.messages.Known.{is_known_here, is_new}

module _ (settings : Settings) (h : History) (t : Tables) (w : CoreInvariant settings h t) (retired : RetiredSame h t) (user : List ℕ) where
  -- what a client's message comes to
  abbrev Comes : ClientAsk → Reply → Tables → Type 0
  Comes ask reply next = PreservesCore settings h t (Served senders.Client (messages.Client user ask) reply, next)

  -- the answer leaves the applications as they were
  quiet : (ask : ClientAsk) (reply : Reply) → reply ≡ client_reply settings (abstract_scene h t) user ask → life_after (abstract_scene h t) (messages.Client user ask) reply ≡ abstract_life h t → Comes ask reply t
  quiet ask reply is life = still_whole settings h t w (messages.Client user ask) reply is life

  -- an id is given
  gives : (reply : Reply) → reply ≡ client_reply settings (abstract_scene h t) user asks.New → Comes asks.New reply (after_client asks.New reply t)
  gives reply is =
      subst (λ (one : Reply). Comes asks.New one (after_client asks.New one t)) (sym is)
      (given_whole settings h t w (messages.Client user asks.New) (replies.New (next_app (abstract_scene h t))) refl (t.given + 1) refl)

  -- A SUBMISSION JOINS

  module _ (id : AppId) (s : Submission) (found : row_of t.rows id ≡ None) (unretired : has_app h.apps.retired id ≡ false) where
    abbrev with_it : History
    with_it = submitting settings h t w.keeps.all id s

    abbrev joined_now : Tables
    joined_now = with_submission id s t

    fresh : (q : AttemptId) → is_app id q.app ≡ true → (view h t q).retired ≡ false
    fresh q same = let here : id ≡ q.app = same_app id q.app same in rw (← here) unretired

    not_here : (q : AppId) → is_app id q ≡ true → (row_of t.rows q ≡ None) × (has_app h.apps.retired q ≡ false)
    not_here q same = let here : id ≡ q = same_app id q same in (rw (← here) found, rw (← here) unretired)

    rows_now : (q : AppId) → row_of joined_now.rows q ≡ put_if (is_app id q) (row_new s) (row_of t.rows q)
    rows_now q = row_put id q (row_new s) t.rows (retired id ∙ unretired)

    joined_keeps : AppsInvariant settings with_it joined_now
    joined_keeps = record { is_open = w.keeps.is_open; recorded = w.keeps.recorded; all = joined_says settings h t w.keeps.all id s found (retired id ∙ unretired) fresh }

    joined_agrees : Refines (abstract_life with_it joined_now) joined_now
    joined_agrees =
        record {
          rows = w.agrees.rows;
          nodes = w.agrees.nodes;
          asks = w.agrees.asks;
          closings = λ q. rw (rows_now q) (closing q (is_app id q) refl);
          masters = λ q. rw (rows_now q.app) (master q (is_app id q.app) refl);
        }
      where
        closing : (q : AppId) (b : Bool) → is_app id q ≡ b → ClosingsAgree h.endings.outbox q (has_app h.apps.retired q) (put_if b (row_new s) (row_of t.rows q))
        closing q true e =
            let none = not_here q e in
            let none_row = none.0 in
            let old : ClosingsAgree h.endings.outbox q (has_app h.apps.retired q) None = rw none_row at (w.agrees.closings q) in
            rw none_row (sym (old none.1))
        closing q false e = w.agrees.closings q

        master : (q : AttemptId) (b : Bool) → is_app id q.app ≡ b → RowAgrees h.masters.registered h.granted (has_app h.apps.retired q.app) q (put_if b (row_new s) (row_of t.rows q.app))
        master q true e =
            let none = not_here q.app e in
            let none_row = none.0 in
            let old : RowAgrees h.masters.registered h.granted (has_app h.apps.retired q.app) q None = rw none_row at (w.agrees.masters q) in
            rw none_row (old none.1, refl)
        master q false e = w.agrees.masters q

    joins : replies.Submitted ≡ client_reply settings (abstract_scene h t) user (asks.Submit id s) → Comes (asks.Submit id s) replies.Submitted joined_now
    joins is =
        let new = is_new settings h t w.keeps id found in
        let unknown = new.unknown in
        served_whole settings h t w (messages.Client user (asks.Submit id s)) replies.Submitted is with_it joined_now refl refl (rw unknown refl) joined_keeps (joined_marks settings h t w.keeps.all w.marks id s found (retired id ∙ unretired) fresh) w.sound joined_agrees w.nodes
        (record { apart = w.book.apart; rows = w.book.rows; left = w.book.left; launches = w.book.launches })

  -- a submission is taken only where its id isn't retired
  not_retired : (given gone : Bool) (reply : Reply) → replies.Submitted ≡ (if not given then replies.BadId else (if gone then replies.Retired else reply)) → gone ≡ false
  not_retired true true reply e = cc
  not_retired true false reply e = refl
  not_retired false gone reply e = cc

  -- a submission is taken: it joins where its application isn't known
  taken : (id : AppId) (s : Submission) (row : Option AppRow) → row_of t.rows id ≡ row → replies.Submitted ≡ client_reply settings (abstract_scene h t) user (asks.Submit id s)
      → Comes (asks.Submit id s) replies.Submitted (taken_by row id s t)
  taken id s None found is = joins id s found (not_retired (is_given (abstract_scene h t) id) (has_app h.apps.retired id) _ is) is
  taken id s (Some row) found is = let known = is_known_here settings h t w.keeps id row found in quiet (asks.Submit id s) replies.Submitted is (rw known refl)

  submits : (id : AppId) (s : Submission) (reply : Reply) → reply ≡ client_reply settings (abstract_scene h t) user (asks.Submit id s) → Comes (asks.Submit id s) reply (after_client (asks.Submit id s) reply t)
  submits id s replies.Submitted is = taken id s (row_of t.rows id) refl is
  submits id s reply is = quiet (asks.Submit id s) reply is refl

  -- A WISH TO KILL

  module _ (id : AppId) (row : AppRow) (found : row_of t.rows id ≡ Some row) (is : replies.Killing ≡ client_reply settings (abstract_scene h t) user (asks.Kill id)) where
    abbrev wishes : History
    wishes = wishing settings h t w.keeps.all id row found

    abbrev wished_now : Tables
    wished_now = record t { rows = with_row (changed of_app.Wish) id t.rows; main = t.main ++ mains.AppKill id ∷ [] }

    first_wish : row.wish ≡ false → Comes (asks.Kill id) replies.Killing wished_now
    first_wish new =
        let agrees : Refines (abstract_life wishes wished_now) t = record { rows = w.agrees.rows; nodes = w.agrees.nodes; asks = w.agrees.asks; closings = w.agrees.closings; masters = w.agrees.masters } in
        served_whole settings h t w (messages.Client user (asks.Kill id)) replies.Killing is wishes wished_now refl refl refl
        (record { is_open = w.keeps.is_open; recorded = w.keeps.recorded; all = wished_says settings h t w.keeps.all id row found new })
        (wished_marks h t w.marks id (h.apps.wishes ++ id ∷ []) row found)
        w.sound (kept_agrees (abstract_life wishes wished_now) t wished_now id of_app.Wish refl agrees refl refl refl (λ q. row_changed (changed of_app.Wish) id q t.rows)) w.nodes
        (record { apart = w.book.apart; rows = w.book.rows; left = w.book.left; launches = w.book.launches })

    another_wish : row.wish ≡ true → Comes (asks.Kill id) replies.Killing t
    another_wish again =
        served_whole settings h t w (messages.Client user (asks.Kill id)) replies.Killing is wishes t refl refl refl
        (record { is_open = w.keeps.is_open; recorded = w.keeps.recorded; all = again_says settings h t w.keeps.all id row found again })
        (marks_stay h wishes t t refl (λ c. refl) w.marks) w.sound
        (record { rows = w.agrees.rows; nodes = w.agrees.nodes; asks = w.agrees.asks; closings = w.agrees.closings; masters = w.agrees.masters }) w.nodes
        (record { apart = w.book.apart; rows = w.book.rows; left = w.book.left; launches = w.book.launches })

    wish_comes : (b : Bool) → row.wish ≡ b → Comes (asks.Kill id) replies.Killing (wished_by (Some row) id t)
    wish_comes true e = rw e (another_wish e)
    wish_comes false e = rw e (first_wish e)

  -- nobody wishes to kill an application that isn't known
  no_wish : (submission : Option Submission) (id : AppId) → submission ≡ None → replies.Killing ≡ kill_reply settings (abstract_scene h t) user id submission → ⊥
  no_wish None id e answers = cc
  no_wish (Some s) id e answers = cc

  killing : (id : AppId) → replies.Killing ≡ client_reply settings (abstract_scene h t) user (asks.Kill id) → (row : Option AppRow) → row_of t.rows id ≡ row → Comes (asks.Kill id) replies.Killing (wished_by row id t)
  killing id is None found =
      let new = is_new settings h t w.keeps id found in
      let unkept = new.unkept in
      let waits = new.waits in
      absurd (no_wish (submission_of (abstract_scene h t) id) id (rw (unkept, waits) refl) is)
  killing id is (Some row) found = wish_comes id row found is row.wish refl

  kills : (id : AppId) (reply : Reply) → reply ≡ client_reply settings (abstract_scene h t) user (asks.Kill id) → Comes (asks.Kill id) reply (after_client (asks.Kill id) reply t)
  kills id replies.Killing is = killing id is (row_of t.rows id) refl
  kills id reply is = quiet (asks.Kill id) reply is refl

  -- a client is answered
  pub client_whole : (ask : ClientAsk) (reply : Reply) → reply ≡ client_reply settings (abstract_scene h t) user ask
      → PreservesCore settings h t (Served senders.Client (messages.Client user ask) reply, after_client ask reply t)
  client_whole asks.New reply is = gives reply is
  client_whole (asks.Submit id s) reply is = submits id s reply is
  client_whole (asks.Report id) reply is = quiet (asks.Report id) reply is refl
  client_whole (asks.Kill id) reply is = kills id reply is
