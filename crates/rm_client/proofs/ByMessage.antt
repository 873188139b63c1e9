-- What is shown of a scene after each message of a client, where it is shown after an id was given, after a submission joined and after a wish.
use Rattle.std.proofs.Common.{◌≡◌, ◌⊎◌, inl, inr, ℕ, List, [], ◌∷◌, ◌++◌, Bool, true, false, not, Option, None, Some, refl, sym, subst}
use Rattle.std.specs.Prelude.{if◌then◌else◌, option_map}
use Rattle.rm_types.specs.declared.ids.AppId.{AppId}
use Rattle.rm_types.specs.declared.messages.ClientAsk.{ClientAsk}
use Rattle.rm_types.specs.declared.messages.ClientAsk.TheVariants as asks
use Rattle.rm_types.specs.declared.operations.Submission.{Submission}
use Rattle.rm_types.specs.declared.replies.Reply.{Reply}
use Rattle.rm_types.specs.declared.replies.Reply.TheVariants as replies
use Rattle.rm_types.specs.declared.settings.Settings.{Settings}
use Rattle.rm_model.specs.State.{Scene}
use Rattle.rm_model.specs.ClientReplies.{client_reply, is_given, life_after_client, next_app}
use Rattle.rm_model.specs.Facts.{has_app, is_known}
use Rattle.rm_tables.specs.declared.changes.RowChange.TheVariants as of_app
use Rattle.rm_tables.specs.declared.events.MainEvent.TheVariants as mains
use Rattle.rm_tables.specs.declared.rows.AppRow.{AppRow}
use Rattle.rm_tables.specs.declared.tables.Tables.{Tables}
use Rattle.rm_tables.specs.Changes.{changed}
use Rattle.rm_tables.specs.Rows.{row_of, with_row}
use Rattle.rm_refinement.specs.Clients.{NoRowRefines, RefinesAt, RefinesForClients, RowRefines}
use Rattle.rm_refinement.proofs.AppRows.{row_either}
use Rattle.rm_client.specs.Answers.{after_client, taken_by, wished_by, with_submission}
use Rattle.rm_client.proofs.Submitted.{one_of}

-- what is to be shown after a message
abbrev pub ShowsBy : (Scene → Tables → Type 0) → Scene → Tables → ClientAsk → Reply → Type 0
ShowsBy Shows m t ask reply = Shows (record m { life = life_after_client m ask reply }) (after_client ask reply t)

-- the scene with so many ids given, and with these wishes
abbrev pub scene_with : Scene → ℕ → List AppId → Scene
scene_with m given wishes = record m { life = record m.life { given = given; apps = record m.life.apps { wishes = wishes } } }

-- the wishes with one more
abbrev pub wishes_with : Scene → AppId → List AppId
wishes_with m id = m.life.apps.wishes ++ id ∷ []

-- the scene with that wish
abbrev pub wished_scene : Scene → AppId → Scene
wished_scene m id = scene_with m m.life.given (wishes_with m id)

-- the tables after the first wish to kill an application
abbrev pub with_wish : AppId → Tables → Tables
with_wish id t = record t { rows = with_row (changed of_app.Wish) id t.rows; main = t.main ++ mains.AppKill id ∷ [] }

-- the scene after a submission joined
abbrev pub joined_scene : Scene → AppId → Submission → Scene
joined_scene m id s = record m { life = record m.life { apps = record m.life.apps { submitted = m.life.apps.submitted ++ one_of id s ∷ [] } } }

-- what holds of a row as it was, and of the row with a wish, holds of the row after the wish
pub each_wished : (P : Option AppRow → Type 0) (id q : AppId) (rows : List (AppId × Option AppRow)) → P (row_of rows q) → (P (row_of rows q) → P (option_map (changed of_app.Wish) (row_of rows q)))
    → P (row_of (with_row (changed of_app.Wish) id rows) q)
each_wished P id q rows was wished = by (row_either (changed of_app.Wish) id q rows)
  where
    by : (row_of (with_row (changed of_app.Wish) id rows) q ≡ row_of rows q) ⊎ (row_of (with_row (changed of_app.Wish) id rows) q ≡ option_map (changed of_app.Wish) (row_of rows q))
        → P (row_of (with_row (changed of_app.Wish) id rows) q)
    by (inl e) = subst P (sym e) was
    by (inr e) = subst P (sym e) (wished was)

-- a submission is taken only where its id isn't retired
not_retired : (given gone : Bool) (reply : Reply) → replies.Submitted ≡ (if not given then replies.BadId else (if gone then replies.Retired else reply)) → gone ≡ false
not_retired true true reply e = cc
not_retired true false reply e = refl
not_retired false gone reply e = cc

-- what is shown, and what is shown after each change that a message makes
module _ (Shows : Scene → Tables → Type 0) (m : Scene) (t : Tables) (refines : RefinesForClients m t) (shows : Shows m t) (gives : ShowsBy Shows m t asks.New (replies.New (next_app m)))
    (joins : (id : AppId) (s : Submission) → row_of t.rows id ≡ None → has_app m.life.apps.retired id ≡ false → Shows (joined_scene m id s) (with_submission id s t))
    (again : (id : AppId) → Shows (wished_scene m id) t) (first : (id : AppId) → Shows (wished_scene m id) (with_wish id t)) where
  -- a submission is taken: it joins where its application isn't known
  module _ (settings : Settings) (user : List ℕ) where
    abbrev taken_scene : Bool → AppId → Submission → Scene
    taken_scene known id s = record m { life = if known then m.life else (joined_scene m id s).life }

    taken : (id : AppId) (s : Submission) (o : Option AppRow) → row_of t.rows id ≡ o → replies.Submitted ≡ client_reply settings m user (asks.Submit id s)
        → Shows (taken_scene (is_known m id) id s) (taken_by o id s t)
    taken id s None none is =
        let new : NoRowRefines m id = subst (RefinesAt m id) none (refines.at id) in
        subst (λ (b : Bool). Shows (taken_scene b id s) (with_submission id s t)) (sym new.unknown) (joins id s none (not_retired (is_given m id) (has_app m.life.apps.retired id) _ is))
    taken id s (Some row) found is =
        let old : RowRefines m id row = subst (RefinesAt m id) found (refines.at id) in
        subst (λ (b : Bool). Shows (taken_scene b id s) t) (sym old.known) shows

    submits : (id : AppId) (s : Submission) (reply : Reply) → reply ≡ client_reply settings m user (asks.Submit id s) → ShowsBy Shows m t (asks.Submit id s) reply
    submits id s replies.Submitted is = taken id s (row_of t.rows id) refl is
    submits id s reply is = shows

  -- a wish to kill an application: the first one is noted
  by_wish : (id : AppId) (b : Bool) → Shows (wished_scene m id) (if b then t else with_wish id t)
  by_wish id true = again id
  by_wish id false = first id

  wished : (id : AppId) (o : Option AppRow) → Shows (wished_scene m id) (wished_by o id t)
  wished id None = again id
  wished id (Some row) = by_wish id row.wish

  killed : (id : AppId) (reply : Reply) → ShowsBy Shows m t (asks.Kill id) reply
  killed id replies.Killing = wished id (row_of t.rows id)
  killed id reply = shows

  -- so it is shown after each message that was answered as the judge does
  pub by_message : (settings : Settings) (user : List ℕ) (ask : ClientAsk) (reply : Reply) → reply ≡ client_reply settings m user ask → ShowsBy Shows m t ask reply
  by_message settings user asks.New reply is = subst (λ (one : Reply). ShowsBy Shows m t asks.New one) (sym is) gives
  by_message settings user (asks.Submit id s) reply is = submits settings user id s reply is
  by_message settings user (asks.Report id) reply is = shows
  by_message settings user (asks.Kill id) reply is = killed id reply
