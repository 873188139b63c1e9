-- After each message of a client the tables show clients the judge's scene again, in which the life is the one after that message.
use Rattle.std.proofs.Common.{◌≡◌, ℕ, ◌+◌, List, [], ◌∷◌, Bool, true, false, not, ◌&&◌, ◌||◌, Option, None, Some, is_some, length-append, refl, sym, ◌∙◌, ap, subst, arith}
use Rattle.std.specs.Prelude.{option_map}
use Rattle.rm_types.specs.declared.ids.AppId.{AppId}
use Rattle.rm_types.specs.declared.messages.ClientAsk.{ClientAsk}
use Rattle.rm_types.specs.declared.messages.ClientAsk.TheVariants as asks
use Rattle.rm_types.specs.declared.operations.Submission.{Submission}
use Rattle.rm_types.specs.declared.replies.Reply.{Reply}
use Rattle.rm_types.specs.declared.replies.Reply.TheVariants as replies
use Rattle.rm_types.specs.declared.settings.Settings.{Settings}
use Rattle.rm_types.specs.Ids.{is_app}
use Rattle.rm_types.proofs.IdLemmas.{same_app}
use Rattle.rm_model.specs.State.{Scene}
use Rattle.rm_model.specs.ClientReplies.{client_reply, next_app}
use Rattle.rm_model.specs.Facts.{has_app, is_kept, kept_record}
use Rattle.rm_tables.specs.declared.changes.RowChange.TheVariants as of_app
use Rattle.rm_tables.specs.declared.rows.AppRow.{AppRow}
use Rattle.rm_tables.specs.declared.rows.Current.{Current}
use Rattle.rm_tables.specs.declared.tables.Tables.{Tables}
use Rattle.rm_tables.specs.Changes.{changed, current_after}
use Rattle.rm_tables.specs.Rows.{is_retired, row_of}
use Rattle.rm_refinement.specs.Clients.{NoRowRefines, RefinesAt, RefinesForClients, RowRefines, current_registered, last_failed}
use Rattle.rm_refinement.proofs.AppRows.{other_put, own_put, retired_changed, retired_put}
use Rattle.rm_client.specs.Answers.{with_submission, submitted_row}
use Rattle.rm_client.proofs.ByMessage.{ShowsBy, by_message, each_wished, joined_scene, scene_with, wished_scene, wishes_with, with_wish}
use Rattle.rm_client.proofs.Submitted.{one_of, other_submitted, other_waiting, own_submitted, own_waiting}

-- a wish to kill an application leaves its current attempt as it was
pub same_current : (c : Option Current) → current_after of_app.Wish c ≡ c
same_current None = refl
same_current (Some current) = refl

module _ (m : Scene) (t : Tables) (shows : RefinesForClients m t) where
  -- ids that are given and wishes leave what is shown of an application
  still_at : (given : ℕ) (wishes : List AppId) (q : AppId) (o : Option AppRow) → RefinesAt m q o → RefinesAt (scene_with m given wishes) q o
  still_at given wishes q None is = record { unknown = is.unknown; unkept = is.unkept; waits = is.waits; unissued = is.unissued; unaccepted = is.unaccepted }
  still_at given wishes q (Some row) is = record { known = is.known; waits = is.waits; running = is.running; accepted = is.accepted; saving = is.saving }

  gives : ShowsBy RefinesForClients m t asks.New (replies.New (next_app m))
  gives =
      record {
        records = shows.records;
        stamp = shows.stamp;
        given = refl;
        going = shows.going;
        live = shows.live;
        retired = shows.retired;
        at = λ q. still_at (m.life.given + 1) m.life.apps.wishes q (row_of t.rows q) (shows.at q);
      }

  -- A SUBMISSION JOINS

  module _ (id : AppId) (s : Submission) (none : row_of t.rows id ≡ None) (unretired : has_app m.life.apps.retired id ≡ false) where
    pub fresh : is_retired t.rows id ≡ false
    fresh = sym (shows.retired id) ∙ unretired

    new_at : RowRefines (joined_scene m id s) id (submitted_row s)
    new_at =
        let new : NoRowRefines m id = subst (RefinesAt m id) none (shows.at id) in
        let unkept = new.unkept in
        let unaccepted = new.unaccepted unretired in
        let there = own_submitted id s m.life.apps.submitted in
        record { known = rw there refl; waits = own_waiting id s m.life.apps.submitted new.waits; running = rw unkept refl; accepted = rw (unkept, unaccepted) refl; saving = new.unissued }

    other_at : (q : AppId) → is_app id q ≡ false → (o : Option AppRow) → RefinesAt m q o → RefinesAt (joined_scene m id s) q o
    other_at q apart None is =
        record {
          unknown = ap (λ (b : Bool). b || is_kept m q) (other_submitted id q s m.life.apps.submitted apart) ∙ is.unknown;
          unkept = is.unkept;
          waits = other_waiting id q s m.life.apps.submitted apart ∙ is.waits;
          unissued = is.unissued;
          unaccepted = is.unaccepted;
        }
    other_at q apart (Some row) is =
        record {
          known = ap (λ (b : Bool). b || is_kept m q) (other_submitted id q s m.life.apps.submitted apart) ∙ is.known;
          waits = other_waiting id q s m.life.apps.submitted apart ∙ is.waits;
          running = is.running;
          accepted = is.accepted;
          saving = is.saving;
        }

    joined_at : (q : AppId) (b : Bool) → is_app id q ≡ b → RefinesAt (joined_scene m id s) q (row_of (with_submission id s t).rows q)
    joined_at q true e =
        subst (λ (z : AppId). RefinesAt (joined_scene m id s) z (row_of (with_submission id s t).rows z)) (same_app id q e)
        (subst (RefinesAt (joined_scene m id s) id) (sym (own_put id (submitted_row s) t.rows none fresh)) new_at)
    joined_at q false e = subst (RefinesAt (joined_scene m id s) q) (sym (other_put id q (submitted_row s) t.rows e)) (other_at q e (row_of t.rows q) (shows.at q))

    joins : RefinesForClients (joined_scene m id s) (with_submission id s t)
    joins =
        record {
          records = shows.records;
          stamp = shows.stamp;
          given = shows.given;
          going = let before = shows.going in let more = length-append m.life.apps.submitted (one_of id s ∷ []) in omega (arith, before, more);
          live = shows.live;
          retired = λ q. shows.retired q ∙ sym (retired_put id q (submitted_row s) t.rows none fresh);
          at = λ q. joined_at q (is_app id q) refl;
        }

  -- A WISH TO KILL

  module _ (id : AppId) where
    wished_at : (q : AppId) (o : Option AppRow) → RefinesAt m q o → RefinesAt (wished_scene m id) q (option_map (changed of_app.Wish) o)
    wished_at q None is = still_at m.life.given (wishes_with m id) q None is
    wished_at q (Some row) is =
        let same = sym (same_current row.current) in
        record {
          known = is.known;
          waits = is.waits;
          running = is.running ∙ ap (λ (c : Option Current). current_registered c && not (last_failed (kept_record m q))) same;
          accepted = is.accepted ∙ ap (λ (c : Option Current). is_some c) same;
          saving = is.saving;
        }

    again : RefinesForClients (wished_scene m id) t
    again =
        record {
          records = shows.records;
          stamp = shows.stamp;
          given = shows.given;
          going = shows.going;
          live = shows.live;
          retired = shows.retired;
          at = λ q. still_at m.life.given (wishes_with m id) q (row_of t.rows q) (shows.at q);
        }

    first : RefinesForClients (wished_scene m id) (with_wish id t)
    first =
        record {
          records = shows.records;
          stamp = shows.stamp;
          given = shows.given;
          going = shows.going;
          live = shows.live;
          retired = λ q. shows.retired q ∙ sym (retired_changed (changed of_app.Wish) id q t.rows);
          at = λ q.
              each_wished (RefinesAt (wished_scene m id) q) id q t.rows (still_at m.life.given (wishes_with m id) q (row_of t.rows q) (shows.at q))
              (λ still. wished_at q (row_of t.rows q) (shows.at q));
        }

  -- a client was answered as the judge does
  pub client_same : (settings : Settings) (user : List ℕ) (ask : ClientAsk) (reply : Reply) → reply ≡ client_reply settings m user ask → ShowsBy RefinesForClients m t ask reply
  client_same = by_message RefinesForClients m t shows shows gives joins again first
