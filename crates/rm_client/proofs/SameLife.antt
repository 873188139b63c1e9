-- After each message of a client the tables show masters, nodes and the clock the judge's scene again.
use Rattle.std.proofs.Common.{◌≡◌, ℕ, ◌+◌, List, Bool, true, false, ◌&&◌, Option, None, Some, refl, arith, sym, ◌∙◌, ap, subst}
use Rattle.std.specs.Prelude.{option_map, ◌==◌, nat_le, nat_lt}
use Rattle.rm_types.specs.declared.containers.ClosingOf.{ClosingOf}
use Rattle.rm_types.specs.declared.ids.AppId.{AppId}
use Rattle.rm_types.specs.declared.ids.AttemptId.{AttemptId}
use Rattle.rm_types.specs.declared.ids.ContainerId.{ContainerId}
use Rattle.rm_types.specs.declared.messages.ClientAsk.{ClientAsk}
use Rattle.rm_types.specs.declared.operations.Submission.{Submission}
use Rattle.rm_types.specs.declared.replies.Reply.{Reply}
use Rattle.rm_types.specs.declared.settings.Settings.{Settings}
use Rattle.rm_types.specs.Ids.{is_app}
use Rattle.rm_types.proofs.IdLemmas.{same_app}
use Rattle.rm_model.specs.State.{MasterState, Scene}
use Rattle.rm_model.specs.Attempts.{attempt_was_first, is_live}
use Rattle.rm_model.specs.ClientReplies.{client_reply}
use Rattle.rm_model.specs.Facts.{awaits, has_app}
use Rattle.rm_model.specs.MasterReplies.{is_finished_op}
use Rattle.rm_tables.specs.declared.changes.RowChange.TheVariants as of_app
use Rattle.rm_tables.specs.declared.rows.AppRow.{AppRow}
use Rattle.rm_tables.specs.declared.rows.Current.{Current}
use Rattle.rm_tables.specs.declared.tables.Tables.{Tables}
use Rattle.rm_tables.specs.Changes.{changed}
use Rattle.rm_tables.specs.Rows.{row_of}
use Rattle.rm_refinement.specs.Agreement.{AttemptAgrees, ClosingsAgree, NumberAgrees, RowAgrees}
use Rattle.rm_refinement.specs.Clients.{RefinesForClients}
use Rattle.rm_refinement.specs.Services.{LateAgrees, RefinesLife, finishes_by, finishes_with, lives_by, lives_with}
use Rattle.rm_refinement.proofs.Late.{late_as}
use Rattle.std.proofs.lemmas.Bool.Decides.{nat_tests}
use Rattle.rm_tables.specs.Absorbing.{was_first}
use Rattle.rm_refinement.proofs.AppRows.{other_put, own_put}
use Rattle.rm_client.specs.Answers.{with_submission, submitted_row}
use Rattle.rm_client.proofs.ByMessage.{ShowsBy, by_message, each_wished, joined_scene, scene_with, wished_scene, wishes_with, with_wish}
use Rattle.rm_client.proofs.Same.{fresh, same_current}

-- a wish to kill an application leaves what is said of its attempts
number_still : (registered : List MasterState) (granted : List ContainerId) (q : AttemptId) (row : AppRow) (current : Current) (same later : Bool) → NumberAgrees same later registered granted q row current
    → NumberAgrees same later registered granted q (changed of_app.Wish row) current
number_still registered granted q row current true later is = is
number_still registered granted q row current false true is = is
number_still registered granted q row current false false is = tt

attempt_still : (registered : List MasterState) (granted : List ContainerId) (q : AttemptId) (row : AppRow) (c : Option Current) → AttemptAgrees registered granted q row c
    → AttemptAgrees registered granted q (changed of_app.Wish row) c
attempt_still registered granted q row None is = is
attempt_still registered granted q row (Some current) is = number_still registered granted q row current (current.number == q.number) (nat_lt current.number q.number) is

row_still : (registered : List MasterState) (granted : List ContainerId) (retired : Bool) (q : AttemptId) (o : Option AppRow) → RowAgrees registered granted retired q o
    → RowAgrees registered granted retired q (option_map (changed of_app.Wish) o)
row_still registered granted retired q None is = is
row_still registered granted retired q (Some row) is =
    subst (λ (c : Option Current). AttemptAgrees registered granted q (changed of_app.Wish row) c) (sym (same_current row.current)) (attempt_still registered granted q row row.current is)

closings_still : (outbox : List ClosingOf) (id : AppId) (retired : Bool) (o : Option AppRow) → ClosingsAgree outbox id retired o → ClosingsAgree outbox id retired (option_map (changed of_app.Wish) o)
closings_still outbox id retired None is = is
closings_still outbox id retired (Some row) is = is

lives_still : (q : AttemptId) (o : Option AppRow) → lives_by q (option_map (changed of_app.Wish) o) ≡ lives_by q o
lives_still q None = refl
lives_still q (Some row) = ap (lives_with q) (same_current row.current)

ends_still : (q : AttemptId) (o : Option AppRow) → finishes_by q (option_map (changed of_app.Wish) o) ≡ finishes_by q o
ends_still q None = refl
ends_still q (Some row) = ap (finishes_with q) (same_current row.current)

first_still : (q : AttemptId) (o : Option AppRow) → was_first q (option_map (changed of_app.Wish) o) ≡ was_first q o
first_still q None = refl
first_still q (Some row) = refl

late_still : (m : Scene) (t : Tables) (q : AttemptId) (o : Option AppRow) → LateAgrees m t q o → LateAgrees m t q (option_map (changed of_app.Wish) o)
late_still m t q None late = late
late_still m t q (Some row) late = λ lives. late (sym (ap (lives_with q) (same_current row.current)) ∙ lives)

-- an application that was submitted in this life had no attempt when it began
none_first : (n : ℕ) → (nat_lt 0 n && nat_le n 0) ≡ false
none_first n = grind (arith, nat_tests)

module _ (m : Scene) (t : Tables) (shows : RefinesForClients m t) (life : RefinesLife m t) where
  -- ids that are given and wishes leave it as it was
  still : (given : ℕ) (wishes : List AppId) (number : ℕ) → RefinesLife (scene_with m given wishes) (record t { given = number })
  still given wishes number =
      record {
        records = life.records;
        epoch = life.epoch;
        rows = life.rows;
        nodes = life.nodes;
        asks = life.asks;
        closings = life.closings;
        masters = life.masters;
        live = life.live;
        finishes = life.finishes;
        around = record {
          firsts = life.around.firsts;
          departed = life.around.departed;
          pending = life.around.pending;
          numbers = life.around.numbers;
          late = λ recovers q. late_as m (scene_with m given wishes) t (record t { given = number }) q (λ n before. before) (row_of t.rows q.app) (life.around.late recovers q);
        };
      }

  -- A SUBMISSION JOINS

  module _ (id : AppId) (s : Submission) (none : row_of t.rows id ≡ None) (unretired : has_app m.life.apps.retired id ≡ false) where
    own : row_of (with_submission id s t).rows id ≡ Some (submitted_row s)
    own = own_put id (submitted_row s) t.rows none (fresh m t shows id s none unretired)

    other : (q : AppId) → is_app id q ≡ false → row_of (with_submission id s t).rows q ≡ row_of t.rows q
    other q apart = other_put id q (submitted_row s) t.rows apart

    -- what holds of each row as it was, and of the one that joined, holds of each row after it
    each_of : (P : AppId → Option AppRow → Type 0) (q : AppId) → P q (row_of t.rows q) → (P id None → P id (Some (submitted_row s))) → P q (row_of (with_submission id s t).rows q)
    each_of P q was new = by (is_app id q) refl
      where
        by : (b : Bool) → is_app id q ≡ b → P q (row_of (with_submission id s t).rows q)
        by false e = subst (P q) (sym (other q e)) was
        by true e =
            let same = same_app id q e in
            let before : P id None = subst (P id) none (subst (λ (z : AppId). P z (row_of t.rows z)) (sym same) was) in
            subst (λ (z : AppId). P z (row_of (with_submission id s t).rows z)) same (subst (P id) (sym own) (new before))

    joins : RefinesLife (joined_scene m id s) (with_submission id s t)
    joins =
        record {
          records = life.records;
          epoch = life.epoch;
          rows = life.rows;
          nodes = life.nodes;
          asks = life.asks;
          closings = λ q. each_of (λ z o. ClosingsAgree m.life.endings.outbox z (has_app m.life.apps.retired z) o) q (life.closings q) (λ before. sym (before unretired));
          masters = λ q. each_of (λ z o. RowAgrees m.life.masters.registered m.life.granted (has_app m.life.apps.retired z) q o) q.app (life.masters q) (λ before. (before unretired, refl));
          live = λ q. each_of (λ z o. is_live m q ≡ lives_by q o) q.app (life.live q) (λ before. before);
          finishes = λ q. each_of (λ z o. awaits m (is_finished_op q) ≡ finishes_by q o) q.app (life.finishes q) (λ before. before);
          around = record {
            firsts = λ q goes. each_of (λ z o. was_first q o ≡ attempt_was_first m q) q.app (life.around.firsts q goes) (λ before. none_first q.number ∙ before);
            departed = life.around.departed;
            pending = life.around.pending;
            numbers = life.around.numbers;
            late = λ recovers q.
                each_of (λ z o. LateAgrees (joined_scene m id s) (with_submission id s t) q o) q.app
                (late_as m (joined_scene m id s) t (with_submission id s t) q (λ n before. before) (row_of t.rows q.app) (life.around.late recovers q)) (λ before lives. cc);
          };
        }

  -- a first wish to kill an application
  first : (id : AppId) → RefinesLife (wished_scene m id) (with_wish id t)
  first id =
      record {
        records = life.records;
        epoch = life.epoch;
        rows = life.rows;
        nodes = life.nodes;
        asks = life.asks;
        closings = λ q.
            each_wished (ClosingsAgree m.life.endings.outbox q (has_app m.life.apps.retired q)) id q t.rows (life.closings q)
            (closings_still m.life.endings.outbox q (has_app m.life.apps.retired q) (row_of t.rows q));
        masters = λ q.
            each_wished (RowAgrees m.life.masters.registered m.life.granted (has_app m.life.apps.retired q.app) q) id q.app t.rows (life.masters q)
            (row_still m.life.masters.registered m.life.granted (has_app m.life.apps.retired q.app) q (row_of t.rows q.app));
        live = λ q. each_wished (λ o. is_live m q ≡ lives_by q o) id q.app t.rows (life.live q) (λ is. is ∙ sym (lives_still q (row_of t.rows q.app)));
        finishes = λ q. each_wished (λ o. awaits m (is_finished_op q) ≡ finishes_by q o) id q.app t.rows (life.finishes q) (λ is. is ∙ sym (ends_still q (row_of t.rows q.app)));
        around = record {
          firsts = λ q goes. each_wished (λ o. was_first q o ≡ attempt_was_first m q) id q.app t.rows (life.around.firsts q goes) (λ is. first_still q (row_of t.rows q.app) ∙ is);
          departed = life.around.departed;
          pending = life.around.pending;
          numbers = life.around.numbers;
          late = λ recovers q.
              each_wished (LateAgrees (wished_scene m id) (with_wish id t) q) id q.app t.rows
              (late_as m (wished_scene m id) t (with_wish id t) q (λ n before. before) (row_of t.rows q.app) (life.around.late recovers q))
              (late_still (wished_scene m id) (with_wish id t) q (row_of t.rows q.app));
        };
      }

  -- a client was answered as the judge does
  pub client_life_same : (settings : Settings) (user : List ℕ) (ask : ClientAsk) (reply : Reply) → reply ≡ client_reply settings m user ask → ShowsBy RefinesLife m t ask reply
  client_life_same =
      by_message RefinesLife m t shows life (still (m.life.given + 1) m.life.apps.wishes (m.life.given + 1)) joins (λ id. still m.life.given (wishes_with m id) t.given) first
