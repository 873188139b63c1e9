-- Each operation but an Epoch, once it is kept in an open life, keeps what else holds of it.
use Rattle.rm_invariant.proofs.Common.{◌≡◌, ◌≤◌, inl, inr, ℕ, ◌+◌, ◌-◌, suc, List, [], ◌∷◌, ◌++◌, Bool, true, false, not, ◌&&◌, ◌||◌, Option, None, Some, drop, filter, length, map, is_none, refl, sym, ◌∙◌, ap, subst, arith, flat_map, list_any, false≢true, and_parts, nat_tests, flat_map-append, lookup-set_value, AppId, AttemptId, ContainerId, How, Op, Submission, AppRecord, Settings, is_app, is_attempt, new_record, record_of, with_end, with_record, same_attempt, same_app, app_itself, attempt_asks, without_asks_of, end_in, has_app, is_app_op, is_finished_op, AppState, AttemptState, RowChange, MainEvent, AppRow, Current, Tables, changed, current_after, removed_at, removed_by, removed_of, kept, going_in, is_empty_slot, is_retired, row_of, slot_of, with_row, without_row, finishes_by, History, removed_if, found_in}
use Rattle.std.proofs.Common.{cond, ◌==◌, count_by, is_some, option_map}
use Rattle.std.proofs.lemmas.List.{append-nil}
use Rattle.rm_types.specs.declared.entries.Entry.TheVariants.{Kept as KeptEntry}
use Rattle.rm_types.specs.declared.operations.Op.TheVariants as ops
use Rattle.rm_types.specs.Records.{is_finished}
use Rattle.rm_model.specs.State.{Release}
use Rattle.rm_states.specs.declared.app.states.AppState.TheVariants as apps
use Rattle.rm_states.specs.declared.attempt.states.AttemptState.TheVariants as attempts
use Rattle.rm_states.specs.declared.attempt.states.AttemptEvent.TheVariants as attempt_events
use Rattle.rm_states.specs.attempt.Table.{next_attempt_state as next_attempt_state}
use Rattle.rm_tables.specs.declared.changes.AttemptChange.TheVariants as of_attempt
use Rattle.rm_tables.specs.declared.changes.RowChange.TheVariants as of_app
use Rattle.rm_tables.specs.declared.events.MainEvent.TheVariants as mains
use Rattle.rm_tables.specs.declared.events.SchedEvent.TheVariants as scheds
use Rattle.rm_tables.specs.Rows.{without_slot}
use Rattle.rm_refinement.specs.Services.{finishes_with}
use Rattle.rm_invariant.specs.apps.Completed.{Completes, is_retire, order_in, completion_order}
use Rattle.rm_invariant.specs.apps.Invariant.{is_active, ActiveInvariant, EndKeptInvariant, EndIssuedInvariant, RowInvariant, StateInvariant}
use Rattle.rm_invariant.specs.apps.Submissions.{saving, starting, submitted_ids}
use Rattle.rm_invariant.specs.apps.View.{View, changed_if, gone_if, is_own_op, is_start, one_if, op_view, set_if, view}
use Rattle.rm_invariant.proofs.apps.Completing.{completes_ended, completes_new, completes_removed, going_removed, once_changed, one_less, order_same, retire_posted, retire_still}
use Rattle.rm_invariant.proofs.apps.Counts.{at_front, count_append, none_under}
use Rattle.rm_invariant.proofs.apps.Effects.{op_taken}
use Rattle.rm_invariant.proofs.apps.Events.{at}
use Rattle.rm_invariant.proofs.apps.Found.{has_end, ids_alike, row_changed, same_test, some_is}
use Rattle.rm_invariant.proofs.apps.Lists.{forgets_first, going_more, id_count, is_other, submitted_count, submitted_length}
use Rattle.rm_invariant.proofs.apps.Saving.{app_unkept, app_waits}
use Rattle.rm_invariant.proofs.apps.KeptEnds.{EndAwaits, end_awaits, with_end_op}
use Rattle.rm_invariant.proofs.apps.Recorded.{record_changed}
use Rattle.rm_invariant.proofs.apps.Removing.{row_gone}
use Rattle.rm_invariant.proofs.masters.Apt.{apt_step}
use Rattle.rm_invariant.proofs.masters.AwaitingAttempts.{AttemptAwaits, attempt_awaits, with_attempt_op}
use Rattle.rm_invariant.specs.events.Asking.{asks_others}
use Rattle.rm_invariant.specs.events.Here.{AreServed}
use Rattle.rm_invariant.specs.Core.{CoreInvariant, PreservesCore}
use Rattle.rm_invariant.proofs.events.Moving.{own_gone}
use Rattle.rm_invariant.specs.auxiliary.Invariant.{NoneFirst, AuxInvariant, goes_by, goes_numbered}
use Rattle.rm_invariant.proofs.auxiliary.MainEvents.{finishes_none, less_others, less_single}
use Rattle.rm_invariant.proofs.auxiliary.Rows.{kept_goes, goes_every, finishes_with_row, goes_on, same_with, served_append}
use Rattle.rm_invariant.proofs.opening.Starting.{saving_number, starting_number}
use Rattle.rm_invariant.proofs.auxiliary.Together.{aux_after, parts_changed, rows_of}
use Rattle.rm_model.specs.Facts.{keeps}

-- WHAT STAYS OF A ROW

-- its current attempt, and so whether it goes on and finishes
module _ (change : RowChange) (none : current_after change None ≡ None) (some : (c : Current) → current_after change (Some c) ≡ Some c) where
  current_stays : (row : AppRow) → (changed change row).current ≡ row.current
  current_stays row = by row.current
    where
      by : (o : Option Current) → current_after change o ≡ o
      by None = none
      by (Some c) = some c

  pub goes_stays : (n : ℕ) (row : AppRow) → goes_by n (Some (changed change row)) ≡ goes_by n (Some row)
  goes_stays n row = ap (goes_numbered n) (current_stays row)

  pub finishes_stays : (q : AttemptId) (row : AppRow) → finishes_by q (Some (changed change row)) ≡ finishes_by q (Some row)
  finishes_stays q row = ap (finishes_with q) (current_stays row)

-- WHAT STAYS OF THE RECORDS

-- as many go on where a record changes and keeps its end
going_same : (change : AppRecord → AppRecord) → ((app : AppRecord) → (change app).ending ≡ app.ending) → (id : AppId) (records : List AppRecord) → going_in (with_record change id records) ≡ going_in records
going_same change keeps id [] = refl
going_same change keeps id (app ∷ more) = by (is_app app.id id) (going_same change keeps id more)
  where
    by : (b : Bool) → going_in (with_record change id more) ≡ going_in more → count_by (λ (one : AppRecord). is_none one.ending) (cond b (change app) app ∷ with_record change id more) ≡ going_in (app ∷ more)
    by b rest =
        at_front (λ (one : AppRecord). is_none one.ending) (cond b (change app) app) (with_record change id more)
        ∙ same b rest ∙ sym (at_front (λ (one : AppRecord). is_none one.ending) app more)
      where
        end : (b : Bool) → is_none (cond b (change app) app).ending ≡ is_none app.ending
        end true = ap is_none (keeps app)
        end false = refl

        same : (b : Bool) → going_in (with_record change id more) ≡ going_in more
            → one_if (is_none (cond b (change app) app).ending) (going_in (with_record change id more)) ≡ one_if (is_none app.ending) (going_in more)
        same b rest = let e = end b in rw (e, rest) refl

-- the completed stay in order where a record changes, and keeps when it ended
completes_changed : (t next : Tables) (change : AppRecord → AppRecord) (id : AppId) → ((app : AppRecord) → (change app).id ≡ app.id) → ((app : AppRecord) → (change app).end_order ≡ app.end_order) → Completes t
    → next.tree.apps ≡ with_record change id t.tree.apps → next.tree.applied ≡ t.tree.applied + 1 → next.ended ≡ t.ended → next.settings ≡ t.settings → (1 ≤ count_by is_retire t.main → 1 ≤ count_by is_retire next.main)
    → Completes next
completes_changed t next change id keeps ends c records applied ended settings retire =
    record {
      once = λ q. rw records (let same = once_changed change keeps id q t.tree.apps in let old = c.once q in omega (arith, same, old));
      in_order = rw (records, ended) (order_same t.tree.apps (with_record change id t.tree.apps) t.ended (λ q some. same q) c.in_order);
      early = λ q. let e = c.early q in let s = same q in rw records (omega (arith, applied, e, s));
      retires = rw (ended, settings) (λ many. retire (c.retires many));
    }
  where
    same : (q : AppId) → completion_order (with_record change id t.tree.apps) q ≡ completion_order t.tree.apps q
    same q = ap order_in (record_changed change keeps id q t.tree.apps) ∙ by (is_app id q) (record_of t.tree.apps q)
      where
        by : (b : Bool) (o : Option AppRecord) → order_in (changed_if b change o) ≡ order_in o
        by true None = refl
        by true (Some one) = ends one
        by false o = refl

-- what is posted of containers that no attempt has any more is no release
removed_served : (releases : List Release) (o : Option AppRow) (keep : Bool) (id : AppId) → AreServed releases (removed_by o keep id)
removed_served releases None keep id = tt
removed_served releases (Some row) keep id = by row.current
  where
    if_so : (b : Bool) (attempt : AttemptId) → AreServed releases (removed_if b attempt)
    if_so true attempt = tt
    if_so false attempt = tt

    at_state : (s : AttemptState) (attempt : AttemptId) → AreServed releases (removed_at s keep attempt)
    at_state attempts.Dropped attempt = tt
    at_state attempts.Ended attempt = if_so keep attempt
    at_state _ attempt = tt

    by : (c : Option Current) → AreServed releases (removed_of c keep id)
    by None = tt
    by (Some current) = at_state current.state (record { app = id; number = current.number })

-- what awaits that isn't FINISHED at the front is nothing to the others
pub front_finishes : (q : AttemptId) (op : Op) (rest awaiting : List Op) → awaiting ≡ op ∷ rest → is_finished_op q op ≡ false → list_any (is_finished_op q) (drop 1 awaiting) ≡ list_any (is_finished_op q) awaiting
front_finishes q op rest awaiting front none = rw front (rw none refl)

module _ (h : History) (t : Tables) (w : CoreInvariant t.settings h t) (sides : AuxInvariant h t) where
  -- the order of submissions where the first operation isn't an App, and what is posted starts none
  order_left : (op : Op) (rest : List Op) → t.awaiting ≡ op ∷ rest → saving op ≡ [] → (more : List MainEvent) → flat_map starting more ≡ [] → submitted_ids h.apps.submitted ≡ flat_map saving (drop 1 t.awaiting) ++ flat_map starting (t.main ++ more)
  order_left op rest front none more quiet =
      let first : flat_map saving (op ∷ rest) ≡ flat_map saving rest = rw none refl in
      let before : submitted_ids h.apps.submitted ≡ flat_map saving rest ++ flat_map starting t.main = sides.lists.order ∙ rw (front, first) refl in
      let behind : flat_map starting (t.main ++ more) ≡ flat_map starting t.main = simp flat_map-append (rw quiet (append-nil (flat_map starting t.main))) in
      rw (front, behind) before

  -- APP
  module _ (id : AppId) (submission : Submission) (rest : List Op) (front : t.awaiting ≡ ops.App id submission ∷ rest) where
    abbrev app_next : Tables
    app_next = kept (ops.App id submission) t

    unkept : record_of t.tree.apps id ≡ None
    unkept = app_unkept t.settings h t w.keeps id submission rest front

    -- it stands once among the submitted ones
    once_submitted : count_by (λ one. is_app one.id id) h.apps.submitted ≤ 1
    once_submitted =
        let waits = app_waits t.settings h t w.keeps id submission rest front in
        let says : RowInvariant t.settings (at id) (Some waits.one) (view h t (at id)) = rw waits.is at (w.keeps.all (at id)) in
        let saving_says = subst (λ (x : AppState). StateInvariant t.settings (at id) x waits.one (view h t (at id))) waits.state says.1 in
        let starts : count_by (is_start id) t.main ≡ 0 = saving_says.1 in
        let awaits : count_by (is_app_op id) t.awaiting ≡ 1 = saving_says.2 in
        let a = submitted_count id h.apps.submitted in
        let b : id_count id (submitted_ids h.apps.submitted) ≡ id_count id (flat_map saving t.awaiting ++ flat_map starting t.main) = ap (id_count id) sides.lists.order in
        let c = count_append (λ (x : AppId). is_app x id) (flat_map saving t.awaiting) (flat_map starting t.main) in
        let d = saving_number id t.awaiting in
        let e = starting_number id t.main in
        omega (arith, starts, awaits, a, b, c, d, e)

    left : submitted_ids (filter (is_other id) h.apps.submitted) ≡ flat_map saving rest ++ flat_map starting t.main
    left = forgets_first h.apps.submitted id (flat_map saving rest ++ flat_map starting t.main) (let o = rw front at sides.lists.order in o) once_submitted

    app_order : submitted_ids (filter (is_other id) h.apps.submitted) ≡ flat_map saving (drop 1 t.awaiting) ++ flat_map starting (t.main ++ mains.AppSaved id ∷ [])
    app_order = rw front (left ∙ simp (flat_map-append, append-nil) refl)

    app_going : t.going ≡ length (filter (is_other id) h.apps.submitted) + going_in (t.tree.apps ++ new_record id submission ∷ [])
    app_going =
        let before = submitted_length h.apps.submitted (flat_map saving t.awaiting ++ flat_map starting t.main) sides.lists.order in
        let front_is : length (flat_map saving t.awaiting ++ flat_map starting t.main) ≡ suc (length (flat_map saving rest ++ flat_map starting t.main)) = rw front refl in
        let behind = submitted_length (filter (is_other id) h.apps.submitted) (flat_map saving rest ++ flat_map starting t.main) left in
        let more = going_more t.tree.apps id submission in
        let now = sides.lists.going in
        omega (arith, before, front_is, behind, more, now)

    pub app_sides : (s : PreservesCore t.settings h t (KeptEntry (ops.App id submission), app_next)) → AuxInvariant s.next app_next
    app_sides s =
        aux_after t.settings h t (KeptEntry (ops.App id submission)) app_next app_next s h.apps.retired (filter (is_other id) h.apps.submitted) h.endings.releases refl
        (record {
          rows = parts_changed of_app.Keep id t.rows (λ row found. tt) (rows_of h t sides);
          completes = completes_new t app_next id submission sides.completes unkept refl refl refl refl (retire_still t.main (mains.AppSaved id));
          apt = apt_step t.tree (ops.App id submission) sides.apt tt;
          present = sides.present;
          others = λ q some. same_with (goes_by q.number) (changed of_app.Keep) id q.app t.rows (goes_stays of_app.Keep refl (λ c. refl) q.number) ∙ sides.others q some;
          single = sides.single;
          waits = sides.waits;
          served = sides.served;
          offers = sides.offers;
          order = app_order;
          going = app_going;
          finishes = λ q. front_finishes q (ops.App id submission) rest t.awaiting front refl ∙ sides.finishes q ∙ sym (same_with (finishes_by q) (changed of_app.Keep) id q.app t.rows (finishes_stays of_app.Keep refl (λ c. refl) q));
        })

  -- AN ATTEMPT
  module _ (id : AttemptId) (master : ContainerId) (node : List ℕ) (rest : List Op) (front : t.awaiting ≡ ops.Attempt id master node ∷ rest) where
    abbrev attempt_next : Tables
    attempt_next = kept (ops.Attempt id master node) t

    same_number : (n : ℕ) → (n == n) ≡ true
    same_number n = grind (arith, nat_tests)

    saves : AttemptAwaits t.settings id (row_of t.rows id.app) (view h (record t { awaiting = drop 1 t.awaiting }) id)
    saves =
        let good = subst (λ (v : View). RowInvariant t.settings id (row_of t.rows id.app) v) (op_taken h t id (ops.Attempt id master node) rest front) (w.keeps.all id) in
        let own : op_view id (ops.Attempt id master node) (view h (record t { awaiting = drop 1 t.awaiting }) id) ≡ with_attempt_op id (view h (record t { awaiting = drop 1 t.awaiting }) id) =
        rw (app_itself id.app, same_number id.number) refl in
        attempt_awaits t.settings id (view h (record t { awaiting = drop 1 t.awaiting }) id) (row_of t.rows id.app) (subst (λ (v : View). RowInvariant t.settings id (row_of t.rows id.app) v) own good)

    abbrev lives : RowChange
    lives = of_app.OfAttempt of_attempt.Keep

    attempt_finishes : (q : AttemptId) → list_any (is_finished_op q) (drop 1 t.awaiting) ≡ finishes_by q (row_of (with_row (changed lives) id.app t.rows) q.app)
    attempt_finishes q =
        let c = saves.current_is in
        let st = saves.state in
        front_finishes q (ops.Attempt id master node) rest t.awaiting front refl ∙ sides.finishes q
        ∙ sym (finishes_with_row (changed lives) id.app t.rows saves.one saves.is q
        (λ e. finishes_none t q (changed lives saves.one) (record saves.current { state = attempts.Live }) (rw (c, st) refl) refl ∙ sym (finishes_none t q saves.one saves.current c (rw st refl))))

    attempt_goes : (n : ℕ) (row : AppRow) → goes_by n (Some row) ≡ true → goes_by n (Some (changed lives row)) ≡ true
    attempt_goes n row goes = by row.current goes
      where
        by : (o : Option Current) → goes_numbered n o ≡ true → goes_numbered n (current_after lives o) ≡ true
        by None e = e
        by (Some c) e = goes_on n c (record c { state = next_attempt_state c.state attempt_events.Kept }) refl (kept_goes c.state) e

    pub attempt_sides : master.attempt ≡ id → (s : PreservesCore t.settings h t (KeptEntry (ops.Attempt id master node), attempt_next)) → AuxInvariant s.next attempt_next
    attempt_sides apt s =
        aux_after t.settings h t (KeptEntry (ops.Attempt id master node)) attempt_next attempt_next s h.apps.retired h.apps.submitted h.endings.releases refl
        (record {
          rows = parts_changed lives id.app t.rows (λ row found. tt) (rows_of h t sides);
          completes = completes_changed t attempt_next one_more id.app (λ app. refl) (λ app. refl) sides.completes refl refl refl refl (retire_still t.main (mains.AttemptSaved id));
          apt = apt_step t.tree (ops.Attempt id master node) sides.apt apt;
          present = sides.present;
          others = λ q some. goes_every (changed lives) id.app q.app t.rows q.number (attempt_goes q.number) (sides.others q some);
          single = sides.single;
          waits = sides.waits;
          served = sides.served;
          offers = sides.offers;
          order = order_left (ops.Attempt id master node) rest front refl (mains.AttemptSaved id ∷ []) refl;
          going = sides.lists.going ∙ ap (λ n. length h.apps.submitted + n) (sym (going_same one_more (λ app. refl) id.app t.tree.apps));
          finishes = attempt_finishes;
        })
      where
        one_more : AppRecord → AppRecord
        one_more app = record app { attempts = app.attempts ++ record { id = id; master = master; node = node; ending = None } ∷ [] }

  -- THE END OF AN ATTEMPT
  module _ (id : AttemptId) (how : How) (text : List ℕ) (rest : List Op) (front : t.awaiting ≡ ops.AttemptEnd id how text ∷ rest) where
    abbrev end_next : Tables
    end_next = kept (ops.AttemptEnd id how text) t

    same_numbers : (n : ℕ) → (n == n) ≡ true
    same_numbers n = grind (arith, nat_tests)

    abbrev left_of : Tables
    left_of = record t { awaiting = drop 1 t.awaiting }

    own_good : RowInvariant t.settings id (row_of t.rows id.app) (with_end_op id (view h left_of id))
    own_good =
        let good = subst (λ (v : View). RowInvariant t.settings id (row_of t.rows id.app) v) (op_taken h t id (ops.AttemptEnd id how text) rest front) (w.keeps.all id) in
        let own : op_view id (ops.AttemptEnd id how text) (view h left_of id) ≡ with_end_op id (view h left_of id) = rw (app_itself id.app, same_numbers id.number) refl in
        subst (λ (v : View). RowInvariant t.settings id (row_of t.rows id.app) v) own good

    ends : EndAwaits t.settings id (row_of t.rows id.app) (view h left_of id)
    ends = end_awaits t.settings id (view h left_of id) (row_of t.rows id.app) own_good

    -- no other end of it awaits
    none_left : count_by (is_own_op id) rest ≡ 0
    none_left = by (row_of t.rows id.app) ends.is own_good
      where
        by : (o : Option AppRow) → o ≡ Some ends.one → RowInvariant t.settings id o (with_end_op id (view h left_of id)) → count_by (is_own_op id) rest ≡ 0
        by o is says = numbers (subst (λ (x : Option AppRow). RowInvariant t.settings id x (with_end_op id (view h left_of id))) is says)
          where
            rest_is : count_by (is_own_op id) (drop 1 t.awaiting) ≡ count_by (is_own_op id) rest
            rest_is = rw front refl

            ending : (c : Option Current) → c ≡ Some ends.current → ActiveInvariant t.settings id c ends.one.wish (with_end_op id (view h left_of id)) → count_by (is_own_op id) rest ≡ 0
            ending c e active =
                let x : ActiveInvariant t.settings id (Some ends.current) ends.one.wish (with_end_op id (view h left_of id)) = rw e at active in
                let st = ends.state in
                let n = ends.number in
                let num : (ends.current.number == id.number) ≡ true = rw n (same_numbers id.number) in
                let y = rw (num, st) at x.1 in
                let own = y.1 in
                omega (arith, own, rest_is)

            numbers : RowInvariant t.settings id (Some ends.one) (with_end_op id (view h left_of id)) → count_by (is_own_op id) rest ≡ 0
            numbers good = state ends.one.state ends.active good.1
              where
                state : (s : AppState) → is_active s ≡ true → StateInvariant t.settings id s ends.one (with_end_op id (view h left_of id)) → count_by (is_own_op id) rest ≡ 0
                state apps.Accepted a says = ending ends.one.current ends.current_is says.3
                state apps.Running a says = ending ends.one.current ends.current_is says.3
                state apps.Killing a says = ending ends.one.current ends.current_is says.5
                state _ a says = cc

    abbrev over : RowChange
    over = of_app.OfAttempt (of_attempt.KeepEnd how)

    -- the row says no more that its end awaits
    row_over : (q : AttemptId) → finishes_by q (Some (changed over ends.one)) ≡ false
    row_over q = let c = ends.current_is in let st = ends.state in finishes_none t q (changed over ends.one) (record ends.current { state = attempts.Ended }) (rw (c, st) refl) refl

    own_finished : (q : AttemptId) → is_attempt id q ≡ true → list_any (is_finished_op q) rest ≡ false
    own_finished q same = let own : id ≡ q = same_attempt id q same in none_under (is_own_op q) (is_finished_op q) (λ op. own_op op) rest (subst (λ (a : AttemptId). count_by (is_own_op a) rest ≡ 0) own none_left)
      where
        right_true : (b : Bool) → (b || true) ≡ true
        right_true true = refl
        right_true false = refl

        own_op : (op : Op) → is_finished_op q op ≡ true → is_own_op q op ≡ true
        own_op (ops.AttemptEnd one way word) e = let x = and_parts (is_attempt one q) (is_finished way) e in let y = x.0 in rw y refl
        own_op _ e = cc

    end_finishes : (q : AttemptId) → list_any (is_finished_op q) (drop 1 t.awaiting) ≡ finishes_by q (row_of (with_row (changed over) id.app t.rows) q.app)
    end_finishes q = by (is_attempt id q) refl
      where
        own_row : is_attempt id q ≡ true → finishes_by q (row_of (with_row (changed over) id.app t.rows) q.app) ≡ false
        own_row same =
            let app : is_app id.app q.app ≡ true = (and_parts (is_app id.app q.app) (id.number == q.number) same).0 in
            let found : row_of t.rows q.app ≡ Some ends.one = subst (λ (a : AppId). row_of t.rows a ≡ Some ends.one) (same_app id.app q.app app) ends.is in
            let now : row_of (with_row (changed over) id.app t.rows) q.app ≡ Some (changed over ends.one) = row_changed (changed over) id.app q.app t.rows ∙ rw (app, found) refl in
            ap (finishes_by q) now ∙ row_over q

        other_row : is_attempt id q ≡ false → is_app id.app q.app ≡ true → finishes_by q (Some ends.one) ≡ false
        other_row apart app =
            let n : (id.number == q.number) ≡ false = rw app at apart in
            let number = ends.number in
            let c = ends.current_is in
            let differs : (ends.current.number == q.number) ≡ false = ap (λ (m : ℕ). m == q.number) number ∙ n in
            rw (c, differs) refl

        by : (b : Bool) → is_attempt id q ≡ b → list_any (is_finished_op q) (drop 1 t.awaiting) ≡ finishes_by q (row_of (with_row (changed over) id.app t.rows) q.app)
        by true e =
            let left_is : drop 1 t.awaiting ≡ rest = rw front refl in
            ap (list_any (is_finished_op q)) left_is ∙ own_finished q e ∙ sym (own_row e)
        by false e =
            front_finishes q (ops.AttemptEnd id how text) rest t.awaiting front (rw e refl) ∙ sides.finishes q
            ∙ sym (finishes_with_row (changed over) id.app t.rows ends.one ends.is q (λ app. row_over q ∙ sym (other_row e app)))

    -- another attempt that asks for something is of another application
    end_others : (q : AttemptId) → asks_others (attempt_asks (without_asks_of id t.asks) q) ≡ true → goes_by q.number (row_of (with_row (changed over) id.app t.rows) q.app) ≡ true
    end_others q some = ap (goes_by q.number) (row_changed (changed over) id.app q.app t.rows) ∙ by (is_app id.app q.app) refl
      where
        before : goes_by q.number (row_of t.rows q.app) ≡ true
        before = sides.others q (less_others t id q some)

        not_own : is_attempt id q ≡ true → ⊥
        not_own same =
            let none : asks_others (attempt_asks (without_asks_of id t.asks) q) ≡ false = subst (λ (a : AttemptId). asks_others (attempt_asks (without_asks_of id t.asks) a) ≡ false) (same_attempt id q same) (ap asks_others (own_gone id t.asks)) in
            false≢true (sym none ∙ some)

        by : (b : Bool) → is_app id.app q.app ≡ b → goes_by q.number (changed_if b (changed over) (row_of t.rows q.app)) ≡ true
        by false app = before
        by true app =
            let found : row_of t.rows q.app ≡ Some ends.one = subst (λ (a : AppId). row_of t.rows a ≡ Some ends.one) (same_app id.app q.app app) ends.is in
            let c = ends.current_is in
            let goes : goes_numbered q.number (Some ends.current) ≡ true = rw (found, c) at before in
            let number = (and_parts (ends.current.number == q.number) _ goes).0 in
            let own = ends.number in
            let same : (id.number == q.number) ≡ true = rw own at number in
            absurd (not_own (rw (app, same) refl))

    pub end_sides : (s : PreservesCore t.settings h t (KeptEntry (ops.AttemptEnd id how text), end_next)) → AuxInvariant s.next end_next
    end_sides s =
        aux_after t.settings h t (KeptEntry (ops.AttemptEnd id how text)) end_next end_next s h.apps.retired h.apps.submitted h.endings.releases refl
        (record {
          rows = parts_changed over id.app t.rows (λ row found. tt) (rows_of h t sides);
          completes = completes_changed t end_next ended id.app (λ app. refl) (λ app. refl) sides.completes refl refl refl refl (retire_still t.main (mains.AttemptDone id));
          apt = apt_step t.tree (ops.AttemptEnd id how text) sides.apt tt;
          present = sides.present;
          others = end_others;
          single = less_single t id sides.single;
          waits = sides.waits;
          served = served_append h.endings.releases t.sched (scheds.AttemptRemoved id ∷ []) sides.served tt;
          offers = sides.offers;
          order = order_left (ops.AttemptEnd id how text) rest front refl (mains.AttemptDone id ∷ []) refl;
          going = sides.lists.going ∙ ap (λ n. length h.apps.submitted + n) (sym (going_same ended (λ app. refl) id.app t.tree.apps));
          finishes = end_finishes;
        })
      where
        ended : AppRecord → AppRecord
        ended app = record app { attempts = map (with_end id how text) app.attempts }

-- what an AppEnd that awaits says: the application is recorded and goes on, and isn't among the completed
record EndWaits (v : View) : Type 0 where
  there : is_some v.found ≡ true
  goes : end_in v.found ≡ None
  not_completed : v.count.completed ≡ 0

end_waits : (settings : Settings) (q : AttemptId) (row : Option AppRow) (v : View) → RowInvariant settings q row (record v { count = record v.count { app_ends = suc v.count.app_ends } }) → EndWaits v
end_waits settings q None v good = absurd (let n = good.none_await in omega (arith, n))
end_waits settings q (Some row) v good = by row.state good.1
  where
    by : (s : AppState) → StateInvariant settings q s row (record v { count = record v.count { app_ends = suc v.count.app_ends } }) → EndWaits v
    by s says = grind (arith, nat_tests)

-- and a Remove: it has ended, isn't among the completed any more, and its current attempt has ended or was dropped
record RemoveWaits (row : Option AppRow) (v : View) : Type 0 where
  ended : is_some (end_in v.found) ≡ true
  not_completed : v.count.completed ≡ 0
  one : AppRow
  is : row ≡ Some one
  over : EndIssuedInvariant one.current (record v { count = record v.count { removes = suc v.count.removes } })

how_some : {X Y : Type 0} (f : X → Y) (o : Option X) (y : Y) → option_map f o ≡ Some y → is_some o ≡ true
how_some f None y e = cc
how_some f (Some x) y e = refl

remove_waits : (settings : Settings) (q : AttemptId) (row : Option AppRow) (v : View) → RowInvariant settings q row (record v { count = record v.count { removes = suc v.count.removes } }) → RemoveWaits row v
remove_waits settings q None v good = absurd (let n = good.none_await in omega (arith, n))
remove_waits settings q (Some row) v good = by row.state good.1
  where
    final : (how : How) → EndKeptInvariant how row (record v { count = record v.count { removes = suc v.count.removes } }) → RemoveWaits (Some row) v
    final how says = record { ended = how_some (λ e. e.0) (end_in v.found) how says.0; not_completed = (let n = says.4 in omega (arith, n)); one = row; is = refl; over = says.5 }

    by : (s : AppState) → StateInvariant settings q s row (record v { count = record v.count { removes = suc v.count.removes } }) → RemoveWaits (Some row) v
    by apps.Finished says = final _ says
    by apps.Failed says = final _ says
    by apps.Killed says = final _ says
    by _ says = absurd (grind (arith, nat_tests))

-- the rows without one that is removed
slot_empty : (id q : AppId) (rows : List (AppId × Option AppRow)) (row : AppRow) → row_of rows id ≡ Some row → is_retired (without_row id rows) q ≡ set_if (is_app id q) (is_retired rows q)
slot_empty id q rows row found = by (slot_of rows id) refl
  where
    at_test : (b : Bool) → is_empty_slot (cond b (Some None) (slot_of rows q)) ≡ set_if b (is_retired rows q)
    at_test true = refl
    at_test false = refl

    by : (o : Option (Option AppRow)) → slot_of rows id ≡ o → is_retired (without_slot id rows o) q ≡ set_if (is_app id q) (is_retired rows q)
    by None f = absurd (let x = rw f at found in cc)
    by (Some slot) f = ap is_empty_slot (lookup-set_value ids_alike (is_app id) (λ x y h. same_test id x y h) q None rows (some_is (slot_of rows id) slot f)) ∙ at_test (is_app id q)

module _ (h : History) (t : Tables) (w : CoreInvariant t.settings h t) (sides : AuxInvariant h t) (id : AppId) where
  abbrev there : AttemptId
  there = at id

  abbrev taken : Tables
  taken = record t { awaiting = drop 1 t.awaiting }

  -- THE END OF AN APPLICATION
  module _ (how : How) (text : List ℕ) (rest : List Op) (front : t.awaiting ≡ ops.AppEnd id how text ∷ rest) where
    abbrev ended_next : Tables
    ended_next = kept (ops.AppEnd id how text) t

    abbrev with_the_end : AppRecord → AppRecord
    with_the_end app = record app { ending = Some (how, text); end_order = t.tree.applied }

    waits : EndWaits (view h taken there)
    waits =
        let good = subst (λ (v : View). RowInvariant t.settings there (row_of t.rows id) v) (op_taken h t there (ops.AppEnd id how text) rest front) (w.keeps.all there) in
        end_waits t.settings there (row_of t.rows id) (view h taken there) (let g = rw (app_itself id) at good in g)

    going_after : (found : Option AppRecord) → record_of t.tree.apps id ≡ found → is_some found ≡ true → end_in found ≡ None → t.going - 1 ≡ length h.apps.submitted + going_in (with_record with_the_end id t.tree.apps)
    going_after None e some goes = cc
    going_after (Some one) e some goes =
        let less = one_less with_the_end (λ app. refl) id (λ app. is_none app.ending) (λ app. refl) t.tree.apps one (sides.completes.once id) e (rw goes refl) in
        let now = sides.lists.going in
        omega (arith, less, now)

    abbrev ends_so : RowChange
    ends_so = of_app.KeepEnd how

    pub ended_sides : (s : PreservesCore t.settings h t (KeptEntry (ops.AppEnd id how text), ended_next)) → AuxInvariant s.next ended_next
    ended_sides s =
        aux_after t.settings h t (KeptEntry (ops.AppEnd id how text)) ended_next ended_next s h.apps.retired h.apps.submitted h.endings.releases refl
        (record {
          rows = parts_changed ends_so id t.rows (λ row found. tt) (rows_of h t sides);
          completes = completes_ended t ended_next id how text sides.completes waits.there waits.not_completed
              (λ q. record_changed with_the_end (λ one. refl) id q t.tree.apps) (λ q. once_changed with_the_end (λ one. refl) id q t.tree.apps) refl refl (retire_posted t.main mains.Retire refl);
          apt = apt_step t.tree (ops.AppEnd id how text) sides.apt tt;
          present = sides.present;
          others = λ q some. same_with (goes_by q.number) (changed ends_so) id q.app t.rows (goes_stays ends_so refl (λ c. refl) q.number) ∙ sides.others q some;
          single = sides.single;
          waits = sides.waits;
          served = served_append h.endings.releases t.sched (removed_by (row_of t.rows id) (keeps (found_in (kept (ops.AppEnd id how text) t) id)) id) sides.served (removed_served h.endings.releases (row_of t.rows id) (keeps (found_in (kept (ops.AppEnd id how text) t) id)) id);
          offers = sides.offers;
          order = order_left h t w sides (ops.AppEnd id how text) rest front refl (mains.Retire ∷ []) refl;
          going = going_after (record_of t.tree.apps id) refl waits.there waits.goes;
          finishes = λ q. front_finishes q (ops.AppEnd id how text) rest t.awaiting front refl ∙ sides.finishes q ∙ sym (same_with (finishes_by q) (changed ends_so) id q.app t.rows (finishes_stays ends_so refl (λ c. refl) q));
        })

  -- A REMOVAL
  module _ (rest : List Op) (front : t.awaiting ≡ ops.Remove id ∷ rest) where
    abbrev removed_next : Tables
    removed_next = kept (ops.Remove id) t

    leaves : RemoveWaits (row_of t.rows id) (view h taken there)
    leaves =
        let good = subst (λ (v : View). RowInvariant t.settings there (row_of t.rows id) v) (op_taken h t there (ops.Remove id) rest front) (w.keeps.all there) in
        remove_waits t.settings there (row_of t.rows id) (view h taken there) (let g = rw (app_itself id) at good in g)

    going_left : (found : Option AppRecord) → record_of t.tree.apps id ≡ found → is_some (end_in found) ≡ true → t.going ≡ length h.apps.submitted + going_in (filter (λ app. not (is_app app.id id)) t.tree.apps)
    going_left None e ended = cc
    going_left (Some one) e ended =
        let same = going_removed t.tree.apps id one (sides.completes.once id) e ended in
        let now = sides.lists.going in
        omega (arith, same, now)

    -- its attempt neither goes on nor ends
    over_not : (v : View) (o : Option Current) → EndIssuedInvariant o v → ((n : ℕ) → goes_numbered n o ≡ false) × ((q : AttemptId) → finishes_with q o ≡ false)
    over_not v None says = (λ n. refl, λ q. refl)
    over_not v (Some c) (inl st, a, b) = (λ n. rw st (none (c.number == n)), λ q. rw st (none (c.number == q.number)))
      where
        none : (b : Bool) → (b && false) ≡ false
        none true = refl
        none false = refl
    over_not v (Some c) (inr st, a, b) = (λ n. rw st (none (c.number == n)), λ q. rw st (none (c.number == q.number)))
      where
        none : (b : Bool) → (b && false) ≡ false
        none true = refl
        none false = refl

    not_going : (n : ℕ) → goes_by n (row_of t.rows id) ≡ false
    not_going n = ap (goes_by n) leaves.is ∙ (over_not _ leaves.one.current leaves.over).0 n

    not_finishing : (q : AttemptId) → finishes_by q (row_of t.rows id) ≡ false
    not_finishing q = ap (finishes_by q) leaves.is ∙ (over_not _ leaves.one.current leaves.over).1 q

    -- a row that is left was there before, of another application
    left_row : (q : AppId) (row : AppRow) → row_of (without_row id t.rows) q ≡ Some row → row_of t.rows q ≡ Some row
    left_row q row e = by (is_app id q) (sym (row_gone id q t.rows) ∙ e)
      where
        by : (b : Bool) → gone_if b (row_of t.rows q) ≡ Some row → row_of t.rows q ≡ Some row
        by true x = cc
        by false x = x

    removed_none : NoneFirst h.first (h.apps.retired ++ id ∷ []) (without_row id t.rows)
    removed_none q none out = by (is_app id q) refl (sym (row_gone id q t.rows) ∙ none) (sym (has_end h.apps.retired id q) ∙ out)
      where
        by : (b : Bool) → is_app id q ≡ b → gone_if b (row_of t.rows q) ≡ None → set_if b (has_app h.apps.retired q) ≡ false → record_of h.first.apps q ≡ None
        by true e x y = cc
        by false e x y = sides.none_first q x y

    removed_others : (q : AttemptId) → asks_others (attempt_asks t.asks q) ≡ true → goes_by q.number (row_of (without_row id t.rows) q.app) ≡ true
    removed_others q some = ap (goes_by q.number) (row_gone id q.app t.rows) ∙ by (is_app id q.app) refl
      where
        before : goes_by q.number (row_of t.rows q.app) ≡ true
        before = sides.others q some

        by : (b : Bool) → is_app id q.app ≡ b → goes_by q.number (gone_if b (row_of t.rows q.app)) ≡ true
        by false e = before
        by true e =
            let none : goes_by q.number (row_of t.rows q.app) ≡ false = subst (λ (a : AppId). goes_by q.number (row_of t.rows a) ≡ false) (same_app id q.app e) (not_going q.number) in
            absurd (false≢true (sym none ∙ before))

    removed_finishes : (q : AttemptId) → list_any (is_finished_op q) (drop 1 t.awaiting) ≡ finishes_by q (row_of (without_row id t.rows) q.app)
    removed_finishes q = front_finishes q (ops.Remove id) rest t.awaiting front refl ∙ sides.finishes q ∙ by (is_app id q.app) refl ∙ sym (ap (finishes_by q) (row_gone id q.app t.rows))
      where
        by : (b : Bool) → is_app id q.app ≡ b → finishes_by q (row_of t.rows q.app) ≡ finishes_by q (gone_if b (row_of t.rows q.app))
        by false e = refl
        by true e = subst (λ (a : AppId). finishes_by q (row_of t.rows a) ≡ false) (same_app id q.app e) (not_finishing q)

    pub removed_sides : (s : PreservesCore t.settings h t (KeptEntry (ops.Remove id), removed_next)) → AuxInvariant s.next removed_next
    removed_sides s =
        aux_after t.settings h t (KeptEntry (ops.Remove id)) removed_next removed_next s (h.apps.retired ++ id ∷ []) h.apps.submitted h.endings.releases refl
        (record {
          rows = record {
            silent = λ q row there_. sides.silent q row (left_row q row there_);
            firsts = λ q row there_. sides.firsts q row (left_row q.app row there_);
            none_first = removed_none;
            unfinished = λ q row there_. sides.unfinished q row (left_row q row there_);
            known = λ q. slot_empty id q t.rows leaves.one leaves.is ∙ ap (set_if (is_app id q)) (sides.retired q) ∙ sym (has_end h.apps.retired id q);
          };
          completes = completes_removed t removed_next id sides.completes leaves.not_completed refl refl refl refl (λ some. some);
          apt = apt_step t.tree (ops.Remove id) sides.apt tt;
          present = sides.present;
          others = removed_others;
          single = sides.single;
          waits = sides.waits;
          served = sides.served;
          offers = sides.offers;
          order = rw front (let o = rw front at sides.lists.order in o);
          going = going_left (record_of t.tree.apps id) refl leaves.ended;
          finishes = removed_finishes;
        })
