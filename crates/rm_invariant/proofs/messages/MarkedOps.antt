-- Each row with the released mark has its release on its way: each operation that is kept in an open life keeps it, since no container of an
-- attempt that is recorded becomes a master's.
use Rattle.rm_invariant.proofs.Common.{◌≡◌, ℕ, List, [], ◌∷◌, ◌++◌, Bool, true, false, Option, None, Some, find, map, refl, sym, ◌∙◌, ap, subst, if◌then◌else◌, list_any, false≢true, AppId, AttemptId, ContainerId, How, Op, Submission, AppRecord, AttemptRecord, Settings, is_app, is_attempt, is_container, new_record, record_of, with_end, attempt_itself, same_app, is_epoch_op, Row, SchedEvent, Tables, kept, is_masters_in, row_of, AppState, History, after, live_state, found_in, not, ◌&&◌, ◌||◌}
use Rattle.std.specs.Prelude.{option_map}
use Rattle.std.proofs.lemmas.List.{append-nil}
use Rattle.std.proofs.Common.{is_some}
use Rattle.std.proofs.lemmas.Bool.{or_parts}
use Rattle.rm_types.specs.declared.entries.Entry.TheVariants.{Kept}
use Rattle.rm_types.specs.declared.operations.Op.TheVariants as ops
use Rattle.rm_types.specs.Records.{apps_recorded}
use Rattle.rm_model.specs.Facts.{keeps}
use Rattle.rm_tables.specs.declared.events.SchedEvent.TheVariants as scheds
use Rattle.rm_tables.specs.Leaving.{is_own_or_unkept, masters_by, attempt_in, is_stale_of, stale_by}
use Rattle.rm_tables.specs.KeptOps.{removed_by}
use Rattle.rm_invariant.specs.apps.Invariant.{RowInvariant, StateInvariant}
use Rattle.rm_invariant.specs.Step.{AppsInvariant}
use Rattle.rm_invariant.specs.apps.View.{changed_if, gone_if, put_if, view}
use Rattle.rm_invariant.proofs.apps.Found.{found_gone, record_put}
use Rattle.rm_invariant.proofs.apps.Saving.{app_waits}
use Rattle.rm_invariant.proofs.apps.Recorded.{record_changed}
use Rattle.rm_invariant.specs.nodes.Book.{All}
use Rattle.rm_invariant.specs.Core.{PreservesCore}
use Rattle.rm_invariant.specs.messages.Released.{IsOnWay, ReleasesOnWay, is_release_of}
use Rattle.rm_invariant.proofs.messages.Shapes.{book_of}
use Rattle.rm_invariant.proofs.messages.Marked.{all_both, all_found, all_later, step_on_way}
use Rattle.rm_invariant.proofs.events.Entering.{all_weaker}

-- a recorded attempt is found where more follow, and where one ends
found_before : (p : AttemptRecord → Bool) (attempts more : List AttemptRecord) (one : AttemptRecord) → find p attempts ≡ Some one → find p (attempts ++ more) ≡ Some one
found_before p [] more one e = cc
found_before p (first ∷ attempts) more one e = by (p first) refl (found_before p attempts more one)
  where
    by : (b : Bool) → p first ≡ b → (find p attempts ≡ Some one → find p (attempts ++ more) ≡ Some one) → find p ((first ∷ attempts) ++ more) ≡ Some one
    by true f rest = rw f (rw f at e)
    by false f rest = rw f (rest (rw f at e))

module _ (id : AttemptId) (how : How) (text : List ℕ) where
  end_same : (one : AttemptRecord) → ((with_end id how text one).id ≡ one.id) × ((with_end id how text one).master ≡ one.master)
  end_same one = by (is_attempt one.id id)
    where
      by : (b : Bool) → ((if b then record one { ending = Some (how, text) } else one).id ≡ one.id) × ((if b then record one { ending = Some (how, text) } else one).master ≡ one.master)
      by true = (refl, refl)
      by false = (refl, refl)

  found_ended : (q : AttemptId) (attempts : List AttemptRecord) → find (λ one. is_attempt one.id q) (map (with_end id how text) attempts) ≡ option_map (with_end id how text) (find (λ one. is_attempt one.id q) attempts)
  found_ended q [] = refl
  found_ended q (one ∷ attempts) = by (is_attempt one.id q) refl (found_ended q attempts)
    where
      by : (b : Bool) → is_attempt one.id q ≡ b → find (λ one. is_attempt one.id q) (map (with_end id how text) attempts) ≡ option_map (with_end id how text) (find (λ one. is_attempt one.id q) attempts)
          → find (λ one. is_attempt one.id q) (map (with_end id how text) (one ∷ attempts)) ≡ option_map (with_end id how text) (find (λ one. is_attempt one.id q) (one ∷ attempts))
      by true e rest = let same = (end_same one).0 in rw (same, e) refl
      by false e rest = let same = (end_same one).0 in rw (same, e) rest

  own_ended : (c : ContainerId) (o : Option AttemptRecord) → is_own_or_unkept c (option_map (with_end id how text) o) ≡ is_own_or_unkept c o
  own_ended c None = refl
  own_ended c (Some one) = ap (λ (master : ContainerId). is_container master c) (end_same one).1

-- no container becomes a master's by an operation but the App of its application
masters_stay : (list : List AppRecord) (applied : ℕ) (op : Op) (c : ContainerId) → ((id : AppId) (s : Submission) → op ≡ ops.App id s → is_app id c.attempt.app ≡ false) → is_masters_in list c ≡ false
    → is_masters_in (apps_recorded list applied op) c ≡ false
masters_stay list applied (ops.Epoch next stamp) c other none = none
masters_stay list applied (ops.App id s) c other none =
    let apart = other id s refl in
    ap (masters_by c) (record_put (new_record id s) c.attempt.app list ∙ ap (λ (b : Bool). put_if b (new_record id s) (record_of list c.attempt.app)) apart) ∙ none
masters_stay list applied (ops.Attempt id master node) c other none =
    ap (masters_by c) (record_changed more (λ app. refl) id.app c.attempt.app list) ∙ by (is_app id.app c.attempt.app) (record_of list c.attempt.app) none
  where
    more : AppRecord → AppRecord
    more app = record app { attempts = app.attempts ++ record { id = id; master = master; node = node; ending = None } ∷ [] }

    known : (attempts : List AttemptRecord) (o : Option AttemptRecord) → find (λ one. is_attempt one.id c.attempt) attempts ≡ o → is_own_or_unkept c o ≡ false
        → is_own_or_unkept c (find (λ one. is_attempt one.id c.attempt) (attempts ++ record { id = id; master = master; node = node; ending = None } ∷ [])) ≡ false
    known attempts None e none = absurd (false≢true (sym none))
    known attempts (Some one) e none = ap (is_own_or_unkept c) (found_before (λ one. is_attempt one.id c.attempt) attempts _ one e) ∙ none

    by : (b : Bool) (o : Option AppRecord) → masters_by c o ≡ false → masters_by c (changed_if b more o) ≡ false
    by true None none = none
    by true (Some app) none = known app.attempts (find (λ one. is_attempt one.id c.attempt) app.attempts) refl none
    by false o none = none
masters_stay list applied (ops.AttemptEnd id how text) c other none =
    ap (masters_by c) (record_changed (λ app. record app { attempts = map (with_end id how text) app.attempts }) (λ app. refl) id.app c.attempt.app list) ∙ by (is_app id.app c.attempt.app) (record_of list c.attempt.app) none
  where
    by : (b : Bool) (o : Option AppRecord) → masters_by c o ≡ false → masters_by c (changed_if b (λ app. record app { attempts = map (with_end id how text) app.attempts }) o) ≡ false
    by true None none = none
    by true (Some app) none = ap (is_own_or_unkept c) (found_ended id how text c.attempt app.attempts) ∙ own_ended id how text c (find (λ one. is_attempt one.id c.attempt) app.attempts) ∙ none
    by false o none = none
masters_stay list applied (ops.AppEnd id how text) c other none =
    ap (masters_by c) (record_changed (λ app. record app { ending = Some (how, text); end_order = applied }) (λ app. refl) id c.attempt.app list) ∙ by (is_app id c.attempt.app) (record_of list c.attempt.app) none
  where
    by : (b : Bool) (o : Option AppRecord) → masters_by c o ≡ false → masters_by c (changed_if b (λ app. record app { ending = Some (how, text); end_order = applied }) o) ≡ false
    by true None none = none
    by true (Some app) none = none
    by false o none = none
masters_stay list applied (ops.Remove id) c other none = ap (masters_by c) (found_gone (λ (app : AppRecord). app.id) id c.attempt.app list) ∙ by (is_app id c.attempt.app) (record_of list c.attempt.app) none
  where
    by : (b : Bool) (o : Option AppRecord) → masters_by c o ≡ false → masters_by c (gone_if b o) ≡ false
    by true o none = refl
    by false o none = none

-- no container that was stale becomes wanted by an operation but the App of its application, and whether that keeps stays
abbrev Fresh : ContainerId → Option AppRecord → Option AppRecord → Type 0
Fresh c before now = stale_by c now ≡ false → (stale_by c before ≡ false) × (keeps now ≡ keeps before)

same_fresh : (c : ContainerId) (before now : Option AppRecord) → now ≡ before → Fresh c before now
same_fresh c before now e fresh = (ap (stale_by c) (sym e) ∙ fresh, ap keeps e)

unkept_fresh : (c : ContainerId) (app : AppRecord) (more : Bool) → attempt_in app c.attempt ≡ None → (is_some app.ending || more) ≡ false → stale_by c (Some app) ≡ false
unkept_fresh c app more e fresh = let open_ = (or_parts (is_some app.ending) more fresh).0 in rw (e, open_) refl

fresh_stays : (list : List AppRecord) (applied : ℕ) (op : Op) (c : ContainerId) → ((id : AppId) (s : Submission) → op ≡ ops.App id s → is_app id c.attempt.app ≡ false)
    → Fresh c (record_of list c.attempt.app) (record_of (apps_recorded list applied op) c.attempt.app)
fresh_stays list applied (ops.Epoch next stamp) c other = same_fresh c (record_of list c.attempt.app) (record_of list c.attempt.app) refl
fresh_stays list applied (ops.App id s) c other =
    let apart = other id s refl in
    same_fresh c (record_of list c.attempt.app) _ (record_put (new_record id s) c.attempt.app list ∙ ap (λ (b : Bool). put_if b (new_record id s) (record_of list c.attempt.app)) apart)
fresh_stays list applied (ops.Attempt id master node) c other =
    subst (Fresh c (record_of list c.attempt.app)) (sym (record_changed more (λ app. refl) id.app c.attempt.app list)) (by (is_app id.app c.attempt.app) (record_of list c.attempt.app))
  where
    more : AppRecord → AppRecord
    more app = record app { attempts = app.attempts ++ record { id = id; master = master; node = node; ending = None } ∷ [] }

    known : (app : AppRecord) (o : Option AttemptRecord) → attempt_in app c.attempt ≡ o → stale_by c (Some (more app)) ≡ false → stale_by c (Some app) ≡ false
    known app None e fresh = unkept_fresh c app _ e fresh
    known app (Some one) e fresh =
        ap (λ (o : Option AttemptRecord). is_some app.ending || is_stale_of app.submission.keep c o) (e ∙ sym (found_before (λ one. is_attempt one.id c.attempt) app.attempts _ one e)) ∙ fresh

    by : (b : Bool) (o : Option AppRecord) → Fresh c o (changed_if b more o)
    by true None fresh = (fresh, refl)
    by true (Some app) fresh = (known app (attempt_in app c.attempt) refl fresh, refl)
    by false o fresh = (fresh, refl)
fresh_stays list applied (ops.AttemptEnd id how text) c other =
    subst (Fresh c (record_of list c.attempt.app)) (sym (record_changed more (λ app. refl) id.app c.attempt.app list)) (by (is_app id.app c.attempt.app) (record_of list c.attempt.app))
  where
    more : AppRecord → AppRecord
    more app = record app { attempts = map (with_end id how text) app.attempts }

    ends : (a x l : Bool) → (a || (true && not l)) ≡ false → (a || (x && not l)) ≡ false
    ends true x l e = e
    ends false true l e = e
    ends false false l e = refl

    one_ends : (app : AppRecord) (one : AttemptRecord) → (is_some app.ending || is_stale_of app.submission.keep c (Some (with_end id how text one))) ≡ false → (is_some app.ending || is_stale_of app.submission.keep c (Some one)) ≡ false
    one_ends app one = at (is_attempt one.id id)
      where
        at : (b : Bool) → (is_some app.ending || is_stale_of app.submission.keep c (Some (if b then record one { ending = Some (how, text) } else one))) ≡ false → (is_some app.ending || is_stale_of app.submission.keep c (Some one)) ≡ false
        at true e = ends (is_some app.ending) (is_some one.ending) (app.submission.keep && not (is_container one.master c)) e
        at false e = e

    known : (app : AppRecord) (o : Option AttemptRecord) → attempt_in app c.attempt ≡ o → stale_by c (Some (more app)) ≡ false → stale_by c (Some app) ≡ false
    known app None e fresh = unkept_fresh c app _ e fresh
    known app (Some one) e fresh =
        ap (λ (o : Option AttemptRecord). is_some app.ending || is_stale_of app.submission.keep c o) e
        ∙ one_ends app one (ap (λ (o : Option AttemptRecord). is_some app.ending || is_stale_of app.submission.keep c o) (sym (found_ended id how text c.attempt app.attempts ∙ ap (option_map (with_end id how text)) e)) ∙ fresh)

    by : (b : Bool) (o : Option AppRecord) → Fresh c o (changed_if b more o)
    by true None fresh = (fresh, refl)
    by true (Some app) fresh = (known app (attempt_in app c.attempt) refl fresh, refl)
    by false o fresh = (fresh, refl)
fresh_stays list applied (ops.AppEnd id how text) c other =
    subst (Fresh c (record_of list c.attempt.app)) (sym (record_changed (λ app. record app { ending = Some (how, text); end_order = applied }) (λ app. refl) id c.attempt.app list)) (by (is_app id c.attempt.app) (record_of list c.attempt.app))
  where
    by : (b : Bool) (o : Option AppRecord) → Fresh c o (changed_if b (λ app. record app { ending = Some (how, text); end_order = applied }) o)
    by true None fresh = (fresh, refl)
    by true (Some app) fresh = absurd (false≢true (sym fresh))
    by false o fresh = (fresh, refl)
fresh_stays list applied (ops.Remove id) c other =
    subst (Fresh c (record_of list c.attempt.app)) (sym (found_gone (λ (app : AppRecord). app.id) id c.attempt.app list)) (by (is_app id c.attempt.app) (record_of list c.attempt.app))
  where
    by : (b : Bool) (o : Option AppRecord) → Fresh c o (gone_if b o)
    by true o fresh = absurd (false≢true (sym fresh))
    by false o fresh = (fresh, refl)

-- what is posted once an operation is kept
record Posts (t : Tables) (op : Op) : Type 0 where
  pub more : List SchedEvent
  pub sched : (kept op t).sched ≡ t.sched ++ more

op_posts : (t : Tables) (op : Op) → is_epoch_op op ≡ false → Posts t op
op_posts t (ops.Epoch next stamp) e = absurd (false≢true (sym e))
op_posts t (ops.AttemptEnd id how text) e = record { more = scheds.AttemptRemoved id ∷ []; sched = refl }
op_posts t (ops.AppEnd id how text) e = record { more = removed_by (row_of t.rows id) (keeps (found_in (kept (ops.AppEnd id how text) t) id)) id; sched = refl }
op_posts t _ e = record { more = []; sched = sym (append-nil t.sched) }

module _ (settings : Settings) (h : History) (t : Tables) (k : AppsInvariant settings h t) (on : ReleasesOnWay h t) (op : Op) (rest : List Op) (front : t.awaiting ≡ op ∷ rest) (not_epoch : is_epoch_op op ≡ false) where
  -- an application that is being saved has no container
  not_of_app : (row : Row) → list_any (λ one. is_attempt one.id.attempt row.id.attempt) h.book ≡ true → (id : AppId) (s : Submission) → op ≡ ops.App id s → is_app id row.id.attempt.app ≡ false
  not_of_app row held id s is = by (is_app id row.id.attempt.app) refl
    where
      by : (b : Bool) → is_app id row.id.attempt.app ≡ b → is_app id row.id.attempt.app ≡ false
      by false e = e
      by true e =
          let q : AttemptId = row.id.attempt in
          let waits = app_waits settings h t k id s rest (subst (λ (one : Op). t.awaiting ≡ one ∷ rest) is front) in
          let found : row_of t.rows q.app ≡ Some waits.one = ap (row_of t.rows) (sym (same_app id q.app e)) ∙ waits.is in
          let says : RowInvariant settings q (Some waits.one) (view h t q) = rw found at (k.all q) in
          let saving = subst (λ (s : AppState). StateInvariant settings q s waits.one (view h t q)) waits.state says.1 in
          absurd (let x : false ≡ true = sym saving.0.not_held ∙ held in false≢true x)

  pub kept_on_way : (s : PreservesCore settings h t (Kept op, kept op t)) → ReleasesOnWay s.next (kept op t)
  kept_on_way s =
      let p = op_posts t op not_epoch in
      let P : Row → Type 0 = λ row. list_any (λ one. is_attempt one.id.attempt row.id.attempt) h.book ≡ true in
      let Q : Row → Type 0 = IsOnWay t.tree.apps (t.sched ++ p.more) in
      let found : All P h.book = all_found (λ one row. is_attempt one.id.attempt row.id.attempt) (λ row. attempt_itself row.id.attempt) h.book in
      let later : All Q h.book = all_later t.tree.apps t.sched p.more h.book on in
      step_on_way settings h t (Kept op) (kept op t) s h.book (same_book op)
      (subst (λ (r : List AppRecord). All (IsOnWay r (kept op t).sched) h.book) (sym (tree_is op not_epoch))
      (subst (λ (l : List SchedEvent). All (IsOnWay (apps_recorded t.tree.apps t.tree.applied op) l) h.book) (sym p.sched)
      (all_weaker (λ row. P row × Q row) (IsOnWay (apps_recorded t.tree.apps t.tree.applied op) (t.sched ++ p.more))
      (λ row both marked fresh.
      let f = fresh_stays t.tree.apps t.tree.applied op row.id (not_of_app row both.0) fresh in
      let way = both.1 marked f.0 in
      (ap (λ (keep : Bool). list_any (is_release_of keep row.id) (t.sched ++ p.more)) f.1 ∙ way.0, masters_stay t.tree.apps t.tree.applied op row.id (not_of_app row both.0) way.1)) h.book (all_both P Q h.book found later))))
    where
      same_book : (op : Op) → book_of (after (live_state h t) (Kept op)) ≡ Some h.book
      same_book (ops.Epoch next stamp) = refl
      same_book _ = refl

      tree_is : (op : Op) → is_epoch_op op ≡ false → (kept op t).tree.apps ≡ apps_recorded t.tree.apps t.tree.applied op
      tree_is (ops.Epoch next stamp) e = refl
      tree_is _ e = refl

-- a life opens with no container
pub opened_on_way : (h : History) (t : Tables) → h.book ≡ [] → ReleasesOnWay h t
opened_on_way h t none = subst (All (IsOnWay t.tree.apps t.sched)) (sym none) tt
