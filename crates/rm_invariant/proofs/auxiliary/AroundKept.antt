-- An operation that is kept leaves what tables and judge tell alike around a restart: none is of the application of an attempt that lives.
use Rattle.rm_invariant.proofs.Common.{◌≡◌, ◌≤◌, ◌⊎◌, inl, inr, ℕ, ◌+◌, suc, List, [], ◌∷◌, ◌++◌, Bool, true, false, ◌&&◌, not, Option, None, Some, map, length, drop, refl, sym, ◌∙◌, ap, subst, arith, false≢true, AppId, AttemptId, ContainerId, Op, is_app, same_app, BookRow, Row, AppRecord, Records, record_of, recorded, AppRow, AttemptState, Current, row_of, with_row, Settings, Tables, History, abstract_scene, live_state, after, changed, kept, fits_records, is_app_op, is_app_end_op, BookOf, has_container, without_row, app_itself}
use Rattle.std.proofs.Common.{◌==◌, count_by, nat_lt}
use Rattle.rm_types.specs.declared.entries.Entry.TheVariants.{Kept as KeptEntry}
use Rattle.rm_types.specs.declared.operations.Op.TheVariants as ops
use Rattle.rm_states.specs.declared.attempt.states.AttemptState.TheVariants as attempts
use Rattle.rm_states.specs.attempt.Table.{is_alive}
use Rattle.rm_model.specs.Attempts.{is_masters}
use Rattle.rm_model.specs.Containers.{is_earlier}
use Rattle.rm_model.specs.Facts.{is_epoch_op, keeps, is_remove_op, attempts_in}
use Rattle.rm_tables.specs.declared.changes.AttemptChange.TheVariants as of_attempt
use Rattle.rm_tables.specs.declared.changes.RowChange.TheVariants as of_app
use Rattle.rm_tables.specs.Leaving.{is_masters_in}
use Rattle.rm_refinement.specs.Services.{lives_by, lives_with}
use Rattle.rm_laws.proofs.Views.{is_of, other_view}
use Rattle.rm_invariant.specs.apps.Invariant.{CurrentInvariant, RowInvariant, ops_of}
use Rattle.rm_invariant.specs.apps.View.{View, view, is_attempt_op_of, is_attempt_end_op_of, op_view, gone_if}
use Rattle.rm_invariant.specs.Core.{CoreInvariant, PreservesCore}
use Rattle.rm_invariant.specs.Step.{AppsInvariant}
use Rattle.rm_invariant.specs.auxiliary.Around.{AroundInvariant}
use Rattle.rm_invariant.proofs.apps.Counts.{at_front}
use Rattle.rm_invariant.proofs.apps.Own.{active_row}
use Rattle.rm_invariant.proofs.masters.Masters.{masters_same}
use Rattle.rm_invariant.proofs.masters.Saying.{active_of, goes_on as attempt_goes_on}
use Rattle.rm_invariant.proofs.auxiliary.AroundBook.{late_by, late_told_by, scene_of}
use Rattle.rm_types.proofs.TestLemmas.{number_itself}
use Rattle.rm_book.specs.Books.{TellUpTo}
use Rattle.rm_invariant.specs.messages.Fits.{EachRowFits, FitsCurrent}
use Rattle.rm_invariant.specs.events.Here.{FirstsKnown}
use Rattle.rm_invariant.proofs.apps.Effects.{op_taken}
use Rattle.rm_invariant.proofs.apps.Removing.{row_gone}
use Rattle.rm_invariant.proofs.masters.AwaitingAttempts.{AttemptAwaits, attempt_awaits, with_attempt_op}
use Rattle.rm_invariant.proofs.auxiliary.Around.{GoesOn, RowsGoOn, changed_go, one_goes}
use Rattle.rm_invariant.proofs.auxiliary.AroundEvents.{around_in, firsts_told, moved_around, same_some}

-- WHAT IS RECORDED OF OTHER APPLICATIONS

each_same : {X : Type 0} (p q : X → Bool) → ((x : X) → p x ≡ q x) → (xs : List X) → map p xs ≡ map q xs
each_same p q same [] = refl
each_same p q same (x ∷ xs) = rw (same x, each_same p q same xs) refl

module _ (old new : Records) (q : AttemptId) (same : record_of new.apps q.app ≡ record_of old.apps q.app) where
  masters_stay : (id : ContainerId) → id.attempt.app ≡ q.app → is_masters_in new.apps id ≡ is_masters_in old.apps id
  masters_stay id own =
      let found : record_of new.apps id.attempt.app ≡ record_of old.apps id.attempt.app = subst (λ (app : AppId). record_of new.apps app ≡ record_of old.apps app) (sym own) same in
      rw found refl

  masters_told : (id : ContainerId) → id.attempt.app ≡ q.app → is_masters (scene_of new) id ≡ is_masters (scene_of old) id
  masters_told id own = sym (masters_same (scene_of new) id) ∙ masters_stay id own ∙ masters_same (scene_of old) id

  earlier_app : (one : AttemptId) → is_earlier one q ≡ true → one.app ≡ q.app
  earlier_app one e = by (is_app one.app q.app) refl e
    where
      by : (b : Bool) → is_app one.app q.app ≡ b → (b && nat_lt one.number q.number) ≡ true → one.app ≡ q.app
      by true own x = same_app one.app q.app own
      by false own x = cc

  late_stays_by : (since : ℕ) (row : BookRow) → late_by new.apps q since row ≡ late_by old.apps q since row
  late_stays_by since row = by (is_earlier row.id.attempt q) refl
    where
      by : (b : Bool) → is_earlier row.id.attempt q ≡ b → late_by new.apps q since row ≡ late_by old.apps q since row
      by true e =
          ap (λ (k : Option AppRecord). keeps k && (is_earlier row.id.attempt q && (nat_lt since row.told && not (is_masters_in new.apps row.id)))) same
          ∙ ap (λ (b : Bool). keeps (record_of old.apps q.app) && (is_earlier row.id.attempt q && (nat_lt since row.told && not b))) (masters_stay row.id (earlier_app row.id.attempt e))
      by false e = rw e (ap (λ (k : Option AppRecord). keeps k && false) same)

  late_stays_told : (row : Row) → late_told_by new q row ≡ late_told_by old q row
  late_stays_told row = by (is_earlier row.id.attempt q) refl
    where
      by : (b : Bool) → is_earlier row.id.attempt q ≡ b → late_told_by new q row ≡ late_told_by old q row
      by true e =
          ap (λ (k : Option AppRecord). keeps k && (is_earlier row.id.attempt q && (row.untold && not (is_masters (scene_of new) row.id)))) same
          ∙ ap (λ (b : Bool). keeps (record_of old.apps q.app) && (is_earlier row.id.attempt q && (row.untold && not b))) (masters_told row.id (earlier_app row.id.attempt e))
      by false e = rw e (ap (λ (k : Option AppRecord). keeps k && false) same)

  pub late_recorded : (since : ℕ) (rows : List BookRow) (book : List Row) → map (late_by old.apps q since) rows ≡ map (late_told_by old q) book → map (late_by new.apps q since) rows ≡ map (late_told_by new q) book
  late_recorded since rows book e =
      each_same (late_by new.apps q since) (late_by old.apps q since) (late_stays_by since) rows ∙ e ∙ sym (each_same (late_told_by new q) (late_told_by old q) late_stays_told book)

-- OF AN ATTEMPT THAT LIVES NO OPERATION AWAITS

module _ (settings : Settings) (h : History) (t : Tables) (k : AppsInvariant settings h t) (q : AttemptId) (lives : lives_by q (row_of t.rows q.app) ≡ true) where
  no_ops : ops_of (view h t q).count ≡ 0
  no_ops = by (row_of t.rows q.app) refl lives (k.all q)
    where
      alive_goes : (s : AttemptState) → is_alive s ≡ true → attempt_goes_on s ≡ true
      alive_goes s e = grind arith

      at : (wish : Bool) (id : AttemptId) (s : AttemptState) → is_alive s ≡ true → CurrentInvariant settings s id wish (view h t q) → ops_of (view h t q).count ≡ 0
      at wish id attempts.Live e says = says.1
      at wish id attempts.Registered e says = says.1
      at wish id attempts.Finishing e says = says.1
      at wish id _ e says = cc

      second : (a b : Bool) → (a && b) ≡ true → b ≡ true
      second true b e = e
      second false b e = cc

      by : (o : Option AppRow) → row_of t.rows q.app ≡ o → lives_by q o ≡ true → RowInvariant settings q o (view h t q) → ops_of (view h t q).count ≡ 0
      by None found e says = cc
      by (Some row) found e says = of row.current refl e
        where
          of : (c : Option Current) → row.current ≡ c → lives_with q c ≡ true → ops_of (view h t q).count ≡ 0
          of None is x = cc
          of (Some current) is x =
              let alive = second (current.number == q.number) (is_alive current.state) x in
              let active = active_of settings q row (view h t q) current is (alive_goes current.state alive) says in
              let a = (active_row settings q row (view h t q) active says).current in
              let here = rw is at a in
              at row.wish (record { app = q.app; number = current.number }) current.state alive here.0

  pub none_of : (op : Op) (rest : List Op) → t.awaiting ≡ op ∷ rest → is_of q.app op ≡ false
  none_of op rest front = by (is_of q.app op) refl
    where
      counted : (p : Op → Bool) → p op ≡ true → count_by p t.awaiting ≡ suc (count_by p rest)
      counted p own = ap (count_by p) front ∙ (at_front p op rest ∙ rw own refl)

      of : (one : Op) → op ≡ one → is_of q.app one ≡ true → ⊥
      of (ops.Epoch next stamp) is own = cc
      of (ops.App id s) is own = let n = no_ops in let c = counted (is_app_op q.app) (rw is own) in omega (arith, n, c)
      of (ops.Attempt id master node) is own = let n = no_ops in let c = counted (is_attempt_op_of q.app) (rw is own) in omega (arith, n, c)
      of (ops.AttemptEnd id how text) is own = let n = no_ops in let c = counted (is_attempt_end_op_of q.app) (rw is own) in omega (arith, n, c)
      of (ops.AppEnd id how text) is own = let n = no_ops in let c = counted (is_app_end_op q.app) (rw is own) in omega (arith, n, c)
      of (ops.Remove id) is own = let n = no_ops in let c = counted (is_remove_op q.app) (rw is own) in omega (arith, n, c)

      by : (b : Bool) → is_of q.app op ≡ b → b ≡ false
      by true own = absurd (of op refl own)
      by false own = refl

-- AN OPERATION IS KEPT

module _ (h : History) (t : Tables) (w : CoreInvariant t.settings h t) (a : AroundInvariant h t) (fit : EachRowFits t) (op : Op) (rest : List Op) (front : t.awaiting ≡ op ∷ rest) (s : PreservesCore t.settings h t (KeptEntry op, kept op t))
    (firsts : FirstsKnown (abstract_scene s.next (kept op t)) (kept op t).rows) where
  abbrev next : Tables
  next = kept op t

  put_together : around_in (after (live_state h t) (KeptEntry op)) ≡ Some (h.book, h.endings.left, h.endings.pending) → next.settings ≡ t.settings → next.epoch ≡ t.epoch → next.departed ≡ t.departed → next.pending ≡ t.pending → next.book ≡ t.book
      → next.tree ≡ recorded t.tree op → RowsGoOn t.rows next.rows → AroundInvariant s.next next
  put_together was settings epoch departed pending in_book tree goes =
      let told : (h.book, h.endings.left, h.endings.pending) ≡ (s.next.book, s.next.endings.left, s.next.endings.pending) = same_some (sym was ∙ ap around_in s.step.same) in
      let book : h.book ≡ s.next.book = ap (λ (p : List Row × List ContainerId × List ContainerId). p.0) told in
      let left : h.endings.left ≡ s.next.endings.left = ap (λ (p : List Row × List ContainerId × List ContainerId). p.1) told in
      let waiting : s.next.endings.pending ≡ h.endings.pending = sym (ap (λ (p : List Row × List ContainerId × List ContainerId). p.2) told) in
      moved_around h s.next t next settings pending waiting (subst (λ (b : BookOf). t.book.added ≤ b.added) (sym in_book) (omega arith)) goes (firsts_told t.settings s.next next s.whole firsts)
      (λ r id below. ap (λ (ids : List ContainerId). has_container ids id) departed ∙ a.agrees.departed r id (ap (nat_lt id.epoch) (sym epoch) ∙ below) ∙ ap (λ (ids : List ContainerId). has_container ids id) left)
      (λ r. subst (λ (b : BookOf). TellUpTo 0 b.added b.rows) (sym in_book) (a.agrees.numbers r))
      (λ q since few lives e.
      let same : record_of (recorded t.tree op).apps q.app ≡ record_of t.tree.apps q.app = other_view q.app t.tree op (none_of t.settings h t w.keeps q lives op rest front) in
      let now = late_recorded t.tree (recorded t.tree op) q same since t.book.rows h.book e in
      subst (λ (r : Records). map (late_by r.apps q since) next.book.rows ≡ map (late_told_by r q) s.next.book) (sym tree)
      (subst (λ (b : BookOf). map (late_by (recorded t.tree op).apps q since) b.rows ≡ map (late_told_by (recorded t.tree op) q) s.next.book) (sym in_book)
      (subst (λ (rows : List Row). map (late_by (recorded t.tree op).apps q since) t.book.rows ≡ map (late_told_by (recorded t.tree op) q) rows) book now)))
      a

-- with the master of an attempt that is being saved nobody spoke
saved_silent : (settings : Settings) (h : History) (t : Tables) (k : AppsInvariant settings h t) (fit : EachRowFits t) (id : AttemptId) (master : ContainerId) (node : List ℕ) (rest : List Op) → t.awaiting ≡ ops.Attempt id master node ∷ rest
    → (row : AppRow) → row_of t.rows id.app ≡ Some row → row.dialogue ≡ None
saved_silent settings h t k fit id master node rest front row found = by row.current refl (fit id.app row found)
  where
    left : Tables
    left = record t { awaiting = drop 1 t.awaiting }

    with_self : op_view id (ops.Attempt id master node) (view h left id) ≡ with_attempt_op id (view h left id)
    with_self = rw (app_itself id.app, number_itself id.number) refl

    awaits : AttemptAwaits settings id (row_of t.rows id.app) (view h left id)
    awaits = attempt_awaits settings id (view h left id) (row_of t.rows id.app) (subst (λ (v : View). RowInvariant settings id (row_of t.rows id.app) v) (op_taken h t id (ops.Attempt id master node) rest front ∙ with_self) (k.all id))

    same : awaits.one ≡ row
    same = let x : Some awaits.one ≡ Some row = sym awaits.is ∙ found in cc

    is : row.current ≡ Some awaits.current
    is = ap (λ (one : AppRow). one.current) (sym same) ∙ awaits.current_is

    number : awaits.current.number ≡ length (attempts_in (record_of t.tree.apps id.app)) + 1
    number = awaits.number ∙ awaits.next

    by : (c : Option Current) → row.current ≡ c → FitsCurrent (record_of t.tree.apps id.app) row.dialogue c → row.dialogue ≡ None
    by None none fits = let x : None ≡ Some awaits.current = sym none ∙ is in cc
    by (Some current) here (inl last) =
        let one : current ≡ awaits.current = (let x : Some current ≡ Some awaits.current = sym here ∙ is in cc) in
        let n : current.number ≡ awaits.current.number = ap (λ (c : Current). c.number) one in
        absurd (let m = number in let l = last.1 in omega (arith, n, m, l))
    by (Some current) here (inr later) = later.2

module _ (h : History) (t : Tables) (w : CoreInvariant t.settings h t) (a : AroundInvariant h t) (fit : EachRowFits t) where
  abbrev Keeps : Op → Type 0
  Keeps op = (rest : List Op) → t.awaiting ≡ op ∷ rest → is_epoch_op op ≡ false → (s : PreservesCore t.settings h t (KeptEntry op, kept op t)) → FirstsKnown (abstract_scene s.next (kept op t)) (kept op t).rows → AroundInvariant s.next (kept op t)

  removed_go : (id : AppId) → RowsGoOn t.rows (without_row id t.rows)
  removed_go id q now found = by (is_app id q) refl (sym (row_gone id q t.rows) ∙ found)
    where
      by : (b : Bool) → is_app id q ≡ b → gone_if b (row_of t.rows q) ≡ Some now → GoesOn t.rows q now
      by true e gone = cc
      by false e there = inr (now, there, refl, λ z lives. lives)

  pub kept_around : (op : Op) → Keeps op
  kept_around (ops.Epoch next stamp) rest front other s firsts = cc
  kept_around (ops.App id submission) rest front other s firsts = put_together h t w a fit (ops.App id submission) rest front s firsts refl refl refl refl refl refl refl (changed_go id of_app.Keep refl t.rows)
  kept_around (ops.Attempt id master node) rest front other s firsts =
      put_together h t w a fit (ops.Attempt id master node) rest front s firsts refl refl refl refl refl refl refl
      (one_goes id.app (changed (of_app.OfAttempt of_attempt.Keep)) t.rows (λ row found. inl (saved_silent t.settings h t w.keeps fit id master node rest front row found)))
  kept_around (ops.AttemptEnd id how text) rest front other s firsts =
      put_together h t w a fit (ops.AttemptEnd id how text) rest front s firsts refl refl refl refl refl refl refl (changed_go id.app (of_app.OfAttempt (of_attempt.KeepEnd how)) refl t.rows)
  kept_around (ops.AppEnd id how text) rest front other s firsts = put_together h t w a fit (ops.AppEnd id how text) rest front s firsts refl refl refl refl refl refl refl (changed_go id (of_app.KeepEnd how) refl t.rows)
  kept_around (ops.Remove id) rest front other s firsts = put_together h t w a fit (ops.Remove id) rest front s firsts refl refl refl refl refl refl refl (removed_go id)
