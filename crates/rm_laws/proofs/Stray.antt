-- No operation is stray.
use Rattle.rm_laws.proofs.Common.{◌≡◌, ◌⊎◌, ℕ, ◌+◌, ◌≤◌, List, [], ◌∷◌, ◌++◌, length, Bool, true, false, ◌||◌, ◌&&◌, not, cond, ◌==◌, Option, None, Some, is_some, is_none, filter, find, fold, count_by, refl, sym, ap, subst, arith, ◌∙◌, inl, inr, append_assoc, nat_lt, list_any, list_all, bytes_eq, nat_tests, fold_push, any-filter_same, or_right, or_left, not-true, or_parts, and_parts, AskOf, AppId, AttemptId, ContainerId, How, Op, Epoch, App, Attempt, AttemptEnd, AppEnd, Remove, Submission, Submitted, AppRecord, AttemptRecord, Settings, is_app, is_attempt, is_container, Records, records, recorded, no_records, record_of, fits_records, all_ended, is_some_and, last_attempt, same_app, is_some-find, LifeState, Manager, Row, scene, has_app, is_app_op, is_app_end_op, is_epoch_op, is_remove_op, is_submitted, attempts_in, end_in, MayIssue, life_keeps}
use Rattle.rm_types.proofs.IdLemmas.{app_itself}
use Rattle.rm_types.proofs.TestLemmas.{none_from_is_some, found_passes}
use Rattle.rm_model.specs.Facts.{app_issued, is_attempt_op, is_completed}
use Rattle.rm_model.specs.Issuing.{MayIssueApp, MayIssueAttempt, MayIssueAttemptEnd, MayIssueAppEnd, MayIssueRemove, is_completed_before}
use Rattle.rm_model.specs.Changes.{asks_without}
use Rattle.rm_laws.proofs.Stamps.{Phase, Sound}
use Rattle.rm_laws.proofs.Phases.{state}
use Rattle.rm_laws.proofs.Told.{AreKnown, Known, has_record, any-filter, pushed}
use Rattle.rm_laws.proofs.Counts.{count_front, count_join, count_none, count_one}
use Rattle.rm_laws.proofs.Views.{Fitting, fitting-append, fitting-front}
use Rattle.rm_laws.proofs.Fine.{Fine, all_fine, some_and}
use Rattle.rm_laws.proofs.Issues.{app_fits, app_end_fits, attempt_end_fits, attempt_fits, remove_fits}
use Rattle.rm_laws.proofs.Pending.{Pend, Pending, asks_for, lives_for, fewer, more, op_pends, retired_by}

-- what a life's parts have to do with what is kept and what awaits
pub record Sane (kept awaiting : List Op) (life : LifeState) : Type 0 where
  pub retired_out : (id : AppId) → has_app life.apps.retired id ≡ true → is_submitted life.apps.submitted id ≡ true → ⊥
  pub apps_wait : (id : AppId) → list_any (is_app_op id) awaiting ≡ true → is_submitted life.apps.submitted id ≡ true
  pub apps_once : (id : AppId) → count_by (is_app_op id) awaiting ≤ 1
  pub pending : Pending (records kept).apps life.apps.retired life.asks life.book

abbrev pub SaneIn : List Op → List Op → Option LifeState → Type 0
SaneIn kept awaiting None = Unit {0}
SaneIn kept awaiting (Some life) = Sane kept awaiting life

-- all that is carried along a log
pub record Whole (s : Manager) : Type 0 where
  pub fit : Fitting no_records (s.kept ++ s.awaiting)
  pub sound : Sound s
  pub known : Known s.kept s.life
  pub sane : SaneIn s.kept s.awaiting s.life

fold-append : (r : Records) (xs ys : List Op) → fold recorded r (xs ++ ys) ≡ fold recorded (fold recorded r xs) ys
fold-append r [] ys = refl
fold-append r (op ∷ xs) ys = fold-append (recorded r op) xs ys

find_there : {X : Type 0} (p q : X → Bool) (xs : List X) (x : X) → find p xs ≡ Some x → q x ≡ true → list_any q xs ≡ true
find_there p q [] x h t = cc
find_there p q (y ∷ xs) x h t = go (p y) h (find_there p q xs x)
  where
    go : (b : Bool) → cond b (Some y) (find p xs) ≡ Some x → (find p xs ≡ Some x → q x ≡ true → list_any q xs ≡ true) → (q y || list_any q xs) ≡ true
    go true h more = let same : x ≡ y = cc in or_left (q y) (list_any q xs) (subst (λ (z : _). q z ≡ true) same t)
    go false h more = or_right (q y) (list_any q xs) (more h t)

any_implies : {X : Type 0} (p q : X → Bool) → ((x : X) → p x ≡ true → q x ≡ true) → (xs : List X) → list_any p xs ≡ true → list_any q xs ≡ true
any_implies p q h [] a = cc
any_implies p q h (x ∷ xs) a = go (p x) refl (q x) refl a (any_implies p q h xs)
  where
    go : (b : Bool) → p x ≡ b → (c : Bool) → q x ≡ c → (b || list_any p xs) ≡ true → (list_any p xs ≡ true → list_any q xs ≡ true) → (c || list_any q xs) ≡ true
    go b e true f a more = refl
    go true e false f a more = absurd (let t = h x e in let y : false ≡ true = sym f ∙ t in cc)
    go false e false f a more = more a

same_attempt : (a b : ContainerId) → is_container a b ≡ true → is_attempt a.attempt b.attempt ≡ true
same_attempt a b h = (and_parts (is_attempt a.attempt b.attempt) ((a.epoch == b.epoch) && (a.seq == b.seq)) h).0

some_of : {X : Type 0} (o : Option X) → is_some o ≡ true → (x : X) × (o ≡ Some x)
some_of None h = cc
some_of (Some x) h = (x, refl)

none_is : {X : Type 0} (o : Option X) → is_some o ≡ false → is_none o ≡ true
none_is None h = refl
none_is (Some x) h = cc

-- an operation that may be issued fits
module _ (settings : Settings) (kept awaiting : List Op) (blew : Bool) (life : LifeState) (w : Whole (state kept awaiting blew (Some life))) where
  pub fits_kept : Fitting no_records kept × Fitting (records kept) awaiting
  fits_kept = fitting-front no_records kept awaiting w.fit

  pub fine : (id : AppId) → Fine (record_of (records kept).apps id)
  fine id = all_fine id no_records kept tt fits_kept.0

  -- by the record of its application
  by_app : (id : AppId) (how : How) (text : List ℕ) → MayIssueAppEnd settings (scene (state kept awaiting blew (Some life)) life) id how text → fits_records (fold recorded (records kept) awaiting) (AppEnd id how text) ≡ true
  by_app id how text may =
      let s = some_of (record_of (records kept).apps id) may.kept in
      let n = or_parts (list_any (is_app_end_op id) awaiting) _ may.not_issued in
      let goes : is_none s.0.ending ≡ true = none_is s.0.ending (subst (λ (o : Option AppRecord). is_some (end_in o) ≡ false) s.1 n.1) in
      let ended : all_ended s.0.attempts ≡ true = subst (λ (o : Option AppRecord). all_ended (attempts_in o) ≡ true) s.1 may.ended in
      let waits = subst (λ (o : Option AppRecord). list_any (is_attempt_op (record { app = id; number = length (attempts_in o) + 1 })) awaiting ≡ false) s.1 may.no_attempt in
      app_end_fits id (records kept) awaiting fits_kept.1 s.0 s.1 (record { goes = goes; ended = ended }) n.0 waits how text

  by_last : (id : AttemptId) (how : How) (text : List ℕ) → MayIssueAttemptEnd (scene (state kept awaiting blew (Some life)) life) id how text → fits_records (fold recorded (records kept) awaiting) (AttemptEnd id how text) ≡ true
  by_last id how text may = go (record_of (records kept).apps id.app) refl
    where
      go : (o : Option AppRecord) → record_of (records kept).apps id.app ≡ o → fits_records (fold recorded (records kept) awaiting) (AttemptEnd id how text) ≡ true
      go None e = absurd (let x : false ≡ true = ap (λ (o : Option AppRecord). is_some_and (λ (last : AttemptRecord). is_attempt last.id id && is_none last.ending) (last_attempt (attempts_in o))) (sym e) ∙ may.current in cc)
      go (Some app) e =
          let live = ap (λ (o : Option AppRecord). is_some_and (λ (last : AttemptRecord). is_attempt last.id id && is_none last.ending) (last_attempt (attempts_in o))) (sym e) ∙ may.current in
          attempt_end_fits id.app (records kept) awaiting fits_kept.1 id app (app_itself id.app) e (subst Fine e (fine id.app)) live may.not_issued how text

  by_completed : (id : AppId) → MayIssueRemove settings (scene (state kept awaiting blew (Some life)) life) id → fits_records (fold recorded (records kept) awaiting) (Remove id) ≡ true
  by_completed id may =
      let m = scene (state kept awaiting blew (Some life)) life in
      let s = some_and (λ app. is_completed m app && list_all (is_completed_before m app) m.records.apps) (record_of (records kept).apps id) may.first in
      let c = and_parts (is_completed m s.0) (list_all (is_completed_before m s.0) m.records.apps) s.2 in
      let d = and_parts (is_some s.0.ending) (not (list_any (is_remove_op s.0.id) awaiting)) c.0 in
      let same = same_app s.0.id id (found_passes (λ (app : AppRecord). is_app app.id id) (records kept).apps s.0 s.1) in
      let waits = subst (λ (i : AppId). list_any (is_remove_op i) awaiting ≡ false) same (not-true (list_any (is_remove_op s.0.id) awaiting) d.1) in
      remove_fits id (records kept) awaiting fits_kept.1 s.0 s.1 d.0 (subst Fine s.1 (fine id)) waits

  pub by_submitted : (id : AppId) (submission : Submission) → MayIssueApp (scene (state kept awaiting blew (Some life)) life) id submission
      → (list_any (is_app_op id) awaiting ≡ false) × (record_of (records kept).apps id ≡ None)
  by_submitted id submission may =
      let m = scene (state kept awaiting blew (Some life)) life in
      let p = found_passes (λ (one : Submitted). not (app_issued m one.id)) life.apps.submitted (record { id = id; submission = submission }) may.first in
      let n = or_parts (list_any (is_app_op id) awaiting) (is_some (record_of (records kept).apps id)) (not-true _ p) in
      (n.0, none_from_is_some (record_of (records kept).apps id) n.1)

  by_row : (id : AttemptId) (master : ContainerId) (node : List ℕ) → MayIssueAttempt (scene (state kept awaiting blew (Some life)) life) id master node
      → fits_records (fold recorded (records kept) awaiting) (Attempt id master node) ≡ true
  by_row id master node may = go (record_of (records kept).apps id.app) refl
    where
      lives : lives_for life.book id ≡ true
      lives =
          subst (λ (t : AttemptId). lives_for life.book t ≡ true) may.of_it
          (any_implies (λ (row : Row). is_container row.id master && bytes_eq row.node node) (λ row. is_attempt row.id.attempt master.attempt)
          (λ row at. same_attempt row.id master (and_parts (is_container row.id master) (bytes_eq row.node node) at).0) life.book may.living)

      pend : Pend (record_of (records kept).apps id.app) life.apps.retired id
      pend = w.sane.pending id (or_right (asks_for life.asks id) (lives_for life.book id) lives)

      go : (o : Option AppRecord) → record_of (records kept).apps id.app ≡ o → fits_records (fold recorded (records kept) awaiting) (Attempt id master node) ≡ true
      go None e =
          let gone : has_app life.apps.retired id.app ≡ true = subst (λ (o : Option AppRecord). Pend o life.apps.retired id) e pend in
          let there : is_submitted life.apps.submitted id.app ≡ true = submitted (is_submitted life.apps.submitted id.app) (ap (λ (o : Option AppRecord). is_submitted life.apps.submitted id.app || is_some o) (sym e) ∙ may.known) in
          absurd (w.sane.retired_out id.app gone there)
        where
          submitted : (b : Bool) → (b || false) ≡ true → b ≡ true
          submitted true h = refl
          submitted false h = cc
      go (Some app) e =
          let n = or_parts (list_any (is_app_end_op id.app) awaiting) _ may.no_end in
          let goes : is_none app.ending ≡ true = none_is app.ending (subst (λ (o : Option AppRecord). is_some (end_in o) ≡ false) e n.1) in
          let next : id ≡ record { app = id.app; number = length app.attempts + 1 } = may.next ∙ ap (λ (o : Option AppRecord). let t : AttemptId = record { app = id.app; number = length (attempts_in o) + 1 } in t) e in
          let number : id.number ≡ length app.attempts + 1 = ap (λ (t : AttemptId). t.number) next in
          let waits : list_any (is_attempt_op (record { app = id.app; number = length app.attempts + 1 })) awaiting ≡ false = subst (λ (t : AttemptId). list_any (is_attempt_op t) awaiting ≡ false) next may.not_issued in
          let ended = ended_by app number (subst (λ (o : Option AppRecord). Pend o life.apps.retired id) e pend) in
          subst (λ (t : AttemptId). fits_records (fold recorded (records kept) awaiting) (Attempt t master node) ≡ true) (sym next)
          (attempt_fits id.app (records kept) awaiting fits_kept.1 app e (record { goes = goes; ended = ended }) n.0 waits master node)
        where
          ended_by : (app : AppRecord) → id.number ≡ length app.attempts + 1 → (id.number ≤ length app.attempts) ⊎ ((id.number ≡ length app.attempts + 1) × (all_ended app.attempts ≡ true)) → all_ended app.attempts ≡ true
          ended_by app number (inl x) = absurd (omega (arith, number, x))
          ended_by app number (inr x) = x.1

  -- an Epoch is issued by a closed life, with nothing awaiting
  by_epoch : (next stamp : ℕ) → life.is_open ≡ false → list_any is_epoch_op awaiting ≡ false → next ≡ life.epoch + 1 → stamp ≡ life.stamp → fits_records (fold recorded (records kept) awaiting) (Epoch next stamp) ≡ true
  by_epoch next stamp closed once follows of_life = go w.sound
    where
      go : Phase kept awaiting (Some life) → fits_records (fold recorded (records kept) awaiting) (Epoch next stamp) ≡ true
      go (inr o) = absurd (let x : true ≡ false = sym o.opened ∙ closed in cc)
      go (inl c) = first c.awaits
        where
          first : (awaiting ≡ []) ⊎ (awaiting ≡ Epoch (life.epoch + 1) life.stamp ∷ []) → fits_records (fold recorded (records kept) awaiting) (Epoch next stamp) ≡ true
          first (inr one) = absurd (let x : true ≡ false = sym (ap (list_any is_epoch_op) one) ∙ once in cc)
          first (inl none) =
              let a : nat_lt (records kept).next_epoch next ≡ true = let f = c.follows in grind (arith, nat_tests) in
              let b : nat_lt (records kept).stamp stamp ≡ true = let f = c.rises in grind (arith, nat_tests) in
              rw none (rw (a, b) refl)

  issue_fits : (op : Op) → MayIssue settings (scene (state kept awaiting blew (Some life)) life) op → fits_records (fold recorded (records kept) awaiting) op ≡ true
  issue_fits (Epoch next stamp) may = by_epoch next stamp may.closed may.once may.follows may.of_life
  issue_fits (App id submission) may = let s = by_submitted id submission may in app_fits id (records kept) awaiting fits_kept.1 submission s.1 s.0
  issue_fits (Attempt id master node) may = by_row id master node may
  issue_fits (AttemptEnd id how text) may = by_last id how text may
  issue_fits (AppEnd id how text) may = by_app id how text may
  issue_fits (Remove id) may = by_completed id may

  pub issued_fit : (op : Op) → MayIssue settings (scene (state kept awaiting blew (Some life)) life) op → Fitting no_records (kept ++ (awaiting ++ op ∷ []))
  issued_fit op may =
      subst (Fitting no_records) (append_assoc kept awaiting (op ∷ []))
      (fitting-append no_records (kept ++ awaiting) (op ∷ []) w.fit (subst (λ (r : Records). fits_records r op ≡ true) (sym (fold-append no_records kept awaiting)) (issue_fits op may), tt))

none_counted : (p : Op → Bool) (ops : List Op) → count_by p ops ≡ 0 → list_any p ops ≡ false
none_counted p [] h = refl
none_counted p (op ∷ ops) h = go (p op) refl (none_counted p ops)
  where
    go : (b : Bool) → p op ≡ b → (count_by p ops ≡ 0 → list_any p ops ≡ false) → (b || list_any p ops) ≡ false
    go true e more = absurd (let f = count_front p op ops in let o = count_one p op true e in omega (arith, f, o, h))
    go false e more = more (let f = count_front p op ops in let o = count_one p op false e in omega (arith, f, o, h))

-- an operation that isn't an App is issued
module _ (kept awaiting : List Op) (life new : LifeState) (w : Sane kept awaiting life) (retired : new.apps.retired ≡ life.apps.retired) (submitted : new.apps.submitted ≡ life.apps.submitted) where
  pub other_waits : (op : Op) → ((id : AppId) → is_app_op id op ≡ false) → Pending (records kept).apps new.apps.retired new.asks new.book → Sane kept (awaiting ++ op ∷ []) new
  other_waits op other pending =
      record {
        retired_out = λ id r s. w.retired_out id (ap (λ (l : List AppId). has_app l id) (sym retired) ∙ r) (ap (λ (l : List Submitted). is_submitted l id) (sym submitted) ∙ s);
        apps_wait = λ id h. ap (λ (l : List Submitted). is_submitted l id) submitted ∙ w.apps_wait id (from id (pushed (is_app_op id) awaiting op h));
        apps_once = λ id. let c = count_join (is_app_op id) awaiting (op ∷ []) in let o = count_one (is_app_op id) op false (other id) in let h = w.apps_once id in omega (arith, c, o, h);
        pending = pending;
      }
    where
      from : (id : AppId) → (list_any (is_app_op id) awaiting ≡ true) ⊎ (is_app_op id op ≡ true) → list_any (is_app_op id) awaiting ≡ true
      from id (inl x) = x
      from id (inr x) = absurd (let f = other id in let y : true ≡ false = sym x ∙ f in cc)

  -- nothing is issued or kept
  pub stays_sane : Pending (records kept).apps new.apps.retired new.asks new.book → Sane kept awaiting new
  stays_sane pending =
      record {
        retired_out = λ id r s. w.retired_out id (ap (λ (l : List AppId). has_app l id) (sym retired) ∙ r) (ap (λ (l : List Submitted). is_submitted l id) (sym submitted) ∙ s);
        apps_wait = λ id h. ap (λ (l : List Submitted). is_submitted l id) submitted ∙ w.apps_wait id h;
        apps_once = w.apps_once;
        pending = pending;
      }

-- an App is issued
pub app_waits : (settings : Settings) (kept awaiting : List Op) (blew : Bool) (life : LifeState) (w : Sane kept awaiting life) (id : AppId) (submission : Submission)
    → MayIssueApp (scene (state kept awaiting blew (Some life)) life) id submission → list_any (is_app_op id) awaiting ≡ false → Sane kept (awaiting ++ App id submission ∷ []) life
app_waits settings kept awaiting blew life w id submission may none =
    record {
      retired_out = w.retired_out;
      apps_wait = λ one h. from one (pushed (is_app_op one) awaiting (App id submission) h);
      apps_once = λ one. count one (is_app id one) refl;
      pending = w.pending;
    }
  where
    from : (one : AppId) → (list_any (is_app_op one) awaiting ≡ true) ⊎ (is_app id one ≡ true) → is_submitted life.apps.submitted one ≡ true
    from one (inl x) = w.apps_wait one x
    from one (inr x) =
        subst (λ (i : AppId). is_submitted life.apps.submitted i ≡ true) (same_app id one x)
        (find_there (λ (s : Submitted). not (app_issued (scene (state kept awaiting blew (Some life)) life) s.id)) (λ (s : Submitted). is_app s.id id) life.apps.submitted (record { id = id; submission = submission }) may.first (app_itself id))

    count : (one : AppId) (b : Bool) → is_app id one ≡ b → count_by (is_app_op one) (awaiting ++ App id submission ∷ []) ≤ 1
    count one false e = let c = count_join (is_app_op one) awaiting (App id submission ∷ []) in let o = count_one (is_app_op one) (App id submission) false e in let h = w.apps_once one in omega (arith, c, o, h)
    count one true e =
        let c = count_join (is_app_op one) awaiting (App id submission ∷ []) in
        let o = count_one (is_app_op one) (App id submission) true e in
        let z = count_none (is_app_op one) awaiting (subst (λ (i : AppId). list_any (is_app_op i) awaiting ≡ false) (same_app id one e) none) in
        omega (arith, c, o, z)

-- the first awaiting operation is kept
module _ (kept : List Op) (op : Op) (ops : List Op) (life : LifeState) (known : AreKnown (records kept).apps life.apps) (w : Sane kept (op ∷ ops) life) (fits : fits_records (records kept) op ≡ true) where
  out : (id : AppId) → is_app_op id op ≡ true → has_app life.apps.retired id ≡ false
  out id e = go (has_app life.apps.retired id) refl
    where
      go : (b : Bool) → has_app life.apps.retired id ≡ b → b ≡ false
      go false h = refl
      go true h = absurd (w.retired_out id h (w.apps_wait id (or_left (is_app_op id op) (list_any (is_app_op id) ops) e)))

  pends : (retired : List AppId) → retired_by life.apps.retired op ≡ retired → Pending (records (kept ++ op ∷ [])).apps retired life.asks life.book
  pends retired is t h =
      subst (λ (r : Records). Pend (record_of r.apps t.app) retired t) (sym (fold_push recorded no_records kept op))
      (subst (λ (l : List AppId). Pend (record_of (recorded (records kept) op).apps t.app) l t) is (op_pends (records kept) life.apps.retired t op fits (out t.app) (w.pending t h)))

  rest_wait : (id : AppId) → list_any (is_app_op id) ops ≡ true → is_submitted life.apps.submitted id ≡ true
  rest_wait id h = w.apps_wait id (or_right (is_app_op id op) (list_any (is_app_op id) ops) h)

  rest_once : (id : AppId) → count_by (is_app_op id) ops ≤ 1
  rest_once id = go (is_app_op id op) refl
    where
      go : (b : Bool) → is_app_op id op ≡ b → count_by (is_app_op id) ops ≤ 1
      go true e = let c = count_front (is_app_op id) op ops in let o = count_one (is_app_op id) op true e in let h = w.apps_once id in omega (arith, c, o, h)
      go false e = let c = count_front (is_app_op id) op ops in let o = count_one (is_app_op id) op false e in let h = w.apps_once id in omega (arith, c, o, h)

pub asks_less : (id t : AttemptId) (asks : List AskOf) → asks_for (asks_without id asks) t ≡ true → asks_for asks t ≡ true
asks_less id t asks h = any-filter (λ (one : AskOf). is_attempt one.attempt t) (λ one. not (is_attempt one.attempt id)) asks h

pub kept_sane : (kept : List Op) (op : Op) (ops : List Op) (life : LifeState) → AreKnown (records kept).apps life.apps → Sane kept (op ∷ ops) life → fits_records (records kept) op ≡ true
    → Sane (kept ++ op ∷ []) ops (record (life_keeps life op) { handed = false })
kept_sane kept (Epoch next stamp) ops life known w fits =
    record { retired_out = w.retired_out; apps_wait = rest_wait kept (Epoch next stamp) ops life known w fits; apps_once = rest_once kept (Epoch next stamp) ops life known w fits; pending = pends kept (Epoch next stamp) ops life known w fits life.apps.retired refl }
kept_sane kept (Attempt id master node) ops life known w fits =
    record { retired_out = w.retired_out; apps_wait = rest_wait kept (Attempt id master node) ops life known w fits; apps_once = rest_once kept (Attempt id master node) ops life known w fits; pending = pends kept (Attempt id master node) ops life known w fits life.apps.retired refl }
kept_sane kept (AppEnd id how text) ops life known w fits =
    record { retired_out = w.retired_out; apps_wait = rest_wait kept (AppEnd id how text) ops life known w fits; apps_once = rest_once kept (AppEnd id how text) ops life known w fits; pending = pends kept (AppEnd id how text) ops life known w fits life.apps.retired refl }
kept_sane kept (AttemptEnd id how text) ops life known w fits =
    record {
      retired_out = w.retired_out;
      apps_wait = rest_wait kept (AttemptEnd id how text) ops life known w fits;
      apps_once = rest_once kept (AttemptEnd id how text) ops life known w fits;
      pending = fewer (records (kept ++ AttemptEnd id how text ∷ [])).apps life.apps.retired life.asks (asks_without id life.asks) life.book life.book (λ t h. asks_less id t life.asks h) (λ t h. h)
          (pends kept (AttemptEnd id how text) ops life known w fits life.apps.retired refl);
    }
kept_sane kept (Remove id) ops life known w fits =
    record {
      retired_out = λ one r s. from one s (pushed (λ (x : AppId). is_app x one) life.apps.retired id r);
      apps_wait = rest_wait kept (Remove id) ops life known w fits;
      apps_once = rest_once kept (Remove id) ops life known w fits;
      pending = pends kept (Remove id) ops life known w fits (life.apps.retired ++ id ∷ []) refl;
    }
  where
    from : (one : AppId) → is_submitted life.apps.submitted one ≡ true → (has_app life.apps.retired one ≡ true) ⊎ (is_app id one ≡ true) → ⊥
    from one s (inl r) = w.retired_out one r s
    from one s (inr same) =
        let x = some_and (λ app. is_some app.ending) (record_of (records kept).apps id) fits in
        let there : has_record (records kept).apps id ≡ true = sym (is_some-find (λ (app : AppRecord). is_app app.id id) (records kept).apps) ∙ ap (λ (o : Option AppRecord). is_some o) x.1 in
        known.kept_out one (subst (λ (i : AppId). has_record (records kept).apps i ≡ true) (same_app id one same) there) s
kept_sane kept (App id submission) ops life known w fits =
    record {
      retired_out = λ one r s. w.retired_out one r (any-filter (λ (x : Submitted). is_app x.id one) (λ x. not (is_app x.id id)) life.apps.submitted s);
      apps_wait = λ one h. go one h (is_app id one) refl;
      apps_once = rest_once kept (App id submission) ops life known w fits;
      pending = pends kept (App id submission) ops life known w fits life.apps.retired refl;
    }
  where
    go : (one : AppId) → list_any (is_app_op one) ops ≡ true → (b : Bool) → is_app id one ≡ b → is_submitted (filter (λ x. not (is_app x.id id)) life.apps.submitted) one ≡ true
    go one h true e =
        let c = count_front (is_app_op one) (App id submission) ops in
        let o = count_one (is_app_op one) (App id submission) true e in
        let k = w.apps_once one in
        let none = none_counted (is_app_op one) ops (omega (arith, c, o, k)) in
        absurd (let y : true ≡ false = sym h ∙ none in cc)
    go one h false e =
        any-filter_same (λ (x : Submitted). is_app x.id one) (λ x. not (is_app x.id id)) true (λ x at. still x.id (same_app x.id one at)) life.apps.submitted
        ∙ rest_wait kept (App id submission) ops life known w fits one h
      where
        still : (a : AppId) → a ≡ one → not (is_app a id) ≡ true
        still a same = grind (arith, nat_tests)
