-- The law of the store: each entry keeps all that is carried along.
use Rattle.rm_laws.proofs.Common.{◌≡◌, ◌⊎◌, ℕ, ◌+◌, List, [], ◌∷◌, ◌++◌, length, Bool, true, false, ◌||◌, ◌&&◌, not, if◌then◌else◌, Option, None, Some, is_some, is_none, take, drop, map, filter, fold, refl, sym, ap, subst, arith, ◌∙◌, inl, inr, append-nil, append_assoc, slice_get, IsSomeAnd, list_any, bytes_eq, list_any-append, or_left, and_parts, Ask, AskOf, Grant, Held, Entry, Opened, Issued, Kept, Served, Absorbed, Pass, Ended, Down, AppId, AttemptId, ContainerId, Op, Epoch, App, Attempt, AttemptEnd, AppEnd, Remove, Submission, Submitted, AppRecord, Reply, Settings, is_app, is_attempt, records, no_records, record_of, all_ended, is_some_and, last_attempt, same_app, same_attempt, LifeState, NodeState, Row, Scene, scene, opening_state, has_app, has_container, is_known, is_submitted, submission_of, attempts_in, has_registered, is_registered, allocates, row_allocated, beats, reported, row_beaten, book_taken, row_absorbed, row_taken, taken_of, is_held, is_living, judged_node, row_granted, reply_to, MayIssue, Allowed, AllowedIn, MayAbsorb, MayPass, after, after_all, life_issues, life_keeps, AllAllowed}
use Rattle.std.proofs.lemmas.List.{take-append-drop}
use Rattle.rm_types.specs.declared.containers.ContainerState.TheVariants.{Running}
use Rattle.rm_types.specs.declared.entries.Entry.TheVariants.{Queued}
use Rattle.rm_types.specs.declared.messages.ClientAsk.TheVariants.{Submit as AskSubmit}
use Rattle.rm_types.specs.declared.messages.Message.TheVariants.{Client as FromClient}
use Rattle.rm_types.specs.declared.replies.Reply.TheVariants as replies
use Rattle.rm_types.specs.Records.{stray}
use Rattle.rm_model.specs.State.{MasterState}
use Rattle.rm_model.specs.Facts.{app_goes_on, keeps, kept_record}
use Rattle.rm_model.specs.Attempts.{attempt_end, attempt_end_issued, attempt_is_kept, finishing_text, has_failed, is_live, is_masters, is_wanted, master_of}
use Rattle.rm_model.specs.MasterReplies.{allocate_reply, allocation_reply, late_rows, new_grants, row_kept, takes_over}
use Rattle.rm_model.specs.Containers.{released_by}
use Rattle.rm_model.specs.Passing.{without_granted}
use Rattle.rm_model.specs.Rules.{MayFollow, MayQueue}
use Rattle.rm_model.specs.Changes.{master_ask}
use Rattle.rm_laws.specs.Laws.{NoneStray}
use Rattle.rm_laws.proofs.Lists.{Each, each-filter}
use Rattle.rm_laws.proofs.Taken.{each_taken}
use Rattle.rm_laws.proofs.Messages.{Changes, either, served}
use Rattle.rm_laws.proofs.Phases.{sound_opening, state}
use Rattle.rm_laws.proofs.Ids.{steps as id_steps}
use Rattle.rm_laws.proofs.Told.{AreKnown, any-filter, any-map, pushed, stays_there, either_true, step as known_step}
use Rattle.rm_laws.proofs.Views.{Fitting, fitting, not_stray, fitting-front}
use Rattle.rm_laws.proofs.Fine.{Fine}
use Rattle.rm_laws.proofs.Pending.{Pend, Pending, asks_for, lives_for, fewer, granted_all, granted_rows, kept_pends, more, pass_asks, with_asks_of}
use Rattle.rm_laws.proofs.Stray.{Sane, SaneIn, Whole, app_waits, asks_less, by_submitted, fine, issued_fit, kept_sane, other_waits, stays_sane}
use Rattle.rm_laws.proofs.Walks.{walk}

-- an allocation that is answered is of a registered master
registered_by : (settings : Settings) (m : Scene) (attempt : AttemptId) (id : ℕ) (asks : List Ask) (b : Bool) (o : Option MasterState) (reply : Reply) → ((r : Reply) → r ≡ replies.Resync → reply ≡ r → ⊥) → (reply ≡ replies.NotOpen → ⊥)
    → reply ≡ (if b then allocate_reply settings m attempt id asks o else replies.NotOpen) → is_registered m attempt ≡ true
registered_by settings m attempt id asks false o reply never closed is = absurd (closed is)
registered_by settings m attempt id asks true None reply never closed is = absurd (never replies.Resync refl is)
registered_by settings m attempt id asks true (Some master) reply never closed is = go (is_registered m attempt) is
  where
    go : (b : Bool) → reply ≡ (if b then allocation_reply settings m attempt id asks master else replies.Resync) → b ≡ true
    go true h = refl
    go false h = absurd (never replies.Resync refl h)

-- a life that differs from another in other parts, but for asks and rows of attempts that may have them
pub record Near (m : Scene) (new : LifeState) : Type 0 where
  pub retired : new.apps.retired ≡ m.life.apps.retired
  pub submitted : new.apps.submitted ≡ m.life.apps.submitted
  pub asks : (t : AttemptId) → asks_for new.asks t ≡ true → (asks_for m.life.asks t ≡ true) ⊎ Pend (record_of m.records.apps t.app) m.life.apps.retired t
  pub rows : (t : AttemptId) → lives_for new.book t ≡ true → (lives_for m.life.book t ≡ true) ⊎ Pend (record_of m.records.apps t.app) m.life.apps.retired t

row_kept_id : (told : List ContainerId) (row : Row) → (row_kept told row).id ≡ row.id
row_kept_id told row = refl

beaten_id : (on : List ℕ) (running launched : List ContainerId) (row : Row) → (row_beaten on running launched row).id ≡ row.id
beaten_id on running launched row =
    either (λ (x : Row). x.id ≡ row.id) (not (bytes_eq row.node on)) _ _ refl
    (either (λ (x : Row). x.id ≡ row.id) (has_container running row.id) _ _ refl (either (λ (x : Row). x.id ≡ row.id) _ _ _ refl refl))

module _ (settings : Settings) (m : Scene) (fine_all : (id : AppId) → Fine (record_of m.records.apps id)) where
  near : Near m m.life
  near = record { retired = refl; submitted = refl; asks = λ t h. inl h; rows = λ t h. inl h }

  -- other parts
  parts : {new : LifeState} → new.apps.retired ≡ m.life.apps.retired → new.apps.submitted ≡ m.life.apps.submitted → new.asks ≡ m.life.asks → new.book ≡ m.life.book → Near m new
  parts r s a b = record { retired = r; submitted = s; asks = λ t h. inl (ap (λ (l : List AskOf). asks_for l t) (sym a) ∙ h); rows = λ t h. inl (ap (λ (l : List Row). lives_for l t) (sym b) ∙ h) }

  row_map : (f : Row → Row) → ((row : Row) → (f row).id ≡ row.id) → (t : AttemptId) → lives_for (map f m.life.book) t ≡ true → lives_for m.life.book t ≡ true
  row_map f ids t h = sym (any-map (λ (row : Row). is_attempt row.id.attempt t) f (λ row. ap (λ (i : ContainerId). is_attempt i.attempt t) (ids row)) m.life.book) ∙ h

  attempt_kept : (attempt : AttemptId) → is_registered m attempt ≡ true → attempt_is_kept m attempt ≡ true
  attempt_kept attempt h =
      (and_parts (attempt_is_kept m attempt) (not (attempt_end_issued m attempt)) (and_parts (is_live m attempt) (has_registered m attempt && is_none (finishing_text m attempt)) h).0).0

  own_asks : (attempt t : AttemptId) → is_registered m attempt ≡ true → (asks_for m.life.asks t ≡ true) ⊎ (is_attempt attempt t ≡ true) → (asks_for m.life.asks t ≡ true) ⊎ Pend (record_of m.records.apps t.app) m.life.apps.retired t
  own_asks attempt t r (inl x) = inl x
  own_asks attempt t r (inr same) =
      inr (subst (λ (i : AttemptId). Pend (record_of m.records.apps i.app) m.life.apps.retired i) (same_attempt attempt t same)
      (kept_pends (record_of m.records.apps attempt.app) m.life.apps.retired attempt (fine_all attempt.app) (attempt_kept attempt r)))

  -- all messages but submissions that join
  near_answered : (life_of : LifeState → Type 0) → ((new : LifeState) → Near m new → life_of new)
      → ((user : List ℕ) (id : AppId) (submission : Submission) → replies.Submitted ≡ reply_to settings m (FromClient user (AskSubmit id submission)) → is_known m id ≡ false
      → life_of (record m.life { apps = record m.life.apps { submitted = m.life.apps.submitted ++ record { id = id; submission = submission } ∷ [] } }))
      → Changes m life_of (λ message reply. reply ≡ reply_to settings m message)
  near_answered life_of of joins =
      record {
        nothing = of _ near;
        gives = λ user id is. of _ (parts refl refl refl refl);
        joins = joins;
        wishes = λ id. of _ (parts refl refl refl refl);
        registered = λ attempt is. of _ (parts refl refl refl refl);
        takes_over = λ attempt kept is.
            of (takes_over m attempt kept)
            (record { retired = refl; submitted = refl; asks = λ t h. inl h; rows = λ t h. inl (row_map (row_kept (map (λ one. one.id) kept)) (λ row. row_kept_id (map (λ one. one.id) kept) row) t h) });
        allocated = λ attempt id asked release next grants ended is.
            let r = registered_by settings m attempt id asked m.life.is_open (master_of m attempt) (replies.Allocated next grants ended) (λ x e h. let y : replies.Allocated next grants ended ≡ replies.Resync = h ∙ e in cc) (λ h. cc) is in
            of (allocates m attempt asked release (replies.Allocated next grants ended))
            (record {
              retired = refl;
              submitted = refl;
              asks = λ t h. own_asks attempt t r (with_asks_of attempt t asked m.life.asks h);
              rows = λ t h. inl (row_map (row_allocated (map (λ row. row.id) (new_grants m attempt)) (map (λ row. row.id) (late_rows m attempt)) (released_by m (record { attempt = attempt; list = release }))) (λ row. refl) t h);
            });
        finishes = λ attempt text. of _ (parts refl refl refl refl);
        node_registered = λ name registration reply. of _ (parts refl refl refl refl);
        beaten = λ name running done launch reply.
            of (beats m name running done launch reply)
            (record { retired = refl; submitted = refl; asks = λ t h. inl h; rows = λ t h. inl (row_map (row_beaten name (reported running) launch) (λ row. beaten_id name (reported running) launch row) t h) });
        ticks = λ time. of _ (parts refl refl refl refl);
        node_expires = λ name. of _ (parts refl refl refl refl);
        master_expires = λ attempt. of _ (parts refl refl refl refl);
      }

  wanted_kept : (id : ContainerId) → is_wanted m id ≡ true → attempt_is_kept m id.attempt ≡ true
  wanted_kept id h =
      let a = and_parts (app_goes_on (kept_record m id.attempt.app)) (attempt_is_kept m id.attempt && (is_none (attempt_end m id.attempt) || (keeps (kept_record m id.attempt.app) && not (is_masters m id)))) h in
      (and_parts (attempt_is_kept m id.attempt) (is_none (attempt_end m id.attempt) || (keeps (kept_record m id.attempt.app) && not (is_masters m id))) a.1).0

  -- what an absorption takes is of attempts that are kept
  taken_kept : (node : NodeState) → Each (λ held. attempt_is_kept m held.id.attempt ≡ true) (taken_of settings m node)
  taken_kept node = each_taken settings m node (λ held. attempt_is_kept m held.id.attempt ≡ true) (λ taken one free. wanted_kept one.id free.wanted)

  absorbed_pend : (name : List ℕ) (t : AttemptId) (taken : List Held) → Each (λ held. attempt_is_kept m held.id.attempt ≡ true) taken → lives_for (map (row_absorbed name) taken) t ≡ true → Pend (record_of m.records.apps t.app) m.life.apps.retired t
  absorbed_pend name t [] e h = cc
  absorbed_pend name t (held ∷ taken) e h = go (is_attempt held.id.attempt t) refl h (absorbed_pend name t taken e.1)
    where
      go : (b : Bool) → is_attempt held.id.attempt t ≡ b → (b || lives_for (map (row_absorbed name) taken) t) ≡ true → (lives_for (map (row_absorbed name) taken) t ≡ true → Pend (record_of m.records.apps t.app) m.life.apps.retired t) → Pend (record_of m.records.apps t.app) m.life.apps.retired t
      go true same x rest =
          subst (λ (i : AttemptId). Pend (record_of m.records.apps i.app) m.life.apps.retired i) (same_attempt held.id.attempt t same)
          (kept_pends (record_of m.records.apps held.id.attempt.app) m.life.apps.retired held.id.attempt (fine_all held.id.attempt.app) e.0)
      go false other x rest = rest x

near_sane : (kept awaiting : List Op) (blew : Bool) (life new : LifeState) → Sane kept awaiting life → Near (scene (state kept awaiting blew (Some life)) life) new → Sane kept awaiting new
near_sane kept awaiting blew life new w n =
    stays_sane kept awaiting life new w n.retired n.submitted
    (subst (λ (l : List AppId). Pending (records kept).apps l new.asks new.book) (sym n.retired)
    (more (records kept).apps life.apps.retired life.asks new.asks life.book new.book n.asks n.rows w.pending))

-- a submission that is taken isn't retired
not_retired : (open_ given retired : Bool) (rest : Reply) → replies.Submitted ≡ (if open_ then (if not given then replies.BadId else (if retired then replies.Retired else rest)) else replies.NotOpen) → retired ≡ false
not_retired false given retired rest h = cc
not_retired true false retired rest h = cc
not_retired true true true rest h = cc
not_retired true true false rest h = refl

submit_sane : (kept awaiting : List Op) (life : LifeState) (id : AppId) (submission : Submission) → Sane kept awaiting life → has_app life.apps.retired id ≡ false
    → Sane kept awaiting (record life { apps = record life.apps { submitted = life.apps.submitted ++ record { id = id; submission = submission } ∷ [] } })
submit_sane kept awaiting life id submission w none =
    record {
      retired_out = λ one r s. from one r (pushed (λ (x : Submitted). is_app x.id one) life.apps.submitted (record { id = id; submission = submission }) s);
      apps_wait = λ one h. stays_there (λ (x : Submitted). is_app x.id one) life.apps.submitted _ (w.apps_wait one h);
      apps_once = w.apps_once;
      pending = w.pending;
    }
  where
    from : (one : AppId) → has_app life.apps.retired one ≡ true → (is_submitted life.apps.submitted one ≡ true) ⊎ (is_app id one ≡ true) → ⊥
    from one r (inl s) = w.retired_out one r s
    from one r (inr same) = let x : has_app life.apps.retired id ≡ true = subst (λ (i : AppId). has_app life.apps.retired i ≡ true) (sym (same_app id one same)) r in let y : true ≡ false = sym x ∙ none in cc

-- an attempt that may be queued may ask
queue_pends : (settings : Settings) (kept awaiting : List Op) (blew : Bool) (life : LifeState) → AreKnown (records kept).apps life.apps → (t : AttemptId)
    → MayQueue settings (scene (state kept awaiting blew (Some life)) life) t → Pend (record_of (records kept).apps t.app) life.apps.retired t
queue_pends settings kept awaiting blew life known t may = go (record_of (records kept).apps t.app) refl
  where
    go : (o : Option AppRecord) → record_of (records kept).apps t.app ≡ o → Pend (record_of (records kept).apps t.app) life.apps.retired t
    go (Some app) e =
        let number : t.number ≡ length app.attempts + 1 = ap (λ (x : AttemptId). x.number) may.next ∙ ap (λ (o : Option AppRecord). length (attempts_in o) + 1) e in
        subst (λ (o : Option AppRecord). Pend o life.apps.retired t) (sym e) (inr (number, ap (λ (o : Option AppRecord). all_ended (attempts_in o)) (sym e) ∙ may.ended))
    go None e = absurd (follow may.follows)
      where
        submitted : (b : Bool) → (b || false) ≡ true → b ≡ true
        submitted true h = refl
        submitted false h = cc

        there : is_submitted life.apps.submitted t.app ≡ true
        there = submitted (is_submitted life.apps.submitted t.app) (ap (λ (o : Option AppRecord). is_submitted life.apps.submitted t.app || is_some o) (sym e) ∙ may.known)

        follow : MayFollow settings (scene (state kept awaiting blew (Some life)) life) t → ⊥
        follow (inl first) = known.accepted_out t.app first.1 there
        follow (inr again) = let x : false ≡ true = ap (λ (o : Option AppRecord). is_some_and has_failed (last_attempt (attempts_in o))) (sym e) ∙ again.0 in cc

master_asks : (t one : AttemptId) (submission : Option Submission) → asks_for (master_ask one submission) t ≡ true → is_attempt one t ≡ true
master_asks t one None h = cc
master_asks t one (Some submission) h = last (is_attempt one t) h
  where
    last : (b : Bool) → (b || false) ≡ true → b ≡ true
    last true h = refl
    last false h = cc

either_part : (p : Row → Bool) (xs ys : List Row) → list_any p (xs ++ ys) ≡ true → (list_any p xs ≡ true) ⊎ (list_any p ys ≡ true)
either_part p xs ys h = either_true (list_any p xs) (list_any p ys) (sym (list_any-append p xs ys) ∙ h)

module _ (settings : Settings) (kept awaiting : List Op) (blew : Bool) (life : LifeState) (w : Whole (state kept awaiting blew (Some life))) where
  here : (id : AppId) → Fine (record_of (records kept).apps id)
  here id = fine settings kept awaiting blew life w id

  answered : Changes (scene (state kept awaiting blew (Some life)) life) (Sane kept awaiting) (λ message reply. reply ≡ reply_to settings (scene (state kept awaiting blew (Some life)) life) message)
  answered =
      near_answered settings (scene (state kept awaiting blew (Some life)) life) here (Sane kept awaiting) (λ new n. near_sane kept awaiting blew life new w.sane n)
      (λ user id submission is new. submit_sane kept awaiting life id submission w.sane (not_retired life.is_open _ (has_app life.apps.retired id) _ is))

  issued : (op : Op) → MayIssue settings (scene (state kept awaiting blew (Some life)) life) op → Sane kept (awaiting ++ op ∷ []) (life_issues (scene (state kept awaiting blew (Some life)) life) op)
  issued (Epoch next stamp) may = other_waits kept awaiting life life w.sane refl refl (Epoch next stamp) (λ id. refl) w.sane.pending
  issued (App id submission) may = app_waits settings kept awaiting blew life w.sane id submission may (by_submitted settings kept awaiting blew life w id submission may).0
  issued (Attempt id master node) may = other_waits kept awaiting life life w.sane refl refl (Attempt id master node) (λ one. refl) w.sane.pending
  issued (AttemptEnd id how text) may = other_waits kept awaiting life life w.sane refl refl (AttemptEnd id how text) (λ one. refl) w.sane.pending
  issued (AppEnd id how text) may =
      other_waits kept awaiting life (life_issues (scene (state kept awaiting blew (Some life)) life) (AppEnd id how text)) w.sane refl refl (AppEnd id how text) (λ one. refl)
      (fewer (records kept).apps life.apps.retired life.asks (life_issues (scene (state kept awaiting blew (Some life)) life) (AppEnd id how text)).asks life.book life.book (λ t h. asks_less _ t life.asks h) (λ t h. h) w.sane.pending)
  issued (Remove id) may = other_waits kept awaiting life life w.sane refl refl (Remove id) (λ one. refl) w.sane.pending

  queued : (t : AttemptId) → MayQueue settings (scene (state kept awaiting blew (Some life)) life) t → (submission : Option Submission) → Sane kept awaiting (record life { asks = life.asks ++ master_ask t submission })
  queued t may submission =
      stays_sane kept awaiting life (record life { asks = life.asks ++ master_ask t submission }) w.sane refl refl
      (more (records kept).apps life.apps.retired life.asks (life.asks ++ master_ask t submission) life.book life.book (λ one h. go one (either_asks one h)) (λ one h. inl h) w.sane.pending)
    where
      either_asks : (one : AttemptId) → asks_for (life.asks ++ master_ask t submission) one ≡ true → (asks_for life.asks one ≡ true) ⊎ (asks_for (master_ask t submission) one ≡ true)
      either_asks one h = either_true (asks_for life.asks one) (asks_for (master_ask t submission) one) (sym (list_any-append (λ (x : AskOf). is_attempt x.attempt one) life.asks (master_ask t submission)) ∙ h)

      go : (one : AttemptId) → (asks_for life.asks one ≡ true) ⊎ (asks_for (master_ask t submission) one ≡ true) → (asks_for life.asks one ≡ true) ⊎ Pend (record_of (records kept).apps one.app) life.apps.retired one
      go one (inl x) = inl x
      go one (inr x) =
          inr (subst (λ (i : AttemptId). Pend (record_of (records kept).apps i.app) life.apps.retired i) (same_attempt t one (master_asks one t submission x))
          (queue_pends settings kept awaiting blew life w.known t may))

  ended : (list : List ContainerId) (new : LifeState) → new.apps.retired ≡ life.apps.retired → new.apps.submitted ≡ life.apps.submitted → new.asks ≡ life.asks → new.book ≡ filter (λ row. not (has_container list row.id)) life.book → Sane kept awaiting new
  ended list new r s a b =
      near_sane kept awaiting blew life new w.sane
      (record {
        retired = r;
        submitted = s;
        asks = λ t h. inl (ap (λ (l : List AskOf). asks_for l t) (sym a) ∙ h);
        rows = λ t h. inl (any-filter (λ (row : Row). is_attempt row.id.attempt t) (λ row. not (has_container list row.id)) life.book (ap (λ (l : List Row). lives_for l t) (sym b) ∙ h));
      })

  passed : (name : List ℕ) (grants : List Grant) (node : Option NodeState) → IsSomeAnd node (λ n. MayPass settings (scene (state kept awaiting blew (Some life)) life) n grants) → (new : LifeState)
      → new.apps.retired ≡ life.apps.retired → new.apps.submitted ≡ life.apps.submitted → new.asks ≡ fold without_granted life.asks grants → new.book ≡ life.book ++ map row_granted grants → Sane kept awaiting new
  passed name grants None may new r s a b = absurd may
  passed name grants (Some n) may new r s a b =
      near_sane kept awaiting blew life new w.sane
      (record {
        retired = r;
        submitted = s;
        asks = λ t h. inl (granted_all t grants life.asks (ap (λ (l : List AskOf). asks_for l t) (sym a) ∙ h));
        rows = λ t h. go t (either_part (λ (row : Row). is_attempt row.id.attempt t) life.book (map row_granted grants) (ap (λ (l : List Row). lives_for l t) (sym b) ∙ h));
      })
    where
      each : Each (λ (grant : Grant). asks_for life.asks grant.id.attempt ≡ true) grants
      each = subst (Each (λ (grant : Grant). asks_for life.asks grant.id.attempt ≡ true)) (sym may.grants_are) (pass_asks settings (scene (state kept awaiting blew (Some life)) life) n)

      go : (t : AttemptId) → (lives_for life.book t ≡ true) ⊎ (lives_for (map row_granted grants) t ≡ true) → (lives_for life.book t ≡ true) ⊎ Pend (record_of (records kept).apps t.app) life.apps.retired t
      go t (inl x) = inl x
      go t (inr x) = inr (w.sane.pending t (or_left (asks_for life.asks t) (lives_for life.book t) (granted_rows life.asks t grants each x)))

  absorbed : (name : List ℕ) (taken : List Held) (list : List ContainerId) (node : Option NodeState) → IsSomeAnd node (λ n. MayAbsorb settings (scene (state kept awaiting blew (Some life)) life) n taken list) → (new : LifeState)
      → new.apps.retired ≡ life.apps.retired → new.apps.submitted ≡ life.apps.submitted → new.asks ≡ life.asks → new.book ≡ book_taken name taken (filter (λ row. not (has_container list row.id)) life.book) → Sane kept awaiting new
  absorbed name taken list None may new r s a b = absurd may
  absorbed name taken list (Some n) may new r s a b =
      near_sane kept awaiting blew life new w.sane
      (record {
        retired = r;
        submitted = s;
        asks = λ t h. inl (ap (λ (l : List AskOf). asks_for l t) (sym a) ∙ h);
        rows = λ t h. go t (either_part (λ (row : Row). is_attempt row.id.attempt t) (map (row_taken taken) left) (map (row_absorbed name) (filter (λ held. not (is_living left held.id)) taken)) (ap (λ (l : List Row). lives_for l t) (sym b) ∙ h));
      })
    where
      left : List Row
      left = filter (λ row. not (has_container list row.id)) life.book

      m : Scene
      m = scene (state kept awaiting blew (Some life)) life

      ids : (row : Row) (c : Bool) → (if c then record row { state = Running } else row).id ≡ row.id
      ids row true = refl
      ids row false = refl

      go : (t : AttemptId) → (lives_for (map (row_taken taken) (filter (λ row. not (has_container list row.id)) life.book)) t ≡ true) ⊎ (lives_for (map (row_absorbed name) (filter (λ held. not (is_living (filter (λ row. not (has_container list row.id)) life.book) held.id)) taken)) t ≡ true)
          → (lives_for life.book t ≡ true) ⊎ Pend (record_of (records kept).apps t.app) life.apps.retired t
      go t (inl x) =
          inl (any-filter (λ (row : Row). is_attempt row.id.attempt t) (λ row. not (has_container list row.id)) life.book
          (sym (any-map (λ (row : Row). is_attempt row.id.attempt t) (row_taken taken) (λ row. ap (λ (i : ContainerId). is_attempt i.attempt t) (ids row (is_held taken row.id))) (filter (λ row. not (has_container list row.id)) life.book)) ∙ x))
      go t (inr x) =
          let s = scene (state kept awaiting blew (Some life)) life in
          let are_kept = subst (Each (λ (held : Held). attempt_is_kept s held.id.attempt ≡ true)) (sym may.takes) (taken_kept settings s here n) in
          inr (absorbed_pend settings s here name t (filter (λ held. not (is_living (filter (λ row. not (has_container list row.id)) life.book) held.id)) taken) (each-filter (λ (held : Held). attempt_is_kept s held.id.attempt ≡ true) (λ held. not (is_living (filter (λ row. not (has_container list row.id)) life.book) held.id)) taken are_kept) x)

  first_kept : (op : Op) → slice_get awaiting 0 ≡ Some op → Fitting no_records ((kept ++ op ∷ []) ++ drop 1 awaiting) × Sane (kept ++ op ∷ []) (drop 1 awaiting) (record (life_keeps life op) { handed = false })
  first_kept op first = go awaiting w.fit w.sane first
    where
      go : (ops : List Op) → Fitting no_records (kept ++ ops) → Sane kept ops life → slice_get ops 0 ≡ Some op → Fitting no_records ((kept ++ op ∷ []) ++ drop 1 ops) × Sane (kept ++ op ∷ []) (drop 1 ops) (record (life_keeps life op) { handed = false })
      go [] fit sane first = cc
      go (x ∷ ops) fit sane first =
          let same : x ≡ op = cc in
          subst (λ (y : Op). Fitting no_records ((kept ++ y ∷ []) ++ ops) × Sane (kept ++ y ∷ []) ops (record (life_keeps life y) { handed = false })) same (
            subst (Fitting no_records) (sym (append_assoc kept (x ∷ []) ops)) fit,
            kept_sane kept x ops life w.known sane (fitting-front no_records kept (x ∷ ops) fit).1.0,
          )

  -- what fits and is sane after each entry of a life
  in_life : (e : Entry) → AllowedIn settings (scene (state kept awaiting blew (Some life)) life) e
      → Fitting no_records ((after (state kept awaiting blew (Some life)) e).kept ++ (after (state kept awaiting blew (Some life)) e).awaiting)
      × SaneIn (after (state kept awaiting blew (Some life)) e).kept (after (state kept awaiting blew (Some life)) e).awaiting (after (state kept awaiting blew (Some life)) e).life
  in_life (Opened landed epoch stamp) may = absurd may
  in_life (Issued op) may = (issued_fit settings kept awaiting blew life w op may, issued op may)
  in_life (Kept op) may = first_kept op may.first
  in_life (Served sender message reply) may =
      (w.fit, served (scene (state kept awaiting blew (Some life)) life) (Sane kept awaiting) (λ one answer. answer ≡ reply_to settings (scene (state kept awaiting blew (Some life)) life) one) answered message reply may.answers)
  in_life (Queued t) may = (w.fit, queued t may (submission_of (scene (state kept awaiting blew (Some life)) life) t.app))
  in_life (Absorbed name taken list) may = (w.fit, absorbed name taken list (judged_node life.nodes name) may _ refl refl refl refl)
  in_life (Pass name grants) may = (w.fit, passed name grants (judged_node life.nodes name) may _ refl refl refl refl)
  in_life (Ended cause list) may = (w.fit, ended list _ refl refl refl refl)
  in_life Down may = (w.fit, tt)
  in_life e may = (w.fit, near_sane kept awaiting blew life _ w.sane (parts settings (scene (state kept awaiting blew (Some life)) life) here refl refl refl refl))

opened_fit : (kept awaiting : List Op) (landed : ℕ) → Fitting no_records (kept ++ awaiting) → Fitting no_records ((kept ++ take landed awaiting) ++ [])
opened_fit kept awaiting landed fit =
    let whole : kept ++ awaiting ≡ (kept ++ take landed awaiting) ++ drop landed awaiting =
    ap (λ (ops : List Op). kept ++ ops) (sym (take-append-drop landed awaiting)) ∙ sym (append_assoc kept (take landed awaiting) (drop landed awaiting)) in
    subst (Fitting no_records) (sym (append-nil (kept ++ take landed awaiting)))
    (fitting-front no_records (kept ++ take landed awaiting) (drop landed awaiting) (subst (Fitting no_records) whole fit)).0

empty_sane : (kept : List Op) (life : LifeState) → life.apps.retired ≡ [] → life.asks ≡ [] → life.book ≡ [] → Sane kept [] life
empty_sane kept life r a b =
    record {
      retired_out = λ id x s. let y : has_app [] id ≡ true = ap (λ (l : List AppId). has_app l id) (sym r) ∙ x in cc;
      apps_wait = λ id h. cc;
      apps_once = λ id. omega arith;
      pending = λ t h. let y : (asks_for [] t || lives_for [] t) ≡ true = ap (λ (l : List AskOf). asks_for l t || lives_for [] t) (sym a) ∙ (ap (λ (l : List Row). asks_for life.asks t || lives_for l t) (sym b) ∙ h) in cc;
    }

parts_after : (settings : Settings) (kept awaiting : List Op) (blew : Bool) (life : Option LifeState) (e : Entry) → Whole (state kept awaiting blew life) → Allowed settings (state kept awaiting blew life) e
    → Fitting no_records ((after (state kept awaiting blew life) e).kept ++ (after (state kept awaiting blew life) e).awaiting) × SaneIn (after (state kept awaiting blew life) e).kept (after (state kept awaiting blew life) e).awaiting (after (state kept awaiting blew life) e).life
parts_after settings kept awaiting blew None (Opened landed epoch stamp) w may = (opened_fit kept awaiting landed w.fit, empty_sane (kept ++ take landed awaiting) _ refl refl refl)
parts_after settings kept awaiting blew None _ w may = absurd may
parts_after settings kept awaiting blew (Some life) e w may = in_life settings kept awaiting blew life w e may

pub whole_after : (settings : Settings) (kept awaiting : List Op) (blew : Bool) (life : Option LifeState) (e : Entry) → Whole (state kept awaiting blew life) → Allowed settings (state kept awaiting blew life) e → Whole (after (state kept awaiting blew life) e)
whole_after settings kept awaiting blew life e w may =
    let p = parts_after settings kept awaiting blew life e w may in
    record {
      fit = p.0;
      sound = (id_steps settings kept awaiting blew life e w.sound may).sound;
      known = known_step settings kept awaiting blew life e w.known may;
      sane = p.1;
    }

pub whole_opening : (opening : List Op) → stray opening ≡ None → Whole (opening_state opening)
whole_opening opening none =
    record {
      fit = rw (append-nil opening) (fitting no_records opening none);
      sound = sound_opening opening;
      known = tt;
      sane = tt;
    }

-- the law
pub none_stray : (settings : Settings) (opening : List Op) (log : List Entry) → stray opening ≡ None → AllAllowed settings (opening_state opening) log → NoneStray opening log
none_stray settings opening log none allowed before rest whole =
    let w = (walk settings Whole (λ s e w may. whole_after settings s.kept s.awaiting s.blew s.life e w may) opening log before rest (whole_opening opening none) allowed whole).0 in
    not_stray no_records ((after_all (opening_state opening) before).kept ++ (after_all (opening_state opening) before).awaiting) w.fit
