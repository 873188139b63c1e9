-- Inside a life no container becomes missing.
use Rattle.rm_laws.proofs.Common.{◌≡◌, ℕ, List, [], ◌∷◌, ◌++◌, Bool, true, false, ◌||◌, ◌&&◌, not, cond, if◌then◌else◌, Option, None, Some, is_some, is_none, map, find, refl, sym, ap, subst, ◌∙◌, inl, inr, list_any, list_any-append, nat_lt, slice_get, option_and_then, fold_push, and_parts, or_left, or_right, or_parts, not-true, bytes_eq, Entry, Opened, Issued, Kept, Served, Absorbed, Ended, Down, AppId, AttemptId, ContainerId, How, Op, Epoch, App, Attempt, AttemptEnd, AppEnd, Remove, AppRecord, AttemptRecord, Settings, is_app, is_attempt, is_container, Records, records, recorded, no_records, record_of, with_end, fits_records, is_some_and, LifeState, Manager, Scene, scene, opening_state, attempts_in, has_app, has_container, is_app_op, is_living, is_remove_op, lives_on, life_issues, life_keeps, Allowed, AllowedIn, after, after_all, AllAllowed}
use Rattle.rm_types.proofs.EndLemmas.{id_ended}
use Rattle.rm_types.proofs.TestLemmas.{none_from_is_none, text_itself}
use Rattle.rm_model.specs.State.{Row}
use Rattle.rm_types.specs.Records.{stray}
use Rattle.std.proofs.Common.{option_map}
use Rattle.rm_model.specs.Attempts.{is_wanted}
use Rattle.rm_model.specs.Containers.{is_missing}
use Rattle.rm_model.specs.Facts.{keeps}
use Rattle.rm_model.specs.Changes.{kept_after_landing}
use Rattle.rm_types.proofs.TestLemmas.{is_some-find}
use Rattle.rm_laws.specs.FirstAttempts.{FirstStays, IsKeptOrGone, attempt_stands, was_kept_first}
use Rattle.rm_laws.specs.Laws.{MissingFalls, is_bound, is_missing_now, lives_on_node, stands_by}
use Rattle.rm_laws.proofs.Done.{none_lives, wanted_by, own_record}
use Rattle.rm_laws.proofs.Fine.{add_attempt, at_own, changed_own, end_app, end_attempt, some_and}
use Rattle.rm_laws.proofs.Messages.{Any, Changes, served}
use Rattle.rm_laws.proofs.NoneStray.{whole_after, whole_opening}
use Rattle.rm_laws.proofs.Phases.{state}
use Rattle.rm_laws.proofs.Recorded.{recorded_says}
use Rattle.rm_laws.proofs.Registered.{attempt_lasts, from_record, stands_in, to_record}
use Rattle.rm_laws.proofs.Rows.{step}
use Rattle.rm_laws.proofs.Stray.{Whole}
use Rattle.rm_laws.proofs.Told.{last_there, stays_there}
use Rattle.rm_laws.proofs.Views.{Fitting, find_left, fitting-front, is_of, other_view}
use Rattle.rm_laws.proofs.Walks.{after-append, walk}

-- an operation that is kept leaves it so
module _ (t : AttemptId) where
  retires : (life : LifeState) (op : Op) → is_remove_op t.app op ≡ true → has_app (life_keeps life op).apps.retired t.app ≡ true
  retires life (Epoch next stamp) h = cc
  retires life (App one submission) h = cc
  retires life (Attempt one master node) h = cc
  retires life (AttemptEnd one how text) h = cc
  retires life (AppEnd one how text) h = cc
  retires life (Remove one) h = last_there (λ (x : AppId). is_app x t.app) life.apps.retired one h

  still_retired : (life : LifeState) (op : Op) → has_app life.apps.retired t.app ≡ true → has_app (life_keeps life op).apps.retired t.app ≡ true
  still_retired life (Epoch next stamp) gone = gone
  still_retired life (App one submission) gone = gone
  still_retired life (Attempt one master node) gone = gone
  still_retired life (AttemptEnd one how text) gone = gone
  still_retired life (AppEnd one how text) gone = gone
  still_retired life (Remove one) gone = stays_there (λ (x : AppId). is_app x t.app) life.apps.retired (one ∷ []) gone

  removed_none : (r : Records) (op : Op) → is_remove_op t.app op ≡ true → record_of (recorded r op).apps t.app ≡ None
  removed_none r (Epoch next stamp) h = cc
  removed_none r (App one submission) h = cc
  removed_none r (Attempt one master node) h = cc
  removed_none r (AttemptEnd one how text) h = cc
  removed_none r (AppEnd one how text) h = cc
  removed_none r (Remove one) h = find_left t.app one true h r.apps

  -- without a record only an App of it fits
  none_fits : (r : Records) (op : Op) → record_of r.apps t.app ≡ None → is_of t.app op ≡ true → fits_records r op ≡ true → is_app_op t.app op ≡ true
  none_fits r (Epoch next stamp) none own fits = cc
  none_fits r (App one submission) none own fits = own
  none_fits r (Attempt one master node) none own fits =
      let a = some_and _ (record_of r.apps one.app) fits in let x : Some a.0 ≡ None = sym a.1 ∙ (at_own t.app one.app r own ∙ none) in cc
  none_fits r (AttemptEnd one how text) none own fits =
      let a = some_and _ (record_of r.apps one.app) fits in let x : Some a.0 ≡ None = sym a.1 ∙ (at_own t.app one.app r own ∙ none) in cc
  none_fits r (AppEnd one how text) none own fits =
      let a = some_and _ (record_of r.apps one) fits in let x : Some a.0 ≡ None = sym a.1 ∙ (at_own t.app one r own ∙ none) in cc
  none_fits r (Remove one) none own fits =
      let a = some_and _ (record_of r.apps one) fits in let x : Some a.0 ≡ None = sym a.1 ∙ (at_own t.app one r own ∙ none) in cc

  kept_or_gone : (r : Records) (life : LifeState) (op : Op) → fits_records r op ≡ true → (has_app life.apps.retired t.app ≡ true → is_app_op t.app op ≡ true → ⊥) → IsKeptOrGone r.apps life.apps.retired t
      → IsKeptOrGone (recorded r op).apps (life_keeps life op).apps.retired t
  kept_or_gone r life op fits never (inl there) = go (is_remove_op t.app op) refl
    where
      go : (b : Bool) → is_remove_op t.app op ≡ b → IsKeptOrGone (recorded r op).apps (life_keeps life op).apps.retired t
      go true e = inr (removed_none r op e, retires life op e)
      go false e =
          inl (from_record t (record_of (recorded r op).apps t.app)
          (recorded_says t.app (λ app. stands_in t app ≡ true) (attempt_lasts t) r op e (to_record t (record_of r.apps t.app) there)))
  kept_or_gone r life op fits never (inr gone) = go (is_of t.app op) refl
    where
      go : (b : Bool) → is_of t.app op ≡ b → IsKeptOrGone (recorded r op).apps (life_keeps life op).apps.retired t
      go true own = absurd (never gone.1 (none_fits r op gone.0 own fits))
      go false other = inr (other_view t.app r op other ∙ gone.0, still_retired life op gone.1)

-- a container is wanted before an operation where it is so after it
module _ (c : ContainerId) where
  abbrev wanted : Option AppRecord → Bool
  wanted r = wanted_by c c.attempt r

  abbrev own : Option AppRecord → Option AttemptRecord
  own r = own_record c c.attempt r

  find_more : (p : AttemptRecord → Bool) (xs ys : List AttemptRecord) → is_some (find p xs) ≡ true → find p (xs ++ ys) ≡ find p xs
  find_more p [] ys h = cc
  find_more p (x ∷ xs) ys h = go (p x) h (find_more p xs ys)
    where
      go : (b : Bool) → is_some (cond b (Some x) (find p xs)) ≡ true → (is_some (find p xs) ≡ true → find p (xs ++ ys) ≡ find p xs) → cond b (Some x) (find p (xs ++ ys)) ≡ cond b (Some x) (find p xs)
      go true e more = refl
      go false e more = more e

  find_ended : (id : AttemptId) (how : How) (text : List ℕ) (xs : List AttemptRecord)
      → find (λ one. is_attempt one.id c.attempt) (map (with_end id how text) xs) ≡ option_map (with_end id how text) (find (λ one. is_attempt one.id c.attempt) xs)
  find_ended id how text [] = refl
  find_ended id how text (x ∷ xs) =
      ap (λ (b : Bool). cond b (Some (with_end id how text x)) (find (λ one. is_attempt one.id c.attempt) (map (with_end id how text) xs))) (ap (λ (i : AttemptId). is_attempt i c.attempt) (id_ended id how text x))
      ∙ go (is_attempt x.id c.attempt) (find_ended id how text xs)
    where
      go : (b : Bool) → find (λ one. is_attempt one.id c.attempt) (map (with_end id how text) xs) ≡ option_map (with_end id how text) (find (λ one. is_attempt one.id c.attempt) xs)
          → cond b (Some (with_end id how text x)) (find (λ one. is_attempt one.id c.attempt) (map (with_end id how text) xs)) ≡ option_map (with_end id how text) (cond b (Some x) (find (λ one. is_attempt one.id c.attempt) xs))
      go true more = refl
      go false more = more

  -- an end that is kept
  ended_master : (id : AttemptId) (how : How) (text : List ℕ) (one : AttemptRecord) → (with_end id how text one).master ≡ one.master
  ended_master id how text one = go (is_attempt one.id id)
    where
      go : (b : Bool) → (if b then record one { ending = Some (how, text) } else one).master ≡ one.master
      go true = refl
      go false = refl

  still_ended : (id : AttemptId) (how : How) (text : List ℕ) (one : AttemptRecord) → is_none one.ending ≡ false → is_none (with_end id how text one).ending ≡ false
  still_ended id how text one h = go (is_attempt one.id id)
    where
      go : (b : Bool) → is_none (if b then record one { ending = Some (how, text) } else one).ending ≡ false
      go true = refl
      go false = h

  -- by the record of its attempt
  abbrev wanted_with : Bool → Bool → Option AttemptRecord → Bool
  wanted_with goes keeping o =
      goes && (is_some o && (is_none (option_and_then (λ one. one.ending) o) || (keeping && not (not (is_some o) || is_some_and (λ one. is_container one.master c) o))))

  ended_wanted : (goes keeping : Bool) (id : AttemptId) (how : How) (text : List ℕ) (o : Option AttemptRecord) → wanted_with goes keeping (option_map (with_end id how text) o) ≡ true → wanted_with goes keeping o ≡ true
  ended_wanted goes keeping id how text None h = h
  ended_wanted goes keeping id how text (Some one) h = go (is_none one.ending) refl
    where
      go : (b : Bool) → is_none one.ending ≡ b → (goes && (true && (b || (keeping && not (false || is_container one.master c))))) ≡ true
      go true e = (let x = and_parts goes _ h in rw x.0 refl)
      go false e =
          subst (λ (m : ContainerId). (goes && (true && (false || (keeping && not (false || is_container m c))))) ≡ true) (ended_master id how text one)
          (subst (λ (b : Bool). (goes && (true && (b || (keeping && not (false || is_container (with_end id how text one).master c))))) ≡ true) (still_ended id how text one e) h)

  own_wanted : (r : Records) (op : Op) → attempt_stands r.apps c.attempt ≡ true → is_of c.attempt.app op ≡ true → fits_records r op ≡ true → wanted (record_of (recorded r op).apps c.attempt.app) ≡ true → wanted (record_of r.apps c.attempt.app) ≡ true
  own_wanted r (Epoch next stamp) there own fits h = cc
  own_wanted r (App id submission) there own fits h =
      let none : record_of r.apps c.attempt.app ≡ None = sym (at_own c.attempt.app id r own) ∙ none_from_is_none (record_of r.apps id) fits in
      let x : false ≡ true = sym (ap (λ (o : Option AppRecord). is_some (find (λ (one : AttemptRecord). is_attempt one.id c.attempt) (attempts_in o))) none) ∙ there in cc
  own_wanted r (Attempt id master node) there own fits h =
      let a = some_and _ (record_of r.apps id.app) fits in
      let here : record_of r.apps c.attempt.app ≡ Some a.0 = sym (at_own c.attempt.app id.app r own) ∙ a.1 in
      let new : record_of (recorded r (Attempt id master node)).apps c.attempt.app ≡ Some (add_attempt id master node a.0) = changed_own c.attempt.app (add_attempt id master node) (λ x. refl) id.app r a.0 own a.1 in
      let x : wanted (Some (add_attempt id master node a.0)) ≡ true = sym (ap wanted new) ∙ h in
      let found = ap (λ (o : Option AppRecord). is_some (find (λ (one : AttemptRecord). is_attempt one.id c.attempt) (attempts_in o))) here in
      let same = find_more (λ one. is_attempt one.id c.attempt) a.0.attempts (record { id = id; master = master; node = node; ending = None } ∷ []) (sym found ∙ there) in
      ap wanted here ∙ (ap (λ (o : Option AttemptRecord). wanted_with (is_none a.0.ending) (keeps (Some a.0)) o) (sym same) ∙ x)
  own_wanted r (AttemptEnd id how text) there own fits h =
      let a = some_and _ (record_of r.apps id.app) fits in
      let here : record_of r.apps c.attempt.app ≡ Some a.0 = sym (at_own c.attempt.app id.app r own) ∙ a.1 in
      let new : record_of (recorded r (AttemptEnd id how text)).apps c.attempt.app ≡ Some (end_attempt id how text a.0) = changed_own c.attempt.app (end_attempt id how text) (λ x. refl) id.app r a.0 own a.1 in
      let x : wanted (Some (end_attempt id how text a.0)) ≡ true = sym (ap wanted new) ∙ h in
      let y = ap (λ (o : Option AttemptRecord). wanted_with (is_none a.0.ending) (keeps (Some a.0)) o) (sym (find_ended id how text a.0.attempts)) ∙ x in
      ap wanted here ∙ ended_wanted (is_none a.0.ending) (keeps (Some a.0)) id how text (find (λ one. is_attempt one.id c.attempt) a.0.attempts) y
  own_wanted r (AppEnd id how text) there own fits h =
      let a = some_and _ (record_of r.apps id) fits in
      let new : record_of (recorded r (AppEnd id how text)).apps c.attempt.app ≡ Some (end_app how text r.applied a.0) = changed_own c.attempt.app (end_app how text r.applied) (λ x. refl) id r a.0 own a.1 in
      let x : false ≡ true = sym (ap wanted new) ∙ h in cc
  own_wanted r (Remove id) there own fits h =
      let new : record_of (recorded r (Remove id)).apps c.attempt.app ≡ None = find_left c.attempt.app id true own r.apps in
      let x : false ≡ true = sym (ap wanted new) ∙ h in cc

  wanted_before : (r : Records) (life : LifeState) (op : Op) → fits_records r op ≡ true → (has_app life.apps.retired c.attempt.app ≡ true → is_app_op c.attempt.app op ≡ true → ⊥) → IsKeptOrGone r.apps life.apps.retired c.attempt
      → wanted (record_of (recorded r op).apps c.attempt.app) ≡ true → wanted (record_of r.apps c.attempt.app) ≡ true
  wanted_before r life op fits never k h = go (is_of c.attempt.app op) refl k
    where
      go : (b : Bool) → is_of c.attempt.app op ≡ b → IsKeptOrGone r.apps life.apps.retired c.attempt → wanted (record_of r.apps c.attempt.app) ≡ true
      go false other k = ap wanted (sym (other_view c.attempt.app r op other)) ∙ h
      go true own (inl there) = own_wanted r op there own fits h
      go true own (inr gone) = absurd (never gone.1 (none_fits c.attempt r op gone.0 own fits))

somewhere : (book : List Row) (c : ContainerId) → is_living book c ≡ true → (o : List ℕ) × (lives_on book o c ≡ true)
somewhere [] c h = cc
somewhere (row ∷ book) c h = go (is_container row.id c) refl h (somewhere book c)
  where
    go : (b : Bool) → is_container row.id c ≡ b → (b || is_living book c) ≡ true → (is_living book c ≡ true → (o : List ℕ) × (lives_on book o c ≡ true)) → (o : List ℕ) × (lives_on (row ∷ book) o c ≡ true)
    go true e x more = (row.node, rw (e, text_itself row.node) refl)
    go false e x more = let m = more x in (m.0, or_right (is_container row.id c && bytes_eq row.node m.0) (lives_on book m.0 c) m.1)

lives_here : (book : List Row) (c : ContainerId) (o : List ℕ) → lives_on book o c ≡ true → is_living book c ≡ true
lives_here book c o h = go (is_living book c) refl
  where
    go : (b : Bool) → is_living book c ≡ b → b ≡ true
    go true e = refl
    go false e = let x : true ≡ false = sym h ∙ none_lives book c e o in cc

-- an entry keeps an operation
abbrev pub is_kept_entry : Entry → Bool
is_kept_entry (Kept op) = true
is_kept_entry _ = false

module _ (c : ContainerId) where
  -- a life with the same beginning, in which no less has left
  pub record Steady (old new : LifeState) : Type 0 where
    pub epoch : new.epoch ≡ old.epoch
    pub first : new.first ≡ old.first
    pub retired : has_app old.apps.retired c.attempt.app ≡ true → has_app new.apps.retired c.attempt.app ≡ true
    pub left : has_container old.endings.left c ≡ true → has_container new.endings.left c ≡ true

  steady : (old new : LifeState) → new.epoch ≡ old.epoch → new.first ≡ old.first → new.apps.retired ≡ old.apps.retired → new.endings.left ≡ old.endings.left → Steady old new
  steady old new e f r l = record { epoch = e; first = f; retired = λ h. ap (λ (x : List AppId). has_app x c.attempt.app) r ∙ h; left = λ h. ap (λ (x : List ContainerId). has_container x c) l ∙ h }

  steady_answered : (m : Scene) → Changes m (Steady m.life) Any
  steady_answered m =
      record {
        nothing = steady m.life _ refl refl refl refl;
        gives = λ user one q. steady m.life _ refl refl refl refl;
        joins = λ user one submission q new. steady m.life _ refl refl refl refl;
        wishes = λ one. steady m.life _ refl refl refl refl;
        registered = λ attempt q. steady m.life _ refl refl refl refl;
        takes_over = λ attempt kept q. steady m.life _ refl refl refl refl;
        allocated = λ attempt ask asks release next grants ended q. steady m.life _ refl refl refl refl;
        finishes = λ attempt text. steady m.life _ refl refl refl refl;
        node_registered = λ at registration reply. steady m.life _ refl refl refl refl;
        beaten = λ at running done launch reply. steady m.life _ refl refl refl refl;
        ticks = λ time. steady m.life _ refl refl refl refl;
        node_expires = λ at. steady m.life _ refl refl refl refl;
        master_expires = λ attempt. steady m.life _ refl refl refl refl;
      }

  module _ (settings : Settings) (kept awaiting : List Op) (blew : Bool) (life : LifeState) where
    abbrev s : Manager
    s = state kept awaiting blew (Some life)

    abbrev m : Scene
    m = scene s life

    -- one entry
    falls : (e : Entry) → AllowedIn settings m e → (new : LifeState) → (after s e).life ≡ Some new → Steady life new
        → (is_wanted (scene (after s e) new) c ≡ true → was_kept_first life c.attempt ≡ true → is_wanted m c ≡ true)
        → ((o : List ℕ) → has_container new.endings.left c ≡ false → stands_by o c true e ≡ true)
        → is_missing (scene (after s e) new) c ≡ true → is_missing m c ≡ true
    falls e may new is same wants stood h =
        let a = and_parts (not (is_living new.book c)) _ h in
        let b = and_parts (not (has_container new.endings.left c)) _ a.1 in
        let d = and_parts (nat_lt c.epoch new.epoch) _ b.1 in
        let f = and_parts (was_kept_first new c.attempt) _ d.1 in
        let first : was_kept_first life c.attempt ≡ true = ap (λ (x : Records). list_any (λ one. is_attempt one.id c.attempt) (attempts_in (record_of x.apps c.attempt.app))) (sym same.first) ∙ f.0 in
        let out : is_living life.book c ≡ false = not_living (is_living life.book c) refl (not-true (is_living new.book c) a.0) (not-true (has_container new.endings.left c) b.0) in
        let stays : has_container life.endings.left c ≡ false = not_left (has_container life.endings.left c) refl (not-true (has_container new.endings.left c) b.0) in
        let former : nat_lt c.epoch life.epoch ≡ true = ap (λ (n : ℕ). nat_lt c.epoch n) (sym same.epoch) ∙ d.0 in
        rw (out, stays, former, first, wants f.1 first) refl
      where
        not_living : (b : Bool) → is_living life.book c ≡ b → is_living new.book c ≡ false → has_container new.endings.left c ≡ false → b ≡ false
        not_living false e1 out stays = refl
        not_living true e1 out stays =
            let at = somewhere life.book c e1 in
            let x : lives_on_node (after s e).life at.0 c ≡ stands_by at.0 c (lives_on life.book at.0 c) e = step at.0 c settings kept awaiting blew (Some life) e may in
            let y : stands_by at.0 c (lives_on life.book at.0 c) e ≡ true = ap (λ (b : Bool). stands_by at.0 c b e) at.1 ∙ stood at.0 stays in
            let z : lives_on new.book at.0 c ≡ true = sym (ap (λ (l : Option LifeState). lives_on_node l at.0 c) is) ∙ (x ∙ y) in
            let q : true ≡ false = sym (lives_here new.book c at.0 z) ∙ out in
            cc

        not_left : (b : Bool) → has_container life.endings.left c ≡ b → has_container new.endings.left c ≡ false → b ≡ false
        not_left false e1 stays = refl
        not_left true e1 stays = let q : true ≡ false = sym (same.left e1) ∙ stays in cc

    left_more : (list : List ContainerId) → has_container life.endings.left c ≡ true → has_container (life.endings.left ++ list) c ≡ true
    left_more list h = list_any-append (λ one. is_container one c) life.endings.left list ∙ or_left (has_container life.endings.left c) (has_container list c) h

    not_listed : (list : List ContainerId) → has_container (life.endings.left ++ list) c ≡ false → has_container list c ≡ false
    not_listed list h = (or_parts (has_container life.endings.left c) (has_container list c) (sym (list_any-append (λ one. is_container one c) life.endings.left list) ∙ h)).1

    leaves : (new : LifeState) (list : List ContainerId) → new.epoch ≡ life.epoch → new.first ≡ life.first → new.apps.retired ≡ life.apps.retired → new.endings.left ≡ life.endings.left ++ list → Steady life new
    leaves new list e f r l = record { epoch = e; first = f; retired = λ h. ap (λ (x : List AppId). has_app x c.attempt.app) r ∙ h; left = λ h. ap (λ (x : List ContainerId). has_container x c) l ∙ left_more list h }

    kept_steady : (op : Op) → Steady life (record (life_keeps life op) { handed = false })
    kept_steady op = record { epoch = (same op).0; first = (same op).1; retired = still_retired c.attempt life op; left = λ h. ap (λ (x : List ContainerId). has_container x c) (same op).2 ∙ h }
      where
        same : (op : Op) → ((life_keeps life op).epoch ≡ life.epoch) × ((life_keeps life op).first ≡ life.first) × ((life_keeps life op).endings.left ≡ life.endings.left)
        same (Epoch next stamp) = (refl, refl, refl)
        same (App one submission) = (refl, refl, refl)
        same (Attempt one master node) = (refl, refl, refl)
        same (AttemptEnd one how text) = (refl, refl, refl)
        same (AppEnd one how text) = (refl, refl, refl)
        same (Remove one) = (refl, refl, refl)

    issued_steady : (op : Op) → Steady life (life_issues m op)
    issued_steady (Epoch next stamp) = steady life _ refl refl refl refl
    issued_steady (App one submission) = steady life _ refl refl refl refl
    issued_steady (Attempt one master node) = steady life _ refl refl refl refl
    issued_steady (AttemptEnd one how text) = steady life _ refl refl refl refl
    issued_steady (AppEnd one how text) = steady life _ refl refl refl refl
    issued_steady (Remove one) = steady life _ refl refl refl refl

    abbrev Falls : Entry → Type 0
    Falls e = is_missing_now (after s e) (after s e).life c ≡ true → is_missing m c ≡ true

    -- an entry but one that keeps an operation
    pub other_falls : (e : Entry) → AllowedIn settings m e → is_bound e ≡ false → is_kept_entry e ≡ false → Falls e
    other_falls (Opened landed epoch stamp) may inside other h = cc
    other_falls Down may inside other h = cc
    other_falls (Kept op) may inside other h = cc
    other_falls (Issued op) may inside other h = falls (Issued op) may _ refl (issued_steady op) (λ x first. x) (λ o out. refl) h
    other_falls (Served sender message reply) may inside other h =
        falls (Served sender message reply) may _ refl (served m (Steady m.life) Any (steady_answered m) message reply tt) (λ x first. x) (λ o out. refl) h
    other_falls (Absorbed node taken ended) may inside other h =
        falls (Absorbed node taken ended) may _ refl (leaves _ ended refl refl refl refl) (λ x first. x) (λ o out. rw (not_listed ended out) refl) h
    other_falls (Ended cause list) may inside other h =
        falls (Ended cause list) may _ refl (leaves _ list refl refl refl refl) (λ x first. x) (λ o out. rw (not_listed list out) refl) h
    other_falls e may inside other h = falls e may _ refl (steady life _ refl refl refl refl) (λ x first. x) (λ o out. refl) h

    -- and its attempt stays kept or gone
    same_held : FirstStays c.attempt kept (Some life) → (new : LifeState) → Steady life new → FirstStays c.attempt kept (Some new)
    same_held k new same was = go (k (ap (λ (x : Records). list_any (λ one. is_attempt one.id c.attempt) (attempts_in (record_of x.apps c.attempt.app))) (sym same.first) ∙ was))
      where
        go : IsKeptOrGone (records kept).apps life.apps.retired c.attempt → IsKeptOrGone (records kept).apps new.apps.retired c.attempt
        go (inl there) = inl there
        go (inr gone) = inr (gone.0, same.retired gone.1)

    abbrev SteadyIn : Option LifeState → Type 0
    SteadyIn None = Unit {0}
    SteadyIn (Some new) = Steady life new

    same_in : FirstStays c.attempt kept (Some life) → (o : Option LifeState) → SteadyIn o → FirstStays c.attempt kept o
    same_in k None same = tt
    same_in k (Some new) same = same_held k new same

    -- after an entry but one that keeps an operation it is so still
    pub other_held : FirstStays c.attempt kept (Some life) → (e : Entry) → AllowedIn settings m e → is_kept_entry e ≡ false → FirstStays c.attempt (after s e).kept (after s e).life
    other_held k (Opened landed epoch stamp) may other = absurd may
    other_held k Down may other = tt
    other_held k (Kept op) may other = cc
    other_held k (Issued op) may other = same_in k (after s (Issued op)).life (issued_steady op)
    other_held k (Served sender message reply) may other = same_in k (after s (Served sender message reply)).life (served m (Steady m.life) Any (steady_answered m) message reply tt)
    other_held k (Absorbed node taken ended) may other = same_in k (after s (Absorbed node taken ended)).life (leaves _ ended refl refl refl refl)
    other_held k (Ended cause list) may other = same_in k (after s (Ended cause list)).life (leaves _ list refl refl refl refl)
    other_held k e may other = same_in k (after s e).life (steady life _ refl refl refl refl)

    -- where the first operation that awaits fits, and is no App of an application that was retired
    module _ (fits_now : (op : Op) → slice_get awaiting 0 ≡ Some op → fits_records (records kept) op ≡ true) (never : (op : Op) → slice_get awaiting 0 ≡ Some op → has_app life.apps.retired c.attempt.app ≡ true → is_app_op c.attempt.app op ≡ true → ⊥)
        (k : FirstStays c.attempt kept (Some life)) where
      kept_wanted : (op : Op) → slice_get awaiting 0 ≡ Some op → (new : LifeState) → is_wanted (scene (after s (Kept op)) new) c ≡ true → was_kept_first life c.attempt ≡ true → is_wanted m c ≡ true
      kept_wanted op first new h was =
          wanted_before c (records kept) life op (fits_now op first) (never op first) (k was)
          (ap (λ (r : Records). wanted c (record_of r.apps c.attempt.app)) (sym (fold_push recorded no_records kept op)) ∙ h)

      pub entry_falls : (e : Entry) → AllowedIn settings m e → is_bound e ≡ false → Falls e
      entry_falls (Kept op) may inside h = falls (Kept op) may _ refl (kept_steady op) (kept_wanted op may.first (record (life_keeps life op) { handed = false })) (λ o out. refl) h
      entry_falls (Opened landed epoch stamp) may inside h = cc
      entry_falls Down may inside h = cc
      entry_falls (Issued op) may inside h = other_falls (Issued op) may inside refl h
      entry_falls (Served sender message reply) may inside h = other_falls (Served sender message reply) may inside refl h
      entry_falls (Absorbed node taken ended) may inside h = other_falls (Absorbed node taken ended) may inside refl h
      entry_falls (Ended cause list) may inside h = other_falls (Ended cause list) may inside refl h
      entry_falls e may inside h = other_falls e may inside refl h

      kept_held : (op : Op) → slice_get awaiting 0 ≡ Some op → FirstStays c.attempt (kept ++ op ∷ []) (Some (record (life_keeps life op) { handed = false }))
      kept_held op first was =
          subst (λ (r : Records). IsKeptOrGone r.apps (life_keeps life op).apps.retired c.attempt) (sym (fold_push recorded no_records kept op))
          (kept_or_gone c.attempt (records kept) life op (fits_now op first) (never op first)
          (k (ap (λ (x : Records). list_any (λ one. is_attempt one.id c.attempt) (attempts_in (record_of x.apps c.attempt.app))) (sym (kept_steady op).first) ∙ was)))

      pub entry_held : (e : Entry) → AllowedIn settings m e → FirstStays c.attempt (after s e).kept (after s e).life
      entry_held (Kept op) may = kept_held op may.first
      entry_held (Opened landed epoch stamp) may = absurd may
      entry_held Down may = tt
      entry_held (Issued op) may = other_held k (Issued op) may refl
      entry_held (Served sender message reply) may = other_held k (Served sender message reply) may refl
      entry_held (Absorbed node taken ended) may = other_held k (Absorbed node taken ended) may refl
      entry_held (Ended cause list) may = other_held k (Ended cause list) may refl
      entry_held e may = other_held k e may refl

  module _ (settings : Settings) (kept awaiting : List Op) (blew : Bool) (life : LifeState) (w : Whole (state kept awaiting blew (Some life))) where
    never : (op : Op) → slice_get awaiting 0 ≡ Some op → has_app life.apps.retired c.attempt.app ≡ true → is_app_op c.attempt.app op ≡ true → ⊥
    never op first gone own = w.sane.retired_out c.attempt.app gone (w.sane.apps_wait c.attempt.app (there awaiting first))
      where
        there : (ops : List Op) → slice_get ops 0 ≡ Some op → list_any (is_app_op c.attempt.app) ops ≡ true
        there [] h = cc
        there (one ∷ ops) h =
            let same : one ≡ op = cc in
            or_left (is_app_op c.attempt.app one) (list_any (is_app_op c.attempt.app) ops) (subst (λ (x : Op). is_app_op c.attempt.app x ≡ true) (sym same) own)

    fits_now : (op : Op) → slice_get awaiting 0 ≡ Some op → fits_records (records kept) op ≡ true
    fits_now op first = go awaiting (fitting-front no_records kept awaiting w.fit).1 first
      where
        go : (ops : List Op) → Fitting (records kept) ops → slice_get ops 0 ≡ Some op → fits_records (records kept) op ≡ true
        go [] x h = cc
        go (one ∷ ops) x h = let y : one ≡ op = cc in subst (λ (z : Op). fits_records (records kept) z ≡ true) y x.0

  next_held : (settings : Settings) (kept awaiting : List Op) (blew : Bool) (life : Option LifeState) (e : Entry) → Whole (state kept awaiting blew life) → FirstStays c.attempt kept life → Allowed settings (state kept awaiting blew life) e
      → FirstStays c.attempt (after (state kept awaiting blew life) e).kept (after (state kept awaiting blew life) e).life
  next_held settings kept awaiting blew None (Opened landed epoch stamp) w k may =
      λ was. inl (is_some-find (λ (one : AttemptRecord). is_attempt one.id c.attempt) (attempts_in (record_of (records (kept_after_landing (state kept awaiting blew None) landed)).apps c.attempt.app)) ∙ was)
  next_held settings kept awaiting blew None _ w k may = absurd may
  next_held settings kept awaiting blew (Some life) e w k may = entry_held settings kept awaiting blew life (fits_now settings kept awaiting blew life w) (never settings kept awaiting blew life w) k e may

  next_falls : (settings : Settings) (kept awaiting : List Op) (blew : Bool) (life : Option LifeState) (e : Entry) → Whole (state kept awaiting blew life) → FirstStays c.attempt kept life → Allowed settings (state kept awaiting blew life) e → is_bound e ≡ false
      → is_missing_now (after (state kept awaiting blew life) e) (after (state kept awaiting blew life) e).life c ≡ true → is_missing_now (state kept awaiting blew life) life c ≡ true
  next_falls settings kept awaiting blew None (Opened landed epoch stamp) w k may inside h = cc
  next_falls settings kept awaiting blew None _ w k may inside h = absurd may
  next_falls settings kept awaiting blew (Some life) e w k may inside h = entry_falls settings kept awaiting blew life (fits_now settings kept awaiting blew life w) (never settings kept awaiting blew life w) k e may inside h

  pub record Both (s : Manager) : Type 0 where
    pub whole : Whole s
    pub held : FirstStays c.attempt s.kept s.life

  next_both : (settings : Settings) (s : Manager) (e : Entry) → Both s → Allowed settings s e → Both (after s e)
  next_both settings s e b may =
      record { whole = whole_after settings s.kept s.awaiting s.blew s.life e b.whole may; held = next_held settings s.kept s.awaiting s.blew s.life e b.whole b.held may }

  all_fall : (settings : Settings) (s : Manager) (mid rest : List Entry) → Both s → AllAllowed settings s (mid ++ rest) → list_any is_bound mid ≡ false
      → is_missing_now (after_all s mid) (after_all s mid).life c ≡ true → is_missing_now s s.life c ≡ true
  all_fall settings s [] rest b allowed inside h = h
  all_fall settings s (e ∷ mid) rest b allowed inside h =
      let p = or_parts (is_bound e) (list_any is_bound mid) inside in
      next_falls settings s.kept s.awaiting s.blew s.life e b.whole b.held allowed.0 p.0
      (all_fall settings (after s e) mid rest (next_both settings s e b allowed.0) allowed.1 p.1 h)

-- the law
pub missing_falls : (settings : Settings) (opening : List Op) (log : List Entry) → stray opening ≡ None → AllAllowed settings (opening_state opening) log → MissingFalls opening log
missing_falls settings opening log none allowed p c inside h =
    let w = walk settings (Both c) (next_both c settings) opening log p.before (p.entry ∷ (p.after ++ p.rest)) (record { whole = whole_opening opening none; held = tt }) allowed p.whole in
    all_fall c settings (after_all (opening_state opening) p.before) (p.entry ∷ p.after) p.rest w.0 w.1 inside
    (subst (λ (s : Manager). is_missing_now s s.life c ≡ true) (after-append (opening_state opening) p.before (p.entry ∷ p.after)) h)
