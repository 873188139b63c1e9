-- The attempt of each master that registered is kept, or its application was retired.
use Rattle.rm_laws.proofs.Common.{◌≡◌, ◌⊎◌, ℕ, List, [], ◌∷◌, ◌++◌, Bool, true, false, not, cond, if◌then◌else◌, Option, None, Some, is_some, map, find, refl, sym, ap, subst, ◌∙◌, inl, inr, IsSomeAnd, fold_push, and_parts, Entry, Opened, Issued, Kept, Served, Down, AppId, AttemptId, How, Op, Epoch, App, Attempt, AttemptEnd, AppEnd, Remove, AppRecord, AttemptRecord, Settings, is_app, is_attempt, Records, records, recorded, no_records, record_of, with_end, is_some-find, LifeState, Manager, Scene, scene, opening_state, attempts_in, has_app, is_remove_op, has_registered, reply_to, Allowed, AllowedIn, after, after_all, life_issues, life_keeps, AllAllowed}
use Rattle.rm_types.specs.declared.replies.Reply.TheVariants as replies
use Rattle.rm_model.specs.State.{MasterState, Masters}
use Rattle.rm_model.specs.Attempts.{attempt_end_issued, attempt_is_kept, is_live}
use Rattle.rm_model.specs.MasterReplies.{registered_reply, registers}
use Rattle.rm_types.specs.declared.replies.Reply.{Reply}
use Rattle.rm_laws.specs.FirstAttempts.{attempt_stands}
use Rattle.rm_laws.specs.Laws.{AllKeptOrRetired, RegisteredAreKept}
use Rattle.rm_laws.proofs.Lists.{Each, each_all, each-append, each-map}
use Rattle.rm_laws.proofs.Messages.{Changes, served}
use Rattle.rm_laws.proofs.Phases.{state}
use Rattle.rm_laws.proofs.Recorded.{IsLasting, recorded_says}
use Rattle.rm_laws.proofs.Told.{last_there, stays_there}
use Rattle.rm_laws.proofs.Walks.{walk}

-- an attempt stands in a record
abbrev pub stands_in : AttemptId → AppRecord → Bool
stands_in id app = is_some (find (λ (one : AttemptRecord). is_attempt one.id id) app.attempts)

pub to_record : (id : AttemptId) (app : Option AppRecord) → is_some (find (λ (one : AttemptRecord). is_attempt one.id id) (attempts_in app)) ≡ true → IsSomeAnd app (λ one. stands_in id one ≡ true)
to_record id None h = cc
to_record id (Some app) h = h

pub from_record : (id : AttemptId) (app : Option AppRecord) → IsSomeAnd app (λ one. stands_in id one ≡ true) → is_some (find (λ (one : AttemptRecord). is_attempt one.id id) (attempts_in app)) ≡ true
from_record id None h = absurd h
from_record id (Some app) h = h

ended_stands : (id one : AttemptId) (how : How) (text : List ℕ) (attempts : List AttemptRecord) → is_some (find (λ (x : AttemptRecord). is_attempt x.id id) attempts) ≡ true
    → is_some (find (λ (x : AttemptRecord). is_attempt x.id id) (map (with_end one how text) attempts)) ≡ true
ended_stands id one how text [] h = cc
ended_stands id one how text (x ∷ xs) h = go (is_attempt x.id one) (is_attempt x.id id) refl h (ended_stands id one how text xs)
  where
    go : (b c : Bool) → is_attempt x.id id ≡ c → is_some (cond c (Some x) (find (λ (y : AttemptRecord). is_attempt y.id id) xs)) ≡ true
        → (is_some (find (λ (y : AttemptRecord). is_attempt y.id id) xs) ≡ true → is_some (find (λ (y : AttemptRecord). is_attempt y.id id) (map (with_end one how text) xs)) ≡ true)
        → is_some (find (λ (y : AttemptRecord). is_attempt y.id id) ((if b then record x { ending = Some (how, text) } else x) ∷ map (with_end one how text) xs)) ≡ true
    go true true e h more = rw e refl
    go true false e h more = rw e (more h)
    go false true e h more = rw e refl
    go false false e h more = rw e (more h)

pub attempt_lasts : (id : AttemptId) → IsLasting (λ app. stands_in id app ≡ true)
attempt_lasts id =
    record {
      attempt = λ app new h. is_some-find (λ (one : AttemptRecord). is_attempt one.id id) (app.attempts ++ new ∷ [])
          ∙ stays_there (λ (one : AttemptRecord). is_attempt one.id id) app.attempts (new ∷ []) (sym (is_some-find (λ (one : AttemptRecord). is_attempt one.id id) app.attempts) ∙ h);
      attempt_end = λ app one how text h. ended_stands id one how text app.attempts h;
      app_end = λ app how text order h. h;
    }

-- an attempt is kept, or its application was retired
abbrev pub IsHeld : List AppRecord → List AppId → AttemptId → Type 0
IsHeld apps retired id = (attempt_stands apps id ≡ true) ⊎ (has_app retired id.app ≡ true)

-- after an operation is kept
kept_held : (r : Records) (life : LifeState) (op : Op) (id : AttemptId) → IsHeld r.apps life.apps.retired id → IsHeld (recorded r op).apps (life_keeps life op).apps.retired id
kept_held r life op id (inr gone) = inr (still op)
  where
    still : (op : Op) → has_app (life_keeps life op).apps.retired id.app ≡ true
    still (Epoch next stamp) = gone
    still (App one submission) = gone
    still (Attempt one master node) = gone
    still (AttemptEnd one how text) = gone
    still (AppEnd one how text) = gone
    still (Remove one) = stays_there (λ (x : AppId). is_app x id.app) life.apps.retired (one ∷ []) gone
kept_held r life op id (inl there) = go (is_remove_op id.app op) refl
  where
    retires : (op : Op) → is_remove_op id.app op ≡ true → has_app (life_keeps life op).apps.retired id.app ≡ true
    retires (Epoch next stamp) h = cc
    retires (App one submission) h = cc
    retires (Attempt one master node) h = cc
    retires (AttemptEnd one how text) h = cc
    retires (AppEnd one how text) h = cc
    retires (Remove one) h = last_there (λ (x : AppId). is_app x id.app) life.apps.retired one h

    go : (b : Bool) → is_remove_op id.app op ≡ b → IsHeld (recorded r op).apps (life_keeps life op).apps.retired id
    go true e = inr (retires op e)
    go false e =
        inl (from_record id (record_of (recorded r op).apps id.app)
        (recorded_says id.app (λ app. stands_in id app ≡ true) (attempt_lasts id) r op e (to_record id (record_of r.apps id.app) there)))

-- each master that registered
abbrev pub AllHeld : Records → LifeState → Type 0
AllHeld r life = Each (λ master. IsHeld r.apps life.apps.retired master.attempt) life.masters.registered

each_changed : (P : AttemptId → Type 0) (change : MasterState → MasterState) → ((master : MasterState) → (change master).attempt ≡ master.attempt) → (attempt : AttemptId) (masters : List MasterState)
    → Each (λ master. P master.attempt) masters → Each (λ master. P master.attempt) (map (λ one. if is_attempt one.attempt attempt then change one else one) masters)
each_changed P change same attempt [] h = tt
each_changed P change same attempt (master ∷ masters) h = (go (is_attempt master.attempt attempt), each_changed P change same attempt masters h.1)
  where
    go : (b : Bool) → P (if b then change master else master).attempt
    go true = subst P (sym (same master)) h.0
    go false = h.0

-- a message is answered
module _ (m : Scene) where
  abbrev pub MastersAreHeld : LifeState → Type 0
  MastersAreHeld life = AllHeld m.records life

  registers_live : (reply told : Reply) (b live registered : Bool) → (reply ≡ replies.Gone → ⊥) → (reply ≡ replies.NotOpen → ⊥)
      → reply ≡ (if b then (if not live then replies.Gone else (if registered then replies.Already else told)) else replies.NotOpen) → live ≡ true
  registers_live reply told false live registered not_gone opened is = absurd (opened is)
  registers_live reply told true true registered not_gone opened is = refl
  registers_live reply told true false registered not_gone opened is = absurd (not_gone is)

  registers_held : MastersAreHeld m.life → (attempt : AttemptId) (reply : Reply) → is_live m attempt ≡ true → MastersAreHeld (registers m attempt reply)
  registers_held k attempt reply live =
      each-append (λ master. IsHeld m.records.apps m.life.apps.retired master.attempt) m.life.masters.registered _ k
      (inl (and_parts (attempt_is_kept m attempt) (not (attempt_end_issued m attempt)) live).0, tt)

  answered : (settings : Settings) → MastersAreHeld m.life → Changes m MastersAreHeld (λ message reply. reply ≡ reply_to settings m message)
  answered settings k =
      record {
        nothing = k;
        gives = λ user id is. k;
        joins = λ user id submission is new. k;
        wishes = λ id. k;
        registered = λ attempt is.
            registers_held k attempt replies.MasterRegistered
            (registers_live replies.MasterRegistered (registered_reply m attempt) m.life.is_open (is_live m attempt) (has_registered m attempt) (λ h. cc) (λ h. cc) is);
        takes_over = λ attempt kept is.
            registers_held k attempt (replies.Took kept)
            (registers_live (replies.Took kept) (registered_reply m attempt) m.life.is_open (is_live m attempt) (has_registered m attempt) (λ h. cc) (λ h. cc) is);
        allocated = λ attempt id asks release next grants ended is. each_changed (IsHeld m.records.apps m.life.apps.retired) _ (λ one. refl) attempt m.life.masters.registered k;
        finishes = λ attempt text. each_changed (IsHeld m.records.apps m.life.apps.retired) _ (λ one. refl) attempt m.life.masters.registered k;
        node_registered = λ name registration reply. k;
        beaten = λ name running done launch reply. k;
        ticks = λ time. k;
        node_expires = λ name. k;
        master_expires = λ attempt. k;
      }

  issued_held : (op : Op) → MastersAreHeld m.life → MastersAreHeld (life_issues m op)
  issued_held (Epoch next stamp) k = k
  issued_held (App id submission) k = k
  issued_held (Attempt id master node) k = k
  issued_held (AttemptEnd id how text) k = k
  issued_held (AppEnd id how text) k = k
  issued_held (Remove id) k = k

same_masters : (life : LifeState) (op : Op) → (life_keeps life op).masters ≡ life.masters
same_masters life (Epoch next stamp) = refl
same_masters life (App id submission) = refl
same_masters life (Attempt id master node) = refl
same_masters life (AttemptEnd id how text) = refl
same_masters life (AppEnd id how text) = refl
same_masters life (Remove id) = refl

abbrev pub HeldIn : List Op → Option LifeState → Type 0
HeldIn kept None = Unit {0}
HeldIn kept (Some life) = AllHeld (records kept) life

-- each entry that is allowed
in_life : (settings : Settings) (kept awaiting : List Op) (blew : Bool) (life : LifeState) (e : Entry) → AllHeld (records kept) life
    → AllowedIn settings (scene (state kept awaiting blew (Some life)) life) e → HeldIn (after (state kept awaiting blew (Some life)) e).kept (after (state kept awaiting blew (Some life)) e).life
in_life settings kept awaiting blew life (Opened landed epoch stamp) k may = absurd may
in_life settings kept awaiting blew life (Issued op) k may = issued_held (scene (state kept awaiting blew (Some life)) life) op k
in_life settings kept awaiting blew life (Kept op) k may =
    subst (λ (r : Records). AllHeld r (life_keeps life op)) (sym (fold_push recorded no_records kept op))
    (subst (λ (masters : List MasterState). Each (λ master. IsHeld (recorded (records kept) op).apps (life_keeps life op).apps.retired master.attempt) masters) (sym (ap (λ (x : Masters). x.registered) (same_masters life op)))
    (each-map (λ (master : MasterState). IsHeld (records kept).apps life.apps.retired master.attempt) (λ master. IsHeld (recorded (records kept) op).apps (life_keeps life op).apps.retired master.attempt)
    (λ master h. kept_held (records kept) life op master.attempt h) life.masters.registered k))
in_life settings kept awaiting blew life (Served sender message reply) k may =
    let m = scene (state kept awaiting blew (Some life)) life in served m (MastersAreHeld m) (λ one answer. answer ≡ reply_to settings m one) (answered m settings k) message reply may.answers
in_life settings kept awaiting blew life Down k may = tt
in_life settings kept awaiting blew life e k may = k

step : (settings : Settings) (kept awaiting : List Op) (blew : Bool) (life : Option LifeState) (e : Entry) → HeldIn kept life → Allowed settings (state kept awaiting blew life) e
    → HeldIn (after (state kept awaiting blew life) e).kept (after (state kept awaiting blew life) e).life
step settings kept awaiting blew None (Opened landed epoch stamp) k may = tt
step settings kept awaiting blew None _ k may = absurd may
step settings kept awaiting blew (Some life) e k may = in_life settings kept awaiting blew life e k may

all_kept : (s : Manager) (life : Option LifeState) → HeldIn s.kept life → AllKeptOrRetired s life
all_kept s None k = tt
all_kept s (Some life) k = each_all _ life.masters.registered k

-- the law
pub registered_are_kept : (settings : Settings) (opening : List Op) (log : List Entry) → AllAllowed settings (opening_state opening) log → RegisteredAreKept opening log
registered_are_kept settings opening log allowed before rest whole =
    all_kept (after_all (opening_state opening) before) (after_all (opening_state opening) before).life
    (walk settings (λ (s : Manager). HeldIn s.kept s.life) (λ s e k may. step settings s.kept s.awaiting s.blew s.life e k may) opening log before rest tt allowed whole).0
