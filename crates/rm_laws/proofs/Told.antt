-- What was told of an application stays.
use Rattle.rm_laws.proofs.Common.{◌≡◌, ◌⊎◌, ℕ, List, [], ◌∷◌, ◌++◌, Bool, true, false, ◌||◌, ◌&&◌, not, cond, if◌then◌else◌, Option, None, Some, is_some, map, filter, find, refl, sym, ap, subst, arith, ◌∙◌, inl, inr, IsSomeAnd, list_any, nat_tests, list_any-append, fold_push, any-filter_same, or_parts, Entry, Opened, Issued, Kept, Served, Down, AppId, Op, Epoch, App, Attempt, AttemptEnd, AppEnd, Remove, Submission, Submitted, AppRecord, Reply, Settings, is_app, Records, records, recorded, no_records, record_of, with_record, is_some_and, last_attempt, AttemptRecord, How, has_registered, LifeState, Manager, Scene, scene, opening_state, attempts_in, end_in, has_app, is_app_op, is_submitted, is_known, submission_of, same_app, is_some-find, reply_to, Allowed, AllowedIn, after, after_all, life_issues, life_keeps, AllAllowed}
use Rattle.std.proofs.Common.{option_map}
use Rattle.rm_types.specs.declared.entries.Entry.TheVariants.{Accepted}
use Rattle.rm_types.specs.declared.messages.ClientAsk.TheVariants.{New as AskNew, Submit as AskSubmit, Report as AskReport, Kill as AskKill}
use Rattle.rm_types.specs.declared.messages.Message.TheVariants.{Client as FromClient}
use Rattle.rm_types.specs.declared.replies.Reply.TheVariants as replies
use Rattle.rm_types.specs.declared.replies.Report.{Report}
use Rattle.rm_types.specs.Lists.{is_nil}
use Rattle.rm_model.specs.Attempts.{has_failed}
use Rattle.rm_model.specs.State.{Applications}
use Rattle.rm_model.specs.Facts.{awaits, is_accepted, kept_attempts, kept_end, submission_in, waiting_submission}
use Rattle.rm_model.specs.ClientReplies.{going_word, is_running, report_of, state_word, submit_reply}
use Rattle.rm_types.specs.declared.replies.StateWord.TheVariants as states
use Rattle.rm_types.proofs.IdLemmas.{app_itself}
use Rattle.rm_laws.specs.Laws.{IsReported, ToldStays, is_told_word, told_by}
use Rattle.rm_laws.proofs.Messages.{Changes, served}
use Rattle.rm_laws.proofs.Phases.{state}
use Rattle.rm_laws.proofs.Recorded.{IsLasting, kept_says, kept_later, none_removed, since}
use Rattle.rm_laws.proofs.Walks.{walk}

-- an application has a record
abbrev pub has_record : List AppRecord → AppId → Bool
has_record apps id = list_any (λ app. is_app app.id id) apps

-- what holds of the applications that a life knows: none is submitted that was accepted or is kept; and what was accepted is
-- kept or retired
pub record AreKnown (recorded_apps : List AppRecord) (apps : Applications) : Type 0 where
  pub accepted_out : (id : AppId) → has_app apps.accepted id ≡ true → is_submitted apps.submitted id ≡ true → ⊥
  pub kept_out : (id : AppId) → has_record recorded_apps id ≡ true → is_submitted apps.submitted id ≡ true → ⊥
  pub held : (id : AppId) → has_app apps.accepted id ≡ true → (has_record recorded_apps id ≡ true) ⊎ (has_app apps.retired id ≡ true)

abbrev pub Known : List Op → Option LifeState → Type 0
Known kept None = Unit {0}
Known kept (Some life) = AreKnown (records kept).apps life.apps

pub either_true : (a b : Bool) → (a || b) ≡ true → (a ≡ true) ⊎ (b ≡ true)
either_true true b h = inl refl
either_true false b h = inr h

-- one more at the end of a list
pub pushed : {X : Type 0} (p : X → Bool) (xs : List X) (x : X) → list_any p (xs ++ x ∷ []) ≡ true → (list_any p xs ≡ true) ⊎ (p x ≡ true)
pushed p xs x h = go (either_true (list_any p xs) (list_any p (x ∷ [])) (sym (list_any-append p xs (x ∷ [])) ∙ h))
  where
    go : (list_any p xs ≡ true) ⊎ (list_any p (x ∷ []) ≡ true) → (list_any p xs ≡ true) ⊎ (p x ≡ true)
    go (inl a) = inl a
    go (inr b) = last (either_true (p x) false b)
      where
        last : (p x ≡ true) ⊎ (false ≡ true) → (list_any p xs ≡ true) ⊎ (p x ≡ true)
        last (inl c) = inr c
        last (inr c) = cc

pub stays_there : {X : Type 0} (p : X → Bool) (xs ys : List X) → list_any p xs ≡ true → list_any p (xs ++ ys) ≡ true
stays_there p xs ys h = list_any-append p xs ys ∙ rw h refl

pub last_there : {X : Type 0} (p : X → Bool) (xs : List X) (x : X) → p x ≡ true → list_any p (xs ++ x ∷ []) ≡ true
last_there p [] x h = rw h refl
last_there p (y ∷ xs) x h = go (p y) (last_there p xs x h)
  where
    go : (b : Bool) → list_any p (xs ++ x ∷ []) ≡ true → (b || list_any p (xs ++ x ∷ [])) ≡ true
    go true more = refl
    go false more = more

pub any-map : {X : Type 0} (p : X → Bool) (f : X → X) → ((x : X) → p (f x) ≡ p x) → (xs : List X) → list_any p (map f xs) ≡ list_any p xs
any-map p f same [] = refl
any-map p f same (x ∷ xs) = rw (same x, any-map p f same xs) refl

-- what is left of a filter was there, and passed
pub any-filter : {X : Type 0} (p q : X → Bool) (xs : List X) → list_any p (filter q xs) ≡ true → list_any p xs ≡ true
any-filter p q [] h = h
any-filter p q (x ∷ xs) h = go (p x) refl (q x) (any-filter p q xs) h
  where
    go : (a : Bool) → p x ≡ a → (b : Bool) → (list_any p (filter q xs) ≡ true → list_any p xs ≡ true) → list_any p (cond b (x ∷ filter q xs) (filter q xs)) ≡ true → (a || list_any p xs) ≡ true
    go true e b more h = refl
    go false e true more h = more (rw e at h)
    go false e false more h = more h

-- a submission joins that isn't known and isn't retired
pub joined : (recorded_apps : List AppRecord) (apps : Applications) (id : AppId) (submission : Submission) → AreKnown recorded_apps apps
    → is_submitted apps.submitted id ≡ false → has_record recorded_apps id ≡ false → has_app apps.retired id ≡ false
    → AreKnown recorded_apps (record apps { submitted = apps.submitted ++ record { id = id; submission = submission } ∷ [] })
joined recorded_apps apps id submission k new none here =
    record {
      accepted_out = λ x accepted there. go_accepted x accepted (pushed (λ (one : Submitted). is_app one.id x) apps.submitted (record { id = id; submission = submission }) there);
      kept_out = λ x kept there. go_kept x kept (pushed (λ (one : Submitted). is_app one.id x) apps.submitted (record { id = id; submission = submission }) there);
      held = k.held;
    }
  where
    never : (a b : Bool) → a ≡ false → b ≡ true → a ≡ b → ⊥
    never a b f t e = let x : false ≡ true = sym f ∙ e ∙ t in cc

    go_kept : (x : AppId) → has_record recorded_apps x ≡ true → (is_submitted apps.submitted x ≡ true) ⊎ (is_app id x ≡ true) → ⊥
    go_kept x kept (inl there) = k.kept_out x kept there
    go_kept x kept (inr same) = let e = same_app id x same in let y : has_record recorded_apps id ≡ true = subst (λ (i : AppId). has_record recorded_apps i ≡ true) (sym e) kept in cc

    go_accepted : (x : AppId) → has_app apps.accepted x ≡ true → (is_submitted apps.submitted x ≡ true) ⊎ (is_app id x ≡ true) → ⊥
    go_accepted x accepted (inl there) = k.accepted_out x accepted there
    go_accepted x accepted (inr same) = which (k.held x accepted)
      where
        which : (has_record recorded_apps x ≡ true) ⊎ (has_app apps.retired x ≡ true) → ⊥
        which (inl kept) = let e = same_app id x same in let y : has_record recorded_apps id ≡ true = subst (λ (i : AppId). has_record recorded_apps i ≡ true) (sym e) kept in cc
        which (inr gone) = let e = same_app id x same in let y : has_app apps.retired id ≡ true = subst (λ (i : AppId). has_app apps.retired i ≡ true) (sym e) gone in cc

-- a kept application is accepted
accepts : (recorded_apps : List AppRecord) (apps : Applications) (id : AppId) → AreKnown recorded_apps apps → has_record recorded_apps id ≡ true
    → AreKnown recorded_apps (record apps { accepted = apps.accepted ++ id ∷ [] })
accepts recorded_apps apps id k kept =
    record {
      accepted_out = λ x accepted there. go_out x there (pushed (λ (one : AppId). is_app one x) apps.accepted id accepted);
      kept_out = k.kept_out;
      held = λ x accepted. go_held x (pushed (λ (one : AppId). is_app one x) apps.accepted id accepted);
    }
  where
    go_out : (x : AppId) → is_submitted apps.submitted x ≡ true → (has_app apps.accepted x ≡ true) ⊎ (is_app id x ≡ true) → ⊥
    go_out x there (inl accepted) = k.accepted_out x accepted there
    go_out x there (inr same) = k.kept_out x (subst (λ (i : AppId). has_record recorded_apps i ≡ true) (same_app id x same) kept) there

    go_held : (x : AppId) → (has_app apps.accepted x ≡ true) ⊎ (is_app id x ≡ true) → (has_record recorded_apps x ≡ true) ⊎ (has_app apps.retired x ≡ true)
    go_held x (inl accepted) = k.held x accepted
    go_held x (inr same) = inl (subst (λ (i : AppId). has_record recorded_apps i ≡ true) (same_app id x same) kept)

-- the applications after a record of one is added
adds : (old new : List AppRecord) (apps : Applications) (id : AppId) → ((x : AppId) → has_record new x ≡ true → (has_record old x ≡ true) ⊎ (is_app id x ≡ true))
    → ((x : AppId) → has_record old x ≡ true → has_record new x ≡ true) → AreKnown old apps
    → AreKnown new (record apps { submitted = filter (λ one. not (is_app one.id id)) apps.submitted })
adds old new apps id back on k =
    record {
      accepted_out = λ x accepted there. k.accepted_out x accepted (any-filter (λ (one : Submitted). is_app one.id x) (λ one. not (is_app one.id id)) apps.submitted there);
      kept_out = λ x kept there. go x there (back x kept);
      held = λ x accepted. held x (k.held x accepted);
    }
  where
    go : (x : AppId) → is_submitted (filter (λ one. not (is_app one.id id)) apps.submitted) x ≡ true → (has_record old x ≡ true) ⊎ (is_app id x ≡ true) → ⊥
    go x there (inl kept) = k.kept_out x kept (any-filter (λ (one : Submitted). is_app one.id x) (λ one. not (is_app one.id id)) apps.submitted there)
    go x there (inr same) =
        let none : is_submitted (filter (λ one. not (is_app one.id id)) apps.submitted) x ≡ (false && is_submitted apps.submitted x) =
        any-filter_same (λ (one : Submitted). is_app one.id x) (λ one. not (is_app one.id id)) false (λ one at. out one.id at) apps.submitted in
        let y : true ≡ false = sym there ∙ none in cc
      where
        out : (a : AppId) → is_app a x ≡ true → not (is_app a id) ≡ false
        out a at = let e = same_app a x at in let f = same_app id x same in
            let g : is_app a id ≡ true = subst (λ (i : AppId). is_app i id ≡ true) (f ∙ sym e) (app_itself id) in rw g refl

    held : (x : AppId) → (has_record old x ≡ true) ⊎ (has_app apps.retired x ≡ true) → (has_record new x ≡ true) ⊎ (has_app apps.retired x ≡ true)
    held x (inl kept) = inl (on x kept)
    held x (inr gone) = inr gone

-- after a change that keeps which applications have records
alike : (old new : List AppRecord) (apps : Applications) → ((x : AppId) → has_record new x ≡ has_record old x) → AreKnown old apps → AreKnown new apps
alike old new apps same k =
    record {
      accepted_out = k.accepted_out;
      kept_out = λ x kept there. k.kept_out x (sym (same x) ∙ kept) there;
      held = λ x accepted. go x (k.held x accepted);
    }
  where
    go : (x : AppId) → (has_record old x ≡ true) ⊎ (has_app apps.retired x ≡ true) → (has_record new x ≡ true) ⊎ (has_app apps.retired x ≡ true)
    go x (inl kept) = inl (same x ∙ kept)
    go x (inr gone) = inr gone

changed : (change : AppRecord → AppRecord) → ((app : AppRecord) → (change app).id ≡ app.id) → (one : AppId) (apps : List AppRecord) (x : AppId)
    → has_record (with_record change one apps) x ≡ has_record apps x
changed change keeps one apps x = any-map (λ app. is_app app.id x) (λ app. if is_app app.id one then change app else app) (λ app. go app (is_app app.id one)) apps
  where
    go : (app : AppRecord) (b : Bool) → is_app (if b then change app else app).id x ≡ is_app app.id x
    go app true = ap (λ (i : AppId). is_app i x) (keeps app)
    go app false = refl

-- an application is removed, and its id retired
retires : (old : List AppRecord) (apps : Applications) (id : AppId) → AreKnown old apps
    → AreKnown (filter (λ app. not (is_app app.id id)) old) (record apps { retired = apps.retired ++ id ∷ [] })
retires old apps id k =
    record {
      accepted_out = k.accepted_out;
      kept_out = λ x kept there. k.kept_out x (any-filter (λ (app : AppRecord). is_app app.id x) (λ app. not (is_app app.id id)) old kept) there;
      held = λ x accepted. go x (k.held x accepted) (is_app id x) refl;
    }
  where
    go : (x : AppId) → (has_record old x ≡ true) ⊎ (has_app apps.retired x ≡ true) → (b : Bool) → is_app id x ≡ b
        → (has_record (filter (λ app. not (is_app app.id id)) old) x ≡ true) ⊎ (has_app (apps.retired ++ id ∷ []) x ≡ true)
    go x h true same = inr (last_there (λ (one : AppId). is_app one x) apps.retired id same)
    go x (inr gone) false other = inr (stays_there (λ (one : AppId). is_app one x) apps.retired (id ∷ []) gone)
    go x (inl kept) false other =
        inl (any-filter_same (λ (app : AppRecord). is_app app.id x) (λ app. not (is_app app.id id)) true (λ app at. still app.id (same_app app.id x at)) old ∙ kept)
      where
        still : (a : AppId) → a ≡ x → not (is_app a id) ≡ true
        still a e = grind (arith, nat_tests)

-- an operation is kept
keeps : (r : Records) (life : LifeState) (op : Op) → AreKnown r.apps life.apps → AreKnown (recorded r op).apps (life_keeps life op).apps
keeps r life (Epoch next stamp) k = k
keeps r life (App id submission) k =
    adds r.apps (recorded r (App id submission)).apps life.apps id
    (λ x h. pushed (λ (app : AppRecord). is_app app.id x) r.apps (record { id = id; submission = submission; attempts = []; ending = None; end_order = 0 }) h)
    (λ x h. stays_there (λ (app : AppRecord). is_app app.id x) r.apps _ h) k
keeps r life (Attempt id master node) k = alike r.apps (recorded r (Attempt id master node)).apps life.apps (changed _ (λ app. refl) id.app r.apps) k
keeps r life (AttemptEnd id how text) k = alike r.apps (recorded r (AttemptEnd id how text)).apps life.apps (changed _ (λ app. refl) id.app r.apps) k
keeps r life (AppEnd id how text) k = alike r.apps (recorded r (AppEnd id how text)).apps life.apps (changed _ (λ app. refl) id r.apps) k
keeps r life (Remove id) k = retires r.apps life.apps id k

-- a message is answered
module _ (m : Scene) where
  abbrev pub AppsAreKnown : LifeState → Type 0
  AppsAreKnown life = AreKnown m.records.apps life.apps

  -- a submission that is taken isn't retired
  pub not_retired : (given retired : Bool) (rest : Reply) → replies.Submitted ≡ (if not given then replies.BadId else (if retired then replies.Retired else rest)) → retired ≡ false
  not_retired false retired rest h = cc
  not_retired true true rest h = cc
  not_retired true false rest h = refl

  submits : (settings : Settings) (id : AppId) (submission : Submission) (b : Bool)
      → replies.Submitted ≡ (if b then submit_reply settings m id submission else replies.NotOpen) → is_known m id ≡ false
      → AppsAreKnown m.life → AppsAreKnown (record m.life { apps = record m.life.apps { submitted = m.life.apps.submitted ++ record { id = id; submission = submission } ∷ [] } })
  submits settings id submission false is new k = absurd (let x = is in cc)
  submits settings id submission true is new k =
      let both = or_parts (is_submitted m.life.apps.submitted id) (is_some (record_of m.records.apps id)) new in
      joined m.records.apps m.life.apps id submission k both.0 (sym (is_some-find (λ (app : AppRecord). is_app app.id id) m.records.apps) ∙ both.1) (not_retired _ (has_app m.life.apps.retired id) _ is)

  answered : (settings : Settings) → AppsAreKnown m.life → Changes m AppsAreKnown (λ message reply. reply ≡ reply_to settings m message)
  answered settings k =
      record {
        nothing = k;
        gives = λ user id is. k;
        joins = λ user id submission is new. submits settings id submission m.life.is_open is new k;
        wishes = λ id. record { accepted_out = k.accepted_out; kept_out = k.kept_out; held = k.held };
        registered = λ attempt is. k;
        takes_over = λ attempt kept is. k;
        allocated = λ attempt id asks release next grants ended is. k;
        finishes = λ attempt text. k;
        node_registered = λ name registration reply. k;
        beaten = λ name running done launch reply. k;
        ticks = λ time. k;
        node_expires = λ name. k;
        master_expires = λ attempt. k;
      }

  issued_known : (op : Op) → AppsAreKnown m.life → AppsAreKnown (life_issues m op)
  issued_known (Epoch next stamp) k = k
  issued_known (App id submission) k = k
  issued_known (Attempt id master node) k = k
  issued_known (AttemptEnd id how text) k = k
  issued_known (AppEnd id how text) k = k
  issued_known (Remove id) k = k

-- each entry that is allowed
in_life : (settings : Settings) (kept awaiting : List Op) (blew : Bool) (life : LifeState) (e : Entry) → AreKnown (records kept).apps life.apps
    → AllowedIn settings (scene (state kept awaiting blew (Some life)) life) e → Known (after (state kept awaiting blew (Some life)) e).kept (after (state kept awaiting blew (Some life)) e).life
in_life settings kept awaiting blew life (Opened landed epoch stamp) k may = absurd may
in_life settings kept awaiting blew life (Issued op) k may = issued_known (scene (state kept awaiting blew (Some life)) life) op k
in_life settings kept awaiting blew life (Kept op) k may =
    subst (λ (r : Records). AreKnown r.apps (life_keeps life op).apps) (sym (fold_push recorded no_records kept op)) (keeps (records kept) life op k)
in_life settings kept awaiting blew life (Served sender message reply) k may =
    let m = scene (state kept awaiting blew (Some life)) life in served m (AppsAreKnown m) (λ one answer. answer ≡ reply_to settings m one) (answered m settings k) message reply may.answers
in_life settings kept awaiting blew life (Accepted app) k may =
    accepts (records kept).apps life.apps app k (sym (is_some-find (λ (one : AppRecord). is_app one.id app) (records kept).apps) ∙ may.kept)
in_life settings kept awaiting blew life Down k may = tt
in_life settings kept awaiting blew life e k may = k

pub step : (settings : Settings) (kept awaiting : List Op) (blew : Bool) (life : Option LifeState) (e : Entry) → Known kept life → Allowed settings (state kept awaiting blew life) e
    → Known (after (state kept awaiting blew life) e).kept (after (state kept awaiting blew life) e).life
step settings kept awaiting blew None (Opened landed epoch stamp) k may = record { accepted_out = λ id a b. cc; kept_out = λ id a b. cc; held = λ id a. cc }
step settings kept awaiting blew None _ k may = absurd may
step settings kept awaiting blew (Some life) e k may = in_life settings kept awaiting blew life e k may

pub tells_same : (a b : Report) → replies.Report a ≡ replies.Report b → a ≡ b
tells_same a b h = cc

some_submitted : (submitted : List Submitted) (id : AppId) (submission : Submission) → waiting_submission submitted id ≡ Some submission → is_submitted submitted id ≡ true
some_submitted submitted id submission h = sym (is_some-find (λ (one : Submitted). is_app one.id id) submitted) ∙ found (find (λ (one : Submitted). is_app one.id id) submitted) h
  where
    found : (o : Option Submitted) → option_map (λ (one : Submitted). one.submission) o ≡ Some submission → is_some o ≡ true
    found None e = cc
    found (Some one) e = refl

-- the word of an application that doesn't run, has no attempts and isn't kept is past NEW_SAVING only where it was accepted
accepted_word : (running accepted nil is_kept awaits : Bool) → running ≡ false → nil ≡ true → is_kept ≡ false
    → is_told_word (if running then states.Running else (if accepted || not nil then states.Accepted else (if is_kept then states.Submitted else (if awaits then states.NewSaving else states.New)))) ≡ true
    → accepted ≡ true
accepted_word true accepted nil is_kept awaits r n h told = cc
accepted_word false accepted false is_kept awaits r n h told = cc
accepted_word false accepted true true awaits r n h told = cc
accepted_word false true true false awaits r n h told = refl
accepted_word false false true false true r n h told = cc
accepted_word false false true false false r n h told = cc

-- what is reported with a word past NEW_SAVING has a record
module _ (m : Scene) (k : AreKnown m.records.apps m.life.apps) (id : AppId) (report : Report) where
  by_record : (r : Option AppRecord) → record_of m.records.apps id ≡ r → (w : Option Submission) → waiting_submission m.life.apps.submitted id ≡ w
      → replies.Report report ≡ report_of m id (submission_in r w) → is_told_word report.state ≡ true → IsSomeAnd r (λ app. IsReported report app.submission)
  by_record None none None w is told = cc
  by_record None none (Some submission) w is told =
      let same = tells_same report _ is in
      let attempts : kept_attempts m id ≡ [] = ap attempts_in none in
      let word : is_told_word (state_word m id (kept_end m id)) ≡ true = subst (λ (r : Report). is_told_word r.state ≡ true) same told in
      let going : is_told_word (going_word m id) ≡ true = subst (λ (e : Option (How × List ℕ)). is_told_word (state_word m id e) ≡ true) (ap end_in none) word in
      let accepted = accepted_word (is_running m id) (is_accepted m id) (is_nil (kept_attempts m id)) (is_some (record_of m.records.apps id)) (awaits m (is_app_op id))
      (ap (λ (a : List AttemptRecord). is_some_and (λ attempt. has_registered m attempt.id && not (has_failed attempt)) (last_attempt a)) attempts) (ap (λ (a : List AttemptRecord). is_nil a) attempts) (ap (λ (r : Option AppRecord). is_some r) none) going in
      absurd (k.accepted_out id accepted (some_submitted m.life.apps.submitted id submission w))
  by_record (Some app) some w e is told =
      let same = tells_same report _ is in
      record { user = sym (ap (λ (r : Report). r.user) same); queue = sym (ap (λ (r : Report). r.queue) same); name = sym (ap (λ (r : Report). r.name) same) }

  -- where a report is the answer
  by_answer : (settings : Settings) (user : List ℕ) (b : Bool) → replies.Report report ≡ (if b then report_of m id (submission_of m id) else replies.NotOpen) → is_told_word report.state ≡ true
      → IsSomeAnd (record_of m.records.apps id) (λ app. IsReported report app.submission)
  by_answer settings user false is told = cc
  by_answer settings user true is told = by_record (record_of m.records.apps id) refl (waiting_submission m.life.apps.submitted id) refl is told

pub some_same : {X : Type 0} {x y : X} → Some x ≡ Some y → x ≡ y
some_same h = cc

pub some_pair : (a b : AppId) (c d : Report) → ◌≡◌ {A = Option (AppId × Report)} (Some (a, c)) (Some (b, d)) → (a ≡ b) × (c ≡ d)
some_pair a b c d h =
    let same : ◌≡◌ {A = AppId × Report} (a, c) (b, d) = some_same h in
    (ap (λ (p : AppId × Report). p.0) same, ap (λ (p : AppId × Report). p.1) same)

-- an entry that tells is a client's question and its report
told_kept : (settings : Settings) (kept awaiting : List Op) (blew : Bool) (life : Option LifeState) (e : Entry) → Known kept life → Allowed settings (state kept awaiting blew life) e
    → (id : AppId) (report : Report) → told_by e ≡ Some (id, report) → is_told_word report.state ≡ true
    → IsSomeAnd (record_of (records kept).apps id) (λ app. IsReported report app.submission)
told_kept settings kept awaiting blew None (Opened landed epoch stamp) k may id report tells told = cc
told_kept settings kept awaiting blew None _ k may id report tells told = absurd may
told_kept settings kept awaiting blew (Some life) (Served sender (FromClient user (AskReport one)) (replies.Report other)) k may id report tells told =
    let same : (one ≡ id) × (other ≡ report) = some_pair one id other report tells in
    subst (λ (i : AppId). IsSomeAnd (record_of (records kept).apps i) (λ app. IsReported report app.submission)) same.0
    (by_answer (scene (state kept awaiting blew (Some life)) life) k one report settings user life.is_open
    (subst (λ (r : Report). replies.Report r ≡ (if life.is_open then report_of (scene (state kept awaiting blew (Some life)) life) one (submission_of (scene (state kept awaiting blew (Some life)) life) one) else replies.NotOpen)) same.1 may.answers) told)
told_kept settings kept awaiting blew (Some life) (Served sender (FromClient user (AskReport one)) reply) k may id report tells told = cc
told_kept settings kept awaiting blew (Some life) (Served sender (FromClient user AskNew) reply) k may id report tells told = cc
told_kept settings kept awaiting blew (Some life) (Served sender (FromClient user (AskSubmit one submission)) reply) k may id report tells told = cc
told_kept settings kept awaiting blew (Some life) (Served sender (FromClient user (AskKill one)) reply) k may id report tells told = cc
told_kept settings kept awaiting blew (Some life) (Served sender message reply) k may id report tells told = cc
told_kept settings kept awaiting blew (Some life) e k may id report tells told = cc

-- an application's submission lasts
submission_lasts : (P : Submission → Type 0) → IsLasting (λ app. P app.submission)
submission_lasts P = record { attempt = λ app new h. h; attempt_end = λ app id how text h. h; app_end = λ app how text order h. h }

-- the law
pub told_stays : (settings : Settings) (opening : List Op) (log : List Entry) → AllAllowed settings (opening_state opening) log → ToldStays opening log
told_stays settings opening log allowed p id report tells told stands =
    let s = after_all (opening_state opening) p.before in
    let g = walk settings (λ (x : Manager). Known x.kept x.life) (λ x e k may. step settings x.kept x.awaiting x.blew x.life e k may) opening log p.before (p.entry ∷ (p.after ++ p.rest)) tt allowed p.whole in
    let here = told_kept settings s.kept s.awaiting s.blew s.life p.entry g.0 g.1.0 id report tells told in
    subst (λ (ops : List Op). IsSomeAnd (record_of (records ops).apps id) (λ app. IsReported report app.submission)) (sym (kept_later opening log p)) (kept_says id (λ app. IsReported report app.submission) (submission_lasts (IsReported report)) s.kept (since opening log p) (none_removed opening log p id stands) here)
