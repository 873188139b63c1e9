-- What is recorded of an application stays, until its Remove.
use Rattle.rm_laws.proofs.Common.{◌≡◌, ℕ, List, [], ◌∷◌, ◌++◌, Bool, true, false, not, cond, if◌then◌else◌, Option, None, Some, map, filter, find, take, refl, sym, ap, subst, arith, ◌∙◌, append-nil, append_assoc, drop, length, IsSomeAnd, list_any, nat_tests, fold_push, or_parts, Entry, Opened, Kept, AppId, AttemptId, Op, Epoch, App, Attempt, AttemptEnd, AppEnd, Remove, How, AppRecord, AttemptRecord, is_app, Records, records, recorded, no_records, record_of, with_end, with_record, same_app, LifeState, Manager, opening_state, is_remove_op, after, after_all}
use Rattle.std.proofs.Math.Seq.{drop-append_seam}
use Rattle.rm_laws.specs.Laws.{IsRemembered, Passage, kept_since}
use Rattle.rm_laws.proofs.Phases.{state}
use Rattle.rm_laws.proofs.Walks.{after-append}

-- the first that passes, in a longer list, a changed one, and one from which others went
module _ {X : Type 0} (p : X → Bool) (P : X → Type 0) where
  find-append : (xs ys : List X) → IsSomeAnd (find p xs) P → IsSomeAnd (find p (xs ++ ys)) P
  find-append [] ys h = absurd h
  find-append (x ∷ xs) ys h = go (p x) (find-append xs ys) h
    where
      go : (b : Bool) → (IsSomeAnd (find p xs) P → IsSomeAnd (find p (xs ++ ys)) P) → IsSomeAnd (cond b (Some x) (find p xs)) P → IsSomeAnd (cond b (Some x) (find p (xs ++ ys))) P
      go true more h = h
      go false more h = more h

  find-map : (f : X → X) → ((x : X) → p (f x) ≡ p x) → ((x : X) → P x → P (f x)) → (xs : List X) → IsSomeAnd (find p xs) P → IsSomeAnd (find p (map f xs)) P
  find-map f same keeps [] h = absurd h
  find-map f same keeps (x ∷ xs) h = rw (same x) (go (p x) (find-map f same keeps xs) h)
    where
      go : (b : Bool) → (IsSomeAnd (find p xs) P → IsSomeAnd (find p (map f xs)) P) → IsSomeAnd (cond b (Some x) (find p xs)) P → IsSomeAnd (cond b (Some (f x)) (find p (map f xs))) P
      go true more h = keeps x h
      go false more h = more h

  find-filter : (q : X → Bool) → ((x : X) → p x ≡ true → q x ≡ true) → (xs : List X) → IsSomeAnd (find p xs) P → IsSomeAnd (find p (filter q xs)) P
  find-filter q keeps [] h = absurd h
  find-filter q keeps (x ∷ xs) h = go (p x) refl (q x) refl (find-filter q keeps xs) h
    where
      go : (a : Bool) → p x ≡ a → (b : Bool) → q x ≡ b → (IsSomeAnd (find p xs) P → IsSomeAnd (find p (filter q xs)) P) → IsSomeAnd (cond a (Some x) (find p xs)) P
          → IsSomeAnd (find p (cond b (x ∷ filter q xs) (filter q xs))) P
      go true e true f more h = rw e h
      go true e false f more h = absurd (let k : true ≡ false = sym (keeps x e) ∙ f in cc)
      go false e true f more h = rw e (more h)
      go false e false f more h = more h

-- something is said of an application's record that lasts: no attempt, no attempt's end and no end of its own takes it away
pub record IsLasting (P : AppRecord → Type 0) : Type 0 where
  pub attempt : (app : AppRecord) (new : AttemptRecord) → P app → P (record app { attempts = app.attempts ++ new ∷ [] })
  pub attempt_end : (app : AppRecord) (id : AttemptId) (how : How) (text : List ℕ) → P app → P (record app { attempts = map (with_end id how text) app.attempts })
  pub app_end : (app : AppRecord) (how : How) (text : List ℕ) (order : ℕ) → P app → P (record app { ending = Some (how, text); end_order = order })

module _ (id : AppId) (P : AppRecord → Type 0) (lasts : IsLasting P) where
  abbrev pub Says : List AppRecord → Type 0
  Says apps = IsSomeAnd (record_of apps id) P

  changed_says : (change : AppRecord → AppRecord) → ((app : AppRecord) → (change app).id ≡ app.id) → ((app : AppRecord) → P app → P (change app)) → (one : AppId) (apps : List AppRecord)
      → Says apps → Says (with_record change one apps)
  changed_says change ids keeps one apps h =
      find-map (λ app. is_app app.id id) P (λ app. if is_app app.id one then change app else app) (λ app. same_id app (is_app app.id one)) (λ app says. still app (is_app app.id one) says) apps h
    where
      same_id : (app : AppRecord) (b : Bool) → is_app (if b then change app else app).id id ≡ is_app app.id id
      same_id app true = ap (λ (x : AppId). is_app x id) (ids app)
      same_id app false = refl

      still : (app : AppRecord) (b : Bool) → P app → P (if b then change app else app)
      still app true says = keeps app says
      still app false says = says

  removed_says : (one : AppId) (apps : List AppRecord) → is_app one id ≡ false → Says apps → Says (filter (λ app. not (is_app app.id one)) apps)
  removed_says one apps other h =
      find-filter (λ app. is_app app.id id) P (λ app. not (is_app app.id one)) (λ app same. differs app.id (same_app app.id id same)) apps h
    where
      differs : (x : AppId) → x ≡ id → not (is_app x one) ≡ true
      differs x e = grind (arith, nat_tests)

  pub recorded_says : (r : Records) (op : Op) → is_remove_op id op ≡ false → Says r.apps → Says (recorded r op).apps
  recorded_says r (Epoch next stamp) other h = h
  recorded_says r (App one submission) other h = find-append (λ app. is_app app.id id) P r.apps _ h
  recorded_says r (Attempt one master node) other h = changed_says _ (λ app. refl) (λ app says. lasts.attempt app _ says) one.app r.apps h
  recorded_says r (AttemptEnd one how text) other h = changed_says _ (λ app. refl) (λ app says. lasts.attempt_end app one how text says) one.app r.apps h
  recorded_says r (AppEnd one how text) other h = changed_says _ (λ app. refl) (λ app says. lasts.app_end app how text _ says) one r.apps h
  recorded_says r (Remove one) other h = removed_says one r.apps other h

  -- and over what is kept, unless it is removed
  pub kept_says : (kept more : List Op) → list_any (is_remove_op id) more ≡ false → Says (records kept).apps → Says (records (kept ++ more)).apps
  kept_says kept [] none h = rw (append-nil kept) h
  kept_says kept (op ∷ more) none h =
      let n = or_parts (is_remove_op id op) (list_any (is_remove_op id) more) none in
      let next : Says (records (kept ++ op ∷ [])).apps = subst (λ (r : Records). Says r.apps) (sym (fold_push recorded no_records kept op)) (recorded_says (records kept) op n.0 h) in
      subst (λ (ops : List Op). Says (records ops).apps) (append_assoc kept (op ∷ []) more) (kept_says (kept ++ op ∷ []) more n.1 next)

-- what is kept only grows
abbrev pub same_kept : (kept : List Op) → (more : List Op) × (kept ≡ kept ++ more)
same_kept kept = ([], sym (append-nil kept))

abbrev pub grow : (kept awaiting : List Op) (blew : Bool) (life : Option LifeState) (e : Entry) → (more : List Op) × ((after (state kept awaiting blew life) e).kept ≡ kept ++ more)
grow kept awaiting blew None (Opened landed epoch stamp) = (take landed awaiting, refl)
grow kept awaiting blew None _ = same_kept kept
grow kept awaiting blew (Some life) (Kept op) = (op ∷ [], refl)
grow kept awaiting blew (Some life) _ = same_kept kept

abbrev pub grow_all : (s : Manager) (log : List Entry) → (more : List Op) × ((after_all s log).kept ≡ s.kept ++ more)
grow_all s [] = same_kept s.kept
grow_all s (e ∷ log) =
    let one = grow s.kept s.awaiting s.blew s.life e in
    let rest = grow_all (after s e) log in
    (one.0 ++ rest.0, rest.1 ∙ ap (λ (ops : List Op). ops ++ rest.0) one.1 ∙ append_assoc s.kept one.0 rest.0)

-- over a passage: what is kept at its later place, and what of that is kept since the state before it
module _ (opening : List Op) (log : List Entry) (p : Passage log) where
  abbrev pub since : List Op
  since = (grow_all (after_all (opening_state opening) p.before) (p.entry ∷ p.after)).0

  pub kept_later : (after_all (opening_state opening) (p.before ++ p.entry ∷ p.after)).kept ≡ (after_all (opening_state opening) p.before).kept ++ since
  kept_later =
      ap (λ (x : Manager). x.kept) (after-append (opening_state opening) p.before (p.entry ∷ p.after)) ∙ (grow_all (after_all (opening_state opening) p.before) (p.entry ∷ p.after)).1

  since_is : drop (length (after_all (opening_state opening) p.before).kept) (after_all (opening_state opening) (p.before ++ p.entry ∷ p.after)).kept ≡ since
  since_is =
      ap (λ (ops : List Op). drop (length (after_all (opening_state opening) p.before).kept) ops) kept_later ∙ drop-append_seam (after_all (opening_state opening) p.before).kept since

  pub none_removed : (id : AppId) → IsRemembered opening p id → list_any (is_remove_op id) since ≡ false
  none_removed id stands = ap (list_any (is_remove_op id)) (sym since_is) ∙ stands

  -- the law
  pub kept_stays : (after_all (opening_state opening) (p.before ++ p.entry ∷ p.after)).kept ≡ (after_all (opening_state opening) p.before).kept ++ kept_since (after_all (opening_state opening) p.before) (after_all (opening_state opening) (p.before ++ p.entry ∷ p.after))
  kept_stays = kept_later ∙ ap (λ (ops : List Op). (after_all (opening_state opening) p.before).kept ++ ops) (sym since_is)
