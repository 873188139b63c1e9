-- A container that was released while it was missing is in no book of that life.
use Rattle.rm_laws.proofs.Common.{◌≡◌, ◌⊎◌, ℕ, List, [], ◌∷◌, Bool, true, false, ◌||◌, ◌&&◌, not, cond, Option, None, Some, map, filter, refl, sym, ap, subst, arith, nat_tests, ◌∙◌, inl, inr, IsSomeAnd, nat_lt, list_any-append, and_parts, or_left, or_right, not-true, bytes_eq, Grant, Held, Entry, Opened, Issued, Kept, Served, Absorbed, Pass, Ended, Down, ContainerId, Op, Epoch, App, Attempt, AttemptEnd, AppEnd, Remove, Settings, is_container, same_container, LifeState, Manager, NodeState, Scene, scene, opening_state, has_container, is_held, is_living, lives_on, judged_node, life_issues, life_keeps, Allowed, AllowedIn, MayAbsorb, MayPass, after, after_all, AllAllowed}
use Rattle.rm_types.proofs.IdLemmas.{container_itself}
use Rattle.rm_types.proofs.TestLemmas.{and_false}
use Rattle.rm_model.specs.Containers.{is_missing, missing_released}
use Rattle.rm_model.specs.Passing.{pass_of}
use Rattle.rm_laws.specs.Laws.{PendingAreOut, ReleasedStay, lives_on_node, stands_by}
use Rattle.rm_laws.proofs.Book.{each_held}
use Rattle.rm_laws.proofs.Done.{living_home, none_lives}
use Rattle.rm_laws.proofs.Grants.{pass_new}
use Rattle.rm_laws.proofs.Lists.{Each, each-map, each_all}
use Rattle.rm_laws.proofs.Messages.{Any, Changes, served}
use Rattle.rm_laws.proofs.Phases.{state}
use Rattle.rm_laws.proofs.Rows.{step}
use Rattle.rm_laws.proofs.Taken.{each_taken}
use Rattle.rm_laws.proofs.Told.{either_true}
use Rattle.rm_laws.proofs.Walks.{walk}

-- a container is in no book, and of a former epoch
pub record IsOut (life : LifeState) (id : ContainerId) : Type 0 where
  pub nowhere : (o : List ℕ) → lives_on life.book o id ≡ false
  pub former : nat_lt id.epoch life.epoch ≡ true

abbrev AllOut : LifeState → Type 0
AllOut life = (id : ContainerId) → has_container life.endings.pending id ≡ true → IsOut life id

abbrev AllOutIn : Option LifeState → Type 0
AllOutIn None = Unit {0}
AllOutIn (Some life) = AllOut life

passes_test : (test : ContainerId → Bool) (list : List ContainerId) (id : ContainerId) → has_container (filter test list) id ≡ true → test id ≡ true
passes_test test [] id h = cc
passes_test test (one ∷ list) id h = go (test one) refl h (passes_test test list id)
  where
    go : (b : Bool) → test one ≡ b → has_container (cond b (one ∷ filter test list) (filter test list)) id ≡ true → (has_container (filter test list) id ≡ true → test id ≡ true) → test id ≡ true
    go false e x more = more x
    go true e x more = by (is_container one id) refl x
      where
        by : (a : Bool) → is_container one id ≡ a → (a || has_container (filter test list) id) ≡ true → test id ≡ true
        by true f y = subst (λ (i : ContainerId). test i ≡ true) (same_container one id f) e
        by false f y = more y

module _ (m : Scene) where
  -- what is pending was so before, or is missing
  pub record Few (new : LifeState) : Type 0 where
    pub epoch : new.epoch ≡ m.life.epoch
    pub pends : (id : ContainerId) → has_container new.endings.pending id ≡ true → (has_container m.life.endings.pending id ≡ true) ⊎ (is_missing m id ≡ true)

  same_few : (new : LifeState) → new.epoch ≡ m.life.epoch → new.endings.pending ≡ m.life.endings.pending → Few new
  same_few new e p = record { epoch = e; pends = λ id h. inl (ap (λ (l : List ContainerId). has_container l id) (sym p) ∙ h) }

  few_answered : Changes m Few Any
  few_answered =
      record {
        nothing = same_few m.life refl refl;
        gives = λ user one q. same_few _ refl refl;
        joins = λ user one submission q new. same_few _ refl refl;
        wishes = λ one. same_few _ refl refl;
        registered = λ attempt q. same_few _ refl refl;
        takes_over = λ attempt kept q. same_few _ refl refl;
        allocated = λ attempt ask asks release next grants ended q.
            record {
              epoch = refl;
              pends = λ id h. go attempt release id (either_true (has_container m.life.endings.pending id) (has_container (missing_released m (record { attempt = attempt; list = release })) id) (sym (list_any-append (λ one. is_container one id) m.life.endings.pending (missing_released m (record { attempt = attempt; list = release }))) ∙ h));
            };
        finishes = λ attempt text. same_few _ refl refl;
        node_registered = λ at registration reply. same_few _ refl refl;
        beaten = λ at running done launch reply. same_few _ refl refl;
        ticks = λ time. same_few _ refl refl;
        node_expires = λ at. same_few _ refl refl;
        master_expires = λ attempt. same_few _ refl refl;
      }
    where
      go : (attempt : _) (release : List ContainerId) (id : ContainerId) → (has_container m.life.endings.pending id ≡ true) ⊎ (has_container (missing_released m (record { attempt = attempt; list = release })) id ≡ true)
          → (has_container m.life.endings.pending id ≡ true) ⊎ (is_missing m id ≡ true)
      go attempt release id (inl x) = inl x
      go attempt release id (inr x) = inr (and_parts (is_missing m id) _ (passes_test _ release id x)).0

  few_kept : (op : Op) → Few (record (life_keeps m.life op) { handed = false })
  few_kept (Epoch next stamp) = same_few _ refl refl
  few_kept (App one submission) = same_few _ refl refl
  few_kept (Attempt one master node) = same_few _ refl refl
  few_kept (AttemptEnd one how text) = same_few _ refl refl
  few_kept (AppEnd one how text) = same_few _ refl refl
  few_kept (Remove one) = same_few _ refl refl

  few_issued : (op : Op) → Few (life_issues m op)
  few_issued (Epoch next stamp) = same_few _ refl refl
  few_issued (App one submission) = same_few _ refl refl
  few_issued (Attempt one master node) = same_few _ refl refl
  few_issued (AttemptEnd one how text) = same_few _ refl refl
  few_issued (AppEnd one how text) = same_few _ refl refl
  few_issued (Remove one) = same_few _ refl refl

  was_out : AllOut m.life → (id : ContainerId) → (has_container m.life.endings.pending id ≡ true) ⊎ (is_missing m id ≡ true) → IsOut m.life id
  was_out k id (inl x) = k id x
  was_out k id (inr x) =
      let a = and_parts (not (is_living m.life.book id)) _ x in
      let b = and_parts (not (has_container m.life.endings.left id)) _ a.1 in
      let d = and_parts (nat_lt id.epoch m.life.epoch) _ b.1 in
      record { nowhere = none_lives m.life.book id (not-true (is_living m.life.book id) a.0); former = d.0 }

  -- where each that was out, and is pending, is out afterwards
  out_after : (new : LifeState) → AllOut m.life → Few new → ((id : ContainerId) → has_container new.endings.pending id ≡ true → IsOut m.life id → (o : List ℕ) → lives_on new.book o id ≡ false) → AllOut new
  out_after new k few stays id h =
      let was = was_out k id (few.pends id h) in
      record { nowhere = stays id h was; former = ap (λ (n : ℕ). nat_lt id.epoch n) few.epoch ∙ was.former }

granted_apart : (id : ContainerId) (epoch : ℕ) (grants : List Grant) → Each (λ (grant : Grant). grant.id.epoch ≡ epoch) grants → nat_lt id.epoch epoch ≡ true → has_container (map (λ (grant : Grant). grant.id) grants) id ≡ false
granted_apart id epoch [] h former = refl
granted_apart id epoch (grant ∷ grants) h former = go (is_container grant.id id) refl (granted_apart id epoch grants h.1 former)
  where
    never : grant.id ≡ id → ⊥
    never same = let x : id.epoch ≡ epoch = ap (λ (i : ContainerId). i.epoch) (sym same) ∙ h.0 in let y : nat_lt epoch epoch ≡ true = subst (λ (n : ℕ). nat_lt n epoch ≡ true) x former in grind (arith, nat_tests)

    go : (b : Bool) → is_container grant.id id ≡ b → has_container (map (λ (one : Grant). one.id) grants) id ≡ false → (is_container grant.id id || has_container (map (λ (one : Grant). one.id) grants) id) ≡ false
    go true e more = absurd (never (same_container grant.id id e))
    go false e more = rw e more

module _ (settings : Settings) (recovers : settings.recover_ended_containers ≡ true) (kept awaiting : List Op) (blew : Bool) (life : LifeState) (k : AllOut life) where
  abbrev s : Manager
  s = state kept awaiting blew (Some life)

  abbrev m : Scene
  m = scene s life

  -- what stood nowhere stands nowhere, but for what an absorption or a pass brings
  plain : (e : Entry) → AllowedIn settings m e → (new : LifeState) → (after s e).life ≡ Some new → Few m new → ((id : ContainerId) (o : List ℕ) → stands_by o id false e ≡ false) → AllOut new
  plain e may new is few none =
      out_after m new k few
      (λ id h was o.
      let x : lives_on_node (after s e).life o id ≡ stands_by o id (lives_on life.book o id) e = step o id settings kept awaiting blew (Some life) e may in
      let y : stands_by o id (lives_on life.book o id) e ≡ false = ap (λ (b : Bool). stands_by o id b e) (was.nowhere o) ∙ none id o in
      sym (ap (λ (l : Option LifeState). lives_on_node l o id) is) ∙ (x ∙ y))

  absorbed_out : (on : List ℕ) (taken : List Held) (ended : List ContainerId) (node : Option NodeState) → judged_node life.nodes on ≡ node → IsSomeAnd node (λ n. MayAbsorb settings m n taken ended)
      → AllowedIn settings m (Absorbed on taken ended) → (new : LifeState) → (after s (Absorbed on taken ended)).life ≡ Some new → Few m new → new.endings.pending ≡ life.endings.pending → AllOut new
  absorbed_out on taken ended None at may all new is few same = absurd may
  absorbed_out on taken ended (Some n) at may all new is few same =
      out_after m new k few
      (λ id h was o.
      let x : lives_on_node (after s (Absorbed on taken ended)).life o id ≡ stands_by o id (lives_on life.book o id) (Absorbed on taken ended) = step o id settings kept awaiting blew (Some life) (Absorbed on taken ended) all in
      let free : is_held taken id ≡ false = not_held id (ap (λ (l : List ContainerId). has_container l id) (sym same) ∙ h) in
      let y : stands_by o id (lives_on life.book o id) (Absorbed on taken ended) ≡ false = rw (was.nowhere o, free) (none_of (bytes_eq on o) (not (has_container ended id))) in
      sym (ap (λ (l : Option LifeState). lives_on_node l o id) is) ∙ (x ∙ y))
    where
      none_of : (a b : Bool) → ((a && false) && b) ≡ false
      none_of true b = refl
      none_of false b = refl

      apart : Each (λ held. has_container life.endings.pending held.id ≡ false) taken
      apart =
          subst (Each (λ held. has_container life.endings.pending held.id ≡ false)) (sym may.takes)
          (each_taken settings m n (λ held. has_container life.endings.pending held.id ≡ false) (λ before one free. sym (ap (λ (b : Bool). b && has_container life.endings.pending one.id) recovers) ∙ free.not_pending))

      not_held : (id : ContainerId) → has_container life.endings.pending id ≡ true → is_held taken id ≡ false
      not_held id h = go (is_held taken id) refl
        where
          go : (b : Bool) → is_held taken id ≡ b → b ≡ false
          go false e = refl
          go true e = let x = each_held (λ i. has_container life.endings.pending i ≡ false) id taken apart e in let y : true ≡ false = sym h ∙ x in cc

  passed_out : (on : List ℕ) (grants : List Grant) (node : Option NodeState) → judged_node life.nodes on ≡ node → IsSomeAnd node (λ n. MayPass settings m n grants)
      → AllowedIn settings m (Pass on grants) → (new : LifeState) → (after s (Pass on grants)).life ≡ Some new → Few m new → AllOut new
  passed_out on grants None at may all new is few = absurd may
  passed_out on grants (Some n) at may all new is few =
      out_after m new k few
      (λ id h was o.
      let x : lives_on_node (after s (Pass on grants)).life o id ≡ stands_by o id (lives_on life.book o id) (Pass on grants) = step o id settings kept awaiting blew (Some life) (Pass on grants) all in
      let y : stands_by o id (lives_on life.book o id) (Pass on grants) ≡ false = rw (was.nowhere o, granted_apart id life.epoch grants epochs was.former) (and_false (bytes_eq on o)) in
      sym (ap (λ (l : Option LifeState). lives_on_node l o id) is) ∙ (x ∙ y))
    where
      epochs : Each (λ (grant : Grant). grant.id.epoch ≡ life.epoch) grants
      epochs = subst (Each (λ (grant : Grant). grant.id.epoch ≡ life.epoch)) (sym may.grants_are) (each-map _ (λ (grant : Grant). grant.id.epoch ≡ life.epoch) (λ grant one. one.epoch_is) (pass_of settings m n) (pass_new settings m n).each)

  in_life : (e : Entry) → AllowedIn settings m e → AllOutIn (after s e).life
  in_life (Opened landed epoch stamp) may = absurd may
  in_life (Issued op) may = plain (Issued op) may _ refl (few_issued m op) (λ id o. refl)
  in_life (Kept op) may = plain (Kept op) may _ refl (few_kept m op) (λ id o. refl)
  in_life (Served sender message reply) may = plain (Served sender message reply) may _ refl (served m (Few m) Any (few_answered m) message reply tt) (λ id o. refl)
  in_life (Absorbed node taken ended) may = absorbed_out node taken ended (judged_node life.nodes node) refl may may _ refl (same_few m _ refl refl) refl
  in_life (Pass node grants) may = passed_out node grants (judged_node life.nodes node) refl may may _ refl (same_few m _ refl refl)
  in_life (Ended cause list) may = plain (Ended cause list) may _ refl (same_few m _ refl refl) (λ id o. refl)
  in_life Down may = tt
  in_life e may = plain e may _ refl (same_few m _ refl refl) (λ id o. refl)

next_out : (settings : Settings) → settings.recover_ended_containers ≡ true → (kept awaiting : List Op) (blew : Bool) (life : Option LifeState) (e : Entry) → AllOutIn life → Allowed settings (state kept awaiting blew life) e
    → AllOutIn (after (state kept awaiting blew life) e).life
next_out settings recovers kept awaiting blew None (Opened landed epoch stamp) k may = λ id h. cc
next_out settings recovers kept awaiting blew None _ k may = absurd may
next_out settings recovers kept awaiting blew (Some life) e k may = in_life settings recovers kept awaiting blew life k e may

each_member : (P : ContainerId → Type 0) (xs : List ContainerId) → ((id : ContainerId) → has_container xs id ≡ true → P id) → Each P xs
each_member P [] h = tt
each_member P (x ∷ xs) h = (h x (or_left (is_container x x) (has_container xs x) (container_itself x)), each_member P xs (λ id is. h id (or_right (is_container x id) (has_container xs id) is)))

all_out : (life : Option LifeState) → AllOutIn life → PendingAreOut life
all_out None k = tt
all_out (Some life) k =
    each_all (λ id. is_living life.book id ≡ false) life.endings.pending
    (each_member (λ id. is_living life.book id ≡ false) life.endings.pending (λ id h. living_home life.book id (k id h).nowhere))

-- the law
pub released_stay : (settings : Settings) (opening : List Op) (log : List Entry) → AllAllowed settings (opening_state opening) log → ReleasedStay settings opening log
released_stay settings opening log allowed recovers before rest whole =
    all_out (after_all (opening_state opening) before).life
    (walk settings (λ (s : Manager). AllOutIn s.life) (λ s e k may. next_out settings recovers s.kept s.awaiting s.blew s.life e k may) opening log before rest tt allowed whole).0
