-- The clock and a master are served, of an attempt that lives, each as a whole step: its master's lease ran out; its master finishes.
use Rattle.rm_invariant.proofs.Common.{◌≡◌, inl, inr, ℕ, ◌||◌, suc, List, [], ◌∷◌, ◌++◌, Bool, true, false, Option, Some, refl, ap, arith, nat_tests, Entry, Served, AppId, AttemptId, ContainerId, ExpireMaster, Finish, Register, Settings, is_app, is_attempt, records, has_registered, is_registered, after, reply_to, AllowedIn, AttemptState, AppRow, Current, Dialogue, Tables, changed, is_master_of, row_of, with_row, History, abstract_scene, live_state, Reply, Row, is_container, list_any}
use Rattle.std.proofs.Common.{◌==◌}
use Rattle.rm_types.specs.declared.messages.Message.TheVariants as messages
use Rattle.rm_types.specs.declared.messages.Sender.TheVariants as senders
use Rattle.rm_types.specs.declared.replies.Reply.TheVariants as replies
use Rattle.rm_model.specs.MasterReplies.{with_master}
use Rattle.rm_states.specs.declared.attempt.states.AttemptEvent.TheVariants as attempt_events
use Rattle.rm_states.specs.attempt.Table.{next_attempt_state as next_attempt_state}
use Rattle.rm_tables.specs.declared.events.MainEvent.TheVariants as mains
use Rattle.rm_tables.specs.declared.changes.RowChange.TheVariants as of_app
use Rattle.rm_tables.specs.declared.changes.AttemptChange.TheVariants as of_attempt
use Rattle.rm_invariant.specs.Step.{AppsInvariant}
use Rattle.rm_invariant.specs.apps.Invariant.{RowInvariant, is_active}
use Rattle.rm_invariant.specs.apps.View.{changed_if, is_launch, one_if, set_if, view}
use Rattle.rm_invariant.proofs.apps.Counts.{at_end}
use Rattle.rm_invariant.proofs.apps.Found.{row_changed}
use Rattle.rm_invariant.proofs.apps.Keeping.{unchanged}
use Rattle.rm_invariant.proofs.apps.Effects as views
use Rattle.rm_invariant.specs.masters.Invariant.{ContainersInvariant, ContainerByNumber, ContainerByState, ContainerInvariant, RemovalInvariant}
use Rattle.rm_invariant.specs.masters.Preserves.{PreservesContainers}
use Rattle.rm_invariant.specs.masters.View.{ContainerView, is_expiry, is_finish, is_granting, is_losing, container_view}
use Rattle.rm_invariant.proofs.masters.Ends.{Alive}
use Rattle.rm_invariant.proofs.masters.Saying.{alive_finishes, alive_registers}
use Rattle.rm_invariant.proofs.masters.Finishing.{finishing_after, says_so, finishing_with_new, new_master}
use Rattle.rm_invariant.proofs.masters.Stepping.{joins_between}
use Rattle.rm_invariant.proofs.masters.Talking.{says_talking}
use Rattle.rm_invariant.proofs.masters.Tests.{any_end}

module _ (settings : Settings) (h : History) (t : Tables) (k : AppsInvariant settings h t) (all : ContainersInvariant h t) where
  -- a message that changes the row of one application
  pub joins_served : (entry : Entry) (g : History) (next : Tables) (id : AppId) (row : AppRow) (change : AppRow → AppRow) → AllowedIn settings (abstract_scene h t) entry
      → after (live_state h t) entry ≡ live_state g next → records g.kept ≡ next.tree → next.is_open ≡ true
      → ((q : AppId) → row_of next.rows q ≡ changed_if (is_app id q) change (row_of t.rows q)) → row_of t.rows id ≡ Some row
      → ((q : AttemptId) → view g next q ≡ view h t q) → ((q : AttemptId) → is_app id q.app ≡ true → RowInvariant settings q (Some row) (view h t q) → RowInvariant settings q (Some (change row)) (view h t q))
      → (marks_do : ContainerId → ContainerView → ContainerView) → ((c : ContainerId) → container_view g next c ≡ marks_do c (container_view h t c)) → ((c : ContainerId) (v : ContainerView) → is_app id c.attempt.app ≡ false → marks_do c v ≡ v)
      → ((c : ContainerId) → is_app id c.attempt.app ≡ true → ContainerInvariant c (Some row) (container_view h t c) → ContainerInvariant c (Some (change row)) (marks_do c (container_view h t c)))
      → ((c : ContainerId) (v : ContainerView) → RemovalInvariant c v → RemovalInvariant c (marks_do c v))
      → PreservesContainers settings h t entry g next
  joins_served entry g next id row change allowed same recorded open_ rows found seen own marks_do marked mark_other mark_own over =
      joins_between settings h g t next k all entry id (Some row) change (view h t) (λ q v. v) (λ q v. v) (container_view h t) (λ c v. v) marks_do
      allowed same recorded open_ found rows (λ q. refl) seen (λ q v o. refl) (λ q v o. refl) own (λ c. refl) marked (λ c v o. refl) mark_other mark_own (λ c is says. over c (container_view h t c) says)

-- its lease ran out: an AttemptExpired is on its way
own_expires : (c : ContainerId) (v : ContainerView) (s : AttemptState) (lost m : Bool) → Alive s → ContainerByState c s lost m v → ContainerByState c s lost m (record v { expired = true; expiries = suc v.expiries })
own_expires c v s lost m (inl e) says = let x = rw e at says in rw e (x.0, x.1, x.2, x.3, (λ a. omega arith), (λ a. refl), x.6, x.7)
own_expires c v s lost m (inr (inl e)) says = let x = rw e at says in rw e (x.0, x.1, x.2, x.3, (λ a. omega arith), (λ a. refl), x.6, x.7)
own_expires c v s lost m (inr (inr e)) says = let x = rw e at says in rw e (x.0, x.1, x.2, x.3, (λ a. omega arith), (λ a. refl), x.6, x.7)

expiring_marks : (c : ContainerId) (row : AppRow) (current : Current) (v : ContainerView) → row.current ≡ Some current → Alive current.state → (b : Bool) → (b ≡ true → (current.number == c.attempt.number) ≡ true)
    → ContainerInvariant c (Some row) v → ContainerInvariant c (Some row) (record v { expired = set_if b v.expired; expiries = one_if b v.expiries })
expiring_marks c row current v is st false here good = good
expiring_marks c row current v is st true here good =
    let says : ContainerByNumber c (current.number == c.attempt.number) current v = rw is at good.1 in
    let n = here refl in
    let at_ : ContainerByState c current.state current.lost (is_master_of c current.master) v = rw n at says in
    let new : ContainerByNumber c true current (record v { expired = true; expiries = suc v.expiries }) = own_expires c v current.state current.lost (is_master_of c current.master) st at_ in
    (good.0, rw (is, n) new)

module _ (settings : Settings) (h : History) (t : Tables) (k : AppsInvariant settings h t) (all : ContainersInvariant h t) (id : AttemptId) (row : AppRow) (found : row_of t.rows id.app ≡ Some row) (current : Current) (is : row.current ≡ Some current) (st : Alive current.state) (n : (current.number == id.number) ≡ true) where
  same_number : (c : ContainerId) → is_attempt id c.attempt ≡ true → (current.number == c.attempt.number) ≡ true
  same_number c e = grind (arith, nat_tests)

  -- its lease ran out
  pub expire_joins : replies.Ok ≡ reply_to settings (abstract_scene h t) (messages.Clock (ExpireMaster id))
      → PreservesContainers settings h t (Served senders.Clock (messages.Clock (ExpireMaster id)) replies.Ok) (record h { masters = record h.masters { expired = h.masters.expired ++ id ∷ [] } }) (record t { main = t.main ++ mains.AttemptExpired id ∷ [] })
  expire_joins reply =
      joins_served settings h t k all (Served senders.Clock (messages.Clock (ExpireMaster id)) replies.Ok) (record h { masters = record h.masters { expired = h.masters.expired ++ id ∷ [] } }) (record t { main = t.main ++ mains.AttemptExpired id ∷ [] }) id.app row (λ r. r)
      (record { serving = ap (λ b. b || t.blown) k.is_open; of_sender = refl; answers = reply }) refl k.recorded k.is_open (unchanged t.rows id.app) found
      (λ q. views.main_posted h t q (mains.AttemptExpired id)) (λ q same says. says)
      (λ c v. record v { expired = set_if (is_attempt id c.attempt) v.expired; expiries = one_if (is_attempt id c.attempt) v.expiries })
      (λ c. let e = any_end (λ one. is_attempt one c.attempt) h.masters.expired id in
      rw (at_end (is_granting c) t.main (mains.AttemptExpired id), at_end (is_losing c) t.main (mains.AttemptExpired id), at_end (is_launch c.attempt) t.main (mains.AttemptExpired id), at_end (is_expiry c) t.main (mains.AttemptExpired id), at_end (is_finish c) t.main (mains.AttemptExpired id), e) refl)
      (λ c v other. rw other refl)
      (λ c same says. expiring_marks c row current (container_view h t c) is st (is_attempt id c.attempt) (same_number c) says) (λ c v says. says)

own_finishes : (c : ContainerId) (v : ContainerView) (s : AttemptState) (lost m : Bool) → Alive s → ContainerByState c s lost m v → ContainerByState c (next_attempt_state s attempt_events.Finish) lost m (record v { finishing = true; finishes = suc v.finishes })
own_finishes c v s lost m (inl e) says = let x = rw e at says in rw e (x.0, x.1, x.2, x.3, x.4, x.5, (λ a. omega arith), x.7)
own_finishes c v s lost m (inr (inl e)) says = let x = rw e at says in rw e (x.0, x.1, x.2, x.3, x.4, x.5, (λ a. omega arith), x.7)
own_finishes c v s lost m (inr (inr e)) says = let x = rw e at says in rw e (x.0, x.1, x.2, x.3, x.4, x.5, (λ a. omega arith), x.7)

finishing_marks : (c : ContainerId) (row : AppRow) (current : Current) (v : ContainerView) → row.current ≡ Some current → Alive current.state → (b : Bool) → (current.number == c.attempt.number) ≡ b
    → ContainerInvariant c (Some row) v → ContainerInvariant c (Some (changed (of_app.OfAttempt of_attempt.Finish) row)) (record v { finishing = set_if b v.finishing; finishes = one_if b v.finishes })
finishing_marks c row current v is st false n good =
    let says : ContainerByNumber c (current.number == c.attempt.number) current v = rw is at good.1 in
    let at_ : ContainerByNumber c false current v = rw n at says in
    let new : ContainerByNumber c false (record current { state = next_attempt_state current.state attempt_events.Finish }) v = at_ in
    (good.0, rw (is, n) new)
finishing_marks c row current v is st true n good =
    let says : ContainerByNumber c (current.number == c.attempt.number) current v = rw is at good.1 in
    let at_ : ContainerByState c current.state current.lost (is_master_of c current.master) v = rw n at says in
    let new : ContainerByNumber c true (record current { state = next_attempt_state current.state attempt_events.Finish }) (record v { finishing = true; finishes = suc v.finishes }) = own_finishes c v current.state current.lost (is_master_of c current.master) st at_ in
    (good.0, rw (is, n) new)

-- a master registers: its attempt is Registered
own_registers : (c : ContainerId) (v : ContainerView) (s : AttemptState) (lost m : Bool) → Alive s → ContainerByState c s lost m v → ContainerByState c (next_attempt_state s attempt_events.Register) lost m v
own_registers c v s lost m (inl e) says = let x = rw e at says in rw e x
own_registers c v s lost m (inr (inl e)) says = let x = rw e at says in rw e x
own_registers c v s lost m (inr (inr e)) says = let x = rw e at says in rw e x

registering_marks : (c : ContainerId) (row : AppRow) (current : Current) (v : ContainerView) → row.current ≡ Some current → Alive current.state → (b : Bool) → (current.number == c.attempt.number) ≡ b
    → ContainerInvariant c (Some row) v → ContainerInvariant c (Some (changed of_app.Register row)) v
registering_marks c row current v is st false n good =
    let says : ContainerByNumber c (current.number == c.attempt.number) current v = rw is at good.1 in
    let at_ : ContainerByNumber c false current v = rw n at says in
    let new : ContainerByNumber c false (record current { state = next_attempt_state current.state attempt_events.Register; registered = true }) v = at_ in
    (good.0, rw (is, n) new)
registering_marks c row current v is st true n good =
    let says : ContainerByNumber c (current.number == c.attempt.number) current v = rw is at good.1 in
    let at_ : ContainerByState c current.state current.lost (is_master_of c current.master) v = rw n at says in
    let new : ContainerByNumber c true (record current { state = next_attempt_state current.state attempt_events.Register; registered = true }) v = own_registers c v current.state current.lost (is_master_of c current.master) st at_ in
    (good.0, rw (is, n) new)

-- what a service does to the row of a master's application, which keeps the dialogue with it
abbrev pub said_row : (Option Dialogue → Option Dialogue) → AppRow → AppRow
said_row talk row = record (changed (of_app.OfAttempt of_attempt.Finish) row) { dialogue = talk row.dialogue }

abbrev pub registered_row : (Option Dialogue → Option Dialogue) → AppRow → AppRow
registered_row talk row = record (changed of_app.Register row) { dialogue = talk row.dialogue }

module _ (settings : Settings) (h : History) (t : Tables) (k : AppsInvariant settings h t) (all : ContainersInvariant h t) (id : AttemptId) (row : AppRow) (found : row_of t.rows id.app ≡ Some row) (current : Current) (is : row.current ≡ Some current) (st : Alive current.state) (n : (current.number == id.number) ≡ true)
    (goes : is_active row.state ≡ true) (talk : Option Dialogue → Option Dialogue) where
  -- the history after a master said that it finishes
  abbrev said : List ℕ → History
  said text = record h { masters = with_master (says_so text) id h.masters }

  -- a registered master says that it finishes
  pub finish_joins : (text : List ℕ) → replies.Finishing ≡ reply_to settings (abstract_scene h t) (messages.Master id (Finish text)) → is_registered (abstract_scene h t) id ≡ true → has_registered (abstract_scene h t) id ≡ true
      → PreservesContainers settings h t (Served senders.Master (messages.Master id (Finish text)) replies.Finishing) (said text) (record t { rows = with_row (said_row talk) id.app t.rows; main = t.main ++ mains.AttemptFinish id ∷ [] })
  finish_joins text reply registered has =
      joins_served settings h t k all (Served senders.Master (messages.Master id (Finish text)) replies.Finishing) (said text) (record t { rows = with_row (said_row talk) id.app t.rows; main = t.main ++ mains.AttemptFinish id ∷ [] }) id.app row (said_row talk)
      (record { serving = ap (λ b. b || t.blown) k.is_open; of_sender = refl; answers = reply }) (rw (k.recorded, registered) refl) k.recorded k.is_open (λ q. row_changed (said_row talk) id.app q t.rows) found
      (λ q. views.main_posted h (record t { rows = with_row (said_row talk) id.app t.rows }) q (mains.AttemptFinish id))
      (λ q same says.
      says_talking settings q (Some (changed (of_app.OfAttempt of_attempt.Finish) row)) (Some (said_row talk row)) (view h t q) (record { dialogue = talk row.dialogue; closings = row.closings; is = refl })
      (alive_finishes settings q row current (view h t q) is goes current.state refl st says))
      (λ c v. record v { finishing = set_if (is_attempt id c.attempt) v.finishing; finishes = one_if (is_attempt id c.attempt) v.finishes })
      (λ c. let e = finishing_after text id c.attempt h.masters.registered (λ s. has) in
      rw (at_end (is_granting c) t.main (mains.AttemptFinish id), at_end (is_losing c) t.main (mains.AttemptFinish id), at_end (is_launch c.attempt) t.main (mains.AttemptFinish id), at_end (is_expiry c) t.main (mains.AttemptFinish id), at_end (is_finish c) t.main (mains.AttemptFinish id), e) refl)
      (λ c v other. rw other refl)
      (λ c same says.
      let num : current.number ≡ id.number = grind (arith, nat_tests) in
      rw (same, ← num) (finishing_marks c row current (container_view h t c) is st (current.number == c.attempt.number) refl says)) (λ c v says. says)

  -- the history after a master registered, which was answered so, and with this book
  abbrev pub registering : Reply → List Row → History
  registering told living = record h { masters = record h.masters { registered = h.masters.registered ++ new_master id told ∷ [] }; book = living }

  -- a master registers, after which the same containers are in the book
  pub register_joins : (told : Reply) (living : List Row) → told ≡ reply_to settings (abstract_scene h t) (messages.Master id Register)
      → after (live_state h t) (Served senders.Master (messages.Master id Register) told) ≡ live_state (registering told living) (record t { rows = with_row (registered_row talk) id.app t.rows })
      → ((test : ContainerId → Bool) → list_any (λ row. test row.id) living ≡ list_any (λ row. test row.id) h.book)
      → PreservesContainers settings h t (Served senders.Master (messages.Master id Register) told) (registering told living) (record t { rows = with_row (registered_row talk) id.app t.rows })
  register_joins told living reply stands same_ids =
      joins_served settings h t k all (Served senders.Master (messages.Master id Register) told) (registering told living) (record t { rows = with_row (registered_row talk) id.app t.rows }) id.app row (registered_row talk)
      (record { serving = ap (λ b. b || t.blown) k.is_open; of_sender = refl; answers = reply }) stands k.recorded k.is_open (λ q. row_changed (registered_row talk) id.app q t.rows) found
      (λ q. let held = same_ids (λ c. is_attempt c.attempt q) in rw held refl)
      (λ q same says.
      says_talking settings q (Some (changed of_app.Register row)) (Some (registered_row talk row)) (view h t q) (record { dialogue = talk row.dialogue; closings = row.closings; is = refl })
      (alive_registers settings q row current (view h t q) is goes current.state refl st says))
      (λ c v. v) (λ c. let e = finishing_with_new id told c.attempt h.masters.registered in let living_same = same_ids (λ d. is_container d c) in rw (e, living_same) refl) (λ c v other. refl)
      (λ c same says. registering_marks c row current (container_view h t c) is st (current.number == c.attempt.number) refl says) (λ c v says. says)
