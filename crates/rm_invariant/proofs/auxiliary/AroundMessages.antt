-- Each message leaves what tables and judge tell alike around a restart.
use Rattle.rm_invariant.proofs.Common.{◌≡◌, ◌≤◌, ◌⊎◌, inl, inr, ℕ, ◌+◌, List, [], ◌∷◌, ◌++◌, Bool, true, false, ◌&&◌, not, Option, None, Some, map, fold, refl, sym, ◌∙◌, ap, subst, arith, AppId, AttemptId, ContainerId, Entry, Served, is_app, is_container, bytes_eq, BookRow, BookOf, Row, Records, has_container, AppRow, row_of, with_row, Settings, Tables, History, Scene, LifeState, Manager, Reply, abstract_scene, abstract_life, live_state, after, changed, RefinesLife, ContainerState, if◌then◌else◌, submitted_row, reported, MasterAsk, Op, master_reply, after_master}
use Rattle.std.proofs.Common.{nat_lt, option_map}
use Rattle.std.specs.Prelude.{is_some, cond}
use Rattle.rm_types.specs.declared.messages.Message.{Message}
use Rattle.rm_types.specs.declared.messages.Message.TheVariants as messages
use Rattle.rm_types.specs.declared.messages.Sender.{Sender}
use Rattle.rm_types.specs.declared.replies.Reply.TheVariants as replies
use Rattle.rm_types.specs.Records.{is_some_and}
use Rattle.rm_model.specs.Changes.{in_life}
use Rattle.rm_model.specs.NodeReplies.{row_beaten}
use Rattle.rm_model.specs.Replies.{life_after}
use Rattle.rm_book.specs.Books.{TellUpTo, book_row, is_of, with_state}
use Rattle.rm_tables.specs.declared.changes.RowChange.TheVariants as of_app
use Rattle.rm_tables.specs.declared.rows.Dialogue.{Dialogue}
use Rattle.rm_tracker.specs.Answers.{launched_by, beaten_book, brought_all, brought_one, is_row_on, is_untold_row}
use Rattle.rm_types.specs.declared.containers.ContainerState.TheVariants.{Acquired, Running}
use Rattle.rm_refinement.proofs.Late.{numbers_kept, still_each}
use Rattle.rm_invariant.specs.Core.{CoreInvariant, PreservesCore}
use Rattle.rm_invariant.specs.auxiliary.Around.{AreToldUpTo, AroundInvariant, IsToldUpTo}
use Rattle.rm_invariant.specs.events.Here.{FirstsKnown}
use Rattle.rm_invariant.specs.messages.LifeOutcomes.{LifeOutcome}
use Rattle.rm_invariant.specs.messages.LifeOutcomes as lives
use Rattle.rm_invariant.specs.messages.Outcomes.{MessageOutcome, after_message}
use Rattle.rm_invariant.specs.messages.Outcomes as comes
use Rattle.rm_invariant.proofs.messages.FittingMoves.{put_found}
use Rattle.rm_invariant.proofs.messages.LifeOutcomes.{life_outcome}
use Rattle.rm_invariant.proofs.messages.Outcomes.{message_outcome}
use Rattle.rm_invariant.proofs.auxiliary.Around.{GoesOn, RowsGoOn, changed_go, none_go}
use Rattle.rm_invariant.proofs.auxiliary.AroundBook.{late_by, late_told_by}
use Rattle.rm_invariant.proofs.auxiliary.AroundEvents.{around_in, firsts_told, moved_around, same_some}
use Rattle.rm_invariant.proofs.events.Leaving.{life_is}
use Rattle.rm_invariant.proofs.apps.Found.{row_changed}
use Rattle.rm_invariant.specs.apps.View.{changed_if}
use Rattle.rm_tables.specs.Talks.{dialogue_begun, registered_row, said_row, told_row, with_answer, with_text, without_closings}
use Rattle.rm_model.specs.MasterReplies.{life_after_master}
use Rattle.rm_master.proofs.Same.{master_same}
use Rattle.rm_refinement.specs.Services.{AgreesAround}
use Rattle.rm_master.specs.Answers.{handed_by}

-- A BEAT

-- what a container's state is nothing to stays, whatever a beat brings
brought_keeps : (R : BookOf → Type 0) → ((book : BookOf) (id : ContainerId) (state : ContainerState) → R book → R (with_state book id state)) → (passes : BookRow → Bool) (state : ContainerState) (ids : List ContainerId) (book : BookOf)
    → R book → R (brought_all passes state book ids)
brought_keeps R keeps passes state [] book before = before
brought_keeps R keeps passes state (id ∷ ids) book before = brought_keeps R keeps passes state ids (brought_one passes state book id) (by (is_some_and passes (book_row book id)) refl)
  where
    by : (b : Bool) → is_some_and passes (book_row book id) ≡ b → R (brought_one passes state book id)
    by true e = rw e (keeps book id state before)
    by false e = rw e before

beaten_keeps : (R : BookOf → Type 0) → ((book : BookOf) (id : ContainerId) (state : ContainerState) → R book → R (with_state book id state)) → (name : List ℕ) (running launched : List ContainerId) (book : BookOf) → R book → R (beaten_book name running launched book)
beaten_keeps R keeps name running launched book before =
    brought_keeps R keeps (is_row_on name) Running running (brought_all (is_untold_row name) Acquired book launched) (brought_keeps R keeps (is_untold_row name) Acquired launched book before)

state_late : (r : Records) (q : AttemptId) (since : ℕ) (id : ContainerId) (state : ContainerState) (row : BookRow) → late_by r.apps q since (if is_of id row then record row { state = state } else row) ≡ late_by r.apps q since row
state_late r q since id state row = by (is_of id row)
  where
    by : (b : Bool) → late_by r.apps q since (if b then record row { state = state } else row) ≡ late_by r.apps q since row
    by true = refl
    by false = refl

state_number : (id : ContainerId) (state : ContainerState) (row : BookRow) → (if is_of id row then record row { state = state } else row).told ≡ row.told
state_number id state row = by (is_of id row)
  where
    by : (b : Bool) → (if b then record row { state = state } else row).told ≡ row.told
    by true = refl
    by false = refl

beaten_told : (r : Records) (q : AttemptId) (name : List ℕ) (running launched : List ContainerId) (row : Row) → late_told_by r q (row_beaten name running launched row) ≡ late_told_by r q row
beaten_told r q name running launched row = grind arith

-- WHAT A MESSAGE THAT IS NO MASTER'S LEAVES

abbrev pub IsNoMasters : Message → Type 0
IsNoMasters (messages.Master attempt ask) = ⊥
IsNoMasters _ = Unit {0}

module _ (t : Tables) where
  -- of the tables
  pub record Leaves (next : Tables) : Type 0 where
    pub settings : next.settings ≡ t.settings
    pub epoch : next.epoch ≡ t.epoch
    pub departed : next.departed ≡ t.departed
    pub pending : next.pending ≡ t.pending
    pub tree : next.tree ≡ t.tree
    pub added : next.book.added ≡ t.book.added
    pub numbers : TellUpTo 0 t.book.added t.book.rows → TellUpTo 0 t.book.added next.book.rows
    pub late : (q : AttemptId) (since : ℕ) → map (late_by t.tree.apps q since) next.book.rows ≡ map (late_by t.tree.apps q since) t.book.rows
    pub goes : RowsGoOn t.rows next.rows

  leaves : (message : Message) (reply : Reply) (next : Tables) → IsNoMasters message → MessageOutcome t message reply next → Leaves next
  leaves message reply next other (comes.joins user id submission found) =
      record {
        settings = refl;
        epoch = refl;
        departed = refl;
        pending = refl;
        tree = refl;
        added = refl;
        numbers = λ n. n;
        late = λ q since. refl;
        goes = λ q now there. by q now (put_found id (submitted_row submission) t.rows q now there);
      }
    where
      by : (q : AppId) (now : AppRow) → (row_of t.rows q ≡ Some now) ⊎ (submitted_row submission ≡ now) → GoesOn t.rows q now
      by q now (inl there) = inr (now, there, refl, λ z lives. lives)
      by q now (inr new) = inl (ap (λ (row : AppRow). row.dialogue) (sym new))
  leaves message reply next other (comes.wishes user id row found new) =
      record { settings = refl; epoch = refl; departed = refl; pending = refl; tree = refl; added = refl; numbers = λ n. n; late = λ q since. refl; goes = changed_go id of_app.Wish refl t.rows }
  leaves message reply next other (comes.registers attempt answer so) = absurd other
  leaves message reply next other (comes.finishes attempt text goes) = absurd other
  leaves message reply next other (comes.allocates attempt id asks release answer so new) = absurd other
  leaves message reply next other (comes.beats name id running done answer so new) =
      record {
        settings = refl;
        epoch = refl;
        departed = refl;
        pending = refl;
        tree = refl;
        added = beaten_keeps (λ book. book.added ≡ t.book.added) (λ book one state is. is) name (reported running) (launched_by answer) t.book refl;
        numbers = λ n.
            beaten_keeps (λ book. TellUpTo 0 t.book.added book.rows) (λ book one state is. numbers_kept (λ row. if is_of one row then record row { state = state } else row) (state_number one state) 0 t.book.added book.rows is)
            name (reported running) (launched_by answer) t.book n;
        late = λ q since.
            beaten_keeps (λ book. map (late_by t.tree.apps q since) book.rows ≡ map (late_by t.tree.apps q since) t.book.rows)
            (λ book one state is. still_each (late_by t.tree.apps q since) (λ row. if is_of one row then record row { state = state } else row) (state_late t.tree q since one state) book.rows ∙ is)
            name (reported running) (launched_by answer) t.book refl;
        goes = none_go t.rows;
      }
  leaves message reply next other _ = record { settings = refl; epoch = refl; departed = refl; pending = refl; tree = refl; added = refl; numbers = λ n. n; late = λ q since. refl; goes = none_go t.rows }

-- of the judge's life
pub record LeavesLife (m : Scene) (life : LifeState) : Type 0 where
  pub left : life.endings.left ≡ m.life.endings.left
  pub pending : life.endings.pending ≡ m.life.endings.pending
  pub late : (r : Records) (q : AttemptId) → map (late_told_by r q) life.book ≡ map (late_told_by r q) m.life.book

leaves_life : (m : Scene) (message : Message) (reply : Reply) (life : LifeState) → IsNoMasters message → LifeOutcome m message reply life → LeavesLife m life
leaves_life m message reply life other (lives.registers attempt answer book) = absurd other
leaves_life m message reply life other (lives.allocates attempt id asks release answer so new) = absurd other
leaves_life m message reply life other (lives.finishes attempt text answer goes) = absurd other
leaves_life m message reply life other (lives.beats name id running done launched answer new) =
    record { left = refl; pending = refl; late = λ r q. still_each (late_told_by r q) (row_beaten name (reported running) launched) (beaten_told r q name (reported running) launched) m.life.book }
leaves_life m message reply life other _ = record { left = refl; pending = refl; late = λ r q. refl }

-- THE STEP

-- the life after a message, by the history to which it goes
served_life : (h : History) (t : Tables) (w : CoreInvariant t.settings h t) (sender : Sender) (message : Message) (reply : Reply) (next : Tables) (s : PreservesCore t.settings h t (Served sender message reply, next))
    → abstract_life s.next next ≡ life_after (abstract_scene h t) message reply
served_life h t w sender message reply next s =
    life_is s.next next (after (live_state h t) (Served sender message reply)) (life_after (abstract_scene h t) message reply)
    (ap (λ (r : Records). Some (life_after (record { records = r; awaiting = t.awaiting; life = abstract_life h t }) message reply)) w.keeps.recorded) s.step.same

-- a message that is no master's
module _ (h : History) (t : Tables) (w : CoreInvariant t.settings h t) (a : AroundInvariant h t) (sender : Sender) (message : Message) (reply : Reply) (other : IsNoMasters message)
    (s : PreservesCore t.settings h t (Served sender message reply, after_message message reply t)) (firsts : FirstsKnown (abstract_scene s.next (after_message message reply t)) (after_message message reply t).rows) where
  pub other_around : AroundInvariant s.next (after_message message reply t)
  other_around =
      let next : Tables = after_message message reply t in
      let l : Leaves t next = leaves t message reply next other (message_outcome t message reply) in
      let is : abstract_life s.next next ≡ life_after (abstract_scene h t) message reply = served_life h t w sender message reply next s in
      let j : LeavesLife (abstract_scene h t) (abstract_life s.next next) = subst (λ (life : LifeState). LeavesLife (abstract_scene h t) life) (sym is) (leaves_life (abstract_scene h t) message reply (life_after (abstract_scene h t) message reply) other (life_outcome (abstract_scene h t) message reply)) in
      moved_around h s.next t next l.settings l.pending j.pending (let e = l.added in omega (arith, e)) l.goes (firsts_told t.settings s.next next s.whole firsts)
      (λ r id below. ap (λ (ids : List ContainerId). has_container ids id) l.departed ∙ a.agrees.departed r id (ap (nat_lt id.epoch) (sym l.epoch) ∙ below) ∙ ap (λ (ids : List ContainerId). has_container ids id) (sym j.left))
      (λ r. subst (λ (n : ℕ). TellUpTo 0 n next.book.rows) (sym l.added) (l.numbers (a.agrees.numbers r)))
      (λ q since few was e.
      subst (λ (r : Records). map (late_by r.apps q since) next.book.rows ≡ map (late_told_by r q) s.next.book) (sym l.tree)
      (l.late q since ∙ e ∙ sym (j.late t.tree q)))
      a

-- A MASTER'S MESSAGE

-- what masters were told of is no more than what entered
one_told : (added : ℕ) (id : AppId) (f : AppRow → AppRow) (rows : List (AppId × Option AppRow)) → ((row : AppRow) → IsToldUpTo added row.dialogue → IsToldUpTo added (f row).dialogue) → AreToldUpTo added rows → AreToldUpTo added (with_row f id rows)
one_told added id f rows keeps told q now found = by (is_app id q) refl (row_of rows q) refl (sym (row_changed f id q rows) ∙ found)
  where
    by : (b : Bool) → is_app id q ≡ b → (o : Option AppRow) → row_of rows q ≡ o → changed_if b f o ≡ Some now → IsToldUpTo added now.dialogue
    by true e None there same = cc
    by true e (Some was) there same = let after : f was ≡ now = cc in subst (λ (row : AppRow). IsToldUpTo added row.dialogue) after (keeps was (told q was there))
    by false e o there same = told q now (there ∙ same)

said_told : (added : ℕ) (text : List ℕ) (d : Option Dialogue) → IsToldUpTo added d → IsToldUpTo added (with_text text d)
said_told added text None is = tt
said_told added text (Some one) is = is

answered_told : (added id : ℕ) (reply : Reply) (d : Option Dialogue) → IsToldUpTo added (with_answer id reply added d)
answered_told added id reply None = tt
answered_told added id reply (Some one) = omega arith

handed_added : (reply : Reply) (book : BookOf) → (handed_by reply book).added ≡ book.added
handed_added (replies.Took kept) book = refl
handed_added _ book = refl

masters_told : (t : Tables) (attempt : AttemptId) (ask : MasterAsk) (reply : Reply) (next : Tables) → AreToldUpTo t.book.added t.rows → MessageOutcome t (messages.Master attempt ask) reply next → AreToldUpTo next.book.added next.rows
masters_told t attempt ask reply next told (comes.registers one answer so) =
    subst (λ (n : ℕ). AreToldUpTo n (with_row (registered_row (dialogue_begun answer t.book.added)) one.app t.rows)) (sym (handed_added answer t.book))
    (one_told t.book.added one.app (registered_row (dialogue_begun answer t.book.added)) t.rows (λ row is. omega arith) told)
masters_told t attempt ask reply next told (comes.finishes one text goes) = one_told t.book.added one.app (said_row (with_text text)) t.rows (λ row is. said_told t.book.added text row.dialogue is) told
masters_told t attempt ask reply next told (comes.allocates one id asks release answer so new) =
    one_told t.book.added one.app (told_row (with_answer (id + 1) answer t.book.added) (without_closings one)) t.rows (λ row is. answered_told t.book.added (id + 1) answer row.dialogue) told
masters_told t attempt ask reply next told (comes.idles message one) = told

-- what a master's message leaves of the tables
masters_rest : (t : Tables) (attempt : AttemptId) (ask : MasterAsk) (reply : Reply) (next : Tables) → MessageOutcome t (messages.Master attempt ask) reply next → (next.tree ≡ t.tree) × (next.awaiting ≡ t.awaiting)
masters_rest t attempt ask reply next (comes.registers one answer so) = (refl, refl)
masters_rest t attempt ask reply next (comes.finishes one text goes) = (refl, refl)
masters_rest t attempt ask reply next (comes.allocates one id asks release answer so new) = (refl, refl)
masters_rest t attempt ask reply next (comes.idles message one) = (refl, refl)

module _ (h : History) (t : Tables) (w : CoreInvariant t.settings h t) (a : AroundInvariant h t) (shows : RefinesLife (abstract_scene h t) t) (sender : Sender) (attempt : AttemptId) (ask : MasterAsk) (reply : Reply) (is : reply ≡ master_reply t.settings (abstract_scene h t) attempt ask)
    (s : PreservesCore t.settings h t (Served sender (messages.Master attempt ask) reply, after_master attempt ask reply t)) where
  pub master_around : AroundInvariant s.next (after_master attempt ask reply t)
  master_around =
      let next : Tables = after_master attempt ask reply t in
      let outcome = message_outcome t (messages.Master attempt ask) reply in
      let rest = masters_rest t attempt ask reply next outcome in
      let life : abstract_life s.next next ≡ life_after_master (abstract_scene h t) attempt ask reply = served_life h t w sender (messages.Master attempt ask) reply next s in
      let after_it = (master_same (abstract_scene h t) t attempt ask reply shows is).around in
      let scene_is : record { records = t.tree; awaiting = t.awaiting; life = life_after_master (abstract_scene h t) attempt ask reply } ≡ abstract_scene s.next next =
      ap (λ (one : LifeState). record { records = t.tree; awaiting = t.awaiting; life = one }) (sym life)
      ∙ ap (λ (r : Records). record { records = r; awaiting = t.awaiting; life = abstract_life s.next next }) (sym rest.0)
      ∙ ap (λ (ops : List Op). record { records = next.tree; awaiting = ops; life = abstract_life s.next next }) (sym rest.1) in
      record { agrees = subst (λ (m : Scene). AgreesAround m next) scene_is after_it; told = masters_told t attempt ask reply next a.told outcome }
