-- NodeAdded, as a whole step: the report of a node that registered is absorbed. What is taken of it is of attempts that were kept when the
-- life began and go on, and what is not taken leaves the book.
use Rattle.rm_invariant.proofs.Common.{◌≡◌, ◌⊎◌, inl, inr, ℕ, not, List, [], ◌∷◌, ◌++◌, Bool, true, false, Option, None, Some, filter, fold, map, refl, sym, ◌∙◌, subst, arith, list_any, nat_tests, IsPermutation-sym, not-true, or_right, AttemptId, ContainerId, AppRecord, Settings, is_attempt, is_container, record_of, Held, Quiet, Resource, and_first, container_itself, same_container, absorbs, as_booked, as_counted, as_reported, row_absorbed, row_taken, taken_of, is_held, attempt_was_first, ids_on, is_living, lives_on, judged_node, LifeState, Row, Scene, scene, attempts_in, has_container, absorbed_with, SchedEvent, Tables, row_of, sched_popped, History, abstract_scene, abstract_life, live_state, length, ◌+◌, ◌<◌, ◌≤◌}
use Rattle.std.proofs.Common.{append_assoc, nat_lt, is_some}
use Rattle.std.proofs.lemmas.List.{append-nil}
use Rattle.rm_types.specs.declared.entries.Entry.TheVariants.{Absorbed}
use Rattle.rm_types.specs.declared.messages.Lane.TheVariants.{Sched as SchedLane}
use Rattle.rm_types.specs.declared.containers.Cause.TheVariants as causes
use Rattle.rm_model.specs.Absorbing.{may_take, not_taken, with_counted}
use Rattle.rm_model.specs.Attempts.{is_wanted}
use Rattle.rm_model.specs.Containers.{judged_row as book_row_of, is_pending}
use Rattle.rm_model.specs.Rules.{MayAbsorb}
use Rattle.rm_model.specs.State.{NodeState}
use Rattle.rm_tables.specs.declared.events.SchedEvent.TheVariants as scheds
use Rattle.rm_tables.specs.Leaving.{is_stale_in, is_wanted_in, wanted_by}
use Rattle.rm_refinement.proofs.Recorded.{wanted_same}
use Rattle.rm_invariant.specs.apps.Invariant.{AttemptsInvariant, RowInvariant}
use Rattle.rm_invariant.specs.apps.View.{view, View, set_if}
use Rattle.rm_invariant.specs.Step.{AppsInvariant}
use Rattle.rm_invariant.proofs.apps.Keeping.{in_scene}
use Rattle.rm_invariant.specs.masters.Sound.{RecordsAreSound}
use Rattle.rm_invariant.specs.masters.Invariant.{ContainersInvariant, ContainerInvariant, RemovalInvariant}
use Rattle.rm_invariant.specs.masters.Preserves.{PreservesContainers}
use Rattle.rm_invariant.specs.masters.View.{ContainerView, container_view, is_attempt_removal}
use Rattle.rm_invariant.proofs.masters.Tests.{and_right, any_end}
use Rattle.rm_invariant.proofs.masters.Removed.{leaving, left_all_marks, left_says, next, none_joins, Departs}
use Rattle.rm_invariant.proofs.masters.LeavingEvents.{lives_there, of_passing}
use Rattle.rm_invariant.proofs.masters.Leaving.{living_filter}
use Rattle.rm_invariant.proofs.nodes.Ascending.{permuted_has}
use Rattle.rm_invariant.proofs.nodes.Lists.{lives_is}
use Rattle.rm_invariant.proofs.masters.Crossing.{first_enters, first_held}
use Rattle.rm_invariant.proofs.masters.Stale.{found_among, wanted_fresh, wanted_kept}

-- a container that is wanted, of an attempt that was kept when the life began, enters the book with a row of its own
module _ (settings : Settings) (h : History) (t : Tables) (says : AttemptsInvariant settings h t) (all : ContainersInvariant h t) (each : RecordsAreSound t.tree.apps) (entry : Row)
    (first : attempt_was_first (abstract_scene h t) entry.id.attempt ≡ true) (wanted : is_wanted_in t.tree.apps entry.id ≡ true) where
  abbrev entered : History
  entered = record h { book = h.book ++ entry ∷ [] }

  some_record : (found : Option AppRecord) → wanted_by entry.id found ≡ true → is_some found ≡ true
  some_record None w = cc
  some_record (Some one) w = refl

  in_range : (found : Option AppRecord) → record_of t.tree.apps entry.id.attempt.app ≡ found → wanted_by entry.id found ≡ true → (0 < entry.id.attempt.number) × (entry.id.attempt.number ≤ 0 + length (attempts_in found))
  in_range None f w = cc
  in_range (Some one) f w = found_among entry.id.attempt.app 0 entry.id.attempt.number one.attempts (each entry.id.attempt.app one f).numbered (wanted_kept entry.id (Some one) w)

  enters_says : AttemptsInvariant settings entered t
  enters_says q = subst (λ (v : View). RowInvariant settings q (row_of t.rows q.app) v) (sym now) (by (is_attempt entry.id.attempt q) refl)
    where
      now : view entered t q ≡ record (view h t q) { held = set_if (is_attempt entry.id.attempt q) (view h t q).held }
      now = rw (any_end (λ row. is_attempt row.id.attempt q) h.book entry) refl

      by : (b : Bool) → is_attempt entry.id.attempt q ≡ b → RowInvariant settings q (row_of t.rows q.app) (record (view h t q) { held = set_if b (view h t q).held })
      by false e = says q
      by true e =
          let same : entry.id.attempt ≡ q = grind (arith, nat_tests) in
          let r = in_range (record_of t.tree.apps entry.id.attempt.app) refl wanted in
          let s = some_record (record_of t.tree.apps entry.id.attempt.app) wanted in
          first_held settings q (view h t q) (subst (λ (i : AttemptId). is_some (record_of t.tree.apps i.app) ≡ true) same s) (subst (λ (i : AttemptId). 1 ≤ i.number) same (omega (arith, r.0)))
          (subst (λ (i : AttemptId). i.number ≤ length (attempts_in (record_of t.tree.apps i.app))) same (omega (arith, r.1))) (row_of t.rows q.app) (says q)

  enters_marks : ContainersInvariant entered t
  enters_marks c = (subst (λ (v : ContainerView). ContainerInvariant c (row_of t.rows c.attempt.app) v) (sym now) (by (is_container entry.id c) refl), subst (λ (v : ContainerView). RemovalInvariant c v) (sym now) (of (is_container entry.id c) refl))
    where
      now : container_view entered t c ≡ record (container_view h t c) { living = set_if (is_container entry.id c) (container_view h t c).living }
      now = rw (any_end (λ row. is_container row.id c) h.book entry) refl

      by : (b : Bool) → is_container entry.id c ≡ b → ContainerInvariant c (row_of t.rows c.attempt.app) (record (container_view h t c) { living = set_if b (container_view h t c).living })
      by false e = (all c).0
      by true e = first_enters c (row_of t.rows c.attempt.app) (container_view h t c) (subst (λ (d : ContainerId). attempt_was_first (abstract_scene h t) d.attempt ≡ true) (same_container entry.id c e) first) (all c).0

      of : (b : Bool) → is_container entry.id c ≡ b → RemovalInvariant c (record (container_view h t c) { living = set_if b (container_view h t c).living })
      of false e = (all c).1
      of true e = λ s l.
          let fresh = subst (λ (d : ContainerId). is_stale_in t.tree.apps d ≡ false) (same_container entry.id c e) (wanted_fresh entry.id (record_of t.tree.apps entry.id.attempt.app) wanted) in
          absurd (cc)

-- a row that is found is of the container
row_is : (book : List Row) (c : ContainerId) (row : Row) → book_row_of book c ≡ Some row → row.id ≡ c
row_is [] c row e = cc
row_is (one ∷ book) c row e = by (is_container one.id c) refl (row_is book c row)
  where
    by : (b : Bool) → is_container one.id c ≡ b → (book_row_of book c ≡ Some row → row.id ≡ c) → row.id ≡ c
    by true f h = let same : one ≡ row = let x = rw f at e in cc in subst (λ (r : Row). r.id ≡ c) same (same_container one.id c f)
    by false f h = h (rw f at e)

-- what is taken of a report: it is wanted, and it stood on the node, or the attempt was kept when the life began
module _ (settings : Settings) (m : Scene) (node : NodeState) where
  abbrev IsTaken : Held → Type 0
  IsTaken held = (is_wanted m held.id ≡ true) × ((lives_on m.life.book node.name held.id ≡ true) ⊎ (attempt_was_first m held.id.attempt ≡ true))

  abbrev AllTaken : List Held → Type 0
  AllTaken [] = Unit {0}
  AllTaken (held ∷ more) = IsTaken held × AllTaken more

  taken_end : (list : List Held) (held : Held) → AllTaken list → IsTaken held → AllTaken (list ++ held ∷ [])
  taken_end [] held all one = (one, tt)
  taken_end (x ∷ list) held all one = (all.0, taken_end list held all.1 one)

  -- a container that counts stood there, or its attempt was first
  abbrev IsCounted : Option Held → Type 0
  IsCounted None = Unit {0}
  IsCounted (Some held) = (lives_on m.life.book node.name held.id ≡ true) ⊎ (attempt_was_first m held.id.attempt ≡ true)

  booked_counts : (held : Held) → IsCounted (as_booked m node held)
  booked_counts held = by (lives_on m.life.book node.name held.id) refl (book_row_of m.life.book held.id) refl
    where
      by : (b : Bool) → lives_on m.life.book node.name held.id ≡ b → (o : Option Row) → book_row_of m.life.book held.id ≡ o → IsCounted (as_booked m node held)
      by false e o f = rw e tt
      by true e None f = rw (e, f) tt
      by true e (Some row) f =
          let same : row.id ≡ held.id = row_is m.life.book held.id row f in
          let lives : lives_on m.life.book node.name row.id ≡ true = rw same e in
          rw (e, f) (inl lives)

  reported_counts : (held : Held) → IsCounted (as_reported m held)
  reported_counts held = by (nat_lt held.id.epoch m.life.epoch) (attempt_was_first m held.id.attempt) refl refl
    where
      by : (a b : Bool) → nat_lt held.id.epoch m.life.epoch ≡ a → attempt_was_first m held.id.attempt ≡ b → IsCounted (as_reported m held)
      by true true e f = rw (e, f) (inr f)
      by true false e f = rw (e, f) tt
      by false b e f = rw e tt

  counted : (held : Held) → IsCounted (as_counted m node held)
  counted held = by (is_some node.capability) refl
    where
      by : (b : Bool) → is_some node.capability ≡ b → IsCounted (as_counted m node held)
      by true e = rw e (booked_counts held)
      by false e = rw e (reported_counts held)

  one_taken : (taken : List Held) (o : Option Held) → IsCounted o → AllTaken taken → AllTaken (with_counted settings m node taken o)
  one_taken taken None c all = all
  one_taken taken (Some held) c all = by (may_take settings m node taken held) refl
    where
      by : (b : Bool) → may_take settings m node taken held ≡ b → AllTaken (with_counted settings m node taken (Some held))
      by false e = rw e all
      by true e =
          let goes = and_first (is_wanted m held.id) _ (and_right (not (is_held taken held.id)) _ (and_right (not (is_pending settings m held.id)) _ e)) in
          rw e (taken_end taken held all (goes, c))

  fold_taken : (running taken : List Held) → AllTaken taken → AllTaken (fold (λ taken held. with_counted settings m node taken (as_counted m node held)) taken running)
  fold_taken [] taken all = all
  fold_taken (held ∷ running) taken all = fold_taken running (with_counted settings m node taken (as_counted m node held)) (one_taken taken (as_counted m node held) (counted held) all)

  pub all_taken : AllTaken (taken_of settings m node)
  all_taken = fold_taken node.last.running [] tt

-- a row that was taken is of the container that it was of
same_id : (taken : List Held) (row : Row) → (row_taken taken row).id ≡ row.id
same_id taken row = by (is_held taken row.id) refl
  where
    by : (b : Bool) → is_held taken row.id ≡ b → (row_taken taken row).id ≡ row.id
    by true e = rw e refl
    by false e = rw e refl

same_any : (test : ContainerId → Bool) (taken : List Held) (book : List Row) → list_any (λ row. test row.id) (map (row_taken taken) book) ≡ list_any (λ row. test row.id) book
same_any test taken [] = refl
same_any test taken (row ∷ book) = let id = same_id taken row in let more = same_any test taken book in rw (id, more) refl

-- containers that are taken enter the book, one after the other
module _ (settings : Settings) (g : History) (t : Tables) (each : RecordsAreSound t.tree.apps) (name : List ℕ) where
  abbrev with_book : List Row → History
  with_book book = record g { book = book }

  abbrev Enters : List Held → Type 0
  Enters [] = Unit {0}
  Enters (held ∷ more) = ((is_wanted_in t.tree.apps held.id ≡ true) × (attempt_was_first (abstract_scene g t) held.id.attempt ≡ true)) × Enters more

  abbrev BothSay : List Row → Type 0
  BothSay book = AttemptsInvariant settings (with_book book) t × ContainersInvariant (with_book book) t

  one_enters : (book : List Row) (held : Held) → is_wanted_in t.tree.apps held.id ≡ true → attempt_was_first (abstract_scene g t) held.id.attempt ≡ true → BothSay book → BothSay (book ++ row_absorbed name held ∷ [])
  one_enters book held wanted first both = (
    enters_says settings (with_book book) t both.0 both.1 each (row_absorbed name held) first wanted,
    enters_marks settings (with_book book) t both.0 both.1 each (row_absorbed name held) first wanted,
  )

  all_enter : (book : List Row) (list : List Held) → Enters list → BothSay book → BothSay (book ++ map (row_absorbed name) list)
  all_enter book [] enters both = subst (λ (rows : List Row). BothSay rows) (sym (append-nil book)) both
  all_enter book (held ∷ more) enters both =
      subst (λ (rows : List Row). BothSay rows) (append_assoc book (row_absorbed name held ∷ []) (map (row_absorbed name) more))
      (all_enter (book ++ row_absorbed name held ∷ []) more enters.1 (one_enters book held enters.0.0 enters.0.1 both))

-- the event is no AttemptRemoved
no_removal : {X : Type 0} → (c : ContainerId) (name : List ℕ) (turn : ℕ) → is_attempt_removal c (scheds.NodeAdded name turn) ≡ true → X
no_removal c name turn x = cc

module _ (settings : Settings) (h : History) (t : Tables) (k : AppsInvariant settings h t) (all : ContainersInvariant h t) (each : RecordsAreSound t.tree.apps) (name : List ℕ) (turn : ℕ) (rest : List SchedEvent) (front : t.sched ≡ scheds.NodeAdded name turn ∷ rest) where
  -- the report is absorbed
  module _ (node : NodeState) (there : judged_node h.nodes name ≡ Some node) (capability : Resource) (taken : List Held) (ended : List ContainerId) (may : MayAbsorb settings (abstract_scene h t) node taken ended) where
    of_left : (c : ContainerId) → has_container ended c ≡ true → (has_container (ids_on h.book node.name) c ≡ true) × (not (is_held taken c) ≡ true)
    of_left c e =
        of_passing (λ id. not (is_held taken id)) (ids_on h.book node.name) c
        (permuted_has ended (not_taken (abstract_scene h t) node taken) c (IsPermutation-sym (not_taken (abstract_scene h t) node taken) ended may.ends.same) e)

    departs : (c : ContainerId) → has_container ended c ≡ true → Departs h t c
    departs c e = inl (lives_there h.book node.name c (lives_is h.book node.name c ∙ (of_left c e).0))

    -- the history and the tables once what isn't taken left
    abbrev gone : History
    gone = leaving settings h t k all each (scheds.NodeAdded name turn) rest front (λ q v. refl) causes.Gone ended

    abbrev after_gone : Tables
    after_gone = next settings h t k all each (scheds.NodeAdded name turn) rest front (λ q v. refl) causes.Gone ended departs (λ c x l s. no_removal c name turn x)

    gone_says : AttemptsInvariant settings gone after_gone
    gone_says = left_says settings h t k all each (scheds.NodeAdded name turn) rest front (λ q v. refl) causes.Gone ended departs (λ c x l s. no_removal c name turn x)

    gone_marks_say : ContainersInvariant gone after_gone
    gone_marks_say = left_all_marks settings h t k all each (scheds.NodeAdded name turn) rest front (λ q v. refl) causes.Gone ended departs (λ c x l s. no_removal c name turn x)

    -- what stood there stands
    standing_says : BothSay settings gone after_gone each name (map (row_taken taken) gone.book)
    standing_says = (λ q. subst (λ (v : View). RowInvariant settings q (row_of after_gone.rows q.app) v) (seen q) (gone_says q), λ c. (subst (λ (v : ContainerView). ContainerInvariant c (row_of after_gone.rows c.attempt.app) v) (marked c) (gone_marks_say c).0, subst (λ (v : ContainerView). RemovalInvariant c v) (marked c) (gone_marks_say c).1))
      where
        seen : (q : AttemptId) → view gone after_gone q ≡ view (record gone { book = map (row_taken taken) gone.book }) after_gone q
        seen q = let same = same_any (λ id. is_attempt id.attempt q) taken gone.book in rw same refl

        marked : (c : ContainerId) → container_view gone after_gone c ≡ container_view (record gone { book = map (row_taken taken) gone.book }) after_gone c
        marked c = let same = same_any (λ id. is_container id c) taken gone.book in rw same refl

    -- what enters is of attempts that were first
    enters : (list : List Held) → AllTaken settings (abstract_scene h t) node list → ((held : Held) → is_held list held.id ≡ true → is_held taken held.id ≡ true)
        → Enters settings gone after_gone each name (filter (λ held. not (is_living gone.book held.id)) list)
    enters [] ok among = tt
    enters (held ∷ more) ok among = by (is_living gone.book held.id) refl (enters more ok.1 (λ one e. among one (or_right (is_container held.id one.id) (is_held more one.id) e)))
      where
        in_taken : is_held taken held.id ≡ true
        in_taken = let self = container_itself held.id in among held (rw self refl)

        stays : has_container ended held.id ≡ false
        stays = at_test (has_container ended held.id) refl
          where
            at_test : (b : Bool) → has_container ended held.id ≡ b → b ≡ false
            at_test true e = absurd (let n = not-true (is_held taken held.id) (of_left held.id e).1 in let i = in_taken in cc)
            at_test false e = refl

        was_first : is_living gone.book held.id ≡ false → (lives_on h.book node.name held.id ≡ true) ⊎ (attempt_was_first (abstract_scene h t) held.id.attempt ≡ true) → attempt_was_first (abstract_scene h t) held.id.attempt ≡ true
        was_first not_there (inr first) = first
        was_first not_there (inl lives_) =
            let living = lives_there h.book node.name held.id lives_ in
            let left = stays in
            let still : is_living gone.book held.id ≡ true = living_filter ended h.book held.id ∙ rw (living, left) refl in
            absurd (cc)

        by : (b : Bool) → is_living gone.book held.id ≡ b → Enters settings gone after_gone each name (filter (λ held. not (is_living gone.book held.id)) more) → Enters settings gone after_gone each name (filter (λ held. not (is_living gone.book held.id)) (held ∷ more))
        by true e rest_ = rw e rest_
        by false e rest_ = rw e ((wanted_same (abstract_scene h t) held.id ∙ ok.0.0, was_first e ok.0.1), rest_)

    abbrev life_after : LifeState
    life_after = absorbs (scene (live_state h t) (abstract_life h t)) name taken ended

    -- the history after it
    abbrev pub absorbing : History
    absorbing = record h { book = life_after.book; nodes = life_after.nodes; endings = life_after.endings }

    both : BothSay settings gone after_gone each name (map (row_taken taken) gone.book ++ map (row_absorbed name) (filter (λ held. not (is_living gone.book held.id)) taken))
    both =
        let takes = may.takes in
        let ok : AllTaken settings (abstract_scene h t) node taken = rw takes (all_taken settings (abstract_scene h t) node) in
        all_enter settings gone after_gone each name (map (row_taken taken) gone.book) (filter (λ held. not (is_living gone.book held.id)) taken) (enters taken ok (λ held e. e)) standing_says

    pub absorbed_joins : PreservesContainers settings h t (Absorbed name taken ended) absorbing (sched_popped (absorbed_with name capability taken ended t))
    absorbed_joins =
        record {
          step =
              record {
                lawful = in_scene settings h t k (Absorbed name taken ended) (rw there may);
                same = refl;
                keeps = record { is_open = k.is_open; recorded = k.recorded; all = both.0 };
              };
          marks = both.1;
        }

  -- nothing is to be absorbed
  pub unabsorbed_joins : PreservesContainers settings h t (Quiet SchedLane) h (sched_popped t)
  unabsorbed_joins = none_joins settings h t k all each (scheds.NodeAdded name turn) rest front (λ q v. refl) causes.Gone (Quiet SchedLane) (inr refl) refl (λ c x l s. cc)
