-- Each move brings the state of a container in the book along a row of its table, or leaves it.
use Rattle.rm_invariant.proofs.Common.{◌≡◌, ◌⊎◌, inl, inr, ℕ, ◌+◌, List, [], ◌∷◌, ◌++◌, Bool, true, false, ◌&&◌, not, Option, None, Some, filter, find, map, refl, sym, ◌∙◌, ap, subst, arith, nat_tests, if◌then◌else◌, list_any, bytes_eq, Ask, BookRow, ContainerState, Acquired, Running, Grant, Held, Entry, AttemptId, ContainerId, ClientAsk, ClockAsk, MasterAsk, NodeAsk, Op, Reply, Resource, is_container, same_container, BookOf, entering, granted_rows, is_of, book_row_taken, taken_rows, with_grants, book_with_taken, without_rows, is_held, is_granted, has_container, reported, master_reply, Scene, MainEvent, SchedEvent, AppRow, Dialogue, Tables, main_worked, sched_worked, kept, is_masters_in, main_step, sched_step, History, abstract_scene, RefinesLife, after_client, acquired, acquired_row, after_master, is_new_to, after_clock, after_node, beaten_book, is_row_on, is_untold_row, Message, spoken_by, Closing}
use Rattle.std.proofs.Common.{◌==◌, IfSome, is_some, option_map}
use Rattle.rm_types.specs.declared.containers.ContainerState.TheVariants.{Granted, Completed}
use Rattle.rm_types.specs.declared.operations.Op.TheVariants as ops
use Rattle.rm_types.specs.declared.replies.Reply.TheVariants as replies
use Rattle.rm_states.specs.declared.container.states.ContainerEvent.TheVariants.{Tell, Run, End}
use Rattle.rm_states.specs.declared.container.states.ContainerAction.TheVariants.{Nothing}
use Rattle.rm_states.specs.container.Table.{ContainerTransition as ContainerTableRow}
use Rattle.rm_book.specs.Books.{AreLiving, IsBook, is_living_state, book_row}
use Rattle.rm_book.specs.Granted.{AllMayBeTold, may_be_told}
use Rattle.rm_tables.specs.declared.events.MainEvent.TheVariants as mains
use Rattle.rm_tables.specs.Rows.{row_of as row_of_app}
use Rattle.rm_master.specs.Answers.{handed_by, handed_over, handed_row, ids_granted, own_grants}
use Rattle.rm_master.proofs.Picked.{own_told}
use Rattle.rm_master.specs.Told.{allocate_told, allocated_told, asks_too_much, grants_told, asks_too_many, living_row, master_told, new_told, spoken_in, spoken_told}
use Rattle.rm_master.proofs.Served.{master_answer}
use Rattle.rm_tracker.proofs.Alike.{beaten_at_once, book_at_once}
use Rattle.rm_invariant.specs.events.Outcomes.{Outcome, idles}
use Rattle.rm_invariant.proofs.events.Outcomes.{main_outcome}
use Rattle.rm_invariant.specs.Invariant.{LifeInvariant}
use Rattle.rm_invariant.proofs.MessagesPreserve.{life_shown}
use Rattle.rm_invariant.specs.Transitions.{BookFollowsTable, BookRowFollowsTable, ContainerFollowsTable}
use Rattle.rm_invariant.proofs.events.SchedShapes.{BookAfter, sched_shape}
use Rattle.rm_types.specs.declared.messages.Message.TheVariants as messages
use Rattle.rm_tracker.specs.Answers.{launched_by}
use Rattle.rm_master.specs.Answers.{containers_told}
use Rattle.rm_invariant.specs.messages.Outcomes.{MessageOutcome, after_message, serves_allocation}
use Rattle.rm_invariant.specs.messages.Outcomes as comes
use Rattle.rm_invariant.proofs.messages.Outcomes.{message_outcome}

-- ROWS

-- a container that lives goes to where it runs, and by its end to the last state
runs_follows : (s : ContainerState) → is_living_state s ≡ true → ContainerFollowsTable s Running
runs_follows Granted e = inr (Run, Nothing, ContainerTableRow.run_granted)
runs_follows Acquired e = inr (Run, Nothing, ContainerTableRow.run_acquired)
runs_follows Running e = inl refl
runs_follows Completed e = cc

living_ends : (s : ContainerState) → is_living_state s ≡ true → ContainerTableRow s End Completed Nothing
living_ends Granted e = ContainerTableRow.end_granted
living_ends Acquired e = ContainerTableRow.end_acquired
living_ends Running e = ContainerTableRow.end_running
living_ends Completed e = cc

-- one of which somebody may be told goes to where they were told, and so does one that nobody was told of yet
told_follows : (s : ContainerState) → may_be_told s ≡ true → ContainerFollowsTable s Acquired
told_follows Granted e = inr (Tell, Nothing, ContainerTableRow.tell)
told_follows Acquired e = inl refl
told_follows Running e = cc
told_follows Completed e = cc

granted_follows : (s : ContainerState) → is_granted s ≡ true → ContainerFollowsTable s Acquired
granted_follows Granted e = told_follows Granted refl
granted_follows Acquired e = cc
granted_follows Running e = cc
granted_follows Completed e = cc

-- one row of an option, or none
same_some : {X : Type 0} (o : Option X) (a b : X) → o ≡ Some a → o ≡ Some b → b ≡ a
same_some None a b e f = cc
same_some (Some x) a b e f = let g : Some a ≡ Some b = sym e ∙ f in cc

none_is_some : {X : Type 0} (o : Option X) (a : X) → o ≡ None → o ≡ Some a → ⊥
none_is_some None a e f = cc
none_is_some (Some x) a e f = cc

-- a row that is found is of a container that lives
lives_found : (id : ContainerId) (rows : List BookRow) (row : BookRow) → AreLiving rows → find (is_of id) rows ≡ Some row → is_living_state row.state ≡ true
lives_found id [] row living is = cc
lives_found id (one ∷ rows) row living is = by (is_of id one) refl (lives_found id rows row living.1)
  where
    by : (b : Bool) → is_of id one ≡ b → (find (is_of id) rows ≡ Some row → is_living_state row.state ≡ true) → is_living_state row.state ≡ true
    by true e rest = let h : Some one ≡ Some row = rw e at is in let same : one ≡ row = cc in subst (λ (r : BookRow). is_living_state r.state ≡ true) same living.0
    by false e rest = rest (rw e at is)

-- what is found among rows that changed, where each is of its own container still
found_map : (f : BookRow → BookRow) → ((row : BookRow) → (f row).id ≡ row.id) → (id : ContainerId) (rows : List BookRow) → find (is_of id) (map f rows) ≡ option_map f (find (is_of id) rows)
found_map f same id [] = refl
found_map f same id (row ∷ rows) = by (is_of id row) refl (found_map f same id rows)
  where
    now : is_of id (f row) ≡ is_of id row
    now = ap (λ (one : ContainerId). is_container one id) (same row)

    by : (b : Bool) → is_of id row ≡ b → find (is_of id) (map f rows) ≡ option_map f (find (is_of id) rows) → find (is_of id) (map f (row ∷ rows)) ≡ option_map f (find (is_of id) (row ∷ rows))
    by true e rest = rw (now, e) refl
    by false e rest = rw (now, e) rest

-- among rows of which those of some containers left
found_left : (stays : ContainerId → Bool) (id : ContainerId) (rows : List BookRow) → find (is_of id) (filter (λ row. stays row.id) rows) ≡ (if stays id then find (is_of id) rows else None)
found_left stays id [] = none (stays id)
  where
    none : (b : Bool) → ◌≡◌ {A = Option BookRow} None (if b then None else None)
    none true = refl
    none false = refl
found_left stays id (row ∷ rows) = by (is_of id row) (stays row.id) refl refl (found_left stays id rows)
  where
    by : (a b : Bool) → is_of id row ≡ a → stays row.id ≡ b → find (is_of id) (filter (λ one. stays one.id) rows) ≡ (if stays id then find (is_of id) rows else None)
        → find (is_of id) (filter (λ one. stays one.id) (row ∷ rows)) ≡ (if stays id then find (is_of id) (row ∷ rows) else None)
    by true true e f rest =
        let own : stays id ≡ true = subst (λ (one : ContainerId). stays one ≡ true) (same_container row.id id e) f in
        rw (f, e, own) refl
    by true false e f rest =
        let own : stays id ≡ false = subst (λ (one : ContainerId). stays one ≡ false) (same_container row.id id e) f in
        rw (f, own) (rest ∙ rw own refl)
    by false true e f rest = rw (f, e) rest
    by false false e f rest = rw (f, e) rest

none_left : (stays : ContainerId → Bool) (id : ContainerId) (rows : List BookRow) → find (is_of id) rows ≡ None → find (is_of id) (filter (λ row. stays row.id) rows) ≡ None
none_left stays id rows none = found_left stays id rows ∙ by (stays id)
  where
    by : (b : Bool) → (if b then find (is_of id) rows else None) ≡ None
    by true = none
    by false = refl

-- among rows behind which others stand
found_first : (id : ContainerId) (rows more : List BookRow) (row : BookRow) → find (is_of id) rows ≡ Some row → find (is_of id) (rows ++ more) ≡ Some row
found_first id [] more row is = cc
found_first id (one ∷ rows) more row is = by (is_of id one) refl (found_first id rows more row)
  where
    by : (b : Bool) → is_of id one ≡ b → (find (is_of id) rows ≡ Some row → find (is_of id) (rows ++ more) ≡ Some row) → find (is_of id) (one ∷ rows ++ more) ≡ Some row
    by true e rest = rw e (rw e at is)
    by false e rest = rw e (rest (rw e at is))

found_behind : (id : ContainerId) (rows more : List BookRow) → find (is_of id) rows ≡ None → find (is_of id) (rows ++ more) ≡ find (is_of id) more
found_behind id [] more none = refl
found_behind id (one ∷ rows) more none = by (is_of id one) refl (found_behind id rows more)
  where
    by : (b : Bool) → is_of id one ≡ b → (find (is_of id) rows ≡ None → find (is_of id) (rows ++ more) ≡ find (is_of id) more) → find (is_of id) (one ∷ rows ++ more) ≡ find (is_of id) more
    by true e rest = let no : ◌≡◌ {A = Option BookRow} (Some one) None = rw e at none in cc
    by false e rest = rw e (rest (rw e at none))

-- a container that enters with a report runs, and one that a pass grants is granted
taken_runs : (id : ContainerId) (added : ℕ) (node : List ℕ) (taken : List Held) (row : BookRow) → find (is_of id) (taken_rows added node taken) ≡ Some row → row.state ≡ Running
taken_runs id added node [] row is = cc
taken_runs id added node (held ∷ taken) row is = by (is_container held.id id) refl (taken_runs id (added + 1) node taken row)
  where
    first : BookRow
    first = record { id = held.id; node = node; size = held.size; state = Running; told = added + 1 }

    by : (b : Bool) → is_container held.id id ≡ b → (find (is_of id) (taken_rows (added + 1) node taken) ≡ Some row → row.state ≡ Running) → row.state ≡ Running
    by true e rest = let h : Some first ≡ Some row = rw e at is in let same : first ≡ row = cc in ap (λ (r : BookRow). r.state) (sym same)
    by false e rest = rest (rw e at is)

granted_waits : (id : ContainerId) (added : ℕ) (grants : List Grant) (row : BookRow) → find (is_of id) (granted_rows added grants) ≡ Some row → row.state ≡ Granted
granted_waits id added [] row is = cc
granted_waits id added (grant ∷ grants) row is = by (is_container grant.id id) refl (granted_waits id (added + 1) grants row)
  where
    first : BookRow
    first = record { id = grant.id; node = grant.node; size = grant.size; state = Granted; told = added + 1 }

    by : (b : Bool) → is_container grant.id id ≡ b → (find (is_of id) (granted_rows (added + 1) grants) ≡ Some row → row.state ≡ Granted) → row.state ≡ Granted
    by true e rest = let h : Some first ≡ Some row = rw e at is in let same : first ≡ row = cc in ap (λ (r : BookRow). r.state) (sym same)
    by false e rest = rest (rw e at is)

-- somebody may be told of a container of which a reply tells
told_has : (rows : List BookRow) (id : ContainerId) (grants : List Grant) → AllMayBeTold rows grants → has_container (ids_granted grants) id ≡ true
    → IfSome (find (is_of id) rows) (λ row. may_be_told row.state ≡ true)
told_has rows id [] told has = cc
told_has rows id (grant ∷ grants) told has = by (is_container grant.id id) refl (told_has rows id grants told.1)
  where
    by : (b : Bool) → is_container grant.id id ≡ b → (has_container (ids_granted grants) id ≡ true → IfSome (find (is_of id) rows) (λ row. may_be_told row.state ≡ true))
        → IfSome (find (is_of id) rows) (λ row. may_be_told row.state ≡ true)
    by true e rest = subst (λ (one : ContainerId). IfSome (find (is_of one) rows) (λ row. may_be_told row.state ≡ true)) (same_container grant.id id e) told.0
    by false e rest = rest (rw e at has)

-- a row that is found is of its container
found_own : (id : ContainerId) (rows : List BookRow) (row : BookRow) → find (is_of id) rows ≡ Some row → row.id ≡ id
found_own id [] row is = cc
found_own id (one ∷ rows) row is = by (is_of id one) refl (found_own id rows row)
  where
    by : (b : Bool) → is_of id one ≡ b → (find (is_of id) rows ≡ Some row → row.id ≡ id) → row.id ≡ id
    by true e rest = let h : Some one ≡ Some row = rw e at is in let same : one ≡ row = cc in ap (λ (r : BookRow). r.id) (sym same) ∙ same_container one.id id e
    by false e rest = rest (rw e at is)

untold_parts : (a b c : Bool) → (a && (b && c)) ≡ true → c ≡ true
untold_parts true true c e = e
untold_parts true false c e = cc
untold_parts false b c e = cc

-- a container isn't one of those that end
abbrev stays_of : List ContainerId → ContainerId → Bool
stays_of ended one = not (list_any (λ other. is_container other one) ended)

-- THE BOOK

-- the rows after an absorption of what stood before it
abbrev rows_left : List Held → List ContainerId → List BookRow → List BookRow
rows_left taken ended rows = map (book_row_taken taken) (filter (λ row. stays_of ended row.id) rows)

taken_keeps : (taken : List Held) (row : BookRow) → (book_row_taken taken row).id ≡ row.id
taken_keeps taken row = by (is_held taken row.id)
  where
    by : (b : Bool) → (if b then record row { state = Running } else row).id ≡ row.id
    by true = refl
    by false = refl

-- a container that stays in the book
module _ (book : BookOf) (lawful : IsBook book) (id : ContainerId) (before now : BookRow) (found : book_row book id ≡ Some before) where
  -- after a change of each row that keeps its container
  mapped : (f : BookRow → BookRow) → ((row : BookRow) → (f row).id ≡ row.id) → find (is_of id) (map f book.rows) ≡ Some now → f before ≡ now
  mapped f same after =
      let at_ : find (is_of id) (map f book.rows) ≡ Some (f before) = found_map f same id book.rows ∙ ap (option_map f) found in
      let h : Some (f before) ≡ Some now = sym at_ ∙ after in cc

  living : is_living_state before.state ≡ true
  living = lives_found id book.rows before lawful.living found

  left_follows : (ended : List ContainerId) → book_row (without_rows book ended) id ≡ Some now → ContainerFollowsTable before.state now.state
  left_follows ended after = by (stays_of ended id) refl
    where
      by : (b : Bool) → stays_of ended id ≡ b → ContainerFollowsTable before.state now.state
      by true e =
          let h : find (is_of id) book.rows ≡ Some now = sym (found_left (stays_of ended) id book.rows ∙ rw e refl) ∙ after in
          inl (ap (λ (r : BookRow). r.state) (same_some (find (is_of id) book.rows) before now found h))
      by false e = let h : ◌≡◌ {A = Option BookRow} None (Some now) = sym (found_left (stays_of ended) id book.rows ∙ rw e refl) ∙ after in cc

  grants_follow : (grants : List Grant) → book_row (with_grants book grants) id ≡ Some now → ContainerFollowsTable before.state now.state
  grants_follow grants after =
      let at_ = found_first id book.rows (granted_rows book.added grants) before found in
      inl (ap (λ (r : BookRow). r.state) (same_some (book_row (with_grants book grants) id) before now at_ after))

  -- its row stood there before the absorption
  stood_follows : (taken : List Held) (ended : List ContainerId) (row : BookRow) → find (is_of id) (rows_left taken ended book.rows) ≡ Some row → ContainerFollowsTable before.state row.state
  stood_follows taken ended row is = by (stays_of ended id) refl
    where
      here : find (is_of id) (rows_left taken ended book.rows) ≡ option_map (book_row_taken taken) (if stays_of ended id then find (is_of id) book.rows else None)
      here =
          found_map (book_row_taken taken) (taken_keeps taken) id (filter (λ one. stays_of ended one.id) book.rows)
          ∙ ap (option_map (book_row_taken taken)) (found_left (stays_of ended) id book.rows)

      taken_so : (b : Bool) → ContainerFollowsTable before.state (if b then record before { state = Running } else before).state
      taken_so true = runs_follows before.state living
      taken_so false = inl refl

      by : (b : Bool) → stays_of ended id ≡ b → ContainerFollowsTable before.state row.state
      by true e =
          let at_ : find (is_of id) (rows_left taken ended book.rows) ≡ Some (book_row_taken taken before) = here ∙ rw (e, found) refl in
          let same : row ≡ book_row_taken taken before = same_some (find (is_of id) (rows_left taken ended book.rows)) (book_row_taken taken before) row at_ is in
          subst (λ (r : BookRow). ContainerFollowsTable before.state r.state) (sym same) (taken_so (is_held taken before.id))
      by false e = let h : ◌≡◌ {A = Option BookRow} None (Some row) = sym (here ∙ rw e refl) ∙ is in cc

  taken_follows : (node : List ℕ) (capability : Resource) (taken : List Held) (ended : List ContainerId) → book_row (book_with_taken book node capability taken ended) id ≡ Some now
      → ContainerFollowsTable before.state now.state
  taken_follows node capability taken ended after = by (find (is_of id) (rows_left taken ended book.rows)) refl
    where
      entered : List BookRow
      entered = taken_rows book.added node (entering book taken)

      by : (o : Option BookRow) → find (is_of id) (rows_left taken ended book.rows) ≡ o → ContainerFollowsTable before.state now.state
      by None e =
          let runs : now.state ≡ Running = taken_runs id book.added node (entering book taken) now (sym (found_behind id (rows_left taken ended book.rows) entered e) ∙ after) in
          subst (ContainerFollowsTable before.state) (sym runs) (runs_follows before.state living)
      by (Some row) e =
          let same : now ≡ row = same_some (book_row (book_with_taken book node capability taken ended) id) row now (found_first id (rows_left taken ended book.rows) entered row e) after in
          subst (λ (r : BookRow). ContainerFollowsTable before.state r.state) (sym same) (stood_follows taken ended row e)

  acquired_follows : (grants : List Grant) → AllMayBeTold book.rows grants → book_row (acquired (ids_granted grants) book) id ≡ Some now → ContainerFollowsTable before.state now.state
  acquired_follows grants told after =
      subst (λ (r : BookRow). ContainerFollowsTable before.state r.state) (mapped (acquired_row (ids_granted grants)) (λ row. refl) after) (by (has_container (ids_granted grants) before.id) refl)
    where
      by : (b : Bool) → has_container (ids_granted grants) before.id ≡ b → ContainerFollowsTable before.state (if b then Acquired else before.state)
      by true e =
          let own = found_own id book.rows before found in
          told_follows before.state (rw found at (told_has book.rows id grants told (subst (λ (one : ContainerId). has_container (ids_granted grants) one ≡ true) own e)))
      by false e = inl refl

  handed_follows : (told : List ContainerId) → book_row (handed_over told book) id ≡ Some now → ContainerFollowsTable before.state now.state
  handed_follows told after =
      subst (λ (r : BookRow). ContainerFollowsTable before.state r.state) (mapped (handed_row told) (λ row. refl) after) (by (has_container told before.id) (is_granted before.state) refl)
    where
      by : (b c : Bool) → is_granted before.state ≡ c → ContainerFollowsTable before.state (if b && c then Acquired else before.state)
      by true true e = granted_follows before.state e
      by true false e = inl refl
      by false c e = inl refl

  beaten_follows : (name : List ℕ) (running launched : List ContainerId) → book_row (beaten_book name running launched book) id ≡ Some now → ContainerFollowsTable before.state now.state
  beaten_follows name running launched after =
      subst (λ (r : BookRow). ContainerFollowsTable before.state r.state)
      (mapped (beaten_at_once name running launched) (λ row. refl) (sym (ap (λ (b : BookOf). book_row b id) (book_at_once name running launched book lawful.apart)) ∙ after))
      (by (has_container running before.id && is_row_on name before) (has_container launched before.id && is_untold_row name before) refl)
    where
      by : (c b : Bool) → (has_container launched before.id && is_untold_row name before) ≡ b → ContainerFollowsTable before.state (if c then Running else (if b then Acquired else before.state))
      by true b e = runs_follows before.state living
      by false true e = granted_follows before.state (untold_parts (has_container launched before.id) (bytes_eq before.node name) (is_granted before.state) e)
      by false false e = inl refl

-- where those that stay follow their table, and those that come are granted or run, each container goes by it: whoever leaves lived
book_goes : (book next : BookOf) → IsBook book
    → ((id : ContainerId) (before now : BookRow) → book_row book id ≡ Some before → book_row next id ≡ Some now → ContainerFollowsTable before.state now.state)
    → ((id : ContainerId) (now : BookRow) → book_row book id ≡ None → book_row next id ≡ Some now → (now.state ≡ Granted) ⊎ (now.state ≡ Running)) → BookFollowsTable book next
book_goes book next lawful stays comes id = by (book_row book id) (book_row next id) refl refl
  where
    by : (o p : Option BookRow) → book_row book id ≡ o → book_row next id ≡ p → BookRowFollowsTable o p
    by None None e f = tt
    by None (Some now) e f = comes id now e f
    by (Some before) None e f = (Nothing, living_ends before.state (lives_found id book.rows before lawful.living e))
    by (Some before) (Some now) e f = stays id before now e f

pub book_stays : (book : BookOf) → BookFollowsTable book book
book_stays book id = by (book_row book id)
  where
    by : (o : Option BookRow) → BookRowFollowsTable o o
    by None = tt
    by (Some row) = inl refl

module _ (book : BookOf) (lawful : IsBook book) where
  left_goes : (ended : List ContainerId) → BookFollowsTable book (without_rows book ended)
  left_goes ended =
      book_goes book (without_rows book ended) lawful (λ id before now found after. left_follows book lawful id before now found ended after)
      (λ id now none after. absurd (none_is_some (book_row (without_rows book ended) id) now (none_left (stays_of ended) id book.rows none) after))

  granted_goes : (grants : List Grant) → BookFollowsTable book (with_grants book grants)
  granted_goes grants =
      book_goes book (with_grants book grants) lawful (λ id before now found after. grants_follow book lawful id before now found grants after)
      (λ id now none after. inl (granted_waits id book.added grants now (sym (found_behind id book.rows (granted_rows book.added grants) none) ∙ after)))

  taken_goes : (node : List ℕ) (capability : Resource) (taken : List Held) (ended : List ContainerId) → BookFollowsTable book (book_with_taken book node capability taken ended)
  taken_goes node capability taken ended =
      book_goes book (book_with_taken book node capability taken ended) lawful (λ id before now found after. taken_follows book lawful id before now found node capability taken ended after)
      (λ id now none after. inr (taken_runs id book.added node (entering book taken) now (sym (found_behind id (rows_left taken ended book.rows) (taken_rows book.added node (entering book taken)) (gone id none)) ∙ after)))
    where
      gone : (id : ContainerId) → book_row book id ≡ None → find (is_of id) (rows_left taken ended book.rows) ≡ None
      gone id none =
          found_map (book_row_taken taken) (taken_keeps taken) id (filter (λ one. stays_of ended one.id) book.rows)
          ∙ ap (option_map (book_row_taken taken)) (none_left (stays_of ended) id book.rows none)

  acquired_goes : (grants : List Grant) → AllMayBeTold book.rows grants → BookFollowsTable book (acquired (ids_granted grants) book)
  acquired_goes grants told =
      book_goes book (acquired (ids_granted grants) book) lawful (λ id before now found after. acquired_follows book lawful id before now found grants told after)
      (λ id now none after. absurd (none_is_some (book_row (acquired (ids_granted grants) book) id) now
      (found_map (acquired_row (ids_granted grants)) (λ row. refl) id book.rows ∙ ap (option_map (acquired_row (ids_granted grants))) none) after))

  handed_goes : (reply : Reply) → BookFollowsTable book (handed_by reply book)
  handed_goes (replies.Took kept) =
      let told = ids_granted kept in
      book_goes book (handed_over told book) lawful (λ id before now found after. handed_follows book lawful id before now found told after)
      (λ id now none after. absurd (none_is_some (book_row (handed_over told book) id) now (found_map (handed_row told) (λ row. refl) id book.rows ∙ ap (option_map (handed_row told)) none) after))
  handed_goes _ = book_stays book

  beaten_goes : (name : List ℕ) (running launched : List ContainerId) → BookFollowsTable book (beaten_book name running launched book)
  beaten_goes name running launched =
      book_goes book (beaten_book name running launched book) lawful (λ id before now found after. beaten_follows book lawful id before now found name running launched after)
      (λ id now none after. absurd (none_is_some (book_row (beaten_book name running launched book) id) now
      (ap (λ (b : BookOf). book_row b id) (book_at_once name running launched book lawful.apart)
      ∙ found_map (beaten_at_once name running launched) (λ row. refl) id book.rows ∙ ap (option_map (beaten_at_once name running launched)) none) after))

-- EVENTS, OPERATIONS AND MESSAGES

-- the main queue changes no container
pub main_containers : (t : Tables) (done : Entry × Tables) → Outcome t done → BookFollowsTable t.book (main_worked done).1.book
main_containers t done idles = book_stays t.book
main_containers t done _ = book_stays t.book

pub main_event_containers : (t : Tables) (e : MainEvent) (rest : List MainEvent) → t.main ≡ e ∷ rest → BookFollowsTable t.book (main_worked (main_step e t)).1.book
main_event_containers t mains.EpochStart rest front = book_stays t.book
main_event_containers t e rest front = main_containers t (main_step e t) (main_outcome t e rest front (λ x. cc))

-- an operation that is kept changes no container
pub kept_containers : (t : Tables) (op : Op) → BookFollowsTable t.book (kept op t).book
kept_containers t (ops.Epoch next stamp) = book_stays t.book
kept_containers t _ = book_stays t.book

module _ (t : Tables) (lawful : IsBook t.book) where
  still : BookFollowsTable t.book t.book
  still = book_stays t.book

  -- the scheduler's queue
  pub sched_containers : (e : SchedEvent) (list : List ContainerId) → BookFollowsTable t.book (sched_worked (sched_step e list t)).1.book
  sched_containers e list = by (sched_step e list t).1.book (sched_shape t list e).book
    where
      by : (next : BookOf) → BookAfter t.book next → BookFollowsTable t.book next
      by next BookAfter.same = still
      by next (BookAfter.left_so ids) = left_goes t.book lawful ids
      by next (BookAfter.absorbed_so name capability taken ids) = taken_goes t.book lawful name capability taken ids
      by next (BookAfter.granted_so grants) = granted_goes t.book lawful grants

  -- MESSAGES

  -- a master is answered as the tables tell
  abbrev IsToldSo : Message → Reply → Type 0
  IsToldSo (messages.Master attempt ask) reply = reply ≡ master_told t attempt ask
  IsToldSo _ reply = Unit {0}

  -- a new allocation tells of what was granted and nobody was told of yet, and of that somebody may be told
  told_granted : (attempt : AttemptId) (id next : ℕ) (some : List Ask) (grants : List Grant) (ended : List Closing) (o : Option AppRow)
      → replies.Allocated next grants ended ≡ allocate_told t attempt id some o → is_new_to id (spoken_in o) ≡ true → (told : ℕ) × (grants ≡ grants_told t attempt told)
  told_granted attempt id next some grants ended None is new = cc
  told_granted attempt id next some grants ended (Some row) is new = by row.dialogue is new
    where
      by_size : (told : ℕ) (a b : Bool) → replies.Allocated next grants ended ≡ (if a then replies.TooLarge else (if b then replies.Full else allocated_told t attempt id told row)) → (told : ℕ) × (grants ≡ grants_told t attempt told)
      by_size told true b is = cc
      by_size told false true is = cc
      by_size told false false is = (told, cc)

      by_id : (one : Dialogue) (a b c : Bool) → (id == one.last_id) ≡ true → (id + 1 == one.last_id) ≡ b → (id == one.last_id) ≡ c
          → replies.Allocated next grants ended ≡ (if a then replies.Resync else (if b then one.last_reply else (if not c then replies.WrongId else new_told t attempt id one.told some row))) → (told : ℕ) × (grants ≡ grants_told t attempt told)
      by_id one true b c new f g is = cc
      by_id one false true c new f g is = absurd (grind (arith, nat_tests))
      by_id one false false true new f g is = by_size one.told (asks_too_much t.settings.greatest some) (asks_too_many t.asks attempt some) is
      by_id one false false false new f g is = let x : true ≡ false = sym new ∙ g in cc

      by : (d : Option Dialogue) → replies.Allocated next grants ended ≡ spoken_told t attempt id some row d → is_new_to id d ≡ true → (told : ℕ) × (grants ≡ grants_told t attempt told)
      by None is new = cc
      by (Some one) is new = by_id one (is_some one.finishing) (id + 1 == one.last_id) (id == one.last_id) new refl refl is

  -- a message, where an allocation is answered so
  message_containers : (message : Message) (reply : Reply) → IsToldSo message reply → BookFollowsTable t.book (after_message message reply t).book
  message_containers message reply is = by message reply (after_message message reply t) is (message_outcome t message reply)
    where
      allocated : (attempt : AttemptId) (id : ℕ) (some : List Ask) (reply : Reply) → serves_allocation reply ≡ true → reply ≡ allocate_told t attempt id some (living_row attempt (row_of_app t.rows attempt.app)) → is_new_to id (spoken_by attempt (row_of_app t.rows attempt.app)) ≡ true
          → BookFollowsTable t.book (acquired (containers_told attempt reply) t.book)
      allocated attempt id some (replies.Allocated told grants ended) so is new =
          let told_so = told_granted attempt id told some grants ended (living_row attempt (row_of_app t.rows attempt.app)) is new in
          acquired_goes t.book lawful (own_grants attempt grants) (subst (λ (list : List Grant). AllMayBeTold t.book.rows (own_grants attempt list)) (sym told_so.1) (own_told t attempt told_so.0 t.book.rows lawful.apart))
      allocated attempt id some _ so is new = cc

      by : (message : Message) (reply : Reply) (next : Tables) → IsToldSo message reply → MessageOutcome t message reply next → BookFollowsTable t.book next.book
      by message reply next is (comes.registers attempt answer so) = handed_goes t.book lawful answer
      by message reply next is (comes.allocates attempt id some release answer so new) = allocated attempt id some answer so is new
      by message reply next is (comes.beats name id running done answer so new) = beaten_goes t.book lawful name (reported running) (launched_by answer)
      by message reply next is _ = still

  pub client_containers : (ask : ClientAsk) (reply : Reply) → BookFollowsTable t.book (after_client ask reply t).book
  client_containers ask reply = message_containers (messages.Client [] ask) reply tt

  pub master_containers : (attempt : AttemptId) (ask : MasterAsk) (reply : Reply) → reply ≡ master_told t attempt ask → BookFollowsTable t.book (after_master attempt ask reply t).book
  master_containers attempt ask reply is = message_containers (messages.Master attempt ask) reply is

  pub node_containers : (name : List ℕ) (ask : NodeAsk) (reply : Reply) → BookFollowsTable t.book (after_node name ask reply t).book
  node_containers name ask reply = message_containers (messages.Node name ask) reply tt

  pub clock_containers : (ask : ClockAsk) (reply : Reply) → BookFollowsTable t.book (after_clock ask reply t).book
  clock_containers ask reply = message_containers (messages.Clock ask) reply tt

-- a master is answered as the judge does
pub served_containers : (h : History) (t : Tables) → LifeInvariant h t → IsBook t.book → (attempt : AttemptId) (ask : MasterAsk) (reply : Reply)
    → ((m : Scene) → RefinesLife m t → reply ≡ master_reply t.settings m attempt ask) → BookFollowsTable t.book (after_master attempt ask reply t).book
served_containers h t r lawful attempt ask reply answers =
    let m = abstract_scene h t in
    let shows : RefinesLife m t = life_shown h t r in
    master_containers t lawful attempt ask reply (answers m shows ∙ sym (master_answer m t attempt ask shows))
