-- After each message of a master the tables show the judge's scene again, in which the life is the one after that message.
use Rattle.rm_master.proofs.Common.{◌≡◌, ℕ, ◌+◌, List, [], ◌∷◌, ◌++◌, Bool, true, false, not, ◌&&◌, ◌||◌, Option, None, Some, is_some, is_none, filter, map, refl, sym, ◌∙◌, ap, subst, arith, if◌then◌else◌, option_map, ◌==◌, list_any, eqb-true, false≢true, nat_tests, Ask, BookRow, Acquired, Grant, AttemptId, ContainerId, MasterAsk, Register, Finish, Allocate, Reply, Resync, TooLarge, Full, Allocated, is_attempt, MasterState, Row, Scene, is_live, is_registered, master_of, untold_rows, with_asks, is_alive, Dialogue, Tables, row_of, SameRows, bare_dialogue, plain_dialogue, RefinesLife, lives_by}
use Rattle.rm_types.specs.declared.replies.Reply.TheVariants.{MasterRegistered, Took, Already, Gone, NotRegistered, Finishing, Finished}
use Rattle.rm_types.specs.declared.settings.Settings.{Settings}
use Rattle.rm_types.specs.Ids.{is_app, is_container}
use Rattle.rm_types.specs.Records.{Records}
use Rattle.rm_types.specs.Resources.{fits}
use Rattle.rm_states.specs.declared.attempt.states.AttemptState.TheVariants as attempts
use Rattle.rm_book.proofs.Lists.{map_view}
use Rattle.rm_book.specs.Books.{TellUpTo}
use Rattle.std.proofs.lemmas.List.Folds.{list_any-append}
use Rattle.rm_model.specs.Attempts.{is_finishing, is_last, is_masters}
use Rattle.rm_model.specs.Containers.{is_at_disposal, is_earlier, is_missing, missing_released, released_by}
use Rattle.rm_model.specs.Facts.{has_container, keeps, kept_end, kept_record}
use Rattle.rm_model.specs.State.{Release}
use Rattle.rm_model.specs.MasterReplies.{allocate_reply, allocated_reply, allocates, earlier_rows, finish_reply, finished_issued, grant_of, has_too_many as too_many_told, is_late, is_new_grant, is_new_to_master, late_rows, life_after_master, master_reply, new_grants, outbox_of, register_reply, registers, row_allocated, row_kept}
use Rattle.rm_states.specs.declared.attempt.states.AttemptState.{AttemptState}
use Rattle.rm_states.specs.declared.attempt.states.AttemptEvent.{AttemptEvent}
use Rattle.rm_states.specs.declared.attempt.states.AttemptEvent.TheVariants as attempt_events
use Rattle.rm_states.specs.attempt.Table.{next_attempt_state as next_attempt_state}
use Rattle.rm_tables.specs.Talks.{dialogue_begun, registered_row, said_row, told_row, with_answer, with_text, without_closings}
use Rattle.rm_refinement.specs.Agreement.{PlainDialogue, PlainRow, bare_row, plain_row}
use Rattle.rm_refinement.specs.Agreement.{SameNodes}
use Rattle.rm_refinement.specs.Services.{AgreesAround, LateAgrees, LateSince}
use Rattle.rm_refinement.proofs.Late.{numbers_kept, still_each}
use Rattle.rm_refinement.proofs.Missing.{missing_same}
use Rattle.rm_tables.specs.declared.rows.AppRow.{AppRow}
use Rattle.rm_tables.specs.declared.rows.Current.{Current}
use Rattle.rm_tables.specs.ContainerSets.{with_containers}
use Rattle.rm_tables.specs.LateRows.{is_late_row}
use Rattle.rm_tables.specs.Leaving.{is_masters_in}
use Rattle.rm_tables.specs.Missing.{astray_released, is_astray_in, is_at_disposal_in}
use Rattle.rm_tables.proofs.ContainerSets.{among_joined}
use Rattle.rm_master.specs.Answers.{acquired, acquired_row, after_master, allocated_with, containers_told, handed_by, handed_row, ids_granted, is_new_to, own_grants, registered, said}
use Rattle.rm_master.specs.Told.{goes_on, spoken_by}
use Rattle.rm_master.proofs.Again.{again}
use Rattle.rm_master.proofs.Allocations.{closings_alike}
use Rattle.rm_master.proofs.Asked.{many_same}
use Rattle.rm_master.proofs.Around.{AreOf, Covered, covered_all, firsts_again, late_again, late_apart, none_late, picked_of, told_now}
use Rattle.rm_master.proofs.Granted.{left_same, masters_alike, other_left, rows_handed}
use Rattle.rm_master.proofs.Masters.{other_changed, other_joined, own_changed, own_joined}
use Rattle.rm_master.proofs.Replies.{Lives, lives_here, none_lives, row_lives, same_some}

-- the scene after a message of a master
abbrev pub told_scene : Scene → AttemptId → MasterAsk → Reply → Scene
told_scene m attempt ask reply = record m { life = life_after_master m attempt ask reply }

-- what the tables are to show after a message
abbrev pub ShowsAfter : Scene → Tables → AttemptId → MasterAsk → Reply → Type 0
ShowsAfter m t attempt ask reply = RefinesLife (told_scene m attempt ask reply) (after_master attempt ask reply t)

-- by a reply that is another one
shows_by : (m : Scene) (t : Tables) (attempt : AttemptId) (ask : MasterAsk) (reply other : Reply) → reply ≡ other → ShowsAfter m t attempt ask other → ShowsAfter m t attempt ask reply
shows_by m t attempt ask reply other is shows = subst (λ (one : Reply). ShowsAfter m t attempt ask one) (sym is) shows

-- a dialogue that changes is there where it was
still_there : (g : Dialogue → Dialogue) (d : Option Dialogue) → is_some d ≡ is_some (option_map g d)
still_there g None = refl
still_there g (Some one) = refl

-- an event that isn't its end leaves an attempt alive
abbrev is_end : AttemptEvent → Bool
is_end attempt_events.End = true
is_end _ = false

alive_still : (event : AttemptEvent) → is_end event ≡ false → (s : AttemptState) → is_alive s ≡ true → is_alive (next_attempt_state s event) ≡ true
alive_still event goes s e = grind arith

-- REGISTRATIONS

none_told : (d : Option Dialogue) (o : Option MasterState) → option_map bare_dialogue d ≡ option_map plain_dialogue o → is_some d ≡ false → o ≡ None
none_told None None e gone = refl
none_told None (Some one) e gone = cc
none_told (Some one) o e gone = cc

-- what was told isn't late any more
gone_told : (k e u h n : Bool) → ((e && n) ≡ true → h ≡ true) → (k && (e && ((u && not h) && n))) ≡ false
gone_told false e u h n told = refl
gone_told true false u h n told = refl
gone_told true true false h n told = refl
gone_told true true true true n told = refl
gone_told true true true false false told = refl
gone_told true true true false true told = let h = told refl in cc

gone_late : (k e u h n : Bool) → ((k && (e && (u && n))) ≡ true → h ≡ true) → (k && (e && ((u && not h) && n))) ≡ false
gone_late false e u h n told = refl
gone_late true false u h n told = refl
gone_late true true false h n told = refl
gone_late true true true true n told = refl
gone_late true true true false false told = refl
gone_late true true true false true told = let h = told refl in cc

first_of : (a b : Bool) → (a && b) ≡ true → a ≡ true
first_of true b e = refl
first_of false b e = cc

second_of : (a b : Bool) → (a && b) ≡ true → b ≡ true
second_of true b e = e
second_of false b e = cc

-- the containers of grants, by the rows that they were made of
ids_so : (rows : List Row) → ids_granted (map grant_of rows) ≡ map (λ (one : Row). one.id) rows
ids_so [] = refl
ids_so (row ∷ rows) = ap (λ (more : List ContainerId). row.id ∷ more) (ids_so rows)

none_at_all : (k : Bool) (p : Row → Bool) → k ≡ false → (book : List Row) → map (λ one. k && p one) book ≡ map (λ one. false) book
none_at_all k p e [] = refl
none_at_all k p e (one ∷ book) =
    let first : (k && p one) ≡ false = rw e refl in
    rw first (ap (λ (more : List Bool). false ∷ more) (none_at_all k p e book))

module _ (m : Scene) (t : Tables) (attempt : AttemptId) (shows : RefinesLife m t) where
  abbrev new_master : Reply → MasterState
  new_master reply = record { attempt = attempt; last_id = 0; last_reply = reply; finishing = None }

  abbrev begun_row : Reply → AppRow → AppRow
  begun_row reply = registered_row (dialogue_begun reply t.book.added)

  abbrev joined_scene : Reply → List Row → Scene
  joined_scene reply living = record m { life = record (registers m attempt reply) { book = living } }

  abbrev begun : Lives m t attempt → Current
  begun here = record here.current { state = next_attempt_state here.current.state attempt_events.Register; registered = true }

  joins : (reply : Reply) (here : Lives m t attempt) → master_of m attempt ≡ None → (living : List Row) → SameRows (handed_by reply t.book).rows living → SameNodes (handed_by reply t.book) t.nodes m.life.nodes
      → AgreesAround (joined_scene reply living) (registered attempt reply t) → RefinesLife (joined_scene reply living) (registered attempt reply t)
  joins reply here none living rows nodes around =
      again m t attempt shows here (begun_row reply) (begun here) (rw here.is refl) refl refl (alive_still attempt_events.Register refl here.current.state here.alive)
      (m.life.masters.registered ++ new_master reply ∷ []) (rw (own_joined (new_master reply) m.life.masters.registered none) refl) refl
      (λ q apart. other_joined (new_master reply) q m.life.masters.registered apart)
      m.life.endings.outbox (closings_alike m t attempt here.row here.found shows) (λ q apart. refl)
      t.asks (handed_by reply t.book) t.sched t.main t.pending m.life.asks living m.life.endings rows nodes shows.asks refl around

  abbrev handed : List Grant
  handed = map grant_of (earlier_rows m attempt)

  abbrev handed_ids : List ContainerId
  handed_ids = ids_granted handed

  abbrev is_left : Row → Bool
  is_left one = is_earlier one.id.attempt attempt && not (is_masters m one.id)

  took_around : (here : Lives m t attempt) → AgreesAround (joined_scene (Took handed) (map (row_kept handed_ids) m.life.book)) (registered attempt (Took handed) t)
  took_around here =
      record {
        firsts = λ q goes. firsts_again m t attempt shows here (begun_row (Took handed)) (begun here) (rw here.is refl) refl (λ row. refl) q ∙ shows.around.firsts q goes;
        departed = shows.around.departed;
        pending = shows.around.pending;
        numbers = numbers;
        late = λ recovers.
            late_again m t attempt shows here (begun_row (Took handed)) (begun here) (rw here.is refl) refl (joined_scene (Took handed) (map (row_kept handed_ids) m.life.book)) (registered attempt (Took handed) t) recovers
            (λ q told apart late.
            still_each (is_late_row t q told) (handed_row handed_ids) (λ row. refl) t.book.rows ∙ late
            ∙ sym (still_each (is_late m q) (row_kept handed_ids) (λ one. late_apart m q attempt.app handed_ids of_app apart one) m.life.book))
            (told_now m t attempt t.book.added (map (handed_row handed_ids) t.book.rows) (map (row_kept handed_ids) m.life.book) (numbers recovers) (rows_handed handed_ids t.book.rows m.life.book shows.rows) none);
      }
    where
      numbers : t.settings.recover_ended_containers ≡ true → TellUpTo 0 t.book.added (map (handed_row handed_ids) t.book.rows)
      numbers recovers = numbers_kept (handed_row handed_ids) (λ row. refl) 0 t.book.added t.book.rows (shows.around.numbers recovers)

      of_app : AreOf attempt.app handed_ids
      of_app =
          subst (AreOf attempt.app) (sym (ids_so (earlier_rows m attempt)))
          (picked_of attempt.app is_left (λ one left. first_of (is_app one.id.attempt.app attempt.app) _ (first_of (is_earlier one.id.attempt attempt) _ left)) m.life.book)

      none : map (is_late m attempt) (map (row_kept handed_ids) m.life.book) ≡ map (λ one. false) (map (row_kept handed_ids) m.life.book)
      none =
          none_late m attempt is_left handed_ids (row_kept handed_ids)
          (λ one told. gone_told (keeps (kept_record m attempt.app)) (is_earlier one.id.attempt attempt) one.untold (has_container handed_ids one.id) (not (is_masters m one.id)) told) m.life.book
          (subst (λ (ids : List ContainerId). Covered is_left ids m.life.book) (sym (ids_so (earlier_rows m attempt))) (covered_all is_left m.life.book))

  alone_around : (here : Lives m t attempt) → keeps (kept_record m attempt.app) ≡ false → AgreesAround (joined_scene MasterRegistered m.life.book) (registered attempt MasterRegistered t)
  alone_around here never =
      record {
        firsts = λ q goes. firsts_again m t attempt shows here (begun_row MasterRegistered) (begun here) (rw here.is refl) refl (λ row. refl) q ∙ shows.around.firsts q goes;
        departed = shows.around.departed;
        pending = shows.around.pending;
        numbers = shows.around.numbers;
        late = λ recovers.
            late_again m t attempt shows here (begun_row MasterRegistered) (begun here) (rw here.is refl) refl (joined_scene MasterRegistered m.life.book) (registered attempt MasterRegistered t) recovers
            (λ q told apart late. late)
            (told_now m t attempt t.book.added t.book.rows m.life.book (shows.around.numbers recovers) shows.rows
            (none_at_all (keeps (kept_record m attempt.app)) (λ one. is_earlier one.id.attempt attempt && (one.untold && not (is_masters m one.id))) never m.life.book));
      }

  joins_by : (reply : Reply) (here : Lives m t attempt) → master_of m attempt ≡ None → (k : Bool) → keeps (kept_record m attempt.app) ≡ k → reply ≡ (if k then Took handed else MasterRegistered) → ShowsAfter m t attempt Register reply
  joins_by reply here none true keep e =
      shows_by m t attempt Register reply (Took handed) e
      (joins (Took handed) here none (map (row_kept handed_ids) m.life.book) (rows_handed handed_ids t.book.rows m.life.book shows.rows) shows.nodes (took_around here))
  joins_by reply here none false keep e =
      shows_by m t attempt Register reply MasterRegistered e (joins MasterRegistered here none m.life.book shows.rows shows.nodes (alone_around here keep))

  register_by : (reply : Reply) → reply ≡ register_reply m attempt → (b : Bool) → lives_by attempt (row_of t.rows attempt.app) ≡ b → ShowsAfter m t attempt Register reply
  register_by reply is false lives =
      let live : is_live m attempt ≡ false = shows.live attempt ∙ lives in
      shows_by m t attempt Register reply Gone (rw live at is) shows
  register_by reply is true lives =
      let live : is_live m attempt ≡ true = shows.live attempt ∙ lives in
      let here : Lives m t attempt = lives_here m t attempt shows lives in
      by_talk here (is_some here.row.dialogue) refl (same_some here.row.dialogue (master_of m attempt) here.agrees.0) live
    where
      by_talk : (here : Lives m t attempt) (d : Bool) → is_some here.row.dialogue ≡ d → is_some here.row.dialogue ≡ is_some (master_of m attempt) → is_live m attempt ≡ true → ShowsAfter m t attempt Register reply
      by_talk here true e same live =
          let has : is_some (master_of m attempt) ≡ true = sym same ∙ e in
          shows_by m t attempt Register reply Already (rw (live, has) at is) shows
      by_talk here false e same live =
          let has : is_some (master_of m attempt) ≡ false = sym same ∙ e in
          joins_by reply here (none_told here.row.dialogue (master_of m attempt) here.agrees.0 e) (keeps (kept_record m attempt.app)) refl (rw (live, has) at is)

  -- a master registered
  pub register_same : (reply : Reply) → reply ≡ register_reply m attempt → ShowsAfter m t attempt Register reply
  register_same reply is = register_by reply is (lives_by attempt (row_of t.rows attempt.app)) refl

-- MASTERS THAT FINISH

-- a change of the dialogue and of the master that both see alike
both_change : (g : Dialogue → Dialogue) (h : MasterState → MasterState) (k : PlainDialogue → PlainDialogue) → ((one : Dialogue) → bare_dialogue (g one) ≡ k (bare_dialogue one))
    → ((one : MasterState) → plain_dialogue (h one) ≡ k (plain_dialogue one)) → (d : Option Dialogue) (o : Option MasterState) → option_map bare_dialogue d ≡ option_map plain_dialogue o
    → option_map bare_dialogue (option_map g d) ≡ option_map plain_dialogue (option_map h o)
both_change g h k in_row told None None e = refl
both_change g h k in_row told None (Some one) e = cc
both_change g h k in_row told (Some one) None e = cc
both_change g h k in_row told (Some one) (Some other) e =
    let same : bare_dialogue one ≡ plain_dialogue other = cc in
    ap Some (in_row one ∙ ap k same ∙ sym (told other))

-- a master goes on in the dialogue where it is registered by the judge
pub goes_alike : (m : Scene) (attempt : AttemptId) → is_live m attempt ≡ true → (d : Option Dialogue) (o : Option MasterState) → option_map bare_dialogue d ≡ option_map plain_dialogue o → master_of m attempt ≡ o
    → goes_on d ≡ is_registered m attempt
goes_alike m attempt live None None e is = rw (live, is) refl
goes_alike m attempt live None (Some one) e is = cc
goes_alike m attempt live (Some one) None e is = cc
goes_alike m attempt live (Some one) (Some other) e is =
    let same : bare_dialogue one ≡ plain_dialogue other = cc in
    let text : one.finishing ≡ other.finishing = ap (λ (x : PlainDialogue). x.finishing) same in
    rw (live, is, text) (by other.finishing)
  where
    by : (f : Option (List ℕ)) → not (is_some f) ≡ is_none f
    by None = refl
    by (Some text) = refl

module _ (m : Scene) (t : Tables) (attempt : AttemptId) (text : List ℕ) (shows : RefinesLife m t) where
  abbrev with_said : MasterState → MasterState
  with_said one = record one { finishing = Some text }

  abbrev said_scene : Scene
  said_scene = record m { life = record m.life { masters = record m.life.masters { registered = map (λ one. if is_attempt one.attempt attempt then with_said one else one) m.life.masters.registered } } }

  said_since : (d : Option Dialogue) → LateSince m t attempt d → LateSince said_scene (said attempt text t) attempt (with_text text d)
  said_since None late = tt
  said_since (Some one) late = late

  said_around : Lives m t attempt → AgreesAround said_scene (said attempt text t)
  said_around here =
      record {
        firsts = λ q goes. firsts_again m t attempt shows here (said_row (with_text text)) (record here.current { state = next_attempt_state here.current.state attempt_events.Finish }) (rw here.is refl) refl (λ row. refl) q ∙ shows.around.firsts q goes;
        departed = shows.around.departed;
        pending = shows.around.pending;
        numbers = shows.around.numbers;
        late = λ recovers.
            late_again m t attempt shows here (said_row (with_text text)) (record here.current { state = next_attempt_state here.current.state attempt_events.Finish }) (rw here.is refl) refl said_scene (said attempt text t) recovers (λ q told apart late. late)
            (said_since here.row.dialogue (here_late (found_late recovers)));
      }
    where
      found_late : t.settings.recover_ended_containers ≡ true → LateAgrees m t attempt (Some here.row)
      found_late recovers = subst (LateAgrees m t attempt) here.found (shows.around.late recovers attempt)

      here_late : LateAgrees m t attempt (Some here.row) → LateSince m t attempt here.row.dialogue
      here_late late = late (rw (here.is, here.number, here.alive) refl)

  says : (here : Lives m t attempt) → RefinesLife (record m { life = record m.life { masters = record m.life.masters { registered = map (λ one. if is_attempt one.attempt attempt then with_said one else one) m.life.masters.registered } } }) (said attempt text t)
  says here =
      again m t attempt shows here (said_row (with_text text)) (record here.current { state = next_attempt_state here.current.state attempt_events.Finish }) (rw here.is refl) refl refl (alive_still attempt_events.Finish refl here.current.state here.alive)
      (map (λ one. if is_attempt one.attempt attempt then with_said one else one) m.life.masters.registered)
      (both_change (λ one. record one { finishing = Some text }) with_said (λ one. record one { finishing = Some text }) (λ one. refl) (λ one. refl) here.row.dialogue (master_of m attempt) here.agrees.0
      ∙ sym (ap (option_map plain_dialogue) (own_changed with_said (λ one. refl) attempt m.life.masters.registered)))
      (here.agrees.1 ∙ still_there (λ one. record one { finishing = Some text }) here.row.dialogue)
      (λ q apart. other_changed with_said (λ one. refl) attempt q apart m.life.masters.registered)
      m.life.endings.outbox (closings_alike m t attempt here.row here.found shows) (λ q apart. refl)
      t.asks t.book t.sched _ t.pending m.life.asks m.life.book m.life.endings shows.rows shows.nodes shows.asks refl (said_around here)

  finishes_by_life : (b : Bool) → lives_by attempt (row_of t.rows attempt.app) ≡ b → ShowsAfter m t attempt (Finish text) Finishing
  finishes_by_life false lives =
      let live : is_live m attempt ≡ false = shows.live attempt ∙ lives in
      rw (none_lives attempt (row_of t.rows attempt.app) lives, live) shows
  finishes_by_life true lives =
      let live : is_live m attempt ≡ true = shows.live attempt ∙ lives in
      let here : Lives m t attempt = lives_here m t attempt shows lives in
      let row : spoken_by attempt (row_of t.rows attempt.app) ≡ here.row.dialogue = rw (row_lives attempt (row_of t.rows attempt.app) here.row here.found lives) refl in
      by here (is_registered m attempt) refl (ap goes_on row ∙ goes_alike m attempt live here.row.dialogue (master_of m attempt) here.agrees.0 refl)
    where
      by : (here : Lives m t attempt) (b : Bool) → is_registered m attempt ≡ b → goes_on (spoken_by attempt (row_of t.rows attempt.app)) ≡ is_registered m attempt → ShowsAfter m t attempt (Finish text) Finishing
      by here true e same = let goes = same ∙ e in rw (goes, e) (says here)
      by here false e same = let goes = same ∙ e in rw (goes, e) shows

  -- a master that finishes was answered
  pub finish_same : (reply : Reply) → reply ≡ finish_reply m attempt → ShowsAfter m t attempt (Finish text) reply
  finish_same reply is = by (is_some (kept_end m attempt.app) && is_last m attempt) (is_finishing m attempt || finished_issued m attempt || is_registered m attempt) is
    where
      by : (a b : Bool) → reply ≡ (if a then Finished else (if b then Finishing else NotRegistered)) → ShowsAfter m t attempt (Finish text) reply
      by true b e = shows_by m t attempt (Finish text) reply Finished e shows
      by false true e = shows_by m t attempt (Finish text) reply Finishing e (finishes_by_life (lives_by attempt (row_of t.rows attempt.app)) refl)
      by false false e = shows_by m t attempt (Finish text) reply NotRegistered e shows

-- ALLOCATIONS

-- the same rows, of which a master was told
rows_told_same : (told late released : List ContainerId) (rows : List BookRow) (book : List Row) → SameRows rows book → SameRows (map (acquired_row told) rows) (map (row_allocated told late released) book)
rows_told_same told late released rows book same =
    map_view bare_row (acquired_row told) change (λ row. refl) rows ∙ ap (map change) same ∙ sym (map_view plain_row (row_allocated told late released) change (λ row. refl) book)
  where
    change : PlainRow → PlainRow
    change row = record row { state = if has_container told row.id then Acquired else row.state }

-- the dialogue with a master that was answered under the next id
answered_same : (id : ℕ) (reply : Reply) (added : ℕ) (d : Option Dialogue) (one : Dialogue) (o : Option MasterState) (master : MasterState) → d ≡ Some one → o ≡ Some master → bare_dialogue one ≡ plain_dialogue master → id ≡ master.last_id
    → option_map bare_dialogue (with_answer (id + 1) reply added d) ≡ option_map plain_dialogue (option_map (λ (x : MasterState). record x { last_id = x.last_id + 1; last_reply = reply }) o)
answered_same id reply added None one o master in_row told same last = cc
answered_same id reply added (Some other) one None master in_row told same last = cc
answered_same id reply added (Some other) one (Some third) master in_row told same last =
    let first : other ≡ one = cc in
    let second : third ≡ master = cc in
    let text : other.finishing ≡ third.finishing = ap (λ (x : Dialogue). x.finishing) first ∙ ap (λ (x : PlainDialogue). x.finishing) same ∙ sym (ap (λ (x : MasterState). x.finishing) second) in
    let next : id + 1 ≡ third.last_id + 1 = ap (λ (n : ℕ). n + 1) last ∙ sym (ap (λ (x : MasterState). x.last_id + 1) second) in
    rw (text, next) refl

-- an allocation that isn't new changes nothing
old_allocation : (m : Scene) (t : Tables) (attempt : AttemptId) (id : ℕ) (asks : List Ask) (release : List ContainerId) (reply : Reply) → RefinesLife m t → is_new_to id (spoken_by attempt (row_of t.rows attempt.app)) ≡ false
    → is_new_to_master m attempt id ≡ false → ShowsAfter m t attempt (Allocate id asks release) reply
old_allocation m t attempt id asks release (Allocated next grants ended) shows in_row told = rw (in_row, told) shows
old_allocation m t attempt id asks release _ shows in_row told = shows

-- a master is to be told of a row
abbrev judged_told : Settings → Scene → AttemptId → Row → Bool
judged_told settings m attempt row = (settings.recover_ended_containers && is_late m attempt row) || is_new_grant m attempt row

-- the attempt's own among what is told are those that were granted to it
own_judged : (settings : Settings) (m : Scene) (attempt : AttemptId) (book : List Row)
    → ids_granted (own_grants attempt (map grant_of (filter (judged_told settings m attempt) book))) ≡ map (λ one. one.id) (filter (is_new_grant m attempt) book)
own_judged settings m attempt [] = refl
own_judged settings m attempt (one ∷ book) = by (is_attempt one.id.attempt attempt) refl (own_judged settings m attempt book)
  where
    not_earlier : is_attempt one.id.attempt attempt ≡ true → is_earlier one.id.attempt attempt ≡ false
    not_earlier e = grind (arith, nat_tests)

    nothing : (a b : Bool) → (a && (b && false)) ≡ false
    nothing true true = refl
    nothing true false = refl
    nothing false b = refl

    late_none : is_attempt one.id.attempt attempt ≡ true → (settings.recover_ended_containers && is_late m attempt one) ≡ false
    late_none e = let none = not_earlier e in rw none (nothing settings.recover_ended_containers (keeps (kept_record m attempt.app)))

    own : is_attempt one.id.attempt attempt ≡ true → (settings.recover_ended_containers && is_late m attempt one) ≡ false → (b : Bool) → is_new_grant m attempt one ≡ b
        → ids_granted (own_grants attempt (map grant_of (filter (judged_told settings m attempt) book))) ≡ map (λ x. x.id) (filter (is_new_grant m attempt) book)
        → ids_granted (own_grants attempt (map grant_of (filter (judged_told settings m attempt) (one ∷ book)))) ≡ map (λ x. x.id) (filter (is_new_grant m attempt) (one ∷ book))
    own e late true f rest = rw (late, f, e) (ap (λ (more : List ContainerId). one.id ∷ more) rest)
    own e late false f rest = rw (late, f) rest

    other : is_attempt one.id.attempt attempt ≡ false → is_new_grant m attempt one ≡ false → (b : Bool) → judged_told settings m attempt one ≡ b
        → ids_granted (own_grants attempt (map grant_of (filter (judged_told settings m attempt) book))) ≡ map (λ x. x.id) (filter (is_new_grant m attempt) book)
        → ids_granted (own_grants attempt (map grant_of (filter (judged_told settings m attempt) (one ∷ book)))) ≡ map (λ x. x.id) (filter (is_new_grant m attempt) (one ∷ book))
    other e new true f rest = rw (f, new, e) rest
    other e new false f rest = rw (f, new) rest

    by : (b : Bool) → is_attempt one.id.attempt attempt ≡ b
        → ids_granted (own_grants attempt (map grant_of (filter (judged_told settings m attempt) book))) ≡ map (λ x. x.id) (filter (is_new_grant m attempt) book)
        → ids_granted (own_grants attempt (map grant_of (filter (judged_told settings m attempt) (one ∷ book)))) ≡ map (λ x. x.id) (filter (is_new_grant m attempt) (one ∷ book))
    by true e rest = own e (late_none e) (is_new_grant m attempt one) refl rest
    by false e rest = other e (rw e refl) (judged_told settings m attempt one) refl rest

filter_alike : (p q : ContainerId → Bool) → ((id : ContainerId) → p id ≡ q id) → (ids : List ContainerId) → filter p ids ≡ filter q ids
filter_alike p q same [] = refl
filter_alike p q same (id ∷ ids) = by (q id) refl (filter_alike p q same ids)
  where
    by : (b : Bool) → q id ≡ b → filter p ids ≡ filter q ids → filter p (id ∷ ids) ≡ filter q (id ∷ ids)
    by true e rest = let own = same id ∙ e in rw (own, e) (ap (λ (more : List ContainerId). id ∷ more) rest)
    by false e rest = let own = same id ∙ e in rw (own, e) rest

module _ (m : Scene) (t : Tables) (attempt : AttemptId) (id : ℕ) (asks : List Ask) (release : List ContainerId) (shows : RefinesLife m t) where
  abbrev ask : MasterAsk
  ask = Allocate id asks release

  abbrev grants : List Grant
  grants = map grant_of (untold_rows t.settings m attempt)

  -- the reply of one that is taken
  abbrev taken : Reply
  taken = Allocated (id + 1) grants (outbox_of m attempt)

  abbrev answers : MasterState → MasterState
  answers one = record one { last_id = one.last_id + 1; last_reply = taken }

  abbrev of_attempt : Release
  of_attempt = record { attempt = attempt; list = release }

  abbrev granted_ids : List ContainerId
  granted_ids = map (λ one. one.id) (new_grants m attempt)

  abbrev late_ids : List ContainerId
  late_ids = map (λ one. one.id) (late_rows m attempt)

  abbrev allocated_row : Row → Row
  allocated_row = row_allocated granted_ids late_ids (released_by m of_attempt)

  abbrev answered_row : AppRow → AppRow
  answered_row = told_row (with_answer (id + 1) taken t.book.added) (without_closings attempt)

  told_ids : containers_told attempt taken ≡ granted_ids
  told_ids = own_judged t.settings m attempt m.life.book

  same_rows : SameRows (map (acquired_row (containers_told attempt taken)) t.book.rows) (map allocated_row m.life.book)
  same_rows =
      subst (λ (told : List ContainerId). SameRows (map (acquired_row told) t.book.rows) (map allocated_row m.life.book)) (sym told_ids)
      (rows_told_same granted_ids late_ids (released_by m of_attempt) t.book.rows m.life.book shows.rows)

  missing_alike : t.settings.recover_ended_containers ≡ true → astray_released t attempt release ≡ missing_released m of_attempt
  missing_alike recovers = filter_alike _ _ each release
    where
      disposal : (one : ContainerId) → is_at_disposal_in t.tree.apps attempt one ≡ is_at_disposal m attempt one
      disposal one = ap (λ (r : Records). is_at_disposal_in r.apps attempt one) (sym shows.records)

      each : (one : ContainerId) → (is_astray_in t one && (is_at_disposal_in t.tree.apps attempt one && not (is_masters_in t.tree.apps one))) ≡ (is_missing m one && (is_at_disposal m attempt one && not (is_masters m one)))
      each one = rw (recovers, missing_same m t shows recovers one, disposal one, masters_alike m t attempt shows.records one) refl

  pended : t.settings.recover_ended_containers ≡ true → (one : ContainerId) → has_container (with_containers t.pending (astray_released t attempt release)) one ≡ has_container (m.life.endings.pending ++ missing_released m of_attempt) one
  pended recovers one =
      among_joined (astray_released t attempt release) t.pending one
      ∙ rw (shows.around.pending recovers one, missing_alike recovers) (sym (list_any-append (λ other. is_container other one) m.life.endings.pending (missing_released m of_attempt)))

  allocated_around : (here : Lives m t attempt) (one : Dialogue) → here.row.dialogue ≡ Some one → AgreesAround (record m { life = allocates m attempt asks release taken }) (allocated_with attempt id asks release taken t)
  allocated_around here one in_row =
      record {
        firsts = λ q goes. firsts_again m t attempt shows here answered_row here.current here.is refl (λ row. refl) q ∙ shows.around.firsts q goes;
        departed = shows.around.departed;
        pending = pended;
        numbers = numbers;
        late = λ recovers.
            late_again m t attempt shows here answered_row here.current here.is refl (record m { life = allocates m attempt asks release taken }) (allocated_with attempt id asks release taken t) recovers
            (λ q told apart late.
            still_each (is_late_row t q told) (acquired_row (containers_told attempt taken)) (λ row. refl) t.book.rows ∙ late
            ∙ sym (still_each (is_late m q) allocated_row (λ row. late_apart m q attempt.app late_ids of_app apart row) m.life.book))
            (rw in_row (told_now m t attempt t.book.added (map (acquired_row (containers_told attempt taken)) t.book.rows) (map allocated_row m.life.book) (numbers recovers) same_rows none));
      }
    where
      numbers : t.settings.recover_ended_containers ≡ true → TellUpTo 0 t.book.added (map (acquired_row (containers_told attempt taken)) t.book.rows)
      numbers recovers = numbers_kept (acquired_row (containers_told attempt taken)) (λ row. refl) 0 t.book.added t.book.rows (shows.around.numbers recovers)

      of_app : AreOf attempt.app late_ids
      of_app =
          picked_of attempt.app (is_late m attempt)
          (λ row late. first_of (is_app row.id.attempt.app attempt.app) _ (first_of (is_earlier row.id.attempt attempt) _ (second_of (keeps (kept_record m attempt.app)) _ late))) m.life.book

      none : map (is_late m attempt) (map allocated_row m.life.book) ≡ map (λ row. false) (map allocated_row m.life.book)
      none =
          none_late m attempt (is_late m attempt) late_ids allocated_row
          (λ row told. gone_late (keeps (kept_record m attempt.app)) (is_earlier row.id.attempt attempt) row.untold (has_container late_ids row.id) (not (is_masters m row.id)) told) m.life.book
          (covered_all (is_late m attempt) m.life.book)

  takes : (here : Lives m t attempt) (one : Dialogue) (master : MasterState) → here.row.dialogue ≡ Some one → master_of m attempt ≡ Some master → bare_dialogue one ≡ plain_dialogue master → id ≡ master.last_id
      → RefinesLife (record m { life = allocates m attempt asks release taken }) (allocated_with attempt id asks release taken t)
  takes here one master in_row told same last =
      again m t attempt shows here answered_row here.current here.is refl refl here.alive
      (map (λ x. if is_attempt x.attempt attempt then answers x else x) m.life.masters.registered)
      (answered_same id taken t.book.added here.row.dialogue one (master_of m attempt) master in_row told same last
      ∙ sym (ap (option_map plain_dialogue) (own_changed answers (λ x. refl) attempt m.life.masters.registered)))
      (here.agrees.1 ∙ still_there (λ x. record x { last_id = id + 1; last_reply = taken; told = t.book.added }) here.row.dialogue)
      (λ q apart. other_changed answers (λ x. refl) attempt q apart m.life.masters.registered)
      (without_closings attempt m.life.endings.outbox)
      (ap (without_closings attempt) (closings_alike m t attempt here.row here.found shows) ∙ sym (left_same attempt attempt.app m.life.endings.outbox))
      (λ q apart. left_same attempt q m.life.endings.outbox ∙ other_left attempt q m.life.endings.outbox apart)
      _ (acquired (containers_told attempt taken) t.book) _ t.main _ (with_asks attempt m.life.asks asks) _ _
      same_rows shows.nodes (many_same attempt asks t.asks m.life.asks shows.asks) refl (allocated_around here one in_row)

  -- an allocation in a dialogue
  said_by : (reply : Reply) (here : Lives m t attempt) (one : Dialogue) (master : MasterState) → here.row.dialogue ≡ Some one → master_of m attempt ≡ Some master → bare_dialogue one ≡ plain_dialogue master
      → is_live m attempt ≡ true → spoken_by attempt (row_of t.rows attempt.app) ≡ Some one → reply ≡ allocate_reply t.settings m attempt id asks (Some master) → ShowsAfter m t attempt ask reply
  said_by reply here one master in_row told same live spoken is = by_text master.finishing (rw (live, told) refl) (id == master.last_id) refl is
    where
      last : one.last_id ≡ master.last_id
      last = ap (λ (x : PlainDialogue). x.last_id) same

      new_told : is_new_to_master m attempt id ≡ (id == master.last_id)
      new_told = rw told refl

      new_in : is_new_to id (spoken_by attempt (row_of t.rows attempt.app)) ≡ (id == master.last_id)
      new_in = rw (spoken, last) refl

      not_again : id ≡ master.last_id → (id + 1 == master.last_id) ≡ false
      not_again e = grind (arith, nat_tests)

      by_size : (id == master.last_id) ≡ true → (a b : Bool)
          → reply ≡ (if a then TooLarge else (if b then Full else allocated_reply t.settings m attempt master.last_id)) → ShowsAfter m t attempt ask reply
      by_size new true b e = shows_by m t attempt ask reply TooLarge e shows
      by_size new false true e = shows_by m t attempt ask reply Full e shows
      by_size new false false e =
          let n : id ≡ master.last_id = eqb-true id master.last_id new in
          let told_so = new_told ∙ new in
          let in_so = new_in ∙ new in
          shows_by m t attempt ask reply taken (e ∙ ap (allocated_reply t.settings m attempt) (sym n)) (rw (told_so, in_so) (takes here one master in_row told same n))

      by_text : (f : Option (List ℕ)) → is_registered m attempt ≡ is_none f → (new : Bool) → (id == master.last_id) ≡ new → reply ≡ allocate_reply t.settings m attempt id asks (Some master) → ShowsAfter m t attempt ask reply
      by_text (Some text) registered new e is = shows_by m t attempt ask reply Resync (rw registered at is) shows
      by_text None registered false e is = old_allocation m t attempt id asks release reply shows (new_in ∙ e) (new_told ∙ e)
      by_text None registered true e is =
          let n : id ≡ master.last_id = eqb-true id master.last_id e in
          let first = not_again n in
          by_size e (list_any (λ one. not (fits one.size t.settings.greatest)) asks) (too_many_told attempt (with_asks attempt m.life.asks asks)) (rw (registered, first, e) at is)

  spoken_by_cases : (reply : Reply) (here : Lives m t attempt) → is_live m attempt ≡ true → spoken_by attempt (row_of t.rows attempt.app) ≡ here.row.dialogue → (d : Option Dialogue) (o : Option MasterState) → here.row.dialogue ≡ d
      → master_of m attempt ≡ o → option_map bare_dialogue d ≡ option_map plain_dialogue o → reply ≡ allocate_reply t.settings m attempt id asks o → ShowsAfter m t attempt ask reply
  spoken_by_cases reply here live spoken None None in_row told e is = shows_by m t attempt ask reply Resync is shows
  spoken_by_cases reply here live spoken None (Some master) in_row told e is = cc
  spoken_by_cases reply here live spoken (Some one) None in_row told e is = cc
  spoken_by_cases reply here live spoken (Some one) (Some master) in_row told e is =
      let same : bare_dialogue one ≡ plain_dialogue master = cc in
      said_by reply here one master in_row told same live (spoken ∙ in_row) is

  gone_by : (reply : Reply) (o : Option MasterState) → is_live m attempt ≡ false → reply ≡ allocate_reply t.settings m attempt id asks o → reply ≡ Resync
  gone_by reply None live is = is
  gone_by reply (Some master) live is = rw live at is

  allocate_by : (reply : Reply) → reply ≡ allocate_reply t.settings m attempt id asks (master_of m attempt) → (b : Bool) → lives_by attempt (row_of t.rows attempt.app) ≡ b → ShowsAfter m t attempt ask reply
  allocate_by reply is false lives = shows_by m t attempt ask reply Resync (gone_by reply (master_of m attempt) (shows.live attempt ∙ lives) is) shows
  allocate_by reply is true lives =
      let here : Lives m t attempt = lives_here m t attempt shows lives in
      spoken_by_cases reply here (shows.live attempt ∙ lives) (rw (row_lives attempt (row_of t.rows attempt.app) here.row here.found lives) refl) here.row.dialogue (master_of m attempt) refl refl here.agrees.0 is

  -- an allocation was answered
  pub allocate_same : (reply : Reply) → reply ≡ allocate_reply t.settings m attempt id asks (master_of m attempt) → ShowsAfter m t attempt ask reply
  allocate_same reply is = allocate_by reply is (lives_by attempt (row_of t.rows attempt.app)) refl

-- a master was answered
pub master_same : (m : Scene) (t : Tables) (attempt : AttemptId) (ask : MasterAsk) (reply : Reply) → RefinesLife m t → reply ≡ master_reply t.settings m attempt ask → ShowsAfter m t attempt ask reply
master_same m t attempt Register reply shows is = register_same m t attempt shows reply is
master_same m t attempt (Finish text) reply shows is = finish_same m t attempt text shows reply is
master_same m t attempt (Allocate id asks release) reply shows is = allocate_same m t attempt id asks release shows reply is
