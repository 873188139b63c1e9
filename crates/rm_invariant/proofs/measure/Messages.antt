-- A message of a client, of a master, of a node or of the clock adds little, whatever it is answered.
use Rattle.rm_invariant.proofs.Common.{◌≡◌, ℕ, ◌+◌, ◌≤◌, List, [], ◌∷◌, ◌++◌, Bool, true, false, Option, None, Some, length, refl, ◌∙◌, arith, if◌then◌else◌, length-map, sum_by-append, sum_by-cons, Ask, BookRow, ContainerState, Acquired, Running, Held, AttemptId, ContainerId, ClientAsk, ClockAsk, MasterAsk, NodeAsk, Reply, is_some_and, BookOf, is_of, reported, AppRow, Current, Dialogue, Tables, changed, current_after, dialogue_begun, registered_row, said_row, told_row, with_answer, with_text, without_closings, after_client, submitted_row, acquired, acquired_row, after_master, allocated_with, registered, release_events, said, after_clock, after_node, beat_events, beaten_book, is_row_on, is_untold_row, Message}
use Rattle.std.specs.List.{sum_by}
use Rattle.rm_book.specs.Books.{book_row as book_row_of, with_state}
use Rattle.rm_tables.specs.declared.changes.AttemptChange.TheVariants as of_attempt
use Rattle.rm_tables.specs.declared.changes.RowChange.TheVariants as of_app
use Rattle.rm_tables.specs.declared.events.MainEvent.TheVariants as mains
use Rattle.rm_tables.specs.declared.events.SchedEvent.TheVariants as scheds
use Rattle.rm_types.specs.declared.replies.Reply.TheVariants as replies
use Rattle.rm_master.specs.Answers.{containers_told, handed_by, handed_row, ids_granted}
use Rattle.rm_tracker.specs.Answers.{beaten_with, brought_all, brought_one, launched_by}
use Rattle.rm_types.specs.Limits.{most_listed}
use Rattle.rm_invariant.specs.messages.Ranges.{IsMessage, KeepsLimits}
use Rattle.rm_invariant.specs.measure.Measure.{app_measure, current_measure, message_measure, current_number, row_measure, sched_measure, measure}
use Rattle.rm_invariant.proofs.measure.Rows.{finish_weighs, row_most, wished_same}
use Rattle.rm_invariant.proofs.measure.Sums.{main_push, row_joins, row_rises, sched_push}
use Rattle.rm_types.specs.declared.messages.Message.TheVariants as messages
use Rattle.rm_invariant.specs.messages.Outcomes.{MessageOutcome, after_message}
use Rattle.rm_invariant.specs.messages.Outcomes as comes
use Rattle.rm_invariant.proofs.messages.Outcomes.{message_outcome}
use Rattle.rm_types.specs.declared.containers.ClosingOf.{ClosingOf}

-- what the row of an application weighs after its master finished, and after its master was told something
said_rises : (most : ℕ) (talk : Option Dialogue → Option Dialogue) (row : AppRow) → row_measure most (said_row talk row) ≤ row_measure most row + 4
said_rises most talk row = by row.current
  where
    by : (c : Option Current) → app_measure most row.state (current_number (current_after (of_app.OfAttempt of_attempt.Finish) c)) + current_measure (current_after (of_app.OfAttempt of_attempt.Finish) c)
        ≤ app_measure most row.state (current_number c) + current_measure c + 4
    by None = omega arith
    by (Some current) = omega (arith, finish_weighs current.state)

told_rises : (most : ℕ) (talk : Option Dialogue → Option Dialogue) (tell : List ClosingOf → List ClosingOf) (row : AppRow) → row_measure most (told_row talk tell row) ≤ row_measure most row + 0
told_rises most talk tell row = omega arith

registered_rises : (most : ℕ) (talk : Option Dialogue → Option Dialogue) (row : AppRow) → most ≤ 100 → row_measure most (registered_row talk row) ≤ row_measure most row + 814
registered_rises most talk row few = omega (arith, few, row_most most (registered_row talk row))

-- no row of the book is lost or comes
one_long : (passes : BookRow → Bool) (state : ContainerState) (book : BookOf) (id : ContainerId) → length (brought_one passes state book id).rows ≡ length book.rows
one_long passes state book id = by (is_some_and passes (book_row_of book id))
  where
    by : (b : Bool) → length (if b then with_state book id state else book).rows ≡ length book.rows
    by true = length-map book.rows (λ row. if is_of id row then record row { state = state } else row)
    by false = refl

brought_long : (passes : BookRow → Bool) (state : ContainerState) (book : BookOf) (ids : List ContainerId) → length (brought_all passes state book ids).rows ≡ length book.rows
brought_long passes state book [] = refl
brought_long passes state book (id ∷ ids) = brought_long passes state (brought_one passes state book id) ids ∙ one_long passes state book id

beaten_long : (name : List ℕ) (running launched : List ContainerId) (book : BookOf) → length (beaten_book name running launched book).rows ≡ length book.rows
beaten_long name running launched book =
    let one = brought_long (is_untold_row name) Acquired book launched in
    let two = brought_long (is_row_on name) Running (brought_all (is_untold_row name) Acquired book launched) running in
    omega (arith, one, two)

acquired_long : (told : List ContainerId) (book : BookOf) → length (acquired told book).rows ≡ length book.rows
acquired_long told book = length-map book.rows (acquired_row told)

handed_long : (reply : Reply) (book : BookOf) → length (handed_by reply book).rows ≡ length book.rows
handed_long (replies.Took kept) book = length-map book.rows (handed_row (ids_granted kept))
handed_long _ book = refl

module _ (t : Tables) (limits : KeepsLimits t.settings) where
  abbrev AddsLittle : Tables → Type 0
  AddsLittle next = measure next ≤ measure t + message_measure

  stays : AddsLittle t
  stays = omega arith

  -- of a master
  finish_adds : (attempt : AttemptId) (text : List ℕ) → AddsLittle (said attempt text t)
  finish_adds attempt text =
      let posted = main_push t.settings.max_attempts t.main (mains.AttemptFinish attempt) in
      let rows = row_rises t.settings.max_attempts 4 (said_row (with_text text)) attempt.app t.rows (said_rises t.settings.max_attempts (with_text text)) in
      omega (arith, posted, rows)

  register_adds : (attempt : AttemptId) (reply : Reply) → AddsLittle (registered attempt reply t)
  register_adds attempt reply =
      let rows = row_rises t.settings.max_attempts 814 (registered_row (dialogue_begun reply t.book.added)) attempt.app t.rows (λ row. registered_rises t.settings.max_attempts (dialogue_begun reply t.book.added) row limits.1) in
      let long = handed_long reply t.book in
      omega (arith, rows, long)

  released : (attempt : AttemptId) (release : List ContainerId) → sum_by sched_measure (t.sched ++ release_events attempt release) ≤ sum_by sched_measure t.sched + 1
  released attempt [] = omega (arith, sum_by-append sched_measure t.sched [])
  released attempt (id ∷ ids) = omega (arith, sched_push t.sched (scheds.Release attempt (id ∷ ids)))

  allocate_adds : (attempt : AttemptId) (id : ℕ) (asks : List Ask) (release : List ContainerId) (reply : Reply) → AddsLittle (allocated_with attempt id asks release reply t)
  allocate_adds attempt id asks release reply =
      let told : AppRow → AppRow = told_row (with_answer (id + 1) reply t.book.added) (without_closings attempt) in
      let rows = row_rises t.settings.max_attempts 0 told attempt.app t.rows (told_rises t.settings.max_attempts (with_answer (id + 1) reply t.book.added) (without_closings attempt)) in
      let long = acquired_long (containers_told attempt reply) t.book in
      let posted = released attempt release in
      omega (arith, rows, long, posted)

  -- of a node
  beat_posts : (name : List ℕ) (done : List ContainerId) → sum_by sched_measure (t.sched ++ beat_events name done) ≤ sum_by sched_measure t.sched + (770 + length done)
  beat_posts name [] = omega (arith, sched_push t.sched (scheds.NodeUpdate name))
  beat_posts name (id ∷ done) =
      let first = sum_by-cons sched_measure (scheds.NodeDone name (id ∷ done)) (scheds.NodeUpdate name ∷ []) in
      let second = sum_by-cons sched_measure (scheds.NodeUpdate name) [] in
      omega (arith, sum_by-append sched_measure t.sched (beat_events name (id ∷ done)), first, second)

  beat_adds : (name : List ℕ) (id : ℕ) (running : List Held) (done : List ContainerId) (reply : Reply) → length done ≤ most_listed → AddsLittle (beaten_with name id running done reply t)
  beat_adds name id running done reply few =
      let posted = beat_posts name done in
      let long = beaten_long name (reported running) (launched_by reply) t.book in
      omega (arith, posted, long, few)

  -- whatever it comes to
  message_adds : (message : Message) (reply : Reply) (next : Tables) → IsMessage message → MessageOutcome t message reply next → AddsLittle next
  message_adds message reply next is (comes.idles one other) = stays
  message_adds message reply next is (comes.gives user id) = omega arith
  message_adds message reply next is (comes.joins user id submission found) =
      let posted = main_push t.settings.max_attempts t.main (mains.AppStart id) in
      let row = row_joins t.settings.max_attempts id (submitted_row submission) t.rows in
      omega (arith, posted, row, limits)
  message_adds message reply next is (comes.wishes user id row found new) =
      let posted = main_push t.settings.max_attempts t.main (mains.AppKill id) in
      let rows = row_rises t.settings.max_attempts 0 (changed of_app.Wish) id t.rows (λ row. omega (arith, wished_same t.settings.max_attempts row)) in
      omega (arith, posted, rows)
  message_adds message reply next is (comes.registers attempt answer so) = register_adds attempt answer
  message_adds message reply next is (comes.finishes attempt text goes) = finish_adds attempt text
  message_adds message reply next is (comes.allocates attempt id asks release answer so new) = allocate_adds attempt id asks release answer
  message_adds message reply next is (comes.appears name turn capability running one found) = omega (arith, sched_push t.sched (scheds.NodeAdded name turn))
  message_adds message reply next is (comes.returns name turn capability running one row found later) = omega (arith, sched_push t.sched (scheds.NodeAdded name turn))
  message_adds message reply next is (comes.beats name id running done answer so new) = beat_adds name id running done answer is.1.2.few
  message_adds message reply next is (comes.ticks time) = omega arith
  message_adds message reply next is (comes.loses name) = omega (arith, sched_push t.sched (scheds.NodeLost name))
  message_adds message reply next is (comes.expires attempt) = omega (arith, main_push t.settings.max_attempts t.main (mains.AttemptExpired attempt))

  -- and so with the number of messages that were served
  pub message_weighs : (message : Message) (reply : Reply) (served : ℕ) → IsMessage message → measure (record (after_message message reply t) { served = served }) ≤ measure t + message_measure
  message_weighs message reply served is = message_adds message reply (after_message message reply t) is (message_outcome t message reply)
