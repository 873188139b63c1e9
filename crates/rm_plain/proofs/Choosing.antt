-- Which lane moves next: the one that the letters say, and behind them the first that is ready.
use Rattle.rm_lives.proofs.Common.{ℕ, ◌≢◌, ⊎_elim, List, [], ◌∷◌, ◌++◌, Bool, true, false, None, Some, Option, refl, sym, ◌∙◌, ap, subst, fold_push, same_Some, Entry, Lane, Client, Master, Node, Clock, Main, Sched, Hand, Write, End, Begin, Op, Close, Life, Script, lane_of_entry, Place, close_left, Seen, as_new, stands, HasNoWork, is_ready_at, DeskView}
use Rattle.std.proofs.Common.{◌≡◌, if◌then◌else◌, Err, Ok, Result}
use Rattle.std.specs.Prelude.{IfErr, IfNone, IsOk, OnOk, find, is_some}
use Rattle.rm_types.proofs.TestLemmas.{found_passes, on_ok_map}
use Rattle.rm_desk.specs.Lanes.{IsWork}
use Rattle.rm_desk.specs.Runs.{IsScriptRun as GoesAlong}
use Rattle.rm_plain.specs.declared.schedule.Letter.{Letter}
use Rattle.rm_plain.specs.declared.schedule.Letter.TheVariants.{Moves, Plain, Unknown}
use Rattle.rm_plain.specs.declared.schedule.Step.{Step}
use Rattle.rm_lives.specs.declared.halts.Halt.{Halt}
use Rattle.rm_lives.specs.declared.halts.Stop.{Stop}
use Rattle.rm_lives.specs.declared.halts.Stop.TheVariants as causes
use Rattle.rm_lives.specs.declared.halts.Halt.TheVariants.{DiskFault, Full, Schedule, Memory}
use Rattle.rm_lives.specs.Order.{HaltsHere, May, StopsHere, run_after}
use Rattle.rm_lives.proofs.Finishing.{if_err}
use Rattle.rm_lives.proofs.Ordering.{ready_told, split_push, told_by}
use Rattle.rm_plain.specs.Policy.{first_ready, policy}
use Rattle.rm_plain.specs.Schedule.{MovesBy, Stops, StopsAt, by_letters, chosen, letters_left, moved_by, used_by}

-- a move leaves of the letters what it doesn't use up
pub left_push : (steps : List Step) (log : List Entry) (e : Entry) → letters_left steps (log ++ e ∷ []) ≡ used_by (lane_of_entry e) (letters_left steps log)
left_push steps log e = fold_push (λ left x. used_by (lane_of_entry x) left) steps log e

pub left_none : (log : List Entry) → letters_left [] log ≡ []
left_none [] = refl
left_none (e ∷ log) = left_none log

-- an entry of the lane that was to move may be added
moves_push : (steps : List Step) (new : Seen) (script : Script) (opening : List Op) (log : List Entry) (e : Entry) → MovesBy steps new script opening log
    → chosen (letters_left steps log) (run_after new script opening log) ≡ Some (lane_of_entry e) → MovesBy steps new script opening (log ++ e ∷ [])
moves_push steps new script opening log e h next = λ past x more is.
    ⊎_elim (λ end. rw (end.0, end.1) next) (λ before. h past x before.0 before.1) (split_push log past e x more is)

-- so it is of what moves next
module _ (opening : List Op) (script : Script) (d : DeskView) (run : GoesAlong opening script d) where
  abbrev after_log : DeskView
  after_log = run_after (as_new d.core) script opening d.core.log

  close_told : close_left after_log.place.segments ≡ close_left d.place.segments
  close_told = ap (λ (p : Place). close_left p.segments) run.along.at

  first_told : first_ready after_log ≡ first_ready d
  first_told = told_by opening script d run first_ready (λ t tree place. refl)

  moved_told : (letter : Letter) → moved_by letter after_log ≡ moved_by letter d
  moved_told (Moves lane) = ap (λ (b : Bool). if b then Some lane else None) (ready_told opening script d run lane)
  moved_told Plain =
      ap (λ (close : Option Close). if is_some close then first_ready after_log else None) close_told ∙ ap (λ (o : Option Lane). if is_some (close_left d.place.segments) then o else None) first_told
  moved_told Unknown = refl

  pub chosen_told : (steps : List Step) → chosen steps after_log ≡ chosen steps d
  chosen_told [] = first_told
  chosen_told (step ∷ more) = moved_told step.letter

  -- so a letter that can't move its lane can't do so after the log
  pub stops_told : (steps : List Step) (place : ℕ) → StopsAt steps d place → StopsAt steps after_log place
  stops_told [] place stops = stops
  stops_told (step ∷ more) place stops = (stops.0, moved_told step.letter ∙ stops.1)

-- so it stops the run, by the letters' order
pub letters_stop : (steps : List Step) (d : DeskView) (place : ℕ) → StopsAt (letters_left steps d.core.log) d place → StopsHere (by_letters steps) d place
letters_stop steps d place stops = λ opening script run. stops_told opening script d run (letters_left steps d.core.log) place stops

-- and halts a life, where the schedule has come as far as the log
pub letters_halt : (steps left : List Step) (d : DeskView) → left ≡ letters_left steps d.core.log → (halt : Halt) → Stops left d halt → HaltsHere (by_letters steps) d halt
letters_halt steps left d at DiskFault stops = absurd stops
letters_halt steps left d at (Full needed room) stops = absurd stops
letters_halt steps left d at (Schedule place) stops = letters_stop steps d place (subst (λ (l : List Step). StopsAt l d place) at stops)
letters_halt steps left d at Memory stops = absurd stops

-- where nothing else passes, the last of a list is found
found_or : {X : Type 0} (b : Bool) (x y : X) (rest : Option X) → (b ≡ true → y ≡ x) → rest ≡ Some x → (if b then Some y else rest) ≡ Some x
found_or true x y rest same more = ap (λ z. Some z) (same refl)
found_or false x y rest same more = more

find_only : {X : Type 0} (p : X → Bool) (x : X) → ((y : X) → p y ≡ true → y ≡ x) → p x ≡ true → (before : List X) → find p (before ++ x ∷ []) ≡ Some x
find_only p x only passes [] = ap (λ (b : Bool). if b then Some x else None) passes
find_only p x only passes (y ∷ before) = found_or (p y) x y (find p (before ++ x ∷ [])) (only y) (find_only p x only passes before)

not_first : {X : Type 0} (b : Bool) (x : X) (rest : Option X) → (if b then Some x else rest) ≡ None → (b ≡ false) × (rest ≡ None)
not_first true x rest h = cc
not_first false x rest h = (refl, h)

found_here : {X : Type 0} (b : Bool) (p : X → Bool) (rest : Option X) (x y : X) → p y ≡ b → (if b then Some y else rest) ≡ Some x
    → (rest ≡ Some x → p x ≡ true) → p x ≡ true
found_here true p rest x y e h more = let same : y ≡ x = cc in rw (sym same) e
found_here false p rest x y e h more = more h

-- where no lane is found, none is ready
pub none_ready : (d : DeskView) → first_ready d ≡ None → (lane : Lane) → is_ready_at d lane ≡ false
none_ready d h lane =
    let main = not_first (is_ready_at d Main) Main _ h in
    let sched = not_first (is_ready_at d Sched) Sched _ main.1 in
    let client = not_first (is_ready_at d Client) Client _ sched.1 in
    let master = not_first (is_ready_at d Master) Master _ client.1 in
    let node = not_first (is_ready_at d Node) Node _ master.1 in
    let clock = not_first (is_ready_at d Clock) Clock _ node.1 in
    let hand = not_first (is_ready_at d Hand) Hand _ clock.1 in
    let write = not_first (is_ready_at d Write) Write _ hand.1 in
    let end = not_first (is_ready_at d End) End _ write.1 in
    let begin = not_first (is_ready_at d Begin) Begin _ end.1 in
    elim lane as (λ (k : Lane). is_ready_at d k ≡ false) [
      | Client ↦ client.0
      | Master ↦ master.0
      | Node ↦ node.0
      | Clock ↦ clock.0
      | Main ↦ main.0
      | Sched ↦ sched.0
      | Hand ↦ hand.0
      | Write ↦ write.0
      | End ↦ end.0
      | Begin ↦ begin.0
    ]

-- none of the lanes of the manager's work was ready where its end was chosen
not_before : {X : Type 0} (b : Bool) (x : X) (rest : Option X) (y : X) → (x ≢ y) → (if b then Some x else rest) ≡ Some y → (b ≡ false) × (rest ≡ Some y)
not_before true x rest y other h = absurd (other (same_Some x y h))
not_before false x rest y other h = (refl, h)

end_idle : (d : DeskView) → first_ready d ≡ Some End → HasNoWork d
end_idle d h lane work =
    let main = not_before (is_ready_at d Main) Main _ End (λ e. cc) h in
    let sched = not_before (is_ready_at d Sched) Sched _ End (λ e. cc) main.1 in
    let client = not_before (is_ready_at d Client) Client _ End (λ e. cc) sched.1 in
    let master = not_before (is_ready_at d Master) Master _ End (λ e. cc) client.1 in
    let node = not_before (is_ready_at d Node) Node _ End (λ e. cc) master.1 in
    let clock = not_before (is_ready_at d Clock) Clock _ End (λ e. cc) node.1 in
    let hand = not_before (is_ready_at d Hand) Hand _ End (λ e. cc) clock.1 in
    let write = not_before (is_ready_at d Write) Write _ End (λ e. cc) hand.1 in
    by lane work main.0 sched.0 hand.0 write.0
  where
    by : (lane : Lane) → IsWork lane → is_ready_at d Main ≡ false → is_ready_at d Sched ≡ false → is_ready_at d Hand ≡ false → is_ready_at d Write ≡ false → is_ready_at d lane ≡ false
    by Main work main sched hand write = main
    by Sched work main sched hand write = sched
    by Hand work main sched hand write = hand
    by Write work main sched hand write = write
    by Client work main sched hand write = absurd work
    by Master work main sched hand write = absurd work
    by Node work main sched hand write = absurd work
    by Clock work main sched hand write = absurd work
    by End work main sched hand write = absurd work
    by Begin work main sched hand write = absurd work

-- the lane that is to move is ready
if_ready : (b : Bool) (d : DeskView) (lane next : Lane) → is_ready_at d lane ≡ b → (if b then Some lane else None) ≡ Some next → is_ready_at d next ≡ true
if_ready true d lane next ready is = subst (λ (l : Lane). is_ready_at d l ≡ true) (same_Some lane next is) ready
if_ready false d lane next ready is = cc

if_first : (b : Bool) (d : DeskView) (next : Lane) → (if b then first_ready d else None) ≡ Some next → is_ready_at d next ≡ true
if_first true d next is = found_passes (is_ready_at d) policy next is
if_first false d next is = cc

moved_ready : (letter : Letter) (d : DeskView) (lane : Lane) → moved_by letter d ≡ Some lane → is_ready_at d lane ≡ true
moved_ready (Moves own) d lane is = if_ready (is_ready_at d own) d own lane refl is
moved_ready Plain d lane is = if_first (is_some (close_left d.place.segments)) d lane is
moved_ready Unknown d lane is = cc

pub chosen_ready : (steps : List Step) (d : DeskView) (lane : Lane) → chosen steps d ≡ Some lane → is_ready_at d lane ≡ true
chosen_ready [] d lane is = found_passes (is_ready_at d) policy lane is
chosen_ready (step ∷ more) d lane is = moved_ready step.letter d lane is

-- and may move by the letters' order
pub letters_may : (steps : List Step) (d : DeskView) (lane : Lane) → chosen (letters_left steps d.core.log) d ≡ Some lane → May (by_letters steps) lane d
letters_may steps d lane is =
    record {
      keeps = λ opening script e run of_lane h.
          moves_push steps (as_new d.core) script opening d.core.log e h (chosen_told opening script d run (letters_left steps d.core.log) ∙ is ∙ ap (λ (l : Lane). Some l) (sym of_lane));
      rests = λ none end unblown.
          end_idle d (ap (λ (left : List Step). chosen left d) (sym (left_none d.core.log) ∙ ap (λ (all : List Step). letters_left all d.core.log) (sym none)) ∙ is ∙ ap (λ (l : Lane). Some l) end);
    }

-- where no life stands and one is left, it begins
pub begin_chosen : (d : DeskView) → stands d.core ≡ false → d.place.lives ≢ [] → ((lane : Lane) → is_ready_at d lane ≡ true → lane ≡ Begin) → first_ready d ≡ Some Begin
begin_chosen d dead lives only =
    find_only (is_ready_at d) Begin only (ready d.place.lives refl) (Main ∷ Sched ∷ Client ∷ Master ∷ Node ∷ Clock ∷ Hand ∷ Write ∷ End ∷ [])
  where
    ready : (left : List Life) → d.place.lives ≡ left → is_ready_at d Begin ≡ true
    ready [] e = absurd (lives e)
    ready (life ∷ more) e = rw (dead, e) refl

-- so where a choice was made, it is to begin one
pub chosen_begin : (steps : List Step) (d : DeskView) (o : Option Lane) → o ≡ chosen steps d → IfNone o (steps ≡ []) → stands d.core ≡ false → d.place.lives ≢ [] → ((lane : Lane) → is_ready_at d lane ≡ true → lane ≡ Begin)
    → chosen steps d ≡ Some Begin
chosen_begin steps d None is none dead lives only =
    let plain : chosen steps d ≡ first_ready d = ap (λ (left : List Step). chosen left d) none in
    plain ∙ begin_chosen d dead lives only
chosen_begin steps d (Some lane) is none dead lives only = sym is ∙ ap (λ (l : Lane). Some l) (only lane (chosen_ready steps d lane (sym is)))

pub no_step : (step : Step) (more : List Step) → step ∷ more ≡ [] → ⊥
no_step step more h = cc

-- where no lane is ready none is found
found_none : {X : Type 0} (p : X → Bool) → ((x : X) → p x ≡ false) → (xs : List X) → find p xs ≡ None
found_none p none [] = refl
found_none p none (x ∷ xs) = ap (λ (b : Bool). if b then Some x else find p xs) (none x) ∙ found_none p none xs

if_none : {X : Type 0} (b : Bool) (o : Option X) → o ≡ None → (if b then o else None) ≡ None
if_none true o is = is
if_none false o is = refl

-- so no letter can move its own
pub none_moved : (d : DeskView) → ((lane : Lane) → is_ready_at d lane ≡ false) → (letter : Letter) → moved_by letter d ≡ None
none_moved d none (Moves lane) = ap (λ (b : Bool). if b then Some lane else None) (none lane)
none_moved d none Plain = if_none (is_some (close_left d.place.segments)) (first_ready d) (found_none (is_ready_at d) none policy)
none_moved d none Unknown = refl

-- so the run is at its end, where some lane is ready unless it is
pub at_end : (d : DeskView) → first_ready d ≡ None → (b : Bool) → (b ≡ false → (lane : Lane) × (is_ready_at d lane ≡ true)) → b ≡ true
at_end d h true some = refl
at_end d h false some = let ready = some refl in let none = none_ready d h ready.0 in let x = sym none ∙ ready.1 in cc

-- what is told of the letters that are left is told of the order that they give
module _ (steps left : List Step) (d : DeskView) (at : left ≡ letters_left steps d.core.log) (r : Result (Unit {0}) Stop) where
  pub used_as : OnOk r (left ≡ []) → OnOk r ((by_letters steps).ends d.core.log)
  used_as used = on_ok_map r (λ none. sym at ∙ none) used

  pub stops_as : IfErr r (λ stop. (place : ℕ) × (stop ≡ causes.Schedule place) × StopsAt left d place) → IfErr r (λ stop. (place : ℕ) × (stop ≡ causes.Schedule place) × StopsHere (by_letters steps) d place)
  stops_as stops = if_err r (λ stop is. (is.0, is.1, letters_stop steps d is.0 (subst (λ (l : List Step). StopsAt l d is.0) at is.2))) stops

  -- where none is left, none stops the run
  pub all_used_up : IfErr r (λ stop. (place : ℕ) × (stop ≡ causes.Schedule place) × StopsAt left d place) → (by_letters steps).ends d.core.log → IsOk r
  all_used_up stops none = by r stops
    where
      by : (x : Result (Unit {0}) Stop) → IfErr x (λ stop. (place : ℕ) × (stop ≡ causes.Schedule place) × StopsAt left d place) → IsOk x
      by (Ok x) stops = refl
      by (Err stop) stops = absurd (subst (λ (l : List Step). StopsAt l d stops.0) (at ∙ none) stops.2)
