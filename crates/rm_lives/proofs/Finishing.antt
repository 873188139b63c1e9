-- All lives of a script, from the first one on, and what a run over them shows.
use Rattle.rm_lives.proofs.Common.{◌≢◌, ◌⊎◌, ℕ, List, [], ◌∷◌, ◌++◌, true, false, None, Ok, Err, Result, refl, sym, ◌∙◌, ap, subst, inl, inr, ⊎_elim, arith, IfErr, OnOk, append-nil, append_assoc, Op, Entry, Begin, Life, Script, Settings, on_ok_map, on_ok, Fallen, DiskView, Fused, leaves_of, leaves_same, leaves_trans, state_after, Place, Manager, opening_state, IsBelowLast, seen, Seen, StandsFor, as_new, stands, DeskView, is_ready_at, IsHanded}
use Rattle.std.proofs.Common.{◌≡◌, not}
use Rattle.std.specs.Prelude.{IsOk}
use Rattle.std.proofs.lemmas.Bool.{and_parts, not-true}
use Rattle.rm_types.specs.Lists.{is_nil}
use Rattle.rm_types.proofs.TestLemmas.{not_nil}
use Rattle.rm_disk.proofs.Views.{quiet_same}
use Rattle.rm_types.specs.Records.{stray}
use Rattle.rm_model.specs.Downs.{AllGoDownAtRest}
use Rattle.rm_model.specs.Place.{beginning}
use Rattle.rm_model.specs.Lawful.{IsAtRest, IsDone, Lawful}
use Rattle.rm_lives.specs.Survives.{HoldsWithin, SurvivesAll, SurvivesNow}
use Rattle.rm_lives.specs.declared.halts.Stop.{Stop}
use Rattle.rm_lives.specs.declared.halts.Stop.TheVariants.{DiskFault, Damaged, Full, Schedule, EpochsSpent, Memory}
use Rattle.rm_desk.specs.Runs.{IsScriptRun as GoesAlong, IsPlaceSound as IsDeskSound, DescribesState}
use Rattle.rm_lives.specs.Falls.{falls_of}
use Rattle.rm_lives.specs.Goes.{IsOver, IsRun}
use Rattle.rm_lives.specs.declared.halts.Halt.{Halt}
use Rattle.rm_lives.specs.declared.halts.Halt.TheVariants as halts
use Rattle.rm_lives.specs.Halted.{stop_of}
use Rattle.rm_lives.specs.Opens.{IsOfStart, StartsOver}
use Rattle.rm_lives.specs.Order.{AllReady, HaltsHere, Order, StopsHere}
use Rattle.rm_lives.specs.Keeping.{IsKeptOn, LeftOver}
use Rattle.rm_lives.specs.Later.{FirstLived, FirstStopped, IsDueAt, IsLaterStop, LaterTo}
use Rattle.rm_lives.specs.Stops.{IsDue, IsStoppedBy, IsTold}
use Rattle.rm_lives.specs.Whole.{AllLived, Ends, HasRun, IsWholeRun}
use Rattle.rm_lives.proofs.Ending.{goes_trans}
use Rattle.rm_lives.proofs.Halting.{after_within, full_known, goes_any, keeps_leaves, none_known}
use Rattle.rm_lives.proofs.Moving.{goes_same}
use Rattle.rm_lives.proofs.Onward.{never_handed, no_store_not, stays_same, stays_trans}
use Rattle.rm_lives.proofs.Stored.{within_longer}

-- what follows for an error, where the error was told
pub if_err : {A E : Type 0} {P Q : E → Type 0} (r : Result A E) → ((e : E) → P e → Q e) → IfErr r P → IfErr r Q
if_err (Ok x) by h = tt
if_err (Err e) by h = by e h

module _ (order : Order) {D : Type 0} (view : D → DiskView) (opening : List Op) where
  -- a disk of which no call was made
  still_images : (d : DeskView) (disk : Fused D) → SurvivesAll opening d.core.log (seen view disk) (seen view disk)
  still_images d disk = λ bytes told.
      record { so_far = leaves_same (seen view disk) (λ image. (seen view disk).images image ⊎ HoldsWithin opening d.core.log image); now = λ image is. inl is }

  -- why no life was begun
  unstarted : (d : DeskView) (disk : Fused D) → opening ≡ [] → (stop : Stop) → (place : ℕ) × (stop ≡ Schedule place) × StopsHere order d place → IsStoppedBy view (IsDueAt d) (StopsHere order d) disk disk opening d.core.log stop
  unstarted d disk nothing stop why =
      subst (λ (s : Stop). IsStoppedBy view (IsDueAt d) (StopsHere order d) disk disk opening d.core.log s) (sym why.1) (why.2, λ none. nothing)

  -- a script without lives
  pub none_lived : (d : DeskView) (disk : Fused D) → stands d.core ≡ false → d.core.log ≡ [] → d.place.lives ≡ [] → disk.armed ≡ None → opening ≡ [] → (r : Result (Unit {0}) Stop) → OnOk r (order.ends d.core.log)
      → IfErr r (λ stop. (place : ℕ) × (stop ≡ Schedule place) × StopsHere order d place) → (order.ends d.core.log → IsOk r) → AllLived order view opening d d disk disk r
  none_lived d disk dead empty none unarmed nothing r used why ends =
      record {
        fallen = [];
        goes = goes_any (λ ops. ops ≡ opening) d d (goes_same d);
        falls = sym (append-nil disk.falls);
        stays = stays_same view disk;
        unarmed = unarmed;
        unblown = λ was. was;
        opened = λ some. absurd (some empty);
        found = inl nothing;
        ends = on_ok r (record { lives = none; over = inl dead });
        used_up = used;
        quiet = λ no. quiet_same (seen view disk);
        idle = λ no. (empty, refl, ends);
        begun = λ some. absurd (some none);
        images = λ k. still_images d disk;
        images_now = λ k some. absurd (some empty);
        stopped = λ k. if_err r (λ stop is. unstarted d disk nothing stop is) why;
      }

  -- the schedule's letter stopped the run before the first life
  pub unchosen : (d : DeskView) (disk : Fused D) (halt : Halt) → d.core.log ≡ [] → d.place.lives ≢ [] → disk.armed ≡ None → opening ≡ [] → (place : ℕ) × (halt ≡ halts.Schedule place) × StopsHere order d place → AllLived order view opening d d disk disk (Err (stop_of halt))
  unchosen d disk halt empty lives unarmed nothing why =
      record {
        fallen = [];
        goes = goes_any (λ ops. ops ≡ opening) d d (goes_same d);
        falls = sym (append-nil disk.falls);
        stays = stays_same view disk;
        unarmed = unarmed;
        unblown = λ was. was;
        opened = λ some. absurd (some empty);
        found = inl nothing;
        ends = tt;
        used_up = tt;
        quiet = λ no. quiet_same (seen view disk);
        idle = λ no. absurd (lives no);
        begun = λ some. tt;
        images = λ k. still_images d disk;
        images_now = λ k some. absurd (some empty);
        stopped = λ k. unstarted d disk nothing (stop_of halt) (why.0, ap stop_of why.1, why.2);
      }

  -- the first life stopped the run
  pub first_stops : (a b : DeskView) (disk now : Fused D) (stop : Stop) → a.place.lives ≢ [] → FirstStopped order view opening a b disk now stop → AllLived order view opening a b disk now (Err stop)
  first_stops a b disk now stop lives h =
      record {
        fallen = [];
        goes = h.goes;
        falls = h.falls ∙ sym (append-nil disk.falls);
        stays = h.stays;
        unarmed = h.at_ease.unarmed;
        unblown = λ some. h.at_ease.unblown;
        opened = h.held;
        found = h.found;
        ends = tt;
        used_up = tt;
        quiet = h.quiet;
        idle = λ none. absurd (lives none);
        begun = λ some. tt;
        images = λ k. (h.left k).0;
        images_now = λ k. (h.left k).1;
        stopped = h.why;
      }

  -- the first life was lived, and others behind it
  module _ (a b c : DeskView) (first second third : Fused D) (lives : a.place.lives ≢ []) (ab : FirstLived order view opening a b first second) where
    held : IsTold (seen view first) → StandsFor opening a.core → IsKeptOn opening b.core.log (seen view second)
    held told k = (ab.kept told.0 told.1 k).kept

    later_stop : StandsFor opening a.core → c.core.log ≢ [] → (stop : Stop) → IsLaterStop order view opening b c second third stop → IsStoppedBy view (IsDueAt c) (StopsHere order c) first third opening c.core.log stop
    later_stop k some DiskFault why = (let before = ab.stays.faults in let rose = why.0 in omega arith, why.1, λ none. absurd (some none))
    later_stop k some (Damaged offset) why = (
      why.0,
      λ bytes told. absurd (why.1 (ab.kept bytes told k).kept),
      λ none. absurd (some none),
    )
    later_stop k some (Full needed room) why =
        full_known (IsKeptOn opening b.core.log (seen view second)) (IsTold (seen view first)) (IsBelowLast (view third.inner)) opening c.core.log (view third.inner).size needed room (λ told. held told k) why
    later_stop k some (Schedule place) why = (why, λ none. absurd (some none))
    later_stop k some EpochsSpent why =
        (why.0, (λ bytes told. (ab.kept bytes told k).opened, none_known (IsKeptOn opening b.core.log (seen view second)) (IsTold (seen view first)) (seen view third) opening c.core.log (λ told. held told k) why.1))
    later_stop k some Memory why = tt

    -- at each moment up to the end of the first life, and then
    all_images : StandsFor opening a.core → LeftOver (λ ops. Unit {0}) (λ ops. IsKeptOn ops b.core.log (seen view second)) b c (seen view second) (seen view third) → SurvivesAll opening c.core.log (seen view first) (seen view third)
    all_images k left = λ bytes told.
        let P : List ℕ → Type 0 = λ image. (seen view first).images image ⊎ HoldsWithin opening c.core.log image in
        let was = ab.kept bytes told k in
        let on = left opening tt (ab.goes.lawful opening refl k) was.kept in
        record {
          so_far = leaves_trans (seen view first) (seen view second) (seen view third) P
              (leaves_of (seen view first) (seen view second) (λ image. (seen view first).images image ⊎ HoldsWithin opening b.core.log image) P
              (λ image is. ⊎_elim (λ before. inl before) (λ within. inr (within_longer opening b.core.log c.core.log on.more on.grows image within)) is) was.time)
              (leaves_of (seen view second) (seen view third) (HoldsWithin opening c.core.log) P (λ image is. inr is) on.time);
          now = λ image is. inr (after_within opening c.core.log image (on.now image is));
        }

    all_images_now : StandsFor opening a.core → LeftOver (λ ops. Unit {0}) (λ ops. IsKeptOn ops b.core.log (seen view second)) b c (seen view second) (seen view third) → SurvivesNow opening c.core.log (seen view first) (seen view third)
    all_images_now k left = λ some bytes told. (left opening tt (ab.goes.lawful opening refl k) (ab.kept bytes told k).kept).now

    pub all_lived : (r : Result (Unit {0}) Stop) → LaterTo order view b c second third r → OnOk r (c.place.lives ≡ []) → OnOk r (order.ends c.core.log) → AllLived order view opening a c first third r
    all_lived (Ok x) bc none used =
        let left : LeftOver (λ ops. Unit {0}) (λ ops. IsKeptOn ops b.core.log (seen view second)) b c (seen view second) (seen view third) =
        λ ops is k has. keeps_leaves ops b.core.log c.core.log (seen view second) (seen view third) (bc.kept ops is k has) in
        record {
          fallen = ab.fallen ++ bc.fallen;
          goes = goes_trans (λ ops. ops ≡ opening) ab.fallen bc.fallen a b c ab.goes bc.goes;
          falls = bc.falls ∙ ap (λ (xs : List Fallen). xs ++ bc.fallen) ab.falls ∙ append_assoc first.falls ab.fallen bc.fallen;
          stays = stays_trans view first second third ab.stays bc.disk_stays;
          unarmed = bc.at_ease.unarmed;
          unblown = λ some. bc.at_ease.unblown;
          opened = λ some. ab.opened;
          found = inr ab.opened;
          ends = record { lives = none; over = bc.ends };
          used_up = used;
          quiet = λ empty. absurd (bc.some empty);
          idle = λ no. absurd (lives no);
          begun = λ some. bc.some;
          images = λ k. all_images k left;
          images_now = λ k. all_images_now k left;
          stopped = λ k. tt;
        }
    all_lived (Err stop) bc none used =
        record {
          fallen = ab.fallen ++ bc.fallen;
          goes = goes_trans (λ ops. ops ≡ opening) ab.fallen bc.fallen a b c ab.goes bc.goes;
          falls = bc.falls ∙ ap (λ (xs : List Fallen). xs ++ bc.fallen) ab.falls ∙ append_assoc first.falls ab.fallen bc.fallen;
          stays = stays_trans view first second third ab.stays bc.stays;
          unarmed = bc.at_ease.unarmed;
          unblown = λ some. bc.at_ease.unblown;
          opened = λ some. ab.opened;
          found = inr ab.opened;
          ends = tt;
          used_up = tt;
          quiet = λ empty. absurd (bc.goes.some ab.some empty);
          idle = λ no. absurd (lives no);
          begun = λ some. tt;
          images = λ k. all_images k bc.left;
          images_now = λ k. all_images_now k bc.left;
          stopped = λ k. later_stop k (bc.goes.some ab.some) stop (bc.why opening (ab.goes.lawful opening refl k));
        }

-- the order stopped the run before its first life
pub refused_first : (order : Order) {D : Type 0} (view : D → DiskView) (opening : List Op) (d : DeskView) (disk : Fused D) (halt : Halt) → d.core.log ≡ [] → d.place.lives ≢ [] → disk.armed ≡ None → opening ≡ [] → HaltsHere order d halt
    → AllLived order view opening d d disk disk (Err (stop_of halt))
refused_first order view opening d disk halts.DiskFault empty lives unarmed nothing stops = absurd stops
refused_first order view opening d disk (halts.Full needed room) empty lives unarmed nothing stops = absurd stops
refused_first order view opening d disk (halts.Schedule place) empty lives unarmed nothing stops = unchosen order view opening d disk (halts.Schedule place) empty lives unarmed nothing (place, refl, stops)
refused_first order view opening d disk halts.Memory empty lives unarmed nothing stops = absurd stops

-- whether a life is left, where none stands
pub none_left : (d : DeskView) → stands d.core ≡ false → is_ready_at d Begin ≡ false → d.place.lives ≡ []
none_left d dead h = by d.place.lives refl
  where
    by : (lives : List Life) → d.place.lives ≡ lives → d.place.lives ≡ []
    by [] e = e
    by (life ∷ more) e = let x = rw (dead, e) at h in cc

pub some_left : (d : DeskView) → is_ready_at d Begin ≡ true → d.place.lives ≢ []
some_left d h = not_nil d.place.lives (and_parts (not (stands d.core)) (not (is_nil d.place.lives)) h).1

pub none_stands : (d : DeskView) → is_ready_at d Begin ≡ true → stands d.core ≡ false
none_stands d h = not-true (stands d.core) (and_parts (not (stands d.core)) (not (is_nil d.place.lives)) h).0

-- after the last life none is left
pub none_after : (d : DeskView) → (stands d.core ≡ false) ⊎ IsOver d → is_ready_at d Begin ≡ false → d.place.lives ≡ []
none_after d ends h = ⊎_elim (λ dead. none_left d dead h) (λ (o : IsOver d). o.lives) ends

-- where no life stands nothing awaits or is owed
at_rest : (settings : Settings) (s : Manager) → s.life ≡ None → IsAtRest settings s s.life
at_rest settings s h = rw h tt

-- why a run stopped, where what says that a life was due is told otherwise
pub due_is : {D : Type 0} (view : D → DiskView) (opening : List Op) (log : List Entry) (disk now : Fused D) (one other : Type 0) (stops told : ℕ → Type 0) → (one → other) → ((place : ℕ) → stops place → told place)
    → (stop : Stop) → IsStoppedBy view one stops disk now opening log stop → IsStoppedBy view other told disk now opening log stop
due_is view opening log disk now one other stops told by at DiskFault why = (why.0, ⊎_elim (λ due. inl (by due)) (λ handed. inr handed) why.1, why.2)
due_is view opening log disk now one other stops told by at (Damaged offset) why = (by why.0, why.1, why.2)
due_is view opening log disk now one other stops told by at (Full needed room) why = why
due_is view opening log disk now one other stops told by at (Schedule place) why = (at place why.0, why.1)
due_is view opening log disk now one other stops told by at EpochsSpent why = (by why.0, why.1)
due_is view opening log disk now one other stops told by at Memory why = tt

-- over a device that holds a store, a run that logged nothing did not find it damaged or full
pub starts_over : {D : Type 0} (view : D → DiskView) (opening : List Op) (log : List Entry) (disk now : Fused D) (due : Type 0) (stops : ℕ → Type 0) (ended : Result (Unit {0}) Stop)
    → IfErr ended (IsStoppedBy view due stops disk now opening log) → StartsOver (seen view disk) log ended
starts_over view opening log disk now due stops ended stopped bytes ops told holds empty = if_err ended by stopped
  where
    by : (stop : Stop) → IsStoppedBy view due stops disk now opening log stop → IsOfStart stop
    by DiskFault why = tt
    by (Damaged offset) why = no_store_not bytes ops offset holds (why.1 bytes told).2
    by (Full needed room) why = never_handed opening why.op (subst (λ (l : List Entry). IsHanded opening l why.op) empty why.handed)
    by (Schedule place) why = tt
    by EpochsSpent why = tt
    by Memory why = tt

-- what is said of a run that came to its end
ok_of : {A E : Type 0} {P : Type 0} (r : Result A E) → OnOk r P → IsOk r → P
ok_of (Ok x) p ok = p
ok_of (Err e) p ok = cc

-- all that is told of a run, from what the desk tells of it
module _ (order : Order) {D : Type 0} (view : D → DiskView) (opening : List Op) (script : Script) (d : DeskView) (disk now : Fused D) (ended : Result (Unit {0}) Stop)
    (whole : IsWholeRun order view opening script d disk now ended) (sound : IsDeskSound d) (tells : (ops : List Op) → StandsFor ops d.core → DescribesState ops d)
    (lawful : (ops : List Op) (lives : Script) → GoesAlong ops lives d → Lawful d.core.settings lives ops d.core.log) where
  told : DescribesState opening d
  told = tells opening whole.run.goes.stands

  rest_on : (stands d.core ≡ false) ⊎ IsOver d → IsAtRest d.core.settings (state_after opening d.core.log) (state_after opening d.core.log).life
  rest_on over =
      ⊎_elim (λ dead. at_rest d.core.settings (state_after opening d.core.log) (told.none dead)) (λ (o : IsOver d). o.rest opening whole.run.goes.stands) over

  ends_at : Ends d → d.place.segments ≡ []
  ends_at ends = ⊎_elim (λ dead. sound.between dead) (λ (o : IsOver d). o.segments) ends.over

  is_done : Ends d → IsDone d.core.settings script opening d.core.log
  is_done ends =
      record {
        place = record { lives = ap (λ (p : Place). p.lives) whole.run.goes.along.at ∙ ends.lives; segments = ap (λ (p : Place). p.segments) whole.run.goes.along.at ∙ ends_at ends };
        rest = rest_on ends.over;
      }

  -- where a life was due by the desk, one is due in the script
  due_on : IsDueAt d → IsDue script opening d.core.log
  due_on due = record { dead = told.none due.dead; lives = λ none. due.lives (sym (ap (λ (p : Place). p.lives) whole.run.goes.along.at) ∙ none) }

  -- and where the order stopped the desk, it stops the run that the log tells
  stops_on : (place : ℕ) → StopsHere order d place → order.stops (as_new d.core) script opening d.core.log place
  stops_on place stops = stops opening script whole.run.goes

  run_told : HasRun order view (as_new d.core) d.core.settings script disk now opening d.core.log ended
  run_told =
      record {
        lawful = lawful opening script whole.run.goes;
        done = λ ok. is_done (ok_of ended whole.ends ok);
        moves = whole.run.moves;
        used_up = whole.used_up;
        downs = whole.run.downs;
        falls = whole.falls ∙ ap (λ (xs : List Fallen). disk.falls ++ xs) (sym whole.run.falls);
        stays = whole.stays;
        unarmed = whole.unarmed;
        unblown = whole.unblown;
        idle = whole.idle;
        begun = whole.begun;
        opened = whole.opened;
        found = whole.found;
        read_back = whole.read_back;
        quiet = whole.quiet;
        images = whole.images;
        images_now = whole.images_now;
        starts = starts_over view opening d.core.log disk now (IsDueAt d) (StopsHere order d) ended whole.stopped;
        stopped =
            if_err ended
            (λ stop why. due_is view opening d.core.log disk now (IsDueAt d) (IsDue script opening d.core.log) (StopsHere order d) (order.stops (as_new d.core) script opening d.core.log) due_on stops_on stop why)
            whole.stopped;
      }

  pub has_run : (made : Seen) → as_new d.core ≡ made → (settings : Settings) → d.core.settings ≡ settings → HasRun order view made settings script disk now opening d.core.log ended
  has_run made is settings same =
      subst (λ (s : Seen). HasRun order view s settings script disk now opening d.core.log ended) is
      (subst (λ (s : Settings). HasRun order view (as_new d.core) s script disk now opening d.core.log ended) same run_told)

-- lives from the first one on are a whole run
pub is_whole : (order : Order) {D : Type 0} (view : D → DiskView) (opening : List Op) (script : Script) (first new : DeskView) (disk now : Fused D) (ended : Result (Unit {0}) Stop) → AllLived order view opening first new disk now ended
    → first.core.log ≡ [] → GoesAlong opening script first → first.place ≡ beginning script → order.keeps (as_new first.core) script opening [] → stray opening ≡ None → IsWholeRun order view opening script new disk now ended
is_whole order view opening script first new disk now ended all empty along place begins read =
    let lives : first.place.lives ≡ script.lives = ap (λ (p : Place). p.lives) place in
    record {
      fallen = all.fallen;
      run =
          all.goes.run opening script [] refl
          (record {
            goes = along;
            downs = λ rests. rw empty tt;
            falls = rw empty refl;
            moves = subst (λ (log : List Entry). order.keeps (as_new first.core) script opening log) (sym empty) begins;
          });
      falls = all.falls;
      stays = all.stays;
      unarmed = all.unarmed;
      unblown = all.unblown;
      opened = all.opened;
      found = all.found;
      read_back = read;
      ends = all.ends;
      used_up = all.used_up;
      quiet = all.quiet;
      idle = λ none. let idle = all.idle (lives ∙ none) in (idle.0, idle.1, λ used. idle.2 (rw idle.0 used));
      begun = λ some. all.begun (λ none. some (sym lives ∙ none));
      images = all.images along.stands;
      images_now = all.images_now along.stands;
      stopped = all.stopped along.stands;
    }
