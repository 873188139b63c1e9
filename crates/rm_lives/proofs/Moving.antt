-- The moves of a desk, each a longer run.
use Rattle.rm_lives.proofs.Common.{◌≢◌, ℕ, ◌<◌, List, [], ◌∷◌, ◌++◌, Bool, true, false, Some, None, Option, Ok, Err, Result, refl, sym, ◌∙◌, ap, subst, arith, OnOk, is_ok, append-nil, fold_push, Entry, Blown, Lane, Client, Master, Node, Clock, Main, Sched, Hand, Write, End, Begin, Op, Close, Settle, Crash, Life, Settings, lane_of_entry, Records, Fallen, LifeState, Manager, opening_state, after, after_where, kept_after_landing, state_after, Place, close_left, IsLeftAfter, StandsFor, is_blown, landed_over, stands, DeskView, HasNoWork, HasBlown, LaneEffect}
use Rattle.std.proofs.Common.{◌≡◌, ◌≤◌, length}
use Rattle.std.specs.Prelude.{OnErr, slice_get}
use Rattle.rm_types.specs.declared.entries.Entry.TheVariants.{Opened, Settled, Down}
use Rattle.rm_types.specs.declared.messages.Sender.{Sender}
use Rattle.rm_types.specs.declared.messages.Sender.TheVariants as senders
use Rattle.rm_types.specs.declared.scripts.Segment.{Segment}
use Rattle.rm_types.proofs.TestLemmas.{never_nil, first_of}
use Rattle.rm_model.specs.Downs.{GoesDownAtRest}
use Rattle.rm_model.specs.Lawful.{IsAtRest}
use Rattle.rm_model.specs.Place.{place_begun, moved, rest_of, segments_without, stamp_of}
use Rattle.rm_core.specs.Words.{has_rest}
use Rattle.rm_desk.specs.Lanes.{IsStep}
use Rattle.rm_desk.specs.Runs.{IsLast, IsPlaceSound as IsDeskSound, DescribesState}
use Rattle.rm_desk.specs.Effects.{Answers, LifeBegins, StoreBlows, EffectBy, IsEntryOf}
use Rattle.rm_lives.specs.Falls.{fall, falls_at}
use Rattle.rm_lives.specs.Goes.{ExtendsRun, ExtendsRunOver, IsRun}
use Rattle.rm_lives.specs.Keeping.{BeganLife, IsUnkept, blown_in, has_blown}
use Rattle.rm_lives.specs.Order.{May, Order}
use Rattle.rm_lives.proofs.Longer.{IsQuiet, falls_none, first_stays, hand_quiet, is_plain, kept_stays, main_quiet, no_down, one_more, plain_stands, sched_quiet}
use Rattle.rm_lives.proofs.Stored.{holds_on}

-- what is said of a move that was made, or refused
pub ok_holds : {A E : Type 0} {P : Type 0} (r : Result A E) → is_ok r ≡ true → OnOk r P → P
ok_holds (Ok x) e p = p
ok_holds (Err x) e p = cc

pub err_holds : {A E : Type 0} {P : Type 0} (r : Result A E) → is_ok r ≡ false → OnErr r P → P
err_holds (Ok x) e p = cc
err_holds (Err x) e p = p

-- what is said of a call that gave no error
pub no_err : {A E : Type 0} {P : Type 0} (r : Result A E) → ((e : E) → r ≡ Err e → ⊥) → OnOk r P → P
no_err (Ok x) none p = p
no_err (Err x) none p = absurd (none x refl)

pub both_ok : {X E A B C : Type 0} (r : Result X E) → (A → B → C) → OnOk r A → OnOk r B → OnOk r C
both_ok (Ok x) f a b = f a b
both_ok (Err e) f a b = tt

-- nothing is a part of a run, and nothing falls in it
pub goes_same : {order : Order} (d : DeskView) → ExtendsRun order [] d d
goes_same {order = order} d =
    record { settings = refl; began = refl; lives = omega arith; some = λ was. was; lawful = λ opening over k. k; run = λ opening script fallen over run. subst (λ (l : List Fallen). IsRun order opening script l d) (sym (append-nil fallen)) run }

-- the lives that are left, where none began
fewer : (before after : List Life) → after ≡ before → length after ≤ length before
fewer before after e = let same = ap (λ (xs : List Life). length xs) e in omega arith

-- what a desk tells of the state after its log
abbrev pub TellsAll : DeskView → Type 0
TellsAll d = (opening : List Op) → StandsFor opening d.core → DescribesState opening d

-- the state is blown where the life is, or the last one was
pub told_blown : (d : DeskView) → TellsAll d → (opening : List Op) → StandsFor opening d.core → has_blown (state_after opening d.core.log) ≡ is_blown d.core
told_blown d tells opening k = by (stands d.core) refl
  where
    s : Manager
    s = state_after opening d.core.log

    standing : (o : Option LifeState) → s.life ≡ o → HasBlown (is_blown d.core) o → has_blown s ≡ is_blown d.core
    standing None is h = absurd h
    standing (Some life) is h = rw is h

    by : (b : Bool) → stands d.core ≡ b → has_blown s ≡ is_blown d.core
    by true alive = standing s.life refl ((tells opening k).life alive)
    by false dead = ap (λ (o : Option LifeState). blown_in o s.blew) ((tells opening k).none dead) ∙ (tells opening k).blew dead

-- what a lane's move does to a run, by which so much falls
module _ {order : Order} (kind : Entry → Type 0) (blew : Bool) (lane : Lane) (d next : DeskView) (does : EffectBy kind blew lane d next) (may : May order lane d) (lives : next.place.lives ≡ d.place.lives) (more : List Fallen)
    (down : (opening : List Op) → StandsFor opening d.core → order.rests → GoesDownAtRest d.core.settings (state_after opening d.core.log) (state_after opening d.core.log).life does.adds.entry)
    (falls : (opening : List Op) → StandsFor opening d.core → falls_at does.adds.entry (state_after opening d.core.log).life (close_left d.place.segments) ≡ more) where
  falling_goes : ExtendsRun order more d next
  falling_goes =
      record {
        settings = does.goes.settings;
        began = does.goes.began;
        lives = fewer d.place.lives next.place.lives lives;
        some = λ was. rw does.adds.added (never_nil d.core.log does.adds.entry);
        lawful = λ opening over k. does.goes.lawful opening over k;
        run = λ opening script fallen over run.
            one_more opening script fallen more d next does.adds.entry run (does.goes.run opening script over run.goes) does.goes.settings does.goes.began (may.keeps opening script does.adds.entry run.goes does.of_lane) does.adds.added (down opening run.goes.stands) (falls opening run.goes.stands);
      }

-- a move by which no life goes down
step_goes : {order : Order} (kind : Entry → Type 0) (blew : Bool) (lane : Lane) (d next : DeskView) (does : EffectBy kind blew lane d next) → May order lane d → does.adds.entry ≢ Down → next.place.lives ≡ d.place.lives → ExtendsRun order [] d next
step_goes kind blew lane d next does chosen no_end lives =
    falling_goes kind blew lane d next does chosen lives []
    (λ opening k rests. no_down does.adds.entry d.core.settings (state_after opening d.core.log) (state_after opening d.core.log).life no_end)
    (λ opening k. falls_none does.adds.entry (state_after opening d.core.log).life (close_left d.place.segments) no_end)

-- and nothing is kept or refused
step_unkept : (lane : Lane) (d next : DeskView) (does : LaneEffect lane d next) → TellsAll d → TellsAll next → is_plain does.adds.entry ≡ true → IsUnkept d next
step_unkept lane d next does tells told plain =
    record {
      kept = λ opening k image h.
          let was = does.adds.added in
          let kept : (state_after opening next.core.log).kept ≡ (state_after opening d.core.log).kept = rw was (kept_stays opening d.core.log does.adds.entry plain) in
          holds_on (state_after opening d.core.log) (state_after opening next.core.log)
          (told_blown next told opening (does.goes.lawful opening tt k) ∙ does.blown ∙ sym (told_blown d tells opening k)) kept
          (λ op first. rw was (first_stays opening d.core.log does.adds.entry plain op first)) image h;
      more = does.adds.entry ∷ [];
      grows = does.adds.added;
    }

-- what a move does that touches neither the store nor the end of a segment
pub record Works (order : Order) (d next : DeskView) : Type 0 where
  pub goes : ExtendsRun order [] d next
  pub same : IsUnkept d next
  pub close : close_left next.place.segments ≡ close_left d.place.segments
  pub blown : is_blown next.core ≡ is_blown d.core

-- where it is of the manager's own work, its entry leaves the place as it is
quiet_works : {order : Order} (lane : Lane) (d next : DeskView) (does : LaneEffect lane d next) → TellsAll d → TellsAll next → May order lane d → IsQuiet does.adds.entry → Works order d next
quiet_works lane d next does tells told chosen quiet =
    let place : next.place ≡ d.place = does.adds.place ∙ quiet.stays d.place in
    record {
      goes = step_goes (IsEntryOf lane d) (is_blown d.core) lane d next does chosen (plain_stands does.adds.entry quiet.plain) (ap (λ (p : Place). p.lives) place);
      same = step_unkept lane d next does tells told quiet.plain;
      close = ap (λ (p : Place). close_left p.segments) place;
      blown = does.blown;
    }

pub close_without : (sender : Sender) (segments : List Segment) → close_left (segments_without sender segments) ≡ close_left segments
close_without sender [] = refl
close_without sender (segment ∷ more) = refl

-- a message is answered
serve_works : {order : Order} (sender : Sender) (lane : Lane) (d next : DeskView) (does : LaneEffect lane d next) → TellsAll d → TellsAll next → Answers sender d does.adds.entry → May order lane d → Works order d next
serve_works sender lane d next does tells told answers chosen =
    let is = answers.3 in
    let place : next.place ≡ record { lives = d.place.lives; segments = segments_without sender d.place.segments } =
    does.adds.place ∙ ap (λ (e : Entry). moved d.place e) is in
    let segments : next.place.segments ≡ segments_without sender d.place.segments = ap (λ (p : Place). p.segments) place in
    let plain : is_plain does.adds.entry ≡ true = ap is_plain is in
    record {
      goes = step_goes (IsEntryOf lane d) (is_blown d.core) lane d next does chosen (plain_stands does.adds.entry plain) (ap (λ (p : Place). p.lives) place);
      same = step_unkept lane d next does tells told plain;
      close = ap close_left segments ∙ close_without sender d.place.segments;
      blown = does.blown;
    }

pub works : {order : Order} (lane : Lane) (d next : DeskView) → LaneEffect lane d next → TellsAll d → TellsAll next → May order lane d → IsStep lane → lane ≢ End → Works order d next
works Client d next does tells told chosen step goes = serve_works senders.Client Client d next does tells told does.adds.of_kind chosen
works Main d next does tells told chosen step goes = quiet_works Main d next does tells told chosen (main_quiet does.adds.entry does.adds.of_kind)
works Sched d next does tells told chosen step goes = quiet_works Sched d next does tells told chosen (sched_quiet does.adds.entry does.adds.of_kind)
works Hand d next does tells told chosen step goes = quiet_works Hand d next does tells told chosen (hand_quiet does.adds.entry does.adds.of_kind)
works Master d next does tells told chosen step goes = serve_works senders.Master Master d next does tells told does.adds.of_kind chosen
works Node d next does tells told chosen step goes = serve_works senders.Node Node d next does tells told does.adds.of_kind chosen
works Clock d next does tells told chosen step goes = serve_works senders.Clock Clock d next does tells told does.adds.of_kind chosen
works End d next does tells told chosen step goes = absurd (goes refl)
works Write d next does tells told chosen step goes = absurd step
works Begin d next does tells told chosen step goes = absurd step

-- THE STORE

-- the operation that is with the store is kept
pub kept_goes : {order : Order} (d next : DeskView) → LaneEffect Write d next → May order Write d → ExtendsRun order [] d next
kept_goes d next does chosen =
    let is = does.adds.of_kind.2 in
    let place : next.place ≡ d.place = does.adds.place ∙ ap (λ (e : Entry). moved d.place e) is in
    step_goes (IsEntryOf Write d) (is_blown d.core) Write d next does chosen (λ down. let x = sym is ∙ down in cc) (ap (λ (p : Place). p.lives) place)

-- or refused
pub blown_goes : {order : Order} (d next : DeskView) (passed : ℕ) → StoreBlows passed d next → May order Write d → ExtendsRun order [] d next
blown_goes d next passed does chosen =
    let is = does.adds.of_kind in
    let place : next.place ≡ d.place = does.adds.place ∙ ap (λ (e : Entry). moved d.place e) is in
    step_goes (λ e. e ≡ Blown passed) true Write d next does chosen (λ down. let x = sym is ∙ down in cc) (ap (λ (p : Place). p.lives) place)

pub kept_close : (d next : DeskView) → LaneEffect Write d next → close_left next.place.segments ≡ close_left d.place.segments
kept_close d next does = ap (λ (p : Place). close_left p.segments) (does.adds.place ∙ ap (λ (e : Entry). moved d.place e) does.adds.of_kind.2)

pub blown_close : (d next : DeskView) (passed : ℕ) → StoreBlows passed d next → close_left next.place.segments ≡ close_left d.place.segments
blown_close d next passed does = ap (λ (p : Place). close_left p.segments) (does.adds.place ∙ ap (λ (e : Entry). moved d.place e) does.adds.of_kind)

-- A SEGMENT CLOSES

-- the entry with which a segment closes
settled_is : (d next : DeskView) (does : LaneEffect End d next) → close_left d.place.segments ≡ Some Settle → does.adds.entry ≡ Settled
settled_is d next does c = rw c at does.adds.of_kind

down_is : (d next : DeskView) (does : LaneEffect End d next) (calls image : ℕ) → close_left d.place.segments ≡ Some (Crash calls image) → does.adds.entry ≡ Down
down_is d next does calls image c = rw c at does.adds.of_kind

-- the current segment settles
pub settle_goes : {order : Order} (d next : DeskView) → LaneEffect End d next → TellsAll d → TellsAll next → May order End d → close_left d.place.segments ≡ Some Settle → ExtendsRun order [] d next × IsUnkept d next
settle_goes d next does tells told chosen c =
    let is = settled_is d next does c in
    let place : next.place ≡ record { lives = d.place.lives; segments = rest_of d.place.segments } = does.adds.place ∙ ap (λ (e : Entry). moved d.place e) is in
    let plain : is_plain does.adds.entry ≡ true = ap is_plain is in (
      step_goes (IsEntryOf End d) (is_blown d.core) End d next does chosen (plain_stands does.adds.entry plain) (ap (λ (p : Place). p.lives) place),
      step_unkept End d next does tells told plain,
    )

-- a segment of a life that blew doesn't settle
pub settling_unblown : (d : DeskView) → IsDeskSound d → stands d.core ≡ true → close_left d.place.segments ≡ Some Settle → is_blown d.core ≡ false
settling_unblown d sound alive c = by (is_blown d.core) refl
  where
    by : (b : Bool) → is_blown d.core ≡ b → b ≡ false
    by true blown = absurd (subst IsLast c (sound.blown alive blown))
    by false blown = refl

-- a life that rests may go down, and so may one that blew
at_rest_down : (settings : Settings) (s : Manager) (b : Bool) (life : Option LifeState) → HasBlown b life → (b ≡ false → IsAtRest settings s life) → GoesDownAtRest settings s life Down
at_rest_down settings s b None has rest = tt
at_rest_down settings s b (Some life) has rest = λ unblown. rest (sym has ∙ unblown)

-- and the device falls as its crash says
falls_down : (b : Bool) (life : Option LifeState) (calls image : ℕ) → HasBlown b life → falls_at Down life (Some (Crash calls image)) ≡ fall calls image b ∷ []
falls_down b None calls image h = absurd h
falls_down b (Some life) calls image h = rw h refl

-- what is kept stays, and what awaits
down_kept : (s : Manager) (life : Option LifeState) → (after_where s life Down).kept ≡ s.kept
down_kept s None = refl
down_kept s (Some life) = refl

down_awaits : (s : Manager) (life : Option LifeState) → (after_where s life Down).awaiting ≡ s.awaiting
down_awaits s None = refl
down_awaits s (Some life) = refl

-- the life goes down
module _ {order : Order} (d next : DeskView) (does : LaneEffect End d next) (may : May order End d) (tells : TellsAll d) (told : TellsAll next) (idle : is_blown d.core ≡ false → HasNoWork d → has_rest d.core)
    (calls image : ℕ) (c : close_left d.place.segments ≡ Some (Crash calls image)) where
  down_entry : does.adds.entry ≡ Down
  down_entry = down_is d next does calls image c

  down_place : next.place ≡ record { lives = d.place.lives; segments = rest_of d.place.segments }
  down_place = does.adds.place ∙ ap (λ (e : Entry). moved d.place e) down_entry

  down_log : next.core.log ≡ d.core.log ++ Down ∷ []
  down_log = does.adds.added ∙ ap (λ (e : Entry). d.core.log ++ e ∷ []) down_entry

  pub down_goes : ExtendsRun order (fall calls image (is_blown d.core) ∷ []) d next
  down_goes =
      falling_goes (IsEntryOf End d) (is_blown d.core) End d next does may (ap (λ (p : Place). p.lives) down_place) (fall calls image (is_blown d.core) ∷ [])
      (λ opening k rests.
      let s = state_after opening d.core.log in
      subst (GoesDownAtRest d.core.settings s s.life) (sym down_entry)
      (at_rest_down d.core.settings s (is_blown d.core) s.life ((tells opening k).life does.stood) (λ unblown. (tells opening k).at_rest (idle unblown (may.rests rests refl unblown)))))
      (λ opening k. ap (λ (e : Entry). falls_at e (state_after opening d.core.log).life (close_left d.place.segments)) down_entry
      ∙ ap (λ (close : Option Close). falls_at Down (state_after opening d.core.log).life close) c
      ∙ falls_down (is_blown d.core) (state_after opening d.core.log).life calls image ((tells opening k).life does.stood))

  pub down_unkept : IsUnkept d next
  down_unkept =
      record {
        kept = λ opening k image h.
            let s = state_after opening d.core.log in
            let now : state_after opening next.core.log ≡ after s Down = ap (λ (l : List Entry). state_after opening l) down_log ∙ fold_push after (opening_state opening) d.core.log Down in
            holds_on s (state_after opening next.core.log) (told_blown next told opening (does.goes.lawful opening tt k) ∙ does.blown ∙ sym (told_blown d tells opening k))
            (ap (λ (m : Manager). m.kept) now ∙ down_kept s s.life) (λ op first. ap (λ (m : Manager). slice_get m.awaiting 0) now ∙ ap (λ (ops : List Op). slice_get ops 0) (down_awaits s s.life) ∙ first) image h;
        more = does.adds.entry ∷ [];
        grows = does.adds.added;
      }

-- A LIFE BEGINS

-- over what the last one left
module _ (tree : Records) (d next : DeskView) (begins : LifeBegins tree d next) where
  abbrev life : Life
  life = begins.adds.of_kind.0

  abbrev more : List Life
  more = (first_of d.place.lives life begins.adds.of_kind.1).0

  whole : d.place.lives ≡ life ∷ more
  whole = (first_of d.place.lives life begins.adds.of_kind.1).1

  place : next.place ≡ record { lives = more; segments = life.segments }
  place = begins.adds.place ∙ ap (λ (e : Entry). moved d.place e) begins.adds.of_kind.2 ∙ ap (λ (xs : List Life). place_begun xs d.place) whole

  pub begin_fewer : length next.place.lives < length d.place.lives
  begin_fewer = let now = ap (λ (p : Place). length p.lives) place in let were = ap (λ (xs : List Life). length xs) whole in omega (arith, now, were)

  not_down : begins.adds.entry ≢ Down
  not_down = λ down. let x = sym begins.adds.of_kind.2 ∙ down in cc

  pub begin_goes : {order : Order} → May order Begin d → ExtendsRunOver order (λ opening. IsLeftAfter tree opening d.core.log) [] d next
  begin_goes may =
      record {
        settings = begins.goes.settings;
        began = begins.goes.began;
        lives = let less = begin_fewer in omega (arith, less);
        some = λ was. rw begins.adds.added (never_nil d.core.log begins.adds.entry);
        lawful = λ opening over k. begins.goes.lawful opening over k;
        run = λ opening script fallen over run.
            one_more opening script fallen [] d next begins.adds.entry run (begins.goes.run opening script over run.goes) begins.goes.settings begins.goes.began (may.keeps opening script begins.adds.entry run.goes (ap lane_of_entry begins.adds.of_kind.2)) begins.adds.added
            (λ rests. no_down begins.adds.entry d.core.settings (state_after opening d.core.log) (state_after opening d.core.log).life not_down)
            (falls_none begins.adds.entry (state_after opening d.core.log).life (close_left d.place.segments) not_down);
      }

  -- the state that it begins with
  opened_kept : (s : Manager) (stood : Option LifeState) (landed epoch stamp : ℕ) → stood ≡ None → (after_where s stood (Opened landed epoch stamp)).kept ≡ kept_after_landing s landed
  opened_kept s None landed epoch stamp e = refl
  opened_kept s (Some one) landed epoch stamp e = cc

  opened_unblown : (s : Manager) (stood : Option LifeState) (landed epoch stamp : ℕ) → stood ≡ None → has_blown (after_where s stood (Opened landed epoch stamp)) ≡ false
  opened_unblown s None landed epoch stamp e = refl
  opened_unblown s (Some one) landed epoch stamp e = cc

  begin_state : (opening : List Op) → state_after opening next.core.log ≡ after (state_after opening d.core.log) (Opened (landed_over d.core tree) tree.next_epoch (stamp_of life tree.stamp))
  begin_state opening =
      ap (λ (l : List Entry). state_after opening l) begins.adds.added ∙ fold_push after (opening_state opening) d.core.log begins.adds.entry ∙ ap (λ (e : Entry). after (state_after opening d.core.log) e) begins.adds.of_kind.2

  pub begin_kept : TellsAll d → BeganLife tree d next
  begin_kept tells =
      record {
        kept = λ opening k.
            let s = state_after opening d.core.log in
            ap (λ (m : Manager). m.kept) (begin_state opening) ∙ opened_kept s s.life (landed_over d.core tree) tree.next_epoch (stamp_of life tree.stamp) ((tells opening k).none begins.stood);
        unblown = λ opening k.
            let s = state_after opening d.core.log in
            ap has_blown (begin_state opening) ∙ opened_unblown s s.life (landed_over d.core tree) tree.next_epoch (stamp_of life tree.stamp) ((tells opening k).none begins.stood);
        more = begins.adds.entry ∷ [];
        grows = begins.adds.added;
        some = rw begins.adds.added (never_nil d.core.log begins.adds.entry);
      }
