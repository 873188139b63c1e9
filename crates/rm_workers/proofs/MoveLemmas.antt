-- A desk that goes on from the one with which a life began, move by move.
use Rattle.std.proofs.Common.{◌≡◌, ℕ, List, [], ◌∷◌, ◌++◌, Bool, true, false, not, Some, None, Option, Ok, Err, Result, length, drop, refl, sym, ◌∙◌, ap, subst, append-nil, append_assoc}
use Rattle.std.specs.Prelude.{OnErr, OnOk}
use Rattle.std.specs.List.{fold}
use Rattle.std.proofs.lemmas.List.Sums.{fold-append}
use Rattle.std.proofs.lemmas.Option.{same_Some}
use Rattle.rm_types.specs.declared.entries.Entry.{Entry}
use Rattle.rm_types.specs.declared.entries.Entry.TheVariants.{Opened, Handed, Kept, Blown, Settled, Down}
use Rattle.rm_types.specs.declared.messages.Lane.{Lane}
use Rattle.rm_types.specs.declared.messages.Lane.TheVariants.{Client, Master, Node, Clock, Main, Sched, Hand, Write, End, Begin}
use Rattle.rm_types.specs.declared.operations.Op.{Op}
use Rattle.rm_types.specs.declared.scripts.Close.{Close}
use Rattle.rm_types.specs.declared.scripts.Close.TheVariants.{Settle, Crash}
use Rattle.rm_types.specs.Lists.{is_nil}
use Rattle.rm_disk.specs.declared.fallen.Fallen.{Fallen}
use Rattle.rm_model.specs.Place.{Place, close_left, moved}
use Rattle.rm_tables.specs.declared.events.Refused.{Refused}
use Rattle.rm_core.specs.Seen.{IsToBeKept, StandsFor}
use Rattle.rm_core.specs.Words.{handed_of, has_rest, is_blown, stands}
use Rattle.rm_desk.specs.Effects.{StoreBlows, LaneEffect, EffectBy, IsEntryOf}
use Rattle.rm_desk.specs.Lanes.{HasNoWork, IsStep, is_ready_at, life_goes_on}
use Rattle.rm_desk.specs.Runs.{IsPlaceSound}
use Rattle.rm_desk.specs.View.{DeskView}
use Rattle.rm_lives.specs.Falls.{fall}
use Rattle.rm_lives.specs.Goes.{ExtendsRun}
use Rattle.rm_lives.specs.Order.{May}
use Rattle.rm_lives.proofs.Ordering.{ready_may}
use Rattle.rm_lives.proofs.Ending.{goes_trans}
use Rattle.rm_lives.proofs.Longer.{is_plain, main_quiet, sched_quiet}
use Rattle.rm_lives.proofs.Moving.{TellsAll, blown_goes, down_goes, goes_same, kept_goes, settle_goes, works}
use Rattle.rm_workers.specs.AnyOrder.{any_order}
use Rattle.rm_workers.specs.Came.{Came, Moves, Went, blown_on, came, come_on, come_to, fall_by, falls_on, since, stands_on}

-- THE ORDER

-- any lane that is ready may move next, but that a life goes down only at rest or blown
pub may_any : (lane : Lane) (d : DeskView) → is_ready_at d lane ≡ true → (lane ≡ End → is_blown d.core ≡ false → HasNoWork d) → May any_order lane d
may_any lane d ready rests = ready_may any_order lane d ready (λ new script opening log h. h) (λ new script opening log h. h) (λ always end unblown. rests end unblown)

none_nil : {X : Type 0} (xs : List X) → xs ≡ [] → not (is_nil xs) ≡ false
none_nil xs is = rw is refl

-- where nothing is left to do in a life that stands, no lane of the manager's own work is ready
pub rest_idle : (d : DeskView) → stands d.core ≡ true → has_rest d.core → HasNoWork d
rest_idle d alive rest Main work = none_nil d.core.tables.main rest.0
rest_idle d alive rest Sched work = none_nil d.core.tables.sched rest.1
rest_idle d alive rest Hand work = rw (alive, rest.2) refl
rest_idle d alive rest Write work = rw alive rest.3
rest_idle d alive rest Client work = absurd work
rest_idle d alive rest Master work = absurd work
rest_idle d alive rest Node work = absurd work
rest_idle d alive rest Clock work = absurd work
rest_idle d alive rest End work = absurd work
rest_idle d alive rest Begin work = absurd work

-- HOW FAR A LIFE HAS COME

drop_append : {X : Type 0} (xs ys : List X) → drop (length xs) (xs ++ ys) ≡ ys
drop_append [] ys = refl
drop_append (x ∷ xs) ys = drop_append xs ys

pub since_is : (began : DeskView) (log more : List Entry) → log ≡ began.core.log ++ more → since began log ≡ more
since_is began log more grows = ap (λ (l : List Entry). since began l) grows ∙ drop_append began.core.log more

-- some entries further
pub came_more : (began : DeskView) (log more es : List Entry) → log ≡ began.core.log ++ more → came began (log ++ es) ≡ fold come_on (came began log) es
came_more began log more es grows =
    ap (λ (l : List Entry). fold come_on (come_to began) l) (since_is began (log ++ es) (more ++ es) (ap (λ (l : List Entry). l ++ es) grows ∙ append_assoc began.core.log more es))
    ∙ fold-append come_on (come_to began) more es
    ∙ ap (λ (l : List Entry). fold come_on (fold come_on (come_to began) l) es) (sym (since_is began log more grows))

-- one entry further
pub came_push : (began : DeskView) (log longer more : List Entry) (e : Entry) → log ≡ began.core.log ++ more → longer ≡ log ++ e ∷ [] → came began longer ≡ come_on (came began log) e
came_push began log longer more e grows added = ap (λ (l : List Entry). came began l) added ∙ came_more began log more (e ∷ []) grows

-- a desk goes on from itself
pub went_same : (d : DeskView) → stands d.core ≡ true → Went d d
went_same d alive =
    let none : since d d.core.log ≡ [] = since_is d d.core.log [] (sym (append-nil d.core.log)) in
    let here : came d d.core.log ≡ come_to d = ap (λ (l : List Entry). fold come_on (come_to d) l) none in
    record {
      more = [];
      grows = sym (append-nil d.core.log);
      place = sym (ap (λ (c : Came). c.place) here);
      blown = sym (ap (λ (c : Came). c.blown) here);
      standing = alive ∙ sym (ap (λ (c : Came). c.standing) here);
      unfallen = λ stood. ap (λ (c : Came). c.falls) here;
      goes = subst (λ (l : List Fallen). ExtendsRun any_order l d d) (sym (ap (λ (c : Came). c.falls) here)) (goes_same d);
    }

-- one move further
went_on : (began d next : DeskView) (e : Entry) → Went began d → stands d.core ≡ true → next.core.log ≡ d.core.log ++ e ∷ [] → next.place ≡ moved d.place e → is_blown next.core ≡ blown_on (is_blown d.core) e → stands next.core ≡ stands_on true e
    → (stands next.core ≡ true → falls_on (close_left d.place.segments) (is_blown d.core) e ≡ [])
    → ExtendsRun any_order (falls_on (close_left d.place.segments) (is_blown d.core) e) d next → Went began next
went_on began d next e went alive added place blown standing unfallen goes =
    let c : Came = came began d.core.log in
    let is : came began next.core.log ≡ come_on c e = came_push began d.core.log next.core.log went.more e went.grows added in
    let falls : (came began next.core.log).falls ≡ c.falls ++ falls_on (close_left d.place.segments) (is_blown d.core) e =
    ap (λ (x : Came). x.falls) is ∙ ap (λ (p : Place). c.falls ++ falls_on (close_left p.segments) c.blown e) (sym went.place)
    ∙ ap (λ (b : Bool). c.falls ++ falls_on (close_left d.place.segments) b e) (sym went.blown) in
    record {
      more = went.more ++ e ∷ [];
      grows = added ∙ ap (λ (l : List Entry). l ++ e ∷ []) went.grows ∙ append_assoc began.core.log went.more (e ∷ []);
      place = place ∙ ap (λ (p : Place). moved p e) went.place ∙ sym (ap (λ (x : Came). x.place) is);
      blown = blown ∙ ap (λ (b : Bool). blown_on b e) went.blown ∙ sym (ap (λ (x : Came). x.blown) is);
      standing = standing ∙ ap (λ (b : Bool). stands_on b e) (sym alive ∙ went.standing) ∙ sym (ap (λ (x : Came). x.standing) is);
      unfallen = λ stood. falls ∙ ap (λ (l : List Fallen). l ++ falls_on (close_left d.place.segments) (is_blown d.core) e) (went.unfallen alive) ∙ unfallen stood;
      goes = subst (λ (l : List Fallen). ExtendsRun any_order l began next) (sym falls)
          (goes_trans (λ opening. Unit {0}) c.falls (falls_on (close_left d.place.segments) (is_blown d.core) e) began d next went.goes goes);
    }

-- MOVES

-- an entry by which nothing is kept or refused, no life begins and none goes down
pub record IsStill (e : Entry) : Type 0 where
  pub blown : (b : Bool) → blown_on b e ≡ b
  pub standing : (b : Bool) → stands_on b e ≡ b
  pub falls : (close : Option Close) (b : Bool) → falls_on close b e ≡ []

pub plain_still : (e : Entry) → is_plain e ≡ true → IsStill e
plain_still (Opened landed epoch stamp) plain = let x = plain in cc
plain_still (Kept op) plain = let x = plain in cc
plain_still (Blown passed) plain = let x = plain in cc
plain_still Down plain = let x = plain in cc
plain_still _ plain = record { blown = λ b. refl; standing = λ b. refl; falls = λ close b. refl }

-- a move by such an entry
still_went : (began d next : DeskView) (kind : Entry → Type 0) (lane : Lane) (does : EffectBy kind (is_blown d.core) lane d next) → Went began d → IsStill does.adds.entry → life_goes_on lane (close_left d.place.segments) ≡ true
    → ExtendsRun any_order [] d next → Went began next
still_went began d next kind lane does went still stays goes =
    let e = does.adds.entry in
    went_on began d next e went does.stood does.adds.added does.adds.place (does.blown ∙ sym (still.blown (is_blown d.core))) (does.standing ∙ stays ∙ sym (still.standing true))
    (λ stood. still.falls (close_left d.place.segments) (is_blown d.core))
    (subst (λ (l : List Fallen). ExtendsRun any_order l d next) (sym (still.falls (close_left d.place.segments) (is_blown d.core))) goes)

-- an entry that is this one
is_still : (e one : Entry) → e ≡ one → is_plain one ≡ true → IsStill e
is_still e one is plain = subst IsStill (sym is) (plain_still one plain)

module _ (began d next : DeskView) (went : Went began d) (tells : TellsAll d) (told : TellsAll next) where
  -- the current segment closes
  module _ (does : LaneEffect End d next) (may : May any_order End d) (idle : is_blown d.core ≡ false → HasNoWork d → has_rest d.core) where
    settled_went : close_left d.place.segments ≡ Some Settle → Went began next
    settled_went c =
        let is : does.adds.entry ≡ Settled = rw c at does.adds.of_kind in
        still_went began d next (IsEntryOf End d) End does went (is_still does.adds.entry Settled is refl) (ap (life_goes_on End) c) (settle_goes d next does tells told may c).0

    down_went : (calls image : ℕ) → close_left d.place.segments ≡ Some (Crash calls image) → Went began next
    down_went calls image c =
        let e = does.adds.entry in
        let is : e ≡ Down = rw c at does.adds.of_kind in
        let gone : stands next.core ≡ false = does.standing ∙ ap (life_goes_on End) c in
        let falls : falls_on (close_left d.place.segments) (is_blown d.core) e ≡ fall calls image (is_blown d.core) ∷ [] =
        ap (λ (x : Entry). falls_on (close_left d.place.segments) (is_blown d.core) x) is ∙ ap (λ (close : Option Close). fall_by close (is_blown d.core)) c in
        went_on began d next e went does.stood does.adds.added does.adds.place (does.blown ∙ sym (ap (blown_on (is_blown d.core)) is)) (gone ∙ sym (ap (stands_on true) is))
        (λ stood. let x = sym gone ∙ stood in cc)
        (subst (λ (l : List Fallen). ExtendsRun any_order l d next) (sym falls) (down_goes d next does may tells told idle calls image c))

    closed_went : (close : Option Close) → close_left d.place.segments ≡ close → Went began next
    closed_went None c = absurd (rw c at does.adds.of_kind)
    closed_went (Some Settle) c = settled_went c
    closed_went (Some (Crash calls image)) c = down_went calls image c

  -- a lane of the desk's own moves
  lane_went : (lane : Lane) → LaneEffect lane d next → is_ready_at d lane ≡ true → (is_blown d.core ≡ false → HasNoWork d → has_rest d.core) → (lane ≡ End → is_blown d.core ≡ false → has_rest d.core) → IsStep lane → Went began next
  lane_went lane does ready idle rests step = by lane does may step
    where
      may : May any_order lane d
      may = may_any lane d ready (λ end unblown. rest_idle d does.stood (rests end unblown))

      by : (lane : Lane) → LaneEffect lane d next → May any_order lane d → IsStep lane → Went began next
      by Client does may step = still_went began d next (IsEntryOf Client d) Client does went (is_still does.adds.entry _ does.adds.of_kind.3 refl) refl (works Client d next does tells told may tt (λ e. cc)).goes
      by Master does may step = still_went began d next (IsEntryOf Master d) Master does went (is_still does.adds.entry _ does.adds.of_kind.3 refl) refl (works Master d next does tells told may tt (λ e. cc)).goes
      by Node does may step = still_went began d next (IsEntryOf Node d) Node does went (is_still does.adds.entry _ does.adds.of_kind.3 refl) refl (works Node d next does tells told may tt (λ e. cc)).goes
      by Clock does may step = still_went began d next (IsEntryOf Clock d) Clock does went (is_still does.adds.entry _ does.adds.of_kind.3 refl) refl (works Clock d next does tells told may tt (λ e. cc)).goes
      by Main does may step = still_went began d next (IsEntryOf Main d) Main does went (plain_still does.adds.entry (main_quiet does.adds.entry does.adds.of_kind).plain) refl (works Main d next does tells told may tt (λ e. cc)).goes
      by Sched does may step = still_went began d next (IsEntryOf Sched d) Sched does went (plain_still does.adds.entry (sched_quiet does.adds.entry does.adds.of_kind).plain) refl (works Sched d next does tells told may tt (λ e. cc)).goes
      by Hand does may step = still_went began d next (IsEntryOf Hand d) Hand does went (is_still does.adds.entry Handed does.adds.of_kind refl) refl (works Hand d next does tells told may tt (λ e. cc)).goes
      by End does may step = closed_went does may idle (close_left d.place.segments) refl
      by Write does may step = absurd step
      by Begin does may step = absurd step

may_write : (d : DeskView) → is_ready_at d Write ≡ true → May any_order Write d
may_write d ready = may_any Write d ready (λ end. cc)

-- the operation that is with the store is kept
kept_went : (began d next : DeskView) → Went began d → LaneEffect Write d next → is_ready_at d Write ≡ true → Went began next
kept_went began d next went does ready =
    let is = does.adds.of_kind.2 in
    let still : IsStill does.adds.entry = subst IsStill (sym is) (record { blown = λ b. refl; standing = λ b. refl; falls = λ close b. refl }) in
    still_went began d next (IsEntryOf Write d) Write does went still refl (kept_goes d next does (may_write d ready))

-- or refused
blown_went : (began d next : DeskView) (passed : ℕ) → Went began d → StoreBlows passed d next → is_ready_at d Write ≡ true → Went began next
blown_went began d next passed went does ready =
    let e = does.adds.entry in
    let is : e ≡ Blown passed = does.adds.of_kind in
    let none : falls_on (close_left d.place.segments) (is_blown d.core) e ≡ [] = ap (falls_on (close_left d.place.segments) (is_blown d.core)) is in
    went_on began d next e went does.stood does.adds.added does.adds.place (does.blown ∙ sym (ap (blown_on (is_blown d.core)) is)) (does.standing ∙ sym (ap (stands_on true) is)) (λ stood. none)
    (subst (λ (l : List Fallen). ExtendsRun any_order l d next) (sym none) (blown_goes d next passed does (may_write d ready)))

-- WHERE A MOVE WAS ASKED FOR

stays_went : (began d next : DeskView) → Went began d → next ≡ d → Went began next
stays_went began d next went same = subst (Went began) (sym same) went

pub stepped_went : (began d next : DeskView) (lane : Lane) (made : Result (Unit {0}) Refused) → Went began d → OnOk made (LaneEffect lane d next) → OnOk made (is_ready_at d lane ≡ true) → OnErr made (next ≡ d) → TellsAll d → TellsAll next
    → (stands d.core ≡ true → is_blown d.core ≡ false → HasNoWork d → has_rest d.core) → (lane ≡ End → is_blown d.core ≡ false → has_rest d.core) → IsStep lane → Went began next
stepped_went began d next lane (Ok x) went does ready same tells told idle rests step = lane_went began d next went tells told lane does ready (idle does.stood) rests step
stepped_went began d next lane (Err x) went does ready same tells told idle rests step = stays_went began d next went same

pub stepped_moves : (began d next : DeskView) (lane : Lane) (made : Result (Unit {0}) Refused) → Went began d → OnOk made (LaneEffect lane d next) → OnOk made (is_ready_at d lane ≡ true) → TellsAll d → TellsAll next → IsPlaceSound d
    → (stands d.core ≡ true → is_blown d.core ≡ false → HasNoWork d → has_rest d.core) → (lane ≡ End → is_blown d.core ≡ false → has_rest d.core) → IsStep lane → OnOk made (Moves began lane d next)
stepped_moves began d next lane (Ok x) went does ready tells told sound idle rests step =
    record { does = does; ready = ready; went = went; further = lane_went began d next went tells told lane does ready (idle does.stood) rests step; sound = sound; idle = idle does.stood; told = tells; tells = told }
stepped_moves began d next lane (Err x) went does ready tells told sound idle rests step = tt

pub learned_both : (began d next : DeskView) (made : Result (Unit {0}) Refused) → Went began d → OnOk made (LaneEffect Write d next) → OnOk made (is_ready_at d Write ≡ true) → OnOk made (Went began d × Went began next)
learned_both began d next (Ok x) went does ready = (went, kept_went began d next went does ready)
learned_both began d next (Err x) went does ready = tt

pub refused_both : (began d next : DeskView) (passed : ℕ) (made : Result (Unit {0}) Refused) → Went began d → OnOk made (StoreBlows passed d next) → OnOk made (is_ready_at d Write ≡ true) → OnOk made (Went began d × Went began next)
refused_both began d next passed (Ok x) went does ready = (went, blown_went began d next passed went does ready)
refused_both began d next passed (Err x) went does ready = tt

pub closes_at : (began d : DeskView) (passed : ℕ) → Went began d → (image : ℕ) × (close_left (came began d.core.log).place.segments ≡ Some (Crash passed image)) → (image : ℕ) × (close_left d.place.segments ≡ Some (Crash passed image))
closes_at began d passed went closes = (closes.0, ap (λ (p : Place). close_left p.segments) went.place ∙ closes.1)

pub learned_went : (began d next : DeskView) (made : Result (Unit {0}) Refused) → Went began d → OnOk made (LaneEffect Write d next) → OnOk made (is_ready_at d Write ≡ true) → OnErr made (next ≡ d) → Went began next
learned_went began d next (Ok x) went does ready same = kept_went began d next went does ready
learned_went began d next (Err x) went does ready same = stays_went began d next went same

-- the operation that was with the store is the one that is kept
pub learned_says : (d next : DeskView) (op : Op) (made : Result (Unit {0}) Refused) → OnOk made (LaneEffect Write d next) → Some op ≡ handed_of d.core → ((opening : List Op) → StandsFor opening d.core → IsToBeKept opening d.core op)
    → OnOk made ((opening : List Op) → StandsFor opening d.core → (one : Op) × IsToBeKept opening d.core one × (next.core.log ≡ d.core.log ++ Kept one ∷ []))
learned_says d next op (Ok x) does is to_keep = λ opening k.
    let same : does.adds.of_kind.0 ≡ op = same_Some does.adds.of_kind.0 op (sym does.adds.of_kind.1 ∙ sym is) in
    (op, to_keep opening k, does.adds.added ∙ ap (λ (e : Entry). d.core.log ++ e ∷ []) (does.adds.of_kind.2 ∙ ap (λ (one : Op). Kept one) same))
learned_says d next op (Err x) does is to_keep = tt

pub refused_went : (began d next : DeskView) (passed : ℕ) (made : Result (Unit {0}) Refused) → Went began d → OnOk made (StoreBlows passed d next) → OnOk made (is_ready_at d Write ≡ true) → OnErr made (next ≡ d) → Went began next
refused_went began d next passed (Ok x) went does ready same = blown_went began d next passed went does ready
refused_went began d next passed (Err x) went does ready same = stays_went began d next went same

-- the fall of the device by which a life went down
pub down_falls : (began d next : DeskView) (calls image : ℕ) → Went began d → (does : LaneEffect End d next) → close_left d.place.segments ≡ Some (Crash calls image)
    → (came began next.core.log).falls ≡ fall calls image (is_blown d.core) ∷ []
down_falls began d next calls image went does c =
    let e = does.adds.entry in
    let is : e ≡ Down = rw c at does.adds.of_kind in
    let before : Came = came began d.core.log in
    ap (λ (x : Came). x.falls) (came_push began d.core.log next.core.log went.more e went.grows does.adds.added)
    ∙ ap (λ (l : List Fallen). l ++ falls_on (close_left before.place.segments) before.blown e) (went.unfallen does.stood)
    ∙ ap (λ (p : Place). falls_on (close_left p.segments) before.blown e) (sym went.place)
    ∙ ap (λ (b : Bool). falls_on (close_left d.place.segments) b e) (sym went.blown)
    ∙ ap (λ (x : Entry). falls_on (close_left d.place.segments) (is_blown d.core) x) is
    ∙ ap (λ (close : Option Close). fall_by close (is_blown d.core)) c
