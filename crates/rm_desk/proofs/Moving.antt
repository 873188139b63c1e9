-- The moves of a desk, each a longer run, with less left.
use Rattle.std.proofs.Common.{◌≡◌, ◌≢◌, ℕ, ◌+◌, ◌*◌, ◌<◌, ◌≤◌, List, [], ◌∷◌, ◌++◌, true, false, ◌&&◌, Some, None, Option, Ok, Err, Result, length, refl, sym, ◌∙◌, ap, subst, arith}
use Rattle.std.specs.Prelude.{OnOk}
use Rattle.std.specs.List.{sum_by}
use Rattle.std.proofs.lemmas.List.Sums.{sum_by-cons}
use Rattle.std.proofs.lemmas.Bool.{and_parts}
use Rattle.rm_types.specs.declared.entries.Entry.{Entry}
use Rattle.rm_types.specs.declared.entries.Entry.TheVariants.{Blown, Handed, Kept, Served, Settled, Down}
use Rattle.rm_types.specs.declared.messages.Lane.{Lane}
use Rattle.rm_types.specs.declared.messages.Lane.TheVariants as lanes
use Rattle.rm_types.specs.declared.messages.Message.{Message}
use Rattle.rm_types.specs.declared.messages.Sender.{Sender}
use Rattle.rm_types.specs.declared.operations.Op.{Op}
use Rattle.rm_types.specs.declared.replies.Reply.{Reply}
use Rattle.rm_types.specs.declared.scripts.Close.{Close}
use Rattle.rm_types.specs.declared.scripts.Close.TheVariants.{Settle, Crash}
use Rattle.rm_types.specs.declared.scripts.Segment.{Segment}
use Rattle.rm_types.specs.Lanes.{feed_lane, lane_of_entry, sender_of}
use Rattle.rm_types.specs.Lists.{is_nil}
use Rattle.rm_model.specs.Lawful.{state_after}
use Rattle.rm_model.specs.Place.{Crashes, Place, Settles, close_left, first_from, messages_left, moved, rest_of, segments_without, without_first}
use Rattle.rm_core.specs.Moves.{MoveEffect as CoreDoes, GoesOnFrom, IsEntryOfMove, LifeAround, MeasureChanges, blown_after, served_after}
use Rattle.rm_tables.specs.declared.events.Refused.{Refused}
use Rattle.rm_core.specs.declared.manager.Move.{Move}
use Rattle.rm_core.specs.Seen.{Seen, StandsFor}
use Rattle.rm_types.specs.Limits.{most_served}
use Rattle.rm_types.proofs.TestLemmas.{nil_is}
use Rattle.rm_core.specs.Words.{IsServable, as_new, can_go_down, handed_of, has_rest, is_blown, measure_added, ready_at, served_in, stands, measure_of}
use Rattle.rm_desk.specs.declared.feeds.Feeds.{Feeds}
use Rattle.rm_desk.specs.View.{DeskView}
use Rattle.rm_desk.specs.Scripts.{AllLive, CanFollow, EndsInCrash}
use Rattle.rm_types.specs.Segments.{messages_in}
use Rattle.rm_desk.specs.Lanes.{IsWork, may_close, life_goes_on}
use Rattle.rm_desk.specs.Feeds.{IsEntered, at, feeds_place}
use Rattle.rm_desk.specs.Runs.{IsLast, IsPlaceSound, segment_cost}
use Rattle.rm_desk.specs.Effects.{LaneEffect, EffectBy, IsEntryOf}
use Rattle.rm_desk.proofs.Feeding.{answers_entry, found_sender, no_work, not_end, one_less, served_found, served_without, stands_on}
use Rattle.rm_desk.proofs.Longer.{IsOwn, IsQuietAt, IsSilent, kept_silent, one_more, own_silent, quiet_at}
use Rattle.rm_desk.proofs.Words.{rest_idle}

-- the place where the current segment is left behind
abbrev pub behind : Feeds → Place
behind f = record { lives = f.lives; segments = f.segments }

pub close_is : (f : Feeds) → IsEntered f → (close : Option Close) → f.close ≡ close → close_left (feeds_place f).segments ≡ close
close_is f entered None e = let none = entered e in rw (e, none.0) refl
close_is f entered (Some close) e = rw e refl

-- a move of which the script says nothing, made or refused
module _ (lane : Lane) (old new : Seen) (place : Place) (h : IsPlaceSound (record { core = old; place = place })) (m : Move)
    (kind : Entry → Type 0) (silent : (e : Entry) → IsEntryOfMove m old.tables e → IsQuietAt place e × kind e × (lane_of_entry e ≡ lane)) (from : (opening : List Op) → GoesOnFrom m opening old) where
  pub silent_does : (r : Result (Unit {0}) Refused) → IsWork lane → life_goes_on lane (close_left place.segments) ≡ true → ready_at old lane ≡ true
      → OnOk r (CoreDoes m old new) → (MeasureChanges m old.settings (measure_of old) (measure_of new) → measure_of new < measure_of old) → (LifeAround m (stands old) (stands new) → (stands old ≡ true) × (stands new ≡ true))
      → served_after m (served_in old) ≡ served_in old → (stands old ≡ true → blown_after m (is_blown old) ≡ true → IsLast (close_left place.segments))
      → OnOk r (EffectBy kind (blown_after m (is_blown old)) lane (record { core = old; place = place }) (record { core = new; place = place }))
  silent_does (Err e) work behind ready does less lives same last = tt
  silent_does (Ok x) work behind ready does less lives same last =
      let adds = does.added in
      let quiet = silent adds.entry adds.of_move in
      let alive = lives does.stands in
      let weighs = less does.weighs in
      let count = does.served ∙ same in
      record {
        adds = record { entry = adds.entry; of_kind = quiet.1; added = adds.added; place = sym quiet.0.stays };
        of_lane = quiet.2;
        goes = record {
          sound = record {
            lives = h.lives;
            segments = h.segments;
            between = λ a. let x = alive.1 in cc;
            ends = λ a more. h.ends alive.0 more;
            blown = λ a b. last alive.0 (sym does.blown ∙ b);
            served = λ a. rw count (h.served alive.0);
          };
          settings = does.settings;
          began = does.began;
          lawful = λ opening over k. does.lawful opening k (from opening);
          run = λ opening script over run.
              one_more opening script (record { core = old; place = place }) (record { core = new; place = place }) adds.entry run (does.lawful opening run.stands (from opening)) adds.added
              (sym quiet.0.stays) (quiet.0.next (state_after opening old.log));
        };
        less = omega (arith, weighs);
        stood = alive.0;
        standing = alive.1 ∙ sym behind;
        blown = does.blown;
        busy = λ w rest. rest_idle old rest lane work ready;
        settled = λ is. absurd (subst IsWork is work);
      }

-- the entries of which it says nothing
pub main_entry : (d : DeskView) (e : Entry) → lane_of_entry e ≡ lanes.Main → IsQuietAt d.place e × IsEntryOf lanes.Main d e × (lane_of_entry e ≡ lanes.Main)
main_entry d e lane = (quiet_at d.place e (own_silent e (subst IsOwn (sym lane) tt)), lane, lane)

pub sched_entry : (d : DeskView) (e : Entry) → lane_of_entry e ≡ lanes.Sched → IsQuietAt d.place e × IsEntryOf lanes.Sched d e × (lane_of_entry e ≡ lanes.Sched)
sched_entry d e lane = (quiet_at d.place e (own_silent e (subst IsOwn (sym lane) tt)), lane, lane)

pub hand_entry : (d : DeskView) (e : Entry) → e ≡ Handed → IsQuietAt d.place e × IsEntryOf lanes.Hand d e × (lane_of_entry e ≡ lanes.Hand)
hand_entry d e is = (quiet_at d.place e (subst IsSilent (sym is) (own_silent Handed tt)), is, ap lane_of_entry is)

pub kept_entry : (d : DeskView) (e : Entry) → (op : Op) × (handed_of d.core ≡ Some op) × (e ≡ Kept op) → IsQuietAt d.place e × IsEntryOf lanes.Write d e × (lane_of_entry e ≡ lanes.Write)
kept_entry d e is = (quiet_at d.place e (subst IsSilent (sym is.2) (kept_silent is.0)), is, ap lane_of_entry is.2)

-- and the one that its crash allows
pub blown_entry : (d : DeskView) (passed image : ℕ) → close_left d.place.segments ≡ Some (Crash passed image) → (e : Entry) → e ≡ Blown passed → IsQuietAt d.place e × (e ≡ Blown passed) × (lane_of_entry e ≡ lanes.Write)
blown_entry d passed image closes e is =
    let quiet : IsQuietAt d.place (Blown passed) = record { next = λ s. record { image = image; closes = closes }; stays = refl } in
    (subst (IsQuietAt d.place) (sym is) quiet, is, ap lane_of_entry is)

-- a segment is current where its feeds have a message
pub fed_in : (f : Feeds) → IsEntered f → f.feed ≢ [] → (close : Option Close) → f.close ≡ close → (is : Close) × (f.close ≡ Some is)
fed_in f entered some None c = absurd (some (entered c).1)
fed_in f entered some (Some close) c = (close, c)

-- a message that is found is one of some
pub found_some : (sender : Sender) (list : List Message) (m : Message) → first_from sender list ≡ Some m → list ≢ []
found_some sender [] m e = cc
found_some sender (one ∷ more) m e = λ none. cc

module _ (f : Feeds) (close : Close) (c : f.close ≡ Some close) (sender : Sender) (m : Message) (e : first_from sender f.feed ≡ Some m) where
  fed : (feeds_place f).segments ≡ record { messages = f.feed; close = close } ∷ f.segments
  fed = rw c refl

  fed_messages : messages_in (feeds_place f).segments ≡ length (without_first sender f.feed) + 1 + messages_in f.segments
  fed_messages =
      let less = one_less sender m f.feed e in
      ap messages_in fed ∙ sum_by-cons (λ (x : Segment). length x.messages) (record { messages = f.feed; close = close }) f.segments ∙ omega (arith, less)

  -- the first message of a feed can be served
  pub first_served : (core : Seen) → IsPlaceSound (at core f) → stands core ≡ true → IsServable m × (served_in core < most_served)
  first_served core h alive =
      let sound : CanFollow (record { messages = f.feed; close = close } ∷ f.segments) = subst CanFollow fed h.segments in
      (served_found sender m f.feed sound.0 e, let n = h.served alive in let were = fed_messages in omega (arith, n, were))

-- segments end in a crash whatever messages are left of the first
ends_on : (some more : List Message) (close : Close) (after : List Segment) → EndsInCrash (record { messages = some; close = close } ∷ after)
    → EndsInCrash (record { messages = more; close = close } ∷ after)
ends_on some more close [] h = h
ends_on some more close (next ∷ after) h = h

ends_after : (after : List Segment) → EndsInCrash (record { messages = []; close = Settle } ∷ after) → EndsInCrash after
ends_after [] e = absurd e
ends_after (one ∷ after) e = e

module _ (old new : Seen) (f : Feeds) (h : IsPlaceSound (at old f)) (entered : IsEntered f) (settings : new.settings ≡ old.settings) (began : as_new new ≡ as_new old)
    (lawful : (opening : List Op) → StandsFor opening old → StandsFor opening new) where
  -- the first message of a sender's feed is answered
  pub serve_does : (close : Close) → f.close ≡ Some close → (sender : Sender) (m : Message) → first_from sender f.feed ≡ Some m → (reply : Reply)
      → new.log ≡ old.log ++ Served (sender_of m) m reply ∷ [] → measure_of new ≤ measure_of old + measure_added → (stands old ≡ true) × (stands new ≡ true)
      → served_in new ≡ served_in old + 1 → is_blown new ≡ is_blown old → (rest : List Message) → rest ≡ without_first sender f.feed → LaneEffect (feed_lane sender) (at old f) (at new (record f { feed = rest }))
  serve_does close c sender m e reply added weighs alive count same rest is =
      let d = at old f in
      let next = at new (record f { feed = rest }) in
      let before : d.place.segments ≡ record { messages = f.feed; close = close } ∷ f.segments = fed f close c sender m e in
      let after : next.place.segments ≡ record { messages = without_first sender f.feed; close = close } ∷ f.segments = rw (c, is) refl in
      let sound : CanFollow (record { messages = f.feed; close = close } ∷ f.segments) = subst CanFollow before h.segments in
      let own : sender_of m ≡ sender = found_sender sender m f.feed e in
      let first : first_from sender (messages_left d.place.segments) ≡ Some m = rw before e in
      let isnext : first_from (sender_of m) (messages_left d.place.segments) ≡ Some m = rw own first in
      let entry = Served (sender_of m) m reply in
      let taken : segments_without (sender_of m) d.place.segments ≡ record { messages = without_first sender f.feed; close = close } ∷ f.segments =
      ap (λ (one : Sender). segments_without one d.place.segments) own ∙ ap (segments_without sender) before in
      let place : next.place ≡ moved d.place entry = ap (λ (x : List Segment). record { lives = f.lives; segments = x }) (after ∙ sym taken) in
      let less = one_less sender m f.feed e in
      let cost : sum_by segment_cost d.place.segments ≡ 1 + (measure_added + 1) * length f.feed + sum_by segment_cost f.segments =
      ap (λ (x : List Segment). sum_by segment_cost x) before ∙ sum_by-cons segment_cost (record { messages = f.feed; close = close }) f.segments in
      let costs : sum_by segment_cost next.place.segments ≡ 1 + (measure_added + 1) * length (without_first sender f.feed) + sum_by segment_cost f.segments =
      ap (λ (x : List Segment). sum_by segment_cost x) after ∙ sum_by-cons segment_cost (record { messages = without_first sender f.feed; close = close }) f.segments in
      let were = fed_messages f close c sender m e in
      let are : messages_in next.place.segments ≡ length (without_first sender f.feed) + messages_in f.segments =
      ap messages_in after ∙ sum_by-cons (λ (x : Segment). length x.messages) (record { messages = without_first sender f.feed; close = close }) f.segments in
      record {
        adds = record { entry = entry; of_kind = answers_entry sender d entry (m, reply, first, ap (λ (one : Sender). Served one m reply) own); added = added; place = place };
        of_lane = ap feed_lane own;
        goes = record {
          sound = record {
            lives = h.lives;
            segments = subst CanFollow (sym after) (served_without sender f.feed sound.0, sound.1, sound.2);
            between = λ a. let x = alive.1 in cc;
            blown = λ a b. rw after (let last = h.blown alive.0 (sym same ∙ b) in rw before at last);
            ends = λ a others. subst EndsInCrash (sym after) (ends_on f.feed (without_first sender f.feed) close f.segments (subst EndsInCrash before (h.ends alive.0 others)));
            served = λ a. let n = h.served alive.0 in omega (arith, n, were, are, count);
          };
          settings = settings;
          began = began;
          lawful = λ opening over k. lawful opening k;
          run = λ opening script over run. one_more opening script d next entry run (lawful opening run.stands) added place isnext;
        };
        less = omega (arith, weighs, cost, costs, less);
        stood = alive.0;
        standing = alive.1 ∙ sym (stands_on sender (close_left d.place.segments));
        blown = same;
        busy = λ work. absurd (no_work sender work);
        settled = λ end. absurd (not_end sender end);
      }

  -- the current segment settles
  pub settle_does : (g : Feeds) → f.close ≡ Some Settle → f.feed ≡ [] → new.log ≡ old.log ++ Settled ∷ [] → measure_of new ≤ measure_of old
      → (stands old ≡ true) × (stands new ≡ true) → served_in new ≡ served_in old → is_blown new ≡ is_blown old → feeds_place g ≡ behind f → has_rest new → LaneEffect lanes.End (at old f) (at new g)
  settle_does g c none added weighs alive count same p rest =
      let d = at old f in
      let next = at new g in
      let before : d.place.segments ≡ record { messages = []; close = Settle } ∷ f.segments = rw (c, none) refl in
      let follows : CanFollow (record { messages = []; close = Settle } ∷ f.segments) = subst CanFollow before h.segments in
      let isnext : Settles d.place = record { none_left = ap messages_left before; closes = ap close_left before } in
      let place : next.place ≡ moved d.place Settled = p ∙ ap (λ (s : List Segment). record { lives = f.lives; segments = rest_of s }) (sym before) in
      let segments : next.place.segments ≡ f.segments = ap (λ (q : Place). q.segments) p in
      let lives : next.place.lives ≡ f.lives = ap (λ (q : Place). q.lives) p in
      let cost : sum_by segment_cost d.place.segments ≡ 1 + sum_by segment_cost f.segments =
      ap (λ (s : List Segment). sum_by segment_cost s) before ∙ sum_by-cons segment_cost (record { messages = []; close = Settle }) f.segments in
      let costs : sum_by segment_cost next.place.segments ≡ sum_by segment_cost f.segments = ap (λ (q : Place). sum_by segment_cost q.segments) p in
      let were : messages_in d.place.segments ≡ messages_in f.segments =
      ap messages_in before ∙ sum_by-cons (λ (s : Segment). length s.messages) (record { messages = []; close = Settle }) f.segments ∙ omega arith in
      let are : messages_in next.place.segments ≡ messages_in f.segments = ap messages_in segments in
      record {
        adds = record { entry = Settled; of_kind = rw before refl; added = added; place = place };
        of_lane = refl;
        goes = record {
          sound = record {
            lives = subst AllLive (sym lives) h.lives;
            segments = subst CanFollow (sym segments) follows.2;
            between = λ a. let x = alive.1 in cc;
            blown = λ a b. absurd (let last = h.blown alive.0 (sym same ∙ b) in let x : ⊥ = rw before at last in x);
            ends = λ a others. subst EndsInCrash (sym segments) (ends_after f.segments (subst EndsInCrash before (h.ends alive.0 (rw (← lives) others))));
            served = λ a. let n = h.served alive.0 in omega (arith, n, were, are, count);
          };
          settings = settings;
          began = began;
          lawful = λ opening over k. lawful opening k;
          run = λ opening script over run. one_more opening script d next Settled run (lawful opening run.stands) added place isnext;
        };
        less = omega (arith, weighs, cost, costs);
        stood = alive.0;
        standing = rw before alive.1;
        blown = same;
        busy = λ work. absurd work;
        settled = λ end settles. rest;
      }

  -- the life goes down
  pub down_does : (g : Feeds) (close : Option Close) → f.close ≡ close → close ≢ Some Settle → may_close (at old f) (close_left (feeds_place f).segments) ≡ true
      → new.log ≡ old.log ++ Down ∷ [] → measure_of new ≤ measure_of old → (stands old ≡ true) × (stands new ≡ false) → is_blown new ≡ is_blown old → feeds_place g ≡ behind f → LaneEffect lanes.End (at old f) (at new g)
  down_does g None c unsettled ready added weighs alive same p = let none = close_is f entered None c in absurd (let x = rw none at ready in cc)
  down_does g (Some Settle) c unsettled ready added weighs alive same p = absurd (unsettled refl)
  down_does g (Some (Crash calls image)) c unsettled ready added weighs alive same p =
      let open_is : (can_go_down old && is_nil f.feed) ≡ true = rw c at ready in
      let none = nil_is f.feed (and_parts (can_go_down old) (is_nil f.feed) open_is).1 in
      let d = at old f in
      let next = at new g in
      let before : d.place.segments ≡ record { messages = []; close = Crash calls image } ∷ f.segments = rw (c, none) refl in
      let follows : CanFollow (record { messages = []; close = Crash calls image } ∷ f.segments) = subst CanFollow before h.segments in
      let isnext : Crashes d.place = record { none_left = ap messages_left before; calls = calls; image = image; closes = ap close_left before } in
      let place : next.place ≡ moved d.place Down = p ∙ ap (λ (s : List Segment). record { lives = f.lives; segments = rest_of s }) (sym before) in
      let over : next.place.segments ≡ [] = ap (λ (q : Place). q.segments) p ∙ follows.1 in
      let lives : next.place.lives ≡ f.lives = ap (λ (q : Place). q.lives) p in
      let cost : sum_by segment_cost d.place.segments ≡ 1 + sum_by segment_cost f.segments =
      ap (λ (s : List Segment). sum_by segment_cost s) before ∙ sum_by-cons segment_cost (record { messages = []; close = Crash calls image }) f.segments in
      let costs : sum_by segment_cost next.place.segments ≡ sum_by segment_cost f.segments = ap (λ (q : Place). sum_by segment_cost q.segments) p in
      record {
        adds = record { entry = Down; of_kind = rw before refl; added = added; place = place };
        of_lane = refl;
        goes = record {
          sound = record {
            lives = subst AllLive (sym lives) h.lives;
            segments = subst CanFollow (sym over) tt;
            between = λ a. over;
            ends = λ a others. let x = alive.1 in cc;
            blown = λ a b. let x = alive.1 in cc;
            served = λ a. let x = alive.1 in cc;
          };
          settings = settings;
          began = began;
          lawful = λ opening over_it k. lawful opening k;
          run = λ opening script over_it run. one_more opening script d next Down run (lawful opening run.stands) added place isnext;
        };
        less = omega (arith, weighs, cost, costs);
        stood = alive.0;
        standing = rw before alive.1;
        blown = same;
        busy = λ work. absurd work;
        settled = λ end settles. let no = sym (ap close_left before) ∙ settles in cc;
      }
