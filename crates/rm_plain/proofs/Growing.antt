-- A run of a script is one of a longer script, where nothing moved while the script was at its end.
use Rattle.rm_lives.proofs.Common.{⊎_elim, List, [], ◌∷◌, ◌++◌, Bool, true, false, None, Some, Option, refl, sym, ◌∙◌, ap, subst, Entry, Lane, Client, Master, Node, Clock, Main, Sched, Hand, Write, End, Begin, Op, Close, Settle, Crash, Life, Script, lane_of_entry, Fallen, Manager, LifeState, opening_state, after, Place, close_left, Seen, as_new, stands, is_ready_at, DeskView}
use Rattle.std.proofs.Common.{◌≡◌, ◌&&◌, not, is_some, if◌then◌else◌}
use Rattle.std.specs.List.{fold}
use Rattle.rm_types.specs.declared.entries.Entry.TheVariants.{Opened, Issued, Handed, Kept as KeptEntry, Blown as BlownEntry, Served, Accepted, Queued, Absorbed, Pass, Ordered, Ended, Settled, Down, Quiet}
use Rattle.rm_types.specs.declared.messages.Message.{Message}
use Rattle.rm_types.specs.declared.messages.Sender.TheVariants as senders
use Rattle.rm_types.specs.declared.scripts.Segment.{Segment}
use Rattle.rm_types.specs.Lists.{is_nil}
use Rattle.rm_model.specs.Lawful.{Follows, place_after}
use Rattle.rm_model.specs.Place.{Crashes, IsAtEnd, beginning, first_from, messages_left, moved}
use Rattle.rm_core.specs.Words.{manager_after, ready_at}
use Rattle.rm_model.specs.Place.{ByLife, BySegment, Growth, MayGrow, lives_grown, place_grown, script_grown}
use Rattle.rm_desk.specs.Effects.{Grows}
use Rattle.rm_desk.specs.Lanes.{may_close}
use Rattle.rm_desk.proofs.Growing.{beginning_grown, next_grown, place_after_grown}
use Rattle.rm_lives.specs.Falls.{falls_at, falls_from, falls_of}
use Rattle.rm_plain.specs.Feeding.{NeverPast, by_policy}
use Rattle.rm_lives.specs.Goes.{IsRun}
use Rattle.rm_lives.specs.Order.{May}
use Rattle.rm_lives.proofs.Ordering.{split_push}
use Rattle.rm_lives.specs.Order.{run_after}
use Rattle.rm_plain.specs.Policy.{first_ready}
use Rattle.rm_plain.specs.Schedule.{MovesBy, chosen}
use Rattle.rm_plain.proofs.Choosing.{left_none, letters_may}

-- THE PLACE IN THE LONGER SCRIPT

-- a part of a log goes along too
follows_part : (s : Manager) (p : Place) (past more : List Entry) → Follows s p (past ++ more) → Follows s p past
follows_part s p [] more h = tt
follows_part s p (e ∷ past) more h = (h.0, follows_part (after s e) (moved p e) past more h.1)

-- so the place after it in the longer script is that in the script, with more at its end
place_part : (growth : Growth) (opening : List Op) (script : Script) (log past : List Entry) (e : Entry) (more : List Entry) → MayGrow growth script → Follows (opening_state opening) (beginning script) log → log ≡ past ++ e ∷ more
    → place_after (script_grown growth script) past ≡ place_grown growth (place_after script past)
place_part growth opening script log past e more may along is =
    ap (λ (p : Place). fold moved p past) (beginning_grown growth script may)
    ∙ place_after_grown growth (opening_state opening) (beginning script) past
    (follows_part (opening_state opening) (beginning script) past (e ∷ more) (subst (λ (l : List Entry). Follows (opening_state opening) (beginning script) l) is along))

-- a longer script is never at its end there
grown_goes_on : (growth : Growth) (lives : List Life) (segments : List Segment) → IsAtEnd (place_grown growth (record { lives = lives; segments = segments })) → ⊥
grown_goes_on (ByLife life) [] segments h = let none = h.lives in cc
grown_goes_on (ByLife life) (one ∷ more) segments h = let none = h.lives in cc
grown_goes_on (BySegment segment) [] [] h = let none = h.segments in cc
grown_goes_on (BySegment segment) [] (one ∷ more) h = let none = h.segments in cc
grown_goes_on (BySegment segment) (one ∷ []) segments h = let none = h.lives in cc
grown_goes_on (BySegment segment) (one ∷ two ∷ more) segments h = let none = h.lives in cc

-- and its current segment is the same, where the script isn't at its end
pub record SameCurrent (segments longer : List Segment) : Type 0 where
  pub messages : messages_left longer ≡ messages_left segments
  pub close : close_left longer ≡ close_left segments

current_in : (growth : Growth) (lives : List Life) (segments : List Segment) → (IsAtEnd (record { lives = lives; segments = segments }) → ⊥) → SameCurrent segments (place_grown growth (record { lives = lives; segments = segments })).segments
current_in (ByLife life) lives segments some = record { messages = refl; close = refl }
current_in (BySegment segment) [] [] some = absurd (some (record { lives = refl; segments = refl }))
current_in (BySegment segment) [] (one ∷ more) some = record { messages = refl; close = refl }
current_in (BySegment segment) (one ∷ more) segments some = record { messages = refl; close = refl }

-- THE LANE THAT MOVES NEXT

module _ (growth : Growth) (core : Seen) (p : Place) (some : IsAtEnd p → ⊥) where
  abbrev was : DeskView
  was = record { core = core; place = p }

  abbrev is : DeskView
  is = record { core = core; place = place_grown growth p }

  same : SameCurrent p.segments (place_grown growth p).segments
  same = current_in growth p.lives p.segments some

  closing : (close : Option Close) → may_close is close ≡ may_close was close
  closing None = refl
  closing (Some Settle) = ap (λ (m : List Message). ready_at core End && is_nil m) same.messages
  closing (Some (Crash calls image)) = ap (λ (m : List Message). can m) same.messages
    where
      can : List Message → Bool
      can m = may_close (record { core = core; place = record { lives = p.lives; segments = record { messages = m; close = Crash calls image } ∷ [] } }) (Some (Crash calls image))

  begins : (lives : List Life) → p.lives ≡ lives → is_ready_at was Begin ≡ true → is_ready_at is Begin ≡ true
  begins [] e h = absurd (let x = rw e at h in by (stands core) x)
    where
      by : (b : Bool) → (not b && false) ≡ true → ⊥
      by true x = cc
      by false x = cc
  begins (life ∷ more) e h = longer growth life more e h
    where
      longer : (g : Growth) (life : Life) (more : List Life) → p.lives ≡ life ∷ more → is_ready_at was Begin ≡ true → is_ready_at (record { core = core; place = place_grown g p }) Begin ≡ true
      longer (ByLife one) life more e h = rw e (rw e at h)
      longer (BySegment segment) life [] e h = rw e (rw e at h)
      longer (BySegment segment) life (two ∷ more) e h = rw e (rw e at h)

  -- what is found first is still found first
  step : (b c : Bool) (x y : Lane) (rest next : Option Lane) → c ≡ b → (rest ≡ Some y → next ≡ Some y) → (if b then Some x else rest) ≡ Some y → (if c then Some x else next) ≡ Some y
  step true true x y rest next e more h = h
  step true false x y rest next e more h = cc
  step false true x y rest next e more h = cc
  step false false x y rest next e more h = more h

  last : (b c : Bool) (x y : Lane) → (b ≡ true → c ≡ true) → (if b then Some x else None) ≡ Some y → (if c then Some x else None) ≡ Some y
  last true true x y e h = h
  last true false x y e h = (let no = e refl in cc)
  last false c x y e h = cc

  pub first_grown : (lane : Lane) → first_ready was ≡ Some lane → first_ready is ≡ Some lane
  first_grown lane h =
      let m = same.messages in
      step (is_ready_at was Main) (is_ready_at is Main) Main lane _ _ refl
      (λ h1. step (is_ready_at was Sched) (is_ready_at is Sched) Sched lane _ _ refl
      (λ h2. step (is_ready_at was Client) (is_ready_at is Client) Client lane _ _ (ap (λ (x : List Message). ready_at core Client && is_some (first_from senders.Client x)) m)
      (λ h3. step (is_ready_at was Master) (is_ready_at is Master) Master lane _ _ (ap (λ (x : List Message). ready_at core Master && is_some (first_from senders.Master x)) m)
      (λ h4. step (is_ready_at was Node) (is_ready_at is Node) Node lane _ _ (ap (λ (x : List Message). ready_at core Node && is_some (first_from senders.Node x)) m)
      (λ h5. step (is_ready_at was Clock) (is_ready_at is Clock) Clock lane _ _ (ap (λ (x : List Message). ready_at core Clock && is_some (first_from senders.Clock x)) m)
      (λ h6. step (is_ready_at was Hand) (is_ready_at is Hand) Hand lane _ _ refl
      (λ h7. step (is_ready_at was Write) (is_ready_at is Write) Write lane _ _ refl
      (λ h8. step (is_ready_at was End) (is_ready_at is End) End lane _ _ (ap (λ (c : Option Close). may_close is c) same.close ∙ closing (close_left p.segments))
      (λ h9. last (is_ready_at was Begin) (is_ready_at is Begin) Begin lane (begins p.lives refl) h9) h8) h7) h6) h5) h4) h3) h2) h1) h

-- so the plain policy moves as before
moves_grown : (growth : Growth) (new : Seen) (opening : List Op) (script : Script) (log : List Entry) → MayGrow growth script → Follows (opening_state opening) (beginning script) log
    → MovesBy [] new script opening log → NeverPast script log → MovesBy [] new (script_grown growth script) opening log
moves_grown growth new opening script log may along moves never = λ past e more is.
    let core = manager_after new opening past in
    let plain : first_ready (run_after new script opening past) ≡ Some (lane_of_entry e) = ap (λ (left : List _). chosen left (run_after new script opening past)) (sym (left_none past)) ∙ moves past e more is in
    let longer = first_grown growth core (place_after script past) (never past e more is) (lane_of_entry e) plain in
    let place = place_part growth opening script log past e more may along is in
    ap (λ (left : List _). chosen left (run_after new (script_grown growth script) opening past)) (left_none past)
    ∙ ap (λ (p : Place). first_ready (record { core = core; place = p })) place ∙ longer

never_grown : (growth : Growth) (opening : List Op) (script : Script) (log : List Entry) → MayGrow growth script → Follows (opening_state opening) (beginning script) log → NeverPast (script_grown growth script) log
never_grown growth opening script log may along = λ past e more is end.
    let p = place_after script past in
    grown_goes_on growth p.lives p.segments (subst IsAtEnd (place_part growth opening script log past e more may along is) end)

-- WHAT FELL

-- a life goes down in a segment
close_grown : (growth : Growth) (lives : List Life) (segments : List Segment) → (segments ≡ [] → ⊥) → close_left (place_grown growth (record { lives = lives; segments = segments })).segments ≡ close_left segments
close_grown growth lives segments some = (current_in growth lives segments (λ end. some end.segments)).close

fall_in : (growth : Growth) (s : Manager) (p : Place) (e : Entry) (life : Option LifeState) → (e ≡ Down → Crashes p) → falls_at e life (close_left (place_grown growth p).segments) ≡ falls_at e life (close_left p.segments)
fall_in growth s p (Issued op) life h = refl
fall_in growth s p Handed life h = refl
fall_in growth s p (BlownEntry passed) life h = refl
fall_in growth s p (Served sender message reply) life h = refl
fall_in growth s p (Accepted app) life h = refl
fall_in growth s p (Queued attempt) life h = refl
fall_in growth s p (Absorbed node taken ended) life h = refl
fall_in growth s p (Pass node grants) life h = refl
fall_in growth s p (Ordered container node) life h = refl
fall_in growth s p (Ended cause list) life h = refl
fall_in growth s p Settled life h = refl
fall_in growth s p (Quiet lane) life h = refl
fall_in growth s p (Opened landed epoch stamp) life h = refl
fall_in growth s p (KeptEntry op) life h = refl
fall_in growth s p Down life h =
    let crash = h refl in
    ap (λ (c : Option Close). falls_at Down life c) (close_grown growth p.lives p.segments (λ none. (let x = sym crash.closes ∙ ap close_left none in cc)))

is_crash : (s : Manager) (p : Place) (e : Entry) → Rattle.rm_model.specs.Place.IsNext s p e → e ≡ Down → Crashes p
is_crash s p e next is = subst (λ (x : Entry). Rattle.rm_model.specs.Place.IsNext s p x) is next

falls_in : (growth : Growth) (s : Manager) (p : Place) (log : List Entry) → Follows s p log → falls_from s (place_grown growth p) log ≡ falls_from s p log
falls_in growth s p [] h = refl
falls_in growth s p (e ∷ log) h =
    let one = next_grown growth s p e h.0 in
    ap (λ (x : List Fallen). x ++ falls_from (after s e) (moved (place_grown growth p) e) log) (fall_in growth s p e s.life (is_crash s p e h.0))
    ∙ ap (λ (x : List Fallen). falls_at e s.life (close_left p.segments) ++ x) (ap (λ (q : Place). falls_from (after s e) q log) one.moves ∙ falls_in growth (after s e) (moved p e) log h.1)

-- THE RUN

pub grown_is_run : (growth : Growth) (opening : List Op) (script : Script) (fallen : List Fallen) (d next : DeskView) → MayGrow growth script → Grows growth d next → IsRun by_policy opening script fallen d
    → IsRun by_policy opening (script_grown growth script) fallen next
grown_is_run growth opening script fallen d next may grows run =
    let along = run.goes.along.along in
    let log = d.core.log in
    let s = opening_state opening in
    let falls : falls_of (script_grown growth script) opening log ≡ fallen =
    ap (λ (p : Place). falls_from s p log) (beginning_grown growth script may) ∙ falls_in growth s (beginning script) log along ∙ run.falls in
    record {
      goes = grows.run opening script may run.goes;
      downs = λ rests. rw grows.core (run.downs rests);
      falls = rw grows.core falls;
      moves = rw grows.core (moves_grown growth (as_new d.core) opening script log may along run.moves.0 run.moves.1, never_grown growth opening script log may along);
    }

-- a lane may move that comes first, where the script isn't at its end
pub policy_may : (d : DeskView) (lane : Lane) → first_ready d ≡ Some lane → (IsAtEnd d.place → ⊥) → May by_policy lane d
policy_may d lane first some =
    let plain = letters_may [] d lane (ap (λ (left : List _). chosen left d) (left_none d.core.log) ∙ first) in
    record {
      keeps = λ opening script e run of_lane h. (
        plain.keeps opening script e run of_lane h.0,
        λ past x more is.
            ⊎_elim (λ end. λ at. some (subst IsAtEnd (ap (λ (l : List Entry). place_after script l) end.0 ∙ run.along.at) at))
            (λ before. h.1 past x before.0 before.1) (split_push d.core.log past e x more is),
      );
      rests = λ rests end unblown. plain.rests refl end unblown;
    }
