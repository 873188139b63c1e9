-- A run up to some moment goes on, is stopped, or is at its end.
use Rattle.rm_lives.proofs.Common.{◌≢◌, ◌⊎◌, inl, inr, ⊎_elim, ℕ, List, [], ◌∷◌, ◌++◌, Bool, true, false, None, Some, Option, Ok, Err, Result, refl, sym, ◌∙◌, ap, subst, arith, append-nil, append_assoc, Entry, Op, Script, Fallen, Place, Records, IsLeftAfter, as_new, DiskView, Fused, leaves_of, leaves_trans, StoreState, IsBelowLast, seen, StandsFor, stands, state_after, opening_state, DeskView}
use Rattle.std.proofs.Common.{◌≡◌, ◌≤◌}
use Rattle.rm_desk.specs.Runs.{IsScriptRun as GoesAlong}
use Rattle.rm_lives.specs.declared.halts.Halt.{Halt}
use Rattle.rm_lives.specs.declared.halts.Halt.TheVariants as halts
use Rattle.rm_lives.specs.Goes.{ExtendsRun, ExtendsRunOver, IsRun}
use Rattle.rm_lives.specs.Halted.{stop_of}
use Rattle.rm_lives.specs.Keeping.{FuseStays, HaltsBy, IsFoundOn, IsHaltedBy, IsKeptOn, KeepsOn, LeftOver, StoresOn}
use Rattle.rm_lives.specs.Later.{IsAgain, IsDueAt, IsFirst, IsLaterStop, StopsLater}
use Rattle.rm_lives.specs.Order.{Order, StopsHere}
use Rattle.rm_types.specs.Records.{stray}
use Rattle.rm_lives.specs.declared.halts.Stop.{Stop}
use Rattle.rm_lives.specs.declared.halts.Stop.TheVariants as stops
use Rattle.rm_lives.specs.Parts.{RunsOn}
use Rattle.rm_lives.specs.Whole.{Ends, IsWholeRun}
use Rattle.rm_lives.specs.Starts.{DiskStays, IsAtEase, StartEffect, disarmed}
use Rattle.rm_lives.specs.Stops.{IsStoppedBy, IsTold}
use Rattle.rm_lives.specs.Survives.{HoldsAfter, HoldsWithin, SurvivesAll, SurvivesNow}
use Rattle.rm_lives.proofs.Halting.{after_within, full_known, none_known}
use Rattle.rm_lives.proofs.Onward.{goes_over, is_found, keeps_before, left_first, stays_trans}
use Rattle.rm_lives.proofs.Stored.{holds_kept, keeps_trans, within_longer}
use Rattle.rm_lives.proofs.Starting.{falls_keep}
use Rattle.rm_disk.specs.Disk.{Falls}
use Rattle.rm_disk.specs.Fuse.{blown_after_fall, fallen_fuse, falls_after, unarmed_falls_after}
use Rattle.rm_lives.specs.Falls.{fall}
use Rattle.rm_lives.specs.Lives.{WentDown}

pub fuse_is_stay : {D : Type 0} (view : D → DiskView) (old new : Fused D) → FuseStays view old new → DiskStays view old new
fuse_is_stay view old new h = record { unarmed_falls = h.unarmed_falls; size = h.size; faults = h.faults }

module _ (order : Order) {D : Type 0} (view : D → DiskView) where
  module _ (opening : List Op) (script : Script) (disk now later : Fused D) (d e : DeskView) (r : RunsOn order view opening script disk now d) where
    abbrev may_hold : List Entry → List ℕ → Type 0
    may_hold log image = (seen view disk).images image ⊎ HoldsWithin opening log image

    -- a part of a run more, at which so much fell
    pub runs_on : (more : List Fallen) → ExtendsRun order more d e → later.falls ≡ now.falls ++ more → DiskStays view now later → StoresOn opening d e (seen view now) (seen view later) → RunsOn order view opening script disk later e
    runs_on more goes falls stays stores =
        let k = r.run.goes.stands in
        record {
          lives = r.lives;
          read_back = r.read_back;
          fallen = r.fallen ++ more;
          run = goes.run opening script r.fallen tt r.run;
          some = goes.some r.some;
          falls = falls ∙ ap (λ (xs : List Fallen). xs ++ more) r.falls ∙ append_assoc disk.falls r.fallen more;
          stays = stays_trans view disk now later r.stays stays;
          opened = r.opened;
          kept = λ bytes told. (stores k (r.kept bytes told)).kept;
          time = λ bytes told.
              let on = stores k (r.kept bytes told) in
              leaves_trans (seen view disk) (seen view now) (seen view later) (may_hold e.core.log)
              (leaves_of (seen view disk) (seen view now) (may_hold d.core.log) (may_hold e.core.log)
              (λ image is. ⊎_elim (λ was. inl was) (λ within. inr (within_longer opening d.core.log e.core.log on.more on.grows image within)) is) (r.time bytes told))
              (leaves_of (seen view now) (seen view later) (HoldsWithin opening e.core.log) (may_hold e.core.log) (λ image is. inr is) on.time);
        }

    -- what a part of a run that stopped it leaves, at each moment and at its end
    all_images : LeftOver (λ ops. Unit {0}) (λ ops. IsKeptOn ops d.core.log (seen view now)) d e (seen view now) (seen view later) → SurvivesAll opening e.core.log (seen view disk) (seen view later)
    all_images left = λ bytes told.
        let on = left opening tt r.run.goes.stands (r.kept bytes told) in
        record {
          so_far = leaves_trans (seen view disk) (seen view now) (seen view later) (may_hold e.core.log)
              (leaves_of (seen view disk) (seen view now) (may_hold d.core.log) (may_hold e.core.log)
              (λ image is. ⊎_elim (λ was. inl was) (λ within. inr (within_longer opening d.core.log e.core.log on.more on.grows image within)) is) (r.time bytes told))
              (leaves_of (seen view now) (seen view later) (HoldsWithin opening e.core.log) (may_hold e.core.log) (λ image is. inr is) on.time);
          now = λ image is. inr (after_within opening e.core.log image (on.now image is));
        }

    all_images_now : LeftOver (λ ops. Unit {0}) (λ ops. IsKeptOn ops d.core.log (seen view now)) d e (seen view now) (seen view later) → SurvivesNow opening e.core.log (seen view disk) (seen view later)
    all_images_now left = λ some bytes told. (left opening tt r.run.goes.stands (r.kept bytes told)).now

    -- a part of a run that stopped it
    stopped_whole : (more : List Fallen) (last : Fused D) (stop : Stop) → ExtendsRun order more d e → last.falls ≡ now.falls ++ more → DiskStays view now last → IsAtEase last
        → SurvivesAll opening e.core.log (seen view disk) (seen view last) → SurvivesNow opening e.core.log (seen view disk) (seen view last)
        → IsStoppedBy view (IsDueAt e) (StopsHere order e) disk last opening e.core.log stop → IsWholeRun order view opening script e disk last (Err stop)
    stopped_whole more last stop goes falls stays at_ease images images_now why =
        record {
          fallen = r.fallen ++ more;
          run = goes.run opening script r.fallen tt r.run;
          falls = falls ∙ ap (λ (xs : List Fallen). xs ++ more) r.falls ∙ append_assoc disk.falls r.fallen more;
          stays = stays_trans view disk now last r.stays stays;
          unarmed = at_ease.unarmed;
          unblown = λ was. at_ease.unblown;
          opened = λ some. r.opened;
          found = inr r.opened;
          read_back = r.read_back;
          ends = tt;
          used_up = tt;
          quiet = λ none. absurd (goes.some r.some none);
          idle = λ none. absurd (r.lives none);
          begun = λ some. tt;
          images = images;
          images_now = images_now;
          stopped = why;
        }

    -- it halted
    pub stops_on : (halt : Halt) → HaltsBy order view d e now later halt → FuseStays view now later → IsWholeRun order view opening script e disk (disarmed later) (Err (stop_of halt))
    stops_on halt h fuse =
        stopped_whole [] (disarmed later) (stop_of halt) h.goes (fuse.falls ∙ sym (append-nil now.falls)) (record { unarmed_falls = fuse.unarmed_falls; size = fuse.size; faults = fuse.faults }) (record { unarmed = refl; unblown = refl })
        (all_images h.left) (all_images_now h.left) (by halt h.why)
      where
        by : (halt : Halt) → IsHaltedBy order view (λ ops. Unit {0}) (λ ops. IsKeptOn ops d.core.log (seen view now)) d e now later halt → IsStoppedBy view (IsDueAt e) (StopsHere order e) disk (disarmed later) opening e.core.log (stop_of halt)
        by halts.DiskFault why = (
          let before = r.stays.faults in let rose = why.0 in omega (arith, before, rose),
          inr (why.1 opening tt r.run.goes.stands),
          λ none. absurd (h.goes.some r.some none),
        )
        by (halts.Full needed room) why =
            full_known (IsKeptOn opening d.core.log (seen view now)) (IsTold (seen view disk)) (IsBelowLast (view later.inner)) opening e.core.log (view later.inner).size needed room (λ told. r.kept told.0 told.1)
            (why opening tt r.run.goes.stands)
        by (halts.Schedule place) why = (why, λ none. absurd (h.goes.some r.some none))
        by halts.Memory why = tt

    -- or a later life had no store to begin over
    pub stops_later : (stop : Stop) → StopsLater order view d e now later stop → IsWholeRun order view opening script e disk later (Err stop)
    stops_later stop h =
        let k = r.run.goes.stands in
        stopped_whole h.fallen later stop h.goes h.falls h.stays h.at_ease (all_images h.left) (all_images_now h.left) (by (h.goes.some r.some) stop (h.why opening k))
      where
        by : e.core.log ≢ [] → (stop : Stop) → IsLaterStop order view opening d e now later stop → IsStoppedBy view (IsDueAt e) (StopsHere order e) disk later opening e.core.log stop
        by some stops.DiskFault why = (let before = r.stays.faults in let rose = why.0 in omega (arith, before, rose), why.1, λ none. absurd (some none))
        by some (stops.Damaged offset) why = (why.0, λ bytes told. absurd (why.1 (r.kept bytes told)), λ none. absurd (some none))
        by some (stops.Full needed room) why =
            full_known (IsKeptOn opening d.core.log (seen view now)) (IsTold (seen view disk)) (IsBelowLast (view later.inner)) opening e.core.log (view later.inner).size needed room (λ told. r.kept told.0 told.1) why
        by some (stops.Schedule place) why = (why, λ none. absurd (some none))
        by some stops.EpochsSpent why = (why.0, (r.opened, none_known (IsKeptOn opening d.core.log (seen view now)) (IsTold (seen view disk)) (seen view later) opening e.core.log (λ told. r.kept told.0 told.1) why.1))
        by some stops.Memory why = tt

  -- where it came to its end, that is all of it
  pub whole_here : (opening : List Op) (script : Script) (disk now : Fused D) (d : DeskView) → RunsOn order view opening script disk now d → IsAtEase now → Ends d → order.ends d.core.log → IsWholeRun order view opening script d disk now (Ok tt)
  whole_here opening script disk now d r at_ease ends used =
      record {
        fallen = r.fallen;
        run = r.run;
        falls = r.falls;
        stays = r.stays;
        unarmed = at_ease.unarmed;
        unblown = λ was. at_ease.unblown;
        opened = λ some. r.opened;
        found = inr r.opened;
        read_back = r.read_back;
        ends = ends;
        used_up = used;
        quiet = λ none. absurd (r.some none);
        idle = λ none. absurd (r.lives none);
        begun = λ some. r.some;
        images = λ bytes told. record { so_far = r.time bytes told; now = λ image is. inr (after_within opening d.core.log image (holds bytes told image is)) };
        images_now = λ some bytes told. holds bytes told;
        stopped = tt;
      }
    where
      holds : (bytes : List ℕ) → (seen view disk).told ≡ Some bytes → (image : List ℕ) → (seen view now).images image → HoldsAfter opening d.core.log image
      holds bytes told image is = holds_kept (state_after opening d.core.log) image ((r.kept bytes told).images image is)

  -- a life went down, and its disk fell
  pub down_runs : (opening : List Op) (script : Script) (disk now : Fused D) (d e : DeskView) (one two : StoreState D) (image : ℕ) → RunsOn order view opening script disk one.disk d → FuseStays view one.disk two.disk → WentDown order view d e one two image
      → Falls (seen view two.disk) (seen view now) → now ≡ fallen_fuse two.disk now.inner image → RunsOn order view opening script disk now e
  down_runs opening script disk now d e one two image r fuse h falls fell =
      runs_on opening script disk one.disk now d e r (fall h.calls image h.blew ∷ []) h.goes
      (ap (λ (f : Fused D). f.falls) fell
      ∙ ap (λ (a : Option ℕ). falls_after two.disk.falls a image two.disk.blown) h.armed
      ∙ ap (λ (b : Bool). two.disk.falls ++ record { calls = h.calls; image = image; blown = b } ∷ []) h.blown
      ∙ ap (λ (l : List Fallen). l ++ fall h.calls image h.blew ∷ []) fuse.falls)
      (record {
        unarmed_falls = ap (λ (f : Fused D). f.unarmed_falls) fell ∙ ap (λ (a : Option ℕ). unarmed_falls_after two.disk.unarmed_falls a) h.armed ∙ fuse.unarmed_falls;
        size = falls.goes_on.size ∙ fuse.size;
        faults = (let same = falls.faults in let refused = ap (λ (f : Fused D). f.refused) fell in let before = fuse.faults in omega arith);
      })
      (λ k has.
      let so_far = h.stores.kept opening k has in
      keeps_trans opening d.core.log e.core.log e.core.log (seen view one.disk) (seen view two.disk) (seen view now) so_far (falls_keep view opening e.core.log (seen view two.disk) (seen view now) falls so_far.kept))

  -- and its fuse is at ease
  pub down_at_ease : (now : Fused D) (d e : DeskView) (one two : StoreState D) (image : ℕ) → WentDown order view d e one two image → now ≡ fallen_fuse two.disk now.inner image → IsAtEase now
  down_at_ease now d e one two image h fell =
      record { unarmed = ap (λ (f : Fused D). f.armed) fell; unblown = ap (λ (f : Fused D). f.blown) fell ∙ ap (λ (a : Option ℕ). blown_after_fall a two.disk.blown) h.armed }

  -- over what the last one left
  pub again_runs : (opening : List Op) (script : Script) (first disk : Fused D) (d e : DeskView) (store now : StoreState D) (tree : Records) → IsAgain view d.core disk store tree
      → ExtendsRunOver order (λ ops. IsLeftAfter tree ops d.core.log) [] d e
      → StartEffect view (λ ops. IsLeftAfter tree ops d.core.log) (λ ops. IsFoundOn ops d.core tree (seen view store.disk)) d e store now → FuseStays view store.disk now.disk
      → RunsOn order view opening script first disk d → RunsOn order view opening script first now.disk e
  again_runs opening script first disk d e store now tree again goes begun fuse r =
      runs_on opening script first disk now.disk d e r []
      (goes_over order view (λ ops. IsLeftAfter tree ops d.core.log) (λ ops. Unit {0}) [] d e (λ ops q k. again.left ops k) goes)
      (fuse.falls ∙ again.ready.falls ∙ sym (append-nil disk.falls)) (stays_trans view disk store.disk now.disk again.ready.stays (fuse_is_stay view store.disk now.disk fuse))
      (λ k has. keeps_before view opening d.core.log e.core.log (seen view disk) (seen view store.disk) (seen view now.disk) (again.time opening k has) (begun.kept opening (again.left opening k) k (again.found opening k has)))

  -- over what its disk held
  pub first_runs : (opening : List Op) (script : Script) (disk : Fused D) (d e : DeskView) (store now : StoreState D) (tree : Records) (first : IsFirst view disk store tree opening) (empty : d.core.log ≡ []) (dead : stands d.core ≡ false)
      → ExtendsRunOver order (λ ops. IsLeftAfter tree ops d.core.log) [] d e
      → StartEffect view (λ ops. IsLeftAfter tree ops d.core.log) (λ ops. IsFoundOn ops d.core tree (seen view store.disk)) d e store now → FuseStays view store.disk now.disk
      → GoesAlong opening script d → order.keeps (as_new d.core) script opening [] → script.lives ≢ [] → stray opening ≡ None → RunsOn order view opening script disk now.disk e
  first_runs opening script disk d e store now tree first empty dead goes begun fuse along begins lives read =
      let k = along.stands in
      let left = left_first order view d e disk now.disk store tree opening first empty dead opening refl in
      let P : List ℕ → Type 0 = λ image. (seen view disk).images image ⊎ HoldsWithin opening e.core.log image in
      let on : (bytes : List ℕ) → (seen view disk).told ≡ Some bytes → KeepsOn opening d.core.log e.core.log (seen view store.disk) (seen view now.disk) =
      λ bytes told. begun.kept opening left k (is_found order view d e disk now.disk store tree opening first empty dead bytes told k) in
      record {
        lives = lives;
        read_back = read;
        fallen = [];
        run = goes.run opening script [] left
            (record {
              goes = along;
              downs = λ rests. rw empty tt;
              falls = rw empty refl;
              moves = subst (λ (log : List Entry). order.keeps (as_new d.core) script opening log) (sym empty) begins;
            });
        some = begun.some;
        falls = fuse.falls ∙ first.ready.falls ∙ sym (append-nil disk.falls);
        stays = stays_trans view disk store.disk now.disk first.ready.stays (fuse_is_stay view store.disk now.disk fuse);
        opened = λ bytes told. (first.kept bytes told).0;
        kept = λ bytes told. (on bytes told).kept;
        time = λ bytes told.
            leaves_trans (seen view disk) (seen view store.disk) (seen view now.disk) P (leaves_of (seen view disk) (seen view store.disk) (seen view disk).images P (λ image is. inl is) first.quiet.time)
            (leaves_of (seen view store.disk) (seen view now.disk) (HoldsWithin opening e.core.log) P (λ image is. inr is) (on bytes told).time);
      }
