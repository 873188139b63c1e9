-- How parts of a run follow each other, and how a run comes to its end.
use Rattle.rm_lives.proofs.Common.{◌≢◌, ℕ, List, [], ◌∷◌, ◌++◌, Bool, true, false, Some, None, Option, Ok, Err, Result, refl, sym, ◌∙◌, ap, subst, inl, inr, arith, is_ok, append-nil, append_assoc, same_Some, Lane, Client, Master, Node, Clock, Main, Sched, Hand, Write, End, Begin, Op, Close, Settle, Crash, Fallen, DiskView, Fused, KeepsFuse, close_left, StoreError, StoreState, seen, is_blown, stands, DeskView, LaneEffect, HasNoWork, is_ready_at}
use Rattle.std.proofs.Common.{◌≡◌, ◌≤◌}
use Rattle.rm_types.specs.declared.scripts.Segment.{Segment}
use Rattle.rm_store.specs.Store.{StoreInvariant as IsStoreSound}
use Rattle.rm_store.specs.Errors.{store_broken_after}
use Rattle.rm_core.specs.Words.{has_rest}
use Rattle.rm_desk.specs.Lanes.{IsStep, life_goes_on}
use Rattle.rm_desk.specs.Runs.{IsLast, IsScriptOver as IsDeskOver, IsPlaceSound as IsDeskSound}
use Rattle.rm_lives.specs.Falls.{fall}
use Rattle.rm_lives.specs.Goes.{ExtendsRunOver, ExtendsRun, IsRun}
use Rattle.rm_lives.specs.Keeping.{FuseStays, IsUnkept, Serves, StoresOn, armed_by}
use Rattle.rm_lives.specs.declared.moves.LifeEnd.{LifeEnd}
use Rattle.rm_lives.specs.declared.moves.LifeEnd.TheVariants.{Rest, Down}
use Rattle.rm_lives.specs.Lives.{ComesToRest, EndsBy, TakesStep, WentDown, Stores}
use Rattle.rm_lives.specs.Order.{May, Order}
use Rattle.rm_lives.proofs.Moving.{TellsAll, Works, down_goes, down_unkept, goes_same}
use Rattle.rm_lives.proofs.Stored.{keeps_trans, unkept_stores}

-- one part of a run after the other
pub goes_trans : {order : Order} (over : List Op → Type 0) (some more : List Fallen) (a b c : DeskView) → ExtendsRunOver order over some a b → ExtendsRun order more b c → ExtendsRunOver order over (some ++ more) a c
goes_trans {order = order} over some more a b c ab bc =
    record {
      settings = bc.settings ∙ ab.settings;
      began = bc.began ∙ ab.began;
      lives = omega (arith, ab.lives, bc.lives);
      some = λ was. bc.some (ab.some was);
      lawful = λ opening is k. bc.lawful opening tt (ab.lawful opening is k);
      run = λ opening script fallen is run.
          subst (λ (l : List Fallen). IsRun order opening script l c) (append_assoc fallen some more) (bc.run opening script (fallen ++ some) tt (ab.run opening script fallen is run));
    }

pub stores_trans : {order : Order} (opening : List Op) (a b c : DeskView) (one two three : DiskView) → ExtendsRun order [] a b → StoresOn opening a b one two → StoresOn opening b c two three → StoresOn opening a c one three
stores_trans opening a b c one two three goes ab bc = λ k has.
    let first = ab k has in
    keeps_trans opening a.core.log b.core.log c.core.log one two three first (bc (goes.lawful opening tt k) first.kept)

-- a fuse lets no more pass than it is armed with, over any call of the disk
pub within_kept : {D : Type 0} (view : D → DiskView) (keeps : D → D → Type 0) (succeeds : Bool) (old new : Fused D) → ((calls : ℕ) → old.armed ≡ Some calls → old.passed ≤ calls) → KeepsFuse view keeps succeeds old new
    → (calls : ℕ) → new.armed ≡ Some calls → new.passed ≤ calls
within_kept view keeps succeeds old new within kept calls armed = let was = sym kept.armed ∙ armed in kept.within calls was (within calls was)

-- and just as many where it is blown
spent_kept : {D : Type 0} (view : D → DiskView) (keeps : D → D → Type 0) (succeeds : Bool) (old new : Fused D) → (old.blown ≡ true → old.armed ≡ Some old.passed) → KeepsFuse view keeps succeeds old new
    → new.blown ≡ true → new.armed ≡ Some new.passed
spent_kept view keeps succeeds old new spent kept blown = by old.blown refl
  where
    by : (b : Bool) → old.blown ≡ b → new.armed ≡ Some new.passed
    by true was = kept.armed ∙ spent was ∙ ap (λ (n : ℕ). Some n) (sym (kept.halted was))
    by false was = kept.blew was blown

module _ {D : Type 0} (view : D → DiskView) where
  pub fuse_same : (a : Fused D) → FuseStays view a a
  fuse_same a = record { falls = refl; unarmed_falls = refl; size = refl; faults = omega arith }

  pub fuse_trans : (a b c : Fused D) → FuseStays view a b → FuseStays view b c → FuseStays view a c
  fuse_trans a b c ab bc =
      record { falls = bc.falls ∙ ab.falls; unarmed_falls = bc.unarmed_falls ∙ ab.unarmed_falls; size = bc.size ∙ ab.size; faults = omega (arith, ab.faults, bc.faults) }

  -- a call of the disk keeps it
  pub fuse_kept : (keeps : D → D → Type 0) (succeeds : Bool) (a b : Fused D) → KeepsFuse view keeps succeeds a b → (view b.inner).size ≡ (view a.inner).size → FuseStays view a b
  fuse_kept keeps succeeds a b kept size = record { falls = kept.falls; unarmed_falls = kept.unarmed_falls; size = size; faults = kept.faults }

  -- an operation was kept
  pub kept_serves : (keeps : D → D → Type 0) (d next : DeskView) (store now : StoreState D) (r : Result (Unit {0}) StoreError) → close_left next.place.segments ≡ close_left d.place.segments → is_blown d.core ≡ false → is_blown next.core ≡ is_blown d.core
      → Serves view d store → ((e : StoreError) → r ≡ Err e → ⊥) → IsStoreSound view now → now.is_broken ≡ store_broken_after r store.is_broken → KeepsFuse view keeps (is_ok r) store.disk now.disk → Serves view next now
  kept_serves keeps d next store now (Ok x) close unblown same serves none sound broken kept =
      record {
        sound = sound;
        unbroken = λ whole. broken ∙ serves.unbroken unblown;
        armed = rw close (kept.armed ∙ serves.armed);
        blown = kept.success refl ∙ serves.blown ∙ sym same;
        within = within_kept view keeps true store.disk now.disk serves.within kept;
        spent = spent_kept view keeps true store.disk now.disk serves.spent kept;
      }
  kept_serves keeps d next store now (Err e) close unblown same serves none sound broken kept = absurd (none e refl)

  -- or refused, by a fuse that blew
  pub blown_serves : (keeps : D → D → Type 0) (succeeds : Bool) (d next : DeskView) (store now : StoreState D) → close_left next.place.segments ≡ close_left d.place.segments → is_blown next.core ≡ true → Serves view d store → IsStoreSound view now
      → now.disk.blown ≡ true → KeepsFuse view keeps succeeds store.disk now.disk → Serves view next now
  blown_serves keeps succeeds d next store now close blew serves sound blown kept =
      record {
        sound = sound;
        unbroken = λ unblown. let x = sym unblown ∙ blew in cc;
        armed = rw close (kept.armed ∙ serves.armed);
        blown = blown ∙ sym blew;
        within = within_kept view keeps succeeds store.disk now.disk serves.within kept;
        spent = spent_kept view keeps succeeds store.disk now.disk serves.spent kept;
      }

module _ {order : Order} {D : Type 0} (view : D → DiskView) where
  module _ (a b c : DeskView) (first second third : StoreState D) (goes : ExtendsRun order [] a b) (kept : (opening : List Op) → StoresOn opening a b (seen view first.disk) (seen view second.disk)) where
    stores_on : Stores view b c second third → Stores view a c first third
    stores_on h =
        record { sound = h.sound; kept = λ opening. stores_trans opening a b c (seen view first.disk) (seen view second.disk) (seen view third.disk) goes (kept opening) (h.kept opening) }

    pub ends_on : (end : LifeEnd) → EndsBy order view b c second third end → EndsBy order view a c first third end
    ends_on Rest h =
        record { used_up = h.used_up; goes = goes_trans (λ opening. Unit {0}) [] [] a b c goes h.goes; over = h.over; unarmed = h.unarmed; unblown = h.unblown; stores = stores_on h.stores }
    ends_on (Down image) h =
        record {
          calls = h.calls;
          blew = h.blew;
          armed = h.armed;
          blown = h.blown;
          within = h.within;
          spent = h.spent;
          goes = goes_trans (λ opening. Unit {0}) [] (fall h.calls image h.blew ∷ []) a b c goes h.goes;
          down = h.down;
          stores = stores_on h.stores;
        }

  -- a move that doesn't touch the store
  pub works_on : (lane : Lane) (d next : DeskView) (store : StoreState D) → LaneEffect lane d next → Works order d next → IsStep lane → lane ≢ End → Serves view d store → TakesStep order view d next store store
  works_on lane d next store does works step goes serves =
      record {
        goes = works.goes;
        less = does.less;
        stands = does.standing ∙ stays lane step goes (close_left d.place.segments);
        closes = inl works.close;
        serves = record { sound = serves.sound; unbroken = λ unblown. serves.unbroken (sym works.blown ∙ unblown); armed = rw works.close serves.armed; blown = serves.blown ∙ sym works.blown; within = serves.within; spent = serves.spent };
        stores = record { sound = serves.sound; kept = λ opening. unkept_stores opening d next works.same (seen view store.disk) };
      }
    where
      stays : (lane : Lane) → IsStep lane → lane ≢ End → (close : Option Close) → life_goes_on lane close ≡ true
      stays Client step goes close = refl
      stays Master step goes close = refl
      stays Node step goes close = refl
      stays Clock step goes close = refl
      stays Main step goes close = refl
      stays Sched step goes close = refl
      stays Hand step goes close = refl
      stays Write step goes close = refl
      stays End step goes close = absurd (goes refl)
      stays Begin step goes close = refl

  -- a segment settled, and the fuse is armed as the next one says
  pub settles_on : (d next : DeskView) (store now : StoreState D) → LaneEffect End d next → ExtendsRun order [] d next → IsUnkept d next → close_left d.place.segments ≡ Some Settle
      → now.disk.inner ≡ store.disk.inner → now.disk.refused ≡ store.disk.refused → Serves view next now → TakesStep order view d next store now
  settles_on d next store now does goes same settles inner refused serves =
      record {
        goes = goes;
        less = does.less;
        stands = does.standing ∙ ap (life_goes_on End) settles;
        closes = inr (does.settled refl settles);
        serves = serves;
        stores = record { sound = serves.sound; kept = λ opening k has. rw (inner, refused) (unkept_stores opening d next same (seen view store.disk) k has) };
      }

  -- a life went down
  pub goes_down_on : (d next : DeskView) (store : StoreState D) → LaneEffect End d next → May order End d → TellsAll d → TellsAll next → (is_blown d.core ≡ false → HasNoWork d → has_rest d.core) → (calls image : ℕ)
      → close_left d.place.segments ≡ Some (Crash calls image) → Serves view d store → WentDown order view d next store store image
  goes_down_on d next store does chosen tells told idle calls image crash serves =
      record {
        calls = calls;
        blew = is_blown d.core;
        armed = serves.armed ∙ ap armed_by crash;
        blown = serves.blown;
        within = serves.within calls (serves.armed ∙ ap armed_by crash);
        spent = λ blew. same_Some store.disk.passed calls (sym (serves.spent (serves.blown ∙ blew)) ∙ serves.armed ∙ ap armed_by crash);
        goes = down_goes d next does chosen tells told idle calls image crash;
        down = does.standing ∙ ap (life_goes_on End) crash;
        stores = record { sound = serves.sound; kept = λ opening. unkept_stores opening d next (down_unkept d next does chosen tells told idle calls image crash) (seen view store.disk) };
      }

-- a life of which nothing is left of the script didn't blow
pub over_unblown : (d : DeskView) → IsDeskSound d → stands d.core ≡ true → d.place.segments ≡ [] → is_blown d.core ≡ false
over_unblown d sound alive none = by (is_blown d.core) refl
  where
    by : (b : Bool) → is_blown d.core ≡ b → b ≡ false
    by true blown = absurd (subst (λ (s : List Segment). IsLast (close_left s)) none (sound.blown alive blown))
    by false blown = refl

-- where the run is over it comes to rest
pub comes_to_rest : {order : Order} {D : Type 0} (view : D → DiskView) (d : DeskView) (store : StoreState D) → IsDeskSound d → Serves view d store → stands d.core ≡ true → IsDeskOver d → TellsAll d → order.ends d.core.log → ComesToRest order view d d store store
comes_to_rest view d store sound serves alive over tells ends =
    record {
      goes = goes_same d;
      used_up = ends;
      over = record { lives = over.lives; segments = over.segments; rest = λ opening k. (tells opening k).at_rest (over.rest alive) };
      unarmed = serves.armed ∙ ap (λ (s : List Segment). armed_by (close_left s)) over.segments;
      unblown = serves.blown ∙ over_unblown d sound alive over.segments;
      stores = record { sound = serves.sound; kept = λ opening. unkept_stores opening d d (record { kept = λ ops k image h. h; more = []; grows = sym (append-nil d.core.log) }) (seen view store.disk) };
    }
