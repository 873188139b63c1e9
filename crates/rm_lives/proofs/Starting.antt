-- A life starts over what its disk holds, and leaves what it kept there.
use Rattle.rm_lives.proofs.Common.{ℕ, List, [], ◌∷◌, ◌++◌, Bool, true, false, Some, None, Option, Ok, Err, Result, refl, sym, ◌∙◌, ap, subst, inl, inr, arith, IfErr, OnOk, append-nil, Op, Entry, Records, Fallen, DiskView, Fused, KeepsFuse, leaves_of, leaves_same, DeviceHolds, state_after, StoreState, seen, StoreError, IsLeftAfter, StandsFor, stands, DeskView}
use Rattle.std.proofs.Common.{◌≡◌}
use Rattle.std.specs.Prelude.{IfOk}
use Rattle.rm_disk.specs.Disk.{EachImage, Falls, IsQuiet, IfTold}
use Rattle.rm_disk.specs.Fuse.{FaultedFuse, blown_after_fall, fallen_fuse, falls_after, unarmed_falls_after}
use Rattle.rm_disk.proofs.Views.{quiet_same, told_after}
use Rattle.rm_store.specs.Content.{HasContent}
use Rattle.rm_lives.specs.Order.{Order}
use Rattle.rm_lives.specs.Survives.{HoldsWithin}
use Rattle.rm_store.specs.Causes.{IsWhy}
use Rattle.rm_store.specs.Errors.{IsOpenError}
use Rattle.rm_store.specs.Store.{AreRead, StoreInvariant as IsStoreSound}
use Rattle.rm_store.specs.declared.fault.StoreError.TheVariants as store
use Rattle.rm_types.specs.Counts.{Rose}
use Rattle.rm_lives.specs.declared.halts.Halt.{Halt}
use Rattle.rm_lives.specs.declared.halts.Halt.TheVariants as halts
use Rattle.rm_lives.specs.declared.halts.Stop.{Stop}
use Rattle.rm_lives.specs.declared.moves.LifeEnd.{LifeEnd}
use Rattle.rm_lives.specs.declared.moves.LifeEnd.TheVariants.{Rest, Down}
use Rattle.rm_lives.specs.Falls.{fall}
use Rattle.rm_lives.specs.Goes.{ExtendsRunOver}
use Rattle.rm_lives.specs.Halted.{stop_of, stop_at_open}
use Rattle.rm_lives.specs.Keeping.{FuseStays, HaltsBy, HaltsOver, HoldsIn, BeganLife, IsFoundOn, IsHaltedBy, IsKeptOn, KeepsOn, Serves, StoresOn}
use Rattle.rm_lives.specs.Lives.{EndsBy, ComesToRest, WentDown}
use Rattle.rm_lives.specs.Starts.{StartEffect, DiskStays, Halts, IsOpenedStore, IsUnopenedBy, KeepsOver, LeavesAtEnd, Lives, LivesTo, disarmed}
use Rattle.rm_lives.proofs.Ending.{fuse_trans, goes_trans}
use Rattle.rm_lives.proofs.Halting.{after_within, halts_on, keeps_leaves}
use Rattle.rm_lives.proofs.Stored.{holds_kept, just_holds, keeps_trans}

module _ {D : Type 0} (view : D → DiskView) where
  -- a store that was opened on a disarmed fuse
  pub opened : (inner : D → D → Type 0) (old disarmed : Fused D) (store : StoreState D) (tree : Records) (ops : List Op) → disarmed ≡ record old { armed = None; blown = false }
      → IsStoreSound view store → store.is_broken ≡ false → AreRead tree ops
      → IfTold (seen view disarmed) (λ bytes. HasContent bytes ops) → IfTold (seen view disarmed) (λ bytes. EachImage (seen view store.disk) (λ image. HasContent image ops))
      → IsQuiet (seen view disarmed) (seen view store.disk) → KeepsFuse view inner true disarmed store.disk → IsOpenedStore view old store tree ops
  opened inner old disarmed store tree ops is sound unbroken read =
      let F : Fused D → Type 0 = λ x.
      IfTold (seen view x) (λ bytes. HasContent bytes ops) → IfTold (seen view x) (λ bytes. EachImage (seen view store.disk) (λ image. HasContent image ops))
      → IsQuiet (seen view x) (seen view store.disk) → KeepsFuse view inner true x store.disk → IsOpenedStore view old store tree ops in
      subst F (sym is) (λ holds images quiet kept.
      let unblown : store.disk.blown ≡ false = kept.success refl in
      record {
        sound = sound;
        unbroken = unbroken;
        unarmed = kept.armed;
        unblown = unblown;
        falls = kept.falls;
        disk = record {
          unarmed_falls = kept.unarmed_falls;
          size = quiet.goes_on.size;
          faults = (let same = kept.unrefused unblown in let more = quiet.goes_on.faults in omega arith);
        };
        read = read;
        quiet = quiet;
        holds = holds;
        images = images;
      })

  -- a store that wasn't opened on a disarmed fuse
  pub unopened : (inner faulted : D → D → Type 0) → ((x y : D) → faulted x y → Rose (view x).faults (view y).faults) → (old disarmed now : Fused D) → disarmed ≡ record old { armed = None; blown = false }
      → (error : StoreError) → IsOpenError error → IfTold (seen view disarmed) (λ bytes. IsWhy bytes error) → (error ≡ store.DiskFault → FaultedFuse view faulted disarmed now) → KeepsFuse view inner false disarmed now
      → IsUnopenedBy view old now (stop_at_open error)
  unopened inner faulted counts old disarmed now is error can why fault kept = by error can (subst (λ (f : Fused D). IfTold (seen view f) (λ bytes. IsWhy bytes error)) is why) fault
    where
      unblown : (b : Bool) → now.blown ≡ b → now.blown ≡ false
      unblown false e = e
      unblown true e = absurd (
          let armed = sym kept.armed ∙ kept.blew (ap (λ (f : Fused D). f.blown) is) e in
          let none : disarmed.armed ≡ None = ap (λ (f : Fused D). f.armed) is in
          cc
          )

      by : (error : StoreError) → IsOpenError error → IfTold (seen view old) (λ bytes. IsWhy bytes error) → (error ≡ store.DiskFault → FaultedFuse view faulted disarmed now) → IsUnopenedBy view old now (stop_at_open error)
      by store.DiskFault can why fault = subst (λ (x : D). Rose (view x).faults (view now.inner).faults) (ap (λ (f : Fused D). f.inner) is) (counts disarmed.inner now.inner ((fault refl).inside (unblown now.blown refl)))
      by (store.Damaged offset) can why fault = λ bytes told. inl (why bytes told)
      by (store.Stray number offset) can why fault = λ bytes told. inr (number, why bytes told)
      by (store.Full needed room) can why fault = absurd can
      by store.NeedsReopen can why fault = absurd can
      by store.Memory can why fault = tt

  -- what a life begins with is on the disk on which it was found
  begun_keeps : (d mid : DeskView) (tree : Records) → BeganLife tree d mid → (opening : List Op) → StandsFor opening d.core → (disk : DiskView) → IsFoundOn opening d.core tree disk → KeepsOn opening d.core.log mid.core.log disk disk
  begun_keeps d mid tree begun opening k disk has =
      let next = state_after opening mid.core.log in
      let kept = begun.kept opening k in
      let unblown = begun.unblown opening k in
      record {
        kept = record {
          bytes = has.bytes;
          told = has.told;
          holds = just_holds next has.bytes unblown (subst (λ (ops : List Op). DeviceHolds has.bytes ops) (sym kept) has.holds);
          images = λ image is. just_holds next image unblown (subst (λ (ops : List Op). DeviceHolds image ops) (sym kept) (has.images image is));
        };
        time = leaves_same disk (HoldsWithin opening mid.core.log);
        more = begun.more;
        grows = begun.grows;
      }

  -- a life began, and its store serves it
  pub begins : (d mid : DeskView) (store now : StoreState D) (tree : Records) → BeganLife tree d mid → stands mid.core ≡ true → now.disk.inner ≡ store.disk.inner → now.disk.refused ≡ store.disk.refused
      → Serves view mid now → StartEffect view (λ opening. IsLeftAfter tree opening d.core.log) (λ opening. IsFoundOn opening d.core tree (seen view store.disk)) d mid store now
  begins d mid store now tree begun alive inner refused serves =
      record {
        stands = alive;
        some = begun.some;
        serves = serves;
        kept = λ opening left k has. rw (inner, refused) (begun_keeps d mid tree begun opening k (seen view store.disk) has);
      }

  -- what is kept is on a disk that fell
  pub falls_keep : (opening : List Op) (log : List Entry) (before after : DiskView) → Falls before after → IsKeptOn opening log before → KeepsOn opening log log before after
  falls_keep opening log before after falls has =
      let now = told_after before after falls.goes_on has.bytes has.told in
      let holds : HoldsIn (state_after opening log) now.0 = has.images now.0 (falls.told now.0 now.1) in
      record {
        kept = record {
          bytes = now.0;
          told = now.1;
          holds = holds;
          images = λ image is.
              let same : Some now.0 ≡ Some image = sym now.1 ∙ falls.durable image is in
              let one : now.0 ≡ image = cc in
              subst (λ (bytes : List ℕ). HoldsIn (state_after opening log) bytes) one holds;
        };
        time = leaves_of before after before.images (HoldsWithin opening log)
            (λ image is. after_within opening log image (holds_kept (state_after opening log) image (has.images image is))) falls.time;
        more = [];
        grows = sym (append-nil log);
      }

module _ {order : Order} {D : Type 0} (view : D → DiskView) where
  -- disarming a fuse changes nothing of what is told of a halt
  disarmed_halts : (over found : List Op → Type 0) (d new : DeskView) (disk now : Fused D) (halt : Halt) → HaltsOver order view over found d new disk now halt → HaltsOver order view over found d new disk (disarmed now) halt
  disarmed_halts over found d new disk now halt h = record { goes = h.goes; why = why halt h.why; left = h.left }
    where
      why : (halt : Halt) → IsHaltedBy order view over found d new disk now halt → IsHaltedBy order view over found d new disk (disarmed now) halt
      why halts.DiskFault is = is
      why (halts.Full needed room) is = is
      why (halts.Schedule place) is = is
      why halts.Memory is = tt

  module _ (over found : List Op → Type 0) (d mid new : DeskView) (store one two : StoreState D) (goes : ExtendsRunOver order over [] d mid) (begun : StartEffect view over found d mid store one)
      (first : FuseStays view store.disk one.disk) (second : FuseStays view one.disk two.disk) where
    stays : FuseStays view store.disk two.disk
    stays = fuse_trans view store.disk one.disk two.disk first second

    disk_stays : DiskStays view store.disk two.disk
    disk_stays = record { unarmed_falls = stays.unarmed_falls; size = stays.size; faults = stays.faults }

    kept_to : ((opening : List Op) → StoresOn opening mid new (seen view one.disk) (seen view two.disk)) → KeepsOver over found d new (seen view store.disk) (seen view two.disk)
    kept_to stores = λ opening is k has.
        let first_part = begun.kept opening is k has in
        keeps_trans opening d.core.log mid.core.log new.core.log (seen view store.disk) (seen view one.disk) (seen view two.disk) first_part
        (stores opening (goes.lawful opening is k) first_part.kept)

    rested : (disk : Fused D) → disk ≡ two.disk → ComesToRest order view mid new one two → Lives order view over found d new store.disk disk
    rested disk same rest =
        subst (λ (f : Fused D). Lives order view over found d new store.disk f) (sym same)
        (record {
          fallen = [];
          goes = goes_trans over [] [] d mid new goes rest.goes;
          falls = stays.falls ∙ sym (append-nil store.disk.falls);
          at_ease = record { unarmed = rest.unarmed; unblown = rest.unblown };
          disk_stays = disk_stays;
          ends = inr rest.over;
          some = rest.goes.some begun.some;
          kept = kept_to rest.stores.kept;
        })

    went_down : (disk : Fused D) (image : ℕ) → Falls (seen view two.disk) (seen view disk) → disk ≡ fallen_fuse two.disk disk.inner image → WentDown order view mid new one two image
        → Lives order view over found d new store.disk disk
    went_down disk image falls is down =
        let fell : disk.falls ≡ store.disk.falls ++ fall down.calls image down.blew ∷ [] =
        ap (λ (f : Fused D). f.falls) is
        ∙ ap (λ (a : Option ℕ). falls_after two.disk.falls a image two.disk.blown) down.armed
        ∙ ap (λ (b : Bool). two.disk.falls ++ record { calls = down.calls; image = image; blown = b } ∷ []) down.blown
        ∙ ap (λ (l : List Fallen). l ++ fall down.calls image down.blew ∷ []) stays.falls in
        record {
          fallen = fall down.calls image down.blew ∷ [];
          goes = goes_trans over [] (fall down.calls image down.blew ∷ []) d mid new goes down.goes;
          falls = fell;
          at_ease = record {
            unarmed = ap (λ (f : Fused D). f.armed) is;
            unblown = ap (λ (f : Fused D). f.blown) is ∙ ap (λ (a : Option ℕ). blown_after_fall a two.disk.blown) down.armed;
          };
          disk_stays = record {
            unarmed_falls = ap (λ (f : Fused D). f.unarmed_falls) is ∙ ap (λ (a : Option ℕ). unarmed_falls_after two.disk.unarmed_falls a) down.armed ∙ stays.unarmed_falls;
            size = falls.goes_on.size ∙ stays.size;
            faults = (let same = falls.faults in let refused = ap (λ (f : Fused D). f.refused) is in let before = stays.faults in omega arith);
          };
          ends = inl down.down;
          some = down.goes.some begun.some;
          kept = λ opening over_it k has.
              let so_far = kept_to down.stores.kept opening over_it k has in
              keeps_trans opening d.core.log new.core.log new.core.log (seen view store.disk) (seen view two.disk) (seen view disk) so_far
              (falls_keep view opening new.core.log (seen view two.disk) (seen view disk) falls so_far.kept);
        }

    halted : (disk : Fused D) (halt : Halt) → disk ≡ disarmed two.disk → HaltsBy order view mid new one.disk two.disk halt → Halts order view over found d new store.disk disk (stop_of halt)
    halted disk halt same h =
        subst (λ (f : Fused D). Halts order view over found d new store.disk f (stop_of halt)) (sym same)
        (record {
          falls = stays.falls;
          at_ease = record { unarmed = refl; unblown = refl };
          disk_stays = record { unarmed_falls = stays.unarmed_falls; size = stays.size; faults = stays.faults };
          halt = halt;
          stops = refl;
          halted = disarmed_halts over found d new store.disk two.disk halt (halts_on view over found d mid new store.disk one.disk two.disk goes begun.kept first.faults halt h);
          quiet = λ empty. absurd (h.goes.some begun.some empty);
          unbegun = λ empty. absurd (h.goes.some begun.some empty);
        })

    -- how a life that began went
    pub lived : (inner : ℕ → D → D → Type 0) (disk : Fused D) (ended : Result LifeEnd Halt) (result : Result (Unit {0}) Stop) → IfOk ended (EndsBy order view mid new one two)
        → IfErr ended (HaltsBy order view mid new one.disk two.disk) → LeavesAtEnd view inner two.disk disk ended result → LivesTo order view over found d new store.disk disk result
    lived inner disk (Ok Rest) result ends why leaves =
        subst (λ (r : Result (Unit {0}) Stop). LivesTo order view over found d new store.disk disk r) (sym leaves.1) (rested disk leaves.0 ends)
    lived inner disk (Ok (Down image)) result ends why leaves =
        subst (λ (r : Result (Unit {0}) Stop). LivesTo order view over found d new store.disk disk r) (sym leaves.1) (went_down disk image leaves.0.0 leaves.0.1.shown ends)
    lived inner disk (Err halt) result ends why leaves =
        subst (λ (r : Result (Unit {0}) Stop). LivesTo order view over found d new store.disk disk r) (sym leaves.1) (halted disk halt leaves.0 why)

  -- a life that did not begin stopped the run
  pub unbegun : (over found : List Op → Type 0) (d new : DeskView) (store two : StoreState D) (disk : Fused D) (halt : Halt) → HaltsOver order view over found d new store.disk two.disk halt → two.disk.inner ≡ store.disk.inner
      → two.disk.refused ≡ store.disk.refused → FuseStays view store.disk two.disk → disk ≡ disarmed two.disk → halt ≡ halts.Memory → Halts order view over found d new store.disk disk (stop_of halt)
  unbegun over found d new store two disk halt h inner refused stays same memory =
      subst (λ (f : Fused D). Halts order view over found d new store.disk f (stop_of halt)) (sym same)
      (record {
        falls = stays.falls;
        at_ease = record { unarmed = refl; unblown = refl };
        disk_stays = record { unarmed_falls = stays.unarmed_falls; size = stays.size; faults = stays.faults };
        halt = halt;
        stops = refl;
        halted = disarmed_halts over found d new store.disk two.disk halt h;
        quiet = λ empty. rw (inner, refused) (quiet_same (seen view store.disk));
        unbegun = λ empty. memory;
      })

  -- memory ran out directly after a life began
  pub begun_halts : (d mid : DeskView) (disk now : Fused D) (tree : Records) → ExtendsRunOver order (λ opening. IsLeftAfter tree opening d.core.log) [] d mid → BeganLife tree d mid → now.inner ≡ disk.inner → now.refused ≡ disk.refused
      → HaltsOver order view (λ opening. IsLeftAfter tree opening d.core.log) (λ opening. IsFoundOn opening d.core tree (seen view disk)) d mid disk now halts.Memory
  begun_halts d mid disk now tree goes begun inner refused =
      record {
        goes = goes;
        why = tt;
        left = λ opening left k has. rw (inner, refused) (keeps_leaves opening d.core.log mid.core.log (seen view disk) (seen view disk) (begun_keeps view d mid tree begun opening k (seen view disk) has));
      }

-- what is told of a life that ended is told of what it left
pub left_ok : {D : Type 0} (P : Type 0) (view : D → DiskView) (inner : ℕ → D → D → Type 0) (old new : Fused D) (ended : Result LifeEnd Halt) (result : Result (Unit {0}) Stop) → LeavesAtEnd view inner old new ended result → OnOk ended P → OnOk result P
left_ok P view inner old new (Ok end) result leaves p = subst (λ (r : Result (Unit {0}) Stop). OnOk r P) (sym leaves.1) p
left_ok P view inner old new (Err halt) result leaves p = subst (λ (r : Result (Unit {0}) Stop). OnOk r P) (sym leaves.1) tt

-- where a life stands that came to rest, nothing is left of the schedule
pub rest_used : {D : Type 0} (view : D → DiskView) (order : Order) (mid new : DeskView) (one two : StoreState D) (ended : Result LifeEnd Halt) → IfOk ended (EndsBy order view mid new one two) → OnOk ended (stands new.core ≡ true → order.ends new.core.log)
rest_used view order mid new one two (Ok Rest) ends = λ alive. ends.used_up
rest_used view order mid new one two (Ok (Down image)) ends = λ alive. let x = sym ends.down ∙ alive in cc
rest_used view order mid new one two (Err halt) ends = tt
