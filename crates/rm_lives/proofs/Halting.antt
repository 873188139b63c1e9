-- What is left on a disk where a part of a run halted.
use Rattle.rm_lives.proofs.Common.{◌⊎◌, ℕ, ◌<◌, List, [], ◌∷◌, ◌++◌, None, Some, Option, Bool, true, false, Ok, Err, Result, refl, sym, ◌∙◌, ap, subst, inl, inr, ⊎_elim, arith, IfErr, append-nil, append_assoc, Entry, Op, Close, Settle, Crash, Records, records, DiskView, Fused, KeepsFuse, leaves_of, leaves_same, leaves_trans, DeviceHolds, kept_after_landing, state_after, close_left, Manager, StoreError, IsBelowLast, seen, Seen, StandsFor, landed_over, IsHanded, DeskView}
use Rattle.std.proofs.Common.{◌≡◌, ◌≤◌, take, slice_get}
use Rattle.rm_types.specs.Counts.{Rose}
use Rattle.rm_types.specs.Records.{fits_records}
use Rattle.rm_tree.specs.Shows.{shows}
use Rattle.rm_lives.specs.Order.{HaltsHere, Order}
use Rattle.rm_lives.specs.Survives.{HoldsAfter, HoldsKept, HoldsWithin}
use Rattle.rm_store.specs.declared.fault.StoreError.TheVariants as store
use Rattle.rm_store.specs.Kept.{HasOps, LeavesOps, needed_for}
use Rattle.rm_store.specs.Store.{room_behind}
use Rattle.rm_core.specs.Seen.{IsToBeKept}
use Rattle.rm_lives.specs.declared.halts.Halt.{Halt}
use Rattle.rm_lives.specs.declared.halts.Halt.TheVariants.{DiskFault, Full, Schedule, Memory}
use Rattle.rm_lives.specs.Goes.{ExtendsRun, ExtendsRunOver}
use Rattle.rm_lives.specs.Halted.{halt_of}
use Rattle.rm_lives.specs.Keeping.{HaltsBy, HaltsOver, IsFoundOn, IsFullFor, IsHaltedBy, IsKeptOn, IsUnkept, KeepsOn, LeavesOn, armed_by, has_blown}
use Rattle.rm_lives.specs.Stops.{NoneLeft}
use Rattle.rm_lives.proofs.Ending.{goes_trans}
use Rattle.rm_lives.proofs.Moving.{goes_same}
use Rattle.rm_lives.proofs.Stored.{has_kept, holds_kept, unkept_stores, within_longer}

-- a disk that has what is kept leaves it
pub keeps_leaves : (opening : List Op) (log longer : List Entry) (old new : DiskView) → KeepsOn opening log longer old new → LeavesOn opening log longer old new
keeps_leaves opening log longer old new k =
    record { time = k.time; now = λ image is. holds_kept (state_after opening longer) image (k.kept.images image is); more = k.more; grows = k.grows }

-- one part after the other
pub leaves_after : (opening : List Op) (first second third : List Entry) (a b c : DiskView) → KeepsOn opening first second a b → LeavesOn opening second third b c → LeavesOn opening first third a c
leaves_after opening first second third a b c ab bc =
    record {
      time = leaves_trans a b c (HoldsWithin opening third)
          (leaves_of a b (HoldsWithin opening second) (HoldsWithin opening third) (within_longer opening second third bc.more bc.grows) ab.time) bc.time;
      now = bc.now;
      more = ab.more ++ bc.more;
      grows = bc.grows ∙ ap (λ (l : List Entry). l ++ bc.more) ab.grows ∙ append_assoc first ab.more bc.more;
    }

-- what is left after a log is left of some beginning of it
pub after_within : (opening : List Op) (log : List Entry) (image : List ℕ) → HoldsAfter opening log image → HoldsWithin opening log image
after_within opening log image is = record { before = log; later = []; whole = sym (append-nil log); holds = is }

-- a disk to which the operation that awaits was to be added
op_leaves : (opening : List Op) (core : Seen) (op : Op) (old new : DiskView) → has_blown (state_after opening core.log) ≡ false → IsToBeKept opening core op
    → ((ops : List Op) → HasOps old ops → fits_records (records ops) op ≡ true → LeavesOps old new ops op)
    → IsKeptOn opening core.log old → LeavesOn opening core.log core.log old new
op_leaves opening core op old new unblown to_keep leaves has =
    let s = state_after opening core.log in
    let moments = leaves s.kept (has_kept opening core.log old unblown has) to_keep.fits in
    record {
      time = leaves_of old new _ (HoldsWithin opening core.log) (λ image is. after_within opening core.log image (either image is)) moments.so_far;
      now = λ image is. either image (moments.now image is);
      more = [];
      grows = sym (append-nil core.log);
    }
  where
    either : (image : List ℕ) → DeviceHolds image (state_after opening core.log).kept ⊎ DeviceHolds image ((state_after opening core.log).kept ++ op ∷ []) → HoldsAfter opening core.log image
    either image (inl before) = inl before
    either image (inr after) = inr (op, to_keep.first, after)

-- where the fuse blew, the current segment crashes after as many calls
pub blown_close : {D : Type 0} (view : D → DiskView) (keeps : D → D → Type 0) (succeeds : Bool) (d : DeskView) (old new : Fused D) → old.armed ≡ armed_by (close_left d.place.segments) → old.blown ≡ false → new.blown ≡ true → KeepsFuse view keeps succeeds old new
    → (image : ℕ) × (close_left d.place.segments ≡ Some (Crash new.passed image))
blown_close view keeps succeeds d old new armed unblown blown kept = by (close_left d.place.segments) refl (sym armed ∙ sym kept.armed ∙ kept.blew unblown blown)
  where
    by : (close : Option Close) → close_left d.place.segments ≡ close → armed_by close ≡ Some new.passed → (image : ℕ) × (close_left d.place.segments ≡ Some (Crash new.passed image))
    by None e is = cc
    by (Some Settle) e is = cc
    by (Some (Crash calls image)) e is = let same : calls ≡ new.passed = cc in (image, e ∙ ap (λ (n : ℕ). Some (Crash n image)) same)

-- an error that is want of memory
pub if_memory : {A : Type 0} (P : Halt → Type 0) (r : Result A Halt) → P Memory → IfErr r (λ halt. halt ≡ Memory) → IfErr r P
if_memory P (Ok x) p h = tt
if_memory P (Err halt) p h = subst P (sym h) p

-- what is told of a full disk where more is known, is told where less is
pub full_known : (known less below : Type 0) (opening : List Op) (log : List Entry) (size needed room : ℕ) → (less → known) → IsFullFor (known × below) opening log size needed room → IsFullFor (less × below) opening log size needed room
full_known known less below opening log size needed room by full =
    record { op = full.op; handed = full.handed; needs = full.needs; less = full.less; behind = λ is. full.behind (by is.0, is.1) }

-- so it is with what a disk shows where no epoch is left
pub none_known : (known less : Type 0) (disk : DiskView) (opening : List Op) (log : List Entry) → (less → known) → NoneLeft known disk opening log → NoneLeft less disk opening log
none_known known less disk opening log by none = record { tree = none.tree; left = none.left; none = none.none; shown = λ is. none.shown (by is) }

-- a part of a run over some opening lists alone
pub goes_any : {order : Order} (over : List Op → Type 0) (a b : DeskView) → ExtendsRun order [] a b → ExtendsRunOver order over [] a b
goes_any over a b g =
    record {
      settings = g.settings;
      began = g.began;
      lives = g.lives;
      some = g.some;
      lawful = λ opening is k. g.lawful opening tt k;
      run = λ opening script fallen is run. g.run opening script fallen tt run;
    }

pub unkept_same : (d : DeskView) → IsUnkept d d
unkept_same d = record { kept = λ opening k image h. h; more = []; grows = sym (append-nil d.core.log) }

-- none of what awaits has landed, or one
landed_number : (core : Seen) (tree : Records) → (landed_over core tree ≡ 0) ⊎ (landed_over core tree ≡ 1)
landed_number core tree = by core.tables.blown refl core.tables.awaiting refl
  where
    by : (b : Bool) → core.tables.blown ≡ b → (awaiting : List Op) → core.tables.awaiting ≡ awaiting → (landed_over core tree ≡ 0) ⊎ (landed_over core tree ≡ 1)
    by false e awaiting w = inl (rw e refl)
    by true e [] w = inl (rw (e, w) refl)
    by true e (op ∷ rest) w = one (shows tree op) refl
      where
        one : (b : Bool) → shows tree op ≡ b → (landed_over core tree ≡ 0) ⊎ (landed_over core tree ≡ 1)
        one true s = inr (rw (e, w, s) refl)
        one false s = inl (rw (e, w, s) refl)

-- so what holds what a life begins with holds what is kept, or this and the first operation that awaited
landed_holds : (s : Manager) (core : Seen) (tree : Records) (image : List ℕ) → DeviceHolds image (kept_after_landing s (landed_over core tree)) → HoldsKept s image
landed_holds s core tree image h = ⊎_elim none one (landed_number core tree)
  where
    none : landed_over core tree ≡ 0 → HoldsKept s image
    none e = inl (subst (λ (ops : List Op). DeviceHolds image ops) (ap (λ (n : ℕ). kept_after_landing s n) e ∙ append-nil s.kept) h)

    one : landed_over core tree ≡ 1 → HoldsKept s image
    one e = by s.awaiting refl (subst (λ (n : ℕ). DeviceHolds image (kept_after_landing s n)) e h)
      where
        by : (awaiting : List Op) → s.awaiting ≡ awaiting → DeviceHolds image (s.kept ++ take 1 s.awaiting) → HoldsKept s image
        by [] w holds = inl (subst (λ (ops : List Op). DeviceHolds image ops) (ap (λ (l : List Op). s.kept ++ take 1 l) w ∙ append-nil s.kept) holds)
        by (op ∷ rest) w holds = inr (op, ap (λ (l : List Op). slice_get l 0) w, subst (λ (ops : List Op). DeviceHolds image ops) (ap (λ (l : List Op). s.kept ++ take 1 l) w) holds)

module _ {order : Order} {D : Type 0} (view : D → DiskView) where
  -- memory ran out where nothing was kept
  pub halts_unkept : (d next : DeskView) (disk now : Fused D) → ExtendsRun order [] d next → IsUnkept d next → now.inner ≡ disk.inner → now.refused ≡ disk.refused → HaltsBy order view d next disk now Memory
  halts_unkept d next disk now goes same inner refused =
      record {
        goes = goes;
        why = tt;
        left = λ opening is k has.
            let kept = unkept_stores opening d next same (seen view disk) k has in
            rw (inner, refused) (keeps_leaves opening d.core.log next.core.log (seen view disk) (seen view disk) kept);
      }

  -- or nothing was done at all
  pub halts_as : (d : DeskView) (disk : Fused D) (halt : Halt) → IsHaltedBy order view (λ opening. Unit {0}) (λ opening. IsKeptOn opening d.core.log (seen view disk)) d d disk disk halt → HaltsBy order view d d disk disk halt
  halts_as d disk halt why =
      record {
        goes = goes_same d;
        why = why;
        left = λ opening is k has. keeps_leaves opening d.core.log d.core.log (seen view disk) (seen view disk) (unkept_stores opening d d (unkept_same d) (seen view disk) k has);
      }

  pub halts_still : (d : DeskView) (disk : Fused D) → HaltsBy order view d d disk disk Memory
  halts_still d disk = halts_as d disk Memory tt

  -- where no life began
  pub halts_same : (over : List Op → Type 0) (d : DeskView) (disk : Fused D) (tree : Records) → HaltsOver order view over (λ opening. IsFoundOn opening d.core tree (seen view disk)) d d disk disk Memory
  halts_same over d disk tree =
      record {
        goes = goes_any over d d (goes_same d);
        why = tt;
        left = λ opening is k has.
            record {
              time = leaves_same (seen view disk) (HoldsWithin opening d.core.log);
              now = λ image here. landed_holds (state_after opening d.core.log) d.core tree image (has.images image here);
              more = [];
              grows = sym (append-nil d.core.log);
            };
      }

  -- an append was refused by a whole store
  pub append_halts : (faulted : D → D → Type 0) → ((x y : D) → faulted x y → Rose (view x).faults (view y).faults)
      → (d : DeskView) (disk now : Fused D) (op : Op) → ((opening : List Op) → StandsFor opening d.core → has_blown (state_after opening d.core.log) ≡ false) → ((opening : List Op) → StandsFor opening d.core → IsToBeKept opening d.core op)
      → ((opening : List Op) → StandsFor opening d.core → IsHanded opening d.core.log op)
      → ((ops : List Op) → HasOps (seen view disk) ops → fits_records (records ops) op ≡ true → LeavesOps (seen view disk) (seen view now) ops op)
      → (view now.inner).size ≡ (view disk.inner).size
      → (error : StoreError) → (error ≡ store.DiskFault → faulted disk.inner now.inner)
      → ((needed room : ℕ) → error ≡ store.Full needed room → (needed ≡ needed_for op) × (room < needed) × ((ops : List Op) → HasOps (seen view disk) ops → IsBelowLast (view now.inner) → room ≡ room_behind (view disk.inner).size ops))
      → HaltsBy order view d d disk now (halt_of error)
  append_halts faulted counts d disk now op unblown next is_handed leaves size error fault full =
      record {
        goes = goes_same d;
        why = by error fault full;
        left = λ opening is k has. op_leaves opening d.core op (seen view disk) (seen view now) (unblown opening k) (next opening k) leaves has;
      }
    where
      by : (error : StoreError) → (error ≡ store.DiskFault → faulted disk.inner now.inner)
          → ((needed room : ℕ) → error ≡ store.Full needed room → (needed ≡ needed_for op) × (room < needed) × ((ops : List Op) → HasOps (seen view disk) ops → IsBelowLast (view now.inner) → room ≡ room_behind (view disk.inner).size ops))
          → IsHaltedBy order view (λ opening. Unit {0}) (λ opening. IsKeptOn opening d.core.log (seen view disk)) d d disk now (halt_of error)
      by store.DiskFault fault full = (counts disk.inner now.inner (fault refl), λ opening is k. (op, is_handed opening k))
      by (store.Full needed room) fault full = λ opening is k.
          let told = full needed room refl in
          record {
            op = op;
            handed = is_handed opening k;
            needs = told.0;
            less = told.1;
            behind = λ has.
                told.2 (state_after opening d.core.log).kept (has_kept opening d.core.log (seen view disk) (unblown opening k) has.0) has.1
                ∙ ap (λ (n : ℕ). room_behind n (state_after opening d.core.log).kept) (sym size);
          }
      by (store.Damaged offset) fault full = tt
      by (store.Stray number offset) fault full = tt
      by store.NeedsReopen fault full = tt
      by store.Memory fault full = tt

  -- the store has the operation, or refused it, and the manager found no memory to learn so
  pub unlearned_halts : (d : DeskView) (disk now : Fused D) (op : Op) → ((opening : List Op) → StandsFor opening d.core → has_blown (state_after opening d.core.log) ≡ false)
      → ((opening : List Op) → StandsFor opening d.core → IsToBeKept opening d.core op)
      → ((ops : List Op) → HasOps (seen view disk) ops → fits_records (records ops) op ≡ true → LeavesOps (seen view disk) (seen view now) ops op)
      → HaltsBy order view d d disk now Memory
  unlearned_halts d disk now op unblown next leaves =
      record {
        goes = goes_same d;
        why = tt;
        left = λ opening is k has. op_leaves opening d.core op (seen view disk) (seen view now) (unblown opening k) (next opening k) leaves has;
      }

  -- a part of a run, and one after it that halted
  module _ (over found : List Op → Type 0) (a b c : DeskView) (first second third : Fused D) (goes : ExtendsRunOver order over [] a b)
      (kept : (opening : List Op) → over opening → StandsFor opening a.core → found opening → KeepsOn opening a.core.log b.core.log (seen view first) (seen view second))
      (faults : (view first.inner).faults ≤ (view second.inner).faults) where
    pub halts_on : (halt : Halt) → HaltsBy order view b c second third halt → HaltsOver order view over found a c first third halt
    halts_on halt h =
        record {
          goes = goes_trans over [] [] a b c goes h.goes;
          why = by halt h.why;
          left = λ opening is k has.
              let so_far = kept opening is k has in
              leaves_after opening a.core.log b.core.log c.core.log (seen view first) (seen view second) (seen view third) so_far (h.left opening tt (goes.lawful opening is k) so_far.kept);
        }
      where
        by : (halt : Halt) → IsHaltedBy order view (λ opening. Unit {0}) (λ opening. IsKeptOn opening b.core.log (seen view second)) b c second third halt → IsHaltedBy order view over found a c first third halt
        by DiskFault why = (let rose = why.0 in omega (arith, faults, rose), λ opening is k. why.1 opening tt (goes.lawful opening is k))
        by (Full needed room) why = λ opening is k.
            full_known (IsKeptOn opening b.core.log (seen view second)) (found opening) (IsBelowLast (view third.inner)) opening c.core.log (view third.inner).size needed room
            (λ has. (kept opening is k has).kept) (why opening tt (goes.lawful opening is k))
        by (Schedule place) why = why
        by Memory why = tt

-- where the order stops the run here, that is why it halts
pub halts_here : {D : Type 0} (view : D → DiskView) (order : Order) (d : DeskView) (disk : Fused D) → (halt : Halt) → HaltsHere order d halt
    → IsHaltedBy order view (λ opening. Unit {0}) (λ opening. IsKeptOn opening d.core.log (seen view disk)) d d disk disk halt
halts_here view order d disk DiskFault stops = absurd stops
halts_here view order d disk (Full needed room) stops = absurd stops
halts_here view order d disk (Schedule place) stops = stops
halts_here view order d disk Memory stops = absurd stops
