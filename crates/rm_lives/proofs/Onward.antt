-- The first life of a script, and one life after the other.
use Rattle.rm_lives.proofs.Common.{◌≢◌, ◌⊎◌, ℕ, ◌<◌, List, [], ◌∷◌, ◌++◌, Bool, true, false, Option, Some, None, Ok, Err, Result, refl, sym, ◌∙◌, ap, subst, inl, inr, ⊎_elim, arith, IfErr, append-nil, append_assoc, Op, Entry, Records, records, Fallen, DiskView, Fused, leaves_of, leaves_same, leaves_trans, DeviceHolds, kept_after_landing, state_after, LifeState, Manager, StoreError, StoreState, IsBelowLast, seen, IsLeftAfter, Seen, StandsFor, landed_over, stands, DeskView, IsHanded}
use Rattle.std.proofs.Common.{◌≡◌, ◌^◌, ◌-◌, take, slice_get}
use Rattle.rm_disk.specs.Disk.{Leaves, IfTold}
use Rattle.rm_disk.proofs.Views.{quiet_trans}
use Rattle.rm_store.specs.Content.{HasContent}
use Rattle.rm_types.specs.Alike.{IsAlike}
use Rattle.rm_types.specs.Folded.{folded}
use Rattle.rm_store.proofs.compaction.Ordering.{alike}
use Rattle.rm_store.specs.Causes.{IsWhy}
use Rattle.rm_store.specs.Errors.{IsOpenError}
use Rattle.rm_store.specs.declared.fault.StoreError.TheVariants as store
use Rattle.rm_lives.specs.Opens.{IsOfDevice, OpensAgain}
use Rattle.rm_lives.specs.Order.{HaltsHere, Order, StopsHere}
use Rattle.rm_lives.specs.Survives.{HoldsKept, HoldsWithin, SurvivesAll, SurvivesNow}
use Rattle.rm_store.proofs.Faultless.{one_left, never_damaged, never_stray}
use Rattle.rm_core.proofs.Alike.{like_same}
use Rattle.rm_core.specs.Queues.{own_tree}
use Rattle.rm_core.specs.Moves.{HasLanded, IsLeft, IsOwn}
use Rattle.rm_core.proofs.Telling.{told_none_landed, told_one_landed}
use Rattle.rm_lives.specs.declared.halts.Halt.{Halt}
use Rattle.rm_lives.specs.declared.halts.Halt.TheVariants as halts
use Rattle.rm_lives.specs.declared.halts.Stop.{Stop}
use Rattle.rm_lives.specs.declared.halts.Stop.TheVariants.{DiskFault, Damaged, Full, Schedule, EpochsSpent, Memory}
use Rattle.rm_lives.specs.Goes.{ExtendsRunOver, IsOver}
use Rattle.rm_lives.specs.Halted.{stop_of}
use Rattle.rm_lives.specs.Keeping.{HaltsOver, HoldsBy, IsFoundOn, IsHaltedBy, IsKeptOn, KeepsOn, LeavesOn, blown_in, has_blown}
use Rattle.rm_lives.specs.Later.{FirstStopped, FirstTo, IsAgain, IsDueAt, IsFirst, IsLaterStop, IsReady, IsUnfounded, IsUnready, LaterTo, StopsLater}
use Rattle.rm_lives.specs.Starts.{DiskStays, Halts, IsAtEase, IsGivenBack, IsOpenedStore, IsRefusedBy, IsUnopenedBy, Lives, LivesTo}
use Rattle.rm_lives.specs.Stops.{IsNoStore, IsStoppedBy, IsTold, NoneLeft, ShowsTree}
use Rattle.rm_lives.proofs.Ending.{goes_trans}
use Rattle.rm_lives.proofs.Halting.{after_within, full_known, goes_any, leaves_after, none_known}
use Rattle.rm_lives.proofs.Moving.{goes_same}
use Rattle.rm_lives.proofs.Stored.{holds_kept, keeps_trans, within_longer}

-- a content, and what is held where the same is left of both
held_by : (bytes : List ℕ) (content ops : List Op) → HasContent bytes content → folded content ≡ folded ops → DeviceHolds bytes ops
held_by bytes content ops has same = record { content = content; has = has; same = same }

-- and their records are alike
like_left : (tree : Records) (content ops : List Op) → tree ≡ records content → folded content ≡ folded ops → IsAlike tree (records ops)
like_left tree content ops amounts same = subst (λ (r : Records). IsAlike r (records ops)) (sym amounts) (alike content ops same)

-- a device that holds operations is a store
pub no_store_not : (bytes : List ℕ) (ops : List Op) (offset : ℕ) → DeviceHolds bytes ops → IsNoStore offset bytes → ⊥
no_store_not bytes ops offset holds why = ⊎_elim (λ damaged. never_damaged bytes ops holds offset damaged) (λ stray. never_stray bytes ops holds stray.0 offset stray.1) why

-- so is one that holds what is kept, or this and one more
no_store_kept : (s : Manager) (bytes : List ℕ) (offset : ℕ) → HoldsKept s bytes → IsNoStore offset bytes → ⊥
no_store_kept s bytes offset (inl holds) why = no_store_not bytes s.kept offset holds why
no_store_kept s bytes offset (inr (op, first, holds)) why = no_store_not bytes (s.kept ++ op ∷ []) offset holds why

-- so what a run left opens again
pub opens_again : (opening : List Op) (log : List Entry) → OpensAgain opening log
opens_again opening log image holds why is_open cause = by why is_open cause
  where
    by : (why : StoreError) → IsOpenError why → IsWhy image why → IsOfDevice why
    by store.DiskFault is_open cause = tt
    by (store.Damaged offset) is_open cause = no_store_kept (state_after opening log) image offset holds (inl cause)
    by (store.Stray number offset) is_open cause = no_store_kept (state_after opening log) image offset holds (inr (number, cause))
    by (store.Full needed room) is_open cause = absurd is_open
    by store.NeedsReopen is_open cause = absurd is_open
    by store.Memory is_open cause = tt

-- the first of a list, taken
take_first : (ops : List Op) (op : Op) → slice_get ops 0 ≡ Some op → take 1 ops ≡ op ∷ []
take_first [] op h = cc
take_first (one ∷ ops) op h = let same : one ≡ op = cc in ap (λ (x : Op). x ∷ []) same

-- before the first life nothing is with the store
pub never_handed : (opening : List Op) (op : Op) → IsHanded opening [] op → ⊥
never_handed opening op h = let never = h.first in cc

module _ {D : Type 0} (view : D → DiskView) where
  pub stays_trans : (a b c : Fused D) → DiskStays view a b → DiskStays view b c → DiskStays view a c
  stays_trans a b c ab bc = record { unarmed_falls = bc.unarmed_falls ∙ ab.unarmed_falls; size = bc.size ∙ ab.size; faults = (let one = ab.faults in let two = bc.faults in omega arith) }

  pub stays_same : (a : Fused D) → DiskStays view a a
  stays_same a = record { unarmed_falls = refl; size = refl; faults = omega arith }

  -- a later life whose store wasn't opened
  pub unopened_again : (opening : List Op) (log : List Entry) (disk now : Fused D) (why : Stop) → IsUnopenedBy view disk now why → IsUnready view opening log disk now why
  unopened_again opening log disk now DiskFault h = h
  unopened_again opening log disk now (Damaged offset) h = λ has. absurd (no_store_kept (state_after opening log) has.bytes offset (holds_kept (state_after opening log) has.bytes has.holds) (h has.bytes has.told))
  unopened_again opening log disk now Memory h = tt
  unopened_again opening log disk now (Full needed room) h = absurd h
  unopened_again opening log disk now (Schedule place) h = absurd h
  unopened_again opening log disk now EpochsSpent h = absurd h

  -- the first life's store wasn't opened
  pub unopened_first : (disk now : Fused D) (why : Stop) → IsUnopenedBy view disk now why → IsUnfounded view [] disk now why
  unopened_first disk now DiskFault h = (refl, h)
  unopened_first disk now (Damaged offset) h = (refl, h)
  unopened_first disk now Memory h = tt
  unopened_first disk now (Full needed room) h = absurd h
  unopened_first disk now (Schedule place) h = absurd h
  unopened_first disk now EpochsSpent h = absurd h

  module _ (disk : Fused D) (store : StoreState D) (tree : Records) (ops : List Op) (o : IsOpenedStore view disk store tree ops) where
    -- what was opened is what the last life left, and what the next one begins with
    record Found (s : Manager) (core : Seen) : Type 0 where
      left : IsLeft tree s
      same : folded ops ≡ folded (kept_after_landing s (landed_over core tree))

    module _ (opening : List Op) (core : Seen) (k : StandsFor opening core) (dead : stands core ≡ false) (none : (state_after opening core.log).life ≡ None) (has : IsKeptOn opening core.log (seen view disk)) where
      abbrev s : Manager
      s = state_after opening core.log

      -- just what is kept
      kept_found : DeviceHolds has.bytes s.kept → Found s core
      kept_found holds =
          let same : folded ops ≡ folded s.kept = one_left has.bytes ops s.kept (held_by has.bytes ops ops (o.holds has.bytes has.told) refl) holds in
          let like : IsAlike tree (records s.kept) = like_left tree ops s.kept o.read.amounts same in
          record { left = inl like; same = same ∙ sym (ap folded (ap (λ (n : ℕ). kept_after_landing s n) (told_none_landed core opening k dead tree like) ∙ append-nil s.kept)) }

      -- or this and the operation that was refused
      more_found : has_blown s ≡ true → (op : Op) → slice_get s.awaiting 0 ≡ Some op → DeviceHolds has.bytes (s.kept ++ op ∷ []) → Found s core
      more_found blown op first holds =
          let same : folded ops ≡ folded (s.kept ++ op ∷ []) = one_left has.bytes ops (s.kept ++ op ∷ []) (held_by has.bytes ops ops (o.holds has.bytes has.told) refl) holds in
          let blew : s.blew ≡ true = sym (ap (λ (life : Option LifeState). blown_in life s.blew) none) ∙ blown in
          let landed : HasLanded tree s = record { blew = blew; op = op; first = first; amounts = like_left tree ops (s.kept ++ op ∷ []) o.read.amounts same } in
          record {
            left = inr landed;
            same = same ∙ sym (ap folded (ap (λ (n : ℕ). kept_after_landing s n) (told_one_landed core opening k dead tree landed) ∙ ap (λ (l : List Op). s.kept ++ l) (take_first s.awaiting op first)));
          }

      found_on : Found s core
      found_on = by (has_blown s) refl has.holds
        where
          by : (b : Bool) → has_blown s ≡ b → HoldsBy b s has.bytes → Found s core
          by false e holds = kept_found holds
          by true e (inl holds) = kept_found holds
          by true e (inr (op, first, holds)) = more_found e op first holds

      pub left_found : IsLeft tree s
      left_found = found_on.left

      again_found : IsFoundOn opening core tree (seen view store.disk)
      again_found =
          let same = found_on.same in
          let kept = kept_after_landing s (landed_over core tree) in
          record {
            bytes = has.bytes;
            told = o.quiet.told ∙ has.told;
            holds = held_by has.bytes ops kept (o.holds has.bytes has.told) same;
            images = λ image is. held_by image ops kept (o.images has.bytes has.told image is) same;
          }

    ready : tree.next_epoch < 2 ^ 24 → tree.stamp < 2 ^ 63 - 1 → IsReady view disk store tree
    ready epoch stamp =
        record {
          sound = o.sound;
          unbroken = o.unbroken;
          unarmed = o.unarmed;
          unblown = o.unblown;
          falls = o.falls;
          stays = o.disk;
          over = record { of_store = record { ops = ops; framed = o.read.framed; none_stray = o.read.none_stray; amounts = o.read.amounts }; epoch = epoch; stamp = stamp };
        }

    -- it is given back, since no life can begin over it
    pub given_back : IsGivenBack view disk store.disk
    given_back = record { quiet = o.quiet; stays = o.disk; falls = o.falls; at_ease = record { unarmed = o.unarmed; unblown = o.unblown } }

    -- and shows what was read of it
    shows_tree : (bytes : List ℕ) → (seen view disk).told ≡ Some bytes → ShowsTree tree (seen view store.disk)
    shows_tree bytes told =
        record { bytes = bytes; told = o.quiet.told ∙ told; amounts = (ops, o.holds bytes told, o.read.amounts); images = λ image is. (ops, o.images bytes told image is, o.read.amounts) }

    -- for its operations
    pub refused_first : (stop : Stop) → IsRefusedBy tree stop → IsUnfounded view ops disk store.disk stop
    refused_first (Damaged offset) h = absurd h
    refused_first EpochsSpent h = (o.holds, record { tree = tree; left = inl (like_same tree (records ops) o.read.amounts); none = h; shown = λ known. shows_tree known.0 known.1 })
    refused_first DiskFault h = absurd h
    refused_first (Full needed room) h = absurd h
    refused_first (Schedule place) h = absurd h
    refused_first Memory h = absurd h

    -- or for those that the last life left
    pub refused_again : (opening : List Op) (core : Seen) → IsLeft tree (state_after opening core.log) → (stop : Stop) → IsRefusedBy tree stop → IsUnready view opening core.log disk store.disk stop
    refused_again opening core left (Damaged offset) h = absurd h
    refused_again opening core left EpochsSpent h = record { tree = tree; left = left; none = h; shown = λ has. shows_tree has.bytes has.told }
    refused_again opening core left DiskFault h = absurd h
    refused_again opening core left (Full needed room) h = absurd h
    refused_again opening core left (Schedule place) h = absurd h
    refused_again opening core left Memory h = absurd h

    pub is_first : tree.next_epoch < 2 ^ 24 → tree.stamp < 2 ^ 63 - 1 → IsFirst view disk store tree ops
    is_first epoch stamp =
        record {
          ready = ready epoch stamp;
          amounts = o.read.amounts;
          kept = λ bytes told. (o.holds bytes told, o.images bytes told);
          quiet = o.quiet;
        }

    pub is_again : (core : Seen) → stands core ≡ false → ((opening : List Op) → StandsFor opening core → (state_after opening core.log).life ≡ None) → tree.next_epoch < 2 ^ 24 → tree.stamp < 2 ^ 63 - 1
        → core.log ≢ [] → IsOwn core tree → ((opening : List Op) → StandsFor opening core → IsLeft tree (state_after opening core.log)) → IsAgain view core disk store tree
    is_again core dead none epoch stamp some own left =
        record {
          ready = ready epoch stamp;
          own = own;
          left = λ opening k. record { left = left opening k; first = λ empty. absurd (some empty) };
          found = λ opening k has. again_found opening core k dead (none opening k) has;
          time = λ opening k has.
              leaves_of (seen view disk) (seen view store.disk) (seen view disk).images (HoldsWithin opening core.log)
              (λ image is. after_within opening core.log image (holds_kept (state_after opening core.log) image (has.images image is))) o.quiet.time;
          quiet = o.quiet;
        }

  -- what was done before a part of a run, in which the store wrote nothing
  pub keeps_before : (opening : List Op) (log longer : List Entry) (a b c : DiskView) → Leaves a b (HoldsWithin opening log) → KeepsOn opening log longer b c → KeepsOn opening log longer a c
  keeps_before opening log longer a b c time k =
      record {
        kept = k.kept;
        time = leaves_trans a b c (HoldsWithin opening longer) (leaves_of a b (HoldsWithin opening log) (HoldsWithin opening longer) (within_longer opening log longer k.more k.grows) time) k.time;
        more = k.more;
        grows = k.grows;
      }

  leaves_before : (opening : List Op) (log longer : List Entry) (a b c : DiskView) → Leaves a b (HoldsWithin opening log) → LeavesOn opening log longer b c → LeavesOn opening log longer a c
  leaves_before opening log longer a b c time l =
      record {
        time = leaves_trans a b c (HoldsWithin opening longer) (leaves_of a b (HoldsWithin opening log) (HoldsWithin opening longer) (within_longer opening log longer l.more l.grows) time) l.time;
        now = l.now;
        more = l.more;
        grows = l.grows;
      }

module _ (order : Order) {D : Type 0} (view : D → DiskView) where
  -- a part of a run over fewer opening lists
  pub goes_over : (P Q : List Op → Type 0) (more : List Fallen) (a b : DeskView) → ((opening : List Op) → Q opening → StandsFor opening a.core → P opening) → ExtendsRunOver order P more a b → ExtendsRunOver order Q more a b
  goes_over P Q more a b from g =
      record {
        settings = g.settings;
        began = g.began;
        lives = g.lives;
        some = g.some;
        lawful = λ opening q k. g.lawful opening (from opening q k) k;
        run = λ opening script fallen q run. g.run opening script fallen (from opening q run.goes.stands) run;
      }

  -- a life after an earlier one
  module _ (d new : DeskView) (disk now : Fused D) (store : StoreState D) (tree : Records) (again : IsAgain view d.core disk store tree) where
    abbrev over : List Op → Type 0
    over opening = IsLeftAfter tree opening d.core.log

    abbrev found : List Op → Type 0
    found opening = IsFoundOn opening d.core tree (seen view store.disk)

    halted_later : (stop : Stop) → Halts order view over found d new store.disk now stop → (halt : Halt) → IsHaltedBy order view over found d new store.disk now halt
        → (opening : List Op) → StandsFor opening d.core → IsLaterStop order view opening d new disk now (stop_of halt)
    halted_later stop h halts.DiskFault why opening k =
        (let before = again.ready.stays.faults in let rose = why.0 in omega arith, inr (why.1 opening (again.left opening k) k))
    halted_later stop h (halts.Full needed room) why opening k =
        full_known (found opening) (IsKeptOn opening d.core.log (seen view disk)) (IsBelowLast (view now.inner)) opening new.core.log (view now.inner).size needed room
        (λ has. again.found opening k has) (why opening (again.left opening k) k)
    halted_later stop h (halts.Schedule place) why opening k = why
    halted_later stop h halts.Memory why opening k = tt

    pub again_to : (r : Result (Unit {0}) Stop) → LivesTo order view over found d new store.disk now r → LaterTo order view d new disk now r
    again_to (Ok x) l =
        record {
          fallen = l.fallen;
          goes = goes_over over (λ opening. Unit {0}) l.fallen d new (λ opening q k. again.left opening k) l.goes;
          falls = l.falls ∙ ap (λ (xs : List Fallen). xs ++ l.fallen) again.ready.falls;
          at_ease = l.at_ease;
          disk_stays = stays_trans view disk store.disk now again.ready.stays l.disk_stays;
          ends = l.ends;
          some = l.some;
          kept = λ opening q k has.
              keeps_before view opening d.core.log new.core.log (seen view disk) (seen view store.disk) (seen view now) (again.time opening k has) (l.kept opening (again.left opening k) k (again.found opening k has));
        }
    again_to (Err stop) h =
        record {
          fallen = [];
          goes = goes_over over (λ opening. Unit {0}) [] d new (λ opening q k. again.left opening k) h.halted.goes;
          falls = h.falls ∙ again.ready.falls ∙ sym (append-nil disk.falls);
          stays = stays_trans view disk store.disk now again.ready.stays h.disk_stays;
          at_ease = h.at_ease;
          why = λ opening k. subst (λ (s : Stop). IsLaterStop order view opening d new disk now s) (sym h.stops) (halted_later stop h h.halt h.halted.why opening k);
          left = λ opening q k has.
              leaves_before view opening d.core.log new.core.log (seen view disk) (seen view store.disk) (seen view now) (again.time opening k has) (h.halted.left opening (again.left opening k) k (again.found opening k has));
        }

  -- a later life that had no store to begin over
  pub stopped_before : (d : DeskView) (disk now : Fused D) (stop : Stop) → stands d.core ≡ false → d.place.lives ≢ [] → IsGivenBack view disk now
      → ((opening : List Op) → StandsFor opening d.core → IsUnready view opening d.core.log disk now stop) → StopsLater order view d d disk now stop
  stopped_before d disk now stop dead lives back why =
      record {
        fallen = [];
        goes = goes_same d;
        falls = back.falls ∙ sym (append-nil disk.falls);
        stays = back.stays;
        at_ease = back.at_ease;
        why = λ opening k. by opening stop (why opening k);
        left = λ opening q k has.
            record {
              time = leaves_of (seen view disk) (seen view now) (seen view disk).images (HoldsWithin opening d.core.log) (λ image is. after_within opening d.core.log image (holds_kept (state_after opening d.core.log) image (has.images image is))) back.quiet.time;
              now = λ image is. holds_kept (state_after opening d.core.log) image (has.images image (back.quiet.images image is));
              more = [];
              grows = sym (append-nil d.core.log);
            };
      }
    where
      due : IsDueAt d
      due = record { dead = dead; lives = lives }

      by : (opening : List Op) (stop : Stop) → IsUnready view opening d.core.log disk now stop → IsLaterStop order view opening d d disk now stop
      by opening DiskFault why = (why, inl due)
      by opening (Damaged offset) why = (due, why)
      by opening (Full needed room) why = absurd why
      by opening (Schedule place) why = absurd why
      by opening EpochsSpent why = (due, why)
      by opening Memory why = tt

  -- lives over a disk that has what is kept
  abbrev LivesLater : DeskView → DeskView → Fused D → Fused D → Type 0
  LivesLater old new disk now = Lives order view (λ opening. Unit {0}) (λ opening. IsKeptOn opening old.core.log (seen view disk)) old new disk now

  -- no life was lived yet
  pub lives_same : (d : DeskView) (disk : Fused D) → IsAtEase disk → (stands d.core ≡ false) ⊎ IsOver d → d.core.log ≢ [] → LivesLater d d disk disk
  lives_same d disk at_ease ends some =
      record {
        fallen = [];
        goes = goes_same d;
        falls = sym (append-nil disk.falls);
        at_ease = at_ease;
        disk_stays = stays_same view disk;
        ends = ends;
        some = some;
        kept = λ opening q k has.
            record { kept = has; time = leaves_same (seen view disk) (HoldsWithin opening d.core.log); more = []; grows = sym (append-nil d.core.log) };
      }

  -- a later life that did not begin, of whose disk no call was made
  stops_here : (d : DeskView) (disk : Fused D) (stop : Stop) → IsAtEase disk → ((opening : List Op) → StandsFor opening d.core → IsLaterStop order view opening d d disk disk stop) → StopsLater order view d d disk disk stop
  stops_here d disk stop at_ease why =
      record {
        fallen = [];
        goes = goes_same d;
        falls = sym (append-nil disk.falls);
        stays = stays_same view disk;
        at_ease = at_ease;
        why = why;
        left = λ opening q k has.
            record {
              time = leaves_same (seen view disk) (HoldsWithin opening d.core.log);
              now = λ image is. holds_kept (state_after opening d.core.log) image (has.images image is);
              more = [];
              grows = sym (append-nil d.core.log);
            };
      }

  module _ (a b c : DeskView) (first second third : Fused D) (ab : LivesLater a b first second) where
    pub lives_trans : LivesLater b c second third → LivesLater a c first third
    lives_trans bc =
        record {
          fallen = ab.fallen ++ bc.fallen;
          goes = goes_trans (λ opening. Unit {0}) ab.fallen bc.fallen a b c ab.goes bc.goes;
          falls = bc.falls ∙ ap (λ (xs : List Fallen). xs ++ bc.fallen) ab.falls ∙ append_assoc first.falls ab.fallen bc.fallen;
          at_ease = bc.at_ease;
          disk_stays = stays_trans view first second third ab.disk_stays bc.disk_stays;
          ends = bc.ends;
          some = bc.some;
          kept = λ opening q k has.
              let one = ab.kept opening q k has in
              keeps_trans opening a.core.log b.core.log c.core.log (seen view first) (seen view second) (seen view third) one (bc.kept opening q (ab.goes.lawful opening q k) one.kept);
        }

    later_stop : (opening : List Op) → StandsFor opening a.core → (stop : Stop) → IsLaterStop order view opening b c second third stop → IsLaterStop order view opening a c first third stop
    later_stop opening k DiskFault why = (let before = ab.disk_stays.faults in let rose = why.0 in omega arith, why.1)
    later_stop opening k (Damaged offset) why = (why.0, λ has. why.1 (ab.kept opening tt k has).kept)
    later_stop opening k (Full needed room) why =
        full_known (IsKeptOn opening b.core.log (seen view second)) (IsKeptOn opening a.core.log (seen view first)) (IsBelowLast (view third.inner)) opening c.core.log (view third.inner).size needed room
        (λ has. (ab.kept opening tt k has).kept) why
    later_stop opening k (Schedule place) why = why
    later_stop opening k EpochsSpent why =
        (why.0, none_known (IsKeptOn opening b.core.log (seen view second)) (IsKeptOn opening a.core.log (seen view first)) (seen view third) opening c.core.log (λ has. (ab.kept opening tt k has).kept) why.1)
    later_stop opening k Memory why = tt

    pub stops_after : (stop : Stop) → StopsLater order view b c second third stop → StopsLater order view a c first third stop
    stops_after stop bc =
        record {
          fallen = ab.fallen ++ bc.fallen;
          goes = goes_trans (λ opening. Unit {0}) ab.fallen bc.fallen a b c ab.goes bc.goes;
          falls = bc.falls ∙ ap (λ (xs : List Fallen). xs ++ bc.fallen) ab.falls ∙ append_assoc first.falls ab.fallen bc.fallen;
          stays = stays_trans view first second third ab.disk_stays bc.stays;
          at_ease = bc.at_ease;
          why = λ opening k. later_stop opening k stop (bc.why opening (ab.goes.lawful opening tt k));
          left = λ opening q k has.
              let one = ab.kept opening q k has in
              leaves_after opening a.core.log b.core.log c.core.log (seen view first) (seen view second) (seen view third) one (bc.left opening q (ab.goes.lawful opening q k) one.kept);
        }

  -- the first life
  module _ (d new : DeskView) (disk now : Fused D) (store : StoreState D) (tree : Records) (opening : List Op) (first : IsFirst view disk store tree opening) (empty : d.core.log ≡ []) (dead : stands d.core ≡ false) where
    abbrev over_first : List Op → Type 0
    over_first ops = IsLeftAfter tree ops d.core.log

    abbrev found_first : List Op → Type 0
    found_first ops = IsFoundOn ops d.core tree (seen view store.disk)

    kept_first : (ops : List Op) → ops ≡ opening → (state_after ops d.core.log).kept ≡ opening
    kept_first ops same = ap (λ (l : List Entry). (state_after ops l).kept) empty ∙ same

    pub left_first : (ops : List Op) → ops ≡ opening → over_first ops
    left_first ops same = record { left = inl (like_same tree (records (state_after ops d.core.log).kept) (first.amounts ∙ sym (ap records (kept_first ops same)))); first = λ e. first.amounts ∙ ap records (sym same) }

    -- its disk holds just what it begins with
    pub is_found : (bytes : List ℕ) → (seen view disk).told ≡ Some bytes → StandsFor opening d.core → found_first opening
    is_found bytes told k =
        let s = state_after opening d.core.log in
        let kept = kept_first opening refl in
        let are : kept_after_landing s (landed_over d.core tree) ≡ opening =
        ap (λ (n : ℕ). kept_after_landing s n) (told_none_landed d.core opening k dead tree (like_same tree (records s.kept) (first.amounts ∙ sym (ap records kept)))) ∙ append-nil s.kept ∙ kept in
        let held = first.kept bytes told in
        record {
          bytes = bytes;
          told = first.quiet.told ∙ told;
          holds = held_by bytes opening (kept_after_landing s (landed_over d.core tree)) held.0 (ap folded (sym are));
          images = λ image is. held_by image opening (kept_after_landing s (landed_over d.core tree)) (held.1 image is) (ap folded (sym are));
        }

    -- a halt of it stops the run
    halted_first : (stop : Stop) (h : Halts order view over_first found_first d new store.disk now stop) (halt : Halt)
        → IsHaltedBy order view over_first found_first d new store.disk now halt → h.halt ≡ halt → StandsFor opening d.core
        → IsStoppedBy view (IsDueAt new) (StopsHere order new) disk now opening new.core.log (stop_of halt)
    halted_first stop h halts.DiskFault why is k =
        let handed = why.1 opening (left_first opening refl) k in (
          let before = first.ready.stays.faults in let rose = why.0 in omega arith,
          inr handed,
          λ none. absurd (never_handed opening handed.0 (subst (λ (l : List Entry). IsHanded opening l handed.0) none handed.1)),
        )
    halted_first stop h (halts.Full needed room) why is k =
        full_known (found_first opening) (IsTold (seen view disk)) (IsBelowLast (view now.inner)) opening new.core.log (view now.inner).size needed room
        (λ told. is_found told.0 told.1 k) (why opening (left_first opening refl) k)
    halted_first stop h (halts.Schedule place) why is k = (why, λ none. let x = sym is ∙ h.unbegun none in cc)
    halted_first stop h halts.Memory why is k = tt

    -- and what is left then
    survives_first : (halt : Halt) → HaltsOver order view over_first found_first d new store.disk now halt → StandsFor opening d.core
        → SurvivesAll opening new.core.log (seen view disk) (seen view now) × SurvivesNow opening new.core.log (seen view disk) (seen view now)
    survives_first halt h k = (
      λ bytes told.
          let left = h.left opening (left_first opening refl) k (is_found bytes told k) in
          record {
            so_far = leaves_trans (seen view disk) (seen view store.disk) (seen view now) (λ image. (seen view disk).images image ⊎ HoldsWithin opening new.core.log image)
                (leaves_of (seen view disk) (seen view store.disk) (seen view disk).images (λ image. (seen view disk).images image ⊎ HoldsWithin opening new.core.log image) (λ image is. inl is) first.quiet.time)
                (leaves_of (seen view store.disk) (seen view now) (HoldsWithin opening new.core.log) (λ image. (seen view disk).images image ⊎ HoldsWithin opening new.core.log image) (λ image is. inr is) left.time);
            now = λ image is. inr (after_within opening new.core.log image (left.now image is));
          },
      λ some bytes told. (h.left opening (left_first opening refl) k (is_found bytes told k)).now,
    )

    pub first_to : (r : Result (Unit {0}) Stop) → LivesTo order view over_first found_first d new store.disk now r → FirstTo order view opening d new disk now r
    first_to (Ok x) l =
        record {
          fallen = l.fallen;
          goes = goes_over over_first (λ ops. ops ≡ opening) l.fallen d new (λ ops q k. left_first ops q) l.goes;
          falls = l.falls ∙ ap (λ (xs : List Fallen). xs ++ l.fallen) first.ready.falls;
          at_ease = l.at_ease;
          stays = stays_trans view disk store.disk now first.ready.stays l.disk_stays;
          ends = l.ends;
          some = l.some;
          opened = λ bytes told. (first.kept bytes told).0;
          kept = λ bytes told k.
              let on = l.kept opening (left_first opening refl) k (is_found bytes told k) in
              record {
                opened = (first.kept bytes told).0;
                kept = on.kept;
                time = leaves_trans (seen view disk) (seen view store.disk) (seen view now) _
                    (leaves_of (seen view disk) (seen view store.disk) (seen view disk).images (λ image. (seen view disk).images image ⊎ HoldsWithin opening new.core.log image) (λ image is. inl is) first.quiet.time)
                    (leaves_of (seen view store.disk) (seen view now) (HoldsWithin opening new.core.log) (λ image. (seen view disk).images image ⊎ HoldsWithin opening new.core.log image) (λ image is. inr is) on.time);
              };
        }
    first_to (Err stop) h =
        record {
          goes = goes_over over_first (λ ops. ops ≡ opening) [] d new (λ ops q k. left_first ops q) h.halted.goes;
          falls = h.falls ∙ first.ready.falls;
          stays = stays_trans view disk store.disk now first.ready.stays h.disk_stays;
          at_ease = h.at_ease;
          held = λ some bytes told. (first.kept bytes told).0;
          found = inr (λ bytes told. (first.kept bytes told).0);
          quiet = λ none. quiet_trans (seen view disk) (seen view store.disk) (seen view now) first.quiet (h.quiet none);
          left = λ k. survives_first h.halt h.halted k;
          why = λ k. subst (λ (s : Stop). IsStoppedBy view (IsDueAt new) (StopsHere order new) disk now opening new.core.log s) (sym h.stops) (halted_first stop h h.halt h.halted.why refl k);
        }

  -- the first life had no store to begin over
  pub unfounded_stops : (d : DeskView) (disk now : Fused D) (opening : List Op) (stop : Stop) → stands d.core ≡ false → d.place.lives ≢ [] → d.core.log ≡ [] → IsGivenBack view disk now
      → (opening ≡ []) ⊎ IfTold (seen view disk) (λ bytes. HasContent bytes opening) → IsUnfounded view opening disk now stop → FirstStopped order view opening d d disk now stop
  unfounded_stops d disk now opening stop dead lives empty back found why =
      record {
        goes = goes_any (λ ops. ops ≡ opening) d d (goes_same d);
        falls = back.falls;
        stays = back.stays;
        at_ease = back.at_ease;
        held = λ some. absurd (some empty);
        found = found;
        quiet = λ none. back.quiet;
        left = λ k. (
          λ bytes told.
              record {
                so_far = leaves_of (seen view disk) (seen view now) (seen view disk).images (λ image. (seen view disk).images image ⊎ HoldsWithin opening d.core.log image) (λ image is. inl is) back.quiet.time;
                now = λ image is. inl (back.quiet.images image is);
              },
          λ some. absurd (some empty),
        );
        why = λ k. by stop why;
      }
    where
      due : IsDueAt d
      due = record { dead = dead; lives = lives }

      by : (stop : Stop) → IsUnfounded view opening disk now stop → IsStoppedBy view (IsDueAt d) (StopsHere order d) disk now opening d.core.log stop
      by DiskFault why = (why.1, inl due, λ none. why.0)
      by (Damaged offset) why = (due, λ bytes told. (empty, why.0, why.1 bytes told), λ none. why.0)
      by (Full needed room) why = absurd why
      by (Schedule place) why = absurd why
      by EpochsSpent why = (due, (why.0, subst (λ (l : List Entry). NoneLeft (IsTold (seen view disk)) (seen view now) opening l) (sym empty) why.1))
      by Memory why = tt

-- the order stopped the run before a later life
module _ (order : Order) {D : Type 0} (view : D → DiskView) (a b : DeskView) (first second : Fused D) (lived : Lives order view (λ opening. Unit {0}) (λ opening. IsKeptOn opening a.core.log (seen view first)) a b first second) where
  at_place : (stop : Stop) (place : ℕ) → stop ≡ Schedule place → StopsHere order b place → StopsLater order view a b first second stop
  at_place stop place is stops =
      stops_after order view a b b first second second lived stop
      (subst (λ (s : Stop). StopsLater order view b b second second s) (sym is) (stops_here order view b second (Schedule place) lived.at_ease (λ opening k. stops)))

  pub order_stops : (halt : Halt) → HaltsHere order b halt → StopsLater order view a b first second (stop_of halt)
  order_stops halts.DiskFault stops = absurd stops
  order_stops (halts.Full needed room) stops = absurd stops
  order_stops (halts.Schedule place) stops = at_place (Schedule place) place refl stops
  order_stops halts.Memory stops = absurd stops

  pub lives_end : (r : Result (Unit {0}) Stop) → IfErr r (λ stop. (place : ℕ) × (stop ≡ Schedule place) × StopsHere order b place) → LaterTo order view a b first second r
  lives_end (Ok x) stops = lived
  lives_end (Err stop) stops = at_place stop stops.0 stops.1 stops.2

-- before the first life what is handed is its own
pub own_first : (core : Seen) (tree : Records) → core.log ≡ [] → IsOwn core tree
own_first core tree empty = like_same (own_tree core.log core.tables tree) tree (ap (λ (l : List Entry). own_tree l core.tables tree) empty)
