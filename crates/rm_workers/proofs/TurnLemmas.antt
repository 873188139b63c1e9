-- What the store's worker knows after each of its moves.
use Rattle.std.proofs.Common.{◌≡◌, ◌⊎◌, ℕ, ◌<◌, ◌≤◌, List, [], ◌∷◌, ◌++◌, Bool, true, false, true≢false, None, Some, Option, refl, sym, ◌∙◌, ap, subst, inl, inr, append-nil, arith}
use Rattle.std.proofs.lemmas.Option.{same_Some}
use Rattle.rm_types.specs.declared.entries.Entry.{Entry}
use Rattle.rm_types.specs.declared.entries.Entry.TheVariants.{Kept}
use Rattle.rm_types.specs.declared.messages.Lane.TheVariants.{Hand, Write, End}
use Rattle.rm_types.specs.declared.operations.Op.{Op}
use Rattle.rm_types.specs.declared.scripts.Close.{Close}
use Rattle.rm_types.specs.declared.scripts.Close.TheVariants.{Settle, Crash}
use Rattle.rm_types.specs.Records.{records, fits_records}
use Rattle.rm_disk.specs.Disk.{DiskView, IsLaterView}
use Rattle.rm_disk.specs.Fuse.{KeepsFuse}
use Rattle.rm_disk.proofs.Views.{leaves_of}
use Rattle.rm_store.specs.Content.{DeviceHolds}
use Rattle.rm_model.specs.Lawful.{state_after}
use Rattle.rm_model.specs.Place.{Place, close_left, moved}
use Rattle.rm_model.specs.State.{LifeState, Manager}
use Rattle.rm_types.specs.Counts.{Rose}
use Rattle.rm_store.specs.declared.fault.StoreError.{StoreError}
use Rattle.rm_store.specs.declared.fault.StoreError.TheVariants as store
use Rattle.rm_store.specs.Kept.{AddsOp, HasOps, LeavesOps, needed_for}
use Rattle.rm_store.specs.Store.{StoreState, StoreInvariant, IsBelowLast, room_behind, seen}
use Rattle.rm_core.specs.Seen.{StandsFor, IsToBeKept}
use Rattle.rm_core.specs.Words.{has_rest, is_blown, stands}
use Rattle.rm_desk.specs.Effects.{StoreBlows, LaneEffect, HasHanded, IsHanded}
use Rattle.rm_desk.specs.Lanes.{life_goes_on}
use Rattle.rm_desk.specs.Runs.{HasBlown}
use Rattle.rm_desk.specs.View.{DeskView}
use Rattle.rm_lives.specs.declared.halts.Halt.TheVariants.{Memory}
use Rattle.rm_lives.specs.Halted.{halt_of}
use Rattle.rm_lives.specs.Keeping.{IsKeptOn, IsUnkept, KeepsOn, LeavesOn, Serves, StoresOn, armed_by, blown_in, has_blown}
use Rattle.rm_lives.specs.Lives.{TakesStep as LifeGoesOn}
use Rattle.rm_lives.specs.Order.{May}
use Rattle.rm_lives.specs.Survives.{HoldsAfter, HoldsWithin}
use Rattle.rm_lives.proofs.Ending.{settles_on, works_on, within_kept}
use Rattle.rm_lives.proofs.Halting.{after_within, keeps_leaves, leaves_after}
use Rattle.rm_lives.proofs.Moving.{TellsAll, down_unkept, settle_goes, settling_unblown, told_blown, works}
use Rattle.rm_lives.proofs.Stored.{blown_stores, has_kept, keeps_trans, op_stores, unkept_stores}
use Rattle.rm_workers.specs.AnyOrder.{any_order}
use Rattle.rm_workers.specs.Began.{Began, seen_then}
use Rattle.rm_workers.specs.Came.{Moves, Went, came}
use Rattle.rm_workers.specs.Work.{Halting, IsWhyHalted, IsWithStore, Owing, Refused, Serving, ContinuesLife, Stays, Sunk, Tried, Wrote}
use Rattle.rm_workers.proofs.MoveLemmas.{down_falls, may_any, rest_idle}

-- a life of which an operation is with the store, and none was refused
unblown_life : (s : Manager) → HasHanded s.life → has_blown s ≡ false → HasBlown false s.life
unblown_life s handed unblown = by s.life handed unblown
  where
    by : (o : Option LifeState) → HasHanded o → blown_in o s.blew ≡ false → HasBlown false o
    by None handed unblown = absurd handed
    by (Some life) handed unblown = unblown

-- a disk to which the operation that is with the store was to be added
op_left : (opening : List Op) (log : List Entry) (op : Op) (old new : DiskView) → IsWithStore opening log op
    → ((ops : List Op) → HasOps old ops → fits_records (records ops) op ≡ true → LeavesOps old new ops op)
    → IsKeptOn opening log old → LeavesOn opening log log old new
op_left opening log op old new next leaves has =
    let s = state_after opening log in
    let moments = leaves s.kept (has_kept opening log old next.unblown has) next.fits in
    record {
      time = leaves_of old new _ (HoldsWithin opening log) (λ image is. after_within opening log image (either image is)) moments.so_far;
      now = λ image is. either image (moments.now image is);
      more = [];
      grows = sym (append-nil log);
    }
  where
    either : (image : List ℕ) → DeviceHolds image (state_after opening log).kept ⊎ DeviceHolds image ((state_after opening log).kept ++ op ∷ []) → HoldsAfter opening log image
    either image (inl before) = inl before
    either image (inr after) = inr (op, next.first, after)

-- the segment that the fuse was armed for
spends : (close : Option Close) (passed : ℕ) → armed_by close ≡ Some passed → (image : ℕ) × (close ≡ Some (Crash passed image))
spends None passed e = cc
spends (Some Settle) passed e = cc
spends (Some (Crash calls image)) passed e = let same : calls ≡ passed = cc in (image, ap (λ (n : ℕ). Some (Crash n image)) same)

module _ {D : Type 0} (view : D → DiskView) (began : Began) where
  stands_next : (next : DeskView) → Went began.desk next → stands next.core ≡ true → ContinuesLife began next.core.log
  stands_next next went alive = record { more = went.more; grows = went.grows; standing = sym went.standing ∙ alive }

  -- what is known of the log is known of the desk
  pub serves_at : (d : DeskView) (store : StoreState D) → Went began.desk d → Serving view began store d.core.log → Serves view d store
  serves_at d store went s =
      record {
        sound = s.sound;
        unbroken = λ unblown. s.unbroken (sym went.blown ∙ unblown);
        armed = s.armed ∙ ap (λ (p : Place). armed_by (close_left p.segments)) (sym went.place);
        blown = s.blown ∙ sym went.blown;
        within = s.within;
        spent = s.spent;
      }

  pub alive_at : (d : DeskView) (store : StoreState D) → Went began.desk d → Serving view began store d.core.log → stands d.core ≡ true
  alive_at d store went s = went.standing ∙ s.stands.standing

  -- a segment of a life that isn't blown, of which something is left to do, may not close
  pub busy_stays : (d : DeskView) (store : StoreState D) → Went began.desk d → Serving view began store d.core.log → store.disk.blown ≡ false → (idle : Bool) → ((stands d.core ≡ true) × has_rest d.core → idle ≡ true) → idle ≡ false
      → (is_blown d.core ≡ false → has_rest d.core) → ⊥
  busy_stays d store went s unblown idle is none rests = true≢false (sym (is (alive_at d store went s, rests (sym (serves_at d store went s).blown ∙ unblown))) ∙ none)

  -- one part after the other
  keeps_on : (opening : List Op) (d next : DeskView) (one two : DiskView) → KeepsOn opening began.desk.core.log d.core.log (seen_then began) one → StandsFor opening d.core → StoresOn opening d next one two
      → KeepsOn opening began.desk.core.log next.core.log (seen_then began) two
  keeps_on opening d next one two first k stores = keeps_trans opening began.desk.core.log d.core.log next.core.log (seen_then began) one two first (stores k first.kept)

  -- the life goes on
  serving_on : (d next : DeskView) (store now : StoreState D) → Went began.desk d → Went began.desk next → Serving view began store d.core.log → LifeGoesOn any_order view d next store now → Stays view began now → Serving view began now next.core.log
  serving_on d next store now went further s on stays =
      record {
        stands = stands_next next further on.stands;
        stays = stays;
        sound = on.serves.sound;
        unbroken = λ unblown. on.serves.unbroken (further.blown ∙ unblown);
        armed = on.serves.armed ∙ ap (λ (p : Place). armed_by (close_left p.segments)) further.place;
        blown = on.serves.blown ∙ further.blown;
        within = on.serves.within;
        spent = on.serves.spent;
        kept = λ opening k has. keeps_on opening d next (seen view store.disk) (seen view now.disk) (s.kept opening k has) (went.goes.lawful opening tt k) (on.stores.kept opening);
      }

  -- THE FIRST OPERATION THAT AWAITS IS HANDED

  pub handed_on : (d next : DeskView) (store : StoreState D) → Serving view began store d.core.log → Moves began.desk Hand d next → Serving view began store next.core.log
  handed_on d next store s m =
      serving_on d next store store m.went m.further s
      (works_on view Hand d next store m.does (works Hand d next m.does m.told m.tells (may_any Hand d m.ready (λ end. cc)) tt (λ end. cc)) tt (λ end. cc) (serves_at d store m.went s)) s.stays

  pub owing_at : (d : DeskView) (store : StoreState D) (op : Op) → Went began.desk d → Serving view began store d.core.log → TellsAll d → is_blown d.core ≡ false → ((opening : List Op) → StandsFor opening d.core → IsToBeKept opening d.core op)
      → ((opening : List Op) → StandsFor opening d.core → IsHanded opening d.core.log op) → Owing view began store op d.core.log
  owing_at d store op went s tells unblown next handed =
      record {
        serving = s;
        unblown = sym went.blown ∙ unblown;
        next = λ opening k.
            let now = went.goes.lawful opening tt k in
            record {
              first = (next opening now).first;
              handed = (handed opening now).handed;
              fits = (next opening now).fits;
              unblown = told_blown d tells opening now ∙ unblown;
            };
      }

  -- as the desk tells it, and copied
  pub owing_by : (d e : DeskView) (store : StoreState D) (op one : Op) → e ≡ d → one ≡ op → Went began.desk d → Serving view began store d.core.log → TellsAll e → is_blown e.core ≡ false
      → ((opening : List Op) → StandsFor opening e.core → IsToBeKept opening e.core op) → ((opening : List Op) → StandsFor opening e.core → IsHanded opening e.core.log op) → Owing view began store one d.core.log
  owing_by d e store op one same copied went s tells unblown next handed =
      subst (λ (x : Op). Owing view began store x d.core.log) (sym copied)
      (owing_at d store op went s (subst TellsAll same tells) (subst (λ (x : DeskView). is_blown x.core ≡ false) same unblown)
      (subst (λ (x : DeskView). (opening : List Op) → StandsFor opening x.core → IsToBeKept opening x.core op) same next)
      (subst (λ (x : DeskView). (opening : List Op) → StandsFor opening x.core → IsHanded opening x.core.log op) same handed))

  -- A SEGMENT CLOSES

  module _ (d next : DeskView) (store : StoreState D) (s : Serving view began store d.core.log) (m : Moves began.desk End d next) (rests : is_blown d.core ≡ false → has_rest d.core) where
    abbrev does : LaneEffect End d next
    does = m.does

    abbrev went : Went began.desk d
    went = m.went

    abbrev further : Went began.desk next
    further = m.further

    abbrev tells : TellsAll d
    tells = m.told

    abbrev told : TellsAll next
    told = m.tells

    may_end : May any_order End d
    may_end = may_any End d m.ready (λ end unblown. rest_idle d does.stood (rests unblown))

    -- it settles, and the fuse is armed as the next one says
    module _ (settles : close_left d.place.segments ≡ Some Settle) where
      pub whole : is_blown d.core ≡ false
      whole = settling_unblown d m.sound does.stood settles

      pub arms_broken : store.is_broken ≡ false
      arms_broken = (serves_at d store went s).unbroken whole

      pub arms_unarmed : store.disk.armed ≡ None
      arms_unarmed = (serves_at d store went s).armed ∙ ap armed_by settles

      pub arms_unblown : store.disk.blown ≡ false
      arms_unblown = (serves_at d store went s).blown ∙ whole

      module _ (now : StoreState D) (inner : now.disk.inner ≡ store.disk.inner) (refused : now.disk.refused ≡ store.disk.refused) (falls : now.disk.falls ≡ store.disk.falls) (unarmed_falls : now.disk.unarmed_falls ≡ store.disk.unarmed_falls) where
        stays_armed : Stays view began now
        stays_armed =
            record {
              falls = falls ∙ s.stays.falls;
              unarmed_falls = unarmed_falls ∙ s.stays.unarmed_falls;
              size = ap (λ (x : D). (view x).size) inner ∙ s.stays.size;
              faults = subst (λ (x : D). began.inner.faults ≤ (view x).faults) (sym inner) s.stays.faults;
            }

        pub settled_on : StoreInvariant view now → now.disk.armed ≡ armed_by (close_left next.place.segments) → now.disk.blown ≡ false → now.is_broken ≡ store.is_broken → ((calls : ℕ) → now.disk.armed ≡ Some calls → now.disk.passed ≤ calls) → Serving view began now next.core.log
        settled_on now_sound armed unblown broken within =
            let settled = settle_goes d next does tells told may_end settles in
            serving_on d next store now went further s
            (settles_on view d next store now does settled.0 settled.1 settles inner refused
            (record { sound = now_sound; unbroken = λ u. broken ∙ arms_broken; armed = armed; blown = unblown ∙ sym (does.blown ∙ whole); within = within; spent = λ blown. let x = sym unblown ∙ blown in cc })) stays_armed

        -- or no memory was found for that
        pub settled_halts : Halting view began now Memory next.core.log
        settled_halts =
            let settled = settle_goes d next does tells told may_end settles in
            let unkept : IsUnkept d next = settled.1 in
            record {
              stands = stands_next next further (does.standing ∙ ap (λ (c : Option Close). life_goes_on End c) settles);
              stays = stays_armed;
              why = tt;
              left = λ opening k has.
                  let kept = keeps_on opening d next (seen view store.disk) (seen view store.disk) (s.kept opening k has) (went.goes.lawful opening tt k) (unkept_stores opening d next unkept (seen view store.disk)) in
                  rw (inner, refused) (keeps_leaves opening began.desk.core.log next.core.log (seen_then began) (seen view store.disk) kept);
            }

    -- the life goes down
    pub sunk_on : (calls image : ℕ) → close_left d.place.segments ≡ Some (Crash calls image) → Sunk view began store image next.core.log
    sunk_on calls image crash =
        let serves = serves_at d store went s in
        record {
          more = further.more;
          grows = further.grows;
          down = sym further.standing ∙ does.standing ∙ ap (λ (c : Option Close). life_goes_on End c) crash;
          stays = s.stays;
          sound = s.sound;
          calls = calls;
          blew = is_blown d.core;
          armed = serves.armed ∙ ap armed_by crash;
          blown = serves.blown;
          within = s.within calls (serves.armed ∙ ap armed_by crash);
          spent = λ blew. same_Some store.disk.passed calls (sym (s.spent (serves.blown ∙ blew)) ∙ serves.armed ∙ ap armed_by crash);
          falls = down_falls began.desk d next calls image went does crash;
          kept = λ opening k has.
              keeps_on opening d next (seen view store.disk) (seen view store.disk) (s.kept opening k has) (went.goes.lawful opening tt k)
              (unkept_stores opening d next (down_unkept d next does may_end tells told m.idle calls image crash) (seen view store.disk));
        }

  -- AN OPERATION IS KEPT, OR REFUSED

  -- the manager learns that it is kept
  pub wrote_on : (d next : DeskView) (store : StoreState D) (op : Op) → Went began.desk d → Went began.desk next → Wrote view began store op d.core.log → LaneEffect Write d next
      → ((opening : List Op) → StandsFor opening d.core → (one : Op) × IsToBeKept opening d.core one × (next.core.log ≡ d.core.log ++ Kept one ∷ [])) → Serving view began store next.core.log
  wrote_on d next store op went further w does learned =
      let before = w.tried.before in
      let o = w.tried.owing in
      let place : next.place ≡ d.place = does.adds.place ∙ ap (λ (e : Entry). moved d.place e) does.adds.of_kind.2 in
      let unblown : store.disk.blown ≡ false = w.blown ∙ o.serving.blown ∙ o.unblown in
      record {
        stands = stands_next next further does.standing;
        stays = w.tried.stays;
        sound = w.tried.sound;
        unbroken = λ whole. w.unbroken;
        armed = w.tried.armed ∙ o.serving.armed ∙ ap (λ (p : Place). armed_by (close_left p.segments)) (sym went.place ∙ sym place ∙ further.place);
        blown = w.blown ∙ o.serving.blown ∙ sym went.blown ∙ sym does.blown ∙ further.blown;
        within = w.tried.within;
        spent = λ blown. let x = sym unblown ∙ blown in cc;
        kept = λ opening k has.
            let now = went.goes.lawful opening tt k in
            let next_op = o.next opening k in
            let got = learned opening now in
            let same : got.0 ≡ op = same_Some got.0 op (sym got.1.first ∙ next_op.first) in
            let first = o.serving.kept opening k has in
            keeps_trans opening began.desk.core.log d.core.log next.core.log (seen_then began) (seen view before.disk) (seen view store.disk) first
            (op_stores opening d.core next.core op (seen view before.disk) (seen view store.disk) (unblown_life (state_after opening d.core.log) next_op.handed next_op.unblown) (record { first = next_op.first; fits = next_op.fits })
            (got.2 ∙ ap (λ (one : Op). d.core.log ++ Kept one ∷ []) same) w.adds w.tried.leaves first.kept);
      }

  -- the crash for which the fuse that refused it was armed
  pub refused_closes : (store : StoreState D) (passed : ℕ) (log : List Entry) → Refused view began store passed log → (image : ℕ) × (close_left (came began.desk log).place.segments ≡ Some (Crash passed image))
  refused_closes store passed log r =
      spends (close_left (came began.desk log).place.segments) passed (sym r.tried.owing.serving.armed ∙ sym r.tried.armed ∙ r.spent ∙ ap (λ (n : ℕ). Some n) r.passes)

  -- or that it was refused
  pub refused_on : (d next : DeskView) (store : StoreState D) (passed : ℕ) → Went began.desk d → Went began.desk next → Refused view began store passed d.core.log → StoreBlows passed d next → Serving view began store next.core.log
  refused_on d next store passed went further r does =
      let before = r.tried.before in
      let o = r.tried.owing in
      let place : next.place ≡ d.place = does.adds.place ∙ ap (λ (e : Entry). moved d.place e) does.adds.of_kind in
      record {
        stands = stands_next next further does.standing;
        stays = r.tried.stays;
        sound = r.tried.sound;
        unbroken = λ whole. let x = sym whole ∙ sym further.blown ∙ does.blown in cc;
        armed = r.tried.armed ∙ o.serving.armed ∙ ap (λ (p : Place). armed_by (close_left p.segments)) (sym went.place ∙ sym place ∙ further.place);
        blown = r.blown ∙ sym does.blown ∙ further.blown;
        within = r.tried.within;
        spent = λ blown. r.spent;
        kept = λ opening k has.
            let next_op = o.next opening k in
            let first = o.serving.kept opening k has in
            keeps_trans opening began.desk.core.log d.core.log next.core.log (seen_then began) (seen view before.disk) (seen view store.disk) first
            (blown_stores opening d.core next.core r.op passed (seen view before.disk) (seen view store.disk) (unblown_life (state_after opening d.core.log) next_op.handed next_op.unblown) (record { first = next_op.first; fits = next_op.fits })
            (does.adds.added ∙ ap (λ (e : Entry). d.core.log ++ e ∷ []) does.adds.of_kind) r.goes_on r.reads r.tried.leaves first.kept);
      }

  -- A HALT

  -- where nothing more is done
  pub serving_halts : (store : StoreState D) (log : List Entry) → Serving view began store log → Halting view began store Memory log
  serving_halts store log s =
      record {
        stands = s.stands;
        stays = s.stays;
        why = tt;
        left = λ opening k has. keeps_leaves opening began.desk.core.log log (seen_then began) (seen view store.disk) (s.kept opening k has);
      }

  -- where the manager found no memory to learn what came of the operation
  pub tried_halts : (store : StoreState D) (op : Op) (log : List Entry) → Tried view began store op log → Halting view began store Memory log
  tried_halts store op log t =
      record {
        stands = t.owing.serving.stands;
        stays = t.stays;
        why = tt;
        left = λ opening k has.
            let first = t.owing.serving.kept opening k has in
            leaves_after opening began.desk.core.log log log (seen_then began) (seen view t.before.disk) (seen view store.disk) first
            (op_left opening log op (seen view t.before.disk) (seen view store.disk) (t.owing.next opening k) t.leaves first.kept);
      }

-- AN APPEND

module _ {D : Type 0} (view : D → DiskView) (keeps : D → D → Type 0) (began : Began) (old new : StoreState D) (op : Op) (succeeds : Bool)
    (sound : StoreInvariant view new) (fuse : KeepsFuse view keeps succeeds old.disk new.disk) (goes_on : IsLaterView (seen view old.disk) (seen view new.disk))
    (moments : old.is_broken ≡ false → (ops : List Op) → HasOps (seen view old.disk) ops → fits_records (records ops) op ≡ true → LeavesOps (seen view old.disk) (seen view new.disk) ops op) where
  stays_on : Stays view began old → Stays view began new
  stays_on s =
      record {
        falls = fuse.falls ∙ s.falls;
        unarmed_falls = fuse.unarmed_falls ∙ s.unarmed_falls;
        size = goes_on.size ∙ s.size;
        faults = let more = fuse.faults in let before = s.faults in omega (arith, more, before);
      }

  abbrev tried_after : (log : List Entry) → Owing view began old op log → Tried view began new op log
  tried_after log o =
      record {
        before = old;
        owing = o;
        stays = stays_on o.serving.stays;
        sound = sound;
        armed = fuse.armed;
        within = within_kept view keeps succeeds old.disk new.disk o.serving.within fuse;
        leaves = moments (o.serving.unbroken o.unblown);
      }

  -- the operation was written
  pub wrote_after : succeeds ≡ true → new.is_broken ≡ old.is_broken → ((ops : List Op) → HasOps (seen view old.disk) ops → fits_records (records ops) op ≡ true → AddsOp (seen view new.disk) ops op) → (log : List Entry)
      → Owing view began old op log → Wrote view began new op log
  wrote_after made broken adds log o = record { tried = tried_after log o; unbroken = broken ∙ o.serving.unbroken o.unblown; blown = fuse.success made; adds = adds }

  -- or the fuse refused it
  pub refused_after : (passed : ℕ) (last : StoreState D) → last ≡ new → new.disk.blown ≡ true → passed ≡ new.disk.passed → ((bytes : List ℕ) → (seen view new.disk).told ≡ Some bytes → (seen view new.disk).images bytes) → (log : List Entry)
      → Owing view began old op log → Refused view began last passed log
  refused_after passed last same blown passes reads log o =
      subst (λ (x : StoreState D). Refused view began x passed log) (sym same)
      (record { op = op; tried = tried_after log o; blown = blown; passes = sym passes; spent = fuse.blew (o.serving.blown ∙ o.unblown) blown; goes_on = goes_on; reads = reads })

  -- or it failed otherwise
  module _ (error : StoreError) (rose : error ≡ store.DiskFault → Rose (view old.disk.inner).faults (view new.disk.inner).faults)
      (full : (needed room : ℕ) → error ≡ store.Full needed room → (needed ≡ needed_for op) × (room < needed) × ((ops : List Op) → HasOps (seen view old.disk) ops → IsBelowLast (view new.disk.inner) → room ≡ room_behind (seen view old.disk).size ops))
      (log : List Entry) (o : Owing view began old op log) where
    is_handed : (opening : List Op) → StandsFor opening began.desk.core → IsHanded opening log op
    is_handed opening k = let next = o.next opening k in record { first = next.first; handed = next.handed }

    why : (error : StoreError) → (error ≡ store.DiskFault → Rose (view old.disk.inner).faults (view new.disk.inner).faults)
        → ((needed room : ℕ) → error ≡ store.Full needed room → (needed ≡ needed_for op) × (room < needed) × ((ops : List Op) → HasOps (seen view old.disk) ops → IsBelowLast (view new.disk.inner) → room ≡ room_behind (seen view old.disk).size ops))
        → IsWhyHalted began (view new.disk.inner) log (halt_of error)
    why store.DiskFault rose full = (let r = rose refl in let before = o.serving.stays.faults in omega (arith, r, before), λ opening k. (op, is_handed opening k))
    why (store.Full needed room) rose full = λ opening k.
        let told = full needed room refl in
        record {
          op = op;
          handed = is_handed opening k;
          needs = told.0;
          less = told.1;
          behind = λ has.
              told.2 (state_after opening log).kept (has_kept opening log (seen view old.disk) (o.next opening k).unblown (o.serving.kept opening k has.0).kept) has.1
              ∙ ap (λ (n : ℕ). room_behind n (state_after opening log).kept) (sym goes_on.size);
        }
    why (store.Damaged offset) rose full = tt
    why (store.Stray number offset) rose full = tt
    why store.NeedsReopen rose full = tt
    why store.Memory rose full = tt

    pub failed_after : (last : StoreState D) → last ≡ new → Halting view began last (halt_of error) log
    failed_after last same =
        let halts = tried_halts view began new op log (tried_after log o) in
        subst (λ (x : StoreState D). Halting view began x (halt_of error) log) (sym same) (record { stands = halts.stands; stays = halts.stays; why = why error rose full; left = halts.left })
