-- What the store's worker knows lasts through the entries that others add.
use Rattle.std.proofs.Common.{◌≡◌, ℕ, List, [], ◌∷◌, ◌++◌, Bool, None, Some, Option, refl, sym, ◌∙◌, ap, subst, inl, inr, append-nil, append_assoc}
use Rattle.std.specs.List.{fold}
use Rattle.rm_types.specs.declared.entries.Entry.{Entry}
use Rattle.rm_types.specs.declared.entries.Entry.TheVariants.{Blown, Down}
use Rattle.rm_types.specs.declared.operations.Op.{Op}
use Rattle.rm_types.specs.declared.scripts.Close.{Close}
use Rattle.rm_types.specs.Records.{records, fits_records}
use Rattle.rm_disk.specs.Disk.{DiskView}
use Rattle.rm_disk.proofs.Views.{leaves_of}
use Rattle.rm_model.specs.Lawful.{state_after}
use Rattle.rm_model.specs.Place.{close_left}
use Rattle.rm_model.specs.State.{LifeState, Manager}
use Rattle.rm_store.specs.Store.{StoreState, room_behind, seen}
use Rattle.rm_desk.specs.Effects.{HasHanded, IsHanded}
use Rattle.rm_desk.specs.View.{DeskView}
use Rattle.rm_baton.specs.Entries.{AddsCommon, AllCommon, IsCommon}
use Rattle.rm_workers.specs.Still.{SameLife, Still}
use Rattle.rm_workers.proofs.CommonEntryLemmas.{close_still, state_still}
use Rattle.rm_lives.specs.declared.halts.Halt.{Halt}
use Rattle.rm_lives.specs.declared.halts.Halt.TheVariants.{DiskFault, Full, Schedule, Memory}
use Rattle.rm_lives.specs.Keeping.{IsFullFor, KeepsOn, LeavesOn, armed_by, blown_in, has_blown}
use Rattle.rm_lives.specs.Survives.{HoldsKept, HoldsWithin}
use Rattle.rm_lives.proofs.Stored.{holds_on, within_longer}
use Rattle.rm_workers.specs.declared.turns.End.{End}
use Rattle.rm_workers.specs.declared.turns.End.TheVariants as ends
use Rattle.rm_workers.specs.Began.{Began, seen_then}
use Rattle.rm_workers.specs.Came.{Came, blown_on, came, come_on, falls_on, stands_on}
use Rattle.rm_workers.specs.Turns.{EndFact}
use Rattle.rm_workers.specs.Work.{Awaits, Halting, IsWhyHalted, IsWithStore, Owing, Refused, Serving, ContinuesLife, Sunk, Tried, Wrote}
use Rattle.rm_workers.proofs.MoveLemmas.{came_more}

-- HOW FAR THE LIFE HAS COME

-- the same, but for messages that were served
record Alike (c d : Came) : Type 0 where
  blown : d.blown ≡ c.blown
  standing : d.standing ≡ c.standing
  falls : d.falls ≡ c.falls
  close : close_left d.place.segments ≡ close_left c.place.segments

alike_same : (c : Came) → Alike c c
alike_same c = record { blown = refl; standing = refl; falls = refl; close = refl }

alike_on : (c d e : Came) → Alike c d → Alike d e → Alike c e
alike_on c d e a b = record { blown = b.blown ∙ a.blown; standing = b.standing ∙ a.standing; falls = b.falls ∙ a.falls; close = b.close ∙ a.close }

common_blown : (b : Bool) (e : Entry) → IsCommon e → blown_on b e ≡ b
common_blown b (Blown passed) common = absurd common
common_blown b _ common = refl

common_stands : (b : Bool) (e : Entry) → IsCommon e → stands_on b e ≡ b
common_stands b Down common = absurd common
common_stands b _ common = refl

common_falls : (close : Option Close) (b : Bool) (e : Entry) → IsCommon e → falls_on close b e ≡ []
common_falls close b Down common = absurd common
common_falls close b _ common = refl

alike_entry : (c : Came) (e : Entry) → IsCommon e → Alike c (come_on c e)
alike_entry c e common =
    record {
      blown = common_blown c.blown e common;
      standing = common_stands c.standing e common;
      falls = ap (λ l. c.falls ++ l) (common_falls (close_left c.place.segments) c.blown e common) ∙ append-nil c.falls;
      close = close_still c.place e common;
    }

alike_all : (c : Came) (es : List Entry) → AllCommon es → Alike c (fold come_on c es)
alike_all c [] are = alike_same c
alike_all c (e ∷ es) are = alike_on c (come_on c e) (fold come_on (come_on c e) es) (alike_entry c e are.0) (alike_all (come_on c e) es are.1)

came_still : (began : DeskView) (old new more : List Entry) → old ≡ began.core.log ++ more → AddsCommon old new → Alike (came began old) (came began new)
came_still began old new more grows adds =
    subst (λ (log : List Entry). Alike (came began old) (came began log)) adds.grown
    (subst (λ (c : Came). Alike (came began old) c) (sym (came_more began old more adds.added grows)) (alike_all (came began old) adds.added adds.common))

grows_still : (first old new more : List Entry) → old ≡ first ++ more → (adds : AddsCommon old new) → new ≡ first ++ (more ++ adds.added)
grows_still first old new more grows adds = sym adds.grown ∙ ap (λ (l : List Entry). l ++ adds.added) grows ∙ append_assoc first more adds.added

-- THE STATE

still_blown : (s t : Manager) → Still s t → has_blown t ≡ has_blown s
still_blown s t still = by s.life t.life still.life
  where
    by : (a b : Option LifeState) → SameLife a b → blown_in b t.blew ≡ blown_in a s.blew
    by None b same = ap (λ (o : Option LifeState). blown_in o t.blew) same ∙ still.blew
    by (Some life) None same = absurd same
    by (Some life) (Some new) same = same.1

still_handed : (a b : Option LifeState) → SameLife a b → HasHanded a → HasHanded b
still_handed None b same handed = absurd handed
still_handed (Some life) None same handed = absurd same
still_handed (Some life) (Some new) same handed = same.0 ∙ handed

module _ (opening : List Op) (old new : List Entry) (adds : AddsCommon old new) where
  abbrev is_still : Still (state_after opening old) (state_after opening new)
  is_still = state_still opening old new adds

  within_still : (image : List ℕ) → HoldsWithin opening old image → HoldsWithin opening new image
  within_still image h = within_longer opening old new adds.added (sym adds.grown) image h

  kept_holds : (image : List ℕ) → HoldsKept (state_after opening old) image → HoldsKept (state_after opening new) image
  kept_holds image (inl before) = inl (rw is_still.kept before)
  kept_holds image (inr (op, first, after)) = inr (op, is_still.first op first, rw is_still.kept after)

  keeps_still : (log : List Entry) (then now : DiskView) → KeepsOn opening log old then now → KeepsOn opening log new then now
  keeps_still log then now k =
      let s = state_after opening old in
      let t = state_after opening new in
      record {
        kept = record {
          bytes = k.kept.bytes;
          told = k.kept.told;
          holds = holds_on s t (still_blown s t is_still) is_still.kept is_still.first k.kept.bytes k.kept.holds;
          images = λ image is. holds_on s t (still_blown s t is_still) is_still.kept is_still.first image (k.kept.images image is);
        };
        time = leaves_of then now (HoldsWithin opening old) (HoldsWithin opening new) within_still k.time;
        more = k.more ++ adds.added;
        grows = grows_still log old new k.more k.grows adds;
      }

  leaves_still : (log : List Entry) (then now : DiskView) → LeavesOn opening log old then now → LeavesOn opening log new then now
  leaves_still log then now k =
      record {
        time = leaves_of then now (HoldsWithin opening old) (HoldsWithin opening new) within_still k.time;
        now = λ image is. kept_holds image (k.now image is);
        more = k.more ++ adds.added;
        grows = grows_still log old new k.more k.grows adds;
      }

  next_still : (op : Op) → IsWithStore opening old op → IsWithStore opening new op
  next_still op w =
      record {
        first = is_still.first op w.first;
        handed = still_handed (state_after opening old).life (state_after opening new).life is_still.life w.handed;
        fits = ap (λ (ops : List Op). fits_records (records ops) op) is_still.kept ∙ w.fits;
        unblown = still_blown (state_after opening old) (state_after opening new) is_still ∙ w.unblown;
      }

  handed_still : (op : Op) → IsHanded opening old op → IsHanded opening new op
  handed_still op h =
      record { first = is_still.first op h.first; handed = still_handed (state_after opening old).life (state_after opening new).life is_still.life h.handed }

  full_still : (known : Type 0) (size needed room : ℕ) → IsFullFor known opening old size needed room → IsFullFor known opening new size needed room
  full_still known size needed room full =
      record {
        op = full.op;
        handed = handed_still full.op full.handed;
        needs = full.needs;
        less = full.less;
        behind = λ is. full.behind is ∙ ap (λ (ops : List Op). room_behind size ops) (sym is_still.kept);
      }

-- WHAT IS KNOWN

module _ (began : Began) (old new : List Entry) (adds : AddsCommon old new) where
  awaits_lasts : (op : Op) → Awaits began old op → Awaits began new op
  awaits_lasts op next = λ opening k. next_still opening old new adds op (next opening k)

  why_lasts : (inner : DiskView) (halt : Halt) → IsWhyHalted began inner old halt → IsWhyHalted began inner new halt
  why_lasts inner DiskFault why = (why.0, λ opening k. let h = why.1 opening k in (h.0, handed_still opening old new adds h.0 h.1))
  why_lasts inner (Full needed room) why = λ opening k. full_still opening old new adds _ _ _ _ (why opening k)
  why_lasts inner (Schedule place) why = why
  why_lasts inner Memory why = tt

module _ {D : Type 0} (view : D → DiskView) (began : Began) (store : StoreState D) where
  stands_lasts : (old new : List Entry) → AddsCommon old new → ContinuesLife began old → ContinuesLife began new
  stands_lasts old new adds s =
      record { more = s.more ++ adds.added; grows = grows_still began.desk.core.log old new s.more s.grows adds; standing = (came_still began.desk old new s.more s.grows adds).standing ∙ s.standing }

  pub serving_lasts : (old new : List Entry) → AddsCommon old new → Serving view began store old → Serving view began store new
  serving_lasts old new adds s =
      let alike = came_still began.desk old new s.stands.more s.stands.grows adds in
      record {
        stands = stands_lasts old new adds s.stands;
        stays = s.stays;
        sound = s.sound;
        unbroken = λ unblown. s.unbroken (sym alike.blown ∙ unblown);
        armed = s.armed ∙ sym (ap armed_by alike.close);
        blown = s.blown ∙ sym alike.blown;
        within = s.within;
        spent = s.spent;
        kept = λ opening k has. keeps_still opening old new adds began.desk.core.log (seen_then began) (seen view store.disk) (s.kept opening k has);
      }

  pub owing_lasts : (op : Op) (old new : List Entry) → AddsCommon old new → Owing view began store op old → Owing view began store op new
  owing_lasts op old new adds o =
      record {
        serving = serving_lasts old new adds o.serving;
        unblown = (came_still began.desk old new o.serving.stands.more o.serving.stands.grows adds).blown ∙ o.unblown;
        next = awaits_lasts began old new adds op o.next;
      }

  pub halting_lasts : (halt : Halt) (old new : List Entry) → AddsCommon old new → Halting view began store halt old → Halting view began store halt new
  halting_lasts halt old new adds h =
      record {
        stands = stands_lasts old new adds h.stands;
        stays = h.stays;
        why = why_lasts began old new adds (view store.disk.inner) halt h.why;
        left = λ opening k has. leaves_still opening old new adds began.desk.core.log (seen_then began) (seen view store.disk) (h.left opening k has);
      }

  sunk_lasts : (image : ℕ) (old new : List Entry) → AddsCommon old new → Sunk view began store image old → Sunk view began store image new
  sunk_lasts image old new adds s =
      let alike = came_still began.desk old new s.more s.grows adds in
      record {
        more = s.more ++ adds.added;
        grows = grows_still began.desk.core.log old new s.more s.grows adds;
        down = alike.standing ∙ s.down;
        stays = s.stays;
        sound = s.sound;
        calls = s.calls;
        blew = s.blew;
        armed = s.armed;
        blown = s.blown;
        within = s.within;
        spent = s.spent;
        falls = alike.falls ∙ s.falls;
        kept = λ opening k has. keeps_still opening old new adds began.desk.core.log (seen_then began) (seen view store.disk) (s.kept opening k has);
      }

  pub end_lasts : (end : End) (old new : List Entry) → AddsCommon old new → EndFact view began store end old → EndFact view began store end new
  end_lasts ends.Over old new adds fact = serving_lasts old new adds fact
  end_lasts (ends.Down image) old new adds fact = sunk_lasts image old new adds fact
  end_lasts (ends.Halted halt) old new adds fact = halting_lasts halt old new adds fact

module _ {D : Type 0} (view : D → DiskView) (began : Began) (store : StoreState D) where
  abbrev tried_lasts : (op : Op) (old new : List Entry) → AddsCommon old new → Tried view began store op old → Tried view began store op new
  tried_lasts op old new adds t = record { before = t.before; owing = owing_lasts view began t.before op old new adds t.owing; stays = t.stays; sound = t.sound; armed = t.armed; within = t.within; leaves = t.leaves }

  pub wrote_lasts : (op : Op) (old new : List Entry) → AddsCommon old new → Wrote view began store op old → Wrote view began store op new
  wrote_lasts op old new adds w = record { tried = tried_lasts op old new adds w.tried; unbroken = w.unbroken; blown = w.blown; adds = w.adds }

  pub refused_lasts : (passed : ℕ) (old new : List Entry) → AddsCommon old new → Refused view began store passed old → Refused view began store passed new
  refused_lasts passed old new adds r =
      record { op = r.op; tried = tried_lasts r.op old new adds r.tried; blown = r.blown; passes = r.passes; spent = r.spent; goes_on = r.goes_on; reads = r.reads }
