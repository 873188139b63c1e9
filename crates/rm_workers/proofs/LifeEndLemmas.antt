-- How a life begins and ends for its workers.
use Rattle.std.proofs.Common.{◌≡◌, ◌⊎◌, inl, inr, ℕ, List, [], true, false, None, Some, Option, Ok, Err, Result, refl, sym, ◌∙◌, ap, subst, arith, append-nil}
use Rattle.std.specs.Prelude.{IfErr, IfOk, is_some}
use Rattle.rm_disk.specs.declared.fallen.Fallen.{Fallen}
use Rattle.rm_disk.specs.Disk.{DiskView}
use Rattle.rm_disk.proofs.Views.{leaves_same}
use Rattle.rm_model.specs.Place.{Place, close_left}
use Rattle.rm_store.specs.Store.{StoreState, seen}
use Rattle.rm_core.specs.Words.{stands}
use Rattle.rm_desk.specs.Runs.{IsScriptOver as IsDeskOver, IsPlaceSound as IsDeskSound}
use Rattle.rm_desk.specs.View.{DeskView}
use Rattle.rm_lives.specs.declared.halts.Halt.{Halt}
use Rattle.rm_lives.specs.declared.halts.Halt.TheVariants.{DiskFault, Full, Schedule, Memory}
use Rattle.rm_lives.specs.declared.moves.LifeEnd.{LifeEnd}
use Rattle.rm_lives.specs.declared.moves.LifeEnd.TheVariants.{Rest, Down}
use Rattle.rm_lives.specs.Goes.{ExtendsRun}
use Rattle.rm_lives.specs.Keeping.{FuseStays, HaltsBy, IsHaltedBy, IsKeptOn, Serves, armed_by}
use Rattle.rm_lives.specs.Lives.{EndsBy}
use Rattle.rm_lives.specs.Survives.{HoldsWithin}
use Rattle.rm_lives.proofs.Ending.{comes_to_rest}
use Rattle.rm_lives.proofs.Halting.{keeps_leaves}
use Rattle.rm_lives.proofs.Moving.{TellsAll}
use Rattle.rm_workers.specs.declared.turns.End.{End}
use Rattle.rm_workers.specs.declared.turns.End.TheVariants as ends
use Rattle.rm_workers.specs.AnyOrder.{any_order}
use Rattle.rm_workers.specs.Began.{Began, began_with, seen_then}
use Rattle.rm_workers.specs.Came.{Went}
use Rattle.rm_workers.specs.Ends.{Ended, Halted, Rested, WentDown}
use Rattle.rm_workers.specs.Turns.{EndFact}
use Rattle.rm_workers.specs.Work.{Halting, IsWhyHalted, Serving, Stays, Sunk}
use Rattle.rm_workers.proofs.MoveLemmas.{went_same}
use Rattle.rm_workers.proofs.TurnLemmas.{alive_at, serves_at}

-- a life that stands begins, and its store serves it
pub begins_serving : {D : Type 0} (view : D → DiskView) (d : DeskView) (store : StoreState D) → stands d.core ≡ true → Serves view d store → Serving view (began_with view d store.disk) store d.core.log
begins_serving view d store alive serves =
    let w = went_same d alive in
    record {
      stands = record { more = []; grows = sym (append-nil d.core.log); standing = sym w.standing ∙ alive };
      stays = record { falls = refl; unarmed_falls = refl; size = refl; faults = omega arith };
      sound = serves.sound;
      unbroken = λ unblown. serves.unbroken (w.blown ∙ unblown);
      armed = serves.armed ∙ ap (λ (p : Place). armed_by (close_left p.segments)) w.place;
      blown = serves.blown ∙ w.blown;
      within = serves.within;
      spent = serves.spent;
      kept = λ opening k has. record { kept = has; time = leaves_same (seen view store.disk) (HoldsWithin opening d.core.log); more = []; grows = sym (append-nil d.core.log) };
    }

module _ {D : Type 0} (view : D → DiskView) (began : Began) (d : DeskView) (store : StoreState D) (went : Went began.desk d) where
  -- while it stands the device didn't fall
  standing_goes : stands d.core ≡ true → ExtendsRun any_order [] began.desk d
  standing_goes alive = subst (λ (l : List Fallen). ExtendsRun any_order l began.desk d) (went.unfallen alive) went.goes

  pub down_ended : (image : ℕ) → Sunk view began store image d.core.log → WentDown view began d store image
  down_ended image s =
      record {
        calls = s.calls;
        blew = s.blew;
        armed = s.armed;
        blown = s.blown;
        within = s.within;
        spent = s.spent;
        goes = subst (λ (l : List Fallen). ExtendsRun any_order l began.desk d) s.falls went.goes;
        down = went.standing ∙ s.down;
        keeps = record { stays = s.stays; sound = s.sound; kept = s.kept };
      }

  pub halted_ended : (halt : Halt) → Halting view began store halt d.core.log → Halted view began d store halt
  halted_ended halt h = record { goes = standing_goes (went.standing ∙ h.stands.standing); stays = h.stays; why = h.why; left = h.left }

  -- another worker halted it
  pub stopped_ended : Serving view began store d.core.log → Halted view began d store Memory
  stopped_ended s =
      record {
        goes = standing_goes (alive_at view began d store went s);
        stays = s.stays;
        why = tt;
        left = λ opening k has. keeps_leaves opening began.desk.core.log d.core.log (seen_then began) (seen view store.disk) (s.kept opening k has);
      }

  -- the run is at its end
  pub rested_ended : Serving view began store d.core.log → IsDeskSound d → TellsAll d → (stands d.core ≡ false) ⊎ IsDeskOver d → Rested view began d store
  rested_ended s sound tells over =
      let alive = alive_at view began d store went s in
      let rest = comes_to_rest {order = any_order} view d store sound (serves_at view began d store went s) alive (is_over over) tells tt in
      record { goes = standing_goes alive; over = rest.over; unarmed = rest.unarmed; unblown = rest.unblown; keeps = record { stays = s.stays; sound = s.sound; kept = s.kept } }
    where
      is_over : (stands d.core ≡ false) ⊎ IsDeskOver d → IsDeskOver d
      is_over (inl dead) = let alive = alive_at view began d store went s in let x = sym alive ∙ dead in cc
      is_over (inr over) = over

pub none_of : (halt : Option Halt) → is_some halt ≡ false → halt ≡ None
none_of None none = refl
none_of (Some halt) none = cc

-- the desk as it was carried, handed out
module _ {D : Type 0} (view : D → DiskView) (began : Began) (d e : DeskView) (store : StoreState D) (went : Went began.desk d) (same : d ≡ e) (end : End) (fact : EndFact view began store end e.core.log) where
  fact_at : (one : End) → end ≡ one → EndFact view began store one d.core.log
  fact_at one is = subst (λ (x : DeskView). EndFact view began store one x.core.log) (sym same) (subst (λ (x : End). EndFact view began store x e.core.log) is fact)

  pub finish_down : (image : ℕ) → end ≡ ends.Down image → WentDown view began d store image
  finish_down image is = down_ended view began d store went image (fact_at (ends.Down image) is)

  pub finish_halted : (halt : Halt) → end ≡ ends.Halted halt → Halted view began d store halt
  finish_halted halt is = halted_ended view began d store went halt (fact_at (ends.Halted halt) is)

  pub finish_stopped : end ≡ ends.Over → Halted view began d store Memory
  finish_stopped is = stopped_ended view began d store went (fact_at ends.Over is)

  pub finish_rested : end ≡ ends.Over → IsDeskSound d → TellsAll d → (stands e.core ≡ false) ⊎ IsDeskOver e → Rested view began d store
  finish_rested is sound tells over = rested_ended view began d store went (fact_at ends.Over is) sound tells (subst (λ (x : DeskView). (stands x.core ≡ false) ⊎ IsDeskOver x) (sym same) over)

-- AS A LIFE ON ONE THREAD ENDS

module _ {D : Type 0} (view : D → DiskView) (d new : DeskView) (store now : StoreState D) where
  abbrev began : Began
  began = began_with view d store.disk

  stays_fuse : Stays view began now → FuseStays view store.disk now.disk
  stays_fuse s = record { falls = s.falls; unarmed_falls = s.unarmed_falls; size = s.size; faults = s.faults }

  pub ended_fuse : (result : Result LifeEnd Halt) → Ended view began new now result → FuseStays view store.disk now.disk
  ended_fuse (Ok Rest) e = stays_fuse e.keeps.stays
  ended_fuse (Ok (Down image)) e = stays_fuse e.keeps.stays
  ended_fuse (Err halt) e = stays_fuse e.stays

  pub ended_ends : (result : Result LifeEnd Halt) → Ended view began new now result → IfOk result (EndsBy any_order view d new store now)
  ended_ends (Ok Rest) e = record { used_up = tt; goes = e.goes; over = e.over; unarmed = e.unarmed; unblown = e.unblown; stores = record { sound = e.keeps.sound; kept = e.keeps.kept } }
  ended_ends (Ok (Down image)) e =
      record { calls = e.calls; blew = e.blew; armed = e.armed; blown = e.blown; within = e.within; spent = e.spent; goes = e.goes; down = e.down; stores = record { sound = e.keeps.sound; kept = e.keeps.kept } }
  ended_ends (Err halt) e = tt

  pub ended_halts : (result : Result LifeEnd Halt) → Ended view began new now result → IfErr result (HaltsBy any_order view d new store.disk now.disk)
  ended_halts (Ok end) e = tt
  ended_halts (Err halt) e = record { goes = e.goes; why = by halt e.why; left = λ opening is k has. e.left opening k has }
    where
      by : (halt : Halt) → IsWhyHalted began (view now.disk.inner) new.core.log halt → IsHaltedBy any_order view (λ opening. Unit {0}) (λ opening. IsKeptOn opening d.core.log (seen view store.disk)) d new store.disk now.disk halt
      by DiskFault why = (why.0, λ opening is k. why.1 opening k)
      by (Full needed room) why = λ opening is k. why opening k
      by (Schedule place) why = absurd why
      by Memory why = tt
