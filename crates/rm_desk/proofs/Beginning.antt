-- A life of the script begins.
use Rattle.std.proofs.Common.{◌≡◌, ℕ, ◌+◌, ◌≤◌, List, [], ◌∷◌, ◌++◌, true, false, Some, refl, sym, ◌∙◌, ap, subst, arith}
use Rattle.std.specs.Prelude.{slice_get}
use Rattle.rm_types.specs.declared.entries.Entry.TheVariants.{Opened}
use Rattle.rm_types.specs.declared.operations.Op.{Op}
use Rattle.rm_types.specs.declared.scripts.Life.{Life}
use Rattle.rm_types.specs.Records.{Records, records}
use Rattle.rm_types.specs.Limits.{greatest_stamp}
use Rattle.rm_model.specs.Changes.{kept_after_landing}
use Rattle.rm_model.specs.Lawful.{state_after}
use Rattle.rm_model.specs.Place.{BeginsAsScripted as BeginsAt, Place, place_begun, stamp_of}
use Rattle.rm_core.specs.Moves.{IsLeftAfter, IsOwn}
use Rattle.rm_core.specs.Seen.{Seen, StandsFor}
use Rattle.rm_core.specs.Words.{as_new, is_blown, landed_over, served_in, stands}
use Rattle.rm_core.proofs.Telling.{told_own}
use Rattle.rm_desk.specs.View.{DeskView}
use Rattle.rm_desk.specs.Scripts.{AllLive, CanFollow, EndsInCrash}
use Rattle.rm_types.specs.Segments.{messages_in}
use Rattle.rm_desk.specs.Runs.{IsPlaceSound}
use Rattle.rm_desk.specs.Effects.{LifeBegins}
use Rattle.rm_desk.proofs.Longer.{one_more}

-- the next life can begin: its stamp is in its range
pub next_stamp : (d : DeskView) → IsPlaceSound d → (lives : List Life) → d.place.lives ≡ lives → (life : Life) → slice_get lives 0 ≡ Some life → (1 ≤ life.stamp) × (life.stamp ≤ greatest_stamp)
next_stamp d h [] e life first = cc
next_stamp d h (one ∷ more) e life first =
    let same : one ≡ life = cc in
    let can : AllLive (life ∷ more) = subst (λ (x : Life). AllLive (x ∷ more)) same (subst AllLive e h.lives) in
    (can.0.low, can.0.high)

module _ (d : DeskView) (new : Seen) (place : Place) (h : IsPlaceSound d) (tree : Records) (settings : new.settings ≡ d.core.settings) (began : as_new new ≡ as_new d.core)
    (lawful : (opening : List Op) → StandsFor opening d.core → IsLeftAfter tree opening d.core.log → StandsFor opening new) (own : IsOwn d.core tree)
    (stood : stands d.core ≡ false) (standing : stands new ≡ true) (count : served_in new ≡ 0) (unblown : is_blown new ≡ false) (life : Life)
    (added : new.log ≡ d.core.log ++ Opened (landed_over d.core tree) tree.next_epoch (stamp_of life tree.stamp) ∷ []) where
  -- it begins over what the last one left
  pub begin_does : (more : List Life) → d.place.lives ≡ life ∷ more → place ≡ place_begun d.place.lives d.place → LifeBegins tree d (record { core = new; place = place })
  begin_does more whole p =
      let can : AllLive (life ∷ more) = subst AllLive whole h.lives in
      let q : place ≡ record { lives = more; segments = life.segments } = p ∙ ap (λ (xs : List Life). place_begun xs d.place) whole in
      let lives : place.lives ≡ more = ap (λ (x : Place). x.lives) q in
      let segments : place.segments ≡ life.segments = ap (λ (x : Place). x.segments) q in
      let has : messages_in place.segments ≡ messages_in life.segments = ap messages_in segments in
      let total : served_in new + messages_in place.segments ≡ messages_in life.segments = omega (arith, has, count) in
      let head : slice_get d.place.lives 0 ≡ Some life = ap (λ (xs : List Life). slice_get xs 0) whole in
      let entry = Opened (landed_over d.core tree) tree.next_epoch (stamp_of life tree.stamp) in
      record {
        adds = record { entry = entry; of_kind = (life, head, refl); added = added; place = p };
        goes = record {
          sound = record {
            lives = subst AllLive (sym lives) can.2;
            segments = subst CanFollow (sym segments) can.0.segments;
            between = λ a. let x = standing in cc;
            ends = λ a others. subst EndsInCrash (sym segments) (can.1 (rw (← lives) others));
            blown = λ a b. let x = unblown in cc;
            served = λ a. rw total can.0.few;
          };
          settings = settings;
          began = began;
          lawful = λ opening left k. lawful opening k left;
          run = λ opening script left run.
              let s = state_after opening d.core.log in
              let stamp : stamp_of life tree.stamp ≡ stamp_of life (records (kept_after_landing s (landed_over d.core tree))).stamp =
              ap (λ (n : ℕ). stamp_of life n) (sym own.stamp ∙ ap (λ (r : Records). r.stamp) (told_own d.core opening run.stands stood tree left)) in
              let isnext : BeginsAt s d.place (landed_over d.core tree) (stamp_of life tree.stamp) = record { life = life; more = more; next = whole; at_end = h.between stood; stamped = stamp } in
              one_more opening script d (record { core = new; place = place }) entry run (lawful opening run.stands left) added p isnext;
        };
        stood = stood;
        standing = standing;
        unblown = unblown;
      }
