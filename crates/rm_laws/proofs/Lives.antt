-- The epochs and the stamps that are kept rise, and an open life's are the recorded ones.
use Rattle.rm_laws.proofs.Common.{◌≡◌, ℕ, ◌+◌, ◌<◌, List, [], ◌∷◌, ◌++◌, Bool, true, false, Option, None, Some, flat_map, refl, sym, subst, arith, ◌∙◌, inl, inr, Entry, Opened, Kept, Op, Epoch, App, Attempt, AttemptEnd, AppEnd, Remove, Settings, LifeState, Manager, scene, opening_state, is_epoch_op, Allowed, AllowedIn, MayOpen, after, after_all, AllAllowed}
use Rattle.std.specs.Prelude.{All, AllPairs}
use Rattle.rm_model.specs.Rules.{MayKeep}
use Rattle.rm_laws.specs.Laws.{LivesDiffer, OpenIsRecorded, number_kept}
use Rattle.rm_laws.proofs.Lists.{each_all, pairs_all}
use Rattle.rm_laws.proofs.Walks.{Step, beyond, in_order, walk}
use Rattle.rm_laws.proofs.Stamps.{IsBetween, IsClosed, Phase, Sound, next-push, next_of, stored, stored-push}
use Rattle.rm_laws.proofs.Phases.{state, first_other, own_epoch, sound_opening, stays as kept_stays}
use Rattle.rm_laws.proofs.Giving.{IsEarlier, begins_earlier}
use Rattle.rm_laws.proofs.Ids.{steps as id_steps}

-- a number of Epochs, and what some operations record of it: the last Epoch's, which is above those before
pub record IsNumber (number : ℕ → ℕ → ℕ) (of : List Op → ℕ) : Type 0 where
  pub takes : (kept : List Op) (next stamp : ℕ) → of (kept ++ Epoch next stamp ∷ []) ≡ number next stamp
  pub earlier : IsEarlier (λ kept x. of kept < x)
  pub rises : (kept awaiting : List Op) (life : LifeState) → IsClosed kept awaiting life → of kept < number (life.epoch + 1) life.stamp

epoch_number : IsNumber (λ next stamp. next) next_of
epoch_number =
    record {
      takes = λ kept next stamp. next-push kept (Epoch next stamp);
      earlier = record {
        stays = λ kept op other x h. let e = (kept_stays kept op other).1 in omega (arith, e, h);
        lands = λ kept awaiting b x h. let e = b.epoch in omega (arith, e, h);
      };
      rises = λ kept awaiting life c. let f = c.follows in omega (arith, f);
    }

stamp_number : IsNumber (λ next stamp. stamp) stored
stamp_number =
    record {
      takes = λ kept next stamp. stored-push kept (Epoch next stamp);
      earlier = record {
        stays = λ kept op other x h. let e = (kept_stays kept op other).0 in omega (arith, e, h);
        lands = λ kept awaiting b x h. let e = b.stamp in omega (arith, e, h);
      };
      rises = λ kept awaiting life c. c.rises;
    }

none_kept : (number : ℕ → ℕ → ℕ) (op : Op) → is_epoch_op op ≡ false → number_kept number (Kept op) ≡ []
none_kept number (Epoch next stamp) other = cc
none_kept number (App id submission) other = refl
none_kept number (Attempt id master node) other = refl
none_kept number (AttemptEnd id how text) other = refl
none_kept number (AppEnd id how text) other = refl
none_kept number (Remove id) other = refl

module _ (number : ℕ → ℕ → ℕ) (of : List Op → ℕ) (n : IsNumber number of) where
  abbrev pub Beyond : Manager → ℕ → Type 0
  Beyond s x = of s.kept < x

  abbrev pub StepOf : Manager → Entry → Type 0
  StepOf s e = Step (number_kept number) Beyond ◌<◌ Sound s e

  module _ (kept awaiting : List Op) (blew : Bool) (life : LifeState) where
    epoch_kept : (next stamp : ℕ) → of kept < number next stamp → Sound (after (state kept awaiting blew (Some life)) (Kept (Epoch next stamp)))
        → StepOf (state kept awaiting blew (Some life)) (Kept (Epoch next stamp))
    epoch_kept next stamp rises sound =
        let t = n.takes kept next stamp in
        record {
          sound = sound;
          lifts = λ x h. omega (arith, t, rises, h);
          gives = (rises, tt);
          apart = (tt, tt);
          past = (λ y h. omega (arith, t, h), tt);
        }

    keeps : (op : Op) → MayKeep (scene (state kept awaiting blew (Some life)) life) op → Phase kept awaiting (Some life) → Sound (after (state kept awaiting blew (Some life)) (Kept op))
        → StepOf (state kept awaiting blew (Some life)) (Kept op)
    keeps op may (inl c) sound =
        subst (λ (one : Op). Sound (after (state kept awaiting blew (Some life)) (Kept one)) → StepOf (state kept awaiting blew (Some life)) (Kept one)) (own_epoch kept awaiting life op c may.first).0
        (epoch_kept (life.epoch + 1) life.stamp (n.rises kept awaiting life c)) sound
    keeps op may (inr o) sound =
        let other = first_other op awaiting may.first o.awaits in
        let none = none_kept number op other in
        record { sound = sound; lifts = n.earlier.stays kept op other; gives = rw none tt; apart = rw none tt; past = rw none tt }

    in_life : (settings : Settings) (e : Entry) → AllowedIn settings (scene (state kept awaiting blew (Some life)) life) e → Phase kept awaiting (Some life)
        → Sound (after (state kept awaiting blew (Some life)) e) → StepOf (state kept awaiting blew (Some life)) e
    in_life settings (Opened landed epoch stamp) may p sound = absurd may
    in_life settings (Kept op) may p sound = keeps op may p sound
    in_life settings e may p sound = record { sound = sound; lifts = λ x h. h; gives = tt; apart = tt; past = tt }

  begins : (kept awaiting : List Op) (blew : Bool) → IsBetween kept awaiting → (landed epoch stamp : ℕ) → MayOpen (state kept awaiting blew None) landed epoch stamp
      → Sound (after (state kept awaiting blew None) (Opened landed epoch stamp)) → StepOf (state kept awaiting blew None) (Opened landed epoch stamp)
  begins kept awaiting blew b landed epoch stamp may sound =
      record { sound = sound; lifts = begins_earlier (λ kept x. of kept < x) n.earlier kept awaiting blew b landed may.landing; gives = tt; apart = tt; past = tt }

  -- each entry that is allowed
  step : (settings : Settings) (kept awaiting : List Op) (blew : Bool) (life : Option LifeState) (e : Entry) → Phase kept awaiting life
      → Allowed settings (state kept awaiting blew life) e → StepOf (state kept awaiting blew life) e
  step settings kept awaiting blew None (Opened landed epoch stamp) p may =
      begins kept awaiting blew p landed epoch stamp may (id_steps settings kept awaiting blew None (Opened landed epoch stamp) p may).sound
  step settings kept awaiting blew None _ p may = absurd may
  step settings kept awaiting blew (Some life) e p may = in_life kept awaiting blew life settings e may p (id_steps settings kept awaiting blew (Some life) e p may).sound

  pub rise : (settings : Settings) (opening : List Op) (log : List Entry) → AllAllowed settings (opening_state opening) log → AllPairs ◌<◌ (flat_map (number_kept number) log)
  rise settings opening log allowed =
      pairs_all ◌<◌ (flat_map (number_kept number) log)
      (in_order (number_kept number) Beyond ◌<◌ Sound settings (λ s e p may. step settings s.kept s.awaiting s.blew s.life e p may) (opening_state opening) log (sound_opening opening) allowed)

  pub later : (settings : Settings) (opening : List Op) (log : List Entry) → AllAllowed settings (opening_state opening) log → All (λ x. of opening < x) (flat_map (number_kept number) log)
  later settings opening log allowed =
      each_all (Beyond (opening_state opening)) (flat_map (number_kept number) log)
      (beyond (number_kept number) Beyond ◌<◌ Sound settings (λ s e p may. step settings s.kept s.awaiting s.blew s.life e p may) (opening_state opening) log (sound_opening opening) allowed)

-- an open life's numbers are the recorded ones
has_numbers : (s : Manager) (life : Option LifeState) → Phase s.kept s.awaiting life → OpenIsRecorded s life
has_numbers s None p = tt
has_numbers s (Some life) (inl c) = λ opened. absurd (let x : true ≡ false = sym opened ∙ c.closed in cc)
has_numbers s (Some life) (inr o) = λ opened. record { stamp = o.stamped; epoch = o.follows }

-- the law
pub lives_differ : (settings : Settings) (opening : List Op) (log : List Entry) → AllAllowed settings (opening_state opening) log → LivesDiffer opening log
lives_differ settings opening log allowed =
    record {
      epochs = rise (λ next stamp. next) next_of epoch_number settings opening log allowed;
      stamps = rise (λ next stamp. stamp) stored stamp_number settings opening log allowed;
      later_epochs = later (λ next stamp. next) next_of epoch_number settings opening log allowed;
      later_stamps = later (λ next stamp. stamp) stored stamp_number settings opening log allowed;
      open_lives = opened;
    }
  where
    opened : (before rest : List Entry) → log ≡ before ++ rest → OpenIsRecorded (after_all (opening_state opening) before) (after_all (opening_state opening) before).life
    opened before rest whole =
        has_numbers (after_all (opening_state opening) before) (after_all (opening_state opening) before).life
        (walk settings Sound (λ s e p may. (id_steps settings s.kept s.awaiting s.blew s.life e p may).sound) opening log before rest (sound_opening opening) allowed whole).0
