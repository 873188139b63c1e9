-- Where an application doesn't keep, the words are what they are without keeping: a container is wanted while its attempt is kept and not over, and
-- stale where its attempt is over; its end is told unless it is a master's or its attempt is over; a release ends the attempt's own.
use Rattle.std.proofs.Common.{◌≡◌, List, Bool, true, false, ◌||◌, ◌&&◌, not, if◌then◌else◌, Option, None, Some, is_some, is_none, map, refl, ap, ◌∙◌}
use Rattle.rm_types.specs.declared.ids.AttemptId.{AttemptId}
use Rattle.rm_types.specs.declared.ids.ContainerId.{ContainerId}
use Rattle.rm_types.specs.declared.entries.Entry.{Entry}
use Rattle.rm_types.specs.declared.operations.Op.{Op}
use Rattle.rm_types.specs.declared.records.AppRecord.{AppRecord}
use Rattle.rm_types.specs.declared.replies.Reply.TheVariants.{MasterRegistered, Took}
use Rattle.rm_types.specs.Ids.{is_attempt}
use Rattle.rm_model.specs.Attempts.{attempt_end, attempt_is_kept, is_masters, is_own_master, is_stale, is_wanted}
use Rattle.rm_model.specs.Containers.{is_at_disposal, is_earlier, is_told}
use Rattle.rm_model.specs.Facts.{end_in, app_goes_on, is_kept, keeps, kept_end, kept_record}
use Rattle.rm_model.specs.MasterReplies.{earlier_rows, grant_of, registered_reply}
use Rattle.rm_model.specs.Lawful.{state_after}
use Rattle.rm_model.specs.State.{LifeState, Manager, Scene, scene}
use Rattle.rm_laws.specs.Reductions.{EndWithAttempt, WithoutKeep, is_over}

none_or_some : {X : Type 0} (o : Option X) → is_none o ≡ not (is_some o)
none_or_some None = refl
none_or_some (Some x) = refl

goes_or_over : (r : Option AppRecord) → app_goes_on r ≡ not (not (is_some r) || is_some (end_in r))
goes_or_over None = refl
goes_or_over (Some app) = none_or_some app.ending

module _ (m : Scene) (id : ContainerId) (plain : keeps (kept_record m id.attempt.app) ≡ false) where
  wanted_plain : is_wanted m id ≡ (attempt_is_kept m id.attempt && not (is_over m id.attempt))
  wanted_plain =
      rw (plain, goes_or_over (kept_record m id.attempt.app), none_or_some (attempt_end m id.attempt))
      (by (is_kept m id.attempt.app) (is_some (kept_end m id.attempt.app)) (attempt_is_kept m id.attempt) (is_some (attempt_end m id.attempt)))
    where
      by : (a b c d : Bool) → (not (not a || b) && (c && (not d || false))) ≡ (c && not (not a || b || d))
      by true true true true = refl
      by true true true false = refl
      by true true false true = refl
      by true true false false = refl
      by true false true true = refl
      by true false true false = refl
      by true false false true = refl
      by true false false false = refl
      by false b true d = refl
      by false b false d = refl

  stale_plain : is_stale m id ≡ is_over m id.attempt
  stale_plain =
      rw (plain, goes_or_over (kept_record m id.attempt.app), none_or_some (attempt_end m id.attempt))
      (by (is_kept m id.attempt.app) (is_some (kept_end m id.attempt.app)) (attempt_is_kept m id.attempt) (is_some (attempt_end m id.attempt)))
    where
      by : (a b c d : Bool) → (not (not (not a || b)) || (d && not (not (not a || b) && (c && (not d || false))))) ≡ (not a || b || d)
      by true true c d = refl
      by true false true true = refl
      by true false true false = refl
      by true false false true = refl
      by true false false false = refl
      by false b c d = refl

  told_plain : is_told m id ≡ not (is_masters m id || is_over m id.attempt)
  told_plain =
      ap (λ (b : Bool). b && not (is_masters m id)) wanted_plain
      ∙ by (is_kept m id.attempt.app) (attempt_is_kept m id.attempt) (is_own_master m id) (is_some (kept_end m id.attempt.app)) (is_some (attempt_end m id.attempt))
    where
      by : (a c o b d : Bool) → ((c && not (not a || b || d)) && not (a && (not c || o))) ≡ not ((a && (not c || o)) || (not a || b || d))
      by true true true true d = refl
      by true true true false true = refl
      by true true true false false = refl
      by true true false true d = refl
      by true true false false true = refl
      by true true false false false = refl
      by true false o b d = refl
      by false true o b d = refl
      by false false o b d = refl

-- it has its own containers at its disposal
disposal_plain : (m : Scene) (id : ContainerId) (attempt : AttemptId) → keeps (kept_record m attempt.app) ≡ false → is_at_disposal m attempt id ≡ is_attempt id.attempt attempt
disposal_plain m id attempt off = ap (λ (b : Bool). is_attempt id.attempt attempt || (b && is_earlier id.attempt attempt)) off ∙ by (is_attempt id.attempt attempt)
  where
    by : (b : Bool) → (b || false) ≡ b
    by true = refl
    by false = refl

-- and its registration is answered as before
registered_plain : (m : Scene) (attempt : AttemptId) → keeps (kept_record m attempt.app) ≡ false → registered_reply m attempt ≡ MasterRegistered
registered_plain m attempt plain = ap (λ (b : Bool). if b then Took (map grant_of (earlier_rows m attempt)) else MasterRegistered) plain

end_with_attempt : (s : Manager) (life : Option LifeState) → EndWithAttempt s life
end_with_attempt s None = tt
end_with_attempt s (Some life) = (
  λ id plain. record { wanted = wanted_plain (scene s life) id plain; stale = stale_plain (scene s life) id plain; told = told_plain (scene s life) id plain },
  λ attempt plain. record { disposal = λ id. disposal_plain (scene s life) id attempt plain; registered = registered_plain (scene s life) attempt plain },
)

-- in every state
pub without_keep : (opening : List Op) (log : List Entry) → WithoutKeep opening log
without_keep opening log before rest e = end_with_attempt (state_after opening before) (state_after opening before).life
