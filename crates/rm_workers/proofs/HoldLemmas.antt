-- What a hold of the baton does, by what its move does.
use Rattle.std.proofs.Common.{◌≡◌, ◌≢◌, inl, inr, List, Bool, true, false, true≢false, None, refl, sym, ap, subst, ◌∙◌}
use Rattle.rm_types.specs.declared.entries.Entry.{Entry}
use Rattle.rm_types.specs.declared.messages.Lane.{Lane}
use Rattle.rm_types.specs.declared.messages.Lane.TheVariants.{Hand, Write, End}
use Rattle.rm_baton.specs.Entries.{AddsAtMostOne}
use Rattle.rm_baton.specs.Views.{gave, took}
use Rattle.rm_core.specs.Words.{has_rest, is_blown}
use Rattle.rm_desk.specs.Effects.{EffectBy}
use Rattle.rm_desk.specs.Lanes.{is_ready_at}
use Rattle.rm_desk.specs.View.{DeskView}
use Rattle.rm_workers.specs.declared.called.Called.{Called}
use Rattle.rm_workers.specs.declared.turns.End.TheVariants as ends
use Rattle.rm_workers.specs.declared.turns.Helped.{Helped}
use Rattle.rm_workers.specs.declared.turns.Helped.TheVariants.{Moved, Still, Over}
use Rattle.rm_workers.specs.declared.turns.Next.{Next}
use Rattle.rm_workers.specs.declared.turns.Told.{Told}
use Rattle.rm_workers.specs.declared.turns.Told.TheVariants as told
use Rattle.rm_workers.specs.declared.turns.Turn.{Turn}
use Rattle.rm_workers.specs.declared.turns.Turn.TheVariants as turns
use Rattle.rm_workers.specs.Carried.{HeldView, PassView, log_of}
use Rattle.rm_workers.specs.Holds.{InOneHold, HoldsTurn, IsNextFor, IsToldOf, MayHelp, MayTell, MovesOnce, TurnsOnce}
use Rattle.rm_workers.specs.Turns.{AddsEntryOf, EndsWithCause, Helps, Learns, Makes, MayTurn, lane_of_told, lane_of_turn}
use Rattle.rm_workers.specs.Waking.{CallsReady, calls_any, is_called, next_of, without_worker}

-- the entry that a lane's move adds
pub effect_one : {kind : Entry → Type 0} {blew : Bool} (lane : Lane) (old new : DeskView) → EffectBy kind blew lane old new → AddsEntryOf lane old.core.log new.core.log
effect_one lane old new does = record { entry = does.adds.entry; added = does.adds.added; of_lane = does.of_lane }

-- who is told of an entry is told of one at most
pub told_one : (own lane : Lane) (old new : List Entry) → IsToldOf own lane old new → AddsAtMostOne old new
told_one own lane old new (inl one) = inr (one.entry, one.added)
told_one own lane old new (inr none) = inl none.0

pub none_told : (own : Lane) (old new : DeskView) → new ≡ old → IsToldOf own own old.core.log new.core.log
none_told own old new same = inr (ap (λ (d : DeskView). d.core.log) same, refl)

-- the pass that took a value knows its log
pub told_by : (own lane o l : Lane) (v w : PassView) (x : HeldView) (log : List Entry) → o ≡ own → l ≡ lane → w ≡ took log_of v x → IsToldOf own lane (log_of x) log → IsToldOf o l w.latest log
told_by own lane o l v w x log is_own is_lane took' told =
    subst (λ (k : Lane). IsToldOf k l w.latest log) (sym is_own)
    (subst (λ (k : Lane). IsToldOf own k w.latest log) (sym is_lane) (subst (λ (k : PassView). IsToldOf own lane k.latest log) (sym took') told))

pub holds : (Did : HeldView → HeldView → Type 0) (v w z : PassView) (x y : HeldView) → w ≡ took log_of v x → z ≡ gave log_of w y → Did x y → InOneHold Did v z
holds Did v w z x y took' gave' did = record { taken = x; given = y; is = gave' ∙ ap (λ (k : PassView). gave log_of k y) took'; did = did }

-- A HELPER

pub helped_told : (lane : Lane) (helped : Helped) (taken given : HeldView) → Helps lane helped taken given → IsToldOf lane lane (log_of taken) (log_of given)
helped_told lane Moved taken given helps = inl (effect_one lane taken.desk given.desk helps.1)
helped_told lane Still taken given helps = inr (ap log_of helps.1, refl)
helped_told lane Over taken given helps = none_told lane taken.desk given.desk helps.0

pub helped_once : (lane : Lane) (helped : Helped) (taken given : HeldView) → Helps lane helped taken given → MovesOnce (MayHelp lane) taken given
helped_once lane Moved taken given helps = inl (lane, (refl, helps.0), effect_one lane taken.desk given.desk helps.1)
helped_once lane Still taken given helps =
    inr (ap (λ (h : HeldView). h.desk) helps.1, λ l may. absurd (true≢false (sym (subst (λ (k : Lane). is_ready_at taken.desk k ≡ true) may.0 may.1) ∙ helps.0)))
helped_once lane Over taken given helps = inr (helps.0, λ l may. helps.1)

-- who isn't called has nothing to do
not_called : (d : DeskView) (called : Called) (lane : Lane) → CallsReady d called → is_called called lane ≡ false → is_ready_at d lane ≡ false
not_called d called lane ready none = by (is_ready_at d lane) (ready lane)
  where
    by : (b : Bool) → (b ≡ true → is_called called lane ≡ true) → b ≡ false
    by true is = absurd (true≢false (sym (is refl) ∙ none))
    by false is = refl

next_is : (helped : Helped) (again others may : Bool) (lane : Lane) (taken given : HeldView) → Helps lane helped taken given → (again ≡ false → is_ready_at given.desk lane ≡ false) → IsNextFor lane (next_of helped again others may) given
next_is Moved true true true lane taken given helps none = tt
next_is Moved true true false lane taken given helps none = tt
next_is Moved true false true lane taken given helps none = tt
next_is Moved true false false lane taken given helps none = tt
next_is Moved false others may lane taken given helps none = none refl
next_is Still again others may lane taken given helps none = subst (λ (h : HeldView). is_ready_at h.desk lane ≡ false) (sym helps.1) helps.0
next_is Over again others may lane taken given helps none = helps.1

pub helped_next : (lane : Lane) (helped : Helped) (called : Called) (may : Bool) (next : Next) (taken given : HeldView) → next ≡ next_of helped (is_called called lane) (calls_any (without_worker lane called)) may
    → CallsReady given.desk called → Helps lane helped taken given → IsNextFor lane next given
helped_next lane helped called may next taken given is ready helps =
    subst (λ (n : Next). IsNextFor lane n given) (sym is)
    (next_is helped (is_called called lane) (calls_any (without_worker lane called)) may lane taken given helps (not_called given.desk called lane ready))

-- A TURN OF THE STORE'S WORKER

-- none of its lanes may move
pub none_may : (d : DeskView) → is_ready_at d Hand ≡ false → (is_ready_at d End ≡ true → (is_blown d.core ≡ false → has_rest d.core) → ⊥) → (lane : Lane) → MayTurn d lane → ⊥
none_may d hand end Hand may = true≢false (sym may ∙ hand)
none_may d hand end End may = end may.0 may.1
none_may d hand end _ may = may

pub turn_told : (turn : Turn) (old new : DeskView) → Makes turn old new → IsToldOf Hand (lane_of_turn turn) old.core.log new.core.log
turn_told turns.Out old new makes = absurd makes
turn_told turns.Wait old new makes = none_told Hand old new makes.0
turn_told (turns.Moved lane) old new move = inl (effect_one lane old new move.1)
turn_told (turns.Write op) old new move = inl (effect_one Hand old new move.1)
turn_told (turns.Ends ends.Over) old new (inl same) = none_told Hand old new same
turn_told (turns.Ends ends.Over) old new (inr move) = inl (effect_one Hand old new move.1)
turn_told (turns.Ends (ends.Down image)) old new move = inl (effect_one End old new move.1)
turn_told (turns.Ends (ends.Halted halt)) old new move = inl (effect_one End old new move.1)

turn_once : (turn : Turn) (taken given : HeldView) → Makes turn taken.desk given.desk → EndsWithCause turn given → MovesOnce MayTurn taken given
turn_once turns.Out taken given makes cause = absurd makes
turn_once turns.Wait taken given makes cause = inr (makes.0, λ lane may. absurd (makes.1 lane may))
turn_once (turns.Moved lane) taken given move cause = inl (lane, move.0, effect_one lane taken.desk given.desk move.1)
turn_once (turns.Write op) taken given move cause = inl (Hand, move.0, effect_one Hand taken.desk given.desk move.1)
turn_once (turns.Ends ends.Over) taken given (inl same) cause = inr (same, λ lane may. cause)
turn_once (turns.Ends ends.Over) taken given (inr move) cause = inl (Hand, move.0, effect_one Hand taken.desk given.desk move.1)
turn_once (turns.Ends (ends.Down image)) taken given move cause = inl (End, move.0, effect_one End taken.desk given.desk move.1)
turn_once (turns.Ends (ends.Halted halt)) taken given move cause = inl (End, move.0, effect_one End taken.desk given.desk move.1)

pub turn_holds : (turn : Turn) (v w z : PassView) (x y : HeldView) → w ≡ took log_of v x → z ≡ gave log_of w y → Makes turn x.desk y.desk → EndsWithCause turn y → HoldsTurn turn v z
turn_holds turns.Out v w z x y took' gave' makes cause = absurd makes
turn_holds turns.Wait v w z x y took' gave' makes cause = holds (TurnsOnce turns.Wait) v w z x y took' gave' (turn_once turns.Wait x y makes cause, cause)
turn_holds (turns.Moved lane) v w z x y took' gave' makes cause = holds (TurnsOnce (turns.Moved lane)) v w z x y took' gave' (turn_once (turns.Moved lane) x y makes cause, cause)
turn_holds (turns.Write op) v w z x y took' gave' makes cause = holds (TurnsOnce (turns.Write op)) v w z x y took' gave' (turn_once (turns.Write op) x y makes cause, cause)
turn_holds (turns.Ends end) v w z x y took' gave' makes cause = holds (TurnsOnce (turns.Ends end)) v w z x y took' gave' (turn_once (turns.Ends end) x y makes cause, cause)

-- A HOLD AFTER A WRITE

pub learns_told : (told : Told) (taken given : HeldView) → Learns told taken given → IsToldOf Hand (lane_of_told told) (log_of taken) (log_of given)
learns_told told.Learned taken given learns = inl learns.1
learns_told (told.Halted halt) taken given learns = none_told Hand taken.desk given.desk learns.0
learns_told told.Absent taken given learns = none_told Hand taken.desk given.desk learns.1

pub learns_once : (told : Told) (taken given : HeldView) → Learns told taken given → MovesOnce MayTell taken given
learns_once told.Learned taken given learns = inl (Write, (refl, learns.0), learns.1)
learns_once (told.Halted halt) taken given learns = inr (learns.0, λ lane may none. absurd (learns.1 none))
learns_once told.Absent taken given learns =
    inr (learns.1, λ lane may. absurd (true≢false (sym (subst (λ (k : Lane). is_ready_at taken.desk k ≡ true) may.0 may.1) ∙ learns.0)))

-- or by which a halt stands
pub stops_once : (taken given : HeldView) → given.desk ≡ taken.desk → given.halt ≢ None → MovesOnce MayTell taken given
stops_once taken given same halt = inr (same, λ lane may none. absurd (halt none))
