-- Where nothing is left to do, nothing is owed after the log.
use Rattle.std.proofs.Common.{◌≡◌, List, [], Bool, true, false, None, refl, sym, ◌∙◌, subst}
use Rattle.rm_types.specs.declared.entries.Entry.{Entry}
use Rattle.rm_types.specs.declared.operations.Op.{Op}
use Rattle.rm_model.specs.State.{Manager}
use Rattle.rm_model.specs.Lawful.{IsAtRest, state_after}
use Rattle.rm_tables.specs.declared.tables.Tables.{Tables}
use Rattle.rm_refinement.specs.History.{History, live_state}
use Rattle.rm_invariant.specs.Phases.{LifePhase, none, running, saving, shut, starting}
use Rattle.rm_invariant.specs.Invariant.{LifeInvariant}
use Rattle.rm_invariant.proofs.opening.Whole.{stands, told_standing}
use Rattle.rm_invariant.proofs.Settling.{open_at_rest, owes_none}
use Rattle.rm_core.specs.Invariant.{HasPhase, LogInvariant}
use Rattle.rm_core.specs.Seen.{Rests, RestsWhere}

module _ (t : Tables) (log : List Entry) where
  -- an open life at rest, by the tables
  open_rests : (opening : List Op) → LogInvariant opening log t → t.alive ≡ true → t.main ≡ [] → t.sched ≡ [] → t.awaiting ≡ [] → IsAtRest t.settings (state_after opening log) (state_after opening log).life
  open_rests opening k a m n w =
      let r = open_at_rest k.history t k.phase a m w in
      let rest : IsAtRest t.settings (live_state k.history t) (live_state k.history t).life = (w, owes_none k.history t r m n w) in
      subst (λ (x : Manager). IsAtRest t.settings x x.life) (sym (k.same ∙ told_standing k.history t a)) rest

  -- and between lives
  between_rests : (opening : List Op) → LogInvariant opening log t → t.alive ≡ false → IsAtRest t.settings (state_after opening log) (state_after opening log).life
  between_rests opening k a =
      let at : state_after opening log ≡ record { kept = k.history.kept; awaiting = t.awaiting; blew = t.blown; life = None } = k.same ∙ rw a refl in
      subst (λ (x : Manager). IsAtRest t.settings x x.life) (sym at) tt

  none_handed : (h : History) → LifeInvariant h t → t.awaiting ≡ [] → (b : Bool) → t.handed ≡ b → b ≡ false
  none_handed h r w true e = absurd (r.handed e w)
  none_handed h r w false e = refl

  rests_where : HasPhase t → t.main ≡ [] → t.sched ≡ [] → (t.alive ≡ true → t.awaiting ≡ []) → (b : Bool) → t.alive ≡ b → RestsWhere (record { settings = t.settings; tables = t; log = log })
  rests_where s m n w true a =
      let r = open_at_rest s.history t s.phase a m (w a) in
      record { is_open = λ x. r.whole.keeps.is_open; none_handed = λ x. none_handed s.history r (w a) t.handed refl; at_rest = λ opening k. open_rests opening k a m n (w a) }
  rests_where s m n w false a = record { is_open = λ h. cc; none_handed = λ h. cc; at_rest = λ opening k. between_rests opening k a }

  -- between lives the queues are empty
  none_queued : (h : History) → LifePhase h t → t.alive ≡ false → (t.main ≡ []) × (t.sched ≡ [])
  none_queued h (none n) dead = (n.main, n.sched)
  none_queued h (starting b) dead = absurd (let x = sym (stands h t b.begins) ∙ dead in cc)
  none_queued h (saving b) dead = absurd (let x = sym (stands h t b.begins) ∙ dead in cc)
  none_queued h (shut b) dead = absurd (let x = sym b.alive ∙ dead in cc)
  none_queued h (running r) dead = absurd (let x = sym r.alive ∙ dead in cc)

  -- where nothing is left to do, nothing is owed
  pub sound_rests : HasPhase t → Rests (record { settings = t.settings; tables = t; log = log })
  sound_rests s = record { idle = λ dead. none_queued s.history s.phase dead; left = λ m n w. rests_where s m n w t.alive refl }
