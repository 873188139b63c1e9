-- Entries of lanes that may move, added to a log.
use Rattle.rm_lives.proofs.Common.{ℕ, ◌≢◌, ◌⊎◌, inl, inr, ⊎_elim, List, [], ◌∷◌, ◌++◌, Bool, true, false, None, Some, Option, refl, sym, ◌∙◌, ap, subst, Entry, Lane, Client, Master, Node, Clock, Main, Sched, Hand, Write, End, Begin, Op, Script, lane_of_entry, is_ready_at, HasNoWork, Seen, as_new, is_blown, Place, DeskView}
use Rattle.std.proofs.Common.{◌≡◌}
use Rattle.rm_types.specs.Records.{Records}
use Rattle.rm_tables.specs.declared.tables.Tables.{Tables}
use Rattle.rm_model.specs.Lawful.{place_after}
use Rattle.rm_core.specs.Words.{manager_after}
use Rattle.rm_core.proofs.Telling.{tables_told}
use Rattle.rm_desk.specs.Runs.{IsScriptRun as GoesAlong}
use Rattle.rm_lives.specs.Order.{AllReady, May, Order, run_after}

-- where an entry of a longer log stands: at its end, or among those before
abbrev pub Among : List Entry → List Entry → Entry → Entry → Type 0
Among log past e x = ((past ≡ log) × (x ≡ e)) ⊎ ((before : List Entry) × (log ≡ past ++ x ∷ before))

pub none_split : (past : List Entry) (x : Entry) (more : List Entry) → [] ≡ past ++ x ∷ more → ⊥
none_split [] x more h = cc
none_split (y ∷ past) x more h = cc

pub split_push : (log past : List Entry) (e x : Entry) (more : List Entry) → log ++ e ∷ [] ≡ past ++ x ∷ more → Among log past e x
split_push [] [] e x more h = let same : e ≡ x = cc in inl (refl, sym same)
split_push [] (y ∷ past) e x more h = let none : [] ≡ past ++ x ∷ more = cc in absurd (none_split past x more none)
split_push (l ∷ log) [] e x more h = let same : l ≡ x = cc in inr (log, ap (λ (z : Entry). z ∷ log) same)
split_push (l ∷ log) (y ∷ past) e x more h =
    let same : l ≡ y = cc in
    let rest : log ++ e ∷ [] ≡ past ++ x ∷ more = cc in
    ⊎_elim (λ end. inl (ap (λ (z : Entry). z ∷ past) (sym same) ∙ ap (λ (zs : List Entry). l ∷ zs) end.0, end.1))
    (λ before. inr (before.0, ap (λ (z : Entry). z ∷ log) same ∙ ap (λ (zs : List Entry). y ∷ zs) before.1)) (split_push log past e x more rest)

-- an entry of a lane that was ready may be added
ready_push : (new : Seen) (script : Script) (opening : List Op) (log : List Entry) (e : Entry) → AllReady new script opening log → is_ready_at (run_after new script opening log) (lane_of_entry e) ≡ true
    → AllReady new script opening (log ++ e ∷ [])
ready_push new script opening log e h ready = λ past x more is.
    ⊎_elim (λ end. rw (end.0, end.1) ready) (λ before. h past x before.0 before.1) (split_push log past e x more is)

-- what is told of a desk is told of the run after its log, where the store's records have no part in it
module _ (opening : List Op) (script : Script) (d : DeskView) (run : GoesAlong opening script d) where
  abbrev pub after_log : DeskView
  after_log = run_after (as_new d.core) script opening d.core.log

  abbrev at : Tables → Place → DeskView
  at t place = record { core = record { settings = d.core.settings; tables = t; log = d.core.log }; place = place }

  pub told_by : {X : Type 0} (of : DeskView → X) → ((t : Tables) (tree : Records) (place : Place) → of (at (record t { tree = tree }) place) ≡ of (at t place))
      → of (at (manager_after (as_new d.core) opening d.core.log).tables (place_after script d.core.log)) ≡ of d
  told_by of ignores =
      let told = tables_told d.core opening run.stands in
      let t = (manager_after (as_new d.core) opening d.core.log).tables in
      ap (λ (p : Place). of (at t p)) run.along.at ∙ sym (ignores t told.tree d.place) ∙ ap (λ (x : Tables). of (at x d.place)) (sym told.is)

  pub ready_told : (lane : Lane) → is_ready_at after_log lane ≡ is_ready_at d lane
  ready_told Client = told_by (λ x. is_ready_at x Client) (λ t tree place. refl)
  ready_told Master = told_by (λ x. is_ready_at x Master) (λ t tree place. refl)
  ready_told Node = told_by (λ x. is_ready_at x Node) (λ t tree place. refl)
  ready_told Clock = told_by (λ x. is_ready_at x Clock) (λ t tree place. refl)
  ready_told Main = told_by (λ x. is_ready_at x Main) (λ t tree place. refl)
  ready_told Sched = told_by (λ x. is_ready_at x Sched) (λ t tree place. refl)
  ready_told Hand = told_by (λ x. is_ready_at x Hand) (λ t tree place. refl)
  ready_told Write = told_by (λ x. is_ready_at x Write) (λ t tree place. refl)
  ready_told End = told_by (λ x. is_ready_at x End) (λ t tree place. refl)
  ready_told Begin = told_by (λ x. is_ready_at x Begin) (λ t tree place. refl)

-- a lane that is ready may move by an order that asks for no more
pub ready_may : (order : Order) (lane : Lane) (d : DeskView) → is_ready_at d lane ≡ true
    → ((new : Seen) (script : Script) (opening : List Op) (log : List Entry) → AllReady new script opening log → order.keeps new script opening log)
    → ((new : Seen) (script : Script) (opening : List Op) (log : List Entry) → order.keeps new script opening log → AllReady new script opening log)
    → (order.rests → lane ≡ End → is_blown d.core ≡ false → HasNoWork d) → May order lane d
ready_may order lane d ready is asks rests =
    record {
      keeps = λ opening script e run of_lane h.
          is (as_new d.core) script opening (d.core.log ++ e ∷ [])
          (ready_push (as_new d.core) script opening d.core.log e (asks (as_new d.core) script opening d.core.log h)
          (ready_told opening script d run (lane_of_entry e) ∙ ap (λ (l : Lane). is_ready_at d l) of_lane ∙ ready));
      rests = rests;
    }

-- where no life stands and none is left in the script, no lane is ready
pub dead_over : (d : DeskView) → ((lane : Lane) → is_ready_at d lane ≡ true → lane ≡ Begin) → is_ready_at d Begin ≡ false → (lane : Lane) → is_ready_at d lane ≡ false
dead_over d only begin lane = by (is_ready_at d lane) refl
  where
    by : (b : Bool) → is_ready_at d lane ≡ b → b ≡ false
    by true ready = let is = only lane ready in let x = sym begin ∙ ap (λ (l : Lane). is_ready_at d l) (sym is) ∙ ready in cc
    by false ready = refl
