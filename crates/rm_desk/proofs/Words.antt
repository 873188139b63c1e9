-- What a desk uses of a manager beside the clauses of its calls, said in the words of the manager.
use Rattle.std.proofs.Common.{◌≡◌, List, [], ◌∷◌, Bool, true, false, not, ◌&&◌, ◌||◌, None, Some, Option, if◌then◌else◌, refl, sym, ◌∙◌, subst}
use Rattle.std.proofs.lemmas.Bool.{and_parts, not-true}
use Rattle.rm_types.specs.declared.messages.Lane.{Lane}
use Rattle.rm_types.specs.declared.messages.Lane.TheVariants.{Client, Master, Node, Clock, Main, Sched, Hand, Write, End, Begin}
use Rattle.rm_types.specs.declared.operations.Op.{Op}
use Rattle.rm_types.specs.Lists.{is_nil}
use Rattle.rm_types.proofs.TestLemmas.{or_true, nil_is}
use Rattle.rm_model.specs.Lawful.{IsAtRest, state_after}
use Rattle.rm_core.specs.Seen.{Rests, Seen, StandsFor}
use Rattle.rm_core.specs.Words.{can_go_down, handed_of, has_rest, is_blown, ready_at, stands}
use Rattle.rm_core.proofs.Telling.{told_blew, told_life, told_none}
use Rattle.rm_desk.specs.Effects.{HasHanded}
use Rattle.rm_desk.specs.Lanes.{IsWork}
use Rattle.rm_desk.specs.Runs.{HasBlown}

nil_unless : {X : Type 0} (xs : List X) → not (is_nil xs) ≡ false → xs ≡ []
nil_unless [] h = refl
nil_unless (x ∷ xs) h = cc

some_if : {X : Type 0} (b : Bool) (x : Option X) (y : X) → (if b then x else None) ≡ Some y → b ≡ true
some_if true x y h = refl
some_if false x y h = cc

module _ (s : Seen) where
  -- a life stands where a message may be served, and where an operation is with the store
  pub client_stands : ready_at s Client ≡ true → stands s ≡ true
  client_stands h = (and_parts s.tables.alive (s.tables.is_open || s.tables.blown) h).0

  pub write_stands : ready_at s Write ≡ true → stands s ≡ true
  write_stands h = (and_parts s.tables.alive s.tables.handed h).0

  -- a life may begin where none stands
  pub begin_down : ready_at s Begin ≡ not (stands s)
  begin_down = refl

  -- where no life stands, only a life may begin
  pub dead_idle : stands s ≡ false → Rests s → (lane : Lane) → ready_at s lane ≡ true → lane ≡ Begin
  dead_idle dead rests Client h = absurd (let x = rw dead at h in cc)
  dead_idle dead rests Master h = absurd (let x = rw dead at h in cc)
  dead_idle dead rests Node h = absurd (let x = rw dead at h in cc)
  dead_idle dead rests Clock h = absurd (let x = rw dead at h in cc)
  dead_idle dead rests Main h = absurd (let x = rw (rests.idle dead).0 at h in cc)
  dead_idle dead rests Sched h = absurd (let x = rw (rests.idle dead).1 at h in cc)
  dead_idle dead rests Hand h = absurd (let x = rw dead at h in cc)
  dead_idle dead rests Write h = absurd (let x = rw dead at h in cc)
  dead_idle dead rests End h = absurd (let x = rw dead at h in cc)
  dead_idle dead rests Begin h = refl

  -- an operation is with the store where the lane of the store is ready
  pub handed_ready : (op : Op) → handed_of s ≡ Some op → ready_at s Write ≡ true
  handed_ready op h = some_if (s.tables.alive && s.tables.handed) _ op h

  -- a segment may settle where nothing is left to do
  pub end_rests : ready_at s End ≡ true → Rests s → has_rest s
  end_rests ready rests =
      let t = s.tables in
      let parts = and_parts t.alive (is_nil t.main && (is_nil t.sched && is_nil t.awaiting)) ready in
      let queues = and_parts (is_nil t.main) (is_nil t.sched && is_nil t.awaiting) parts.1 in
      let lists = and_parts (is_nil t.sched) (is_nil t.awaiting) queues.1 in
      let main = nil_is t.main queues.0 in
      let sched = nil_is t.sched lists.0 in
      let awaiting = nil_is t.awaiting lists.1 in
      (main, sched, awaiting, (rests.left main sched (λ a. awaiting)).none_handed parts.0)

  -- where and_parts may be, nothing is left to do in a life that stands
  pub both_rest : ready_at s End ≡ true → can_go_down s ≡ true → (stands s ≡ true) × has_rest s
  both_rest ready down =
      let t = s.tables in
      let parts = and_parts t.alive (is_nil t.main && (is_nil t.sched && is_nil t.awaiting)) ready in
      let queues = and_parts (is_nil t.main) (is_nil t.sched && is_nil t.awaiting) parts.1 in
      let lists = and_parts (is_nil t.sched) (is_nil t.awaiting) queues.1 in
      (parts.0, (nil_is t.main queues.0, nil_is t.sched lists.0, nil_is t.awaiting lists.1, not-true t.handed (and_parts t.alive (not t.handed) down).1))

  -- where nothing is left to do in a life that stands, it may settle or go down, and it is open
  pub rest_ends : stands s ≡ true → has_rest s → ready_at s End ≡ true
  rest_ends alive h = rw (alive, h.0, h.1, h.2) refl

  pub rest_down : stands s ≡ true → has_rest s → can_go_down s ≡ true
  rest_down alive h = rw (alive, h.3) refl

  pub rest_open : stands s ≡ true → has_rest s → Rests s → ready_at s Client ≡ true
  rest_open alive h rests = rw (alive, (rests.left h.0 h.1 (λ a. h.2)).is_open alive) refl

  -- and none of the lanes of its work is ready
  pub rest_idle : has_rest s → (lane : Lane) → IsWork lane → ready_at s lane ≡ true → ⊥
  rest_idle h Main work ready = let none = h.0 in let x = rw none at ready in cc
  rest_idle h Sched work ready = let none = h.1 in let x = rw none at ready in cc
  rest_idle h Hand work ready =
      let t = s.tables in
      let none = h.2 in
      let some = (and_parts (not (is_nil t.awaiting)) (not t.handed && not t.blown) (and_parts t.alive (not (is_nil t.awaiting) && (not t.handed && not t.blown)) ready).1).0 in
      let x = rw none at some in
      cc
  rest_idle h Write work ready = let handed = (and_parts s.tables.alive s.tables.handed ready).1 in let none = h.3 in cc
  rest_idle h Client work ready = absurd work
  rest_idle h Master work ready = absurd work
  rest_idle h Node work ready = absurd work
  rest_idle h Clock work ready = absurd work
  rest_idle h End work ready = absurd work
  rest_idle h Begin work ready = absurd work

  -- where none of them is ready in a life that stands, of which no operation was refused, nothing is left to do
  pub idle_rests : stands s ≡ true → is_blown s ≡ false → Rests s → ready_at s Main ≡ false → ready_at s Sched ≡ false → ready_at s Hand ≡ false → ready_at s Write ≡ false → has_rest s
  idle_rests alive unblown rests main sched hand write =
      let t = s.tables in
      let handed : t.handed ≡ false = rw alive at write in
      let awaits : not (is_nil t.awaiting) ≡ false = by (not (is_nil t.awaiting)) refl (rw (alive, handed, unblown) at hand) in
      (nil_unless t.main main, nil_unless t.sched sched, nil_unless t.awaiting awaits, handed)
    where
      by : (b : Bool) → not (is_nil s.tables.awaiting) ≡ b → (b && true) ≡ false → not (is_nil s.tables.awaiting) ≡ false
      by true e h = cc
      by false e h = e

  -- a life of which one was refused may go down where the store's lane isn't ready, and serves
  pub blown_down : stands s ≡ true → ready_at s Write ≡ false → can_go_down s ≡ true
  blown_down alive write = let handed : s.tables.handed ≡ false = rw alive at write in rw (alive, handed) refl

  pub blown_serves : stands s ≡ true → is_blown s ≡ true → ready_at s Client ≡ true
  blown_serves alive blown = rw (alive, blown) (or_true s.tables.is_open)

  -- nothing is owed there
  pub rest_owes : has_rest s → Rests s → (opening : List Op) → StandsFor opening s → IsAtRest s.settings (state_after opening s.log) (state_after opening s.log).life
  rest_owes h rests = (rests.left h.0 h.1 (λ a. h.2)).at_rest

  module _ (opening : List Op) (k : StandsFor opening s) where
    -- a life that stands does so in the state after the log, and was blown there where an operation was refused
    pub life_stands : stands s ≡ true → HasBlown (is_blown s) (state_after opening s.log).life
    life_stands alive = let told = told_life s opening k alive in subst (HasBlown (is_blown s)) (sym told.is) told.blown

    pub life_blew : stands s ≡ false → (state_after opening s.log).blew ≡ is_blown s
    life_blew dead = told_blew s opening k dead

    -- an operation that is with the store is so there
    pub life_handed : ready_at s Write ≡ true → HasHanded (state_after opening s.log).life
    life_handed ready =
        let parts = and_parts s.tables.alive s.tables.handed ready in
        let told = told_life s opening k parts.0 in
        subst HasHanded (sym told.is) (told.handed ∙ parts.1)

    -- and where none stands, none does there
    pub life_none : stands s ≡ false → (state_after opening s.log).life ≡ None
    life_none dead = told_none s opening k dead

-- what stays as it was has nothing left to do
pub rest_stays : (old new : Seen) → new.tables ≡ old.tables → has_rest old → has_rest new
rest_stays old new same h = rw same h
