-- A log that is allowed follows the script that it spells.
use Rattle.std.proofs.Common.{◌≡◌, ◌≢◌, ◌+◌, ◌++◌, ℕ, List, [], ◌∷◌, Bool, true, false, Option, None, Some, max, refl, sym, ◌∙◌, subst, arith}
use Rattle.std.proofs.lemmas.Bool.{false≢true}
use Rattle.rm_types.specs.declared.entries.Entry.{Entry}
use Rattle.rm_types.specs.declared.entries.Entry.TheVariants.{Blown, Down, Handed, Issued, Kept, Opened, Served, Settled}
use Rattle.rm_types.specs.declared.messages.Message.{Message}
use Rattle.rm_types.specs.declared.messages.Message.TheVariants as messages
use Rattle.rm_types.specs.declared.messages.Sender.{Sender}
use Rattle.rm_types.specs.declared.operations.Op.{Op}
use Rattle.rm_types.specs.declared.scripts.Close.{Close}
use Rattle.rm_types.specs.declared.scripts.Close.TheVariants.{Crash}
use Rattle.rm_types.specs.declared.settings.Settings.{Settings}
use Rattle.rm_types.specs.Lanes.{sender_of}
use Rattle.rm_types.specs.Records.{records}
use Rattle.rm_model.specs.Changes.{after, after_where, kept_after_landing}
use Rattle.rm_model.specs.Lawful.{AllAllowed, Follows, Lawful}
use Rattle.rm_model.specs.Place.{IsNext, Place, is_from, moved, without_first}
use Rattle.rm_model.specs.Rules.{AllowedWhere}
use Rattle.rm_model.specs.State.{LifeState, Manager, opening_state, scene}
use Rattle.rm_model.proofs.Served.{of_issued, of_served}
use Rattle.rm_core.specs.Spelled.{first_segment, spelled_lives, more_in, spelled}

-- after how many calls the life is blown, where it is; a life that begins isn't
abbrev blown_after : Option ℕ → Entry → Option ℕ
blown_after blown (Opened landed epoch stamp) = None
blown_after blown (Blown passed) = Some passed
blown_after blown _ = blown

-- how the segment closes that a life is in, by how the rest of the log closes it: where the life is blown already, that doesn't tell
abbrev closed_at : Option ℕ → Close → Close
closed_at None close = close
closed_at (Some passed) close = Crash passed 0

-- the place where this is left of the log, by the life that stands, if one does, and by after how many calls it is blown
abbrev place_at : Option LifeState → Option ℕ → List Entry → Place
place_at None blown log = record { lives = spelled_lives log; segments = [] }
place_at (Some life) blown log =
    record { lives = spelled_lives log; segments = record (first_segment log) { close = closed_at blown (first_segment log).close } ∷ more_in log }

-- what holds of a life, by what awaits, whether an operation is with the store, and whether the life is blown: what is with the store
-- awaits; and in a blown life something awaits while nothing is with the store, so that no more is kept and no segment settles
abbrev HandedAwaits : Option ℕ → List Op → Bool → Bool → Type 0
HandedAwaits None awaiting handed blown = handed ≡ true → awaiting ≢ []
HandedAwaits (Some passed) awaiting handed blown = (awaiting ≢ []) × (handed ≡ false) × (blown ≡ true)

-- it holds of the life that stands, if one does
abbrev HoldsIn : Manager → Option LifeState → Option ℕ → Type 0
HoldsIn s None blown = Unit {0}
HoldsIn s (Some life) blown = HandedAwaits blown s.awaiting life.handed life.blown

-- where one more awaits, some await
some_await : (ops : List Op) (op : Op) → ops ++ op ∷ [] ≢ []
some_await [] op none = absurd (cc)
some_await (first ∷ ops) op none = absurd (cc)

one_more : (blown : Option ℕ) (awaiting : List Op) (op : Op) (handed is_blown : Bool) → HandedAwaits blown awaiting handed is_blown → HandedAwaits blown (awaiting ++ op ∷ []) handed is_blown
one_more None awaiting op handed is_blown h = λ is. some_await awaiting op
one_more (Some passed) awaiting op handed is_blown h = (some_await awaiting op, h.1, h.2)

-- a message is of the sender as whose it is served
own_message : (sender : Sender) (m : Message) → sender ≡ sender_of m → is_from sender m ≡ true
own_message sender m is = subst (λ (x : Sender). is_from x m ≡ true) (sym is) (by m)
  where
    by : (m : Message) → is_from (sender_of m) m ≡ true
    by (messages.Client user ask) = refl
    by (messages.Master attempt ask) = refl
    by (messages.Node name ask) = refl
    by (messages.Clock ask) = refl

module _ (settings : Settings) where
  -- what holds of the life that stands holds on behind each entry that is allowed
  holds_after : (e : Entry) (s : Manager) (o : Option LifeState) (blown : Option ℕ) → HoldsIn s o blown → AllowedWhere settings s o e → HoldsIn (after_where s o e) (after_where s o e).life (blown_after blown e)
  holds_after (Opened landed epoch stamp) s None blown h may = λ handed. absurd (false≢true handed)
  holds_after _ s None blown h may = absurd may
  holds_after (Opened landed epoch stamp) s (Some life) blown h may = absurd may
  holds_after (Issued op) s (Some life) blown h may = of_issued (HandedAwaits blown (s.awaiting ++ op ∷ [])) (scene s life) op (one_more blown s.awaiting op _ _ h)
  holds_after Handed s (Some life) None h may = λ handed. may.some_awaits
  holds_after Handed s (Some life) (Some passed) h may = absurd (false≢true (sym may.not_blown ∙ h.2))
  holds_after (Kept op) s (Some life) None h may = λ handed. absurd (false≢true handed)
  holds_after (Kept op) s (Some life) (Some passed) h may = absurd (false≢true (sym h.1 ∙ may.handed))
  holds_after (Blown passed) s (Some life) None h may = (h may.handed, refl, refl)
  holds_after (Blown passed) s (Some life) (Some before) h may = absurd (false≢true (sym h.1 ∙ may.handed))
  holds_after (Served sender message reply) s (Some life) blown h may = of_served (HandedAwaits blown s.awaiting) (scene s life) message reply h
  holds_after Down s (Some life) blown h may = tt
  holds_after _ s (Some life) blown h may = h

  -- each entry is what the script says next, and the script goes on behind it
  step : (e : Entry) (log : List Entry) (s : Manager) (o : Option LifeState) (blown : Option ℕ) → HoldsIn s o blown → AllowedWhere settings s o e
      → Follows (after_where s o e) (place_at (after_where s o e).life (blown_after blown e) log) log
      → IsNext s (place_at o blown (e ∷ log)) e × Follows (after_where s o e) (moved (place_at o blown (e ∷ log)) e) log
  step (Opened landed epoch stamp) log s None blown h may rest =
      let rises = may.rises in
      let stamped : stamp ≡ max stamp ((records (kept_after_landing s landed)).stamp + 1) = omega (arith, rises) in
      (record { life = record { stamp = stamp; segments = first_segment log ∷ more_in log }; more = spelled_lives log; next = refl; at_end = refl; stamped = stamped }, rest)
  step _ log s None blown h may rest = absurd may
  step (Opened landed epoch stamp) log s (Some life) blown h may rest = absurd may
  step (Served sender message reply) log s (Some life) blown h may rest =
      let own : is_from sender message ≡ true = own_message sender message may.of_sender in
      (rw own refl, rw (own, without_first) rest)
  step (Blown passed) log s (Some life) None h may rest = (record { image = 0; closes = refl }, rest)
  step (Blown passed) log s (Some life) (Some before) h may rest = absurd (false≢true (sym h.1 ∙ may.handed))
  step Settled log s (Some life) None h may rest = (record { none_left = refl; closes = refl }, rest)
  step Settled log s (Some life) (Some passed) h may rest = absurd (h.0 may.none_awaits)
  step Down log s (Some life) None h may rest = (record { none_left = refl; calls = 0; image = 0; closes = refl }, rest)
  step Down log s (Some life) (Some passed) h may rest = (record { none_left = refl; calls = passed; image = 0; closes = refl }, rest)
  step _ log s (Some life) blown h may rest = (tt, rest)

  -- a log that is allowed is along what it spells
  follows : (log : List Entry) (s : Manager) (blown : Option ℕ) → HoldsIn s s.life blown → AllAllowed settings s log → Follows s (place_at s.life blown log) log
  follows [] s blown h allowed = tt
  follows (e ∷ log) s blown h allowed =
      step e log s s.life blown h allowed.0 (follows log (after s e) (blown_after blown e) (holds_after e s s.life blown h allowed.0) allowed.1)

  pub spelled_lawful : (opening : List Op) (log : List Entry) → AllAllowed settings (opening_state opening) log → Lawful settings (spelled log) opening log
  spelled_lawful opening log allowed = record { allowed = allowed; along = follows log (opening_state opening) None tt allowed }
