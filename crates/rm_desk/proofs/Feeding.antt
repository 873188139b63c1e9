-- The messages of a segment, by their senders.
use Rattle.std.proofs.Common.{◌≡◌, ◌+◌, List, [], ◌∷◌, Bool, true, false, Option, Some, length, refl, arith}
use Rattle.rm_types.specs.declared.entries.Entry.{Entry}
use Rattle.rm_types.specs.declared.messages.Lane.TheVariants as lanes
use Rattle.rm_types.specs.declared.messages.Message.{Message}
use Rattle.rm_types.specs.declared.messages.Sender.{Sender}
use Rattle.rm_types.specs.declared.messages.Sender.TheVariants as senders
use Rattle.rm_types.specs.declared.scripts.Close.{Close}
use Rattle.rm_types.specs.Lanes.{feed_lane, sender_of}
use Rattle.rm_model.specs.Place.{first_from, is_from, without_first}
use Rattle.rm_core.specs.Seen.{Seen}
use Rattle.rm_core.specs.Words.{IsServable, ready_at}
use Rattle.rm_desk.specs.Effects.{Answers, IsEntryOf}
use Rattle.rm_desk.specs.Lanes.{IsWork, life_goes_on}
use Rattle.rm_desk.specs.Scripts.{AllServed}
use Rattle.rm_desk.specs.View.{DeskView}
use Rattle.rm_desk.proofs.Senders.{own_sender}

module _ (sender : Sender) (m : Message) where
  -- the first message of a sender's feed is that sender's
  found_is : (list : List Message) → first_from sender list ≡ Some m → is_from sender m ≡ true
  found_is [] e = cc
  found_is (one ∷ more) e = by (is_from sender one) refl (found_is more)
    where
      by : (b : Bool) → is_from sender one ≡ b → (first_from sender more ≡ Some m → is_from sender m ≡ true) → is_from sender m ≡ true
      by true h rest = let f : Some one ≡ Some m = rw h at e in let same : one ≡ m = cc in rw (← same) h
      by false h rest = rest (rw h at e)

  pub found_sender : (list : List Message) → first_from sender list ≡ Some m → sender_of m ≡ sender
  found_sender list e = own_sender sender m (found_is list e)

  -- one less is left without it
  pub one_less : (list : List Message) → first_from sender list ≡ Some m → length (without_first sender list) + 1 ≡ length list
  one_less [] e = cc
  one_less (one ∷ more) e = by (is_from sender one) refl (one_less more)
    where
      by : (b : Bool) → is_from sender one ≡ b → (first_from sender more ≡ Some m → length (without_first sender more) + 1 ≡ length more) → length (without_first sender (one ∷ more)) + 1 ≡ length (one ∷ more)
      by true h rest = rw (h, without_first) (omega arith)
      by false h rest = let r = rest (rw h at e) in rw (h, without_first) (omega (arith, r))

  -- it can be served, where each can
  pub served_found : (list : List Message) → AllServed list → first_from sender list ≡ Some m → IsServable m
  served_found [] all e = cc
  served_found (one ∷ more) all e = by (is_from sender one) refl (served_found more all.1)
    where
      by : (b : Bool) → is_from sender one ≡ b → (first_from sender more ≡ Some m → IsServable m) → IsServable m
      by true h rest = let f : Some one ≡ Some m = rw h at e in let same : one ≡ m = cc in rw (← same) all.0
      by false h rest = rest (rw h at e)

-- and so can each of the others
pub served_without : (sender : Sender) (list : List Message) → AllServed list → AllServed (without_first sender list)
served_without sender [] all = tt
served_without sender (one ∷ more) all = by (is_from sender one) refl (served_without sender more all.1)
  where
    by : (b : Bool) → is_from sender one ≡ b → AllServed (without_first sender more) → AllServed (without_first sender (one ∷ more))
    by true h rest = rw (h, without_first) all.1
    by false h rest = rw (h, without_first) (all.0, rest)

-- THE LANES OF FEEDS

-- they are ready alike, as far as the manager can tell
pub feed_ready : (sender : Sender) (core : Seen) → ready_at core (feed_lane sender) ≡ ready_at core lanes.Client
feed_ready senders.Client core = refl
feed_ready senders.Master core = refl
feed_ready senders.Node core = refl
feed_ready senders.Clock core = refl

-- none is one of the manager's own work, or closes a segment
pub no_work : (sender : Sender) → IsWork (feed_lane sender) → ⊥
no_work senders.Client work = work
no_work senders.Master work = work
no_work senders.Node work = work
no_work senders.Clock work = work

pub not_end : (sender : Sender) → feed_lane sender ≡ lanes.End → ⊥
not_end senders.Client e = cc
not_end senders.Master e = cc
not_end senders.Node e = cc
not_end senders.Clock e = cc

pub stands_on : (sender : Sender) (close : Option Close) → life_goes_on (feed_lane sender) close ≡ true
stands_on senders.Client close = refl
stands_on senders.Master close = refl
stands_on senders.Node close = refl
stands_on senders.Clock close = refl

-- an answer is the entry of its sender's lane
pub answers_entry : (sender : Sender) (d : DeskView) (e : Entry) → Answers sender d e → IsEntryOf (feed_lane sender) d e
answers_entry senders.Client d e is = is
answers_entry senders.Master d e is = is
answers_entry senders.Node d e is = is
answers_entry senders.Clock d e is = is
