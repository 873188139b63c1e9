-- Moving a cursor on takes the first message of its sender, and leaves the others.
use Rattle.std.proofs.Common.{◌≡◌, ℕ, ◌+◌, ◌<◌, ◌≤◌, zero, suc, Bool, true, false, List, [], ◌∷◌, length, drop, ltb, None, Some, refl, sym, ◌∙◌, ap, arith}
use Rattle.std.specs.Prelude.{slice_get, find}
use Rattle.std.proofs.lemmas.Bool.{ltb-true, ltb-false}
use Rattle.std.proofs.lemmas.Option.{slice_get_past}
use Rattle.std.proofs.lemmas.List.{length-drop, drop-drop}
use Rattle.rm_types.specs.declared.messages.Message.{Message}
use Rattle.rm_types.specs.declared.messages.Sender.{Sender}
use Rattle.rm_model.specs.Place.{is_from, first_from, without_first}
use Rattle.rm_desk.specs.declared.cursors.Cursors.{Cursors}
use Rattle.rm_desk.specs.Left.{cursor_of, with_cursor, steps_to, left_from, unsent, PointsRight}
use Rattle.rm_types.specs.Lanes.{sender_of}
use Rattle.rm_desk.proofs.Senders.{from_own, own_sender, moved_own, moved_others, moved_all}
use Rattle.rm_desk.proofs.Firsts.{steps_here, steps_on, steps_within, steps_done, left_taken, left_kept, first_left}

-- where no cursor has passed the first of its sender, all are left
pub all_left_from : (cursor : Sender → ℕ) (place : ℕ) (messages : List Message) → ((sender : Sender) → cursor sender ≤ place + steps_to sender messages) → left_from cursor place messages ≡ messages
all_left_from cursor place [] none = refl
all_left_from cursor place (message ∷ more) none =
    let here = steps_here (sender_of message) message more (from_own message) in
    let low : cursor (sender_of message) ≤ place = omega (arith, none (sender_of message)) in
    left_kept cursor place message more low ∙ ap (λ (rest : List Message). message ∷ rest) (all_left_from cursor (place + 1) more next)
  where
    next : (sender : Sender) → cursor sender ≤ (place + 1) + steps_to sender more
    next sender = by (is_from sender message) refl where
      by : (b : Bool) → is_from sender message ≡ b → cursor sender ≤ (place + 1) + steps_to sender more
      by true e = omega (arith, none sender, steps_here sender message more e)
      by false e = omega (arith, none sender, steps_on sender message more e)

-- where two runs of cursors agree but on a sender, and neither has passed a message of that sender, the same is left
pub same_left_from : (sender : Sender) (one other : Sender → ℕ) (place : ℕ) (messages : List Message) → one sender ≤ place + steps_to sender messages → other sender ≤ place + steps_to sender messages → ((message : Message) → is_from sender message ≡ false → one (sender_of message) ≡ other (sender_of message)) → left_from one place messages ≡ left_from other place messages
same_left_from sender one other place [] low also same = refl
same_left_from sender one other place (message ∷ more) low also same = by (is_from sender message) refl (λ l a. same_left_from sender one other (place + 1) more l a same) where
  by : (b : Bool) → is_from sender message ≡ b → (one sender ≤ (place + 1) + steps_to sender more → other sender ≤ (place + 1) + steps_to sender more → left_from one (place + 1) more ≡ left_from other (place + 1) more) → left_from one place (message ∷ more) ≡ left_from other place (message ∷ more)
  by true e more_same =
      let own = own_sender sender message e in
      let first = ap one own in
      let second = ap other own in
      let here = steps_here sender message more e in
      let kept = left_kept one place message more (omega arith) in
      let still = left_kept other place message more (omega arith) in
      let rest = more_same (omega arith) (omega arith) in
      kept ∙ ap (λ (r : List Message). message ∷ r) rest ∙ sym still
  by false e more_same =
      let on = steps_on sender message more e in
      let rest = more_same (omega arith) (omega arith) in
      let at = same message e in
      each on rest at (ltb place (other (sender_of message))) refl
    where
      each : steps_to sender (message ∷ more) ≡ steps_to sender more + 1 → left_from one (place + 1) more ≡ left_from other (place + 1) more → one (sender_of message) ≡ other (sender_of message) → (gone : Bool) → ltb place (other (sender_of message)) ≡ gone → left_from one place (message ∷ more) ≡ left_from other place (message ∷ more)
      each on rest at true t =
          let below = ltb-true place (other (sender_of message)) t in
          left_taken one place message more (omega arith) ∙ rest ∙ sym (left_taken other place message more below)
      each on rest at false t =
          let past = ltb-false place (other (sender_of message)) t in
          left_kept one place message more (omega arith) ∙ ap (λ (r : List Message). message ∷ r) rest ∙ sym (left_kept other place message more past)

-- without the first of a sender that begins a list, the rest is left
pub without_here : (sender : Sender) (message : Message) (more : List Message) → is_from sender message ≡ true → without_first sender (message ∷ more) ≡ more
without_here sender message more e = rw (e, without_first) refl

-- one of another sender stays
pub without_on : (sender : Sender) (message : Message) (more : List Message) → is_from sender message ≡ false → without_first sender (message ∷ more) ≡ message ∷ without_first sender more
without_on sender message more e = rw (e, without_first) refl

-- moving the cursor from a message of its sender to the next takes that message alone
pub taken_from : (sender : Sender) (old moved : Sender → ℕ) (place far : ℕ) (messages : List Message) → old sender ≡ place + far → far < length messages → steps_to sender (drop far messages) ≡ 0 → moved sender ≡ place + suc far + steps_to sender (drop (suc far) messages) → ((message : Message) → is_from sender message ≡ false → moved (sender_of message) ≡ old (sender_of message)) → left_from moved place messages ≡ without_first sender (left_from old place messages)
taken_from sender old moved place far [] at within own to same = absurd (omega arith)
taken_from sender old moved place zero (message ∷ more) at within own to same = by (is_from sender message) refl where
  by : (b : Bool) → is_from sender message ≡ b → left_from moved place (message ∷ more) ≡ without_first sender (left_from old place (message ∷ more))
  by true e =
      let is_own = own_sender sender message e in
      let before = ap old is_own in
      let after = ap moved is_own in
      let kept = left_kept old place message more (omega arith) in
      let taken = left_taken moved place message more (omega arith) in
      let rest = same_left_from sender moved old (place + 1) more (omega arith) (omega arith) same in
      let first = without_here sender message (left_from old (place + 1) more) e in
      rw (kept, first) (taken ∙ rest)
  by false e = absurd (omega (arith, steps_on sender message more e))
taken_from sender old moved place (suc far) (message ∷ more) at within own to same = by (is_from sender message) refl (taken_from sender old moved (place + 1) far more (omega arith) (omega arith) own (omega arith) same) where
  by : (b : Bool) → is_from sender message ≡ b → left_from moved (place + 1) more ≡ without_first sender (left_from old (place + 1) more) → left_from moved place (message ∷ more) ≡ without_first sender (left_from old place (message ∷ more))
  by true e h =
      let is_own = own_sender sender message e in
      let before = ap old is_own in
      let after = ap moved is_own in
      let gone = left_taken old place message more (omega arith) in
      let taken = left_taken moved place message more (omega arith) in
      rw (gone, taken) h
  by false e h = each (same message e) (ltb place (old (sender_of message))) refl where
    each : moved (sender_of message) ≡ old (sender_of message) → (gone : Bool) → ltb place (old (sender_of message)) ≡ gone → left_from moved place (message ∷ more) ≡ without_first sender (left_from old place (message ∷ more))
    each at true t =
        let below = ltb-true place (old (sender_of message)) t in
        let was = left_taken old place message more below in
        rw was (left_taken moved place message more (omega arith) ∙ h)
    each at false t =
        let past = ltb-false place (old (sender_of message)) t in
        let was = left_kept old place message more past in
        let others = without_on sender message (left_from old (place + 1) more) e in
        rw (was, others) (left_kept moved place message more (omega arith) ∙ ap (λ (r : List Message). message ∷ r) h)

-- without a message of the sender, its first is no message
pub none_first : (sender : Sender) (messages : List Message) → first_from sender messages ≡ None → without_first sender messages ≡ messages
none_first sender [] e = refl
none_first sender (message ∷ more) none = by (is_from sender message) refl (none_first sender more) where
  by : (b : Bool) → is_from sender message ≡ b → (first_from sender more ≡ None → without_first sender more ≡ more) → without_first sender (message ∷ more) ≡ message ∷ more
  by true e h = let some = rw (e, find) at none in cc
  by false e h = let still = rw (e, find) at none in without_on sender message more e ∙ ap (λ (r : List Message). message ∷ r) (h still)

-- what is left from the place of an item on
pub drop_got : {X : Type 0} (xs : List X) (place : ℕ) (x : X) → slice_get xs place ≡ Some x → drop place xs ≡ x ∷ drop (place + 1) xs
drop_got [] place x e = cc
drop_got (one ∷ xs) zero x e = let same : one ≡ x = cc in ap (λ y. y ∷ xs) same
drop_got (one ∷ xs) (suc place) x e = let n : suc place + 1 ≡ suc (place + 1) = omega arith in rw n (drop_got xs place x e)

-- the cursors at the first messages leave all
pub all_left : (cursors : Cursors) (messages : List Message) → ((sender : Sender) → cursor_of cursors sender ≡ 0 + steps_to sender messages) → unsent cursors messages ≡ messages
all_left cursors messages at = all_left_from (cursor_of cursors) 0 messages (λ sender. omega (arith, at sender))

-- and point right
pub points_first : (cursors : Cursors) (messages : List Message) → ((sender : Sender) → cursor_of cursors sender ≡ 0 + steps_to sender messages) → PointsRight cursors messages
points_first cursors messages at = record { within = λ sender. omega (arith, at sender, steps_within sender messages); own = own } where
  own : (sender : Sender) → steps_to sender (drop (cursor_of cursors sender) messages) ≡ 0
  own sender = let e : cursor_of cursors sender ≡ steps_to sender messages = omega (arith, at sender) in rw e (steps_done sender messages)

-- a cursor that is moved to the next message of its sender takes the first
pub taken : (sender : Sender) (place : ℕ) (cursors : Cursors) (messages : List Message) → PointsRight cursors messages → cursor_of cursors sender < length messages → place ≡ (cursor_of cursors sender + 1) + steps_to sender (drop (cursor_of cursors sender + 1) messages) → unsent (with_cursor sender place cursors) messages ≡ without_first sender (unsent cursors messages)
taken sender place cursors messages right within at =
    let more : cursor_of cursors sender + 1 ≡ suc (cursor_of cursors sender) = omega arith in
    let to = rw more at at in
    let there = moved_own sender place cursors in
    taken_from sender (cursor_of cursors) (cursor_of (with_cursor sender place cursors)) 0 (cursor_of cursors sender) messages (omega arith) within (right.own sender) (omega arith) (moved_others sender place cursors)

-- it points right
pub points_next : (sender : Sender) (place : ℕ) (cursors : Cursors) (messages : List Message) → PointsRight cursors messages → cursor_of cursors sender < length messages → place ≡ (cursor_of cursors sender + 1) + steps_to sender (drop (cursor_of cursors sender + 1) messages) → PointsRight (with_cursor sender place cursors) messages
points_next sender place cursors messages right within at = record { within = moved_all (λ each p. p ≤ length messages) sender place cursors low right.within; own = moved_all (λ each p. steps_to each (drop p messages) ≡ 0) sender place cursors none right.own } where
  low : place ≤ length messages
  low = omega (arith, at, within, steps_within sender (drop (cursor_of cursors sender + 1) messages), length-drop (cursor_of cursors sender + 1) messages)

  none : steps_to sender (drop place messages) ≡ 0
  none = rw (at, ← drop-drop (steps_to sender (drop (cursor_of cursors sender + 1) messages)) (cursor_of cursors sender + 1) messages) (steps_done sender (drop (cursor_of cursors sender + 1) messages))

-- where the cursor is at the end, there is no message of its sender to take
pub none_to_take : (sender : Sender) (cursors : Cursors) (messages : List Message) → PointsRight cursors messages → length messages ≤ cursor_of cursors sender → without_first sender (unsent cursors messages) ≡ unsent cursors messages
none_to_take sender cursors messages right past = none_first sender (unsent cursors messages) (first_left sender cursors messages right ∙ slice_get_past messages (cursor_of cursors sender) past)
