-- The first message that is left of a sender is the one at its cursor.
use Rattle.std.proofs.Common.{◌≡◌, ℕ, ◌+◌, ◌<◌, ◌≤◌, zero, suc, Bool, true, false, List, [], ◌∷◌, length, drop, ltb, Some, refl, sym, ◌∙◌, ap, arith}
use Rattle.std.specs.Prelude.{slice_get, is_some, find}
use Rattle.std.proofs.lemmas.Bool.{lt-ltb, le-ltb, ltb-true, ltb-false}
use Rattle.rm_types.specs.declared.messages.Message.{Message}
use Rattle.rm_types.specs.declared.messages.Sender.{Sender}
use Rattle.rm_model.specs.Place.{is_from, first_from}
use Rattle.rm_desk.specs.declared.cursors.Cursors.{Cursors}
use Rattle.rm_desk.specs.Left.{cursor_of, steps_to, left_from, unsent, PointsRight}
use Rattle.rm_types.specs.Lanes.{sender_of}
use Rattle.rm_desk.proofs.Senders.{own_sender}

-- no message stands before the first of a sender where that is the first of all
pub steps_here : (sender : Sender) (message : Message) (more : List Message) → is_from sender message ≡ true → steps_to sender (message ∷ more) ≡ 0
steps_here sender message more e = rw (e, steps_to) refl

-- and one more stands before it where it isn't
pub steps_on : (sender : Sender) (message : Message) (more : List Message) → is_from sender message ≡ false → steps_to sender (message ∷ more) ≡ steps_to sender more + 1
steps_on sender message more e = rw (e, steps_to) refl

-- there are as many messages as stand before one of them, at least
pub steps_within : (sender : Sender) (messages : List Message) → steps_to sender messages ≤ length messages
steps_within sender [] = omega arith
steps_within sender (message ∷ more) = by (is_from sender message) refl (steps_within sender more) where
  by : (b : Bool) → is_from sender message ≡ b → steps_to sender more ≤ length more → steps_to sender (message ∷ more) ≤ length (message ∷ more)
  by true e h = let s = steps_here sender message more e in omega arith
  by false e h = let s = steps_on sender message more e in omega arith

-- none stands before the first of a sender from its place on
pub steps_done : (sender : Sender) (messages : List Message) → steps_to sender (drop (steps_to sender messages) messages) ≡ 0
steps_done sender [] = refl
steps_done sender (message ∷ more) = by (is_from sender message) refl (steps_done sender more) where
  by : (b : Bool) → is_from sender message ≡ b → steps_to sender (drop (steps_to sender more) more) ≡ 0 → steps_to sender (drop (steps_to sender (message ∷ more)) (message ∷ more)) ≡ 0
  by true e h = let s = steps_here sender message more e in rw s s
  by false e h = let s : steps_to sender (message ∷ more) ≡ suc (steps_to sender more) = omega (arith, steps_on sender message more e) in rw s h

-- a message that is taken isn't left
pub left_taken : (cursor : Sender → ℕ) (place : ℕ) (message : Message) (more : List Message) → place < cursor (sender_of message) → left_from cursor place (message ∷ more) ≡ left_from cursor (place + 1) more
left_taken cursor place message more h = let e = lt-ltb place (cursor (sender_of message)) h in rw (e, left_from) refl

-- and one that isn't is
pub left_kept : (cursor : Sender → ℕ) (place : ℕ) (message : Message) (more : List Message) → cursor (sender_of message) ≤ place → left_from cursor place (message ∷ more) ≡ message ∷ left_from cursor (place + 1) more
left_kept cursor place message more h = let e = le-ltb place (cursor (sender_of message)) h in rw (e, left_from) refl

-- the first of a sender is at its cursor, so many messages further on
pub first_left_from : (sender : Sender) (cursor : Sender → ℕ) (place far : ℕ) (messages : List Message) → cursor sender ≡ place + far → far ≤ length messages → steps_to sender (drop far messages) ≡ 0 → first_from sender (left_from cursor place messages) ≡ slice_get messages far
first_left_from sender cursor place far [] at within own = refl
first_left_from sender cursor place zero (message ∷ more) at within own = by (is_from sender message) refl where
  by : (b : Bool) → is_from sender message ≡ b → first_from sender (left_from cursor place (message ∷ more)) ≡ Some message
  by true e =
      let same = ap cursor (own_sender sender message e) in
      let kept = left_kept cursor place message more (omega arith) in
      rw (kept, find, e) refl
  by false e = absurd (omega (arith, steps_on sender message more e))
first_left_from sender cursor place (suc far) (message ∷ more) at within own = by (is_from sender message) refl (ltb place (cursor (sender_of message))) refl (first_left_from sender cursor (place + 1) far more (omega arith) (omega arith) own) where
  by : (b : Bool) → is_from sender message ≡ b → (taken : Bool) → ltb place (cursor (sender_of message)) ≡ taken → first_from sender (left_from cursor (place + 1) more) ≡ slice_get more far → first_from sender (left_from cursor place (message ∷ more)) ≡ slice_get more far
  by b e true t h = let taken = left_taken cursor place message more (ltb-true place (cursor (sender_of message)) t) in rw taken h
  by true e false t h =
      let same = ap cursor (own_sender sender message e) in
      absurd (omega (arith, ltb-false place (cursor (sender_of message)) t))
  by false e false t h = let kept = left_kept cursor place message more (ltb-false place (cursor (sender_of message)) t) in rw (kept, find, e) h

-- the first that is left of a sender is the message at its cursor
pub first_left : (sender : Sender) (cursors : Cursors) (messages : List Message) → PointsRight cursors messages → first_from sender (unsent cursors messages) ≡ slice_get messages (cursor_of cursors sender)
first_left sender cursors messages right = first_left_from sender (cursor_of cursors) 0 (cursor_of cursors sender) messages (omega arith) (right.within sender) (right.own sender)

-- there is an item at a place below the length alone
pub some_within : {X : Type 0} (xs : List X) (place : ℕ) → is_some (slice_get xs place) ≡ ltb place (length xs)
some_within [] zero = sym (le-ltb 0 0 (omega arith))
some_within [] (suc place) = sym (le-ltb (suc place) 0 (omega arith))
some_within (x ∷ xs) zero = sym (lt-ltb 0 (length (x ∷ xs)) (omega arith))
some_within (x ∷ xs) (suc place) = some_within xs place ∙ by (ltb place (length xs)) refl where
  by : (b : Bool) → ltb place (length xs) ≡ b → ltb place (length xs) ≡ ltb (suc place) (length (x ∷ xs))
  by true e = let h = lt-ltb (suc place) (length (x ∷ xs)) (omega (arith, ltb-true place (length xs) e)) in e ∙ sym h
  by false e = let h = le-ltb (suc place) (length (x ∷ xs)) (omega (arith, ltb-false place (length xs) e)) in e ∙ sym h
