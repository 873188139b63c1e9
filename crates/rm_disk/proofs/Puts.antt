-- Bytes with others put over them.
use Rattle.std.proofs.Common.{◌≡◌, ℕ, ◌+◌, ◌-◌, ◌<◌, ◌≤◌, List, [], ◌∷◌, ◌++◌, length, get_or, take, drop, refl, sym, ◌∙◌, ap, arith, append_assoc, length-append, length-drop}
use Rattle.std.proofs.lemmas.List.{length-take, length-take-le, take_at, take-take, drop_at, drop-take, get_or_at, get_or_append_left, get_or-append_right, get_or-take, get_or-drop}
use Rattle.rm_disk.specs.Disk.{put, SameElsewhere}

module _ (at : ℕ) (bytes old : List ℕ) (fits : at + length bytes ≤ length old) where
  front : length (take at old) ≡ at
  front = length-take-le at old (omega arith)

  both : length (take at old ++ bytes) ≡ at + length bytes
  both = simp (length-append, front) refl

  pub length-put : length (put at bytes old) ≡ length old
  length-put = simp (length-append, length-drop, front) (omega arith)

  pub take-put : take at (put at bytes old) ≡ take at old
  take-put = rw (append_assoc) (take_at (take at old) (bytes ++ drop (at + length bytes) old) at front)

  pub drop_inside-put : drop at (put at bytes old) ≡ bytes ++ drop (at + length bytes) old
  drop_inside-put = rw (append_assoc) (drop_at (take at old) (bytes ++ drop (at + length bytes) old) at front)

  pub drop-put : drop (at + length bytes) (put at bytes old) ≡ drop (at + length bytes) old
  drop-put = drop_at (take at old ++ bytes) (drop (at + length bytes) old) (at + length bytes) both

  pub put_elsewhere : SameElsewhere at (length bytes) old (put at bytes old)
  put_elsewhere = record { before = take-put; after = drop-put; size = length-put }

  -- Each byte of the result.
  pub before-put : (place : ℕ) → place < at → get_or (put at bytes old) place 0 ≡ get_or old place 0
  before-put place low =
      get_or_append_left (take at old ++ bytes) (drop (at + length bytes) old) 0 place (omega (arith, both))
      ∙ get_or_append_left (take at old) bytes 0 place (omega (arith, front))
      ∙ get_or-take at old place 0 low

  pub inside-put : (place : ℕ) → at ≤ place → place < at + length bytes → get_or (put at bytes old) place 0 ≡ get_or bytes (place - at) 0
  inside-put place low high =
      get_or_append_left (take at old ++ bytes) (drop (at + length bytes) old) 0 place (omega (arith, both))
      ∙ get_or-append_right (take at old) bytes at place 0 front low

  pub after-put : (place : ℕ) → at + length bytes ≤ place → get_or (put at bytes old) place 0 ≡ get_or old place 0
  after-put place high =
      let back : at + length bytes + (place - (at + length bytes)) ≡ place = omega arith in
      get_or-append_right (take at old ++ bytes) (drop (at + length bytes) old) (at + length bytes) place 0 both high
      ∙ get_or-drop (at + length bytes) old (place - (at + length bytes)) 0
      ∙ ap (λ (k : ℕ). get_or old k 0) back

pub get_or-put : (at x : ℕ) (old : List ℕ) → at + 1 ≤ length old → get_or (put at (x ∷ []) old) at 0 ≡ x
get_or-put at x old fits = rw (append_assoc) (get_or_at (take at old) x (drop (at + 1) old) 0 at (length-take-le at old (omega arith)))
