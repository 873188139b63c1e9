-- Bytes that are given anew by place.
use Rattle.std.proofs.Common.{◌≡◌, ◌⊎◌, inl, inr, ℕ, ◌+◌, ◌-◌, ◌<◌, ◌≤◌, Bool, true, false, List, length, get_or, set, take, drop, refl, sym, ◌∙◌, ap, arith, zero-add, length-drop}
use Rattle.std.specs.Prelude.{◌||◌, nat_le, nat_lt, if◌then◌else◌}
use Rattle.std.specs.List.{enumerate_from}
use Rattle.std.proofs.lemmas.Bool.{cases_lt, cases_Bool, and_parts, and_from, le-leb, leb-true, lt-ltb, ltb-true}
use Rattle.std.proofs.lemmas.List.{length-map, get_or-map, ext_get_or, length-set, length-take, get_or-take, get_or-drop, get_or-set_same, get_or-set_other}
use Rattle.std.proofs.lemmas.List.FromFn.{length-enumerate_from, get_or-enumerate_from}
use Rattle.rm_disk.specs.Disk.{put}
use Rattle.rm_disk.specs.Memory.{is_within, renewed}
use Rattle.rm_disk.proofs.Puts.{length-put, before-put, inside-put, after-put}

-- A choice whose test is known.
pub if_true : (t : Bool) (x y : ℕ) → t ≡ true → (if t then x else y) ≡ x
if_true t x y is = ap (λ (b : Bool). if b then x else y) is

pub if_false : (t : Bool) (x y : ℕ) → t ≡ false → (if t then x else y) ≡ y
if_false t x y is = ap (λ (b : Bool). if b then x else y) is

pub inside : (first end place : ℕ) → first ≤ place → place < end → is_within first end place ≡ true
inside first end place low high = and_from (nat_le first place) (nat_lt place end) (le-leb first place low) (lt-ltb place end high)

pub within_parts : (first end place : ℕ) → is_within first end place ≡ true → (first ≤ place) × (place < end)
within_parts first end place is =
    let parts = and_parts (nat_le first place) (nat_lt place end) is in
    (leb-true first place parts.0, ltb-true place end parts.1)

pub outside : (first end place : ℕ) → (place < first) ⊎ (end ≤ place) → is_within first end place ≡ false
outside first end place out = elim (cases_Bool (is_within first end place)) [
  | inl is ↦
      let parts = within_parts first end place is in
      elim out [
        | inl low ↦ absurd (omega (arith, low, parts.0))
        | inr high ↦ absurd (omega (arith, high, parts.1))
      ]
  | inr ne ↦ ne
]

module _ (passes : ℕ → Bool) (byte : ℕ → ℕ) (old : List ℕ) where
  pub length-renewed : length (renewed passes byte old) ≡ length old
  length-renewed = length-map (enumerate_from 0 old) (λ at. if passes at.0 then byte at.0 else at.1) ∙ length-enumerate_from 0 old

  pub get_or-renewed : (place : ℕ) → place < length old → get_or (renewed passes byte old) place 0 ≡ (if passes place then byte place else get_or old place 0)
  get_or-renewed place lt =
      let change : ℕ × ℕ → ℕ = λ at. if passes at.0 then byte at.0 else at.1 in
      get_or-map change (enumerate_from 0 old) place (0, 0) 0 (omega (arith, length-enumerate_from 0 old))
      ∙ ap change (get_or-enumerate_from 0 old place (0, 0) lt)
      ∙ ap (λ (k : ℕ). if passes k then byte k else get_or old place 0) (zero-add place)

  -- Bytes that are right at each place.
  pub renewed_is : (new : List ℕ) → length new ≡ length old → ((place : ℕ) → place < length old → get_or new place 0 ≡ (if passes place then byte place else get_or old place 0)) → new ≡ renewed passes byte old
  renewed_is new size each =
      ext_get_or 0 new (renewed passes byte old) (size ∙ sym length-renewed) (λ place lt. let within : place < length old = omega (arith, size) in each place within ∙ sym (get_or-renewed place within))

-- Bytes that already are what they are to become.
pub renewed_same : (passes : ℕ → Bool) (byte : ℕ → ℕ) (old : List ℕ) → ((place : ℕ) → place < length old → passes place ≡ true → byte place ≡ get_or old place 0) → renewed passes byte old ≡ old
renewed_same passes byte old same =
    sym (renewed_is passes byte old old refl (λ place lt. elim (cases_Bool (passes place)) [
      | inl is ↦ sym (same place lt is) ∙ sym (if_true (passes place) (byte place) (get_or old place 0) is)
      | inr ne ↦ sym (if_false (passes place) (byte place) (get_or old place 0) ne)
    ]))

-- Two tests, one after the other.
pub renewed_twice : (one two both : ℕ → Bool) (byte : ℕ → ℕ) (old : List ℕ) → ((place : ℕ) → both place ≡ (one place || two place)) → renewed two byte (renewed one byte old) ≡ renewed both byte old
renewed_twice one two both byte old is_both =
    let mid = renewed one byte old in
    renewed_is both byte old (renewed two byte mid) (length-renewed two byte mid ∙ length-renewed one byte old) (λ place lt.
    get_or-renewed two byte mid place (omega (arith, length-renewed one byte old))
    ∙ ap (λ (x : ℕ). if two place then byte place else x) (get_or-renewed one byte old place lt)
    ∙ choice (one place) (two place) (byte place) (get_or old place 0)
    ∙ ap (λ (t : Bool). if t then byte place else get_or old place 0) (sym (is_both place)))
  where
    choice : (s t : Bool) (x y : ℕ) → (if t then x else (if s then x else y)) ≡ (if (s || t) then x else y)
    choice true true x y = refl
    choice true false x y = refl
    choice false true x y = refl
    choice false false x y = refl

-- A range that is copied.
pub put_range : (first end : ℕ) (from old : List ℕ) → length from ≡ length old → first ≤ end → end ≤ length old → put first (take (end - first) (drop first from)) old ≡ renewed (is_within first end) (λ place. get_or from place 0) old
put_range first end from old size order within =
    let piece = take (end - first) (drop first from) in
    let many : length piece ≡ end - first = length-take-exact in
    let fits : first + length piece ≤ length old = omega (arith, many) in
    renewed_is (is_within first end) (λ place. get_or from place 0) old (put first piece old) (length-put first piece old fits) (λ place lt.
    elim (cases_lt place first) [
      | inl low ↦
          before-put first piece old fits place low
          ∙ sym (if_false (is_within first end place) (get_or from place 0) (get_or old place 0) (outside first end place (inl low)))
      | inr low ↦ elim (cases_lt place end) [
        | inl high ↦
            let back : first + (place - first) ≡ place = omega arith in
            inside-put first piece old fits place low (omega (arith, many))
            ∙ get_or-take (end - first) (drop first from) (place - first) 0 (omega arith)
            ∙ get_or-drop first from (place - first) 0
            ∙ ap (λ (k : ℕ). get_or from k 0) back
            ∙ sym (if_true (is_within first end place) (get_or from place 0) (get_or old place 0) (inside first end place low high))
        | inr high ↦
            after-put first piece old fits place (omega (arith, many))
            ∙ sym (if_false (is_within first end place) (get_or from place 0) (get_or old place 0) (outside first end place (inr high)))
      ]
    ])
  where
    length-take-exact : length (take (end - first) (drop first from)) ≡ end - first
    length-take-exact = simp (length-take, length-drop) (omega (arith, size))

-- A range that is filled place by place.
pub none_renewed : (first : ℕ) (byte : ℕ → ℕ) (old : List ℕ) → old ≡ renewed (is_within first first) byte old
none_renewed first byte old = sym (renewed_same (is_within first first) byte old (λ place lt is. let parts = within_parts first first place is in absurd (omega (arith, parts.0, parts.1))))

pub renewed_more : (first place : ℕ) (byte : ℕ → ℕ) (old : List ℕ) → first ≤ place → place < length old → set (renewed (is_within first place) byte old) place (byte place) ≡ renewed (is_within first (place + 1)) byte old
renewed_more first here byte old order within =
    let mid = renewed (is_within first here) byte old in
    let size : length mid ≡ length old = length-renewed (is_within first here) byte old in
    renewed_is (is_within first (here + 1)) byte old (set mid here (byte here)) (length-set mid here (byte here) ∙ size) (λ place lt.
    elim (cases_lt place here) [
      | inl low ↦
          get_or-set_other mid here place (byte here) 0 (λ same. omega (arith, same))
          ∙ get_or-renewed (is_within first here) byte old place lt
          ∙ ap (λ (t : Bool). if t then byte place else get_or old place 0) (same_below place low)
      | inr low ↦ elim (cases_lt here place) [
        | inl past ↦
            get_or-set_other mid here place (byte here) 0 (λ same. omega (arith, same))
            ∙ get_or-renewed (is_within first here) byte old place lt
            ∙ if_false (is_within first here place) (byte place) (get_or old place 0) (outside first here place (inr low))
            ∙ sym (if_false (is_within first (here + 1) place) (byte place) (get_or old place 0) (outside first (here + 1) place (inr (omega arith))))
        | inr high ↦
            let is : place ≡ here = omega arith in
            ap (λ (k : ℕ). get_or (set mid here (byte here)) k 0) is
            ∙ get_or-set_same mid here (byte here) 0 (omega (arith, size))
            ∙ ap byte (sym is)
            ∙ sym (if_true (is_within first (here + 1) place) (byte place) (get_or old place 0) (inside first (here + 1) place (omega arith) (omega arith)))
      ]
    ])
  where
    same_below : (place : ℕ) → place < here → is_within first here place ≡ is_within first (here + 1) place
    same_below place low = elim (cases_lt place first) [
      | inl before ↦ outside first here place (inl before) ∙ sym (outside first (here + 1) place (inl before))
      | inr from ↦ inside first here place from low ∙ sym (inside first (here + 1) place from (omega arith))
    ]
