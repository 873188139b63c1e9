-- The line of a number, and the limit that it breaks.
use Rattle.std.proofs.Common.{◌≡◌, ◌≢◌, ℕ, zero, suc, ◌-◌, ◌<◌, ◌≤◌, ◌⊎◌, inl, inr, Bool, true, false, cond, eqb, List, [], ◌∷◌, length, drop, Some, None, refl, sym, ap, ◌∙◌, arith}
use Rattle.std.specs.Prelude.{slice_get}
use Rattle.std.proofs.lemmas.Bool.Decides.{eqb_tells}
use Rattle.std.proofs.lemmas.List.{length-drop}
use Rattle.std.proofs.lemmas.Option.{slice_get_past}
use Rattle.rm_script.specs.declared.faults.Limit.{Limit}
use Rattle.rm_script.specs.declared.faults.ScriptFault.{ScriptFault}
use Rattle.rm_script.specs.declared.faults.ScriptFault.TheVariants as faults
use Rattle.rm_lines.specs.Lines.{lines_of}
use Rattle.rm_script.specs.Faults.{line_at, IsOtherFault}
use Rattle.rm_script.proofs.Loop.{IsCut}

-- what stands first behind so many elements is the one at that place
first_behind : {X : Type 0} (count : ℕ) (xs : List X) (x : X) (more : List X) → drop count xs ≡ x ∷ more → slice_get xs count ≡ Some x
first_behind zero [] x more e = absurd cc
first_behind zero (first ∷ xs) x more e = ap Some (let same : first ≡ x = cc in same)
first_behind (suc count) [] x more e = absurd cc
first_behind (suc count) (first ∷ xs) x more e = first_behind count xs x more e

-- a line that stands behind so many
pub line_found : (line count : ℕ) (bytes text : List ℕ) (more : List (List ℕ)) → 0 < line → count ≡ line - 1 → drop count (lines_of bytes) ≡ text ∷ more → line_at line bytes ≡ Some text
line_found line count bytes text more some same behind = by (eqb_tells line 0)
  where
    by : ((eqb line 0 ≡ true) × (line ≡ 0)) ⊎ ((eqb line 0 ≡ false) × (line ≢ 0)) → line_at line bytes ≡ Some text
    by (inl none) = absurd (omega (arith, none.1))
    by (inr other_is) =
        ap (λ (b : Bool). cond b None (slice_get (lines_of bytes) (line - 1))) other_is.0
        ∙ ap (slice_get (lines_of bytes)) (sym same) ∙ first_behind count (lines_of bytes) text more behind

-- and one past the last
pub line_past : (line : ℕ) (bytes : List ℕ) → length (lines_of bytes) ≤ line - 1 → line_at line bytes ≡ None
line_past line bytes past =
    elim (eqb line 0) as (λ b. cond b None (slice_get (lines_of bytes) (line - 1)) ≡ None) [ true ↦ refl | false ↦ slice_get_past (lines_of bytes) (line - 1) past ]

-- where no byte is left, no more lines are than were passed
pub passed_all : (count : ℕ) (bytes rest : List ℕ) → IsCut count bytes rest → rest ≡ [] → length (lines_of bytes) ≤ count
passed_all count bytes rest is none =
    let left : drop count (lines_of bytes) ≡ [] = sym is.left ∙ ap lines_of none in
    omega (arith, length-drop count (lines_of bytes), ap length left)

-- a limit is told exactly where it is broken

other : (fault : ScriptFault) (limit : Limit) → IsOtherFault fault → fault ≡ faults.Limit limit → ⊥
other (faults.Limit told) limit is e = is
other (faults.Line form fault) limit is e = cc
other faults.LifeGoesOn limit is e = cc
other (faults.NoLife form) limit is e = cc
other faults.Unclosed limit is e = cc
other (faults.Untold form) limit is e = cc
