-- What falls away at the front.
use Rattle.rm_invariant.proofs.Common.{◌≡◌, List, [], ◌∷◌, ◌++◌, Bool, true, false, refl, Undone, without_idle}

-- what was idle stays idle, of each in the list
abbrev pub Stays : (Undone → Bool) → (Undone → Bool) → List Undone → Type 0
Stays idle later [] = Unit {0}
Stays idle later (x ∷ xs) = (idle x ≡ true → later x ≡ true) × Stays idle later xs

pub stays_all : (idle later : Undone → Bool) (xs : List Undone) → ((x : Undone) → idle x ≡ true → later x ≡ true) → Stays idle later xs
stays_all idle later [] stays = tt
stays_all idle later (x ∷ xs) stays = (stays x, stays_all idle later xs stays)

end_more : (idle later : Undone → Bool) (x : Undone) (xs ys : List Undone) (b : Bool) → idle x ≡ b → (idle x ≡ true → later x ≡ true)
    → without_idle later (without_idle idle xs ++ ys) ≡ without_idle later (xs ++ ys) → without_idle later (without_idle idle (x ∷ xs) ++ ys) ≡ without_idle later ((x ∷ xs) ++ ys)
end_more idle later x xs ys true e stays h = rw (e, stays e) h
end_more idle later x xs ys false e stays h = rw e refl

-- more comes at the end
pub fall_end : (idle later : Undone → Bool) (xs ys : List Undone) → Stays idle later xs → without_idle later (without_idle idle xs ++ ys) ≡ without_idle later (xs ++ ys)
fall_end idle later [] ys stays = refl
fall_end idle later (x ∷ xs) ys stays = end_more idle later x xs ys (idle x) refl stays.0 (fall_end idle later xs ys stays.1)

again_more : (idle later : Undone → Bool) (x : Undone) (xs : List Undone) (b : Bool) → idle x ≡ b → (idle x ≡ true → later x ≡ true)
    → without_idle later (without_idle idle xs) ≡ without_idle later xs → without_idle later (without_idle idle (x ∷ xs)) ≡ without_idle later (x ∷ xs)
again_more idle later x xs true e stays h = rw (e, stays e) h
again_more idle later x xs false e stays h = rw e refl

-- more becomes idle
pub fall_again : (idle later : Undone → Bool) (xs : List Undone) → Stays idle later xs → without_idle later (without_idle idle xs) ≡ without_idle later xs
fall_again idle later [] stays = refl
fall_again idle later (x ∷ xs) stays = again_more idle later x xs (idle x) refl stays.0 (fall_again idle later xs stays.1)
