-- Texts that are written one behind the other.
use Rattle.std.proofs.Common.{◌≡◌, ℕ, List, ◌++◌, append_assoc}

-- seven texts stand behind what was written before them, in their order
pub seven_appended : (s₀ s₁ s₂ s₃ s₄ s₅ s₆ s₇ a b c d e f g : List ℕ) → s₁ ≡ s₀ ++ a → s₂ ≡ s₁ ++ b → s₃ ≡ s₂ ++ c → s₄ ≡ s₃ ++ d → s₅ ≡ s₄ ++ e → s₆ ≡ s₅ ++ f → s₇ ≡ s₆ ++ g
    → s₇ ≡ s₀ ++ (a ++ b ++ c ++ d ++ e ++ f ++ g)
seven_appended s₀ s₁ s₂ s₃ s₄ s₅ s₆ s₇ a b c d e f g h₁ h₂ h₃ h₄ h₅ h₆ h₇ = rw (h₇, h₆, h₅, h₄, h₃, h₂, h₁) (simp append_assoc)
