-- Bytes that are appended one after another.
use Rattle.std.proofs.Common.{◌≡◌, ℕ, List, ◌++◌, ap, ◌∙◌, append_assoc}

pub appends : (old middle new front back : List ℕ) → middle ≡ old ++ front → new ≡ middle ++ back → new ≡ old ++ (front ++ back)
appends old middle new front back first second = second ∙ ap (λ (l : List ℕ). l ++ back) first ∙ append_assoc old front back
