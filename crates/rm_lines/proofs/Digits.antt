-- The number that decimal digits write.
use Rattle.std.proofs.Common.{◌≡◌, ℕ, ◌+◌, ◌<◌, ◌≤◌, List, length, get_or, drop, Option, Some, None, sym, ap, ◌∙◌}
use Rattle.std.proofs.lemmas.List.{at_drop_more, at_drop_all}
use Rattle.rm_lines.specs.Results.{◌>>=◌}
use Rattle.rm_lines.specs.Numbers.{digit_after, number_after}

-- one digit on
number_after-drop : (number : ℕ) (digits : List ℕ) (place : ℕ) → place < length digits
    → number_after number (drop place digits) ≡ (digit_after number (get_or digits place 0) >>= λ next. number_after next (drop (place + 1) digits))
number_after-drop number digits place h = at_drop_more (number_after number) digits place 0 h

pub digit_read : (number next : ℕ) (digits : List ℕ) (place : ℕ) (total : Option ℕ) → place < length digits → digit_after number (get_or digits place 0) ≡ Some next
    → number_after number (drop place digits) ≡ total → number_after next (drop (place + 1) digits) ≡ total
digit_read number next digits place total h e so_far =
    ap (λ o. o >>= λ n. number_after n (drop (place + 1) digits)) (sym e) ∙ sym (number_after-drop number digits place h) ∙ so_far

pub digit_refused : (number : ℕ) (digits : List ℕ) (place : ℕ) (total : Option ℕ) → place < length digits → digit_after number (get_or digits place 0) ≡ None
    → number_after number (drop place digits) ≡ total → None ≡ total
digit_refused number digits place total h e so_far =
    ap (λ o. o >>= λ n. number_after n (drop (place + 1) digits)) (sym e) ∙ sym (number_after-drop number digits place h) ∙ so_far

pub digits_read : (number : ℕ) (digits : List ℕ) (place : ℕ) (total : Option ℕ) → length digits ≤ place
    → number_after number (drop place digits) ≡ total → Some number ≡ total
digits_read number digits place total h so_far = sym (at_drop_all (number_after number) digits place h) ∙ so_far
