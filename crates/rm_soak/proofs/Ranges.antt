-- Numbers in a row, one more of them, and what is made of each.
use Rattle.std.proofs.Common.{◌≡◌, ℕ, zero, suc, ◌+◌, ◌-◌, ◌≤◌, ◌<◌, [], ◌∷◌, ◌++◌, map, sym, ap, ◌∙◌, arith}
use Rattle.std.specs.List.{flat_map, range_with_len, AllByRecursion}
use Rattle.std.proofs.lemmas.List.{append-nil, map-append}
use Rattle.std.proofs.lemmas.List.Concat.{flat_map-append}
use Rattle.rm_soak.specs.Scripts.{app_messages, messages_of, registration, own_segment}

range-suc : (first count : ℕ) → range_with_len first (suc count) ≡ range_with_len first count ++ (first + count) ∷ []
range-suc first zero = ap (λ last. last ∷ []) (omega arith)
range-suc first (suc count) =
    let last : (first + 1) + count ≡ first + suc count = omega arith in
    ap (λ rest. first ∷ rest) (range-suc (first + 1) count ∙ ap (λ x. range_with_len (first + 1) count ++ x ∷ []) last)

-- what is made of each number is in range where that of each number is
pub each-range : {X : Type 0} (P : X → Type 0) (f : ℕ → X) (first count : ℕ) → ((k : ℕ) → first ≤ k → k < first + count → P (f k)) → AllByRecursion P (map f (range_with_len first count))
each-range P f first zero each = tt
each-range P f first (suc count) each = (each first (omega arith) (omega arith), each-range P f (first + 1) count (λ k low high. each k (omega arith) (omega arith)))

apps-suc : (stamp k : ℕ) → messages_of stamp (suc k) ≡ messages_of stamp k ++ app_messages stamp (1 + k)
apps-suc stamp k =
    let numbers = ap (flat_map (app_messages stamp)) (range-suc 1 k) in
    let parts = flat_map-append (app_messages stamp) (range_with_len 1 k) ((1 + k) ∷ []) in
    ap (λ more. registration ∷ more) (numbers ∙ parts ∙ ap (λ last. flat_map (app_messages stamp) (range_with_len 1 k) ++ last) (append-nil (app_messages stamp (1 + k))))

-- the segments of one more application
pub settled-more : (stamp k : ℕ) → 1 ≤ k → map own_segment (messages_of stamp (k - 1)) ++ map own_segment (app_messages stamp k) ≡ map own_segment (messages_of stamp ((k + 1) - 1))
settled-more stamp zero some = absurd (omega arith)
settled-more stamp (suc before) some =
    let less : suc before - 1 ≡ before = omega arith in
    let more : (suc before + 1) - 1 ≡ suc before = omega arith in
    let place : 1 + before ≡ suc before = omega arith in
    ap (λ k. map own_segment (messages_of stamp k) ++ map own_segment (app_messages stamp (suc before))) less
    ∙ sym (map-append own_segment (messages_of stamp before) (app_messages stamp (suc before)))
    ∙ ap (λ k. map own_segment (messages_of stamp before ++ app_messages stamp k)) (sym place)
    ∙ ap (map own_segment) (sym (apps-suc stamp before))
    ∙ ap (λ k. map own_segment (messages_of stamp k)) (sym more)
