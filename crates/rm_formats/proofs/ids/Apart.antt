-- Two ids of one kind that have one text are equal.
use Rattle.std.proofs.Common.{◌≡◌, ℕ, ◌-◌, ◌^◌, ◌<◌, List, [], ◌∷◌, ◌++◌, sym, ap, ◌∙◌, arith, inl, inr}
use Rattle.std.specs.Prelude.{codes}
use Rattle.std.proofs.lemmas.Bool.{cases_lt}
use Rattle.std.proofs.lemmas.List.{append_cancel_left}
use Rattle.rm_types.specs.declared.ids.AppId.{AppId}
use Rattle.rm_types.specs.declared.ids.AttemptId.{AttemptId}
use Rattle.rm_types.specs.declared.ids.ContainerId.{ContainerId}
use Rattle.rm_formats.specs.IdTexts.{padded, app_text, attempt_text, container_text}
use Rattle.rm_types.specs.Ranges.{IsWithin, IsAppId, IsAttemptId, IsContainerId}
use Rattle.rm_types.proofs.IdLemmas.{container_of_parts, attempt_of_parts, app_of_parts}
use Rattle.rm_formats.specs.declared.ids.parts.Part.{Part}
use Rattle.rm_formats.specs.declared.ids.parts.Part.TheVariants.{Stamp, AppNumber, AttemptNumber, AttemptInContainer, Epoch, Sequence}
use Rattle.rm_formats.specs.ids.Parts.{least_digits, greatest}
use Rattle.rm_formats.specs.ids.Digits.{value_of}
use Rattle.rm_formats.specs.ids.Spelling.{app_then, container_numbers_text, epoch_then}
use Rattle.rm_formats.proofs.ids.Digits.{heads_alike, LacksDigit, digits_alike, value_of-padded}
use Rattle.rm_formats.proofs.ids.Numerals.{fits}
use Rattle.rm_formats.proofs.ids.Refusals.{no_digit, number_digits}
use Rattle.rm_formats.proofs.ids.Texts.{app_spelled, attempt_spelled, container_spelled, grant_fields, epoch_shown, no_stamp}

-- ---- parts that begin the same bytes are equal, and so is what follows

number_alike : (part : Part) (m n : ℕ) (x y : List ℕ) → IsWithin 1 (greatest part) m → IsWithin 1 (greatest part) n → LacksDigit x → LacksDigit y
    → padded (least_digits part) m ++ x ≡ padded (least_digits part) n ++ y → (m ≡ n) × (x ≡ y)
number_alike part m n x y within_m within_n lacks_x lacks_y e =
    let same = digits_alike (padded (least_digits part) m) (padded (least_digits part) n) x y (number_digits part m within_m) (number_digits part n within_n) lacks_x lacks_y e in
    let small_m : m < 2 ^ 64 = omega (arith, within_m.1, fits part) in
    let small_n : n < 2 ^ 64 = omega (arith, within_n.1, fits part) in
    (sym (value_of-padded (least_digits part) m small_m) ∙ ap value_of same.0 ∙ value_of-padded (least_digits part) n small_n, same.1)

app_alike : (a b : AppId) (x y : List ℕ) → IsAppId a → IsAppId b → LacksDigit x → LacksDigit y → app_then a x ≡ app_then b y → (a ≡ b) × (x ≡ y)
app_alike a b x y is_a is_b lacks_x lacks_y e =
    let first = heads_alike 95 95 (padded 1 a.stamp ++ (95 ∷ (padded 4 a.number ++ x))) (padded 1 b.stamp ++ (95 ∷ (padded 4 b.number ++ y))) e in
    let stamp = number_alike Stamp a.stamp b.stamp (95 ∷ (padded 4 a.number ++ x)) (95 ∷ (padded 4 b.number ++ y)) is_a.stamp is_b.stamp no_digit no_digit first.1 in
    let second = heads_alike 95 95 (padded 4 a.number ++ x) (padded 4 b.number ++ y) stamp.1 in
    let number = number_alike AppNumber a.number b.number x y is_a.number is_b.number lacks_x lacks_y second.1 in
    (app_of_parts a b stamp.0 number.0, number.1)

grant_alike : (a b : AttemptId) (m n : ℕ) → IsAttemptId a → IsAttemptId b → IsWithin 1 (2 ^ 40 - 1) m → IsWithin 1 (2 ^ 40 - 1) n → container_numbers_text a m ≡ container_numbers_text b n → (a ≡ b) × (m ≡ n)
grant_alike a b m n is_a is_b within_m within_n e =
    let app = app_alike a.app b.app (95 ∷ (padded 2 a.number ++ (95 ∷ (padded 6 m ++ [])))) (95 ∷ (padded 2 b.number ++ (95 ∷ (padded 6 n ++ [])))) is_a.app is_b.app no_digit no_digit e in
    let first = heads_alike 95 95 (padded 2 a.number ++ (95 ∷ (padded 6 m ++ []))) (padded 2 b.number ++ (95 ∷ (padded 6 n ++ []))) app.1 in
    let number = number_alike AttemptInContainer a.number b.number (95 ∷ (padded 6 m ++ [])) (95 ∷ (padded 6 n ++ [])) is_a.number is_b.number no_digit no_digit first.1 in
    let second = heads_alike 95 95 (padded 6 m ++ []) (padded 6 n ++ []) number.1 in
    let seq = number_alike Sequence m n [] [] within_m within_n tt tt second.1 in
    (attempt_of_parts a b app.0 number.0, seq.0)

-- ---- ids

pub apps_apart : (a b : AppId) → IsAppId a → IsAppId b → app_text a ≡ app_text b → a ≡ b
apps_apart a b is_a is_b e =
    let spelled : codes "application" ++ app_then a [] ≡ codes "application" ++ app_then b [] = sym (app_spelled a is_a) ∙ e ∙ app_spelled b is_b in
    (app_alike a b [] [] is_a is_b tt tt (append_cancel_left (codes "application") (app_then a []) (app_then b []) spelled)).0

pub attempts_apart : (a b : AttemptId) → IsAttemptId a → IsAttemptId b → attempt_text a ≡ attempt_text b → a ≡ b
attempts_apart a b is_a is_b e =
    let behind : AttemptId → List ℕ = λ id. 95 ∷ (padded 6 id.number ++ []) in
    let spelled : codes "appattempt" ++ app_then a.app (behind a) ≡ codes "appattempt" ++ app_then b.app (behind b) = sym (attempt_spelled a is_a) ∙ e ∙ attempt_spelled b is_b in
    let app = app_alike a.app b.app (behind a) (behind b) is_a.app is_b.app no_digit no_digit (append_cancel_left (codes "appattempt") (app_then a.app (behind a)) (app_then b.app (behind b)) spelled) in
    let bar = heads_alike 95 95 (padded 6 a.number ++ []) (padded 6 b.number ++ []) app.1 in
    let number = number_alike AttemptNumber a.number b.number [] [] is_a.number is_b.number tt tt bar.1 in
    attempt_of_parts a b app.0 number.0

epochs_alike : (m n : ℕ) (a b : ContainerId) → IsWithin 0 (2 ^ 24 - 1) m → IsWithin 0 (2 ^ 24 - 1) n → IsContainerId a → IsContainerId b
    → epoch_then m (container_numbers_text a.attempt a.seq) ≡ epoch_then n (container_numbers_text b.attempt b.seq) → (m ≡ n) × (container_numbers_text a.attempt a.seq ≡ container_numbers_text b.attempt b.seq)
epochs_alike m n a b within_m within_n is_a is_b e =
    let x : List ℕ = container_numbers_text a.attempt a.seq in
    let y : List ℕ = container_numbers_text b.attempt b.seq in
    elim (cases_lt 0 m) [
      | inl some_m ↦ elim (cases_lt 0 n) [
        | inl some_n ↦
            let shown : codes "_e" ++ (padded 2 m ++ x) ≡ codes "_e" ++ (padded 2 n ++ y) = sym (epoch_shown m x some_m) ∙ e ∙ epoch_shown n y some_n in
            number_alike Epoch m n x y (some_m, within_m.1) (some_n, within_n.1) no_digit no_digit (append_cancel_left (codes "_e") (padded 2 m ++ x) (padded 2 n ++ y) shown)
        | inr none_n ↦
            let zero_n : n ≡ 0 = omega arith in
            let mixed : y ≡ codes "_e" ++ (padded 2 m ++ x) = sym (ap (λ k. epoch_then k y) zero_n) ∙ sym e ∙ epoch_shown m x some_m in
            absurd (no_stamp y (padded 2 m ++ x) mixed (grant_fields b.attempt b.seq is_b.attempt is_b.seq))
      ]
      | inr none_m ↦ elim (cases_lt 0 n) [
        | inl some_n ↦
            let zero_m : m ≡ 0 = omega arith in
            let mixed : x ≡ codes "_e" ++ (padded 2 n ++ y) = sym (ap (λ k. epoch_then k x) zero_m) ∙ e ∙ epoch_shown n y some_n in
            absurd (no_stamp x (padded 2 n ++ y) mixed (grant_fields a.attempt a.seq is_a.attempt is_a.seq))
        | inr none_n ↦
            let zero_m : m ≡ 0 = omega arith in
            let zero_n : n ≡ 0 = omega arith in
            (omega arith, sym (ap (λ k. epoch_then k x) zero_m) ∙ e ∙ ap (λ k. epoch_then k y) zero_n)
      ]
    ]

pub containers_apart : (a b : ContainerId) → IsContainerId a → IsContainerId b → container_text a ≡ container_text b → a ≡ b
containers_apart a b is_a is_b e =
    let x : List ℕ = epoch_then a.epoch (container_numbers_text a.attempt a.seq) in
    let y : List ℕ = epoch_then b.epoch (container_numbers_text b.attempt b.seq) in
    let spelled : codes "container" ++ x ≡ codes "container" ++ y = sym (container_spelled a is_a) ∙ e ∙ container_spelled b is_b in
    let epoch = epochs_alike a.epoch b.epoch a b is_a.epoch is_b.epoch is_a is_b (append_cancel_left (codes "container") x y spelled) in
    let grant = grant_alike a.attempt b.attempt a.seq b.seq is_a.attempt is_b.attempt is_a.seq is_b.seq epoch.1 in
    container_of_parts a b grant.0 epoch.0 grant.1
