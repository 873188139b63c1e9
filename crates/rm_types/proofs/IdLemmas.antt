-- Ids: the same by their test, and by their parts.
use Rattle.std.proofs.Common.{◌≡◌, ℕ, true, ap, ◌∙◌, arith}
use Rattle.std.proofs.lemmas.Bool.Decides.{nat_tests}
use Rattle.rm_types.specs.declared.ids.AppId.{AppId}
use Rattle.rm_types.specs.declared.ids.AttemptId.{AttemptId}
use Rattle.rm_types.specs.declared.ids.ContainerId.{ContainerId}
use Rattle.rm_types.specs.Ids.{is_app, is_attempt, is_container}

-- an id is itself
pub app_itself : (id : AppId) → is_app id id ≡ true
app_itself id = grind (arith, nat_tests)

pub attempt_itself : (id : AttemptId) → is_attempt id id ≡ true
attempt_itself id = grind (arith, nat_tests)

pub container_itself : (id : ContainerId) → is_container id id ≡ true
container_itself id = grind (arith, nat_tests)

-- two ids that are the same by test are equal
pub same_app : (a b : AppId) → is_app a b ≡ true → a ≡ b
same_app a b h = grind (arith, nat_tests)

pub same_attempt : (a b : AttemptId) → is_attempt a b ≡ true → a ≡ b
same_attempt a b h = grind (arith, nat_tests)

pub same_container : (a b : ContainerId) → is_container a b ≡ true → a ≡ b
same_container a b h = grind (arith, nat_tests)

-- tests of ids are the same both ways
pub app_back : (a b : AppId) → is_app a b ≡ is_app b a
app_back a b = grind (arith, nat_tests)

pub attempt_back : (a b : AttemptId) → is_attempt a b ≡ is_attempt b a
attempt_back a b = grind (arith, nat_tests)

pub container_back : (a b : ContainerId) → is_container a b ≡ is_container b a
container_back a b = grind (arith, nat_tests)

-- ids of equal parts are equal
pub app_of_parts : (a b : AppId) → a.stamp ≡ b.stamp → a.number ≡ b.number → a ≡ b
app_of_parts a b p q =
    let make : ℕ → ℕ → AppId = λ stamp number. record { stamp = stamp; number = number } in
    ap (λ (stamp : ℕ). make stamp a.number) p ∙ ap (make b.stamp) q

pub attempt_of_parts : (a b : AttemptId) → a.app ≡ b.app → a.number ≡ b.number → a ≡ b
attempt_of_parts a b p q =
    let make : AppId → ℕ → AttemptId = λ app number. record { app = app; number = number } in
    ap (λ (app : AppId). make app a.number) p ∙ ap (make b.app) q

pub container_of_parts : (a b : ContainerId) → a.attempt ≡ b.attempt → a.epoch ≡ b.epoch → a.seq ≡ b.seq → a ≡ b
container_of_parts a b p q r =
    let make : AttemptId → ℕ → ℕ → ContainerId = λ attempt epoch seq. record { attempt = attempt; epoch = epoch; seq = seq } in
    ap (λ (attempt : AttemptId). make attempt a.epoch a.seq) p ∙ ap (λ (epoch : ℕ). make b.attempt epoch a.seq) q ∙ ap (make b.attempt b.epoch) r
